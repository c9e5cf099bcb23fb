-- A list that is read in order: one item more, a fault, and the end.
use Rattle.std.proofs.Common.{◌≡◌, ◌∙◌, refl, sym, ap, ℕ, ◌+◌, ◌<◌, ◌≤◌, List, [], ◌∷◌, ◌++◌, length, get_or, drop}
use Rattle.std.proofs.Math.ListN.{drop_of_length-le}
use Rattle.std.proofs.lemmas.List.{drop_more}
use Rattle.std.specs.Prelude.{Result, Ok, Err}
use Rattle.type_rules.specs.Reading.{Read, Good, Bad, Rule, and_then}
use Rattle.type_rules.specs.Seen.{Seen}
use Rattle.type_recursion.proofs.Continued.{then_good, then_bad}
use Rattle.c_tree.specs.declared.expressions.Expr.{Expr}
use Rattle.type_recursion.specs.Answers.{GivesInto}
use Rattle.type_recursion.specs.Lists.{in_order, argument}
use Rattle.type_rules.specs.Operands.{operand}
use Rattle.type_rules.specs.Recursion.{expression}
use Rattle.type_rules.specs.declared.found.Operand.{Operand}
use Rattle.typing_state.specs.Answers.{Gives}
use Rattle.typing_state.specs.declared.stop.Stop.{Stop}
use Rattle.typing_state.specs.declared.stop.Stop.TheVariants as stop

here : {A : Type 0} (xs : List A) (i : ℕ) (x : A) → i < length xs → x ≡ get_or xs i x → drop i xs ≡ x ∷ drop (i + 1) xs
here xs i x below is = drop_more xs i x below ∙ ap (λ y. y ∷ drop (i + 1) xs) (sym is)

split : {A B : Type 0} (step : A → B → Rule B) (xs : List A) (i : ℕ) (x : A) (b : B) (s : Seen) (whole : Read B) → i < length xs → x ≡ get_or xs i x →
    whole ≡ in_order step (drop i xs) b s → whole ≡ and_then (step x b s) (λ next. in_order step (drop (i + 1) xs) next)
unfolding in_order
split step xs i x b s whole below is so_far = so_far ∙ ap (λ ys. in_order step ys b s) (here xs i x below is)

pub order-more : {A B : Type 0} (step : A → B → Rule B) (xs : List A) (i : ℕ) (x : A) (b c : B) (s t : Seen) (whole : Read B) →
    i < length xs → x ≡ get_or xs i x → whole ≡ in_order step (drop i xs) b s → step x b s ≡ Good c t → whole ≡ in_order step (drop (i + 1) xs) c t
order-more step xs i x b c s t whole below is so_far good =
    split step xs i x b s whole below is so_far ∙ then_good (step x b s) _ c t good

pub order-stop : {A B : Type 0} (step : A → B → Rule B) (xs : List A) (i : ℕ) (x : A) (b : B) (s t u : Seen) (whole : Read B) (why : Stop) →
    i < length xs → x ≡ get_or xs i x → whole ≡ in_order step (drop i xs) b s → Gives (step x b s) (Err why) t → Gives whole (Err why) u
order-stop step xs i x b s t u whole (stop.Fault number place) below is so_far bad =
    split step xs i x b s whole below is so_far ∙ then_bad (step x b s) _ number place bad
order-stop step xs i x b s t u whole stop.NoMemory below is so_far bad = tt

pub order-end : {A B : Type 0} (step : A → B → Rule B) (xs : List A) (i : ℕ) (b : B) (s : Seen) (whole : Read B) →
    length xs ≤ i → whole ≡ in_order step (drop i xs) b s → whole ≡ Good b s
unfolding in_order
order-end step xs i b s whole past so_far = so_far ∙ ap (λ ys. in_order step ys b s) (drop_of_length-le xs past)

-- an argument of a call, which is put behind those before it
pub argument-good : (e : Expr) (given all : List Operand) (o : Operand) (s t : Seen) → operand (expression e) s ≡ Good o t → all ≡ given ++ o ∷ [] →
    argument e given s ≡ Good all t
unfolding argument
argument-good e given all o s t good grown = then_good (operand (expression e) s) _ o t good ∙ ap (λ g. Good g t) (sym grown)

pub argument-bad : (e : Expr) (given : List Operand) (s t u : Seen) (why : Stop) → Gives (operand (expression e) s) (Err why) t → Gives (argument e given s) (Err why) u
unfolding argument
argument-bad e given s t u (stop.Fault number place) bad = then_bad (operand (expression e) s) _ number place bad
argument-bad e given s t u stop.NoMemory bad = tt

pub into-stop : {A : Type 0} (U : Type 0) (whole : Read A) (why : Stop) (a : A) (t u : Seen) → Gives whole (Err why) t → GivesInto {U = U} whole (Err why) a u
into-stop U whole (stop.Fault number place) a t u bad = bad
into-stop U whole stop.NoMemory a t u bad = tt
