-- The prefixes of a stack that is walked step by step.
use Rattle.std.proofs.Common.{◌≡◌, ℕ, ◌≤◌, Bool, true, false, List, [], ◌∷◌, ◌++◌, map, length, refl, sym, ap, ◌∙◌}
use Rattle.std.specs.Prelude.{fold, ◌&&◌}
use Rattle.std.specs.List.{list_all}
use Rattle.std.proofs.lemmas.List.{map-append}
use Rattle.std.proofs.lemmas.List.Folds.{list_all-append}
use Rattle.std.proofs.lemmas.List.Sums.{fold-append}
use Rattle.ctx_set.specs.declared.steps.StackStep.{StackStep}
use Rattle.reports.specs.Prefixes.{prefixes, has}
use Rattle.prefix_table.proofs.Firsts.{entered, fold_full}

map_same : {A : Type 0} (xs : List A) → map (λ (x : A). x) xs ≡ xs
map_same [] = refl
map_same (x ∷ xs) = ap (λ ys. x ∷ ys) (map_same xs)

map_twice : {A B C : Type 0} (g : B → C) (f : A → B) (xs : List A) → map g (map f xs) ≡ map (λ (x : A). g (f x)) xs
map_twice g f [] = refl
map_twice g f (x ∷ xs) = ap (λ ys. g (f x) ∷ ys) (map_twice g f xs)

-- the prefixes of a stack in two parts
pub prefixes_split : (xs ys : List StackStep) → prefixes (xs ++ ys) ≡ prefixes xs ++ map (λ (q : List StackStep). xs ++ q) (prefixes ys)
prefixes_split [] ys = sym (map_same (prefixes ys))
prefixes_split (x ∷ xs) ys =
    let on : List StackStep → List StackStep = λ q. x ∷ q in
    ap (λ ps. (x ∷ []) ∷ map on ps) (prefixes_split xs ys)
    ∙ ap (λ ps. (x ∷ []) ∷ ps) (map-append on (prefixes xs) (map (λ (q : List StackStep). xs ++ q) (prefixes ys)) ∙ ap (λ ps. map on (prefixes xs) ++ ps) (map_twice on (λ (q : List StackStep). xs ++ q) (prefixes ys)))

and_false : (a b : Bool) → b ≡ false → (a && b) ≡ false
and_false true b e = e
and_false false b e = refl

-- A prefix that isn't held, where there is no room: the stack is refused, and what is held stays.
pub refused_here : (held : List (List StackStep)) (xs : List StackStep) (x : StackStep) (rest : List StackStep) → has held (xs ++ x ∷ []) ≡ false → list_all (has held) (prefixes (xs ++ x ∷ rest)) ≡ false
refused_here held xs x rest e =
    ap (list_all (has held)) (prefixes_split xs (x ∷ rest))
    ∙ list_all-append (has held) (prefixes xs) _
    ∙ and_false (list_all (has held) (prefixes xs)) _ (rw e refl)

pub held_here : (n : ℕ) (start held : List (List StackStep)) (xs ys : List StackStep) → held ≡ fold (entered n) start (prefixes xs) → n ≤ length held → fold (entered n) start (prefixes (xs ++ ys)) ≡ held
held_here n start held xs ys e full =
    ap (fold (entered n) start) (prefixes_split xs ys)
    ∙ fold-append (entered n) start (prefixes xs) (map (λ (q : List StackStep). xs ++ q) (prefixes ys))
    ∙ ap (λ h. fold (entered n) h (map (λ (q : List StackStep). xs ++ q) (prefixes ys))) (sym e)
    ∙ fold_full n held (map (λ (q : List StackStep). xs ++ q) (prefixes ys)) full
