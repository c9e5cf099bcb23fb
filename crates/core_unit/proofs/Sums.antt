-- Sums as far as 32 bits tell them, and the nodes of an update.
use Rattle.std.proofs.Common.{◌≡◌, ◌∙◌, refl, sym, ap, ℕ, ◌+◌, ◌^◌, ◌-◌, ◌<◌, min, true, arith, List, [], ◌∷◌, ◌++◌, length, take, get_or}
use Rattle.std.proofs.lemmas.List.{take_more}
use Rattle.eff_types.specs.declared.types.CType as form
use Rattle.eff_types.specs.declared.types.CType.{CType}
use Rattle.core_unit.specs.Layout.{told}
use Rattle.core_unit.specs.Nodes.{conversions, nodes, arguments_nodes, initializer_nodes, listed_nodes, stmt_nodes, list_nodes, begun_nodes}
use Rattle.core_unit.specs.Shapes.{is_aggregate}
use Rattle.core_unit.specs.declared.body.Stmt as form_of
use Rattle.core_unit.specs.declared.body.Stmt.{Stmt}
use Rattle.core_unit.specs.declared.expressions.Expr.{Expr}
use Rattle.core_unit.specs.declared.operators.Sign.{Sign}

pub told_sum : (a b m n : ℕ) → a ≡ told m → b ≡ told n → min (a + b) (2 ^ 32 - 1) ≡ told (m + n)
told_sum a b m n e f = omega arith

pub small : 1 ≡ told 1
small = refl

pub none_of_an_aggregate : (t : CType) (sign : Sign) → is_aggregate t ≡ true → 0 ≡ conversions t sign
none_of_an_aggregate form.Char sign e = absurd (cc)
none_of_an_aggregate form.Int sign e = absurd (cc)
none_of_an_aggregate t sign e = refl

-- the first numbers
pub told_none : 0 ≡ told 0
told_none = refl

pub told_two : 2 ≡ told 2
told_two = refl

pub told_three : 3 ≡ told 3
told_three = refl

pub ruleset few = (told_none, small, told_two, told_three)

-- A sum over a list takes its elements one by one.
pub record IsSumOf {T : Type 0} (count : T → ℕ) (total : List T → ℕ) : Type 0 where
  pub none : total [] ≡ 0
  pub more : (x : T) (xs : List T) → total (x ∷ xs) ≡ count x + total xs

behind : {T : Type 0} (count : T → ℕ) (total : List T → ℕ) → IsSumOf count total → (xs : List T) (x : T) → total (xs ++ x ∷ []) ≡ total xs + count x
behind count total sums [] x = let one = sums.more x [] in let no = sums.none in omega arith
behind count total sums (y ∷ ys) x =
    let so_far : total (ys ++ x ∷ []) ≡ total ys + count x = behind count total sums ys x in
    let with_it = sums.more y (ys ++ x ∷ []) in
    let without = sums.more y ys in omega arith

-- One element more is counted.
pub one_more : {T : Type 0} (count : T → ℕ) (total : List T → ℕ) → IsSumOf count total → (xs : List T) (i sum : ℕ) (x : T) (counted next : ℕ) →
    i < length xs → x ≡ get_or xs i x → sum ≡ told (total (take i xs)) → counted ≡ told (count x) →
    ((m n : ℕ) → sum ≡ told m → counted ≡ told n → next ≡ told (m + n)) → next ≡ told (total (take (i + 1) xs))
one_more count total sums xs i sum x counted next below is so_far one add =
    let front : take (i + 1) xs ≡ take i xs ++ x ∷ [] = take_more xs i x below ∙ ap (λ y. take i xs ++ y ∷ []) (sym is) in
    add _ _ so_far one ∙ ap told (sym (ap total front ∙ behind count total sums (take i xs) x))

pub arguments_sum : IsSumOf nodes arguments_nodes
arguments_sum = record { none = refl; more = λ e es. refl }

pub listed_sum : IsSumOf initializer_nodes listed_nodes
listed_sum = record { none = refl; more = λ i is. refl }

pub statements_sum : IsSumOf stmt_nodes list_nodes
statements_sum = record { none = refl; more = λ s ss. refl }

begun_more : (s : Stmt) (ss : List Stmt) → begun_nodes (s ∷ ss) ≡ begun_nodes (s ∷ []) + begun_nodes ss
begun_more (form_of.Expression e) ss = omega arith
begun_more s ss = omega arith

pub begun_expression : (s : Stmt) (e : Expr) (count : ℕ) → s ≡ form_of.Expression e → count ≡ told (nodes e) → count ≡ told (begun_nodes (s ∷ []))
begun_expression s e count is counted = rw is (omega arith)

begun_other : (s : Stmt) → ((e : Expr) → s ≡ form_of.Expression e → ⊥) → begun_nodes (s ∷ []) ≡ stmt_nodes s
begun_other (form_of.Expression e) other = absurd (other e refl)
begun_other s other = omega arith

pub begun_statement : (s : Stmt) (count : ℕ) → ((e : Expr) → s ≡ form_of.Expression e → ⊥) → count ≡ told (stmt_nodes s) → count ≡ told (begun_nodes (s ∷ []))
begun_statement s count other counted = counted ∙ ap told (sym (begun_other s other))

-- What begins a `for`: each statement by what it is alone there.
pub begun_sum : IsSumOf (λ s. begun_nodes (s ∷ [])) begun_nodes
begun_sum = record { none = refl; more = begun_more }
