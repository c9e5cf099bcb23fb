-- Lists of specifiers and of names, joined.
use Rattle.std.proofs.Common.{◌≡◌, refl, ℕ, List, [], ◌∷◌, ◌++◌, map, ap}
use denote.Bor.{Bor}
use Rattle.c_tree.specs.declared.expressions.Spec.{Spec}
use Rattle.c_grammar.specs.Declarators.{join}

pub join_append : (xs ys : List Spec) → xs ++ ys ≡ join xs ys
join_append [] ys = refl
join_append (x ∷ xs) ys = ap (λ more. x ∷ more) (join_append xs ys)

pub map_one : (xs : List (Bor (List ℕ))) (x : Bor (List ℕ)) → map (λ t. t.now) (xs ++ x ∷ []) ≡ map (λ t. t.now) xs ++ x.now ∷ []
map_one [] x = refl
map_one (y ∷ xs) x = ap (λ more. y.now ∷ more) (map_one xs x)
