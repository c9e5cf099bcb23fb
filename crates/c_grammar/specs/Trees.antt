-- What the rules ask of the trees that were read.
use Rattle.std.specs.Prelude.{ℕ, Bool, true, false, List, [], ◌∷◌}
use Rattle.c_tree.specs.declared.words.Span.{Span}
use Rattle.c_tree.specs.declared.expressions.Expr as e
use Rattle.c_tree.specs.declared.expressions.Expr.TheVariants as v
use Rattle.c_tree.specs.declared.expressions.Expr.{Expr}
use Rattle.c_tree.specs.declared.expressions.Spec as spec
use Rattle.c_tree.specs.declared.expressions.Spec.TheVariants as sv
use Rattle.c_tree.specs.declared.expressions.Spec.{Spec}
use Rattle.c_tree.specs.declared.words.StorageWord.TheVariants as storage

-- the place of an expression, that of its first token
abbrev pub first_place : List Span → ℕ
first_place [] = 0
first_place (s ∷ spans) = s.start

abbrev pub place_of : Expr → ℕ
place_of (v.Name s) = s.start
place_of (v.Number s) = s.start
place_of (v.Character s) = s.start
place_of (v.Text spans) = first_place spans
place_of (e.Parenthesised' p _ _) = p
place_of (e.Index' p _ _ _ _) = p
place_of (e.Call' p _ _ _ _) = p
place_of (e.Access' p _ _ _ _) = p
place_of (e.Step' p _ _ _) = p
place_of (e.Unary' p _ _ _) = p
place_of (e.SizeofType' p _ _) = p
place_of (e.Cast' p _ _ _ _) = p
place_of (e.Binary' p _ _ _ _ _ _) = p
place_of (e.Conditional' p _ _ _ _ _ _) = p
place_of (e.Assignment' p _ _ _ _ _ _) = p

-- a cast, a conditional expression, and a unary expression, which is neither of them, no binary operation and no assignment
abbrev pub is_cast : Expr → Bool
is_cast (e.Cast' _ _ _ _ _) = true
is_cast _ = false

abbrev pub is_conditional : Expr → Bool
is_conditional (e.Conditional' _ _ _ _ _ _ _) = true
is_conditional _ = false

abbrev pub is_unary : Expr → Bool
is_unary (e.Cast' _ _ _ _ _) = false
is_unary (e.Binary' _ _ _ _ _ _ _) = false
is_unary (e.Conditional' _ _ _ _ _ _ _) = false
is_unary (e.Assignment' _ _ _ _ _ _ _) = false
is_unary _ = true

-- the place of specifiers, that of the first of them
abbrev pub spec_place : Spec → ℕ
spec_place (sv.Storage p w) = p
spec_place (sv.Function p w) = p
spec_place (sv.Qualifier p w) = p
spec_place (sv.Type p w) = p
spec_place (sv.TypedefName s) = s.start
spec_place (sv.Attribute a) = a.place
spec_place (sv.StructName p s) = p
spec_place (spec.Struct' p _ _ _) = p
spec_place (sv.EnumName p s) = p
spec_place (spec.Enum' p _ _ _) = p

abbrev pub specs_place : List Spec → ℕ
specs_place [] = 0
specs_place (s ∷ more) = spec_place s

-- `typedef` is among the specifiers
abbrev pub has_typedef : List Spec → Bool
has_typedef [] = false
has_typedef (sv.Storage p storage.Typedef ∷ more) = true
has_typedef (s ∷ more) = has_typedef more
