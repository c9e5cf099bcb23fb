-- Where what a rule reads stands: from the first of its tokens on, and up to each place that isn't before the end of the last.
use Rattle.std.proofs.Common.{refl, ℕ, ◌≤◌, ◌<◌, List, ◌∷◌, arith}
use Rattle.c_tree.specs.declared.expressions.Expr.{Expr}
use Rattle.c_tree.specs.declared.expressions.Expr.TheVariants as e
use Rattle.c_tree.specs.declared.expressions.AccessOperator.{AccessOperator}
use Rattle.c_tree.specs.declared.expressions.AssignmentOperator.{AssignmentOperator}
use Rattle.c_tree.specs.declared.expressions.BinaryOperator.{BinaryOperator}
use Rattle.c_tree.specs.declared.expressions.StepOperator.{StepOperator}
use Rattle.c_tree.specs.declared.expressions.TypeName.{TypeName}
use Rattle.c_tree.specs.declared.expressions.UnaryOperator.{UnaryOperator}
use Rattle.c_tree.specs.declared.words.Span.{Span}
use Rattle.c_grammar.specs.Trees.{place_of}
use Rattle.tree_order.specs.Stands.{Then, Behind, ExprStands}
use Rattle.tree_order.proofs.Forms.{AllStand, stands-Name, stands-Number, stands-Character, stands-Text, stands-Parenthesised, stands-Index, stands-Call, stands-Access, stands-Step, stands-Unary, stands-SizeofType, stands-Cast, stands-Binary, stands-Conditional, stands-Assignment}

-- A part begins somewhere from the one place on, and has ended at the other.
pub record Within (part : ℕ → ℕ → Type 0) (from end : ℕ) : Type 0 where
  pub first : ℕ
  pub behind : from ≤ first
  pub stands : (to : ℕ) → end ≤ to → part first to

-- the same of an expression, which begins at its place
pub record IsAt (x : Expr) (from end : ℕ) : Type 0 where
  pub behind : from ≤ place_of x
  pub stands : (to : ℕ) → end ≤ to → ExprStands x (place_of x) to

pub within_of : (x : Expr) {from end : ℕ} → IsAt x from end → Within (ExprStands x) from end
within_of x at = record { first = place_of x; behind = at.behind; stands = at.stands }

pub mapped : {part whole : ℕ → ℕ → Type 0} {from end : ℕ} → ((first to : ℕ) → part first to → whole first to) → Within part from end → Within whole from end
mapped to_whole h = record { first = h.first; behind = h.behind; stands = λ to le. to_whole h.first to (h.stands to le) }

-- where nothing stands
pub nothing : {part : ℕ → ℕ → Type 0} {from end : ℕ} → from ≤ end → ((to : ℕ) → end ≤ to → part end to) → Within part from end
nothing {part} {from} {end} low none = record { first = end; behind = low; stands = none }

pub joined : {one other : ℕ → ℕ → Type 0} {from at next end : ℕ} → Within one from at → Within other next end → at ≤ next → Within (Then one other) from end
joined x y le = record {
  first = x.first;
  behind = x.behind;
  stands = λ to late. (y.first, x.stands y.first (let above = y.behind in omega (arith, le, above)), y.stands to late);
}

pub behind_token : (place : ℕ) {part : ℕ → ℕ → Type 0} {from next end : ℕ} → Within part next end → from ≤ place → place < next → Within (Behind part) from end
behind_token place h low less =
    record { first = place; behind = low; stands = λ to late. (h.first, (let above = h.behind in omega (arith, less, above)), h.stands to late) }

-- from an earlier place on, and to a later end
pub widened : {part : ℕ → ℕ → Type 0} {from next at end : ℕ} → Within part next at → from ≤ next → at ≤ end → Within part from end
widened h low high =
    record { first = h.first; behind = (let above = h.behind in omega (arith, low, above)); stands = λ to late. h.stands to (omega (arith, high, late)) }

pub name_at : (s : Span) (from end : ℕ) → from ≤ s.start → s.start < end → IsAt (e.Name s) from end
name_at s from end low high = record { behind = low; stands = λ to le. stands-Name s s.start to (omega (arith, high, le)) }

pub number_at : (s : Span) (from end : ℕ) → from ≤ s.start → s.start < end → IsAt (e.Number s) from end
number_at s from end low high = record { behind = low; stands = λ to le. stands-Number s s.start to (omega (arith, high, le)) }

pub character_at : (s : Span) (from end : ℕ) → from ≤ s.start → s.start < end → IsAt (e.Character s) from end
character_at s from end low high = record { behind = low; stands = λ to le. stands-Character s s.start to (omega (arith, high, le)) }

pub text_at : (s : Span) (more : List Span) (from end : ℕ) → from ≤ s.start → s.start < end → IsAt (e.Text (s ∷ more)) from end
text_at s more from end low high = record { behind = low; stands = λ to le. stands-Text (s ∷ more) s.start to (omega (arith, high, le)) }

pub size_at : (p : ℕ) (t : TypeName) (from end : ℕ) → from ≤ p → p < end → IsAt (e.SizeofType p t) from end
size_at p t from end low high = record { behind = low; stands = λ to le. stands-SizeofType p t p to (omega (arith, high, le)) }

-- an expression behind the first token of the whole
under : (x : Expr) (p next at end to : ℕ) → p < next → IsAt x next at → at ≤ end → end ≤ to → Behind (ExprStands x) p to
under x p next at end to less h more le = (place_of x, (let above = h.behind in omega (arith, less, above)), h.stands to (omega (arith, more, le)))

pub parenthesised_at : (p : ℕ) (x : Expr) {from next at end : ℕ} → IsAt x next at → from ≤ p → p < next → at ≤ end → IsAt (e.Parenthesised p x) from end
parenthesised_at p x {from} {next} {at} {end} h low less more =
    record { behind = low; stands = λ to le. stands-Parenthesised p x p to (under x p next at end to less h more le) }

pub unary_at : (p : ℕ) (o : UnaryOperator) (x : Expr) {from next end : ℕ} → IsAt x next end → from ≤ p → p < next → IsAt (e.Unary p o x) from end
unary_at p o x {from} {next} {end} h low less =
    record { behind = low; stands = λ to le. stands-Unary p o x p to (under x p next end end to less h (omega arith) le) }

pub cast_at : (p : ℕ) (t : TypeName) (x : Expr) {from next end : ℕ} → IsAt x next end → from ≤ p → p < next → IsAt (e.Cast p t x) from end
cast_at p t x {from} {next} {end} h low less =
    record { behind = low; stands = λ to le. stands-Cast p t x p to (under x p next end end to less h (omega arith) le) }

-- an expression up to the one behind it
before : (x : Expr) (y : Expr) {from at next end : ℕ} → IsAt x from at → IsAt y next end → at ≤ next → ExprStands x (place_of x) (place_of y)
before x y f g le = f.stands (place_of y) (let above = g.behind in omega (arith, le, above))

pub binary_at : (x : Expr) (o : BinaryOperator) (p : ℕ) (y : Expr) {from at next end : ℕ} → IsAt x from at → IsAt y next end → at ≤ next
    → IsAt (e.Binary (place_of x) x o p y) from end
binary_at x o p y f g le =
    record { behind = f.behind; stands = λ to late. stands-Binary (place_of x) x o p y (place_of x) to (place_of y, before x y f g le, g.stands to late) }

pub assignment_at : (x : Expr) (o : AssignmentOperator) (p : ℕ) (y : Expr) {from at next end : ℕ} → IsAt x from at → IsAt y next end → at ≤ next
    → IsAt (e.Assignment (place_of x) x o p y) from end
assignment_at x o p y f g le =
    record { behind = f.behind; stands = λ to late. stands-Assignment (place_of x) x o p y (place_of x) to (place_of y, before x y f g le, g.stands to late) }

pub conditional_at : (x y z : Expr) {from at next middle beyond end : ℕ} → IsAt x from at → IsAt y next middle → IsAt z beyond end → at ≤ next → middle ≤ beyond
    → IsAt (e.Conditional (place_of x) x y z) from end
conditional_at x y z f g h le more = record {
  behind = f.behind;
  stands = λ to late.
      stands-Conditional (place_of x) x y z (place_of x) to (place_of y, before x y f g le, (place_of z, before y z g h more, h.stands to late));
}

pub index_at : (x y : Expr) {from at next middle end : ℕ} → IsAt x from at → IsAt y next middle → at ≤ next → middle ≤ end → IsAt (e.Index (place_of x) x y) from end
index_at x y f g le more = record {
  behind = f.behind;
  stands = λ to late. stands-Index (place_of x) x y (place_of x) to (place_of y, before x y f g le, g.stands to (omega (arith, more, late)));
}

pub call_at : (x : Expr) (given : List Expr) {from at next middle end : ℕ} → IsAt x from at → Within (AllStand ExprStands given) next middle → at ≤ next → middle ≤ end
    → IsAt (e.Call (place_of x) x given) from end
call_at x given f g le more = record {
  behind = f.behind;
  stands = λ to late. stands-Call (place_of x) x given (place_of x) to refl
      (g.first, f.stands g.first (let above = g.behind in omega (arith, le, above)), g.stands to (omega (arith, more, late)));
}

pub access_at : (x : Expr) (o : AccessOperator) (s : Span) {from at end : ℕ} → IsAt x from at → at ≤ end → IsAt (e.Access (place_of x) x o s) from end
access_at x o s f more =
    record { behind = f.behind; stands = λ to late. stands-Access (place_of x) x o s (place_of x) to (f.stands to (omega (arith, more, late))) }

pub step_at : (x : Expr) (o : StepOperator) {from at end : ℕ} → IsAt x from at → at ≤ end → IsAt (e.Step (place_of x) x o) from end
step_at x o f more = record { behind = f.behind; stands = λ to late. stands-Step (place_of x) x o (place_of x) to (f.stands to (omega (arith, more, late))) }
