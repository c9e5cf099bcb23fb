-- Operands add no level, nor do their usual conversions.
use Rattle.std.proofs.Common.{◌≡◌, ℕ, Bool, true, false, refl, sym, ◌∙◌, ap, subst, List, Option, Some, None}
use Rattle.std.specs.Prelude.{◌&&◌, if◌then◌else◌}
use Rattle.eff_types.specs.Effects.{added, shared, lesser, is_below}
use Rattle.eff_types.specs.Types.{is_void, is_function, is_pointer, is_function_pointer, is_data_pointer, is_void_pointer, points_to, same, same_outside, target_effects}
use Rattle.eff_types.specs.declared.levels.Effects.{Effects}
use Rattle.eff_types.specs.declared.levels.Level.{Level}
use Rattle.eff_types.specs.declared.levels.Level.TheVariants.{Plain, NonAllocating, NonBlocking}
use Rattle.eff_types.specs.declared.types.CType.{CType, Void, Char, Int, Unsigned, Mutex, Struct, Pointer', Array', Function', end_of-CType, more_of-CType}
use Rattle.eff_types.proofs.Sameness.{same-eq, same-refl}
use Rattle.core_unit.specs.Levels.{KeepsLevel}
use Rattle.core_unit.specs.Shapes.{is_array, pointer_to, element_of, number_type}
use Rattle.core_unit.specs.Typing.{type_of}
use Rattle.core_unit.specs.declared.expressions.Expr.TheVariants as expr
use Rattle.core_unit.specs.declared.operators.Cause.TheVariants as cause
use Rattle.core_unit.specs.declared.operators.Sign.{Sign}
use Rattle.core_unit.specs.declared.operators.Sign.TheVariants.{Signed, Unsigned as Without}
use Rattle.core_unit.specs.declared.tables.FunctionInfo.{FunctionInfo}
use Rattle.type_rules.specs.Constants.{is_null_constant}
use Rattle.type_rules.specs.Conversions.{null_cause}
use Rattle.type_rules.specs.Operands.{is_char, is_whole, value_in, as_value, operand_of, operand, turned, promoted, in_sign, lvalue_in, lvalue}
use Rattle.type_rules.specs.Operators.{brought, pointer_in_common, alike_outside, shared_pointer, chosen_type}
use Rattle.type_rules.specs.Reading.{Read}
use Rattle.type_rules.specs.Seen.{Seen}
use Rattle.type_rules.specs.declared.found.Form.{Form}
use Rattle.type_rules.specs.declared.found.Form.TheVariants.{Lvalue, Value}
use Rattle.type_rules.specs.declared.found.Found.{Found}
use Rattle.type_rules.specs.declared.found.Operand.{Operand}
use Rattle.type_laws.proofs.Quiet.{Quiet, Quietly, then_quiet, gives_quiet, fails_quiet, refused_quiet, anyway}
use Rattle.type_laws.proofs.QuietConversions.{QuietOperand, null_level, keeps_of_none, added_none, number_is_no_function}
use Rattle.type_laws.proofs.QuietNodes.{Node, Used, Object, node-ArrayPointer, node-Load, node-FunctionPointer, converted_node}
use Rattle.type_laws.proofs.Types.{and_left, and_right}

-- what is found adds no level
abbrev pub QuietForm : CType → Form → List FunctionInfo → Type 0
QuietForm kind (Lvalue p) u = Object kind p
QuietForm kind (Value e) u = Used u kind e

abbrev pub QuietFound : Found → List FunctionInfo → Type 0
QuietFound f u = QuietForm f.kind f.form u

in_quiet : (u : List FunctionInfo) (place : ℕ) (kind : CType) (form : Form) → QuietForm kind form u → QuietOperand (value_in place kind form) u
in_quiet u place kind (Lvalue p) h = of (is_array kind)
  where
    of : (test : Bool) → QuietOperand (if test then operand_of place (pointer_to (element_of kind)) (expr.ArrayPointer p) else operand_of place kind (expr.Load p)) u
    of true = node-ArrayPointer u kind p h
    of false = node-Load u kind p h
in_quiet u place kind (Value e) h = of (is_function kind) refl
  where
    of : (test : Bool) → is_function kind ≡ test → QuietOperand (if test then operand_of place (pointer_to kind) (expr.FunctionPointer e) else operand_of place kind e) u
    of true function = node-FunctionPointer u kind e function h
    of false function = h

pub value_quiet : (u : List FunctionInfo) (f : Found) → QuietFound f u → QuietOperand (as_value f) u
unfolding as_value
value_quiet u f h = in_quiet u f.place f.kind f.form h

pub operand_quiet : (pre : List FunctionInfo → Type 0) (s : Seen) (expression : Seen → Read Found) → Quietly QuietFound expression
    → Quiet pre QuietOperand s (operand expression s)
unfolding operand
operand_quiet pre s expression keeps =
    then_quiet s (expression s) _ (anyway s (expression s) (keeps s)) (λ f t.
    refused_quiet t (is_whole f.kind) 3 f.place _ (λ whole.
    gives_quiet t (as_value f) (λ u ends p. value_quiet u f p.1)))

-- the place that is designated
in_lvalue : (pre : List FunctionInfo → Type 0) (s : Seen) (at : ℕ) (kind : CType) (form : Form) → ((u : List FunctionInfo) → pre u → QuietForm kind form u)
    → Quiet pre (λ p u. Object kind p) s (lvalue_in at form s)
in_lvalue pre s at kind (Lvalue p) h = gives_quiet s p (λ u ends k. h u k)
in_lvalue pre s at kind (Value e) h = fails_quiet s 6 at

pub lvalue_quiet : (pre : List FunctionInfo → Type 0) (s : Seen) (f : Found) → ((u : List FunctionInfo) → pre u → QuietFound f u)
    → Quiet pre (λ p u. Object f.kind p) s (lvalue f s)
unfolding lvalue
lvalue_quiet pre s f h = in_lvalue pre s f.place f.kind f.form h

-- a number that is promoted
pub promoted_quiet : (o : Operand) → Node o.kind o.node → Node (promoted o).kind (promoted o).node
unfolding promoted
promoted_quiet o h = of (is_char o.kind)
  where
    of : (test : Bool) → Node (if test then turned cause.Implicit Int o else o).kind (if test then turned cause.Implicit Int o else o).node
    of true = converted_node cause.Implicit o.kind Int o.node h (added_none o.kind Int (number_is_no_function Int refl))
    of false = h

sign_is_no_function : (sign : Sign) → is_function_pointer (number_type sign) ≡ false
unfolding points_to
sign_is_no_function Signed = refl
sign_is_no_function Without = refl

-- and that takes a sign
pub in_sign_quiet : (sign : Sign) (o : Operand) → Node o.kind o.node → Node (number_type sign) (in_sign sign o).node
unfolding in_sign
in_sign_quiet sign o h = of (same (promoted o).kind (number_type sign)) refl
  where
    quiet : Node (promoted o).kind (promoted o).node
    quiet = promoted_quiet o h

    of : (test : Bool) → same (promoted o).kind (number_type sign) ≡ test
        → Node (number_type sign) (if test then promoted o else turned cause.Implicit (number_type sign) (promoted o)).node
    of true e = subst (λ t. Node t (promoted o).node) (same-eq (promoted o).kind (number_type sign) e) quiet
    of false e = converted_node cause.Implicit (promoted o).kind (number_type sign) (promoted o).node quiet (added_none (promoted o).kind (number_type sign) (sign_is_no_function sign))

-- an operand may be brought into the type
abbrev pub Suits : CType → Operand → Type 0
Suits t o = same o.kind t ≡ false → KeepsLevel (null_cause cause.Implicit o.kind t) o.kind t

pub brought_quiet : (t : CType) (o : Operand) → Node o.kind o.node → Suits t o → Node t (brought t o).node
brought_quiet t o h suits = of (same o.kind t) refl
  where
    of : (test : Bool) → same o.kind t ≡ test → Node t (if test then o else turned (null_cause cause.Implicit o.kind t) t o).node
    of true e = subst (λ k. Node k o.node) (same-eq o.kind t e) h
    of false e = converted_node (null_cause cause.Implicit o.kind t) o.kind t o.node h (suits e)

pub suits_itself : (t : CType) (o : Operand) → o.kind ≡ t → Suits t o
suits_itself t o is other = let alike : same o.kind t ≡ true = ap (λ k. same k t) is ∙ same-refl t in absurd (cc)

void_is_no_function : (t : CType) → is_void_pointer t ≡ true → is_function_pointer t ≡ false
unfolding points_to
void_is_no_function (Pointer' _ (more_of-CType Void end_of-CType)) e = refl
void_is_no_function (Pointer' _ (more_of-CType t end_of-CType)) e = absurd (cc)
void_is_no_function Void e = refl
void_is_no_function Char e = refl
void_is_no_function Int e = refl
void_is_no_function Unsigned e = refl
void_is_no_function Mutex e = refl
void_is_no_function (Struct k) e = refl
void_is_no_function (Array' _ t n) e = refl
void_is_no_function (Function' _ _ _ _ _) e = refl

-- a pointer to data becomes `void *`
void_suits : (t : CType) (o : Operand) → is_void_pointer t ≡ true → Suits t o
void_suits t o void other = keeps_of_none (null_cause cause.Implicit o.kind t) o.kind t (added_none o.kind t (void_is_no_function t void))

-- both operands may be brought into the type that they have in common
abbrev pub BothSuit : Operand → Operand → Option CType → Type 0
BothSuit a b (Some t) = Suits t a × Suits t b
BothSuit a b None = Unit {0}

module _ (a b : Operand) (a_is : type_of a.node ≡ a.kind) (b_is : type_of b.node ≡ b.kind) where
  common_lines : (p q r v w : Bool) → is_pointer a.kind && same a.kind b.kind ≡ p → is_pointer a.kind && is_null_constant b ≡ q
      → is_null_constant a && is_pointer b.kind ≡ r → is_data_pointer a.kind && is_void_pointer b.kind ≡ v → is_void_pointer a.kind && is_data_pointer b.kind ≡ w
      → BothSuit a b (if p then Some a.kind else if q then Some a.kind else if r then Some b.kind else if v then Some b.kind else if w then Some a.kind else None)
  common_lines true q r v w e f g h i =
      (suits_itself a.kind a refl, suits_itself a.kind b (sym (same-eq a.kind b.kind (and_right (is_pointer a.kind) (same a.kind b.kind) e))))
  common_lines false true r v w e f g h i =
      (suits_itself a.kind a refl, λ other. null_level false b.kind a.kind b.node b_is (and_right (is_pointer a.kind) (is_null_constant b) f))
  common_lines false false true v w e f g h i =
      (λ other. null_level false a.kind b.kind a.node a_is (and_left (is_null_constant a) (is_pointer b.kind) g), suits_itself b.kind b refl)
  common_lines false false false true w e f g h i =
      (void_suits b.kind a (and_right (is_data_pointer a.kind) (is_void_pointer b.kind) h), suits_itself b.kind b refl)
  common_lines false false false false true e f g h i =
      (suits_itself a.kind a refl, void_suits a.kind b (and_left (is_void_pointer a.kind) (is_data_pointer b.kind) i))
  common_lines false false false false false e f g h i = tt

  pub common_suits : BothSuit a b (pointer_in_common a b)
  unfolding pointer_in_common
  common_suits =
      common_lines (is_pointer a.kind && same a.kind b.kind) (is_pointer a.kind && is_null_constant b) (is_null_constant a && is_pointer b.kind)
      (is_data_pointer a.kind && is_void_pointer b.kind) (is_void_pointer a.kind && is_data_pointer b.kind) refl refl refl refl refl

-- the lesser of two levels is above neither
below_first : (l m : Level) → is_below l (lesser l m) ≡ false
below_first Plain Plain = refl
below_first Plain NonAllocating = refl
below_first Plain NonBlocking = refl
below_first NonAllocating Plain = refl
below_first NonAllocating NonAllocating = refl
below_first NonAllocating NonBlocking = refl
below_first NonBlocking Plain = refl
below_first NonBlocking NonAllocating = refl
below_first NonBlocking NonBlocking = refl

below_second : (l m : Level) → is_below m (lesser l m) ≡ false
below_second Plain Plain = refl
below_second Plain NonAllocating = refl
below_second Plain NonBlocking = refl
below_second NonAllocating Plain = refl
below_second NonAllocating NonAllocating = refl
below_second NonAllocating NonBlocking = refl
below_second NonBlocking Plain = refl
below_second NonBlocking NonAllocating = refl
below_second NonBlocking NonBlocking = refl

none_of : (test : Bool) (l : Level) → test ≡ false → (if test then Some l else None) ≡ None
none_of true l e = absurd (cc)
none_of false l e = refl

first_adds : (e f : Effects) → added e (shared e f) ≡ None
unfolding added shared
first_adds e f = none_of (is_below e.level (lesser e.level f.level)) (lesser e.level f.level) (below_first e.level f.level)

second_adds : (e f : Effects) → added f (shared e f) ≡ None
unfolding added shared
second_adds e f = none_of (is_below f.level (lesser e.level f.level)) (lesser e.level f.level) (below_second e.level f.level)

shared_target : (t v : CType) → is_function_pointer t ≡ true → target_effects (shared_pointer t v) ≡ shared (target_effects t) (target_effects v)
unfolding points_to target_effects
shared_target (Pointer' _ (more_of-CType (Function' _ _ _ _ _) end_of-CType)) v e = refl
shared_target (Pointer' _ (more_of-CType t end_of-CType)) v e = absurd (cc)
shared_target t v e = absurd (cc)

level_suits : (t : CType) (o : Operand) → added (target_effects o.kind) (target_effects t) ≡ None → Suits t o
level_suits t o none other = keeps_of_none (null_cause cause.Implicit o.kind t) o.kind t none

void_is : (t : CType) → is_void t ≡ true → t ≡ Void
void_is Void e = refl
void_is t e = absurd (cc)

module _ (a b : Operand) (a_is : type_of a.node ≡ a.kind) (b_is : type_of b.node ≡ b.kind) where
  chosen_lines : (p q : Bool) (rest : Option CType) → is_void a.kind && is_void b.kind ≡ p → alike_outside a.kind b.kind ≡ q → BothSuit a b rest
      → BothSuit a b (if p then Some Void else if q then Some (shared_pointer a.kind b.kind) else rest)
  chosen_lines true q rest e f h =
      (suits_itself Void a (void_is a.kind (and_left (is_void a.kind) (is_void b.kind) e)), suits_itself Void b (void_is b.kind (and_right (is_void a.kind) (is_void b.kind) e)))
  chosen_lines false true rest e f h =
      let both = and_left (is_function_pointer a.kind && is_function_pointer b.kind) (same_outside a.kind b.kind) f in
      let first = and_left (is_function_pointer a.kind) (is_function_pointer b.kind) both in
      let target = shared_target a.kind b.kind first in (
        level_suits (shared_pointer a.kind b.kind) a (ap (added (target_effects a.kind)) target ∙ first_adds (target_effects a.kind) (target_effects b.kind)),
        level_suits (shared_pointer a.kind b.kind) b (ap (added (target_effects b.kind)) target ∙ second_adds (target_effects a.kind) (target_effects b.kind)),
      )
  chosen_lines false false rest e f h = h

  pub chosen_suits : BothSuit a b (chosen_type a b)
  unfolding chosen_type
  chosen_suits = chosen_lines (is_void a.kind && is_void b.kind) (alike_outside a.kind b.kind) (pointer_in_common a b) refl refl (common_suits a b a_is b_is)
