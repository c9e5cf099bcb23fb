-- The type in which two pointers are compared, and an operand that is brought to it.
use Rattle.std.proofs.Common.{◌≡◌, Bool, true, false, refl, sym, ◌∙◌, ap, Option, Some, None}
use Rattle.std.specs.Prelude.{◌&&◌, ◌||◌, if◌then◌else◌}
use Rattle.eff_types.specs.Types.{is_number, is_pointer, points_to, is_data_pointer, is_function_pointer, is_void_pointer, same}
use Rattle.eff_types.specs.declared.types.CType.{CType, Void, Char, Int, Unsigned, Mutex, Struct, Pointer', Array', Function', end_of-CType, more_of-CType}
use Rattle.eff_types.proofs.Sameness.{same-eq, same-refl}
use Rattle.core_unit.specs.Typed.{Tables, IsTyped, is_conversion, are_numbers, are_function_pointers, are_data_pointers}
use Rattle.core_unit.specs.Typing.{type_of}
use Rattle.core_unit.proofs.Equations.{type_of-Convert}
use Rattle.core_unit.specs.declared.operators.Cause.TheVariants as cause
use Rattle.type_rules.specs.Constants.{is_null_constant}
use Rattle.type_rules.specs.Conversions.{null_cause}
use Rattle.type_rules.specs.Operands.{turned}
use Rattle.type_rules.specs.Operators.{brought, pointer_in_common}
use Rattle.type_rules.specs.Seen.{Seen}
use Rattle.type_rules.specs.declared.found.Operand.{Operand}
use Rattle.type_laws.proofs.Converted.{within_tables, null_type}
use Rattle.type_laws.proofs.Fits.{null_fits, third_fits, void_is_data}
use Rattle.type_laws.proofs.Formed.{IsFormed}
use Rattle.type_laws.proofs.Operands.{IsOperand, IsTypedOperand}
use Rattle.type_laws.proofs.Triples.{Leads}
use Rattle.type_laws.proofs.Typed as typed
use Rattle.type_laws.proofs.Types.{and_left, and_right}

-- the operand has the type, or is converted to it
abbrev pub Suits : CType → Operand → Type 0
Suits t o = same o.kind t ≡ false → is_conversion (null_cause cause.Implicit o.kind t) o.kind t ≡ true

choose_is : (t : CType) (o : Operand) (alike : Bool) → same o.kind t ≡ alike → type_of o.node ≡ o.kind
    → type_of (if alike then o else turned (null_cause cause.Implicit o.kind t) t o).node ≡ t
choose_is t o true e is = is ∙ same-eq o.kind t e
choose_is t o false e is = type_of-Convert (null_cause cause.Implicit o.kind t) t o.node

pub brought_is : (t : CType) (o : Operand) → type_of o.node ≡ o.kind → type_of (brought t o).node ≡ t
brought_is t o is = choose_is t o (same o.kind t) refl is

choose_typed : (s : Seen) (u : Tables) (t : CType) (o : Operand) (alike : Bool) → same o.kind t ≡ alike → Leads s u → IsFormed s.structures t
    → type_of o.node ≡ o.kind → Suits t o → IsTyped u o.node → IsTyped u (if alike then o else turned (null_cause cause.Implicit o.kind t) t o).node
choose_typed s u t o true e leads formed is suits h = h
choose_typed s u t o false e leads formed is suits h =
    typed.typed-Convert u (null_cause cause.Implicit o.kind t) t o.node h (within_tables s u t leads formed)
    (ap (λ k. is_conversion (null_cause cause.Implicit o.kind t) k t) is ∙ suits e)

pub brought_typed : (s : Seen) (u : Tables) (t : CType) (o : Operand) → Leads s u → IsFormed s.structures t → type_of o.node ≡ o.kind → Suits t o
    → IsTypedOperand o u → IsTypedOperand (brought t o) u
brought_typed s u t o leads formed is suits h = choose_typed s u t o (same o.kind t) refl leads formed is suits h

pub record InCommon (s : Seen) (a b : Operand) (t : CType) : Type 0 where
  pub pointer : is_pointer t ≡ true
  pub formed : IsFormed s.structures t
  pub left : Suits t a
  pub right : Suits t b

abbrev pub CommonTold : Seen → Operand → Operand → Option CType → Type 0
CommonTold s a b (Some t) = InCommon s a b t
CommonTold s a b None = Unit {0}

-- an operand of the type itself
pub suits_itself : (t : CType) (o : Operand) → o.kind ≡ t → Suits t o
suits_itself t o is other = let alike : same o.kind t ≡ true = ap (λ k. same k t) is ∙ same-refl t in absurd (cc)

-- a null constant
null_suits : (t : CType) (o : Operand) → is_pointer t ≡ true → is_null_constant o ≡ true → type_of o.node ≡ o.kind → Suits t o
null_suits t o pointer null is other = null_fits false o.kind t other pointer (ap (λ k. is_number k || is_void_pointer k) (sym is) ∙ null_type o.node null)

pub data_is_no_number : (t : CType) → is_data_pointer t ≡ true → is_number t ≡ false
unfolding points_to
data_is_no_number (Pointer' _ t) e = refl
data_is_no_number Void e = refl
data_is_no_number Mutex e = refl
data_is_no_number (Struct k) e = refl
data_is_no_number (Array' _ t n) e = refl
data_is_no_number (Function' _ _ _ _ _) e = refl
data_is_no_number Char e = absurd (cc)
data_is_no_number Int e = absurd (cc)
data_is_no_number Unsigned e = absurd (cc)

void_is_no_function : (t : CType) → is_void_pointer t ≡ true → is_function_pointer t ≡ false
unfolding points_to
void_is_no_function (Pointer' _ (more_of-CType Void end_of-CType)) e = refl
void_is_no_function (Pointer' _ (more_of-CType t end_of-CType)) e = absurd (cc)
void_is_no_function Void e = refl
void_is_no_function Char e = refl
void_is_no_function Int e = refl
void_is_no_function Unsigned e = refl
void_is_no_function Mutex e = refl
void_is_no_function (Struct k) e = refl
void_is_no_function (Array' _ t n) e = refl
void_is_no_function (Function' _ _ _ _ _) e = refl

-- a pointer to data takes the type `void *`
void_suits : (t : CType) (o : Operand) → is_data_pointer o.kind ≡ true → is_void_pointer t ≡ true → Suits t o
void_suits t o data_pointer void other = of (is_number o.kind || (is_void_pointer o.kind && is_function_pointer t)) refl
  where
    no : (n v f : Bool) → n ≡ false → f ≡ false → n || (v && f) ≡ false
    no true v f p q = p
    no false true f p q = q
    no false false f p q = refl

    pair : (a b v w : Bool) → a ≡ true → b ≡ true → w ≡ true → (a && b) && (v || w) ≡ true
    pair true true true w p q r = refl
    pair true true false w p q r = r
    pair false b v w p q r = absurd (cc)
    pair a false v w p q r = absurd (cc)

    plain : is_conversion cause.Implicit o.kind t ≡ true
    plain =
        third_fits (are_numbers o.kind t) (are_function_pointers o.kind t) (are_data_pointers o.kind t && (is_void_pointer o.kind || is_void_pointer t)) (same o.kind t)
        (pair (is_data_pointer o.kind) (is_data_pointer t) (is_void_pointer o.kind) (is_void_pointer t) data_pointer (void_is_data t void) void) other

    of : (test : Bool) → is_number o.kind || (is_void_pointer o.kind && is_function_pointer t) ≡ test
        → is_conversion (if test then cause.Null else cause.Implicit) o.kind t ≡ true
    of true e =
        let never = no (is_number o.kind) (is_void_pointer o.kind) (is_function_pointer t) (data_is_no_number o.kind data_pointer) (void_is_no_function t void) in
        absurd (cc)
    of false e = plain

void_is_pointer : (t : CType) → is_void_pointer t ≡ true → is_pointer t ≡ true
unfolding points_to
void_is_pointer (Pointer' _ t) e = refl
void_is_pointer Void e = e
void_is_pointer Char e = e
void_is_pointer Int e = e
void_is_pointer Unsigned e = e
void_is_pointer Mutex e = e
void_is_pointer (Struct k) e = e
void_is_pointer (Array' _ t n) e = e
void_is_pointer (Function' _ _ _ _ _) e = e

module _ (s : Seen) (a b : Operand) (a_known : IsOperand a s) (b_known : IsOperand b s) where
  common_lines : (p q r v w : Bool) → is_pointer a.kind && same a.kind b.kind ≡ p → is_pointer a.kind && is_null_constant b ≡ q
      → is_null_constant a && is_pointer b.kind ≡ r → is_data_pointer a.kind && is_void_pointer b.kind ≡ v → is_void_pointer a.kind && is_data_pointer b.kind ≡ w
      → CommonTold s a b (if p then Some a.kind else if q then Some a.kind else if r then Some b.kind else if v then Some b.kind else if w then Some a.kind else None)
  common_lines true q r v w e f g h i = record {
    pointer = and_left (is_pointer a.kind) (same a.kind b.kind) e;
    formed = a_known.0;
    left = suits_itself a.kind a refl;
    right = suits_itself a.kind b (sym (same-eq a.kind b.kind (and_right (is_pointer a.kind) (same a.kind b.kind) e)));
  }
  common_lines false true r v w e f g h i =
      let pointer = and_left (is_pointer a.kind) (is_null_constant b) f in record {
        pointer = pointer;
        formed = a_known.0;
        left = suits_itself a.kind a refl;
        right = null_suits a.kind b pointer (and_right (is_pointer a.kind) (is_null_constant b) f) b_known.1;
      }
  common_lines false false true v w e f g h i =
      let pointer = and_right (is_null_constant a) (is_pointer b.kind) g in record {
        pointer = pointer;
        formed = b_known.0;
        left = null_suits b.kind a pointer (and_left (is_null_constant a) (is_pointer b.kind) g) a_known.1;
        right = suits_itself b.kind b refl;
      }
  common_lines false false false true w e f g h i =
      let void = and_right (is_data_pointer a.kind) (is_void_pointer b.kind) h in record {
        pointer = void_is_pointer b.kind void;
        formed = b_known.0;
        left = void_suits b.kind a (and_left (is_data_pointer a.kind) (is_void_pointer b.kind) h) void;
        right = suits_itself b.kind b refl;
      }
  common_lines false false false false true e f g h i =
      let void = and_left (is_void_pointer a.kind) (is_data_pointer b.kind) i in record {
        pointer = void_is_pointer a.kind void;
        formed = a_known.0;
        left = suits_itself a.kind a refl;
        right = void_suits a.kind b (and_right (is_void_pointer a.kind) (is_data_pointer b.kind) i) void;
      }
  common_lines false false false false false e f g h i = tt

  pub common_told : CommonTold s a b (pointer_in_common a b)
  unfolding pointer_in_common
  common_told =
      common_lines (is_pointer a.kind && same a.kind b.kind) (is_pointer a.kind && is_null_constant b) (is_null_constant a && is_pointer b.kind)
      (is_data_pointer a.kind && is_void_pointer b.kind) (is_void_pointer a.kind && is_data_pointer b.kind) refl refl refl refl refl
