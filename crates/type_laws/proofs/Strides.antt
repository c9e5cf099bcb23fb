-- Pointers that move: a complete type has words, and keeps them.
use Rattle.std.proofs.Common.{◌≡◌, ℕ, zero, suc, ◌*◌, ◌<◌, ◌≤◌, Bool, true, false, refl, sym, List, slice_get, Option, Some, None, arith}
use Rattle.std.specs.Prelude.{not, ◌&&◌, ◌==◌, is_none}
use Rattle.eff_types.specs.Types.{is_void, is_function, points_to, is_data_pointer}
use Rattle.eff_types.specs.declared.types.CType.{CType, Void, Char, Int, Unsigned, Mutex, Struct, Pointer', Array', Function', end_of-CType, more_of-CType}
use Rattle.core_unit.specs.Layout.{words_of, told, struct_words}
use Rattle.core_unit.specs.Shapes.{target_of, is_object_pointer}
use Rattle.core_unit.specs.Typed.{Tables, PointsOver}
use Rattle.core_unit.specs.declared.tables.MemberInfo.{MemberInfo}
use Rattle.core_unit.specs.declared.tables.StructInfo.{StructInfo}
use Rattle.type_rules.specs.Operators.{stride}
use Rattle.type_rules.specs.Reading.{and_then}
use Rattle.type_rules.specs.Seen.{Seen}
use Rattle.type_rules.specs.Types.{is_incomplete, is_open}
use Rattle.type_laws.proofs.Formed.{IsFormed, CompleteHaveWords, words_stay}
use Rattle.type_laws.proofs.Triples.{Triple, Lawful, gives_keeps, refused_keeps}

-- elements with words make an array with words
array_words : (n w : ℕ) → (n == 0) ≡ false → 0 < w → 0 < told (n * w)
array_words zero w e some = absurd (cc)
array_words (suc n) w e some = let more : w ≤ suc n * w = grind arith in omega arith

struct_has_words : (found : Option StructInfo) → ((s : StructInfo) (members : List MemberInfo) → found ≡ Some s → s.members ≡ Some members → 0 < s.words)
    → is_open found ≡ false → 0 < struct_words found
struct_has_words None complete e = absurd (cc)
struct_has_words (Some s) complete e = of s.members refl e
  where
    of : (members : Option (List MemberInfo)) → s.members ≡ members → is_none members ≡ false → 0 < s.words
    of None m e = absurd (cc)
    of (Some members) m e = complete s members refl m

pub has_words : (structures : List StructInfo) (t : CType) → CompleteHaveWords structures → IsFormed structures t → is_function t ≡ false
    → is_incomplete structures t ≡ false → 0 < words_of structures t
unfolding words_of IsFormed
has_words structures (Struct k) complete f function e = struct_has_words (slice_get structures k) (complete k) e
has_words structures (Array' _ (more_of-CType t end_of-CType) n) complete f function e = array_words n (words_of structures t) e f.1
has_words structures Void complete f function e = absurd (cc)
has_words structures (Function' _ _ _ _ _) complete f function e = absurd (cc)
has_words structures Char complete f function e = omega arith
has_words structures Int complete f function e = omega arith
has_words structures Unsigned complete f function e = omega arith
has_words structures Mutex complete f function e = omega arith
has_words structures (Pointer' _ t) complete f function e = omega arith

pub formed_target : (structures : List StructInfo) (t : CType) → IsFormed structures t → IsFormed structures (target_of t)
unfolding IsFormed
formed_target structures (Pointer' _ (more_of-CType t end_of-CType)) f = f
formed_target structures t f = tt

data_target : (t : CType) → is_data_pointer t ≡ true → is_function (target_of t) ≡ false
unfolding points_to
data_target (Pointer' _ (more_of-CType t end_of-CType)) e = of (is_function t) e
  where
    of : (b : Bool) → not b ≡ true → b ≡ false
    of true e = sym e
    of false e = refl
data_target Void e = absurd (cc)
data_target Char e = absurd (cc)
data_target Int e = absurd (cc)
data_target Unsigned e = absurd (cc)
data_target Mutex e = absurd (cc)
data_target (Struct k) e = absurd (cc)
data_target (Array' _ t n) e = absurd (cc)
data_target (Function' _ _ _ _ _) e = absurd (cc)

object_target : (t : CType) → is_data_pointer t ≡ true → is_void (target_of t) ≡ false → is_object_pointer t ≡ true
unfolding points_to
object_target (Pointer' _ (more_of-CType t end_of-CType)) e v = of (is_function t) (is_void t) e v
  where
    of : (a b : Bool) → not a ≡ true → b ≡ false → not a && not b ≡ true
    of true b e v = e
    of false true e v = sym v
    of false false e v = refl
object_target Void e v = absurd (cc)
object_target Char e v = absurd (cc)
object_target Int e v = absurd (cc)
object_target Unsigned e v = absurd (cc)
object_target Mutex e v = absurd (cc)
object_target (Struct k) e v = absurd (cc)
object_target (Array' _ t n) e v = absurd (cc)
object_target (Function' _ _ _ _ _) e v = absurd (cc)

-- so many words stand under a pointer, in the tables of the whole unit too
abbrev pub IsStride : CType → ℕ → Tables → Type 0
IsStride pointer words u = PointsOver u.structures pointer words

pub stride_keeps : (pre : Tables → Type 0) (s : Seen) (place : ℕ) (pointer : CType) → Lawful s → IsFormed s.structures pointer → is_data_pointer pointer ≡ true
    → Triple pre (λ words t. is_object_pointer pointer ≡ true) (IsStride pointer) s (stride place pointer s)
unfolding stride and_then
stride_keeps pre s place pointer lawful formed data_pointer =
    refused_keeps s (is_void (target_of pointer)) 3 place _ (λ solid.
    refused_keeps s (is_incomplete s.structures (target_of pointer)) 10 place _ (λ complete.
    let target = formed_target s.structures pointer formed in
    let some = has_words s.structures (target_of pointer) lawful.complete_have_words target (data_target pointer data_pointer) complete in
    gives_keeps s (words_of s.structures (target_of pointer)) lawful (object_target pointer data_pointer solid) (λ u leads knows p. (
      object_target pointer data_pointer solid,
      sym (words_stay s.structures u.structures (target_of pointer) leads.stay lawful.open_are_empty target some),
      some,
    ))))
