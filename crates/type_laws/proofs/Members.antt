-- Members of structures, and the words before them.
use Rattle.std.proofs.Common.{◌≡◌, ℕ, zero, suc, false, refl, sym, ◌∙◌, ap, subst, List, [], ◌∷◌, map, take, slice_get, Option, Some, None}
use Rattle.std.specs.Prelude.{sum}
use Rattle.eff_types.specs.declared.types.CType.{CType, Void, Char, Int, Unsigned, Mutex, Struct, Pointer', Array', Function', end_of-CType, more_of-CType}
use Rattle.c_tree.specs.declared.expressions.AccessOperator.{AccessOperator}
use Rattle.c_tree.specs.declared.expressions.AccessOperator.TheVariants.{Dot, Arrow}
use Rattle.c_tree.specs.declared.words.Span.{Span}
use Rattle.core_unit.specs.Layout.{words_of, told, members_words}
use Rattle.core_unit.specs.Shapes.{target_of, pointer_to}
use Rattle.core_unit.specs.Typed.{Tables, IsTypedPlace}
use Rattle.core_unit.specs.Typing.{type_of, place_type}
use Rattle.core_unit.proofs.Equations.{place_type-Member, place_type-Arrow}
use Rattle.core_unit.specs.declared.expressions.Place.{Place}
use Rattle.core_unit.specs.declared.expressions.Place.TheVariants as object
use Rattle.core_unit.specs.declared.tables.MemberInfo.{MemberInfo}
use Rattle.core_unit.specs.declared.tables.StructInfo.{StructInfo}
use Rattle.type_rules.specs.Access.{member_at, index_of, member_of_all, known_members, member, member_of_object, member_of_target, access}
use Rattle.type_rules.specs.Operands.{operand}
use Rattle.type_rules.specs.Reading.{Read, and_then, text_of}
use Rattle.type_rules.specs.Seen.{Seen}
use Rattle.type_rules.specs.declared.found.Form.{Form}
use Rattle.type_rules.specs.declared.found.Form.TheVariants.{Lvalue, Value}
use Rattle.type_rules.specs.declared.found.Found.{Found}
use Rattle.type_rules.specs.declared.found.Operand.{Operand}
use Rattle.type_laws.proofs.Accessing.{object_keeps, member_not_arrow}
use Rattle.type_laws.proofs.Formed.{Stay, StaysBy, OpenAreEmpty, words_stay}
use Rattle.type_laws.proofs.Operands.{IsFound, IsTypedFound, FormIsKnown, FormIsTyped, IsTypedOperand, operand_keeps}
use Rattle.type_laws.proofs.Triples.{Each, IsLawfulMember, Triple, Keeps, Always, Lawful, then_keeps, fails_keeps}
use Rattle.type_laws.proofs.Typed as typed

each_at : (P : MemberInfo → Type 0) (ms : List MemberInfo) (index : ℕ) (m : MemberInfo) → Each P ms → slice_get ms index ≡ Some m → P m
each_at P [] index m each e = absurd (cc)
each_at P (x ∷ xs) zero m each e = subst P (some_is x m e) each.0
  where
    some_is : (x m : MemberInfo) → Some x ≡ Some m → x ≡ m
    some_is x m e = cc
each_at P (x ∷ xs) (suc index) m each e = each_at P xs index m each.1 e

each_taken : (P : MemberInfo → Type 0) (n : ℕ) (ms : List MemberInfo) → Each P ms → Each P (take n ms)
each_taken P zero ms each = tt
each_taken P (suc n) [] each = tt
each_taken P (suc n) (m ∷ ms) each = (each.0, each_taken P n ms each.1)

-- members with words have the same ones later on
words_stay_each : (before after : List StructInfo) (ms : List MemberInfo) → Stay before after → OpenAreEmpty before → Each (IsLawfulMember before) ms
    → map (λ m. words_of before m.kind) ms ≡ map (λ m. words_of after m.kind) ms
words_stay_each before after [] stay empty each = refl
words_stay_each before after (m ∷ ms) stay empty each =
    ap (λ w. w ∷ map (λ m. words_of before m.kind) ms) (sym (words_stay before after m.kind stay empty each.0.formed each.0.some))
    ∙ ap (λ ws. words_of after m.kind ∷ ws) (words_stay_each before after ms stay empty each.1)

pub members_words_stay : (before after : List StructInfo) (ms : List MemberInfo) → Stay before after → OpenAreEmpty before → Each (IsLawfulMember before) ms
    → members_words before ms ≡ members_words after ms
members_words_stay before after ms stay empty each = ap (λ ws. told (sum ws)) (words_stay_each before after ms stay empty each)

-- a pointer to a structure
points_at : (t : CType) (k : ℕ) → target_of t ≡ Struct k → t ≡ pointer_to (Struct k)
points_at (Pointer' s (more_of-CType t end_of-CType)) k e = ap pointer_to e
points_at Void k e = absurd (cc)
points_at Char k e = absurd (cc)
points_at Int k e = absurd (cc)
points_at Unsigned k e = absurd (cc)
points_at Mutex k e = absurd (cc)
points_at (Struct n) k e = absurd (cc)
points_at (Array' _ t n) k e = absurd (cc)
points_at (Function' _ _ _ _ _) k e = absurd (cc)

module _ (pre : Tables → Type 0) (s : Seen) (lawful : Lawful s) (place : ℕ) (base : Place) (name : Span) (number : ℕ) (is : place_type base ≡ Struct number)
    (base_typed : (u : Tables) → pre u → IsTypedPlace u base) where
  at_keeps : (info : StructInfo) (ms : List MemberInfo) → slice_get s.structures number ≡ Some info → info.members ≡ Some ms → (index : ℕ) (found : Option MemberInfo)
      → slice_get ms index ≡ found → Triple pre IsFound (IsTypedFound false) s (member_at place base s.structures ms index found name.start s)
  at_keeps info ms known complete index None there = fails_keeps s 8 name.start
  at_keeps info ms known complete index (Some m) there =
      let each = lawful.members_lawful number info ms known complete in
      let this = each_at (IsLawfulMember s.structures) ms index m each there in
      let offset = members_words s.structures (take index ms) in
      object_keeps pre s place m.kind (object.Member base offset m.kind) lawful this.formed (place_type-Member base offset m.kind) this.solid
      (member_not_arrow base offset m.kind) (λ u leads p.
      typed.typed-Member u base offset m.kind (base_typed u p) record {
        number = number;
        info = info;
        members = ms;
        index = index;
        member = m;
        structure = is;
        known = subst (λ o. StaysBy o info (slice_get u.structures number)) complete (leads.stay.each number info known);
        complete = complete;
        there = there;
        kind = refl;
        after =
            members_words_stay s.structures u.structures (take index ms) leads.stay lawful.open_are_empty (each_taken (IsLawfulMember s.structures) index ms each);
      })

  members_keep : (info : StructInfo) (members : Option (List MemberInfo)) → slice_get s.structures number ≡ Some info → info.members ≡ members
      → Triple pre IsFound (IsTypedFound false) s (member_of_all place base name s members s)
  members_keep info None known complete = fails_keeps s 10 place
  members_keep info (Some ms) known complete =
      at_keeps info ms known complete (index_of (text_of s.source name) ms) (slice_get ms (index_of (text_of s.source name) ms)) refl

  struct_keeps : (found : Option StructInfo) → slice_get s.structures number ≡ found
      → Triple pre IsFound (IsTypedFound false) s (member_of_all place base name s (known_members found) s)
  struct_keeps None known = fails_keeps s 10 place
  struct_keeps (Some info) known = members_keep info info.members known refl

  pub member_keeps : Triple pre IsFound (IsTypedFound false) s (member place base name number s)
  unfolding member
  member_keeps = struct_keeps (slice_get s.structures number) refl

object_member_keeps : (pre : Tables → Type 0) (s : Seen) (place : ℕ) (name : Span) (kind : CType) (form : Form) → Lawful s → FormIsKnown kind form
    → ((u : Tables) → pre u → FormIsTyped false u form) → Triple pre IsFound (IsTypedFound false) s (member_of_object place name kind form s)
object_member_keeps pre s place name (Struct number) (Lvalue base) lawful known is_typed = member_keeps pre s lawful place base name number known.0 is_typed
object_member_keeps pre s place name (Struct number) (Value e) lawful known is_typed = fails_keeps s 3 place
object_member_keeps pre s place name Void form lawful known is_typed = fails_keeps s 3 place
object_member_keeps pre s place name Char form lawful known is_typed = fails_keeps s 3 place
object_member_keeps pre s place name Int form lawful known is_typed = fails_keeps s 3 place
object_member_keeps pre s place name Unsigned form lawful known is_typed = fails_keeps s 3 place
object_member_keeps pre s place name Mutex form lawful known is_typed = fails_keeps s 3 place
object_member_keeps pre s place name (Pointer' _ t) form lawful known is_typed = fails_keeps s 3 place
object_member_keeps pre s place name (Array' _ t n) form lawful known is_typed = fails_keeps s 3 place
object_member_keeps pre s place name (Function' _ _ _ _ _) form lawful known is_typed = fails_keeps s 3 place

target_member_keeps : (pre : Tables → Type 0) (s : Seen) (place : ℕ) (name : Span) (o : Operand) (t : CType) → target_of o.kind ≡ t → Lawful s
    → type_of o.node ≡ o.kind → ((u : Tables) → pre u → IsTypedOperand o u) → Triple pre IsFound (IsTypedFound false) s (member_of_target place name o.node t s)
target_member_keeps pre s place name o (Struct number) e lawful is is_typed =
    member_keeps pre s lawful place (object.Arrow o.node number) name number (place_type-Arrow o.node number) (λ u p.
    typed.typed-Arrow u o.node number (is_typed u p) (is ∙ points_at o.kind number e))
target_member_keeps pre s place name o Void e lawful is is_typed = fails_keeps s 3 place
target_member_keeps pre s place name o Char e lawful is is_typed = fails_keeps s 3 place
target_member_keeps pre s place name o Int e lawful is is_typed = fails_keeps s 3 place
target_member_keeps pre s place name o Unsigned e lawful is is_typed = fails_keeps s 3 place
target_member_keeps pre s place name o Mutex e lawful is is_typed = fails_keeps s 3 place
target_member_keeps pre s place name o (Pointer' _ t) e lawful is is_typed = fails_keeps s 3 place
target_member_keeps pre s place name o (Array' _ t n) e lawful is is_typed = fails_keeps s 3 place
target_member_keeps pre s place name o (Function' _ _ _ _ _) e lawful is is_typed = fails_keeps s 3 place

pub access_keeps : (place : ℕ) (operator : AccessOperator) (name : Span) (expression : Seen → Read Found) → Keeps Always IsFound (IsTypedFound false) expression
    → Keeps Always IsFound (IsTypedFound false) (access place operator name expression)
unfolding access and_then
access_keeps place Dot name expression keeps s lawful =
    then_keeps s (expression s) _ (keeps s lawful) (λ f t t_lawful t_stay known.
    object_member_keeps _ t place name f.kind f.form t_lawful known.1 (λ u p. p.1))
access_keeps place Arrow name expression keeps s lawful =
    then_keeps s (operand expression s) _ (operand_keeps Always expression keeps s lawful) (λ o t t_lawful t_stay known.
    target_member_keeps _ t place name o (target_of o.kind) refl t_lawful known.1 (λ u p. p.1))
