-- Structures by their numbers, and the words of the first members.
use Rattle.std.proofs.Common.{◌≡◌, ◌∙◌, refl, ap, ℕ, ◌+◌, ◌-◌, ◌^◌, ◌<◌, min, arith, List, map, sum, length, take, get_or, Some, None}
use Rattle.std.proofs.lemmas.List.Sums.{sum_by-cons}
use Rattle.eff_types.specs.declared.types.CType.{CType, Struct}
use Rattle.core_unit.proofs.Sums.{told_sum, one_more, IsSumOf}
use Rattle.core_unit.specs.Layout.{words_of, members_words}
use Rattle.core_unit.specs.declared.expressions.Expr.{Expr}
use Rattle.core_unit.specs.declared.expressions.Place.{Place}
use Rattle.core_unit.specs.declared.expressions.Place.TheVariants as object
use Rattle.core_unit.specs.declared.tables.MemberInfo.{MemberInfo}
use Rattle.core_unit.specs.declared.tables.StructInfo.{StructInfo}
use Rattle.c_tree.specs.declared.words.Span.{Span}
use Rattle.type_access.specs.Structures.{structure_of}
use Rattle.type_rules.specs.Access.{member, member_of_object, member_of_target}
use Rattle.type_rules.specs.Reading.{Bad}
use Rattle.type_rules.specs.Seen.{Seen}
use Rattle.type_rules.specs.declared.found.Form.{Form}
use Rattle.type_rules.specs.declared.found.Form.TheVariants.{Lvalue, Value}

pub structure_of-other : (t : CType) → ((number : ℕ) → t ≡ Struct number → ⊥) → structure_of t ≡ None
structure_of-other (Struct number) other = absurd (other number refl)
structure_of-other _ other = refl

-- Where a type is a structure, its members are those of the structure.
pub object_member : (place : ℕ) (name : Span) (t : CType) (base : Place) (s : Seen) (number : ℕ) → structure_of t ≡ Some number →
    member_of_object place name t (Lvalue base) s ≡ member place base name number s
object_member place name (Struct k) base s number h = let e : k ≡ number = cc in ap (λ n. member place base name n s) e
object_member place name t base s number h = absurd (cc)

pub value_member : (place : ℕ) (name : Span) (t : CType) (node : Expr) (s : Seen) → member_of_object place name t (Value node) s ≡ Bad 3 place
value_member place name (Struct k) node s = refl
value_member place name t node s = refl

pub target_member : (place : ℕ) (name : Span) (pointer : Expr) (t : CType) (s : Seen) (number : ℕ) → structure_of t ≡ Some number →
    member_of_target place name pointer t s ≡ member place (object.Arrow pointer number) name number s
target_member place name pointer (Struct k) s number h = let e : k ≡ number = cc in ap (λ n. member place (object.Arrow pointer n) name n s) e
target_member place name pointer t s number h = absurd (cc)

-- Where it is none, it has no members.
pub no_object : (place : ℕ) (name : Span) (t : CType) (form : Form) (s : Seen) → structure_of t ≡ None → member_of_object place name t form s ≡ Bad 3 place
no_object place name (Struct k) form s h = absurd (cc)
no_object place name t form s h = refl

pub no_target : (place : ℕ) (name : Span) (pointer : Expr) (t : CType) (s : Seen) → structure_of t ≡ None → member_of_target place name pointer t s ≡ Bad 3 place
no_target place name pointer (Struct k) s h = absurd (cc)
no_target place name pointer t s h = refl

-- the members of an object
pub ruleset object_members = (object_member, value_member, no_object)

-- the members of what a pointer designates
pub ruleset target_members = (target_member, no_target)

words_sum : (structures : List StructInfo) → IsSumOf (λ (m : MemberInfo). words_of structures m.kind) (λ ms. sum (map (λ m. words_of structures m.kind) ms))
words_sum structures = record { none = refl; more = λ m ms. sum_by-cons (λ (n : ℕ). n) (words_of structures m.kind) (map (λ (k : MemberInfo). words_of structures k.kind) ms) }

-- one member more
pub one_member_more : (structures : List StructInfo) (members : List MemberInfo) (i total : ℕ) (m : MemberInfo) (words next : ℕ) →
    i < length members → m ≡ get_or members i m → total ≡ members_words structures (take i members) → words ≡ words_of structures m.kind → words < 2 ^ 32 →
    next ≡ min (total + words) (2 ^ 32 - 1) → next ≡ members_words structures (take (i + 1) members)
one_member_more structures members i total m words next below is so_far counted small added =
    one_more _ _ (words_sum structures) members i total m words next below is so_far (omega (arith, counted)) (λ a b e f. added ∙ told_sum total words a b e f)
