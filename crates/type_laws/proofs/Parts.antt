-- The parts of an object: what is known of the type of each, and that the tables of the whole unit have the same.
use Rattle.std.proofs.Common.{◌≡◌, ℕ, zero, suc, ◌<◌, ◌*◌, Bool, true, false, refl, sym, ◌∙◌, ap, subst, List, [], ◌∷◌, map, sum, replicate, slice_get, Option, Some, None, arith, zero-mul, suc-mul, ltb-true}
use Rattle.std.proofs.lemmas.List.Sums.{sum_by-cons}
use Rattle.std.proofs.lemmas.Option.{slice_get-map}
use Rattle.std.specs.Option.{option_map}
use Rattle.std.specs.Prelude.{nat_lt, if◌then◌else◌}
use Rattle.eff_types.specs.declared.types.CType.{CType, Void, Char, Int, Unsigned, Mutex, Struct, Pointer', Array', Function', end_of-CType, more_of-CType}
use Rattle.core_unit.specs.Layout.{words_of, struct_words, told, members_words}
use Rattle.core_unit.specs.Shapes.{is_aggregate}
use Rattle.core_unit.specs.Structures.{member_types}
use Rattle.core_unit.specs.Typed.{Tables, part_types}
use Rattle.core_unit.specs.declared.tables.MemberInfo.{MemberInfo}
use Rattle.core_unit.specs.declared.tables.StructInfo.{StructInfo}
use Rattle.type_rules.specs.Access.{known_members}
use Rattle.type_rules.specs.Initializers.{member_kind, part_type}
use Rattle.type_rules.specs.Seen.{Seen}
use Rattle.type_laws.proofs.Each.{each_get}
use Rattle.type_laws.proofs.Filling.{total}
use Rattle.type_laws.proofs.Formed.{IsFormed, Stay, StaysBy}
use Rattle.type_laws.proofs.Members.{members_words_stay}
use Rattle.type_laws.proofs.Ranks.{members_told}
use Rattle.type_laws.proofs.Triples.{IsLawfulMember, Lawful}

-- a complete structure stands in the tables as it was seen
pub complete_there : (s : Seen) (u : Tables) (k : ℕ) (info : StructInfo) (ms : List MemberInfo) → Stay s.structures u.structures → slice_get s.structures k ≡ Some info → info.members ≡ Some ms
    → slice_get u.structures k ≡ Some info
complete_there s u k info ms stay known complete = subst (λ (o : Option (List MemberInfo)). StaysBy o info (slice_get u.structures k)) complete (stay.each k info known)

total_copies : (structures : List StructInfo) (t : CType) (n : ℕ) → total structures (replicate n t) ≡ n * words_of structures t
total_copies structures t zero = sym (zero-mul (words_of structures t))
total_copies structures t (suc n) = let rest = total_copies structures t n in let more = suc-mul n (words_of structures t) in omega (arith, rest, more)

total_members : (structures : List StructInfo) (ms : List MemberInfo) → total structures (map (λ m. m.kind) ms) ≡ sum (map (λ m. words_of structures m.kind) ms)
total_members structures [] = refl
total_members structures (m ∷ ms) =
    let first = sum_by-cons (λ (x : ℕ). x) (words_of structures m.kind) (map (λ m. words_of structures m.kind) ms) in
    let rest = total_members structures ms in
    omega (arith, first, rest)

module _ (s : Seen) (lawful : Lawful s) (u : Tables) (stay : Stay s.structures u.structures) where
  struct_total : (k : ℕ) (found : Option StructInfo) → slice_get s.structures k ≡ found → 0 < struct_words found
      → struct_words (slice_get u.structures k) ≡ told (total u.structures (member_types (slice_get u.structures k)))
  struct_total k None known some = absurd (omega arith)
  struct_total k (Some info) known some = of info.members refl
    where
      of : (members : Option (List MemberInfo)) → info.members ≡ members
          → struct_words (slice_get u.structures k) ≡ told (total u.structures (member_types (slice_get u.structures k)))
      of None m = let none = lawful.open_are_empty k info known m in absurd (omega arith)
      of (Some ms) m =
          let there = complete_there s u k info ms stay known m in
          let words : info.words ≡ members_words u.structures ms =
          lawful.sized k info ms known m ∙ members_words_stay s.structures u.structures ms stay lawful.open_are_empty (lawful.members_lawful k info ms known m) in
          let types : member_types (slice_get u.structures k) ≡ map (λ m. m.kind) ms = ap member_types there ∙ members_told info (Some ms) m in
          ap struct_words there ∙ words ∙ ap told (sym (total_members u.structures ms)) ∙ ap (λ ts. told (total u.structures ts)) (sym types)

  -- an object has the words of its parts, as far as 32 bits tell them
  pub told_total : (t : CType) → is_aggregate t ≡ true → 0 < words_of s.structures t → words_of u.structures t ≡ told (total u.structures (part_types u.structures t))
  unfolding words_of
  told_total (Array' _ (more_of-CType t end_of-CType) n) aggregate some = ap told (sym (total_copies u.structures t n))
  told_total (Struct k) aggregate some = struct_total k (slice_get s.structures k) refl some
  told_total Void aggregate some = absurd (cc)
  told_total Char aggregate some = absurd (cc)
  told_total Int aggregate some = absurd (cc)
  told_total Unsigned aggregate some = absurd (cc)
  told_total Mutex aggregate some = absurd (cc)
  told_total (Pointer' _ t) aggregate some = absurd (cc)
  told_total (Function' _ _ _ _ _) aggregate some = absurd (cc)

copy_at : (n : ℕ) (t : CType) (k : ℕ) → k < n → slice_get (replicate n t) k ≡ Some t
copy_at zero t k below = absurd (omega arith)
copy_at (suc n) t zero below = refl
copy_at (suc n) t (suc k) below = copy_at n t k (omega arith)

-- what a part is
pub record IsPart (s : Seen) (t : CType) (index : ℕ) (x : CType) : Type 0 where
  pub formed : IsFormed s.structures x
  pub some : 0 < words_of s.structures x
  pub there : (u : Tables) → Stay s.structures u.structures → slice_get (part_types u.structures t) index ≡ Some x

module _ (s : Seen) (lawful : Lawful s) (index : ℕ) (x : CType) where
  member_is : (k : ℕ) (info : StructInfo) (ms : List MemberInfo) (found : Option MemberInfo) → slice_get s.structures k ≡ Some info → info.members ≡ Some ms
      → slice_get ms index ≡ found → option_map (λ m. m.kind) found ≡ Some x → IsPart s (Struct k) index x
  member_is k info ms None known m there is = absurd (cc)
  member_is k info ms (Some member) known m there is =
      let same : member.kind ≡ x = cc in
      let h = each_get (IsLawfulMember s.structures) ms index member (lawful.members_lawful k info ms known m) there in
      record {
        formed = subst (IsFormed s.structures) same h.formed;
        some = subst (λ y. 0 < words_of s.structures y) same h.some;
        there = λ u stay.
            ap (λ ts. slice_get ts index) (ap member_types (complete_there s u k info ms stay known m) ∙ members_told info (Some ms) m)
            ∙ slice_get-map (λ m. m.kind) ms index ∙ ap (option_map (λ m. m.kind)) there ∙ is;
      }

  struct_is : (k : ℕ) (info : StructInfo) (members : Option (List MemberInfo)) → slice_get s.structures k ≡ Some info → info.members ≡ members
      → member_kind members index ≡ Some x → IsPart s (Struct k) index x
  struct_is k info None known m is = absurd (cc)
  struct_is k info (Some ms) known m is = member_is k info ms (slice_get ms index) known m refl is

  found_is : (k : ℕ) (found : Option StructInfo) → slice_get s.structures k ≡ found → member_kind (known_members found) index ≡ Some x → IsPart s (Struct k) index x
  found_is k None known is = absurd (cc)
  found_is k (Some info) known is = struct_is k info info.members known refl is

  element_is : (t whole : CType) (n : ℕ) (test : Bool) → nat_lt index n ≡ test → IsFormed s.structures t → 0 < words_of s.structures t → (if test then Some t else None) ≡ Some x
      → ((structures : List StructInfo) → part_types structures whole ≡ replicate n t) → IsPart s whole index x
  element_is t whole n false below formed some is parts = absurd (cc)
  element_is t whole n true below formed some is parts =
      let same : t ≡ x = cc in
      record {
        formed = subst (IsFormed s.structures) same formed;
        some = subst (λ y. 0 < words_of s.structures y) same some;
        there = λ u stay. ap (λ ts. slice_get ts index) (parts u.structures) ∙ copy_at n t index (ltb-true index n below) ∙ is;
      }

  pub part_is : (t : CType) → IsFormed s.structures t → part_type s.structures t index ≡ Some x → IsPart s t index x
  unfolding IsFormed
  part_is (Array' p (more_of-CType t end_of-CType) n) formed is =
      element_is t (Array' p (more_of-CType t end_of-CType) n) n (nat_lt index n) refl formed.0 formed.1 is (λ structures. refl)
  part_is (Struct k) formed is = found_is k (slice_get s.structures k) refl is
  part_is Void formed is = absurd (cc)
  part_is Char formed is = absurd (cc)
  part_is Int formed is = absurd (cc)
  part_is Unsigned formed is = absurd (cc)
  part_is Mutex formed is = absurd (cc)
  part_is (Pointer' _ t) formed is = absurd (cc)
  part_is (Function' _ _ _ _ _) formed is = absurd (cc)
