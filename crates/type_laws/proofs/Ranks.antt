-- Structures are ranked: those that one holds were complete before it.
use Rattle.std.proofs.Common.{◌≡◌, ℕ, zero, suc, ◌<◌, ◌*◌, Bool, true, false, cond, refl, sym, ◌∙◌, ap, subst, List, [], ◌∷◌, ◌++◌, map, length, slice_get, Option, Some, None, arith, mul-zero, eqb-true, ne_eqb, inl, inr}
use Rattle.std.proofs.lemmas.Bool.{eqb-false}
use Rattle.std.specs.Prelude.{nat_eq, slice_set, ◌⊎◌}
use Rattle.eff_types.specs.declared.types.CType.{CType, Void, Char, Int, Unsigned, Mutex, Struct, Pointer', Array', Function', end_of-CType, more_of-CType}
use Rattle.core_unit.specs.Layout.{words_of, struct_words, told, members_words}
use Rattle.core_unit.specs.Structures.{member_types, structure_in, IsBelow}
use Rattle.core_unit.specs.declared.tables.MemberInfo.{MemberInfo}
use Rattle.core_unit.specs.declared.tables.StructInfo.{StructInfo}
use Rattle.type_laws.proofs.Each.{Each}
use Rattle.type_laws.proofs.Formed.{IsFormed, OpenAreEmpty}
use Rattle.type_laws.proofs.Lists.{get_more, get_set, get_other}
use Rattle.type_laws.proofs.Tags.{HasNoMembers}
use Rattle.type_laws.proofs.Types.{is_object}

pub record AreRankedSoFar (structures : List StructInfo) : Type 0 where
  pub rank : ℕ → ℕ
  -- above all ranks
  pub bound : ℕ
  pub below : (k : ℕ) → rank k < bound
  pub falls : (number : ℕ) → Each (λ t. IsBelow rank (rank number) (structure_in t)) (member_types (slice_get structures number))

-- the structure that a type with words holds has words
product_words : (n w : ℕ) → 0 < told (n * w) → 0 < w
product_words n zero some = let none : n * 0 ≡ 0 = mul-zero n in absurd (omega arith)
product_words n (suc w) some = omega arith

pub held_has_words : (structures : List StructInfo) (t : CType) (k : ℕ) → 0 < words_of structures t → structure_in t ≡ Some k → 0 < struct_words (slice_get structures k)
unfolding words_of structure_in
held_has_words structures (Struct j) k some e = let same : j ≡ k = cc in subst (λ n. 0 < struct_words (slice_get structures n)) same some
held_has_words structures (Array' _ (more_of-CType t end_of-CType) n) k some e = held_has_words structures t k (product_words n (words_of structures t) some) e
held_has_words structures Void k some e = absurd (cc)
held_has_words structures Char k some e = absurd (cc)
held_has_words structures Int k some e = absurd (cc)
held_has_words structures Unsigned k some e = absurd (cc)
held_has_words structures Mutex k some e = absurd (cc)
held_has_words structures (Pointer' _ t) k some e = absurd (cc)
held_has_words structures (Function' _ _ _ _ _) k some e = absurd (cc)

-- what the members of a structure are
pub members_told : (s : StructInfo) (members : Option (List MemberInfo)) → s.members ≡ members → member_types (Some s) ≡ member_types (Some (record s { members = members }))
members_told s members e = ap (λ (o : Option (List MemberInfo)). member_types (Some (record s { members = o }))) e

-- a member of a complete structure
pub record IsLawfulMember (structures : List StructInfo) (m : MemberInfo) : Type 0 where
  pub formed : IsFormed structures m.kind
  pub some : 0 < words_of structures m.kind
  pub solid : is_object m.kind ≡ true

abbrev pub MembersAreLawful : List StructInfo → Type 0
MembersAreLawful structures =
    (k : ℕ) (info : StructInfo) (members : List MemberInfo) → slice_get structures k ≡ Some info → info.members ≡ Some members
    → Each (IsLawfulMember structures) members

-- the words of a complete structure are those of its members
abbrev pub AreSized : List StructInfo → Type 0
AreSized structures =
    (k : ℕ) (info : StructInfo) (members : List MemberInfo) → slice_get structures k ≡ Some info → info.members ≡ Some members
    → info.words ≡ members_words structures members

-- a structure more, that has no members yet
module _ (structures : List StructInfo) (new : StructInfo) (empty : new.members ≡ None) (h : AreRankedSoFar structures) where
  abbrev Falls : ℕ → Option StructInfo → Type 0
  Falls number o = Each (λ t. IsBelow h.rank (h.rank number) (structure_in t)) (member_types o)

  none_falls : (number : ℕ) → Falls number (Some new)
  none_falls number = subst (λ ts. Each (λ t. IsBelow h.rank (h.rank number) (structure_in t)) ts) (sym (members_told new None empty)) tt

  either_falls : (number : ℕ) (s : StructInfo) → (slice_get structures number ≡ Some s) ⊎ ((number ≡ length structures) × (new ≡ s)) → Falls number (Some s)
  either_falls number s (inl old) = subst (Falls number) old (h.falls number)
  either_falls number s (inr q) = subst (λ x. Falls number (Some x)) q.1 (none_falls number)

  each_falls : (number : ℕ) (o : Option StructInfo) → slice_get (structures ++ new ∷ []) number ≡ o → Falls number o
  each_falls number None e = tt
  each_falls number (Some s) e = either_falls number s (get_more structures new number s e)

  pub ranked_more : AreRankedSoFar (structures ++ new ∷ [])
  ranked_more = record {
    rank = h.rank;
    bound = h.bound;
    below = h.below;
    falls = λ number. each_falls number (slice_get (structures ++ new ∷ []) number) refl;
  }

-- A structure that had no members takes them.
module _ (structures : List StructInfo) (k : ℕ) (missing : HasNoMembers structures k) (empty : OpenAreEmpty structures) (lawful : MembersAreLawful structures)
    (h : AreRankedSoFar structures) where
  abbrev raised : ℕ → ℕ
  raised n = cond (nat_eq n k) h.bound (h.rank n)

  abbrev IsOther : CType → Type 0
  IsOther t = (j : ℕ) → structure_in t ≡ Some j → nat_eq j k ≡ false

  abbrev RaisedBelow : ℕ → List CType → Type 0
  RaisedBelow b ts = Each (λ t. IsBelow raised b (structure_in t)) ts

  other_than : (t : CType) → 0 < words_of structures t → IsOther t
  other_than t some j e = ne_eqb j k (λ same.
      let held : 0 < struct_words (slice_get structures k) = subst (λ n. 0 < struct_words (slice_get structures n)) same (held_has_words structures t j some e) in
      let words : 0 < missing.info.words = subst (λ o. 0 < struct_words o) missing.known held in
      let none = empty k missing.info missing.known missing.unknown in
      omega arith)

  others : (ms : List MemberInfo) → Each (IsLawfulMember structures) ms → Each IsOther (map (λ m. m.kind) ms)
  others [] each = tt
  others (m ∷ ms) each = (other_than m.kind each.0.some, others ms each.1)

  shifted : (b : ℕ) (o : Option ℕ) → ((j : ℕ) → o ≡ Some j → nat_eq j k ≡ false) → IsBelow h.rank b o → IsBelow raised b o
  shifted b None other below = tt
  shifted b (Some j) other below = subst (λ test. cond test h.bound (h.rank j) < b) (sym (other j refl)) below

  all_shifted : (b : ℕ) (ts : List CType) → Each IsOther ts → Each (λ t. IsBelow h.rank b (structure_in t)) ts → RaisedBelow b ts
  all_shifted b [] other below = tt
  all_shifted b (t ∷ ts) other below = (shifted b (structure_in t) other.0 below.0, all_shifted b ts other.1 below.1)

  below_bound : (o : Option ℕ) → IsBelow h.rank h.bound o
  below_bound None = tt
  below_bound (Some j) = h.below j

  all_below : (ts : List CType) → Each (λ t. IsBelow h.rank h.bound (structure_in t)) ts
  all_below [] = tt
  all_below (t ∷ ts) = (below_bound (structure_in t), all_below ts)

  -- of the others, nothing changes
  complete_below : (number : ℕ) (s : StructInfo) (members : Option (List MemberInfo)) → slice_get structures number ≡ Some s → s.members ≡ members
      → RaisedBelow (h.rank number) (member_types (Some s))
  complete_below number s None known m = subst (RaisedBelow (h.rank number)) (sym (members_told s None m)) tt
  complete_below number s (Some ms) known m =
      let told = members_told s (Some ms) m in
      let falls : Each (λ t. IsBelow h.rank (h.rank number) (structure_in t)) (member_types (Some s)) =
      subst (λ o. Each (λ t. IsBelow h.rank (h.rank number) (structure_in t)) (member_types o)) known (h.falls number) in
      subst (RaisedBelow (h.rank number)) (sym told)
      (all_shifted (h.rank number) (map (λ m. m.kind) ms) (others ms (lawful number s ms known m))
      (subst (λ ts. Each (λ t. IsBelow h.rank (h.rank number) (structure_in t)) ts) told falls))

  same_below : (number : ℕ) (o : Option StructInfo) → slice_get structures number ≡ o → RaisedBelow (h.rank number) (member_types o)
  same_below number None known = tt
  same_below number (Some s) known = complete_below number s s.members known refl

  pub ranked_set : (new : StructInfo) (ms : List MemberInfo) → new.members ≡ Some ms → Each (IsLawfulMember structures) ms → k < length structures
      → AreRankedSoFar (slice_set structures k new)
  ranked_set new ms complete each inside = record {
    rank = raised;
    bound = suc h.bound;
    below = λ n. within n (nat_eq n k);
    falls = λ number. of number (nat_eq number k) refl;
  }
    where
      within : (n : ℕ) (test : Bool) → cond test h.bound (h.rank n) < suc h.bound
      within n true = omega arith
      within n false = let below = h.below n in omega arith

      here : RaisedBelow h.bound (member_types (Some new))
      here = subst (RaisedBelow h.bound) (sym (members_told new (Some ms) complete)) (all_shifted h.bound (map (λ m. m.kind) ms) (others ms each) (all_below (map (λ m. m.kind) ms)))

      of : (number : ℕ) (test : Bool) → nat_eq number k ≡ test → RaisedBelow (raised number) (member_types (slice_get (slice_set structures k new) number))
      of number true e =
          let same : number ≡ k = eqb-true number k e in
          let found : slice_get (slice_set structures k new) number ≡ Some new = ap (slice_get (slice_set structures k new)) same ∙ get_set structures k new inside in
          subst (λ b. RaisedBelow b (member_types (slice_get (slice_set structures k new) number))) (sym (ap (λ test. cond test h.bound (h.rank number)) e))
          (subst (λ o. RaisedBelow h.bound (member_types o)) (sym found) here)
      of number false e =
          let found : slice_get (slice_set structures k new) number ≡ slice_get structures number = get_other structures k new number (eqb-false number k e) in
          subst (λ b. RaisedBelow b (member_types (slice_get (slice_set structures k new) number))) (sym (ap (λ test. cond test h.bound (h.rank number)) e))
          (subst (λ o. RaisedBelow (h.rank number) (member_types o)) (sym found) (same_below number (slice_get structures number) refl))
