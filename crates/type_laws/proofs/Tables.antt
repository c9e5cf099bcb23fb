-- What was seen stays lawful where a structure is added, takes its members, or is named by a tag.
use Rattle.std.proofs.Common.{◌≡◌, ℕ, ◌<◌, ◌%◌, ◌^◌, Bool, true, false, refl, sym, ◌∙◌, ap, subst, List, [], ◌∷◌, ◌++◌, map, sum, length, length-set, slice_get, Option, Some, None, arith, eqb-true, inl, inr}
use Rattle.std.proofs.lemmas.Bool.{eqb-false}
use Rattle.std.proofs.lemmas.List.Sums.{sum_by-cons}
use Rattle.std.specs.Prelude.{nat_eq, slice_set, ◌⊎◌}
use Rattle.scopes.specs.Scope.{Scope}
use Rattle.eff_types.specs.declared.types.CType.TheVariants as a_type
use Rattle.core_unit.specs.Layout.{words_of, members_words}
use Rattle.core_unit.specs.declared.tables.MemberInfo.{MemberInfo}
use Rattle.core_unit.specs.declared.tables.StructInfo.{StructInfo}
use Rattle.type_rules.specs.Seen.{Seen}
use Rattle.type_rules.specs.declared.names.Entity.{Entity}
use Rattle.type_rules.specs.declared.names.Entity.TheVariants.{Variable, Function, TypeName, Enumerator, Library, NullPointer, MutexInitializer}
use Rattle.type_rules.specs.declared.names.Tag.{Tag}
use Rattle.type_laws.proofs.Each.{each_as, each_get, each_more, each_set}
use Rattle.type_laws.proofs.Formed.{Stay, StaysBy, StaysAs, OpenAreEmpty, CompleteHaveWords, formed_stays, words_stay}
use Rattle.type_laws.proofs.Lists.{get_before, get_more, length_more, get_set, get_other, get_after_set}
use Rattle.type_laws.proofs.Members.{members_words_stay}
use Rattle.type_laws.proofs.Objects.{objects_stay}
use Rattle.type_laws.proofs.Ranks.{ranked_more, ranked_set}
use Rattle.type_laws.proofs.Tags.{HasNoMembers, TagsAreLawful, IsBegun, members_missing, lawful_more, lawful_set}
use Rattle.type_laws.proofs.Triples.{Each, IsLawfulEntity, IsDeclared, IsLawfulMember, MembersAreLawful, AreSized, AreRankedSoFar, IsSolidVariable, Lawful}

entity_stays : (before after : List StructInfo) (functions : ℕ) (e : Entity) → Stay before after → OpenAreEmpty before → IsLawfulEntity before functions e
    → IsLawfulEntity after functions e
entity_stays before after functions (Variable t storage number) stay empty h = (formed_stays before after t stay empty h.0, h.1)
entity_stays before after functions (TypeName t) stay empty h = formed_stays before after t stay empty h
entity_stays before after functions (Function n) stay empty h = h
entity_stays before after functions (Enumerator bits) stay empty h = h
entity_stays before after functions (Library row) stay empty h = h
entity_stays before after functions NullPointer stay empty h = h
entity_stays before after functions MutexInitializer stay empty h = h

pub member_stays : (before after : List StructInfo) (m : MemberInfo) → Stay before after → OpenAreEmpty before → IsLawfulMember before m → IsLawfulMember after m
member_stays before after m stay empty h = record {
  formed = formed_stays before after m.kind stay empty h.formed;
  some = subst (λ words. 0 < words) (sym (words_stay before after m.kind stay empty h.formed h.some)) h.some;
  solid = h.solid;
}

pub members_stay : (before after : List StructInfo) (ms : List MemberInfo) → Stay before after → OpenAreEmpty before → Each (IsLawfulMember before) ms
    → Each (IsLawfulMember after) ms
members_stay before after ms stay empty each = each_as (IsLawfulMember before) (IsLawfulMember after) ms (λ m h. member_stays before after m stay empty h) each

-- the table of structures changes, and all that was seen stays
pub lawful_structures : (s : Seen) (after : List StructInfo) (sizes : List ℕ) → Lawful s → Stay s.structures after → OpenAreEmpty after → CompleteHaveWords after
    → MembersAreLawful after → AreSized after → Each (λ words. words < 2 ^ 32) sizes → TagsAreLawful after s.tags → AreRankedSoFar after
    → Lawful (record s { structures = after; sizes = sizes })
lawful_structures s after sizes lawful stay empty complete members sized few tags ranked = record {
  bytes = lawful.bytes;
  scoped = lawful.scoped;
  entities = each_as _ (Each (λ entry. IsLawfulEntity after (length s.functions) entry.1)) s.scopes (λ scope each.
      each_as (λ entry. IsLawfulEntity s.structures (length s.functions) entry.1) (λ entry. IsLawfulEntity after (length s.functions) entry.1) scope
      (λ entry h. entity_stays s.structures after (length s.functions) entry.1 stay lawful.open_are_empty h) each) lawful.entities;
  functions_formed = each_as (IsDeclared s.structures) (IsDeclared after) s.functions
      (λ f h. record { formed = formed_stays s.structures after (a_type.Function f.kind) stay lawful.open_are_empty h.formed; fits = h.fits; unframed = h.unframed }) lawful.functions_formed;
  open_are_empty = empty;
  complete_have_words = complete;
  members_lawful = members;
  sized = sized;
  few = few;
  statics_stand = lawful.statics_stand;
  threads_stand = lawful.threads_stand;
  tags_lawful = tags;
  ranked = ranked;
  variables_solid = each_as (IsSolidVariable s.structures) (IsSolidVariable after) s.variables (λ v h. (
    formed_stays s.structures after v.kind stay lawful.open_are_empty h.0,
    subst (λ words. 0 < words) (sym (words_stay s.structures after v.kind stay lawful.open_are_empty h.0 h.1)) h.1,
  )) lawful.variables_solid;
  objects_known = objects_stay s.structures after s.variables s.statics s.thread_locals (λ number info known.
      let h = each_get (IsSolidVariable s.structures) s.variables number info lawful.variables_solid known in
      words_stay s.structures after info.kind stay lawful.open_are_empty h.0 h.1) lawful.objects_known;
  whole_fits = lawful.whole_fits;
}

pub lawful_tags : (s : Seen) (tags : List (Scope Tag)) → Lawful s → TagsAreLawful s.structures tags → Lawful (record s { tags = tags })
lawful_tags s tags lawful h = record {
  bytes = lawful.bytes;
  scoped = lawful.scoped;
  entities = lawful.entities;
  functions_formed = lawful.functions_formed;
  open_are_empty = lawful.open_are_empty;
  complete_have_words = lawful.complete_have_words;
  members_lawful = lawful.members_lawful;
  sized = lawful.sized;
  few = lawful.few;
  statics_stand = lawful.statics_stand;
  threads_stand = lawful.threads_stand;
  tags_lawful = h;
  ranked = lawful.ranked;
  variables_solid = lawful.variables_solid;
  objects_known = lawful.objects_known;
  whole_fits = lawful.whole_fits;
}

stays_at : (s : StructInfo) (members : Option (List MemberInfo)) (after : Option StructInfo) → s.members ≡ members → after ≡ Some s → StaysBy members s after
stays_at s (Some members) after m e = e
stays_at s None after m e = subst (λ (o : Option StructInfo). StaysBy None s o) (sym e) tt

-- a structure more
abbrev pub without_members : Option (List ℕ) → StructInfo
without_members tag = record { tag = tag; members = None; words = 0 }

module _ (structures : List StructInfo) (tag : Option (List ℕ)) where
  abbrev more : List StructInfo
  more = structures ++ without_members tag ∷ []

  pub stay_more : Stay structures more
  stay_more = record {
    many = let length = length_more structures (without_members tag) in omega arith;
    each = λ k s e. stays_at s s.members (slice_get more k) refl (get_before structures (without_members tag) k s e);
  }

  empty_either : (k : ℕ) (s : StructInfo) → OpenAreEmpty structures → (slice_get structures k ≡ Some s) ⊎ ((k ≡ length structures) × (without_members tag ≡ s))
      → s.members ≡ None → s.words ≡ 0
  empty_either k s h (inl e) m = h k s e m
  empty_either k s h (inr e) m = ap (λ (x : StructInfo). x.words) (sym e.1)

  complete_either : (k : ℕ) (s : StructInfo) (members : List MemberInfo) → (P : Type 0) → (slice_get structures k ≡ Some s → s.members ≡ Some members → P)
      → (slice_get structures k ≡ Some s) ⊎ ((k ≡ length structures) × (without_members tag ≡ s)) → s.members ≡ Some members → P
  complete_either k s members P h (inl e) m = h e m
  complete_either k s members P h (inr e) m = let clash : None ≡ Some members = ap (λ (x : StructInfo). x.members) e.1 ∙ m in absurd (cc)

  pub empty_more : OpenAreEmpty structures → OpenAreEmpty more
  empty_more h k s e m = empty_either k s h (get_more structures (without_members tag) k s e) m

  pub complete_more : CompleteHaveWords structures → CompleteHaveWords more
  complete_more h k s members e m =
      complete_either k s members (0 < s.words) (λ x y. h k s members x y) (get_more structures (without_members tag) k s e) m

  pub members_more : OpenAreEmpty structures → MembersAreLawful structures → MembersAreLawful more
  members_more empty h k s members e m =
      complete_either k s members (Each (IsLawfulMember more) members) (λ x y. members_stay structures more members stay_more empty (h k s members x y))
      (get_more structures (without_members tag) k s e) m

  pub sized_more : OpenAreEmpty structures → MembersAreLawful structures → AreSized structures → AreSized more
  sized_more empty lawful h k s members e m =
      complete_either k s members (s.words ≡ members_words more members) (λ x y.
      h k s members x y ∙ members_words_stay structures more members stay_more empty (lawful k s members x y))
      (get_more structures (without_members tag) k s e) m

pub lawful_added : (s : Seen) (tag : Option (List ℕ)) → Lawful s
    → Lawful (record s { structures = s.structures ++ without_members tag ∷ []; sizes = s.sizes ++ 0 ∷ [] })
lawful_added s tag lawful =
    lawful_structures s (s.structures ++ without_members tag ∷ []) (s.sizes ++ 0 ∷ []) lawful (stay_more s.structures tag)
    (empty_more s.structures tag lawful.open_are_empty) (complete_more s.structures tag lawful.complete_have_words)
    (members_more s.structures tag lawful.open_are_empty lawful.members_lawful)
    (sized_more s.structures tag lawful.open_are_empty lawful.members_lawful lawful.sized) (each_more (λ words. words < 2 ^ 32) s.sizes 0 lawful.few (omega arith))
    (lawful_more s.structures s.tags (without_members tag) lawful.tags_lawful) (ranked_more s.structures (without_members tag) refl lawful.ranked)

-- A structure whose definition was begun takes its members.
abbrev pub with_members : List StructInfo → Option (List ℕ) → List MemberInfo → StructInfo
with_members structures tag members = record { tag = tag; members = Some members; words = members_words structures members }

module _ (structures : List StructInfo) (k : ℕ) (missing : HasNoMembers structures k) (tag : Option (List ℕ)) (ms : List MemberInfo) where
  abbrev set : List StructInfo
  set = slice_set structures k (with_members structures tag ms)

  inside : k < length structures
  inside = members_missing structures k missing

  stays_set : (j : ℕ) (s : StructInfo) → slice_get structures j ≡ Some s → (test : Bool) → nat_eq j k ≡ test → StaysAs s (slice_get set j)
  stays_set j s e true t =
      let here : Some s ≡ Some missing.info = sym e ∙ ap (slice_get structures) (eqb-true j k t) ∙ missing.known in
      let same : s ≡ missing.info = cc in
      let there : slice_get set j ≡ Some (with_members structures tag ms) =
      ap (slice_get set) (eqb-true j k t) ∙ get_set structures k (with_members structures tag ms) inside in
      subst (λ (o : Option (List MemberInfo)). StaysBy o s (slice_get set j)) (sym (ap (λ (x : StructInfo). x.members) same ∙ missing.unknown))
      (subst (λ (o : Option StructInfo). StaysBy None s o) (sym there) tt)
  stays_set j s e false t = stays_at s s.members (slice_get set j) refl (get_other structures k (with_members structures tag ms) j (eqb-false j k t) ∙ e)

  pub stay_set : Stay structures set
  stay_set = record {
    many = let same = length-set structures k (with_members structures tag ms) in omega arith;
    each = λ j s e. stays_set j s e (nat_eq j k) refl;
  }

  pub empty_set : OpenAreEmpty structures → OpenAreEmpty set
  empty_set h j s e m = of (get_after_set structures k (with_members structures tag ms) j s inside e)
    where
      of : ((j ≡ k) × (with_members structures tag ms ≡ s)) ⊎ ((j ≡ k → ⊥) × (slice_get structures j ≡ Some s)) → s.words ≡ 0
      of (inl q) = let clash : Some ms ≡ None = ap (λ (x : StructInfo). x.members) q.1 ∙ m in absurd (cc)
      of (inr q) = h j s q.1 m

  -- members with words make a structure with words
  sum_words : (structures : List StructInfo) (ms : List MemberInfo) → Each (IsLawfulMember structures) ms → 0 < length ms → 0 < sum (map (λ m. words_of structures m.kind) ms)
  sum_words structures [] each some = absurd (omega arith)
  sum_words structures (m ∷ ms) each some =
      let first = sum_by-cons (λ (x : ℕ). x) (words_of structures m.kind) (map (λ m. words_of structures m.kind) ms) in let here = each.0.some in omega (arith, first)

  pub complete_set : Each (IsLawfulMember structures) ms → 0 < length ms → CompleteHaveWords structures → CompleteHaveWords set
  complete_set each some h j s members e m = of (get_after_set structures k (with_members structures tag ms) j s inside e)
    where
      of : ((j ≡ k) × (with_members structures tag ms ≡ s)) ⊎ ((j ≡ k → ⊥) × (slice_get structures j ≡ Some s)) → 0 < s.words
      of (inl q) =
          let words = sum_words structures ms each some in
          let told_words : 0 < members_words structures ms = omega arith in
          subst (λ (x : StructInfo). 0 < x.words) q.1 told_words
      of (inr q) = h j s members q.1 m

  pub members_set : OpenAreEmpty structures → Each (IsLawfulMember structures) ms → MembersAreLawful structures → MembersAreLawful set
  members_set empty each h j s members e m = of (get_after_set structures k (with_members structures tag ms) j s inside e)
    where
      of : ((j ≡ k) × (with_members structures tag ms ≡ s)) ⊎ ((j ≡ k → ⊥) × (slice_get structures j ≡ Some s)) → Each (IsLawfulMember set) members
      of (inl q) =
          let told : Some ms ≡ Some members = ap (λ (x : StructInfo). x.members) q.1 ∙ m in
          let same : ms ≡ members = cc in
          subst (Each (IsLawfulMember set)) same (members_stay structures set ms stay_set empty each)
      of (inr q) = members_stay structures set members stay_set empty (h j s members q.1 m)

  pub sized_set : OpenAreEmpty structures → Each (IsLawfulMember structures) ms → MembersAreLawful structures → AreSized structures → AreSized set
  sized_set empty each lawful h j s members e m = of (get_after_set structures k (with_members structures tag ms) j s inside e)
    where
      of : ((j ≡ k) × (with_members structures tag ms ≡ s)) ⊎ ((j ≡ k → ⊥) × (slice_get structures j ≡ Some s)) → s.words ≡ members_words set members
      of (inl q) =
          let told : Some ms ≡ Some members = ap (λ (x : StructInfo). x.members) q.1 ∙ m in
          let same : ms ≡ members = cc in
          ap (λ (x : StructInfo). x.words) (sym q.1) ∙ members_words_stay structures set ms stay_set empty each ∙ ap (members_words set) same
      of (inr q) = h j s members q.1 m ∙ members_words_stay structures set members stay_set empty (lawful j s members q.1 m)

pub lawful_completed : (s : Seen) (k : ℕ) (tag : Option (List ℕ)) (ms : List MemberInfo) (n : ℕ) → Lawful s → IsBegun s.structures s.tags k
    → Each (IsLawfulMember s.structures) ms → 0 < length ms
    → Lawful (record s { structures = slice_set s.structures k (with_members s.structures tag ms); sizes = slice_set s.sizes k (n % 2 ^ 32) })
lawful_completed s k tag ms n lawful begun each some =
    let missing = begun.unknown in
    lawful_structures s (slice_set s.structures k (with_members s.structures tag ms)) (slice_set s.sizes k (n % 2 ^ 32)) lawful
    (stay_set s.structures k missing tag ms) (empty_set s.structures k missing tag ms lawful.open_are_empty)
    (complete_set s.structures k missing tag ms each some lawful.complete_have_words)
    (members_set s.structures k missing tag ms lawful.open_are_empty each lawful.members_lawful)
    (sized_set s.structures k missing tag ms lawful.open_are_empty each lawful.members_lawful lawful.sized)
    (each_set (λ words. words < 2 ^ 32) s.sizes k (n % 2 ^ 32) lawful.few (omega arith))
    (lawful_set s.structures s.tags k (with_members s.structures tag ms) begun lawful.tags_lawful)
    (ranked_set s.structures k missing lawful.open_are_empty lawful.members_lawful lawful.ranked (with_members s.structures tag ms) ms refl each
    (members_missing s.structures k missing))
