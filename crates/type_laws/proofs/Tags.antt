-- Tags: the structures that they name, and structures whose definition was begun.
use Rattle.std.proofs.Common.{◌≡◌, ℕ, ◌<◌, Bool, true, false, refl, sym, ◌∙◌, ap, subst, List, [], ◌∷◌, ◌++◌, length, length-set, slice_get, Some, None, arith, eq-eqb, inl, inr}
use Rattle.std.specs.Prelude.{◌||◌, nat_eq, slice_set, ◌⊎◌}
use Rattle.scopes.specs.Scope.{Scope, found, declare}
use Rattle.core_unit.specs.declared.tables.StructInfo.{StructInfo}
use Rattle.type_rules.specs.declared.names.Tag.{Tag}
use Rattle.type_rules.specs.declared.names.Tag.TheVariants.{Structure, Enumeration}
use Rattle.type_laws.proofs.Lists.{get_before, get_last, get_inside, length_more, get_other}
use Rattle.type_laws.proofs.Scopes.{found_before}

-- The structure stands in the table without members.
pub record HasNoMembers (structures : List StructInfo) (k : ℕ) : Type 0 where
  pub info : StructInfo
  pub known : slice_get structures k ≡ Some info
  pub unknown : info.members ≡ None

-- A tag names a structure of the table, which has no members while its definition wasn't begun, and no two tags name one.
pub record TagsAreLawful (structures : List StructInfo) (tags : List (Scope Tag)) : Type 0 where
  pub inside : (name k : ℕ) (opened : Bool) → found tags name ≡ Some (Structure k opened) → k < length structures
  pub unbegun : (name k : ℕ) → found tags name ≡ Some (Structure k false) → HasNoMembers structures k
  pub apart : (m n k : ℕ) (a b : Bool) → found tags m ≡ Some (Structure k a) → found tags n ≡ Some (Structure k b) → m ≡ n

-- The definition of the structure was begun, and isn't completed.
pub record IsBegun (structures : List StructInfo) (tags : List (Scope Tag)) (k : ℕ) : Type 0 where
  pub unknown : HasNoMembers structures k
  pub told : (name : ℕ) (opened : Bool) → found tags name ≡ Some (Structure k opened) → opened ≡ true

number_is : (j k : ℕ) (a b : Bool) → Structure j a ≡ Structure k b → j ≡ k
number_is j k a b e = cc

opened_is : (j k : ℕ) (a b : Bool) → Structure j a ≡ Structure k b → a ≡ b
opened_is j k a b e = cc

no_structure : (o : Bool) (k : ℕ) (b : Bool) → Enumeration o ≡ Structure k b → ⊥
no_structure o k b e = cc

or_false : (a b : Bool) → a || b ≡ false → b ≡ false
or_false true b e = absurd (cc)
or_false false b e = e

or_true : (a b : Bool) → b ≡ true → a || b ≡ true
or_true true b e = refl
or_true false b e = e

pub members_missing : (structures : List StructInfo) (k : ℕ) → HasNoMembers structures k → k < length structures
members_missing structures k h = get_inside structures k h.info h.known

-- one structure more
missing_more : (structures : List StructInfo) (new : StructInfo) (k : ℕ) → HasNoMembers structures k → HasNoMembers (structures ++ new ∷ []) k
missing_more structures new k h = record { info = h.info; known = get_before structures new k h.info h.known; unknown = h.unknown }

pub lawful_more : (structures : List StructInfo) (tags : List (Scope Tag)) (new : StructInfo) → TagsAreLawful structures tags → TagsAreLawful (structures ++ new ∷ []) tags
lawful_more structures tags new h = record {
  inside = λ name k opened e. let more = length_more structures new in let before = h.inside name k opened e in omega arith;
  unbegun = λ name k e. missing_more structures new k (h.unbegun name k e);
  apart = h.apart;
}

pub begun_more : (structures : List StructInfo) (tags : List (Scope Tag)) (new : StructInfo) (k : ℕ) → IsBegun structures tags k → IsBegun (structures ++ new ∷ []) tags k
begun_more structures tags new k h = record { unknown = missing_more structures new k h.unknown; told = h.told }

-- the number of a new structure has no tag
pub untagged : (structures : List StructInfo) (tags : List (Scope Tag)) (new : StructInfo) → TagsAreLawful structures tags → new.members ≡ None
    → IsBegun (structures ++ new ∷ []) tags (length structures)
untagged structures tags new h empty = record {
  unknown = record { info = new; known = get_last structures new; unknown = empty };
  told = λ name opened e. let inside = h.inside name (length structures) opened e in absurd (omega arith);
}

-- Tags once a structure has its members, whose definition was begun.
missing_set : (structures : List StructInfo) (k : ℕ) (s : StructInfo) (j : ℕ) → (j ≡ k → ⊥) → HasNoMembers structures j → HasNoMembers (slice_set structures k s) j
missing_set structures k s j other h = record { info = h.info; known = get_other structures k s j other ∙ h.known; unknown = h.unknown }

pub lawful_set : (structures : List StructInfo) (tags : List (Scope Tag)) (k : ℕ) (s : StructInfo) → IsBegun structures tags k → TagsAreLawful structures tags
    → TagsAreLawful (slice_set structures k s) tags
lawful_set structures tags k s begun h = record {
  inside = λ name j opened e. let same = length-set structures k s in let before = h.inside name j opened e in omega arith;
  unbegun = λ name j e.
      missing_set structures k s j (λ same. let clash : false ≡ true = begun.told name false (e ∙ ap (λ n. Some (Structure n false)) same) in absurd (cc)) (h.unbegun name j e);
  apart = h.apart;
}

pub begun_set : (structures : List StructInfo) (tags : List (Scope Tag)) (k : ℕ) (s : StructInfo) (j : ℕ) → (j ≡ k → ⊥) → IsBegun structures tags j
    → IsBegun (slice_set structures k s) tags j
begun_set structures tags k s j other h = record { unknown = missing_set structures k s j other h.unknown; told = h.told }

-- A tag of a structure is named once more.
module _ (structures : List StructInfo) (tags : List (Scope Tag)) (number k : ℕ) (opens opened : Bool) (here : found tags number ≡ Some (Structure k opened)) where
  named_inside : TagsAreLawful structures tags → (name j : ℕ) (b : Bool) → found (declare tags number (Structure k (opens || opened))) name ≡ Some (Structure j b)
      → j < length structures
  named_inside h name j b e = of (found_before tags number (Structure k (opens || opened)) name (Structure j b) e)
    where
      of : ((name ≡ number) × (Structure k (opens || opened) ≡ Structure j b)) ⊎ ((nat_eq name number ≡ false) × (found tags name ≡ Some (Structure j b))) → j < length structures
      of (inl q) = subst (λ n. n < length structures) (number_is k j (opens || opened) b q.1) (h.inside number k opened here)
      of (inr q) = h.inside name j b q.1

  named_unbegun : TagsAreLawful structures tags → (name j : ℕ) → found (declare tags number (Structure k (opens || opened))) name ≡ Some (Structure j false)
      → HasNoMembers structures j
  named_unbegun h name j e = of (found_before tags number (Structure k (opens || opened)) name (Structure j false) e)
    where
      of : ((name ≡ number) × (Structure k (opens || opened) ≡ Structure j false)) ⊎ ((nat_eq name number ≡ false) × (found tags name ≡ Some (Structure j false)))
          → HasNoMembers structures j
      of (inl q) =
          let old : opened ≡ false = or_false opens opened (opened_is k j (opens || opened) false q.1) in
          subst (HasNoMembers structures) (number_is k j (opens || opened) false q.1) (h.unbegun number k (here ∙ ap (λ o. Some (Structure k o)) old))
      of (inr q) = h.unbegun name j q.1

  -- each meaning leads back to one of before, of the same structure
  named_before : (name j : ℕ) (b : Bool) → found (declare tags number (Structure k (opens || opened))) name ≡ Some (Structure j b)
      → (c : Bool) × (found tags name ≡ Some (Structure j c))
  named_before name j b e = of (found_before tags number (Structure k (opens || opened)) name (Structure j b) e)
    where
      of : ((name ≡ number) × (Structure k (opens || opened) ≡ Structure j b)) ⊎ ((nat_eq name number ≡ false) × (found tags name ≡ Some (Structure j b)))
          → (c : Bool) × (found tags name ≡ Some (Structure j c))
      of (inl q) = (opened, ap (found tags) q.0 ∙ here ∙ ap (λ n. Some (Structure n opened)) (number_is k j (opens || opened) b q.1))
      of (inr q) = (b, q.1)

  pub lawful_named : TagsAreLawful structures tags → TagsAreLawful structures (declare tags number (Structure k (opens || opened)))
  lawful_named h = record {
    inside = named_inside h;
    unbegun = named_unbegun h;
    apart = λ m n j a b e f. let p = named_before m j a e in let q = named_before n j b f in h.apart m n j p.0 q.0 p.1 q.1;
  }

  pub begun_named : (j : ℕ) → IsBegun structures tags j → IsBegun structures (declare tags number (Structure k (opens || opened))) j
  begun_named j h = record { unknown = h.unknown; told = λ name b e. of name b (found_before tags number (Structure k (opens || opened)) name (Structure j b) e) }
    where
      of : (name : ℕ) (b : Bool) → ((name ≡ number) × (Structure k (opens || opened) ≡ Structure j b)) ⊎ ((nat_eq name number ≡ false) × (found tags name ≡ Some (Structure j b)))
          → b ≡ true
      of name b (inl q) =
          let old : opened ≡ true = h.told number opened (here ∙ ap (λ n. Some (Structure n opened)) (number_is k j (opens || opened) b q.1)) in
          sym (opened_is k j (opens || opened) b q.1) ∙ or_true opens opened old
      of name b (inr q) = h.told name b q.1

-- Its definition begins: no other tag names it.
pub opens_here : (structures : List StructInfo) (tags : List (Scope Tag)) (number k : ℕ) (here : found tags number ≡ Some (Structure k false))
    → TagsAreLawful structures tags → IsBegun structures (declare tags number (Structure k true)) k
opens_here structures tags number k here h = record { unknown = h.unbegun number k here; told = λ name b e. of name b (found_before tags number (Structure k true) name (Structure k b) e) }
  where
    of : (name : ℕ) (b : Bool) → ((name ≡ number) × (Structure k true ≡ Structure k b)) ⊎ ((nat_eq name number ≡ false) × (found tags name ≡ Some (Structure k b))) → b ≡ true
    of name b (inl q) = sym (opened_is k k true b q.1)
    of name b (inr q) = absurd (eqb_clash name number (h.apart name number k b false q.1 here) q.0)
      where
        eqb_clash : (m n : ℕ) → m ≡ n → nat_eq m n ≡ false → ⊥
        eqb_clash m n same e = let clash : true ≡ false = sym (eq-eqb m n same) ∙ e in cc

-- A tag names a structure that no tag named.
module _ (structures : List StructInfo) (tags : List (Scope Tag)) (number k : ℕ) (opens : Bool) (inside : k < length structures) (missing : HasNoMembers structures k)
    (new : (name : ℕ) (opened : Bool) → found tags name ≡ Some (Structure k opened) → ⊥) where
  first_before : (name j : ℕ) (b : Bool) → found (declare tags number (Structure k opens)) name ≡ Some (Structure j b)
      → ((name ≡ number) × (j ≡ k)) ⊎ ((j ≡ k → ⊥) × (found tags name ≡ Some (Structure j b)))
  first_before name j b e = of (found_before tags number (Structure k opens) name (Structure j b) e)
    where
      of : ((name ≡ number) × (Structure k opens ≡ Structure j b)) ⊎ ((nat_eq name number ≡ false) × (found tags name ≡ Some (Structure j b)))
          → ((name ≡ number) × (j ≡ k)) ⊎ ((j ≡ k → ⊥) × (found tags name ≡ Some (Structure j b)))
      of (inl q) = inl (q.0, sym (number_is k j opens b q.1))
      of (inr q) = inr (λ same. new name b (q.1 ∙ ap (λ n. Some (Structure n b)) same), q.1)

  first_apart : TagsAreLawful structures tags → (m n j : ℕ) (a b : Bool) → ((m ≡ number) × (j ≡ k)) ⊎ ((j ≡ k → ⊥) × (found tags m ≡ Some (Structure j a)))
      → ((n ≡ number) × (j ≡ k)) ⊎ ((j ≡ k → ⊥) × (found tags n ≡ Some (Structure j b))) → m ≡ n
  first_apart h m n j a b (inl p) (inl q) = p.0 ∙ sym q.0
  first_apart h m n j a b (inl p) (inr q) = absurd (q.0 p.1)
  first_apart h m n j a b (inr p) (inl q) = absurd (p.0 q.1)
  first_apart h m n j a b (inr p) (inr q) = h.apart m n j a b p.1 q.1

  pub lawful_first : TagsAreLawful structures tags → TagsAreLawful structures (declare tags number (Structure k opens))
  lawful_first h = record {
    inside = λ name j b e. within name j b (first_before name j b e);
    unbegun = λ name j e. empty name j (first_before name j false e);
    apart = λ m n j a b e f. first_apart h m n j a b (first_before m j a e) (first_before n j b f);
  }
    where
      within : (name j : ℕ) (b : Bool) → ((name ≡ number) × (j ≡ k)) ⊎ ((j ≡ k → ⊥) × (found tags name ≡ Some (Structure j b))) → j < length structures
      within name j b (inl q) = subst (λ n. n < length structures) (sym q.1) inside
      within name j b (inr q) = h.inside name j b q.1

      empty : (name j : ℕ) → ((name ≡ number) × (j ≡ k)) ⊎ ((j ≡ k → ⊥) × (found tags name ≡ Some (Structure j false))) → HasNoMembers structures j
      empty name j (inl q) = subst (HasNoMembers structures) (sym q.1) missing
      empty name j (inr q) = h.unbegun name j q.1

  pub begun_first : (j : ℕ) → (j ≡ k → ⊥) → IsBegun structures tags j → IsBegun structures (declare tags number (Structure k opens)) j
  begun_first j other h = record { unknown = h.unknown; told = λ name b e. of name b (first_before name j b e) }
    where
      of : (name : ℕ) (b : Bool) → ((name ≡ number) × (j ≡ k)) ⊎ ((j ≡ k → ⊥) × (found tags name ≡ Some (Structure j b))) → b ≡ true
      of name b (inl q) = absurd (other q.1)
      of name b (inr q) = h.told name b q.1

  pub first_begun : opens ≡ true → IsBegun structures (declare tags number (Structure k opens)) k
  first_begun opened = record { unknown = missing; told = λ name b e. of name b (found_before tags number (Structure k opens) name (Structure k b) e) }
    where
      of : (name : ℕ) (b : Bool) → ((name ≡ number) × (Structure k opens ≡ Structure k b)) ⊎ ((nat_eq name number ≡ false) × (found tags name ≡ Some (Structure k b))) → b ≡ true
      of name b (inl q) = sym (opened_is k k opens b q.1) ∙ opened
      of name b (inr q) = absurd (new name b q.1)

-- An enumeration's tag names no structure.
module _ (structures : List StructInfo) (tags : List (Scope Tag)) (number : ℕ) (opened : Bool) where
  enumeration_before : (name j : ℕ) (b : Bool) → found (declare tags number (Enumeration opened)) name ≡ Some (Structure j b) → found tags name ≡ Some (Structure j b)
  enumeration_before name j b e = of (found_before tags number (Enumeration opened) name (Structure j b) e)
    where
      of : ((name ≡ number) × (Enumeration opened ≡ Structure j b)) ⊎ ((nat_eq name number ≡ false) × (found tags name ≡ Some (Structure j b))) → found tags name ≡ Some (Structure j b)
      of (inl q) = absurd (no_structure opened j b q.1)
      of (inr q) = q.1

  pub lawful_enumeration : TagsAreLawful structures tags → TagsAreLawful structures (declare tags number (Enumeration opened))
  lawful_enumeration h = record {
    inside = λ name j b e. h.inside name j b (enumeration_before name j b e);
    unbegun = λ name j e. h.unbegun name j (enumeration_before name j false e);
    apart = λ m n j a b e f. h.apart m n j a b (enumeration_before m j a e) (enumeration_before n j b f);
  }

  pub begun_enumeration : (j : ℕ) → IsBegun structures tags j → IsBegun structures (declare tags number (Enumeration opened)) j
  begun_enumeration j h = record { unknown = h.unknown; told = λ name b e. h.told name b (enumeration_before name j b e) }
