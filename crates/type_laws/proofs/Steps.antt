-- Steps that a rule takes: names and sites are noted, names are declared, and of rules that fail at one name the lowest is answered.
use Rattle.std.proofs.Common.{◌≡◌, ℕ, Bool, true, false, ◌<◌, refl, sym, ◌∙◌, ap, subst, ne_eqb, inl, inr, Option, Some, None, List, [], ◌∷◌, drop, length}
use Rattle.std.specs.Prelude.{◌⊎◌, nat_eq, is_some}
use Rattle.scopes.specs.Scope.{Scope, found_here, declare}
use Rattle.eff_types.specs.declared.types.CType.{CType}
use Rattle.core_unit.specs.Typed.{Tables}
use Rattle.core_unit.specs.declared.expressions.Storage.{Storage}
use Rattle.type_rules.specs.Declarators.{faults}
use Rattle.type_rules.specs.Reading.{Read, Good, Bad, and_then}
use Rattle.type_rules.specs.Seen.{Seen}
use Rattle.type_rules.specs.declared.names.Entity.{Entity}
use Rattle.type_rules.specs.declared.names.Entity.TheVariants.{Variable}
use Rattle.type_laws.proofs.Formed.{stay_same, stay_twice}
use Rattle.type_laws.proofs.Left.{Left}
use Rattle.type_laws.proofs.Scopes.{each_declared, here_other, here_before}
use Rattle.type_laws.proofs.Triples.{IsLawfulEntity, IsKnownEntity, Lawful, Leads, Made, Holds, Triple, made_behind}

module _ {A : Type 0} {pre : Tables → Type 0} {K : A → Seen → Type 0} {P : A → Tables → Type 0} where
  -- the spellings of names and the number of the next site are nothing to a triple
  pub noted_triple : (s : Seen) (names : List (List ℕ)) (sites : ℕ) (r : Read A) → Triple pre K P (record s { names = names; sites = sites }) r → Triple pre K P s r
  noted_triple s names sites (Bad number place) h = record { holds = tt }
  noted_triple s names sites (Good a t) h = record {
    holds = record {
      lawful = h.holds.lawful;
      stay = h.holds.stay;
      known = h.holds.known;
      outer = h.holds.outer;
      back = h.holds.back;
      begun = h.holds.begun;
      calm = h.holds.calm;
      here = h.holds.here;
      old = h.holds.old;
      tables = h.holds.tables;
    };
  }

  -- a rule begins, of which all is asked that it made
  pub whole_of : {B : Type 0} (R : B → Seen → Type 0) (s : Seen) (r : Read A) (k : A → Seen → Read B) → Triple pre K P s r
      → ((a : A) (t : Seen) → Made pre K P s a t → Holds R (k a t)) → Holds R (and_then r k)
  unfolding and_then
  whole_of R s (Good a t) k h next = next a t h.holds
  whole_of R s (Bad number place) k h next = tt

  pub faults_keep : (s : Seen) (a b c d : Bool) (place : ℕ) (k : Unit {0} → Seen → Read A)
      → (a ≡ false → b ≡ false → c ≡ false → d ≡ false → Triple pre K P s (k tt s)) → Triple pre K P s (and_then (faults a b c d place s) k)
  unfolding and_then
  faults_keep s true b c d place k next = record { holds = tt }
  faults_keep s false true c d place k next = record { holds = tt }
  faults_keep s false false true d place k next = record { holds = tt }
  faults_keep s false false false true place k next = record { holds = tt }
  faults_keep s false false false false place k next = next refl refl refl refl

-- what holds under a condition holds under one that asks for more
pub under : {A : Type 0} {K : A → Seen → Type 0} {P : A → Tables → Type 0} (less more : Tables → Type 0) (s : Seen) (r : Read A)
    → ((u : Tables) → Leads s u → more u → less u) → Triple less K P s r → Triple more K P s r
under less more s (Bad number place) asks h = record { holds = tt }
under less more s (Good a t) asks h = record {
  holds = record {
    lawful = h.holds.lawful;
    stay = h.holds.stay;
    known = h.holds.known;
    outer = h.holds.outer;
    back = h.holds.back;
    begun = h.holds.begun;
    calm = h.holds.calm;
    here = h.holds.here;
    old = h.holds.old;
    tables = λ u leads knows p. h.holds.tables u leads knows (asks u (h.holds.back u leads) p);
  };
}

outer_declared : (scopes : List (Scope Entity)) (name : ℕ) (e : Entity) → drop 1 (declare scopes name e) ≡ drop 1 scopes
outer_declared [] name e = refl
outer_declared (scope ∷ outer) name e = refl

pub lawful_declared : (s : Seen) (name : ℕ) (e : Entity) → Lawful s → IsLawfulEntity s.structures (length s.functions) e → Lawful (record s { scopes = declare s.scopes name e })
lawful_declared s name e lawful entity = record {
  bytes = lawful.bytes;
  scoped = subst (λ (outer : List (Scope Entity)). 0 < length outer) (sym (outer_declared s.scopes name e)) lawful.scoped;
  entities = each_declared (IsLawfulEntity s.structures (length s.functions)) s.scopes name e lawful.entities entity;
  functions_formed = lawful.functions_formed;
  open_are_empty = lawful.open_are_empty;
  complete_have_words = lawful.complete_have_words;
  members_lawful = lawful.members_lawful;
  sized = lawful.sized;
  few = lawful.few;
  statics_stand = lawful.statics_stand;
  threads_stand = lawful.threads_stand;
  tags_lawful = lawful.tags_lawful;
  ranked = lawful.ranked;
  variables_solid = lawful.variables_solid;
  objects_known = lawful.objects_known;
  whole_fits = lawful.whole_fits;
}

-- A name is declared that had no meaning here before the rule was read.
pub declared_made : {A B : Type 0} (pre : Tables → Type 0) (K : B → Seen → Type 0) (P : B → Tables → Type 0) (L : A → Seen → Type 0) (Q : A → Tables → Type 0) (s : Seen) (b : B) (t : Seen)
    (name : ℕ) (e : Entity) (a : A) → is_some (found_here s.scopes name) ≡ false → ((t' : CType) (storage : Storage) (n : Option ℕ) → e ≡ Variable t' storage n → ⊥) → Made pre K P s b t → IsLawfulEntity t.structures (length t.functions) e
    → L a (record t { scopes = declare t.scopes name e }) → ((u : Tables) → Leads t u → P b u → IsKnownEntity u e × Q a u)
    → Made pre L Q s a (record t { scopes = declare t.scopes name e })
declared_made pre K P L Q s b t name e a new other h entity known tables = record {
  lawful = lawful_declared t name e h.lawful entity;
  stay = h.stay;
  known = known;
  outer = outer_declared t.scopes name e ∙ h.outer;
  back = h.back;
  begun = h.begun;
  calm = h.calm;
  here = λ m x is. here_other t.scopes name e m (ne_eqb m name (λ same. missing (found_here s.scopes name) x new (ap (found_here s.scopes) (sym same) ∙ is))) ∙ h.here m x is;
  old = λ m t' storage n is. before m t' storage n (here_before t.scopes name e m (Variable t' storage n) is);
  tables = λ u leads knows p.
      let old = h.tables u leads knows p in
      let more = tables u leads old.1 in
      (each_declared (IsKnownEntity u) t.scopes name e old.0 more.0, more.1);
}
  where
    before : (m : ℕ) (t' : CType) (storage : Storage) (n : Option ℕ)
        → ((m ≡ name) × (e ≡ Variable t' storage n)) ⊎ ((nat_eq m name ≡ false) × (found_here t.scopes m ≡ Some (Variable t' storage n)))
        → found_here s.scopes m ≡ Some (Variable t' storage n)
    before m t' storage n (inl q) = absurd (other t' storage n q.1)
    before m t' storage n (inr q) = h.old m t' storage n q.1

    missing : (o : Option Entity) (x : Entity) → is_some o ≡ false → o ≡ Some x → ⊥
    missing None x new is = cc
    missing (Some y) x new is = cc

-- the same without tables
pub declared_left : {A : Type 0} (K : A → Seen → Type 0) (s : Seen) (name : ℕ) (e : Entity) (a : A) → Lawful s
    → IsLawfulEntity s.structures (length s.functions) e → K a (record s { scopes = declare s.scopes name e })
    → Left K s (Good a (record s { scopes = declare s.scopes name e }))
declared_left K s name e a lawful entity known = record {
  holds = record {
    lawful = lawful_declared s name e lawful entity;
    stay = stay_same s.structures;
    known = known;
    outer = outer_declared s.scopes name e;
    back = λ u leads. leads;
    begun = λ k begun. begun;
  };
}

module _ {A : Type 0} {K : A → Seen → Type 0} where
  pub noted_left : (s : Seen) (names : List (List ℕ)) (r : Read A) → Left K (record s { names = names }) r → Left K s r
  noted_left s names (Bad number place) h = record { holds = tt }
  noted_left s names (Good a t) h = record {
    holds = record {
      lawful = h.holds.lawful;
      stay = h.holds.stay;
      known = h.holds.known;
      outer = h.holds.outer;
      back = h.holds.back;
      begun = h.holds.begun;
    };
  }

  pub faults_left : (s : Seen) (a b c d : Bool) (place : ℕ) (k : Unit {0} → Seen → Read A)
      → (a ≡ false → b ≡ false → c ≡ false → d ≡ false → Left K s (k tt s)) → Left K s (and_then (faults a b c d place s) k)
  unfolding and_then
  faults_left s true b c d place k next = record { holds = tt }
  faults_left s false true c d place k next = record { holds = tt }
  faults_left s false false true d place k next = record { holds = tt }
  faults_left s false false false true place k next = record { holds = tt }
  faults_left s false false false false place k next = next refl refl refl refl

-- what a rule made and what the next one made are one
pub whole_then : {A B C : Type 0} {pre : Tables → Type 0} {K : A → Seen → Type 0} {P : A → Tables → Type 0} {L : B → Seen → Type 0} {Q : B → Tables → Type 0}
    (R : C → Seen → Type 0) (s : Seen) (a : A) (t : Seen) (r : Read B) (k : B → Seen → Read C) → Made pre K P s a t → Triple (λ u. pre u × P a u) L Q t r
    → ((b : B) (v : Seen) → Made pre L Q s b v → Made (λ u. pre u × P a u) L Q t b v → Holds R (k b v)) → Holds R (and_then r k)
unfolding and_then
whole_then {pre = pre} {K = K} {P = P} {L = L} {Q = Q} R s a t (Good b v) k first h next =
    next b v (made_behind pre K P L Q s a t b v (stay_twice s.structures t.structures v.structures first.stay h.holds.stay) first h.holds) h.holds
whole_then R s a t (Bad number place) k first h next = tt
