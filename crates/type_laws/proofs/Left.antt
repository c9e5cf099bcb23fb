-- What a rule leaves behind where its names are nothing to the tables, as those of parameters that no body follows: all of a triple but the tables.
-- And rules that are read in a scope of their own.
use Rattle.std.proofs.Common.{◌≡◌, ℕ, Bool, true, false, refl, ap, sym, subst, List, [], ◌∷◌, drop, length, ◌<◌, ◌∙◌, Some, arith}
use Rattle.std.specs.Prelude.{if◌then◌else◌}
use Rattle.core_unit.specs.Typed.{Tables}
use Rattle.scopes.specs.Scope.{Scope, found_here}
use Rattle.type_rules.specs.Reading.{Read, Good, Bad, and_then, scoped}
use Rattle.type_rules.specs.Seen.{Seen}
use Rattle.type_rules.specs.declared.names.Entity.{Entity}
use Rattle.type_rules.specs.declared.names.Entity.TheVariants.{Variable}
use Rattle.type_laws.proofs.Each.{each_dropped}
use Rattle.type_laws.proofs.Formed.{Stay, stay_same, stay_twice}
use Rattle.type_laws.proofs.Triples.{EachEntity, IsKnownEntity, Lawful, Leads, Begun, Calm, Made, Holds, Triple}

-- what a rule left: `K` is true of what it gave and of what was seen by then, which may speak of what was seen before
pub record Leaves {A : Type 0} (K : A → Seen → Type 0) (s : Seen) (a : A) (t : Seen) : Type 0 where
  pub lawful : Lawful t
  pub stay : Stay s.structures t.structures
  pub known : K a t
  pub outer : drop 1 t.scopes ≡ drop 1 s.scopes
  pub back : (u : Tables) → Leads t u → Leads s u
  pub begun : (k : ℕ) → Begun s k → Begun t k

pub record Left {A : Type 0} (K : A → Seen → Type 0) (s : Seen) (r : Read A) : Type 0 where
  pub holds : Holds (λ a t. Leaves K s a t) r

module _ {A B : Type 0} (K : A → Seen → Type 0) (L : B → Seen → Type 0) where
  leaves_behind : (s : Seen) (a : A) (t : Seen) (b : B) (v : Seen) → Leaves K s a t → Leaves L t b v → Leaves L s b v
  leaves_behind s a t b v first second = record {
    lawful = second.lawful;
    stay = stay_twice s.structures t.structures v.structures first.stay second.stay;
    known = second.known;
    outer = second.outer ∙ first.outer;
    back = λ u leads. first.back u (second.back u leads);
    begun = λ k begun. second.begun k (first.begun k begun);
  }

  left_behind : (s : Seen) (a : A) (t : Seen) (r : Read B) → Leaves K s a t → Holds (λ b v. Leaves L t b v) r → Holds (λ b v. Leaves L s b v) r
  left_behind s a t (Good b v) first second = leaves_behind s a t b v first second
  left_behind s a t (Bad number place) first second = tt

module _ {A B : Type 0} {K : A → Seen → Type 0} {L : B → Seen → Type 0} where
  pub then_left : (s : Seen) (r : Read A) (k : A → Seen → Read B) → Left K s r → ((a : A) (t : Seen) → Leaves K s a t → Left L t (k a t)) → Left L s (and_then r k)
  unfolding and_then
  then_left s (Good a t) k first next = record { holds = left_behind K L s a t (k a t) first.holds (next a t first.holds).holds }
  then_left s (Bad number place) k first next = record { holds = tt }

module _ {A : Type 0} where
  pub gives_left : (K : A → Seen → Type 0) (s : Seen) (a : A) → Lawful s → K a s → Left K s (Good a s)
  gives_left K s a lawful known = record {
    holds = record {
      lawful = lawful;
      stay = stay_same s.structures;
      known = known;
      outer = refl;
      back = λ u leads. leads;
      begun = λ k begun. begun;
    };
  }

  pub left_as : (K L : A → Seen → Type 0) (s : Seen) (r : Read A) → Left K s r → ((a : A) (t : Seen) → Leaves K s a t → L a t) → Left L s r
  left_as K L s (Good a t) h as_well = record {
    holds = record {
      lawful = h.holds.lawful;
      stay = h.holds.stay;
      known = as_well a t h.holds;
      outer = h.holds.outer;
      back = h.holds.back;
      begun = h.holds.begun;
    };
  }
  left_as K L s (Bad number place) h as_well = record { holds = tt }

  -- a triple tells all of what is left
  pub left_of : (pre : Tables → Type 0) (K : A → Seen → Type 0) (P : A → Tables → Type 0) (s : Seen) (r : Read A) → Triple pre K P s r
      → Left (λ a t. Made pre K P s a t) s r
  left_of pre K P s (Good a t) h = record {
    holds = record {
      lawful = h.holds.lawful;
      stay = h.holds.stay;
      known = h.holds;
      outer = h.holds.outer;
      back = h.holds.back;
      begun = h.holds.begun;
    };
  }
  left_of pre K P s (Bad number place) h = record { holds = tt }

-- the same, of which a test that refuses doesn't hold
module _ {A : Type 0} {K : A → Seen → Type 0} where
  pub fails_left : (s : Seen) (number place : ℕ) → Left K s (Bad number place)
  fails_left s number place = record { holds = tt }

  pub refused_left : (s : Seen) (test : Bool) (number place : ℕ) (k : Unit {0} → Seen → Read A) → (test ≡ false → Left K s (k tt s))
      → Left K s (and_then (if test then Bad number place else Good tt s) k)
  unfolding and_then
  refused_left s true number place k next = record { holds = tt }
  refused_left s false number place k next = next refl

-- what is known of what was given, and only declarations change the rest
abbrev pub Calmly : {A : Type 0} → (A → Seen → Type 0) → Seen → A → Seen → Type 0
Calmly K s a t = K a t × Calm s t

pub longer : (scopes : List (Scope Entity)) → 0 < length (drop 1 scopes) → 0 < length scopes
longer [] some = some
longer (scope ∷ outer) some = omega arith

-- a scope of its own, whose names are forgotten
pub scoped_keeps : {A : Type 0} (pre : Tables → Type 0) (K : A → Seen → Type 0) (rule : Seen → Read A) (s : Seen) → Lawful s
    → ((a : A) (t : Seen) (scopes : List (Scope Entity)) → K a t → K a (record t { scopes = scopes }))
    → ((v : Seen) → Lawful v → Left (Calmly K v) v (rule v)) → Triple pre K (λ a u. Unit {0}) s (scoped rule s)
unfolding scoped and_then
scoped_keeps {A = A} pre K rule s lawful same keeps = of (rule opened) (keeps opened opened_lawful)
  where
    opened : Seen
    opened = record s { scopes = [] ∷ s.scopes }

    opened_lawful : Lawful opened
    opened_lawful = record {
      bytes = lawful.bytes;
      scoped = longer s.scopes lawful.scoped;
      entities = (tt, lawful.entities);
      functions_formed = lawful.functions_formed;
      open_are_empty = lawful.open_are_empty;
      complete_have_words = lawful.complete_have_words;
      members_lawful = lawful.members_lawful;
      sized = lawful.sized;
      few = lawful.few;
      statics_stand = lawful.statics_stand;
      threads_stand = lawful.threads_stand;
      tags_lawful = lawful.tags_lawful;
      ranked = lawful.ranked;
      variables_solid = lawful.variables_solid;
      objects_known = lawful.objects_known;
      whole_fits = lawful.whole_fits;
    }

    closed_lawful : (t : Seen) → drop 1 t.scopes ≡ s.scopes → Lawful t → Lawful (record t { scopes = drop 1 t.scopes })
    closed_lawful t outer h = record {
      bytes = h.bytes;
      scoped = subst (λ (scopes : List (Scope Entity)). 0 < length (drop 1 scopes)) (sym outer) lawful.scoped;
      entities = each_dropped _ 1 t.scopes h.entities;
      functions_formed = h.functions_formed;
      open_are_empty = h.open_are_empty;
      complete_have_words = h.complete_have_words;
      members_lawful = h.members_lawful;
      sized = h.sized;
      few = h.few;
      statics_stand = h.statics_stand;
      threads_stand = h.threads_stand;
      tags_lawful = h.tags_lawful;
      ranked = h.ranked;
      variables_solid = h.variables_solid;
      objects_known = h.objects_known;
      whole_fits = h.whole_fits;
    }

    of : (r : Read A) → Left (Calmly K opened) opened r → Triple pre K (λ a u. Unit {0}) s (and_then r (λ a t. Good a (record t { scopes = drop 1 t.scopes })))
    of (Bad n p) h = record { holds = tt }
    of (Good a t) h = record {
      holds = record {
        lawful = closed_lawful t h.holds.outer h.holds.lawful;
        stay = h.holds.stay;
        known = same a t (drop 1 t.scopes) h.holds.known.0;
        outer = ap (drop 1) h.holds.outer;
        back = h.holds.back;
        begun = h.holds.begun;
        calm = h.holds.known.1;
        here = λ n e is. subst (λ scopes. found_here scopes n ≡ Some e) (sym h.holds.outer) is;
        old = λ n t' storage k is. subst (λ scopes. found_here scopes n ≡ Some (Variable t' storage k)) h.holds.outer is;
        tables = λ u leads knows p. (subst (λ scopes. EachEntity (IsKnownEntity u) scopes) (sym h.holds.outer) knows, tt);
      };
    }
