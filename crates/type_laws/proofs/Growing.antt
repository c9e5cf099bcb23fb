-- What the rules of blocks leave: the automatic variables that they add stand in the frame one behind the other, and where they do in the tables,
-- all is typed.
use Rattle.std.proofs.Common.{◌≡◌, ℕ, ◌<◌, ◌≤◌, zero, suc, ◌+◌, ◌-◌, ◌^◌, refl, sym, ◌∙◌, ap, subst, List, [], ◌∷◌, ◌++◌, drop, length, slice_get, Some, arith}
use Rattle.scopes.specs.Scope.{Scope}
use Rattle.eff_types.specs.declared.levels.Effects.{Effects}
use Rattle.eff_types.specs.declared.types.CType.{CType}
use Rattle.core_unit.specs.Layout.{LaidOut}
use Rattle.core_unit.specs.Typed.{Tables}
use Rattle.core_unit.specs.declared.tables.FunctionInfo.{FunctionInfo}
use Rattle.core_unit.specs.declared.tables.Object.{Object}
use Rattle.core_unit.specs.declared.tables.StructInfo.{StructInfo}
use Rattle.core_unit.specs.declared.tables.VariableInfo.{VariableInfo}
use Rattle.type_rules.specs.Reading.{Read, Good, Bad, and_then, scoped}
use Rattle.type_rules.specs.Seen.{Seen}
use Rattle.type_rules.specs.declared.names.Entity.{Entity}
use Rattle.type_laws.proofs.Each.{Each, each_dropped}
use Rattle.type_laws.proofs.Left.{Left, longer}
use Rattle.type_laws.proofs.Triples.{EachEntity, IsKnownEntity, Lawful, Leads, Knows, Calm, Made, Always}
use Rattle.type_laws.proofs.Valued.{Valued}

-- the objects are among those of a frame
abbrev pub Standing : List Object → List Object → Type 0
Standing frame objects = Each (λ o. (index : ℕ) × (slice_get frame index ≡ Some o)) objects

-- the words of all objects of the tables are told by 32 bits
pub record IsSmall (u : Tables) : Type 0 where
  pub statics : (i : ℕ) (o : Object) → slice_get u.statics i ≡ Some o → o.words < 2 ^ 32 - 1
  pub thread_locals : (i : ℕ) (o : Object) → slice_get u.thread_locals i ≡ Some o → o.words < 2 ^ 32 - 1
  pub frame : (i : ℕ) (o : Object) → slice_get u.frame i ≡ Some o → o.words < 2 ^ 32 - 1

-- what only the rules of file scope change
pub record IsSteady (whole whole' : List Effects) (functions functions' : List FunctionInfo) (definitions definitions' : List ℕ)
    (variables variables' : List VariableInfo) (result result' : CType) : Type 0 where
  pub whole_is : whole' ≡ whole
  pub functions_are : functions' ≡ functions
  pub definitions_are : definitions' ≡ definitions
  pub variables_are : variables' ≡ variables
  pub result_is : result' ≡ result

abbrev pub Steady : Seen → Seen → Type 0
Steady s t = IsSteady s.whole t.whole s.functions t.functions s.definitions t.definitions s.variables t.variables s.result t.result

pub steady_same : (s : Seen) → Steady s s
steady_same s = record { whole_is = refl; functions_are = refl; definitions_are = refl; variables_are = refl; result_is = refl }

pub steady_twice : (s t v : Seen) → Steady s t → Steady t v → Steady s v
steady_twice s t v p q = record {
  whole_is = q.whole_is ∙ p.whole_is;
  functions_are = q.functions_are ∙ p.functions_are;
  definitions_are = q.definitions_are ∙ p.definitions_are;
  variables_are = q.variables_are ∙ p.variables_are;
  result_is = q.result_is ∙ p.result_is;
}

-- what is noted of words are values
abbrev pub AreValued : Seen → Tables → Type 0
AreValued s u = Valued u s.static_values × Valued u s.thread_values

-- `autos`: the automatic variables that are added; `P` is true of what is given, by the tables
pub record GrowsUnder (pre : Tables → Type 0) (autos : List StructInfo → List Object) (P : Tables → Type 0) (s t : Seen) : Type 0 where
  pub steady : Steady s t
  pub few : t.frame < 2 ^ 32 - 1 → s.frame < 2 ^ 32 - 1
  pub laid : (u : Tables) → Leads t u → t.frame < 2 ^ 32 - 1 → LaidOut s.frame (autos u.structures) t.frame
  pub tables : (u : Tables) → Leads t u → IsSmall u → Knows s u → Standing u.frame (autos u.structures) → pre u → Knows t u × P u
  pub values : (u : Tables) → Leads t u → IsSmall u → Knows s u → Standing u.frame (autos u.structures) → pre u → AreValued s u → AreValued t u

abbrev pub Grows : (List StructInfo → List Object) → (Tables → Type 0) → Seen → Seen → Type 0
Grows autos P s t = GrowsUnder Always autos P s t

abbrev pub NoAutos : List StructInfo → List Object
NoAutos structures = []

pub calm_values : (s t : Seen) → Calm s t → (u : Tables) → AreValued s u → AreValued t u
calm_values s t calm u v = (calm.values_kept u v.0, subst (Valued u) (sym calm.thread_values_are) v.1)

-- an expression adds none
pub grows_of_made : {A : Type 0} (K : A → Seen → Type 0) (P : A → Tables → Type 0) (s : Seen) (a : A) (t : Seen) → Made Always K P s a t → Grows NoAutos (P a) s t
grows_of_made K P s a t h = record {
  steady = record {
    whole_is = h.calm.whole_is;
    functions_are = h.calm.functions_are;
    definitions_are = h.calm.definitions_are;
    variables_are = h.calm.variables_are;
    result_is = h.calm.result_is;
  };
  few = λ few. subst (λ n. n < 2 ^ 32 - 1) h.calm.frame_is few;
  laid = λ u leads few. sym h.calm.frame_is;
  tables = λ u leads small knows standing p. h.tables u leads knows tt;
  values = λ u leads small knows standing p v. calm_values s t h.calm u v;
}

pub laid_joined : (a b c : ℕ) (xs ys : List Object) → LaidOut a xs b → LaidOut b ys c → LaidOut a (xs ++ ys) c
laid_joined a b c [] ys p q = subst (λ n. LaidOut n ys c) (sym p) q
laid_joined a b c (x ∷ xs) ys p q = (p.0, p.1, laid_joined (a + x.words) b c xs ys p.2 q)

-- each object of a row is within it
pub object_within : (first last : ℕ) (objects : List Object) (i : ℕ) (o : Object) → LaidOut first objects last → slice_get objects i ≡ Some o → first + o.words ≤ last
object_within first last [] i o laid there = absurd (cc)
object_within first last (x ∷ xs) zero o laid there =
    let same : x ≡ o = cc in
    let rest = ends_behind (first + x.words) last xs laid.2 in
    subst (λ (y : Object). first + y.words ≤ last) same rest
  where
    ends_behind : (first last : ℕ) (objects : List Object) → LaidOut first objects last → first ≤ last
    ends_behind first last [] laid = omega arith
    ends_behind first last (x ∷ xs) laid = let rest = ends_behind (first + x.words) last xs laid.2 in omega arith
object_within first last (x ∷ xs) (suc i) o laid there = let rest = object_within (first + x.words) last xs i o laid.2 there in omega arith

pub front_of : {A : Type 0} (P : A → Type 0) (xs ys : List A) → Each P (xs ++ ys) → Each P xs
front_of P [] ys each = tt
front_of P (x ∷ xs) ys each = (each.0, front_of P xs ys each.1)

pub back_of : {A : Type 0} (P : A → Type 0) (xs ys : List A) → Each P (xs ++ ys) → Each P ys
back_of P [] ys each = each
back_of P (x ∷ xs) ys each = back_of P xs ys each.1

-- one behind the other
pub grows_then : (pre : Tables → Type 0) (A B : List StructInfo → List Object) (P Q : Tables → Type 0) (s t v : Seen) → ((u : Tables) → Leads v u → Leads t u)
    → GrowsUnder pre A P s t → GrowsUnder (λ u. pre u × P u) B Q t v → GrowsUnder pre (λ structures. A structures ++ B structures) (λ u. P u × Q u) s v
grows_then pre A B P Q s t v back first second = record {
  steady = steady_twice s t v first.steady second.steady;
  few = λ few. first.few (second.few few);
  laid = λ u leads few.
      laid_joined s.frame t.frame v.frame (A u.structures) (B u.structures) (first.laid u (back u leads) (second.few few)) (second.laid u leads few);
  tables = λ u leads small knows standing p.
      let here = first.tables u (back u leads) small knows (front_of _ (A u.structures) (B u.structures) standing) p in
      let there = second.tables u leads small here.0 (back_of _ (A u.structures) (B u.structures) standing) (p, here.1) in
      (there.0, (here.1, there.1));
  values = λ u leads small knows standing p v.
      let here = first.tables u (back u leads) small knows (front_of _ (A u.structures) (B u.structures) standing) p in
      second.values u leads small here.0 (back_of _ (A u.structures) (B u.structures) standing) (p, here.1)
      (first.values u (back u leads) small knows (front_of _ (A u.structures) (B u.structures) standing) p v);
}

-- the same, in other words
pub grows_as : (more less : Tables → Type 0) (A B : List StructInfo → List Object) (P Q : Tables → Type 0) (s t : Seen) → ((u : Tables) → Leads t u → IsSmall u → more u → less u)
    → ((u : Tables) → Leads t u → A u.structures ≡ B u.structures) → ((u : Tables) → Leads t u → IsSmall u → more u → P u → Q u) → GrowsUnder less A P s t → GrowsUnder more B Q s t
grows_as more less A B P Q s t asks same as_well h = record {
  steady = h.steady;
  few = h.few;
  laid = λ u leads few. subst (λ objects. LaidOut s.frame objects t.frame) (same u leads) (h.laid u leads few);
  tables = λ u leads small knows standing p.
      let here = h.tables u leads small knows (subst (λ objects. Standing u.frame objects) (sym (same u leads)) standing) (asks u leads small p) in
      (here.0, as_well u leads small p here.1);
  values = λ u leads small knows standing p v.
      h.values u leads small knows (subst (λ objects. Standing u.frame objects) (sym (same u leads)) standing) (asks u leads small p) v;
}

-- the same without conditions, in the words of both
pub chain : (A B C : List StructInfo → List Object) (P Q R : Tables → Type 0) (s t v : Seen) → ((u : Tables) → Leads v u → Leads t u)
    → ((structures : List StructInfo) → A structures ++ B structures ≡ C structures) → ((u : Tables) → P u → Q u → R u) → Grows A P s t → Grows B Q t v → Grows C R s v
chain A B C P Q R s t v back same as_well first second =
    grows_as Always Always (λ structures. A structures ++ B structures) C (λ u. P u × Q u) R s v (λ u leads small p. p) (λ u leads. same u.structures) (λ u leads small p q. as_well u q.0 q.1)
    (grows_then Always A B P Q s t v back first (grows_as (λ u. Always u × P u) Always B B Q Q t v (λ u leads small p. tt) (λ u leads. refl) (λ u leads small p q. q) second))

-- the same of what is given, in other words
pub restated : (A B : List StructInfo → List Object) (P Q : Tables → Type 0) (s t : Seen) → ((structures : List StructInfo) → A structures ≡ B structures)
    → ((u : Tables) → P u → Q u) → Grows A P s t → Grows B Q s t
restated A B P Q s t same as_well h = grows_as Always Always A B P Q s t (λ u leads small p. p) (λ u leads. same u.structures) (λ u leads small p q. as_well u q) h

pub grows_same : (pre : Tables → Type 0) (s : Seen) (P : Tables → Type 0) → ((u : Tables) → pre u → P u) → GrowsUnder pre NoAutos P s s
grows_same pre s P all = record {
  steady = steady_same s;
  few = λ few. few;
  laid = λ u leads few. refl;
  tables = λ u leads small knows standing p. (knows, all u p);
  values = λ u leads small knows standing p v. v;
}

-- a rule of a block, from this state
abbrev pub Growing : {A : Type 0} → (A → List StructInfo → List Object) → (A → Tables → Type 0) → (s : Seen) → Read A → Type 0
Growing autos P s r = Left (λ a t. Grows (autos a) (P a) s t) s r

-- a scope of its own, whose names are forgotten
pub scoped_grows : {A : Type 0} (autos : A → List StructInfo → List Object) (P : A → Tables → Type 0) (rule : Seen → Read A) (s : Seen) → Lawful s
    → ((v : Seen) → Lawful v → v.result ≡ s.result → v.structures ≡ s.structures → Growing autos P v (rule v)) → Growing autos P s (scoped rule s)
unfolding scoped and_then
scoped_grows {A = A} autos P rule s lawful grows = of (rule opened) (grows opened opened_lawful refl refl)
  where
    opened : Seen
    opened = record s { scopes = [] ∷ s.scopes }

    opened_lawful : Lawful opened
    opened_lawful = record {
      bytes = lawful.bytes;
      scoped = longer s.scopes lawful.scoped;
      entities = (tt, lawful.entities);
      functions_formed = lawful.functions_formed;
      open_are_empty = lawful.open_are_empty;
      complete_have_words = lawful.complete_have_words;
      members_lawful = lawful.members_lawful;
      sized = lawful.sized;
      few = lawful.few;
      statics_stand = lawful.statics_stand;
      threads_stand = lawful.threads_stand;
      tags_lawful = lawful.tags_lawful;
      ranked = lawful.ranked;
      variables_solid = lawful.variables_solid;
      objects_known = lawful.objects_known;
      whole_fits = lawful.whole_fits;
    }

    closed_lawful : (t : Seen) → drop 1 t.scopes ≡ s.scopes → Lawful t → Lawful (record t { scopes = drop 1 t.scopes })
    closed_lawful t outer h = record {
      bytes = h.bytes;
      scoped = subst (λ (scopes : List (Scope Entity)). 0 < length (drop 1 scopes)) (sym outer) lawful.scoped;
      entities = each_dropped _ 1 t.scopes h.entities;
      functions_formed = h.functions_formed;
      open_are_empty = h.open_are_empty;
      complete_have_words = h.complete_have_words;
      members_lawful = h.members_lawful;
      sized = h.sized;
      few = h.few;
      statics_stand = h.statics_stand;
      threads_stand = h.threads_stand;
      tags_lawful = h.tags_lawful;
      ranked = h.ranked;
      variables_solid = h.variables_solid;
      objects_known = h.objects_known;
      whole_fits = h.whole_fits;
    }

    closed_grows : (a : A) (t : Seen) → drop 1 t.scopes ≡ s.scopes → Grows (autos a) (P a) opened t → Grows (autos a) (P a) s (record t { scopes = drop 1 t.scopes })
    closed_grows a t outer h = record {
      steady = h.steady;
      few = h.few;
      laid = h.laid;
      tables = λ u leads small knows standing p.
          let here = h.tables u leads small (tt, knows) standing p in (subst (λ scopes. EachEntity (IsKnownEntity u) scopes) (sym outer) knows, here.1);
      values = λ u leads small knows standing p v. h.values u leads small (tt, knows) standing p v;
    }

    of : (r : Read A) → Growing autos P opened r → Growing autos P s (and_then r (λ a t. Good a (record t { scopes = drop 1 t.scopes })))
    of (Bad n p) h = record { holds = tt }
    of (Good a t) h = record {
      holds = record {
        lawful = closed_lawful t h.holds.outer h.holds.lawful;
        stay = h.holds.stay;
        known = closed_grows a t h.holds.outer h.holds.known;
        outer = ap (drop 1) h.holds.outer;
        back = h.holds.back;
        begun = h.holds.begun;
      };
    }
