-- Triples: what a rule keeps of what was seen before it, and what is true of what it gives. What it gives is read with the tables of the whole
-- unit, to which those that were seen lead: so what is typed stays typed, and no lemma moves a tree from one table to the next.
use Rattle.std.proofs.Common.{◌≡◌, ℕ, ◌<◌, ◌+◌, ◌-◌, ◌^◌, Bool, true, false, refl, List, [], ◌∷◌, length, drop, slice_get, Option, Some, None, ◌∙◌}
use Rattle.std.specs.Prelude.{if◌then◌else◌}
use Rattle.scopes.specs.Scope.{Scope, found_here}
use Rattle.eff_types.specs.Effects.{conflict}
use Rattle.eff_types.specs.declared.types.CType.{CType}
use Rattle.eff_types.specs.declared.types.CType.TheVariants as a_type
use Rattle.eff_types.specs.declared.levels.Effects.{Effects}
use Rattle.core_unit.specs.Layout.{LaidOut, words_of}
use Rattle.core_unit.specs.Library.{row_types}
use Rattle.core_unit.specs.Typed.{Tables, IsKept, IsNamed}
use Rattle.core_unit.specs.declared.expressions.Storage.{Storage}
use Rattle.core_unit.specs.declared.tables.FunctionInfo.{FunctionInfo}
use Rattle.core_unit.specs.declared.tables.Object.{Object}
use Rattle.core_unit.specs.declared.tables.StructInfo.{StructInfo}
use Rattle.core_unit.specs.declared.tables.VariableInfo.{VariableInfo}
use Rattle.type_rules.specs.Functions.{effects_at}
use Rattle.type_rules.specs.Reading.{Read, Good, Bad, and_then}
use Rattle.type_rules.specs.Seen.{Seen}
use Rattle.type_rules.specs.declared.names.Entity.{Entity}
use Rattle.type_rules.specs.declared.names.Entity.TheVariants.{Variable, Function, TypeName, Enumerator, Library}
use Rattle.type_rules.specs.declared.names.Tag.{Tag}
use Rattle.type_rules.specs.declared.notes.Initial.{Initial}
use Rattle.type_rules.specs.declared.notes.TypeWarning.{TypeWarning}
pub use Rattle.type_laws.proofs.Each.{Each}
use Rattle.type_laws.proofs.Formed.{IsFormed, Stay, OpenAreEmpty, CompleteHaveWords, stay_same, stay_twice}
pub use Rattle.type_laws.proofs.Ranks.{IsLawfulMember, MembersAreLawful, AreSized, AreRankedSoFar}
use Rattle.type_laws.proofs.Objects.{AreObjects}
use Rattle.type_laws.proofs.Tags.{TagsAreLawful, IsBegun}
use Rattle.type_laws.proofs.Types.{is_object}
use Rattle.type_laws.proofs.Valued.{Valued}

-- what is true of the meaning of a name, by what was seen
abbrev pub IsLawfulEntity : List StructInfo → ℕ → Entity → Type 0
IsLawfulEntity structures functions (Variable t storage number) = IsFormed structures t × (is_object t ≡ true)
IsLawfulEntity structures functions (Function number) = number < functions
IsLawfulEntity structures functions (TypeName t) = IsFormed structures t
IsLawfulEntity structures functions (Library row) = row < length row_types
IsLawfulEntity structures functions _ = Unit {0}

-- and by the tables of the whole unit
abbrev pub IsKnownEntity : Tables → Entity → Type 0
IsKnownEntity u (Variable t storage number) = IsKept u storage t
IsKnownEntity u (Enumerator bits) = bits < 2 ^ 32
IsKnownEntity u _ = Unit {0}

-- of the meaning of each name in scope
abbrev pub EachEntity : (Entity → Type 0) → List (Scope Entity) → Type 0
EachEntity P scopes = Each (Each (λ entry. P entry.1)) scopes

-- The objects stand one behind the other, as long as their words are few enough to be told.
abbrev pub AreLaidOut : ℕ → List Object → ℕ → Type 0
AreLaidOut first objects words = words < 2 ^ 32 - 1 → LaidOut first objects (first + words)

-- a function as it was declared so far
pub record IsDeclared (structures : List StructInfo) (f : FunctionInfo) : Type 0 where
  pub formed : IsFormed structures (a_type.Function f.kind)
  -- its flags allow its level
  pub fits : conflict (f.kind.effects ∷ []) ≡ false
  pub unframed : f.body ≡ None → f.frame_words ≡ 0

-- a variable of file scope has a complete type
abbrev pub IsSolidVariable : List StructInfo → VariableInfo → Type 0
IsSolidVariable structures v = IsFormed structures v.kind × (0 < words_of structures v.kind)

-- what is true of all that was seen
pub record IsLawful (whole : List Effects) (source : List ℕ) (scopes : List (Scope Entity)) (tags : List (Scope Tag)) (functions : List FunctionInfo) (structures : List StructInfo) (sizes : List ℕ)
    (statics : List Object) (static_words : ℕ) (thread_locals : List Object) (thread_words : ℕ)
    (variables : List VariableInfo) : Type 0 where
  pub bytes : Each (λ byte. byte < 256) source
  -- the reserved names stand around file scope
  pub scoped : 0 < length (drop 1 scopes)
  pub entities : EachEntity (IsLawfulEntity structures (length functions)) scopes
  pub functions_formed : Each (IsDeclared structures) functions
  pub open_are_empty : OpenAreEmpty structures
  pub complete_have_words : CompleteHaveWords structures
  pub members_lawful : MembersAreLawful structures
  pub sized : AreSized structures
  pub few : Each (λ words. words < 2 ^ 32) sizes
  pub statics_stand : AreLaidOut 1 statics static_words
  pub threads_stand : AreLaidOut 0 thread_locals thread_words
  pub tags_lawful : TagsAreLawful structures tags
  pub ranked : AreRankedSoFar structures
  pub variables_solid : Each (IsSolidVariable structures) variables
  pub objects_known : AreObjects structures variables statics thread_locals
  pub whole_fits : Each (λ e. conflict (e ∷ []) ≡ false) whole

abbrev pub Lawful : Seen → Type 0
Lawful s = IsLawful s.whole s.source s.scopes s.tags s.functions s.structures s.sizes s.statics s.static_words s.thread_locals s.thread_words s.variables

-- a list of which each item stands in the other at the same index
abbrev pub Begins : {A : Type 0} → List A → List A → Type 0
Begins {A} xs ys = (i : ℕ) (x : A) → slice_get xs i ≡ Some x → slice_get ys i ≡ Some x

-- the name of each function that was seen has its static type in the tables
abbrev pub AreNamed : List Effects → List FunctionInfo → List FunctionInfo → Type 0
AreNamed whole seen functions =
    (i : ℕ) (f : FunctionInfo) → slice_get seen i ≡ Some f → IsNamed functions i (a_type.Function (effects_at (slice_get whole i) f.kind))

-- what was seen leads to these tables
pub record LeadsTo (whole : List Effects) (functions : List FunctionInfo) (structures : List StructInfo) (statics thread_locals : List Object) (u : Tables) : Type 0 where
  pub named : AreNamed whole functions u.functions
  pub stay : Stay structures u.structures
  pub begin : Begins statics u.statics
  pub thread_begin : Begins thread_locals u.thread_locals

abbrev pub Leads : Seen → Tables → Type 0
Leads s u = LeadsTo s.whole s.functions s.structures s.statics s.thread_locals u

-- the tables know all names in scope
abbrev pub Knows : Seen → Tables → Type 0
Knows s u = EachEntity (IsKnownEntity u) s.scopes

-- what only declarations change, and blocks
pub record IsCalm (whole whole' : List Effects) (functions functions' : List FunctionInfo) (definitions definitions' : List ℕ)
    (variables variables' : List VariableInfo) (thread_locals thread_locals' : List Object) (thread_words thread_words' : ℕ)
    (thread_values thread_values' static_values static_values' : List Initial) (frame frame' : ℕ) (result result' : CType) : Type 0 where
  pub whole_is : whole' ≡ whole
  pub functions_are : functions' ≡ functions
  pub definitions_are : definitions' ≡ definitions
  pub variables_are : variables' ≡ variables
  pub thread_locals_are : thread_locals' ≡ thread_locals
  pub thread_words_are : thread_words' ≡ thread_words
  pub thread_values_are : thread_values' ≡ thread_values
  -- what is noted of static words are values
  pub values_kept : (u : Tables) → Valued u static_values → Valued u static_values'
  pub frame_is : frame' ≡ frame
  pub result_is : result' ≡ result

abbrev pub Calm : Seen → Seen → Type 0
Calm s t =
    IsCalm s.whole t.whole s.functions t.functions s.definitions t.definitions s.variables t.variables s.thread_locals t.thread_locals
    s.thread_words t.thread_words s.thread_values t.thread_values s.static_values t.static_values s.frame t.frame s.result t.result

pub calm_same : (s : Seen) → Calm s s
calm_same s = record {
  whole_is = refl;
  functions_are = refl;
  definitions_are = refl;
  variables_are = refl;
  thread_locals_are = refl;
  thread_words_are = refl;
  thread_values_are = refl;
  values_kept = λ u h. h;
  frame_is = refl;
  result_is = refl;
}

pub calm_twice : (s t v : Seen) → Calm s t → Calm t v → Calm s v
calm_twice s t v p q = record {
  whole_is = q.whole_is ∙ p.whole_is;
  functions_are = q.functions_are ∙ p.functions_are;
  definitions_are = q.definitions_are ∙ p.definitions_are;
  variables_are = q.variables_are ∙ p.variables_are;
  thread_locals_are = q.thread_locals_are ∙ p.thread_locals_are;
  thread_words_are = q.thread_words_are ∙ p.thread_words_are;
  thread_values_are = q.thread_values_are ∙ p.thread_values_are;
  values_kept = λ u h. q.values_kept u (p.values_kept u h);
  frame_is = q.frame_is ∙ p.frame_is;
  result_is = q.result_is ∙ p.result_is;
}

-- a structure whose definition was begun before
abbrev pub Begun : Seen → ℕ → Type 0
Begun s k = IsBegun s.structures s.tags k

-- what a rule made: `K` is true of it by what was seen by then, `P` by the tables, where `pre` is true of them
pub record Made {A : Type 0} (pre : Tables → Type 0) (K : A → Seen → Type 0) (P : A → Tables → Type 0) (s : Seen) (a : A) (t : Seen) : Type 0 where
  pub lawful : Lawful t
  pub stay : Stay s.structures t.structures
  pub known : K a t
  -- names are declared in the innermost scope alone
  pub outer : drop 1 t.scopes ≡ drop 1 s.scopes
  pub back : (u : Tables) → Leads t u → Leads s u
  pub begun : (k : ℕ) → Begun s k → Begun t k
  pub calm : Calm s t
  -- no name of the innermost scope takes another meaning
  pub here : (name : ℕ) (e : Entity) → found_here s.scopes name ≡ Some e → found_here t.scopes name ≡ Some e
  -- and none becomes a variable
  pub old : (name : ℕ) (t' : CType) (storage : Storage) (n : Option ℕ) → found_here t.scopes name ≡ Some (Variable t' storage n)
      → found_here s.scopes name ≡ Some (Variable t' storage n)
  pub tables : (u : Tables) → Leads t u → Knows s u → pre u → Knows t u × P a u

abbrev pub Holds : {A : Type 0} → (A → Seen → Type 0) → Read A → Type 0
Holds P (Good a t) = P a t
Holds P (Bad number place) = Unit {0}

pub record Triple {A : Type 0} (pre : Tables → Type 0) (K : A → Seen → Type 0) (P : A → Tables → Type 0) (s : Seen) (r : Read A) : Type 0 where
  pub holds : Holds (λ a t. Made pre K P s a t) r

-- of a rule, wherever it is read
abbrev pub Keeps : {A : Type 0} → (Tables → Type 0) → (A → Seen → Type 0) → (A → Tables → Type 0) → (Seen → Read A) → Type 0
Keeps pre K P rule = (s : Seen) → Lawful s → Triple pre K P s (rule s)

-- nothing is asked
abbrev pub Always : Tables → Type 0
Always u = Unit {0}

module _ {A B : Type 0} (pre : Tables → Type 0) (K : A → Seen → Type 0) (P : A → Tables → Type 0) (L : B → Seen → Type 0) (Q : B → Tables → Type 0) where
  -- what a rule makes behind another one
  pub made_behind : (s : Seen) (a : A) (t : Seen) (b : B) (v : Seen) → Stay s.structures v.structures → Made pre K P s a t
      → Made (λ u. pre u × P a u) L Q t b v → Made pre L Q s b v
  made_behind s a t b v stay first second = record {
    lawful = second.lawful;
    stay = stay;
    known = second.known;
    outer = second.outer ∙ first.outer;
    back = λ u leads. first.back u (second.back u leads);
    begun = λ k begun. second.begun k (first.begun k begun);
    calm = calm_twice s t v first.calm second.calm;
    here = λ n e is. second.here n e (first.here n e is);
    old = λ n t' storage k is. first.old n t' storage k (second.old n t' storage k is);
    tables = λ u leads knows p.
        let here = first.tables u (second.back u leads) knows p in second.tables u leads here.0 (p, here.1);
  }

  holds_behind : (s : Seen) (a : A) (t : Seen) (r : Read B) → Made pre K P s a t → Holds (λ b v. Made (λ u. pre u × P a u) L Q t b v) r
      → Holds (λ b v. Made pre L Q s b v) r
  holds_behind s a t (Good b v) first second = made_behind s a t b v (stay_twice _ _ _ first.stay second.stay) first second
  holds_behind s a t (Bad number place) first second = tt

module _ {A B : Type 0} {pre : Tables → Type 0} {K : A → Seen → Type 0} {P : A → Tables → Type 0} {L : B → Seen → Type 0} {Q : B → Tables → Type 0} where
  pub then_keeps : (s : Seen) (r : Read A) (k : A → Seen → Read B) → Triple pre K P s r
      → ((a : A) (t : Seen) → Lawful t → Stay s.structures t.structures → K a t → Triple (λ u. pre u × P a u) L Q t (k a t)) → Triple pre L Q s (and_then r k)
  unfolding and_then
  then_keeps s (Good a t) k first next =
      record { holds = holds_behind pre K P L Q s a t (k a t) first.holds (next a t first.holds.lawful first.holds.stay first.holds.known).holds }
  then_keeps s (Bad number place) k first next = record { holds = tt }

-- what is given without reading
module _ {A : Type 0} {pre : Tables → Type 0} {K : A → Seen → Type 0} {P : A → Tables → Type 0} where
  pub gives_keeps : (s : Seen) (a : A) → Lawful s → K a s → ((u : Tables) → Leads s u → Knows s u → pre u → P a u) → Triple pre K P s (Good a s)
  gives_keeps s a lawful known typed = record {
    holds = record {
      lawful = lawful;
      stay = stay_same s.structures;
      known = known;
      outer = refl;
      back = λ u leads. leads;
      begun = λ k begun. begun;
      calm = calm_same s;
      here = λ n e is. is;
      old = λ n t' storage k is. is;
      tables = λ u leads knows p. (knows, typed u leads knows p);
    };
  }

  pub fails_keeps : (s : Seen) (number place : ℕ) → Triple pre K P s (Bad number place)
  fails_keeps s number place = record { holds = tt }

  -- a test that refuses where it holds
  pub refused_keeps : (s : Seen) (test : Bool) (number place : ℕ) (k : Unit {0} → Seen → Read A) → (test ≡ false → Triple pre K P s (k tt s))
      → Triple pre K P s (and_then (if test then Bad number place else Good tt s) k)
  unfolding and_then
  refused_keeps s true number place k next = record { holds = tt }
  refused_keeps s false number place k next = next refl

  -- a warning more changes nothing else
  pub noted_keeps : (s : Seen) (warnings : List TypeWarning) (a : A) → Lawful s → K a (record s { warnings = warnings })
      → ((u : Tables) → Leads s u → Knows s u → pre u → P a u) → Triple pre K P s (Good a (record s { warnings = warnings }))
  noted_keeps s warnings a lawful known typed = record {
    holds = record {
      lawful = lawful;
      stay = stay_same s.structures;
      known = known;
      outer = refl;
      back = λ u leads. leads;
      begun = λ k begun. begun;
      calm = calm_same s;
      here = λ n e is. is;
      old = λ n t' storage k is. is;
      tables = λ u leads knows p. (knows, typed u leads knows p);
    };
  }

  -- what holds of all tables holds of those of which something is known
  pub anyway : (s : Seen) (r : Read A) → Triple Always K P s r → Triple pre K P s r
  anyway s (Good a t) h = record {
    holds = record {
      lawful = h.holds.lawful;
      stay = h.holds.stay;
      known = h.holds.known;
      outer = h.holds.outer;
      back = h.holds.back;
      begun = h.holds.begun;
      calm = h.holds.calm;
      here = h.holds.here;
      old = h.holds.old;
      tables = λ u leads knows p. h.holds.tables u leads knows tt;
    };
  }
  anyway s (Bad number place) h = record { holds = tt }
