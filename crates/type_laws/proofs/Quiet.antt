-- Rules add no level where no conversion is warned of: what is known of the end of a unit is known of each place before it, what a rule makes adds no
-- level, and words hold functions at levels that these have.
use Rattle.std.proofs.Common.{◌≡◌, ℕ, Bool, true, false, refl, List, [], ◌∷◌, drop}
use Rattle.std.specs.Prelude.{if◌then◌else◌}
use Rattle.eff_types.specs.declared.levels.Effects.{Effects}
use Rattle.eff_types.specs.declared.levels.Level.{Level}
use Rattle.core_unit.specs.Levels.{HasLevel, BodyKeeps}
use Rattle.core_unit.specs.declared.tables.FunctionInfo.{FunctionInfo}
use Rattle.core_unit.specs.declared.words.Word.{Word}
use Rattle.core_unit.specs.declared.words.Word.TheVariants as word
use Rattle.type_rules.specs.Laws.{IsNoConversion}
use Rattle.type_rules.specs.Reading.{Read, Good, Bad, and_then, scoped}
use Rattle.type_rules.specs.Seen.{Seen}
use Rattle.type_rules.specs.Units.{with_whole}
use Rattle.type_rules.specs.declared.notes.Initial.{Initial}
use Rattle.type_rules.specs.declared.notes.TypeWarning.{TypeWarning}
use Rattle.type_laws.proofs.Each.{Each}
use Rattle.type_laws.proofs.Triples.{Holds}

-- the unit ends with these functions: no conversion was warned of, and no function has had a higher level
pub record EndsIn (u : List FunctionInfo) (warnings : List TypeWarning) (whole : List Effects) (functions : List FunctionInfo) : Type 0 where
  pub unwarned : Each IsNoConversion warnings
  pub levels : (number : ℕ) (level : Level) → HasLevel (with_whole whole 0 functions) number level → HasLevel u number level

abbrev pub Ends : List FunctionInfo → Seen → Type 0
Ends u s = EndsIn u s.warnings s.whole s.functions

-- a function stands in a word at a level that it has
abbrev pub IsLevelled : List FunctionInfo → Word → Type 0
IsLevelled u (word.FunctionPointer number level) = HasLevel u number level
IsLevelled u _ = Unit {0}

abbrev pub AreLevelled : List FunctionInfo → List Initial → Type 0
AreLevelled u values = Each (λ i. IsLevelled u i.word) values

-- what was made so far adds no level
pub record KeptIn (u : List FunctionInfo) (functions : List FunctionInfo) (static_values thread_values : List Initial) : Type 0 where
  pub bodies : Each (λ f. BodyKeeps f.body) functions
  pub statics : AreLevelled u static_values
  pub threads : AreLevelled u thread_values

abbrev pub Kept : List FunctionInfo → Seen → Type 0
Kept u s = KeptIn u s.functions s.static_values s.thread_values

-- `K` is true of what a rule gives, where `pre` is
pub record Quiet {A : Type 0} (pre : List FunctionInfo → Type 0) (K : A → List FunctionInfo → Type 0) (s : Seen) (r : Read A) : Type 0 where
  pub holds : Holds (λ a t. (u : List FunctionInfo) → Ends u t → Ends u s × (Kept u s → pre u → Kept u t × K a u)) r

-- nothing is asked, or told
abbrev pub Always : List FunctionInfo → Type 0
Always u = Unit {0}

abbrev pub Anything : {A : Type 0} → A → List FunctionInfo → Type 0
Anything a u = Unit {0}

-- of a rule, wherever it is read
abbrev pub Quietly : {A : Type 0} → (A → List FunctionInfo → Type 0) → (Seen → Read A) → Type 0
Quietly K rule = (s : Seen) → Quiet Always K s (rule s)

module _ {A B : Type 0} (pre : List FunctionInfo → Type 0) (K : A → List FunctionInfo → Type 0) (L : B → List FunctionInfo → Type 0) where
  quiet_behind : (s : Seen) (a : A) (t : Seen) (r : Read B) → ((u : List FunctionInfo) → Ends u t → Ends u s × (Kept u s → pre u → Kept u t × K a u))
      → Holds (λ b v. (u : List FunctionInfo) → Ends u v → Ends u t × (Kept u t → pre u × K a u → Kept u v × L b u)) r
      → Holds (λ b v. (u : List FunctionInfo) → Ends u v → Ends u s × (Kept u s → pre u → Kept u v × L b u)) r
  quiet_behind s a t (Good b v) first second = λ u ends.
      let later = second u ends in
      let before = first u later.0 in
      (before.0, λ kept p. let made = before.1 kept p in later.1 made.0 (p, made.1))
  quiet_behind s a t (Bad number place) first second = tt

module _ {A B : Type 0} {pre : List FunctionInfo → Type 0} {K : A → List FunctionInfo → Type 0} {L : B → List FunctionInfo → Type 0} where
  pub then_quiet : (s : Seen) (r : Read A) (k : A → Seen → Read B) → Quiet pre K s r → ((a : A) (t : Seen) → Quiet (λ u. pre u × K a u) L t (k a t))
      → Quiet pre L s (and_then r k)
  unfolding and_then
  then_quiet s (Good a t) k first next = record { holds = quiet_behind pre K L s a t (k a t) first.holds (next a t).holds }
  then_quiet s (Bad number place) k first next = record { holds = tt }

module _ {A : Type 0} {pre : List FunctionInfo → Type 0} {K : A → List FunctionInfo → Type 0} where
  pub gives_quiet : (s : Seen) (a : A) → ((u : List FunctionInfo) → Ends u s → pre u → K a u) → Quiet pre K s (Good a s)
  gives_quiet s a holds = record { holds = λ u ends. (ends, λ kept p. (kept, holds u ends p)) }

  -- where what was seen changes, but nothing that is asked here
  pub moves_quiet : (s t : Seen) (a : A) → ((u : List FunctionInfo) → Ends u t → Ends u s) → ((u : List FunctionInfo) → Kept u s → Kept u t)
      → ((u : List FunctionInfo) → Ends u t → pre u → K a u) → Quiet pre K s (Good a t)
  moves_quiet s t a back on holds = record { holds = λ u ends. (back u ends, λ kept p. (on u kept, holds u ends p)) }

  pub fails_quiet : (s : Seen) (number place : ℕ) → Quiet pre K s (Bad number place)
  fails_quiet s number place = record { holds = tt }

  -- a test that refuses where it holds
  pub refused_quiet : (s : Seen) (test : Bool) (number place : ℕ) (k : Unit {0} → Seen → Read A) → (test ≡ false → Quiet pre K s (k tt s))
      → Quiet pre K s (and_then (if test then Bad number place else Good tt s) k)
  unfolding and_then
  refused_quiet s true number place k next = record { holds = tt }
  refused_quiet s false number place k next = next refl

  pub if_quiet : (s : Seen) (test : Bool) (a b : Read A) → (test ≡ true → Quiet pre K s a) → (test ≡ false → Quiet pre K s b)
      → Quiet pre K s (if test then a else b)
  if_quiet s true a b first second = first refl
  if_quiet s false a b first second = second refl

  -- what holds anyway holds where something is known
  pub anyway : (s : Seen) (r : Read A) → Quiet Always K s r → Quiet pre K s r
  anyway s (Good a t) h = record { holds = λ u ends. let all = h.holds u ends in (all.0, λ kept p. all.1 kept tt) }
  anyway s (Bad number place) h = record { holds = tt }

  pub quiet_as : (L : A → List FunctionInfo → Type 0) (s : Seen) (r : Read A) → Quiet pre K s r → ((a : A) (u : List FunctionInfo) → K a u → L a u) → Quiet pre L s r
  quiet_as L s (Good a t) h as_well = record { holds = λ u ends. let all = h.holds u ends in (all.0, λ kept p. let made = all.1 kept p in (made.0, as_well a u made.1)) }
  quiet_as L s (Bad number place) h as_well = record { holds = tt }

  -- of a rule that is chosen by a test
  pub either_quiet : (s : Seen) (test : Bool) (a b : Seen → Read A) → (test ≡ true → Quiet pre K s (a s)) → (test ≡ false → Quiet pre K s (b s))
      → Quiet pre K s ((if test then a else b) s)
  either_quiet s true a b first second = first refl
  either_quiet s false a b first second = second refl

  -- what holds under one condition holds under what implies it
  pub under_quiet : (pre' : List FunctionInfo → Type 0) (s : Seen) (r : Read A) → ((u : List FunctionInfo) → pre' u → pre u) → Quiet pre K s r → Quiet pre' K s r
  under_quiet pre' s (Good a t) implies h = record { holds = λ u ends. let all = h.holds u ends in (all.0, λ kept p. all.1 kept (implies u p)) }
  under_quiet pre' s (Bad number place) implies h = record { holds = tt }

  -- begun elsewhere, where the same is known
  pub from_quiet : (s s' : Seen) (r : Read A) → ((u : List FunctionInfo) → Ends u s' → Ends u s) → ((u : List FunctionInfo) → Kept u s → Kept u s')
      → Quiet pre K s' r → Quiet pre K s r
  from_quiet s s' (Good a t) back on h = record { holds = λ u ends. let all = h.holds u ends in (back u all.0, λ kept p. all.1 (on u kept) p) }
  from_quiet s s' (Bad number place) back on h = record { holds = tt }

-- what is read in a scope of its own
pub scoped_quiet : {A : Type 0} (K : A → List FunctionInfo → Type 0) (rule : Seen → Read A) → Quietly K rule → Quietly K (scoped rule)
unfolding scoped and_then
scoped_quiet K rule keeps s =
    from_quiet s (record s { scopes = [] ∷ s.scopes }) _ (λ u ends. ends) (λ u kept. kept)
    (then_quiet (record s { scopes = [] ∷ s.scopes }) (rule (record s { scopes = [] ∷ s.scopes })) _ (keeps (record s { scopes = [] ∷ s.scopes })) (λ a t.
    moves_quiet t (record t { scopes = drop 1 t.scopes }) a (λ u ends. ends) (λ u kept. kept) (λ u ends p. p.1)))
