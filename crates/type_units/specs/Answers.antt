-- What is answered of a tree.
use Rattle.std.specs.Prelude.{◌≡◌, ℕ, List, Result, Ok, Err, IsPermutation}
use Rattle.std.specs.List.Sorted.{IsNonDecreasingBy, IsStableByKey}
use Rattle.std.specs.Ordering.{nat_cmp}
use Rattle.type_rules.specs.Reading.{Read, Good, Bad}
use Rattle.type_rules.specs.Seen.{Seen}
use Rattle.type_rules.specs.Units.{Outcome, IsTyped, Breaks, Passes, parts_of}
use Rattle.type_rules.specs.declared.notes.TypeWarning.{TypeWarning}
use Rattle.type_rules.specs.declared.notes.TypeWarning.TheVariants as warning
use Rattle.type_units.specs.declared.ending.TypedParts.{TypedParts}
use Rattle.type_units.specs.declared.refusal.TypeRefusal.{TypeRefusal}
use Rattle.type_units.specs.declared.typed.Typed.{Typed}
use Rattle.type_units.specs.declared.refusal.TypeRefusal.TheVariants as refusal
use Rattle.typing_state.specs.declared.stop.Stop.{Stop}
use Rattle.typing_state.specs.declared.stop.Stop.TheVariants as stop

-- What is answered where a tree is read: what was seen by its end, or the fault. Want of memory says nothing.
abbrev pub Reads : Read (Unit {0}) → Result Seen Stop → Type 0
Reads read (Ok after) = read ≡ Good tt after
Reads read (Err (stop.Fault number place)) = read ≡ Bad number place
Reads read (Err stop.NoMemory) = Unit {0}

-- the refusal of a tree whose reading stops
abbrev pub refusal_of : Stop → TypeRefusal
refusal_of (stop.Fault number place) = refusal.Bad number place
refusal_of stop.NoMemory = refusal.NoMemory

abbrev pub place_of : TypeWarning → ℕ
place_of (warning.Conversion place level) = place
place_of (warning.Redeclaration place level) = place

-- The warnings that were noted, in order of place; those at one place stand as they were noted.
pub record AreInOrder (noted warnings : List TypeWarning) : Type 0 where
  pub same : IsPermutation noted warnings
  pub rising : IsNonDecreasingBy place_of warnings
  pub stable : IsStableByKey place_of nat_cmp noted warnings

-- The parts of the unit that was read, and its warnings in order.
pub record Fills (s : Seen) (typed : TypedParts) : Type 0 where
  pub parts : typed.parts ≡ parts_of s
  pub warnings : AreInOrder s.warnings typed.warnings

-- The tree is typed inside the limits, as these parts and with these warnings.
pub record AreTyped (outcome : Outcome) (typed : TypedParts) : Type 0 where
  pub noted : List TypeWarning
  pub parts : outcome ≡ IsTyped typed.parts noted
  pub warnings : AreInOrder noted typed.warnings

-- What is answered of a tree with this outcome. Want of memory says nothing.
abbrev pub Answers : Outcome → Result TypedParts TypeRefusal → Type 0
Answers outcome (Ok typed) = AreTyped outcome typed
Answers outcome (Err (refusal.Bad number place)) = outcome ≡ Breaks number place
Answers outcome (Err (refusal.Limit which)) = outcome ≡ Passes which
Answers outcome (Err refusal.NoMemory) = Unit {0}

-- The same of a typed unit: its parts are those.
abbrev pub AnswersUnit : Outcome → Result Typed TypeRefusal → Type 0
AnswersUnit outcome (Ok typed) = AreTyped outcome (record { parts = typed.unit; warnings = typed.warnings })
AnswersUnit outcome (Err (refusal.Bad number place)) = outcome ≡ Breaks number place
AnswersUnit outcome (Err (refusal.Limit which)) = outcome ≡ Passes which
AnswersUnit outcome (Err refusal.NoMemory) = Unit {0}
