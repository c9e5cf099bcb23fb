-- A part that was read already, as a rule.
use Rattle.std.specs.Prelude.{Option, Some, None}
use Rattle.type_rules.specs.Reading.{Rule, gives}

-- what is written, as the rule that gives it
abbrev pub given : {A : Type 0} → Option A → Option (Rule A)
given None = None
given (Some a) = Some (gives a)
