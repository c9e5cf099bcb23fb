-- A step that is taken.
use Rattle.std.specs.Prelude.{ℕ, Option, Some, None}
use Rattle.mcode.specs.Machine.{Machine}
use Rattle.mcode.specs.Steps.{Step, Quiet, Makes, Ends}

-- a quiet step at once, and an event where there is an answer to it
abbrev pub taken : Machine → Option ℕ → Step Machine → Machine
taken t answer (Quiet next) = next
taken t None (Makes event after turned) = t
taken t (Some word) (Makes event after turned) = after word
taken t answer (Ends finish) = t
