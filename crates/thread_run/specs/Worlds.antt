-- What a C thread runs in, and what is asked of it.
use Rattle.std.specs.Prelude.{◌<◌, List, []}
use Rattle.core_unit.specs.declared.tables.UnitParts.{UnitParts}
use Rattle.mcode.specs.Machine.{Program}
use Rattle.src_model.specs.Follows.{Behaves}
use Rattle.src_model.specs.Runs.{Setting}
use Rattle.src_model.specs.declared.runs.Options.{Options}
use Rattle.suppress.specs.declared.suppressions.Suppression.{Suppression}

-- the unit, its code, the suppressions and the options
pub record WorldParts : Type 0 where
  pub unit : UnitParts
  pub code : Program
  pub suppressions : List Suppression
  pub options : Options

-- The same as the setting of a run. What a thread does once it has begun depends neither on the entry's name nor on its arguments.
abbrev pub setting_of : WorldParts → Setting
setting_of w = record { unit = w.unit; entry = []; arguments = []; options = w.options; suppressions = w.suppressions }

-- The code does what the unit's source does, and the limits let a thread make an event and a try.
pub record CanRun (w : WorldParts) : Type 0 where
  pub behaves : Behaves w.unit w.code
  pub events : 0 < w.options.events
  pub tries : 0 < w.options.wait_limit
