use Rattle.std.specs.Option.{option_map}
use Rattle.std.proofs.Common.{slice_get}
use Rattle.core_unit.proofs.RowNames.{row_name}
use Rattle.core_unit.proofs.units.Unit.target_name.Goals as goal

pub returns-else-target-lt-FIRST_ROW : goal.returns-else-target-lt-FIRST_ROW
returns-else-target-lt-FIRST_ROW c =
    row_name (option_map (λ f. f.name) (slice_get c.args.self.now.functions c.args.target)) c.library.result.now c.args.target _ c.library.ensures
    c.if-target-lt-FIRST_ROW.false c.requires.0
