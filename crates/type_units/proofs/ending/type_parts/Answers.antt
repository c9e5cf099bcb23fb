-- The first reading goes on, or it stops.
use Rattle.type_units.proofs.Endings.{reads_again, stops_first}
use Rattle.type_units.proofs.ending.type_parts.Goals as goal

pub returns-in-Ok : goal.returns-in-Ok
returns-in-Ok c = reads_again c.args.source.now c.args.marks.now c.args.tree.now _ _ c.in-Ok.ensures c.read_with_effects.ensures

pub returns-in-Err : goal.returns-in-Err
returns-in-Err c = stops_first c.args.source.now c.args.marks.now c.args.tree.now c.in-Err.stop _ c.in-Err.ensures c.from.ensures
