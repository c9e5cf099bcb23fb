-- With the effects of the functions that were read.
use Rattle.type_units.proofs.Endings.{with_effects}
use Rattle.type_units.proofs.ending.read_with_effects.Goals as goal

pub returns-in-Ok : goal.returns-in-Ok
returns-in-Ok c = with_effects c.args.source.now c.args.marks.now c.args.tree.now _ _ _ _ _ c.as_slice.ensures.value c.in-Ok.ensures c.functions.ensures c.read_again.ensures
