-- One note more is put.
use Rattle.type_units.proofs.Initials.{words_more}
use Rattle.type_units.proofs.words.words_from.Goals as goal

pub each-preserved : goal.each-preserved
each-preserved c = words_more c.args.first c.args.count c.args.notes.now c.each.note-index _ _ _ c.each-test.true c.each.invariant c.put.ensures
