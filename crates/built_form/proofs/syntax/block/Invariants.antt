use Rattle.std.proofs.Common.{length}
use Rattle.built_form.specs.Form.{spelled_call}
use Rattle.built_form.specs.Reading.{parts_of}
use Rattle.built_form.proofs.Items.{Closes}
use Rattle.built_form.proofs.Progress.{Progress}
use Rattle.built_form.proofs.syntax.block.Given as goal

abbrev pub invariant-calls : goal.invariant-calls
invariant-calls l = Progress spelled_call (Closes (parts_of l.closing)) l.calls l.initial.cursor l.cursor

abbrev pub decreases-calls : goal.decreases-calls
decreases-calls l = length l.cursor
