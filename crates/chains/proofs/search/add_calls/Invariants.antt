use Rattle.chains.specs.Queue.{AddsCalls}
use Rattle.chains.proofs.search.add_calls.Given as goal

-- the calls of the marks so far are entered
abbrev pub invariant-marks : goal.invariant-marks
invariant-marks l = AddsCalls l.row l.mark-index l.function l.initial.callers.items l.callers.items
