use Rattle.std.proofs.Common.{◌≡◌, length}
use Rattle.command.specs.Lines.{pairs}
use Rattle.command.specs.Commands.{takes_all}
use Rattle.command.proofs.command.takes_all.Given as goal

abbrev pub invariant-options : goal.invariant-options
invariant-options l = takes_all l.job (pairs l.fn.given) ≡ takes_all l.job (pairs l.rest)

abbrev pub decreases-options : goal.decreases-options
decreases-options l = length l.rest
