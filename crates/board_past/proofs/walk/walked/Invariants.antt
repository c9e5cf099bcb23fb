-- the steps so far are added
use Rattle.std.proofs.Common.{◌≡◌, take}
use Rattle.board_past.proofs.walk.walked.Given as goal

abbrev pub invariant-each : goal.invariant-each
invariant-each l = l.walk ≡ take l.step-index l.stack
