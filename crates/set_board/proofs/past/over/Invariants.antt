use Rattle.std.proofs.Common.{◌≡◌, take}
use Rattle.set_board.specs.Lives.{lived}
use Rattle.set_board.proofs.past.over.Given as goal

abbrev pub invariant-each : goal.invariant-each
invariant-each l = lived l.life.value ≡ record { held = (lived l.fn.life.value).held; stack = take l.step-index l.stack }
