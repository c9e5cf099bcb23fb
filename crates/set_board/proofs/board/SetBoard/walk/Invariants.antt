use Rattle.std.proofs.Common.{take}
use Rattle.context_set.specs.Passes.{place_of, held_of, IsPassOf}
use Rattle.set_board.specs.Mirrors.{IsWalking}
use Rattle.set_board.proofs.board.SetBoard.walk.Given as goal

abbrev pub invariant-each : goal.invariant-each
invariant-each l = record {
  pass : IsPassOf (place_of l.self.set) l.ctx;
  walking : IsWalking (held_of l.fn.ctx) (held_of l.ctx) (take l.step-index l.stack) l.at;
}
