use Rattle.std.proofs.Common.{◌≡◌, ◌<◌, Err}
use Rattle.context_set.specs.Held.{enters, path_to}
use Rattle.context_set.specs.Steps.{IsBefore, IsSeat}
use Rattle.context_set.proofs.table.CtxSet.enter.Given as goal

-- so many slots were seen with other keys; behind the last one the path is refused
abbrev pub invariant-loop-tried : goal.invariant-loop-tried
invariant-loop-tried l = record {
  table : l.pass.seat.table_id ≡ l.fn.pass.seat.table_id;
  seat : IsSeat l.self.slots l.pass.seat.me;
  going : l.tried < l.self.slots → (l.pass.seat.me.0.held ≡ l.fn.pass.seat.me.0.held) × IsBefore l.pass.seat.me.0 l.ask.key l.tried;
  ended : l.tried ≡ l.self.slots → l.pass.seat.me.0.held ≡ enters l.fn.pass.seat.me.0.held (path_to l.fn.pass.seat.me.0.held.known l.fn.parent l.fn.step) (Err record {});
}
