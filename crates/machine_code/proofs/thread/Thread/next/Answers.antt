use Rattle.std.proofs.Common.{sym, subst, length}
use Rattle.machine_code.specs.Bounds.{HasRoom}
use Rattle.machine_code.proofs.Counting.{next_room}
use Rattle.machine_code.proofs.thread.Thread.next.Goals as goal

pub returns-clause-room : goal.returns-clause-room
returns-clause-room c =
    subst (λ event. HasRoom event (length c.args.self.now.callers)) (sym c.event.ensures.event) (next_room c.args.code.now c.args.self.now)
