use Rattle.std.proofs.Common.{length, take, ◌-◌, ◌≤◌}
use Rattle.rt_base.specs.Outside.{TakesAll}
use Rattle.rt_base.specs.Writes.{Writes}
use Rattle.rt_base.proofs.writing.write_all.Given as goal

abbrev pub invariant-loop-written : goal.invariant-loop-written
invariant-loop-written g l = record {
  within : l.written ≤ length l.bytes;
  writes : Writes g.S.Sink.write_gives l.bytes l.initial.out l.written l.out;
  taken : TakesAll (take l.written l.bytes) (g.S.Sink.state l.initial.out) (g.S.Sink.state l.out);
}

abbrev pub decreases-loop-written : goal.decreases-loop-written
decreases-loop-written g l = length l.bytes - l.written
