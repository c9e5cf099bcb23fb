use Rattle.std.proofs.Common.{arith}
use Rattle.std.proofs.lemmas.Grind.{common_steps}
use Rattle.rt_base.specs.Writes.{NoWrite}
use Rattle.rt_base.proofs.WriteChain.{Writes-more, Writes-stopped}
use Rattle.rt_base.proofs.Pieces.{takes_nothing, takes_step, fails_step}
use Rattle.rt_base.proofs.writing.write_all.Goals as goal

pub loop-written-init : goal.loop-written-init
loop-written-init g c = record {
  within = omega arith;
  writes = NoWrite;
  taken = takes_nothing (g.S.Sink.state c.args.out.now);
}

pub returns-in_default-clause-written : goal.returns-in_default-clause-written
returns-in_default-clause-written g c =
    fails_step _ _ _ c.args.bytes.now c.loop-written.written c.loop-written.invariant.taken c.in_default.ensures.failed

pub returns-in_default-clause-to_fault : goal.returns-in_default-clause-to_fault
returns-in_default-clause-to_fault g c =
    Writes-stopped g.S.Sink.write_gives c.args.bytes.now c.args.out.now c.loop-written.out c.write.new.self c.loop-written.written c.loop-written.invariant.writes c.loop-written-test.true c.in_default.ensures.gives

pub loop-written-preserved : goal.loop-written-preserved
loop-written-preserved g c = record {
  within = grind (arith, common_steps, c.in-Ok.ensures.within);
  writes = Writes-more g.S.Sink.write_gives c.args.bytes.now c.args.out.now c.loop-written.out c.write.new.self c.loop-written.written c.in-Ok.count c.loop-written.invariant.writes c.in-Ok.ensures.gives c.in-Ok.ensures.some;
  taken = takes_step _ _ _ c.args.bytes.now c.loop-written.written c.in-Ok.count c.loop-written.invariant.taken c.in-Ok.ensures.taken;
}
