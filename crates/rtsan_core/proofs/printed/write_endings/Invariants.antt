-- the sink took the lines so far
use Rattle.std.proofs.Common.{take}
use Rattle.rt_base.specs.Outside.{TakesAll}
use Rattle.rtsan_core.specs.Runs.{endings_text}
use Rattle.rtsan_core.proofs.printed.write_endings.Given as goal

abbrev pub invariant-each : goal.invariant-each
invariant-each g l =
    TakesAll (endings_text (take l.thread-index l.threads)) (g.S.Sink.state l.initial.out) (g.S.Sink.state l.out)
