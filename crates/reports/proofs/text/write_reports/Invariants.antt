-- the sink took the reports so far
use Rattle.std.proofs.Common.{take}
use Rattle.rt_base.specs.Outside.{TakesAll}
use Rattle.reports.specs.ReportText.{reports_text}
use Rattle.reports.proofs.text.write_reports.Given as goal

abbrev pub invariant-each : goal.invariant-each
invariant-each g l =
    TakesAll (reports_text l.source l.unit (take l.counted-index l.counted-items)) (g.S.Sink.state l.initial.out)
    (g.S.Sink.state l.out)
