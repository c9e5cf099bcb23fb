-- the lines of the callers that are left remain, and there are as many steps in all as lines
use Rattle.std.proofs.Common.{◌≡◌, ◌+◌, length, reverse}
use Rattle.reports.specs.ReportText.{callers_text}
use Rattle.reports.proofs.Remaining.{Remains}
use Rattle.reports.proofs.text.write_callers.Given as goal

abbrev pub invariant-each : goal.invariant-each
invariant-each g l = record {
  owed :
      Remains (g.S.Sink.state l.initial.out) (g.S.Sink.state l.out)
      (callers_text l.source l.unit l.index l.site (reverse l.rest))
      (callers_text l.source l.unit 1 l.fn.site (reverse l.callers));
  counted : l.index + length l.rest ≡ length l.callers + 1;
}

abbrev pub decreases-each : goal.decreases-each
decreases-each g l = length l.rest
