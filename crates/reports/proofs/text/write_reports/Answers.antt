-- a fault within a report leaves the reports before it and a prefix of it
use Rattle.std.proofs.lemmas.Result.{err_from_is_err_and}
use Rattle.rt_base.proofs.Pieces.{fails_next}
use Rattle.reports.specs.ReportText.{report_text}
use Rattle.reports.proofs.text.write_reports.Goals as goal

pub returns-in_err-write_report : goal.returns-in_err-write_report
returns-in_err-write_report g c =
    let p = err_from_is_err_and c.from_residual.result c.from_residual.ensures.1 in
    let part = rw c.counted-item.is at c.in_err-write_report.ensures in
    let fault = fails_next (report_text c.args.source.now c.args.unit.now) c.as_slice-counted-items.result.now c.each.counted-index c.counted-item.result _ _ _ c.each-test.true c.each.invariant part in
    rw p.1 (rw c.as_slice-counted-items.ensures at fault)
