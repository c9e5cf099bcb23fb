-- The head is written, and then the callers.
use Rattle.std.proofs.Common.{sym, ap, ◌∙◌}
use Rattle.reports.specs.ReportText.{kind_name}
use Rattle.std.proofs.lemmas.Result.{err_from_is_err_and}
use Rattle.rt_base.proofs.Pieces.{fails_longer, written_behind}
use Rattle.reports.proofs.LastStep.{report_of_last}
use Rattle.reports.proofs.text.write_report.Goals as goal

pub returns-in_err-write_head : goal.returns-in_err-write_head
returns-in_err-write_head g c =
    let p = err_from_is_err_and c.from_residual.result c.from_residual.ensures.1 in
    let parts = report_of_last c.args.source.now c.args.unit.now c.args.counted.now c.in-Some.callers.now c.in-Some.reached.now c.kind_name-kind.result.now c.name_of-name.result.now c.format.result.now (sym c.as_slice.ensures ∙ c.in-Some.ensures.cases.0) (c.kind_name-kind.ensures ∙ ap kind_name c.kind_of.ensures) c.name_of-name.ensures c.format.ensures.text in
    rw p.1 (rw parts (fails_longer _ _ _ _ c.in_err-write_head.ensures))

pub returns : goal.returns
returns g c =
    let parts = report_of_last c.args.source.now c.args.unit.now c.args.counted.now c.in-Some.callers.now c.in-Some.reached.now c.kind_name-kind.result.now c.name_of-name.result.now c.format.result.now (sym c.as_slice.ensures ∙ c.in-Some.ensures.cases.0) (c.kind_name-kind.ensures ∙ ap kind_name c.kind_of.ensures) c.name_of-name.ensures c.format.ensures.text in
    rw parts (written_behind c.write_callers.result _ _ _ _ _ c.in_ok-write_head.ensures c.write_callers.ensures)
