-- What is warned of is written, then the reports, and then the endings.
use Rattle.std.proofs.lemmas.Result.{err_from_is_err_and}
use Rattle.rtsan_core.specs.Found.{warned_of}
use Rattle.rtsan_core.proofs.RunTexts.{fault_in_warnings, fault_in_reports, endings_written}
use Rattle.rtsan_core.proofs.printed.write_run.Goals as goal

pub returns-in_err-write_warned : goal.returns-in_err-write_warned
returns-in_err-write_warned g c =
    let p = err_from_is_err_and c.from_residual.result c.from_residual.ensures.1 in
    rw p.1 (fault_in_warnings (warned_of c.args.file.now c.args.found.now) (record { unit = c.args.unit.now; finished = c.args.finished.now }) _ _ c.in_err-write_warned.ensures)

pub returns-in_err-write_reports : goal.returns-in_err-write_reports
returns-in_err-write_reports g c =
    let p = err_from_is_err_and c.from_residual-in_err-write_reports.result c.from_residual-in_err-write_reports.ensures.1 in
    let fault = rw c.as_slice.ensures at c.in_err-write_reports.ensures in
    rw p.1 (fault_in_reports (warned_of c.args.file.now c.args.found.now) (record { unit = c.args.unit.now; finished = c.args.finished.now }) _ _ _ c.in_ok-write_warned.ensures fault)

pub returns : goal.returns
returns g c =
    let reported = rw c.as_slice.ensures at c.in_ok-write_reports.ensures in
    let ended = rw c.as_slice-2.ensures at c.write_endings.ensures in
    endings_written c.write_endings.result (warned_of c.args.file.now c.args.found.now) (record { unit = c.args.unit.now; finished = c.args.finished.now }) _ _ _ _ c.in_ok-write_warned.ensures reported ended
