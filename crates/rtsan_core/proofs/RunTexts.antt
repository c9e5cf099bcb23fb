-- What was written of the text of a run, by what was written of its three pieces.
use Rattle.std.proofs.Common.{List, ℕ, ◌++◌, Result}
use Rattle.built_reports.specs.RunText.{reports_text}
use Rattle.rt_base.specs.Outside.{SinkState, TakesAll, FailsWithin, IsWritten}
use Rattle.rt_base.proofs.Pieces.{fails_longer, takes_then_fails, written_behind}
use Rattle.rtsan_core.specs.Runs.{Warned, Left, warned_text, run_text, endings_text}

abbrev reports_of : Warned → Left → List ℕ
reports_of warned left = reports_text warned.source left.unit left.finished.stacks

pub fault_in_warnings : (warned : Warned) (left : Left) (old new : SinkState) → FailsWithin (warned_text warned) old new → FailsWithin (run_text warned left) old new
unfolding run_text
fault_in_warnings warned left old new f =
    fails_longer old new (warned_text warned) (reports_of warned left ++ endings_text left.finished.threads) f

pub fault_in_reports : (warned : Warned) (left : Left) (old between new : SinkState) → TakesAll (warned_text warned) old between → FailsWithin (reports_of warned left) between new → FailsWithin (run_text warned left) old new
unfolding run_text
fault_in_reports warned left old between new a f =
    takes_then_fails old between new (warned_text warned) (reports_of warned left ++ endings_text left.finished.threads) a
    (fails_longer between new (reports_of warned left) (endings_text left.finished.threads) f)

pub endings_written : {T E : Type 0} (result : Result T E) (warned : Warned) (left : Left) (old first second new : SinkState) → TakesAll (warned_text warned) old first → TakesAll (reports_of warned left) first second
    → IsWritten (endings_text left.finished.threads) result second new → IsWritten (run_text warned left) result old new
unfolding run_text
endings_written result warned left old first second new a b w =
    written_behind result old first new (warned_text warned) (reports_of warned left ++ endings_text left.finished.threads) a
    (written_behind result first second new (reports_of warned left) (endings_text left.finished.threads) b w)
