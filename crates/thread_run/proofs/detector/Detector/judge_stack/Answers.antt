use Rattle.thread_run.proofs.Telling.{noted_here}
use Rattle.thread_run.proofs.detector.Detector.judge_stack.Goals as goal

pub returns-in-Report-clause-notes : goal.returns-in-Report-clause-notes
returns-in-Report-clause-notes g c =
    noted_here g.B.Board.is_exact c.args.self.now c.self.inside.stack c.as_slice.result.now c.self.inside.context c.judged_by.result c.report.result (g.B.Board.held c.args.pass.now) (g.B.Board.held c.report.new.pass)
    c.self.view_is c.as_slice.ensures c.report.ensures.held c.judged_by.ensures.report c.judged_by.ensures.counted c.report.ensures.exact
