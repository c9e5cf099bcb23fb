use Rattle.reports.specs.Passes.{report_of}
use Rattle.acceptance_threads.proofs.ReportsMade.{reports_more, reports_none}
use Rattle.acceptance_threads.proofs.boards.reported.Goals as goal

pub each-init : goal.each-init
each-init g c = record { belongs = c.requires.belongs; reports = reports_none (g.B.Board.held c.args.pass) }

pub each-preserved : goal.each-preserved
each-preserved g c = record {
  belongs = c.report.ensures.belongs;
  reports = reports_more c.each.done (g.B.Board.held c.args.pass) (g.B.Board.held c.each.pass) (g.B.Board.held c.report.new.pass) (report_of c.args.stack.now c.report.result) c.each.invariant.reports c.report.ensures.held;
}
