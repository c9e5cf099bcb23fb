use Rattle.acceptance_threads.specs.Reporting.{Reports}
use Rattle.acceptance_threads.proofs.boards.reported.Given as goal

abbrev pub invariant-each : goal.invariant-each
invariant-each g l = record {
  belongs : g.B.Board.belongs (g.B.Board.place l.board) l.pass;
  reports : Reports l.done (g.B.Board.held l.fn.pass) (g.B.Board.held l.pass);
}
