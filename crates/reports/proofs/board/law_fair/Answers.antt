-- The law of the board's trait says it.
use Rattle.reports.proofs.board.law_fair.Goals as goal

pub returns : goal.returns
returns g c = g.met.B.Board.fair (g.B.Board.place c.args.board.now) c.args.pass.now c.requires.belongs c.requires.whole
