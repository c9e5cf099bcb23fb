use Rattle.unit_spots.proofs.Rows.{ordered}
use Rattle.unit_spots.proofs.spots.body_spots.Goals as goal

pub returns : goal.returns
returns c =
    ordered c.args.body.now c.stmts_spots.new.found c.sort.new.self (rw (c.as_slice.ensures, c.new-found.ensures) at c.in_ok-stmts_spots.ensures) c.in_ok-sort.ensures
