use Rattle.context_set.specs.Passes.{held_of}
use Rattle.set_board.proofs.Walking.{walk_step, walk_stops}
use Rattle.set_board.proofs.board.SetBoard.walk.Goals as goal

pub each-preserved : goal.each-preserved
each-preserved c = record {
  pass = c.in-Ok.ensures.pass;
  walking = walk_step (held_of c.args.ctx.now) (held_of c.each.ctx) (held_of c.enter.new.pass) c.args.stack.now c.each.step-index _ c.each-test.true c.each.at c.each.invariant.walking c.in-Ok.node c.in-Ok.ensures.held c.in-Ok.ensures.known c.in-Ok.ensures.path;
}

pub returns-in-Err-clause-none : goal.returns-in-Err-clause-none
returns-in-Err-clause-none c =
    walk_stops (held_of c.args.ctx.now) (held_of c.each.ctx) (held_of c.enter.new.pass) c.args.stack.now c.each.step-index _ c.each-test.true c.each.at c.each.invariant.walking c.in-Err.field-0 c.in-Err.ensures.held
