-- Each turn adds one place more.
use Rattle.unit_check.proofs.Places.{numbered_next}
use Rattle.unit_check.proofs.positions.add_body.Goals as goal

pub each-preserved : goal.each-preserved
each-preserved c =
    numbered_next c.args.function c.args.spots.now c.each.index _ c.args.all.now.items c.each.all.items c.push.new.self.items c.each-test.true c.each.invariant c.in_ok-push.ensures.items
