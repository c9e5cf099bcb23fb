use Rattle.std.proofs.Common.{arith}
use Rattle.word_threads.proofs.Adding.{Adds-more}
use Rattle.word_threads.proofs.work.add_many.Goals as goal

pub loop-done-preserved : goal.loop-done-preserved
loop-done-preserved g c =
    let so_far = c.loop-done.invariant in
    let call = c.fetch_add.ensures in record {
      left = omega (arith, call.left, so_far.left);
      belongs = call.belongs;
      held = Adds-more _ _ c.fetch_add.result _ _ _ so_far.held call.held;
      so_far = omega arith;
    }
