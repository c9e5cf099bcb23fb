-- What is added in turn makes the whole.
use Rattle.std.proofs.Common.{arith}
use Rattle.core_unit.proofs.Regions.{opening_is}
use Rattle.core_unit.proofs.memory.opening.Goals as goal

pub returns : goal.returns
returns c =
    rw (
      c.in_ok-add_zeros-2.ensures,
      c.in_ok-push-2.ensures.items,
      c.in_ok-add_zeros.ensures,
      c.in_ok-add_regions.ensures,
      c.in_ok-extend_from_slice.ensures.items,
      c.in_ok-push.ensures.items,
      c.new-words.ensures.items,
    )
    (opening_is c.args.static_words.now c.args.thread_words.now _ (omega arith))
