-- One more function has its effects.
use Rattle.std.proofs.Common.{◌≡◌, ◌∙◌, ◌<◌, length, slice_get, arith}
use Rattle.std.specs.Option.{option_copied}
use Rattle.typing_state.proofs.Settled.{settle_more, settled_long}
use Rattle.typing_state.proofs.parts.settle_all.Goals as goal

pub each-preserved : goal.each-preserved
each-preserved c =
    let here : option_copied c.at.result ≡ slice_get c.args.whole.now c.each.number = c.at.ensures in
    let below : c.each.number < length c.each.functions.items = omega (arith, c.each-test.true, c.each.invariant.long, c.len-number-end.ensures) in
    rw (c.settle.ensures, here) (record {
      long = settled_long _ _ _ ∙ c.each.invariant.long;
      parts = c.each.invariant.parts ∙ settle_more c.args.whole.now c.each.number c.each.number c.each.functions.items below;
    })
