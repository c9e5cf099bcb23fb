use Rattle.std.proofs.Common.{◌∙◌, ap, arith, length}
use Rattle.std.proofs.lemmas.List.{length-append}
use Rattle.core_unit.specs.Layout.{region, copies}
use Rattle.core_unit.proofs.Regions.{room_for}
use Rattle.core_unit.proofs.memory.add_regions.Goals as goal

pub add_region-requires-clause-room : goal.add_region-requires-clause-room
add_region-requires-clause-room c =
    let e = ap length c.each.invariant ∙ length-append c.args.words.now.items (copies c.each.counter (region c.args.thread_words.now)) in
    let long = room_for c.each.counter c.args.thread_words.now c.requires.few in
    omega (arith, e, long)
