-- There are counts for all prefixes that are held.
use Rattle.std.proofs.Common.{◌<◌, ◌++◌, length, ap, ◌∙◌, arith}
use Rattle.std.proofs.lemmas.List.{length-take}
use Rattle.reports.specs.Prefixes.{prefixes, distinct, room}
use Rattle.plain_board.proofs.counts.Counts.count.Goals as goal

pub add_one-requires : goal.add_one-requires
add_one-requires c =
    let long = ap length c.enter.ensures.held ∙ length-take room (distinct (c.args.self.now.prefixes ++ prefixes c.args.stack.now)) in
    let low = c.in-Some.ensures.number.0 in
    let many = c.requires.many in
    let here : c.in-Some.number < length c.args.self.now.counts.items = omega (arith, long, low, many) in
    here
