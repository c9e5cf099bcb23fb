use Rattle.std.proofs.Common.{◌∙◌, ap, arith}
use Rattle.word_mem.specs.Locked.{Seated}
use Rattle.word_mem.proofs.LockRule.{lock_deals}
use Rattle.word_mem.proofs.locked.LockedWords.deal.Goals as goal

pub split_seat-seat-requires : goal.split_seat-seat-requires
split_seat-seat-requires g c =
    let so_far = c.loop-number.invariant in
    let starts = ap (λ (me : Seated). me.0.view.fresh) so_far.first in
    (so_far.table ∙ c.requires.table, omega (arith, c.args.self.now.one), lock_deals c.args.self.now.table.shared.key.value _ _ c.loop-number.number starts)
