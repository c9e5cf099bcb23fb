use Rattle.std.proofs.Common.{ℕ, ◌∙◌, ap}
use Rattle.atomic_table.specs.Table.{Me}
use Rattle.word_mem.specs.declared.view.View.{View}
use Rattle.word_table.proofs.Allowed.{splits_deal}
use Rattle.word_table.proofs.memory.TableWords.deal.Goals as goal

pub split_seat-seat-requires : goal.split_seat-seat-requires
split_seat-seat-requires c =
    let so_far = c.loop-number.invariant in
    let starts = ap (λ (me : Me ℕ View). me.0.fresh) so_far.first in
    (so_far.table ∙ c.requires.table, c.args.self.now.some, splits_deal c.args.self.now.table.shared.key.value _ _ c.loop-number.number starts)
