use Rattle.std.proofs.Common.{List, slice_index, sym, subst}
use Rattle.std.specs.Mem.Slots.{slots_items}
use Rattle.context_set.specs.declared.count.PathCount.{PathCount}
use Rattle.context_set.specs.Closed.{Rows, none}
use Rattle.context_set.proofs.close.tallied.Goals as goal

pub loop-slot-init : goal.loop-slot-init
loop-slot-init c = subst (λ (l : List PathCount). Rows c.args.slots (slice_index (slots_items c.args.closed.now.words)) 0 l) (sym c.new-list.ensures.items) none
