use Rattle.std.proofs.Common.{slice_index}
use Rattle.std.specs.Mem.Slots.{slots_items}
use Rattle.context_set.specs.Closed.{Rows}
use Rattle.context_set.proofs.close.tallied.Given as goal

-- the slots so far
abbrev pub invariant-loop-slot : goal.invariant-loop-slot
invariant-loop-slot l = Rows l.slots (slice_index (slots_items l.closed.words)) l.slot l.list.items
