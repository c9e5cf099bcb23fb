use Rattle.std.proofs.Common.{◌≤◌, ◌+◌, List, ◌++◌, length, slice_index}
use Rattle.std.specs.Mem.Slots.{slots_items}
use Rattle.ctx_set.specs.declared.steps.StackStep.{StackStep}
use Rattle.context_set.specs.Closed.{Climbs}
use Rattle.context_set.proofs.close.climbed.Given as goal

-- a way up is left, short enough for the turns that are left, and behind the steps so far it is the whole one
abbrev pub invariant-loop-climbed : goal.invariant-loop-climbed
invariant-loop-climbed l = record {
  left : (p : List StackStep) × Climbs l.slots (slice_index (slots_items l.closed.words)) l.at p × (length p + l.climbed ≤ l.slots);
  whole : (p : List StackStep) → Climbs l.slots (slice_index (slots_items l.closed.words)) l.at p → Climbs l.slots (slice_index (slots_items l.closed.words)) l.slot (l.steps.items ++ p);
}
