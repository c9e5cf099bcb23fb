use Rattle.rt_base.proofs.Faults.{NoneBefore}
use Rattle.std.proofs.Common.{◌≡◌}
use Rattle.rt_base.proofs.listed.FileList.count_fault.Given as goal

abbrev pub invariant-loop-i : goal.invariant-loop-i
invariant-loop-i l = record {
  none : NoneBefore l.self-inside.items.items l.i l.name;
  kept : l.self-inside.items ≡ l.initial.self-inside.items;
}
