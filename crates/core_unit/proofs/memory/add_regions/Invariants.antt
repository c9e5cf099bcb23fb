-- So many regions are there as threads were counted.
use Rattle.std.proofs.Common.{◌≡◌, ◌++◌}
use Rattle.core_unit.specs.Layout.{region, copies}
use Rattle.core_unit.proofs.memory.add_regions.Given as goal

abbrev pub invariant-each : goal.invariant-each
invariant-each l = l.words.items ≡ l.fn.words.items ++ copies l.counter (region l.thread_words)
