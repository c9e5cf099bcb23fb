-- The functions before this number have their effects, and the others are to get theirs.
use Rattle.std.proofs.Common.{◌≡◌, ◌++◌, take, drop, length}
use Rattle.type_rules.specs.Units.{with_whole}
use Rattle.typing_state.proofs.parts.settle_all.Given as goal

abbrev pub invariant-each : goal.invariant-each
invariant-each l = record {
  long : length l.functions.items ≡ length l.initial.functions.items;
  parts : with_whole l.whole 0 l.initial.functions.items ≡ take l.number l.functions.items ++ with_whole l.whole l.number (drop l.number l.functions.items);
}
