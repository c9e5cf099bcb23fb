-- the steps so far are walked
use Rattle.std.proofs.Common.{take}
use Rattle.prefix_table.proofs.Walked.{IsWalked}
use Rattle.prefix_table.proofs.table.PrefixTable.enter.Given as goal

abbrev pub invariant-each : goal.invariant-each
invariant-each l = IsWalked l.initial.self l.self (take l.step-index l.stack) l.parent
