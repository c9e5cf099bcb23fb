-- The functions so far.
use Rattle.unit_check.specs.Findings.{TellsBelow}
use Rattle.unit_check.proofs.checking.verified.Given as goal

abbrev pub invariant-each : goal.invariant-each
invariant-each l = TellsBelow l.functions l.level l.number l.all.items
