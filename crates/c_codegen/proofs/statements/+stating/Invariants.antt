-- The statements so far. What is called for a part of a statement goes before the statement.
use Rattle.std.proofs.Common.{◌≡◌, ◌+◌, take}
use Rattle.c_codegen.specs.Emits.{here, EmitsStatements}
use Rattle.c_codegen.specs.Sizes.{list_size}
use Rattle.c_codegen.proofs.StatedRanks.{rank, list_rank}
use Rattle.c_codegen.proofs.statements.+stating.Given as goal

abbrev pub invariant-emit_statements-each : goal.invariant-emit_statements-each
invariant-emit_statements-each l =
    EmitsStatements l.unit l.initial.draft l.draft (take l.statement-index l.statements) l.jumps.out l.jumps.back
    × (here l.draft ≡ here l.initial.draft + list_size (take l.statement-index l.statements))

abbrev pub decreases-emit_statement : goal.decreases-emit_statement
decreases-emit_statement l = rank l.statement.now

abbrev pub decreases-emit_if : goal.decreases-emit_if
decreases-emit_if l = rank l.item.now + list_rank l.other.now + 2

abbrev pub decreases-emit_while : goal.decreases-emit_while
decreases-emit_while l = rank l.body.now + 1

abbrev pub decreases-emit_do : goal.decreases-emit_do
decreases-emit_do l = rank l.body.now + 1

abbrev pub decreases-emit_for : goal.decreases-emit_for
decreases-emit_for l = rank l.body.now + 1

abbrev pub decreases-emit_statements : goal.decreases-emit_statements
decreases-emit_statements l = list_rank l.statements.now + 1
