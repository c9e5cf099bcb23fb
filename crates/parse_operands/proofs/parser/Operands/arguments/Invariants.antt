-- What the rule reads is the arguments so far, and what it reads from the next one on.
use Rattle.std.proofs.Common.{◌≡◌, ◌-◌, length}
use Rattle.grammar.specs.Parser.{deepen}
use Rattle.c_grammar.specs.Rules.{Arguments}
use Rattle.parse_input.specs.Reads.{named, behind_items}
use Rattle.parse_operands.specs.Parts.{arguments_reads}
use Rattle.parse_operands.proofs.parser.Operands.arguments.Given as goal

abbrev pub invariant-each : goal.invariant-each
invariant-each g l =
    (named (l.limits.room - 1) (Arguments l.initial.input.scope) l.initial.input.tokens
    ≡ deepen l.depth (behind_items l.given (arguments_reads (l.limits.room - 1) l.input.scope l.input.tokens)))
    × (l.input.scope ≡ l.initial.input.scope)

abbrev pub decreases-each : goal.decreases-each
decreases-each g l = length l.input.tokens
