-- What the rule reads is what stands behind the part that was read so far.
use Rattle.std.proofs.Common.{◌≡◌, ◌≤◌, length}
use Rattle.c_grammar.specs.Rules.{Postfix}
use Rattle.parse_input.specs.Reads.{named, past}
use Rattle.parse_operands.proofs.parser.Operands.postfix.Given as goal

abbrev pub invariant-each : goal.invariant-each
invariant-each g l =
    (named l.limits.room (Postfix l.fn.front l.fn.input.scope) l.fn.input.tokens
    ≡ past l.limits.room (Postfix l.fn.front l.fn.input.scope) l.left.value l.left.depth l.input.tokens)
    × (l.left.depth ≤ l.limits.room) × (l.input.scope ≡ l.fn.input.scope)

abbrev pub decreases-each : goal.decreases-each
decreases-each g l = length l.input.tokens
