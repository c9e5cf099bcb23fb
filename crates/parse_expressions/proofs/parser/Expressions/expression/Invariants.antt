-- Past what stands on the left, the rule goes on with the tokens that are left.
use Rattle.std.proofs.Common.{◌≡◌, ◌≤◌, length}
use Rattle.c_grammar.specs.Rules.{Expression}
use Rattle.parse_input.specs.Reads.{named, past}
use Rattle.parse_expressions.proofs.parser.Expressions.expression.Given as goal

abbrev pub invariant-commas : goal.invariant-commas
invariant-commas g l =
    (named l.limits.room (Expression l.fn.input.scope) l.fn.input.tokens ≡ past l.limits.room (Expression l.fn.input.scope) l.left.value l.left.depth l.input.tokens)
    × (l.left.depth ≤ l.limits.room) × (l.input.scope ≡ l.fn.input.scope)

abbrev pub decreases-commas : goal.decreases-commas
decreases-commas g l = length l.input.tokens
