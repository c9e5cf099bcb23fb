-- Past what stands on the left, the chains of the levels that are open go on with the tokens that are left.
use Rattle.std.proofs.Common.{◌≡◌, ◌≤◌, length}
use Rattle.c_grammar.specs.Rules.{Binary}
use Rattle.parse_input.specs.Reads.{named}
use Rattle.parse_expressions.specs.Climbing.{climbs}
use Rattle.parse_expressions.proofs.parser.Expressions.binary.Given as goal

abbrev pub invariant-operators : goal.invariant-operators
invariant-operators g l =
    (named l.limits.room (Binary l.from l.fn.input.scope) l.fn.input.tokens
    ≡ climbs l.limits.room l.fn.input.scope l.from l.tightest l.left.value l.left.depth l.input.tokens)
    × (l.left.depth ≤ l.limits.room) × (l.input.scope ≡ l.fn.input.scope)

abbrev pub decreases-operators : goal.decreases-operators
decreases-operators g l = length l.input.tokens
