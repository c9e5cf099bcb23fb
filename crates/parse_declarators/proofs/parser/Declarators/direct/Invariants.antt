-- What the rule reads is what was read so far, and what goes on with it from here.
use Rattle.std.proofs.Common.{◌≡◌, ◌≤◌, length}
use Rattle.c_grammar.specs.Rules.{Direct}
use Rattle.parse_input.specs.Reads.{named, past}
use Rattle.parse_declarators.proofs.parser.Declarators.direct.Given as goal

abbrev pub invariant-each : goal.invariant-each
invariant-each g l =
    (named l.limits.room (Direct l.fn.input.scope l.kind l.bracket) l.fn.input.tokens
    ≡ past l.limits.room (Direct l.fn.input.scope l.kind l.bracket) l.left.value l.left.depth l.input.tokens)
    × (l.left.depth ≤ l.limits.room)
    × (l.input.scope ≡ l.fn.input.scope)

abbrev pub decreases-each : goal.decreases-each
decreases-each g l = length l.input.tokens
