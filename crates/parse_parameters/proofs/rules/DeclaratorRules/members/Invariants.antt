use Rattle.std.proofs.Common.{◌≡◌, length}
use Rattle.grammar.specs.Parser.{deepen}
use Rattle.c_grammar.specs.Rules.{Members}
use Rattle.parse_input.specs.Reads.{named, behind_items}
use Rattle.parse_parameters.proofs.rules.DeclaratorRules.members.Given as goal

abbrev pub invariant-each : goal.invariant-each
invariant-each g l =
    (named l.limits.room (Members l.initial.input.scope) l.initial.input.tokens
    ≡ deepen l.depth (behind_items l.lines (named l.limits.room (Members l.initial.input.scope) l.input.tokens)))
    × (l.input.scope ≡ l.initial.input.scope)

abbrev pub decreases-each : goal.decreases-each
decreases-each g l = length l.input.tokens
