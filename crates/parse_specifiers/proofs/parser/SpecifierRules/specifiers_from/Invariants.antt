use Rattle.std.proofs.Common.{◌≡◌, length}
use Rattle.c_grammar.specs.Rules.{Specs}
use Rattle.parse_input.specs.Reads.{named}
use Rattle.parse_specifiers.specs.Specified.{behind_specs}
use Rattle.parse_specifiers.proofs.parser.SpecifierRules.specifiers_from.Given as goal

abbrev pub invariant-each : goal.invariant-each
invariant-each g l =
    (named l.limits.room (Specs l.fn.context l.initial.input.scope l.fn.state) l.initial.input.tokens
    ≡ behind_specs l.specs l.depth (named l.limits.room (Specs l.context_here l.initial.input.scope l.state_here) l.input.tokens))
    × (l.input.scope ≡ l.initial.input.scope)

abbrev pub decreases-each : goal.decreases-each
decreases-each g l = length l.input.tokens
