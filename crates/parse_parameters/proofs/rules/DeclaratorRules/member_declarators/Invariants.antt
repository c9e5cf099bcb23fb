use Rattle.std.proofs.Common.{◌≡◌, length}
use Rattle.grammar.specs.Parser.{deepen}
use Rattle.c_grammar.specs.Rules.{MemberDeclarators}
use Rattle.parse_input.specs.Reads.{named, behind_items}
use Rattle.parse_parameters.proofs.rules.DeclaratorRules.member_declarators.Given as goal

abbrev pub invariant-each : goal.invariant-each
invariant-each g l =
    (named l.limits.room (MemberDeclarators l.initial.input.scope) l.initial.input.tokens
    ≡ deepen l.depth (behind_items l.declarators (named l.limits.room (MemberDeclarators l.initial.input.scope) l.input.tokens)))
    × (l.input.scope ≡ l.initial.input.scope)

abbrev pub decreases-each : goal.decreases-each
decreases-each g l = length l.input.tokens
