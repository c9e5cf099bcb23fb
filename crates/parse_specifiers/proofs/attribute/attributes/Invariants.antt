use Rattle.std.proofs.Common.{◌≡◌, length}
use Rattle.c_grammar.specs.Rules.{Attributes}
use Rattle.parse_input.specs.Reads.{named}
use Rattle.parse_specifiers.specs.Parts.{behind_attributes}
use Rattle.parse_specifiers.proofs.attribute.attributes.Given as goal

abbrev pub invariant-each : goal.invariant-each
invariant-each l =
    (named l.room (Attributes l.initial.input.scope) l.initial.input.tokens
    ≡ behind_attributes l.attributes (named l.room (Attributes l.initial.input.scope) l.input.tokens))
    × (l.input.scope ≡ l.initial.input.scope)

abbrev pub decreases-each : goal.decreases-each
decreases-each l = length l.input.tokens
