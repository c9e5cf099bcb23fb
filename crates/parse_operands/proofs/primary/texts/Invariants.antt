-- What the rule reads is the texts so far, and what it reads from here on.
use Rattle.std.proofs.Common.{◌≡◌, length}
use Rattle.c_grammar.specs.Rules.{Texts}
use Rattle.parse_input.specs.Reads.{named, behind_items}
use Rattle.parse_operands.proofs.primary.texts.Given as goal

abbrev pub invariant-each : goal.invariant-each
invariant-each l =
    (named 0 Texts l.initial.input.tokens ≡ behind_items l.spans (named 0 Texts l.input.tokens))
    × (l.input.scope ≡ l.initial.input.scope)

abbrev pub decreases-each : goal.decreases-each
decreases-each l = length l.input.tokens
