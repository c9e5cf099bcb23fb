-- What the rule reads is the qualifiers so far, and what it reads from here on.
use Rattle.std.proofs.Common.{◌≡◌, length}
use Rattle.c_grammar.specs.Rules.{Qualifiers}
use Rattle.parse_input.specs.Reads.{named, behind_items}
use Rattle.parse_declared.proofs.qualifying.qualifiers.Given as goal

abbrev pub invariant-each : goal.invariant-each
invariant-each l =
    (named l.room Qualifiers l.initial.input.tokens ≡ behind_items l.all (named l.room Qualifiers l.input.tokens)) × (l.input.scope ≡ l.initial.input.scope)

abbrev pub decreases-each : goal.decreases-each
decreases-each l = length l.input.tokens
