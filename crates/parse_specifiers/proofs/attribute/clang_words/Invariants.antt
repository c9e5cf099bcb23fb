use Rattle.std.proofs.Common.{◌≡◌, length}
use Rattle.c_grammar.specs.Rules.{ClangWords}
use Rattle.parse_input.specs.Reads.{named, behind_items}
use Rattle.parse_specifiers.proofs.attribute.clang_words.Given as goal

abbrev pub invariant-each : goal.invariant-each
invariant-each l =
    (named l.room ClangWords l.initial.input.tokens ≡ behind_items l.words (named l.room ClangWords l.input.tokens))
    × (l.input.scope ≡ l.initial.input.scope)

abbrev pub decreases-each : goal.decreases-each
decreases-each l = length l.input.tokens
