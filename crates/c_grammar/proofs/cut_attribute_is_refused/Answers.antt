-- The parser computes on the tokens, and the theorem says what its answer means.
use Rattle.std.proofs.Common.{[], ◌∷◌, ◌++◌, false, refl, inr}
use Rattle.std.proofs.lemmas.Bool.{false≢true}
use Rattle.grammar.specs.Parser.{parse}
use Rattle.grammar.proofs.Theorem.{fault}
use Rattle.c_grammar.specs.Rules.{Unit}
use Rattle.c_grammar.specs.Grammar.{c_grammar}
use Rattle.c_grammar.specs.Lookahead.{c_lookahead}
use Rattle.c_grammar.specs.Worked.{cut_before, cut_word}
use Rattle.c_grammar.proofs.Fit.{c_grammar_fits}
use Rattle.c_grammar.proofs.cut_attribute_is_refused.Goals as goal

pub returns : goal.returns
unfolding parse
returns c = λ source. (
  false,
  cut_before,
  refl,
  fault c_grammar c_lookahead c_grammar_fits 200 Unit (cut_before ++ (cut_word ∷ [])) false (cut_word ∷ []) refl,
  inr (inr ((refl, (λ e g. false≢true e)), inr (refl, refl))),
)
