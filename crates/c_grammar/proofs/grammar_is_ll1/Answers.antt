-- It is shown rule by rule.
use Rattle.c_grammar.proofs.Fit.{c_grammar_fits}
use Rattle.c_grammar.proofs.grammar_is_ll1.Goals as goal

pub returns : goal.returns
returns c = c_grammar_fits
