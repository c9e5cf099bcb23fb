-- The lookahead fit, and the rest is the theorem's.
use Rattle.c_grammar.specs.Rules.{Unit as WholeFile}
use Rattle.c_grammar.proofs.Fit.{c_grammar_fits}
use Rattle.c_grammar.proofs.files_are_parsed.Goals as goal

pub parser_is_exact-requires : goal.parser_is_exact-requires
parser_is_exact-requires c = c_grammar_fits

pub returns-clause-given : goal.returns-clause-given
returns-clause-given c = λ tokens x depth room h l. c.parser_is_exact.ensures.complete depth room WholeFile tokens x h l
