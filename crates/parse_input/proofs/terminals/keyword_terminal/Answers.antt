-- The table of the code is the one of the definition.
use Rattle.c_grammar.specs.Lexemes.{keyword_terminals}
use Rattle.parse_input.proofs.terminals.keyword_terminal.Goals as goal

pub returns : goal.returns
unfolding keyword_terminals
returns c = c.terminal_in.ensures
