-- The table of the code is the one of the definition, without the words of one byte.
use Rattle.std.proofs.Common.{◌∙◌}
use Rattle.c_grammar.specs.Lexemes.{punctuator_terminals}
use Rattle.parse_input.proofs.Tables.{among_longer}
use Rattle.parse_input.proofs.terminals.punctuator_terminal.Goals as goal

pub returns-else-word-eq1 : goal.returns-else-word-eq1
unfolding punctuator_terminals
returns-else-word-eq1 c = c.terminal_in.ensures ∙ among_longer punctuator_terminals c.args.word.now c.if-word-eq1.false
