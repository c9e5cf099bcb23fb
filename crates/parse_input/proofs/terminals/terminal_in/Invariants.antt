-- The word stands in none of the rows so far.
use Rattle.std.proofs.Common.{◌≡◌, map, drop}
use Rattle.c_grammar.specs.Lexemes.{terminal_in, spelled}
use Rattle.parse_input.proofs.terminals.terminal_in.Given as goal

abbrev pub invariant-rows : goal.invariant-rows
invariant-rows l = terminal_in (map (λ row. spelled row.0.now row.1) l.rows) l.word ≡ terminal_in (map (λ row. spelled row.0.now row.1) (drop l.row-index l.rows)) l.word
