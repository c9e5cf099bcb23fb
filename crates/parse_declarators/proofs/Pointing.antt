-- Pointers: the rule as an equation.
use Rattle.std.proofs.Common.{◌≡◌, refl, ℕ, ◌-◌, ◌<◌, List}
use Rattle.grammar.specs.Parser.{Bad, one_more}
use Rattle.c_grammar.specs.declared.terminal.Terminal.TheVariants as k
use Rattle.c_grammar.specs.Lexemes.{Lexeme, is}
use Rattle.c_grammar.specs.declared.state.DeclaratorKind.{DeclaratorKind}
use Rattle.c_grammar.specs.Rules.{Scope, Pointer}
use Rattle.c_grammar.specs.Declarators.{pointer}
use Rattle.parse_input.specs.Input.{sees}
use Rattle.parse_input.specs.Reads.{named, reads}
use Rattle.parse_input.proofs.Steps.{node_rule, full_rule}

pub a_pointer : (room : ℕ) (s : Scope) (kind : DeclaratorKind) (ts : List Lexeme) → 0 < room
    → named room (Pointer s kind) ts ≡ one_more (reads (named (room - 1)) (pointer s kind) ts)
a_pointer room s kind ts l = node_rule room (Pointer s kind) ts (pointer s kind) refl l

pub no_pointer : (room : ℕ) (s : Scope) (kind : DeclaratorKind) (ts : List Lexeme) → room ≡ 0
    → named room (Pointer s kind) ts ≡ Bad (sees (is k.Star) ts) ts
no_pointer room s kind ts e = full_rule room (Pointer s kind) ts (pointer s kind) refl e
