-- Two ways to say how deep a file is: the grammar counts the productions that are nodes, and a tree its own nodes.
use Rattle.std.specs.Prelude.{ℕ, ◌≤◌, ◌↔◌, List}
use Rattle.grammar.specs.Reading.{IsRead}
use Rattle.c_tree.specs.declared.statements.Tree.{Tree}
use Rattle.c_tree.specs.Depth.{tree_depth}
use Rattle.c_grammar.specs.Lexemes.{Lexeme}
use Rattle.c_grammar.specs.Rules.{Unit}
use Rattle.c_grammar.specs.Grammar.{c_grammar}

-- The tokens are read as this tree within a room exactly where they are read as it within any room at all and the
-- tree is no deeper than the room.
abbrev pub IsDepthOfTree : Type 0
IsDepthOfTree =
    (room : ℕ) (tokens : List Lexeme) (tree : Tree)
    → IsRead c_grammar room Unit tokens tree
    ↔ (((greater : ℕ) × IsRead c_grammar greater Unit tokens tree) × (tree_depth tree ≤ room))
