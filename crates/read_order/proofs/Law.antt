-- The tree that the grammar reads of the tokens of a source stands in order.
use Rattle.std.proofs.Common.{refl, ℕ, List, [], ◌∷◌}
use Rattle.grammar.specs.Reading.{IsRead}
use Rattle.c_text.specs.Spelling.{IsInOrderFrom, IsInOrder}
use Rattle.c_text.specs.declared.Token.{Token}
use Rattle.c_tree.specs.declared.statements.Tree.{Tree}
use Rattle.c_grammar.specs.Lexemes.{lexemes_of}
use Rattle.c_grammar.specs.Rules.{Expression, Assignment, Conditional, Prefix, Arguments, MoreArguments, Binary, Operand, Postfix, Primary, Initializer, Braces, Initializers, InitDeclarators, MoreDeclarators, Declaration, MaybeExpression, Statement, Block, BlockItems, External, Externals, Unit as WholeFile}
use Rattle.c_grammar.specs.Grammar.{c_grammar, production}
use Rattle.tree_order.specs.Stands.{StandsInOrder}
use Rattle.read_order.proofs.Placed.{Rise, IsPlaced, production_free, reads_placed}
use Rattle.read_order.proofs.Standing.{start, stop, Stands}
use Rattle.read_order.proofs.ExpressionsStand.{expression_placed, assignment_placed, conditional_placed, prefix_placed, binary_placed, operand_placed, postfix_placed, primary_placed, arguments_placed, more_arguments_placed}
use Rattle.read_order.proofs.StatementsStand.{initializer_placed, braces_placed, initializers_placed, init_declarators_placed, more_declarators_placed, declaration_placed, maybe_placed, statement_placed, block_placed, block_items_placed, external_placed, externals_placed, unit_placed}

placed : IsPlaced c_grammar start stop Stands
placed (Expression s) = expression_placed s
placed (Assignment s) = assignment_placed s
placed (Conditional s) = conditional_placed s
placed (Prefix s) = prefix_placed s
placed (Binary l s) = binary_placed l s
placed (Operand f s) = operand_placed f s
placed (Postfix f s) = postfix_placed f s
placed (Primary f s) = primary_placed f s
placed (Arguments s) = arguments_placed s
placed (MoreArguments s) = more_arguments_placed s
placed (Initializer s) = initializer_placed s
placed (Braces s) = braces_placed s
placed (Initializers s) = initializers_placed s
placed (InitDeclarators s typedefs) = init_declarators_placed s typedefs
placed (MoreDeclarators s typedefs) = more_declarators_placed s typedefs
placed (Declaration s) = declaration_placed s
placed (MaybeExpression s) = maybe_placed s
placed (Statement s loop) = statement_placed s loop
placed (Block s loop) = block_placed s loop
placed (BlockItems s loop) = block_items_placed s loop
placed (External s) = external_placed s
placed (Externals s) = externals_placed s
placed WholeFile = unit_placed
placed n = production_free start stop Stands (Stands n) (λ from end x. tt) (production n)

-- tokens in order rise up to the end of the last
rising : (source : List ℕ) (at : ℕ) (tokens : List Token) → IsInOrderFrom at tokens → (end : ℕ) × Rise start stop at (lexemes_of source tokens) end
rising source at [] h = (at, refl)
rising source at (t ∷ tokens) h = let (end, more) = rising source t.end tokens h.2 in (end, (h.0, h.1, more))

-- of the tokens that `tokens` gives and the tree that `parse` gives
pub read_trees_stand_in_order : (source : List ℕ) (tokens : List Token) (tree : Tree) → IsInOrder tokens
    → ((room : ℕ) × IsRead c_grammar room WholeFile (lexemes_of source tokens) tree) → StandsInOrder tree
read_trees_stand_in_order source tokens tree ordered (room, (height, read)) =
    let (end, rise) = rising source 0 tokens ordered in
    reads_placed c_grammar start stop Stands placed height room WholeFile (lexemes_of source tokens) tree read 0 end rise
