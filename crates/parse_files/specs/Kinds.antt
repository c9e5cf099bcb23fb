-- The parts of blocks, of the jumps in a loop, and of the statements that begin with no word of their own.
use Rattle.std.specs.Prelude.{Bool, ◌&&◌, ◌||◌}
use Rattle.grammar.specs.Parts.{Return, Take, Call, Either}
use Rattle.c_tree.specs.declared.statements.BlockItem.{BlockItem}
use Rattle.c_tree.specs.declared.statements.BlockItem.TheVariants as item
use Rattle.c_tree.specs.declared.statements.Stmt.TheVariants as stmt
use Rattle.c_grammar.specs.declared.terminal.Terminal.TheVariants as k
use Rattle.c_grammar.specs.Lexemes.{Lexeme, place, is}
use Rattle.c_grammar.specs.declared.state.SpecifierContext.TheVariants.{Block as BlockContext}
use Rattle.c_grammar.specs.Rules.{Scope, StatementRead, Declaration, Statement, BlockItems}
use Rattle.c_grammar.specs.Expressions.{Reading, word}
use Rattle.c_grammar.specs.Specifiers.{no_specs}
use Rattle.c_grammar.specs.Lookahead.{starts_specs, starts_statement}
use Rattle.c_grammar.specs.Statements.{whole}
use Rattle.parse_statements.specs.Forms.{return_form, expression_form}

-- what stands in a block, and the scope behind it
pub record ItemRead : Type 0 where
  pub item : BlockItem
  pub scope : Scope

abbrev pub item_read : BlockItem → Scope → ItemRead
item_read item scope = record { item = item; scope = scope }

-- one of them begins here
abbrev pub starts_item : Scope → Bool → Lexeme → Bool
starts_item s loop t = starts_specs BlockContext s no_specs t || starts_statement s loop t

unfoldable pub block_item : Scope → Bool → Reading ItemRead
block_item s loop =
    Either (Call (Declaration s) (λ x. Return (item_read (item.Declaration x.tree) x.scope)))
    (Call (Statement s loop) (λ x. Return (item_read (item.Statement x.tree) s)))

-- a block as a statement
unfoldable pub block_form : Scope → Bool → Reading StatementRead
block_form s loop = word k.OpenBrace (λ t. Call (BlockItems s loop) (λ items. word k.CloseBrace (λ c. Return (whole (stmt.Block (place t) items)))))

-- the jumps in a loop
unfoldable pub break_form : Bool → Reading StatementRead
break_form loop = Take (λ t. is k.Break t && loop) (λ t. word k.Semicolon (λ c. Return (whole (stmt.Break (place t)))))

unfoldable pub continue_form : Bool → Reading StatementRead
continue_form loop = Take (λ t. is k.Continue t && loop) (λ t. word k.Semicolon (λ c. Return (whole (stmt.Continue (place t)))))

-- those that begin with no word of their own, and the jumps
unfoldable pub plain_kinds : Scope → Bool → Reading StatementRead
plain_kinds s loop = Either (break_form loop) (Either (continue_form loop) (Either (return_form s) (expression_form s)))
