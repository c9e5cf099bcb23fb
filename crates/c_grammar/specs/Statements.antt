-- Initializers, declarations, statements, and the file.
--
--     unit        = { external } .
--     external    = specs declarator block | declaration .
--     declaration = specs [ initdecl { "," initdecl } ] ";" .
--     initdecl    = declarator [ "=" init ] .
--     init        = assign | "{" init { "," init } [ "," ] "}" .
--     block       = "{" { declaration | stmt } "}" .
--     stmt        = block | [ expr ] ";" | "if" "(" expr ")" stmt [ "else" stmt ] | "while" "(" expr ")" stmt
--                 | "do" stmt "while" "(" expr ")" ";"
--                 | "for" "(" ( declaration | [ expr ] ";" ) [ expr ] ";" [ expr ] ")" stmt
--                 | "break" ";" | "continue" ";" | "return" [ expr ] ";" .
--
-- `break` and `continue` stand inside a loop, and an `else` belongs to the nearest `if`. A typedef name is known
-- from the end of its declarator at file scope; any other declared name hides one in a block from there on.
use Rattle.std.specs.Prelude.{ℕ, Bool, true, false, cond, not, ◌&&◌, List, [], ◌∷◌, Option, Some, None, codes}
use Rattle.grammar.specs.Parts.{Return, Take, Call, Either}
use Rattle.c_tree.specs.declared.expressions.Expr.{Expr}
use Rattle.c_tree.specs.declared.declarations.Init.{Init}
use Rattle.c_tree.specs.declared.declarations.Init.TheVariants as init
use Rattle.c_tree.specs.declared.statements.Stmt.{Stmt}
use Rattle.c_tree.specs.declared.statements.Stmt.TheVariants as stmt
use Rattle.c_tree.specs.declared.statements.BlockItem.{BlockItem}
use Rattle.c_tree.specs.declared.statements.BlockItem.TheVariants as item
use Rattle.c_tree.specs.declared.statements.ForStart.{ForStart}
use Rattle.c_tree.specs.declared.statements.ForStart.TheVariants as start
use Rattle.c_tree.specs.declared.statements.External.TheVariants as external_tree
use Rattle.c_tree.specs.declared.statements.External as statements
use Rattle.c_tree.specs.declared.statements.Tree.{Tree}
use Rattle.c_grammar.specs.declared.terminal.Terminal.TheVariants as k
use Rattle.c_grammar.specs.Lexemes.{Lexeme, place, is}
use Rattle.c_grammar.specs.Trees.{place_of, specs_place, has_typedef}
use Rattle.c_grammar.specs.declared.state.SpecifierContext.TheVariants.{File as FileContext, Block as BlockContext}
use Rattle.c_grammar.specs.declared.state.DeclaratorKind.TheVariants.{Ordinary as OrdinaryKind}
use Rattle.c_grammar.specs.declared.state.Bracket.TheVariants.{Unknown}
use Rattle.c_grammar.specs.Rules.{Declared, Scope, SpecsRead, DeclaratorRead, DeclaratorsRead, DeclarationRead, ExternalRead, BlockRead, StatementRead, Expression, Assignment, Specs, Declarator, Initializer, Braces, Initializers, InitDeclarators, MoreDeclarators, Declaration, MaybeExpression, Statement, Block, BlockItems, External, Externals}
use Rattle.c_grammar.specs.Expressions.{Reading, word}
use Rattle.c_grammar.specs.Specifiers.{no_specs}
use Rattle.c_grammar.specs.Declarators.{hide, hide_all}

abbrev pub initializer : Scope → Reading Init
initializer s = Either (Call (Braces s) Return) (Call (Assignment s) (λ a. Return (init.Value a)))

abbrev pub braces : Scope → Reading Init
braces s = word k.OpenBrace (λ t. Call (Initializers s) (λ list. Return (init.List (place t) list)))

-- the initializers up to the `}`
abbrev pub initializers : Scope → Reading (List Init)
initializers s =
    Call (Initializer s) (λ one.
    Either (word k.CloseBrace (λ c. Return (one ∷ [])))
    (word k.Comma (λ c. Either (word k.CloseBrace (λ d. Return (one ∷ []))) (Call (Initializers s) (λ more. Return (one ∷ more))))))

-- the scope behind a declarator
abbrev pub add_type : Option (List ℕ) → Scope → Scope
add_type None s = s
add_type (Some name) s = record s { types = record { name = name; is_type = true } ∷ s.types }

abbrev pub declare : Scope → Bool → Option (List ℕ) → Scope
declare s typedefs name = cond s.block (hide name s) (cond typedefs (add_type name s) s)

abbrev pub add_declarator : DeclaratorRead → Option Init → DeclaratorsRead → DeclaratorsRead
add_declarator x value more = record { declarators = record { declarator = x.tree; init = value } ∷ more.declarators; scope = more.scope }

-- what follows a declarator up to the `;`
abbrev pub behind_declarator : {A : Type 0} → Scope → Bool → DeclaratorRead → (DeclaratorsRead → A) → Reading A
behind_declarator s typedefs x result =
    Either (word k.Equal (λ t. Call (Initializer s) (λ value. Call (MoreDeclarators s typedefs) (λ more. Return (result (add_declarator x (Some value) more))))))
    (Call (MoreDeclarators s typedefs) (λ more. Return (result (add_declarator x None more))))

abbrev pub init_declarators : Scope → Bool → Reading DeclaratorsRead
init_declarators s typedefs = Call (Declarator s OrdinaryKind Unknown) (λ x. behind_declarator (declare s typedefs x.name) typedefs x (λ all. all))

abbrev pub more_declarators : Scope → Bool → Reading DeclaratorsRead
more_declarators s typedefs =
    Either (word k.Comma (λ c. Call (InitDeclarators s typedefs) Return)) (word k.Semicolon (λ c. Return (record { declarators = []; scope = s })))

abbrev pub declared : SpecsRead → DeclaratorsRead → DeclarationRead
declared x all = record { tree = record { place = specs_place x.specs; specs = x.specs; declarators = all.declarators }; scope = all.scope }

abbrev pub declaration : Scope → Reading DeclarationRead
declaration s =
    Call (Specs BlockContext s no_specs) (λ x.
    Either (word k.Semicolon (λ c. Return (declared x (record { declarators = []; scope = s }))))
    (Call (InitDeclarators s (has_typedef x.specs)) (λ all. Return (declared x all))))

-- statements
abbrev pub maybe_expression : Scope → Reading (Option Expr)
maybe_expression s = Either (Call (Expression s) (λ a. Return (Some a))) (Return None)

abbrev pub whole : Stmt → StatementRead
whole tree = record { tree = tree; is_open = false }

abbrev pub statement_place : Option Expr → Lexeme → ℕ
statement_place None t = place t
statement_place (Some a) t = place_of a

abbrev pub if_rest : Scope → Bool → ℕ → Expr → Reading StatementRead
if_rest s loop p test =
    Call (Statement s loop) (λ x.
    Either (Take (λ t. is k.Else t && not x.is_open) (λ t. Call (Statement s loop) (λ y. Return (record { tree = stmt.If p test x.tree (Some y.tree); is_open = y.is_open }))))
    (Return (record { tree = stmt.If p test x.tree None; is_open = true })))

abbrev pub for_rest : Scope → ℕ → ForStart → Reading StatementRead
for_rest s p first =
    Call (MaybeExpression s) (λ test. word k.Semicolon (λ t. Call (MaybeExpression s) (λ next. word k.CloseParen (λ c.
    Call (Statement s true) (λ x. Return (record { tree = stmt.For p first test next x.tree; is_open = x.is_open }))))))

abbrev pub statement : Scope → Bool → Reading StatementRead
statement s loop =
    Either (word k.OpenBrace (λ t. Call (BlockItems s loop) (λ items. word k.CloseBrace (λ c. Return (whole (stmt.Block (place t) items))))))
    (Either (word k.If (λ t. word k.OpenParen (λ o. Call (Expression s) (λ test. word k.CloseParen (λ c. if_rest s loop (place t) test)))))
    (Either (word k.While (λ t. word k.OpenParen (λ o. Call (Expression s) (λ test. word k.CloseParen (λ c.
    Call (Statement s true) (λ x. Return (record { tree = stmt.While (place t) test x.tree; is_open = x.is_open })))))))
    (Either (word k.Do (λ t. Call (Statement s true) (λ x. word k.While (λ w. word k.OpenParen (λ o. Call (Expression s) (λ test.
    word k.CloseParen (λ c. word k.Semicolon (λ e. Return (whole (stmt.DoWhile (place t) x.tree test))))))))))
    (Either (word k.For (λ t. word k.OpenParen (λ o. Either
    (Call (Declaration s) (λ first. for_rest first.scope (place t) (start.Declaration first.tree)))
    (Call (MaybeExpression s) (λ first. word k.Semicolon (λ c. for_rest s (place t) (start.Expression first)))))))
    (Either (Take (λ t. is k.Break t && loop) (λ t. word k.Semicolon (λ c. Return (whole (stmt.Break (place t))))))
    (Either (Take (λ t. is k.Continue t && loop) (λ t. word k.Semicolon (λ c. Return (whole (stmt.Continue (place t))))))
    (Either (word k.Return (λ t. Call (MaybeExpression s) (λ a. word k.Semicolon (λ c. Return (whole (stmt.Return (place t) a))))))
    (Call (MaybeExpression s) (λ a. word k.Semicolon (λ c. Return (whole (stmt.Expression (statement_place a c) a))))))))))))

abbrev pub block : Scope → Bool → Reading BlockRead
block s loop =
    word k.OpenBrace (λ t. Call (BlockItems s loop) (λ items. word k.CloseBrace (λ c. Return (record { place = place t; items = items }))))

abbrev pub block_items : Scope → Bool → Reading (List BlockItem)
block_items s loop =
    Either (Call (Declaration s) (λ x. Call (BlockItems x.scope loop) (λ more. Return (item.Declaration x.tree ∷ more))))
    (Either (Call (Statement s loop) (λ x. Call (BlockItems s loop) (λ more. Return (item.Statement x.tree ∷ more))))
    (Return []))

-- The file. A definition and a declaration begin alike, and each is one node from its first token on; the token
-- behind the first declarator decides. A name that is defined with `typedef` is a typedef name from there on, its body
-- included (what it is defined as is no matter of the grammar).
abbrev pub body_scope : Scope → DeclaratorRead → Scope
body_scope s x = record { types = (hide_all x.own s).types; block = true }

abbrev pub defined : Scope → SpecsRead → DeclaratorRead → BlockRead → ExternalRead
defined s x y body = record {
  tree = external_tree.Function (record { place = specs_place x.specs; specs = x.specs; declarator = y.tree; body_place = body.place; body = body.items });
  scope = s;
}

abbrev pub as_external : DeclarationRead → ExternalRead
as_external x = record { tree = external_tree.Declaration x.tree; scope = x.scope }

abbrev pub external : Scope → Reading ExternalRead
external s =
    Call (Specs FileContext s no_specs) (λ x.
    Either (word k.Semicolon (λ c. Return (as_external (declared x (record { declarators = []; scope = s })))))
    (Call (Declarator s OrdinaryKind Unknown) (λ y.
    Either (Call (Block (body_scope (declare s (has_typedef x.specs) y.name) y) false)
    (λ body. Return (defined (declare s (has_typedef x.specs) y.name) x y body)))
    (behind_declarator (declare s (has_typedef x.specs) y.name) (has_typedef x.specs) y (λ all. as_external (declared x all))))))

abbrev pub externals : Scope → Reading (List statements.External)
externals s = Either (Call (External s) (λ x. Call (Externals x.scope) (λ more. Return (x.tree ∷ more)))) (Return [])

-- the typedef names that every file begins with
abbrev pub type : List ℕ → Declared
type name = record { name = name; is_type = true }

abbrev pub file_scope : Scope
file_scope = record { types = type (codes "size_t") ∷ type (codes "pthread_t") ∷ type (codes "pthread_mutex_t") ∷ []; block = false }

abbrev pub unit : Reading Tree
unit = Call (Externals file_scope) (λ all. Return (record { externals = all }))
