-- The rules of the grammar, and what each of them reads.
--
-- What a further rule asks stands in one of three places. What was declared before, or where a rule stands, is
-- an argument of the rule: the typedef names in scope, whether it stands in a block or in a loop, what the
-- specifiers read so far allow. What a token itself must be is a test of the token. What was read to the left is
-- a test of its value, as that an assignment has a unary expression on its left.
use Rattle.std.specs.Prelude.{ℕ, Bool, List, Option}
use Rattle.c_tree.specs.declared.words.Span.{Span}
use Rattle.c_tree.specs.declared.words.Attr.{Attr}
use Rattle.c_tree.specs.declared.words.AttrSpelling.{AttrSpelling}
use Rattle.c_tree.specs.declared.words.AttrWord.{AttrWord}
use Rattle.c_tree.specs.declared.expressions.Expr.{Expr}
use Rattle.c_tree.specs.declared.expressions.TypeName as type_name
use Rattle.c_tree.specs.declared.expressions.Spec.{Spec}
use Rattle.c_tree.specs.declared.expressions.Member.{Member}
use Rattle.c_tree.specs.declared.expressions.Enumerator.{Enumerator}
use Rattle.c_tree.specs.declared.expressions.PointerQualifier.{PointerQualifier}
use Rattle.c_tree.specs.declared.expressions.Declarator as declarator
use Rattle.c_tree.specs.declared.expressions.Param.{Param}
use Rattle.c_tree.specs.declared.declarations.Init.{Init}
use Rattle.c_tree.specs.declared.declarations.InitDeclarator.{InitDeclarator}
use Rattle.c_tree.specs.declared.declarations.Decl.{Decl}
use Rattle.c_tree.specs.declared.statements.Stmt.{Stmt}
use Rattle.c_tree.specs.declared.statements.BlockItem.{BlockItem}
use Rattle.c_tree.specs.declared.statements.External as statements
use Rattle.c_tree.specs.declared.statements.Tree.{Tree}
use Rattle.c_grammar.specs.declared.state.Front.{Front}
use Rattle.c_grammar.specs.declared.state.Precedence.{Precedence}
use Rattle.c_grammar.specs.declared.state.SpecifierContext.{SpecifierContext}
use Rattle.c_grammar.specs.declared.state.StorageClass.{StorageClass}
use Rattle.c_grammar.specs.declared.state.TypeSpecifiers.{TypeSpecifiers}
use Rattle.c_grammar.specs.declared.state.DeclaratorKind.{DeclaratorKind}
use Rattle.c_grammar.specs.declared.state.Bracket.{Bracket}
use Rattle.c_grammar.specs.declared.state.Reach.{Reach}

-- A name that was declared, by its text, and whether it is a typedef name.
pub record Declared : Type 0 where
  pub name : List ℕ
  pub is_type : Bool

-- The names declared so far that can be or hide typedef names, the latest first, and whether this stands in a block.
pub record Scope : Type 0 where
  pub types : List Declared
  pub block : Bool

pub record SpecsState : Type 0 where
  pub storage : StorageClass
  pub is_thread_local : Bool
  pub type_specifiers : Option TypeSpecifiers

-- Specifiers, and the place of a `[` behind them that began none of them.
pub record SpecsRead : Type 0 where
  pub specs : List Spec
  pub bracket : Option ℕ

-- The same of the attributes behind a parameter list.
pub record AttributesRead : Type 0 where
  pub attributes : List Attr
  pub bracket : Option ℕ

-- A declarator with the text of its name, the names of the parameters in the list that makes its name a
-- function, and the place of a `[` behind it whose array isn't read yet.
pub record DeclaratorRead : Type 0 where
  pub tree : declarator.Declarator
  pub reach : Reach
  pub name : Option (List ℕ)
  pub own : List (List ℕ)
  pub bracket : Option ℕ

-- Parameters with the texts of their names.
pub record ParamsRead : Type 0 where
  pub params : List Param
  pub names : List (List ℕ)

-- Declarators with their initializers, and the scope behind them.
pub record DeclaratorsRead : Type 0 where
  pub declarators : List InitDeclarator
  pub scope : Scope

pub record DeclarationRead : Type 0 where
  pub tree : Decl
  pub scope : Scope

pub record ExternalRead : Type 0 where
  pub tree : statements.External
  pub scope : Scope

-- A block with the place of its `{`.
pub record BlockRead : Type 0 where
  pub place : ℕ
  pub items : List BlockItem

-- A statement, and whether it ends in an `if` without `else`.
pub record StatementRead : Type 0 where
  pub tree : Stmt
  pub is_open : Bool

pub data Rule : Type 0 where
  -- expressions
  Expression Assignment Conditional Prefix Arguments MoreArguments : Scope → Rule
  Binary : Precedence → Scope → Rule
  Operand Postfix Primary : Front → Scope → Rule
  Texts : Rule
  -- specifiers and type names
  Specs : SpecifierContext → Scope → SpecsState → Rule
  Members MemberDeclarators Enumerators TypeName : Scope → Rule
  -- attributes
  ClangWords GnuWords : Rule
  Effect : AttrSpelling → Rule
  Attributes : Scope → Rule
  -- declarators
  Declarator Direct : Scope → DeclaratorKind → Bracket → Rule
  Pointer Group : Scope → DeclaratorKind → Rule
  Qualifiers : Rule
  Params : Scope → Rule
  ParamList : SpecifierContext → Scope → List Spec → Rule
  -- initializers and declarations; the Bool says whether they declare typedef names
  Initializer Braces Initializers : Scope → Rule
  InitDeclarators MoreDeclarators : Scope → Bool → Rule
  Declaration : Scope → Rule
  -- statements; the Bool says whether they stand in a loop
  MaybeExpression : Scope → Rule
  Statement Block BlockItems : Scope → Bool → Rule
  -- the file
  External Externals : Scope → Rule
  Unit : Rule

abbrev pub ValueOf : Rule → Type 0
ValueOf (Arguments s) = List Expr
ValueOf (MoreArguments s) = List Expr
ValueOf Texts = List Span
ValueOf (Specs context s state) = SpecsRead
ValueOf (Members s) = List Member
ValueOf (MemberDeclarators s) = List declarator.Declarator
ValueOf (Enumerators s) = List Enumerator
ValueOf (TypeName s) = type_name.TypeName
ValueOf ClangWords = List AttrWord
ValueOf GnuWords = List AttrWord
ValueOf (Effect spelling) = AttrWord
ValueOf (Attributes s) = AttributesRead
ValueOf (Declarator s kind b) = DeclaratorRead
ValueOf (Direct s kind b) = DeclaratorRead
ValueOf (Pointer s kind) = DeclaratorRead
ValueOf (Group s kind) = DeclaratorRead
ValueOf Qualifiers = List PointerQualifier
ValueOf (Params s) = ParamsRead
ValueOf (ParamList context s specs) = ParamsRead
ValueOf (Initializer s) = Init
ValueOf (Braces s) = Init
ValueOf (Initializers s) = List Init
ValueOf (InitDeclarators s typedefs) = DeclaratorsRead
ValueOf (MoreDeclarators s typedefs) = DeclaratorsRead
ValueOf (Declaration s) = DeclarationRead
ValueOf (MaybeExpression s) = Option Expr
ValueOf (Statement s loop) = StatementRead
ValueOf (Block s loop) = BlockRead
ValueOf (BlockItems s loop) = List BlockItem
ValueOf (External s) = ExternalRead
ValueOf (Externals s) = List statements.External
ValueOf Unit = Tree
ValueOf _ = Expr
