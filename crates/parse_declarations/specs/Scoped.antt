-- What is read together with the scope behind it.
use Rattle.std.specs.Prelude.{◌≡◌, ℕ, ◌-◌, ◌≤◌, max, Bool, List, ◌++◌, length, drop, Result, Ok, Err, Some, None}
use Rattle.grammar.specs.Parts.{Return, Call, Either}
use Rattle.grammar.specs.Parser.{Outcome, Got, Bad}
use Rattle.c_tree.specs.declared.expressions.Declarator as declarator
use Rattle.c_tree.specs.declared.declarations.InitDeclarator.{InitDeclarator}
use Rattle.c_tree.specs.declared.declarations.Decl.{Decl}
use Rattle.c_grammar.specs.declared.terminal.Terminal.TheVariants as k
use Rattle.c_grammar.specs.Lexemes.{Lexeme}
use Rattle.c_grammar.specs.declared.state.DeclaratorKind.TheVariants.{Ordinary as OrdinaryKind}
use Rattle.c_grammar.specs.declared.state.Bracket.TheVariants.{Unknown}
use Rattle.c_grammar.specs.Rules.{Scope, DeclaratorRead, DeclaratorsRead, DeclarationRead, Declarator, Initializer}
use Rattle.c_grammar.specs.Expressions.{Reading, word}
use Rattle.c_grammar.specs.Statements.{declare}
use Rattle.parse_input.specs.Input.{Input}
use Rattle.parse_input.specs.declared.read.Read.{Read}
use Rattle.parse_input.specs.declared.read.Refusal.{Refusal}
use Rattle.parse_input.specs.declared.read.Refusal.TheVariants.{Refused, NoMemory}

-- `Says` (parse_input) of what is read with the scope behind it
abbrev pub Leaves : {A B : Type 0} → (A → Scope → B) → Outcome Lexeme B → Result (Read A) Refusal → Input → Type 0
Leaves with_scope o (Ok read) left = o ≡ Got (with_scope read.value left.scope) read.depth left.tokens
Leaves with_scope o (Err (Refused deep)) left = o ≡ Bad deep left.tokens
Leaves with_scope o (Err NoMemory) left = Unit {0}

-- the new scope is the old one with more declared in it
pub record Extends (old new : Scope) : Type 0 where
  pub longer : length old.types ≤ length new.types
  pub cut : drop (length new.types - length old.types) new.types ≡ old.types
  pub block : new.block ≡ old.block

-- one declarator with its initializer, and the scope behind it
pub record OneRead : Type 0 where
  pub declarator : InitDeclarator
  pub scope : Scope

abbrev pub one_read : InitDeclarator → Scope → OneRead
one_read declarator scope = record { declarator = declarator; scope = scope }

abbrev pub declarators_read : List InitDeclarator → Scope → DeclaratorsRead
declarators_read declarators scope = record { declarators = declarators; scope = scope }

abbrev pub declaration_read : Decl → Scope → DeclarationRead
declaration_read tree scope = record { tree = tree; scope = scope }

-- a declarator that was read, with the initializer behind it
unfoldable pub with_value : Scope → declarator.Declarator → Reading InitDeclarator
with_value s tree =
    Either (word k.Equal (λ t. Call (Initializer s) (λ value. Return (record { declarator = tree; init = Some value }))))
    (Return (record { declarator = tree; init = None }))

-- a declarator with its initializer, and the scope that it leaves
abbrev pub behind_one : Scope → DeclaratorRead → Reading OneRead
behind_one s x =
    Either (word k.Equal (λ t. Call (Initializer s) (λ value. Return (one_read (record { declarator = x.tree; init = Some value }) s))))
    (Return (one_read (record { declarator = x.tree; init = None }) s))

unfoldable pub one_declarator : Scope → Bool → Reading OneRead
one_declarator s typedefs = Call (Declarator s OrdinaryKind Unknown) (λ x. behind_one (declare s typedefs x.name) x)

-- declarators that were read, and their depth, in front of those that are read here
abbrev pub behind_declarators : List InitDeclarator → ℕ → Outcome Lexeme DeclaratorsRead → Outcome Lexeme DeclaratorsRead
behind_declarators xs depth (Got more deeper left) = Got (declarators_read (xs ++ more.declarators) more.scope) (max depth deeper) left
behind_declarators xs depth (Bad deep left) = Bad deep left
