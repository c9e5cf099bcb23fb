-- The levels of binary operators by their numbers, from the tightest, and the chains of several levels one after another.
use Rattle.std.specs.Prelude.{ℕ, zero, suc, cond, ◌&&◌, leb, List, Option, Some, None}
use Rattle.grammar.specs.Parser.{Outcome, Got, after}
use Rattle.c_tree.specs.declared.expressions.Expr.{Expr}
use Rattle.c_grammar.specs.declared.terminal.Terminal.{Terminal}
use Rattle.c_grammar.specs.declared.terminal.Terminal.TheVariants as k
use Rattle.c_grammar.specs.Lexemes.{Lexeme}
use Rattle.c_grammar.specs.declared.state.Precedence.{Precedence}
use Rattle.c_grammar.specs.declared.state.Precedence.TheVariants.{LogicalOr, LogicalAnd, InclusiveOr, ExclusiveOr, BitwiseAnd, Equality, Relational, Shift, Additive, Multiplicative}
use Rattle.c_grammar.specs.Rules.{Scope, Binary}
use Rattle.parse_input.specs.Input.{head}
use Rattle.parse_input.specs.Reads.{past}
use Rattle.c_grammar.specs.declared.state.Precedence.TheVariants as operators

abbrev pub looseness : Precedence → ℕ
looseness operators.Multiplicative = 0
looseness operators.Additive = 1
looseness operators.Shift = 2
looseness operators.Relational = 3
looseness operators.Equality = 4
looseness operators.BitwiseAnd = 5
looseness operators.ExclusiveOr = 6
looseness operators.InclusiveOr = 7
looseness operators.LogicalAnd = 8
looseness operators.LogicalOr = 9

-- the level of this number
abbrev pub level_at : ℕ → Precedence
level_at zero = Multiplicative
level_at (suc zero) = Additive
level_at (suc (suc zero)) = Shift
level_at (suc (suc (suc zero))) = Relational
level_at (suc (suc (suc (suc zero)))) = Equality
level_at (suc (suc (suc (suc (suc zero))))) = BitwiseAnd
level_at (suc (suc (suc (suc (suc (suc zero)))))) = ExclusiveOr
level_at (suc (suc (suc (suc (suc (suc (suc zero))))))) = InclusiveOr
level_at (suc (suc (suc (suc (suc (suc (suc (suc zero)))))))) = LogicalAnd
level_at (suc (suc (suc (suc (suc (suc (suc (suc (suc n))))))))) = LogicalOr

-- the level whose operator this is
abbrev pub operators_of : Terminal → Option Precedence
operators_of k.OrOr = Some operators.LogicalOr
operators_of k.AndAnd = Some operators.LogicalAnd
operators_of k.Bar = Some operators.InclusiveOr
operators_of k.Caret = Some operators.ExclusiveOr
operators_of k.Ampersand = Some operators.BitwiseAnd
operators_of k.EqualEqual = Some operators.Equality
operators_of k.NotEqual = Some operators.Equality
operators_of k.Less = Some operators.Relational
operators_of k.Greater = Some operators.Relational
operators_of k.LessOrEqual = Some operators.Relational
operators_of k.GreaterOrEqual = Some operators.Relational
operators_of k.LeftShift = Some operators.Shift
operators_of k.RightShift = Some operators.Shift
operators_of k.Plus = Some operators.Additive
operators_of k.Minus = Some operators.Additive
operators_of k.Star = Some operators.Multiplicative
operators_of k.Slash = Some operators.Multiplicative
operators_of k.Percent = Some operators.Multiplicative
operators_of _ = None

-- the level, if it lies between these
abbrev pub between : Precedence → Precedence → Option Precedence → Option Precedence
between from tightest None = None
between from tightest (Some level) = cond (leb (looseness tightest) (looseness level) && leb (looseness level) (looseness from)) (Some level) None

-- the level of the operator that comes next, if it lies between these
unfoldable pub next_level : Precedence → Precedence → List Lexeme → Option Precedence
next_level from tightest ts = between from tightest (operators_of (head ts).terminal)

-- What goes on behind what was read: the chains of the levels below n, each behind the next tighter one, but of none
-- that is tighter than the first.
abbrev pub open_chain : ℕ → Scope → ℕ → ℕ → Expr → ℕ → List Lexeme → Outcome Lexeme Expr
open_chain room s first n x d ts = cond (leb first n) (past room (Binary (level_at n) s) x d ts) (Got x d ts)

abbrev pub chains : ℕ → Scope → ℕ → ℕ → Expr → ℕ → List Lexeme → Outcome Lexeme Expr
chains room s first zero x d ts = Got x d ts
chains room s first (suc n) x d ts = after (λ y f us. open_chain room s first n y f us) (chains room s first n x d ts)

-- the same of all levels between these
unfoldable pub climbs : ℕ → Scope → Precedence → Precedence → Expr → ℕ → List Lexeme → Outcome Lexeme Expr
climbs room s from tightest x d ts = chains room s (looseness tightest) (suc (looseness from)) x d ts
