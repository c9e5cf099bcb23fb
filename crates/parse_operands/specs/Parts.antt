-- Parts of rules, by the tests that the code asks.
use Rattle.std.specs.Prelude.{ℕ, zero, Bool, false, cond, not, ◌&&◌, List, ◌∷◌}
use Rattle.grammar.specs.Parts.{Return, Call}
use Rattle.grammar.specs.Parser.{Outcome, Got, Bad}
use Rattle.c_tree.specs.declared.expressions.Expr.{Expr}
use Rattle.c_tree.specs.declared.expressions.Expr.TheVariants as e
use Rattle.c_tree.specs.declared.expressions.AccessOperator.{AccessOperator}
use Rattle.c_tree.specs.declared.expressions.AccessOperator.TheVariants as access
use Rattle.c_tree.specs.declared.expressions.StepOperator.TheVariants as step
use Rattle.c_grammar.specs.declared.terminal.Terminal.TheVariants as k
use Rattle.c_grammar.specs.Lexemes.{Lexeme, is, is_among, span, place}
use Rattle.c_grammar.specs.Trees.{place_of, is_cast}
use Rattle.c_grammar.specs.declared.state.Front.{Front}
use Rattle.c_grammar.specs.declared.state.Front.TheVariants.{Cast as CastFront, Unary as UnaryFront, Bare as BareFront, Opened as OpenedFront}
use Rattle.c_grammar.specs.declared.state.SpecifierContext.TheVariants.{«Type» as TypeContext}
use Rattle.c_grammar.specs.Rules.{Scope, Expression, Assignment, Arguments, MoreArguments}
use Rattle.c_grammar.specs.Specifiers.{no_specs}
use Rattle.c_grammar.specs.Expressions.{Reading, word, bare_primary, inside, cast_rest}
use Rattle.c_grammar.specs.Lookahead.{steps, starts_specs}
use Rattle.parse_input.specs.Input.{sees, head, behind}
use Rattle.parse_input.specs.Reads.{named, reads}

-- a primary expression without a parenthesis, which needs no room inside it
unfoldable pub bare_reads : Scope → List Lexeme → Outcome Lexeme Expr
bare_reads s ts = reads (named 0) (bare_primary s) ts

-- behind a parenthesis at this place: a cast, or an expression
abbrev pub opened_reads : ℕ → Scope → ℕ → List Lexeme → Outcome Lexeme Expr
opened_reads room s p ts = cond (sees (starts_specs TypeContext s no_specs) ts) (reads (named room) (cast_rest s p) ts) (reads (named room) (inside s p) ts)

-- a primary expression, or a cast
abbrev pub primary_reads : ℕ → Front → Scope → List Lexeme → Outcome Lexeme Expr
primary_reads room CastFront s ts =
    cond (sees (is k.OpenParen) ts) (opened_reads room s (place (head ts)) (behind ts)) (bare_reads s ts)
primary_reads room UnaryFront s ts =
    cond (sees (is k.OpenParen) ts) (reads (named room) (inside s (place (head ts))) (behind ts)) (bare_reads s ts)
primary_reads room BareFront s ts = bare_reads s ts
primary_reads room (OpenedFront p) s ts = reads (named room) (inside s p) ts

-- one argument and those behind it
unfoldable pub arguments_reads : ℕ → Scope → List Lexeme → Outcome Lexeme (List Expr)
arguments_reads room s ts = reads (named room) (Call (Assignment s) (λ a. Call (MoreArguments s) (λ more. Return (a ∷ more)))) ts

-- a step of a postfix expression may stand here, behind this expression
unfoldable pub goes_on : Expr → List Lexeme → Bool
goes_on a ts = sees (is_among steps) ts && not (is_cast a)

-- what stands behind the first token of a step
abbrev pub index_rest : Scope → Expr → Reading Expr
index_rest s a = Call (Expression s) (λ i. word k.CloseBracket (λ c. Return (e.Index (place_of a) a i)))

abbrev pub call_rest : Scope → Expr → Reading Expr
call_rest s a = Call (Arguments s) (λ given. word k.CloseParen (λ c. Return (e.Call (place_of a) a given)))

abbrev pub access_rest : Expr → AccessOperator → Reading Expr
access_rest a operator = word k.Name (λ m. Return (e.Access (place_of a) a operator (span m)))

-- a step behind what is no cast
abbrev pub step_reads : ℕ → Scope → Expr → List Lexeme → Outcome Lexeme Expr
step_reads room s a ts =
    cond (sees (is k.OpenBracket) ts) (reads (named room) (index_rest s a) (behind ts))
    (cond (sees (is k.OpenParen) ts) (reads (named room) (call_rest s a) (behind ts))
    (cond (sees (is k.Dot) ts) (reads (named room) (access_rest a access.Dot) (behind ts))
    (cond (sees (is k.Arrow) ts) (reads (named room) (access_rest a access.Arrow) (behind ts))
    (cond (sees (is k.Increment) ts) (Got (e.Step (place_of a) a step.Increment) zero (behind ts))
    (cond (sees (is k.Decrement) ts) (Got (e.Step (place_of a) a step.Decrement) zero (behind ts)) (Bad false ts))))))
