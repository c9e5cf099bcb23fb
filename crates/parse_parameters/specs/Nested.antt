-- Function values that read what declarators hold: what specifiers hold, and declarators. They may be called where less may
-- be opened than the bound.
use Rattle.std.specs.Prelude.{◌≡◌, ℕ, ◌+◌, ◌*◌, ◌<◌, List, Result, IfOk}
use Rattle.std.specs.declared.alloc.Global.{Global}
use denote.Ref.{MutBor}
use Rattle.c_tree.specs.declared.expressions.Expr.{Expr}
use Rattle.c_tree.specs.declared.expressions.Member.{Member}
use Rattle.c_grammar.specs.Rules.{Declarator, DeclaratorRead}
use Rattle.parse_input.specs.Input.{Input}
use Rattle.parse_input.specs.Reads.{named, Says}
use Rattle.parse_input.specs.declared.read.Limits.{Limits}
use Rattle.parse_input.specs.declared.read.Read.{Read}
use Rattle.parse_input.specs.declared.read.Refusal.{Refusal}
use Rattle.c_grammar.specs.declared.state.DeclaratorKind.{DeclaratorKind}
use Rattle.c_grammar.specs.declared.state.Bracket.{Bracket}
use Rattle.parse_specifiers.specs.Nested.{Held}

pub record ReadsDeclarators (bound : ℕ) (pre : Global → Limits → DeclaratorKind → Bracket → MutBor Input → Type 0)
    (post : Global → Limits → DeclaratorKind → Bracket → MutBor Input → Result (Read DeclaratorRead) Refusal → MutBor Input → Type 0) : Type 0 where
  pub callable : (alloc : Global) (limits : Limits) (kind : DeclaratorKind) (bracket : Bracket) (old : MutBor Input)
      → 2 * (limits.opens + limits.room) < bound → pre alloc limits kind bracket old
  pub reads : (alloc : Global) (limits : Limits) (kind : DeclaratorKind) (bracket : Bracket) (old new : MutBor Input) (r : Result (Read DeclaratorRead) Refusal)
      → post alloc limits kind bracket old r new
      → Says (named limits.room (Declarator old.now.scope kind bracket) old.now.tokens) r new.now.tokens
  pub keeps : (alloc : Global) (limits : Limits) (kind : DeclaratorKind) (bracket : Bracket) (old new : MutBor Input) (r : Result (Read DeclaratorRead) Refusal)
      → post alloc limits kind bracket old r new → IfOk r (λ read. new.now.scope ≡ old.now.scope)

-- all of them
pub record Nested (bound : ℕ) (conditional_pre : Global → Limits → MutBor Input → Type 0)
    (conditional_post : Global → Limits → MutBor Input → Result (Read Expr) Refusal → MutBor Input → Type 0)
    (declarator_pre : Global → Limits → DeclaratorKind → Bracket → MutBor Input → Type 0)
    (declarator_post : Global → Limits → DeclaratorKind → Bracket → MutBor Input → Result (Read DeclaratorRead) Refusal → MutBor Input → Type 0)
    (members_pre : Global → Limits → MutBor Input → Type 0)
    (members_post : Global → Limits → MutBor Input → Result (Read (List Member)) Refusal → MutBor Input → Type 0) : Type 0 where
  pub held : Held bound conditional_pre conditional_post members_pre members_post
  pub declarators : ReadsDeclarators bound declarator_pre declarator_post
