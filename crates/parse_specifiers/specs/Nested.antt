-- Function values that read what specifiers hold: conditional expressions, and the members of a structure. They may be
-- called where less may be opened than the bound, which counts one more for each of them.
use Rattle.std.specs.Prelude.{◌≡◌, ℕ, ◌+◌, ◌*◌, ◌<◌, List, Result, IfOk}
use Rattle.std.specs.declared.alloc.Global.{Global}
use denote.Ref.{MutBor}
use Rattle.c_tree.specs.declared.expressions.Expr.{Expr}
use Rattle.c_tree.specs.declared.expressions.Member.{Member}
use Rattle.c_grammar.specs.Rules.{Conditional, Members}
use Rattle.parse_input.specs.Input.{Input}
use Rattle.parse_input.specs.Reads.{named, Says}
use Rattle.parse_input.specs.declared.read.Limits.{Limits}
use Rattle.parse_input.specs.declared.read.Read.{Read}
use Rattle.parse_input.specs.declared.read.Refusal.{Refusal}

pub record ReadsConditionals (bound : ℕ) (pre : Global → Limits → MutBor Input → Type 0)
    (post : Global → Limits → MutBor Input → Result (Read Expr) Refusal → MutBor Input → Type 0) : Type 0 where
  pub callable : (alloc : Global) (limits : Limits) (old : MutBor Input) → 2 * (limits.opens + limits.room) + 1 < bound → pre alloc limits old
  pub reads : (alloc : Global) (limits : Limits) (old new : MutBor Input) (r : Result (Read Expr) Refusal)
      → post alloc limits old r new → Says (named limits.room (Conditional old.now.scope) old.now.tokens) r new.now.tokens
  pub keeps : (alloc : Global) (limits : Limits) (old new : MutBor Input) (r : Result (Read Expr) Refusal)
      → post alloc limits old r new → IfOk r (λ read. new.now.scope ≡ old.now.scope)

pub record ReadsMembers (bound : ℕ) (pre : Global → Limits → MutBor Input → Type 0)
    (post : Global → Limits → MutBor Input → Result (Read (List Member)) Refusal → MutBor Input → Type 0) : Type 0 where
  pub callable : (alloc : Global) (limits : Limits) (old : MutBor Input) → 2 * (limits.opens + limits.room) + 1 < bound → pre alloc limits old
  pub reads : (alloc : Global) (limits : Limits) (old new : MutBor Input) (r : Result (Read (List Member)) Refusal)
      → post alloc limits old r new → Says (named limits.room (Members old.now.scope) old.now.tokens) r new.now.tokens
  pub keeps : (alloc : Global) (limits : Limits) (old new : MutBor Input) (r : Result (Read (List Member)) Refusal)
      → post alloc limits old r new → IfOk r (λ read. new.now.scope ≡ old.now.scope)

-- both of them
pub record Held (bound : ℕ) (conditional_pre : Global → Limits → MutBor Input → Type 0)
    (conditional_post : Global → Limits → MutBor Input → Result (Read Expr) Refusal → MutBor Input → Type 0)
    (members_pre : Global → Limits → MutBor Input → Type 0)
    (members_post : Global → Limits → MutBor Input → Result (Read (List Member)) Refusal → MutBor Input → Type 0) : Type 0 where
  pub conditionals : ReadsConditionals bound conditional_pre conditional_post
  pub members : ReadsMembers bound members_pre members_post
