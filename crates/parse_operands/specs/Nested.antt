-- Function values that read what stands inside a node: expressions, and type names. They may be called where less may
-- be opened than the bound, which a type name counts one more for.
use Rattle.std.specs.Prelude.{◌≡◌, ℕ, ◌+◌, ◌*◌, ◌<◌, Result, IfOk}
use Rattle.std.specs.declared.alloc.Global.{Global}
use denote.Ref.{MutBor}
use Rattle.c_tree.specs.declared.expressions.Expr.{Expr}
use Rattle.c_tree.specs.declared.expressions.TypeName as type_name
use Rattle.c_grammar.specs.Rules.{TypeName}
use Rattle.parse_input.specs.Input.{Input}
use Rattle.parse_input.specs.Reads.{named, Says}
use Rattle.parse_input.specs.declared.read.Limits.{Limits}
use Rattle.parse_input.specs.declared.read.Read.{Read}
use Rattle.parse_input.specs.declared.read.Refusal.{Refusal}
use Rattle.parse_operands.specs.declared.wanted.Wanted.{Wanted}
use Rattle.parse_operands.specs.Named.{named_expression}

pub record ReadsExpressions (bound : ℕ) (pre : Global → Limits → Wanted → MutBor Input → Type 0)
    (post : Global → Limits → Wanted → MutBor Input → Result (Read Expr) Refusal → MutBor Input → Type 0) : Type 0 where
  pub callable : (alloc : Global) (limits : Limits) (wanted : Wanted) (old : MutBor Input) → 2 * (limits.opens + limits.room) < bound
      → pre alloc limits wanted old
  pub reads : (alloc : Global) (limits : Limits) (wanted : Wanted) (old new : MutBor Input) (r : Result (Read Expr) Refusal)
      → post alloc limits wanted old r new → Says (named_expression limits.room wanted old.now.scope old.now.tokens) r new.now.tokens
  pub keeps : (alloc : Global) (limits : Limits) (wanted : Wanted) (old new : MutBor Input) (r : Result (Read Expr) Refusal)
      → post alloc limits wanted old r new → IfOk r (λ read. new.now.scope ≡ old.now.scope)

pub record ReadsTypeNames (bound : ℕ) (pre : Global → Limits → MutBor Input → Type 0)
    (post : Global → Limits → MutBor Input → Result (Read type_name.TypeName) Refusal → MutBor Input → Type 0) : Type 0 where
  pub callable : (alloc : Global) (limits : Limits) (old : MutBor Input) → 2 * (limits.opens + limits.room) + 1 < bound → pre alloc limits old
  pub reads : (alloc : Global) (limits : Limits) (old new : MutBor Input) (r : Result (Read type_name.TypeName) Refusal)
      → post alloc limits old r new → Says (named limits.room (TypeName old.now.scope) old.now.tokens) r new.now.tokens
  pub keeps : (alloc : Global) (limits : Limits) (old new : MutBor Input) (r : Result (Read type_name.TypeName) Refusal)
      → post alloc limits old r new → IfOk r (λ read. new.now.scope ≡ old.now.scope)

-- both of them
pub record Nested (bound : ℕ) (expression_pre : Global → Limits → Wanted → MutBor Input → Type 0)
    (expression_post : Global → Limits → Wanted → MutBor Input → Result (Read Expr) Refusal → MutBor Input → Type 0)
    (type_name_pre : Global → Limits → MutBor Input → Type 0)
    (type_name_post : Global → Limits → MutBor Input → Result (Read type_name.TypeName) Refusal → MutBor Input → Type 0) : Type 0 where
  pub expressions : ReadsExpressions bound expression_pre expression_post
  pub type_names : ReadsTypeNames bound type_name_pre type_name_post
