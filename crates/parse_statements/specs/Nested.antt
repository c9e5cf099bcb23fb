-- A function value that reads statements inside a node. It may be called where there is less room than the bound.
use Rattle.std.specs.Prelude.{◌≡◌, ℕ, ◌<◌, Bool, Result, IfOk}
use Rattle.std.specs.declared.alloc.Global.{Global}
use denote.Ref.{MutBor}
use Rattle.c_grammar.specs.Rules.{Statement, StatementRead}
use Rattle.parse_input.specs.Input.{Input}
use Rattle.parse_input.specs.Reads.{named, Says}
use Rattle.parse_input.specs.declared.read.Limits.{Limits}
use Rattle.parse_input.specs.declared.read.Read.{Read}
use Rattle.parse_input.specs.declared.read.Refusal.{Refusal}

pub record ReadsStatements (bound : ℕ) (pre : Global → Limits → Bool → MutBor Input → Type 0)
    (post : Global → Limits → Bool → MutBor Input → Result (Read StatementRead) Refusal → MutBor Input → Type 0) : Type 0 where
  pub callable : (alloc : Global) (limits : Limits) (in_loop : Bool) (old : MutBor Input) → limits.room < bound → pre alloc limits in_loop old
  pub reads : (alloc : Global) (limits : Limits) (in_loop : Bool) (old new : MutBor Input) (r : Result (Read StatementRead) Refusal)
      → post alloc limits in_loop old r new → Says (named limits.room (Statement old.now.scope in_loop) old.now.tokens) r new.now.tokens
  pub keeps : (alloc : Global) (limits : Limits) (in_loop : Bool) (old new : MutBor Input) (r : Result (Read StatementRead) Refusal)
      → post alloc limits in_loop old r new → IfOk r (λ read. new.now.scope ≡ old.now.scope)
