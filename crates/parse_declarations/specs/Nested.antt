-- A function value that reads what stands inside braces. It may be called where there is less room than the bound.
use Rattle.std.specs.Prelude.{◌≡◌, ℕ, ◌<◌, Result, IfOk}
use Rattle.std.specs.declared.alloc.Global.{Global}
use denote.Ref.{MutBor}
use Rattle.c_tree.specs.declared.declarations.Init.{Init}
use Rattle.c_grammar.specs.Rules.{Initializer}
use Rattle.parse_input.specs.Input.{Input}
use Rattle.parse_input.specs.Reads.{named, Says}
use Rattle.parse_input.specs.declared.read.Limits.{Limits}
use Rattle.parse_input.specs.declared.read.Read.{Read}
use Rattle.parse_input.specs.declared.read.Refusal.{Refusal}

pub record ReadsInitializers (bound : ℕ) (pre : Global → Limits → MutBor Input → Type 0)
    (post : Global → Limits → MutBor Input → Result (Read Init) Refusal → MutBor Input → Type 0) : Type 0 where
  pub callable : (alloc : Global) (limits : Limits) (old : MutBor Input) → limits.room < bound → pre alloc limits old
  pub reads : (alloc : Global) (limits : Limits) (old new : MutBor Input) (r : Result (Read Init) Refusal)
      → post alloc limits old r new → Says (named limits.room (Initializer old.now.scope) old.now.tokens) r new.now.tokens
  pub keeps : (alloc : Global) (limits : Limits) (old new : MutBor Input) (r : Result (Read Init) Refusal)
      → post alloc limits old r new → IfOk r (λ read. new.now.scope ≡ old.now.scope)
