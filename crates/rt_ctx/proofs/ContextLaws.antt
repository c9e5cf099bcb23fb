-- The calls of a context follow what a thread does: after any of it, a context that was brought along by its calls is that of the thread.
use Rattle.std.proofs.Common.{◌≡◌, ℕ, ◌+◌, ◌-◌, List, ◌∷◌, Bool, true, false, cond, refl, arith, ap, ◌∙◌}
use Rattle.std.specs.Prelude.{count_by}
use Rattle.std.proofs.lemmas.List.Sums.{sum_by-cons}
use Rattle.core_unit.specs.declared.tables.UnitParts.{UnitParts}
use Rattle.ctx_set.specs.declared.steps.StackStep.{StackStep}
use Rattle.rt_ctx.specs.Contexts.{entered, left, disabling, enabling}
use Rattle.rt_ctx.specs.Frames.{Act, Enters, Leaves, Disables, Enables, frames, disabled, context_of, is_nonblocking}

pub disables : (u : UnitParts) (acts : List Act) → context_of u (Disables ∷ acts) ≡ disabling (context_of u acts)
disables u acts = refl

pub enables : (u : UnitParts) (acts : List Act) → context_of u (Enables ∷ acts) ≡ enabling (context_of u acts)
enables u acts = refl

-- one frame more, which counts or doesn't
counted : (test : StackStep → Bool) (step : StackStep) (steps : List StackStep) (b : Bool) → test step ≡ b → count_by test (step ∷ steps) ≡ cond b 1 0 + count_by test steps
counted test step steps b e =
    sum_by-cons (λ (s : StackStep). cond (test s) 1 0) step steps ∙ ap (λ c. cond c 1 0 + count_by test steps) e

deeper : (n m d : ℕ) (b : Bool) → n ≡ cond b 1 0 + m → record { depth = n; disabled = d } ≡ entered b (record { depth = m; disabled = d })
deeper n m d true e = ap (λ k. record { depth = k; disabled = d }) (let more : n ≡ m + 1 = omega (arith, e) in more)
deeper n m d false e = ap (λ k. record { depth = k; disabled = d }) (let same : n ≡ m = omega (arith, e) in same)

pub enters : (u : UnitParts) (step : StackStep) (acts : List Act) → context_of u (Enters step ∷ acts) ≡ entered (is_nonblocking u step.target) (context_of u acts)
enters u step acts =
    deeper _ _ (disabled acts) (is_nonblocking u step.target)
    (counted (λ (s : StackStep). is_nonblocking u s.target) step (frames acts) (is_nonblocking u step.target) refl)

-- one frame less
shallower : (n m d : ℕ) (b : Bool) → n ≡ cond b 1 0 + m → record { depth = m; disabled = d } ≡ left b (record { depth = n; disabled = d })
shallower n m d true e = ap (λ k. record { depth = k; disabled = d }) (let less : m ≡ n - 1 = omega (arith, e) in less)
shallower n m d false e = ap (λ k. record { depth = k; disabled = d }) (let same : m ≡ n = omega (arith, e) in same)

-- The frame that is left is the innermost one.
pub leaves : (u : UnitParts) (step : StackStep) (rest : List StackStep) (acts : List Act) → frames acts ≡ step ∷ rest → context_of u (Leaves ∷ acts) ≡ left (is_nonblocking u step.target) (context_of u acts)
leaves u step rest acts e =
    rw e
    (shallower _ _ (disabled acts) (is_nonblocking u step.target)
    (counted (λ (s : StackStep). is_nonblocking u s.target) step rest (is_nonblocking u step.target) refl))
