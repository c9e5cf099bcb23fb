use Rattle.std.proofs.Common.{◌≡◌, ◌-◌, ◌<◌, List, ◌++◌, length, slice_index}
use Rattle.chains.specs.declared.written.ChainStep.{ChainStep}
use Rattle.chains.specs.Look.{look}
use Rattle.chains.specs.Written.{steps_along}
use Rattle.chains.proofs.written.write_steps.Given as goal

-- what was written and what is left make up the whole
abbrev pub invariant-steps : goal.invariant-steps
invariant-steps l = record {
  inside : l.current < length l.rows;
  whole : l.initial.steps.items ++ steps_along (look l.rows) (λ f. slice_index l.next f) l.count l.function ≡ l.steps.items ++ steps_along (look l.rows) (λ f. slice_index l.next f) (l.count - l._done) l.current;
  grown : (more : List ChainStep) × (l.steps.items ≡ l.initial.steps.items ++ more);
}
