-- How verdicts are kept: the steps of all chains in one list for each level, and where the chain of each warning stands.
use Rattle.std.specs.Prelude.{◌≡◌, ◌≤◌, List, length, All, slice_range}
use Rattle.eff_types.specs.declared.levels.Level.{Level}
use Rattle.eff_types.specs.declared.levels.Level.TheVariants.{Plain, NonAllocating, NonBlocking}
use Rattle.unit_check.specs.declared.verdicts.ChainStep.{ChainStep}
use Rattle.unit_check.specs.declared.verdicts.LevelSpan.{LevelSpan}
use Rattle.unit_check.specs.declared.verdicts.Warning.{Warning}

abbrev pub kept_for : Level → List ChainStep → List ChainStep → List ChainStep
kept_for Plain a b = a
kept_for NonAllocating a b = a
kept_for NonBlocking a b = b

abbrev pub chain_in : List ChainStep → List ChainStep → LevelSpan → List ChainStep
chain_in a b s = slice_range (kept_for s.level a b) s.from s.to

abbrev pub IsWithin : List ChainStep → List ChainStep → LevelSpan → Type 0
IsWithin a b s = (s.from ≤ s.to) × (s.to ≤ length (kept_for s.level a b))

-- Each warning has a span, which stands within the steps of its level.
pub record HasSpans (warnings : List Warning) (spans : List LevelSpan) (a b : List ChainStep) : Type 0 where
  pub many : length spans ≡ length warnings
  pub within : All (IsWithin a b) spans
