-- Paths of calls: the steps from the outermost function on. This project's own.
use Rattle.std.specs.Prelude.{◌<◌, ◌^◌, ◌==◌, ◌&&◌, Bool, true, false, List, [], ◌∷◌}
use Rattle.ctx_set.specs.declared.steps.StackStep.{StackStep}

abbrev pub Path : Type 0
Path = List StackStep

-- a step that a set can hold: one of 8,192 functions, called at one of 2^20 sites
abbrev pub IsStep : StackStep → Type 0
IsStep s = (s.target < 8192) × (s.site < 2 ^ 20)

abbrev pub same_step : StackStep → StackStep → Bool
same_step a b = (a.target == b.target) && (a.site == b.site)

-- whether two paths are one
abbrev pub same_path : Path → Path → Bool
same_path [] [] = true
same_path [] (b ∷ q) = false
same_path (a ∷ p) [] = false
same_path (a ∷ p) (b ∷ q) = same_step a b && same_path p q
