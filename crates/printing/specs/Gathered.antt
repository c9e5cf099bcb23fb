-- Texts that are gathered in a buffer in front of a sink (this project's own rule).
use Rattle.std.specs.Prelude.{◌≡◌, ℕ, List, ◌++◌, Result, Ok, Err}
use Rattle.rt_base.specs.Outside.{SinkState, TakesAll, FailsWithin}

-- Behind the bytes that were held these were written: the sink took a front of them all, and the rest is held now.
pub record Gathers (bytes held : List ℕ) (old : SinkState) (left : List ℕ) (new : SinkState) : Type 0 where
  pub front : List ℕ
  pub parts : front ++ left ≡ held ++ bytes
  pub taken : TakesAll front old new

-- what a writer of these bytes did to a buffer and to its sink, by what it answers
abbrev pub IsGathered : {T E : Type 0} → List ℕ → Result T E → List ℕ → SinkState → List ℕ → SinkState → Type 0
IsGathered bytes (Ok done) held old left new = Gathers bytes held old left new
IsGathered bytes (Err fault) held old left new = FailsWithin (held ++ bytes) old new
