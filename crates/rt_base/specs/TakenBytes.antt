-- The list that a chain of bytes means, each linked to what was there before it.
use Rattle.std.specs.Prelude.{ℕ, List, [], ◌∷◌, ◌++◌}
use Rattle.rt_base.specs.declared.taken.Chain.{Chain}
use Rattle.rt_base.specs.declared.taken.Chain.TheVariants.{Start, More'}

-- nothing at the start, and else what was there before and then this byte
abbrev pub bytes_of : Chain → List ℕ
bytes_of Start = []
bytes_of (More' shape before byte) = bytes_of before ++ byte ∷ []
