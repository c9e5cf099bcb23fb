-- The events that a chain of snapshots holds.
use Rattle.std.specs.Prelude.{List, [], ◌∷◌}
use Rattle.built_model.specs.declared.runs.Made.{Made}
use Rattle.built_model.specs.declared.runs.Chain.{Chain, Start, More'}

-- the latest first
abbrev pub items_of : Chain → List Made
items_of Start = []
items_of (More' shape before made) = made ∷ items_of before
