-- The events that a chain of snapshots holds.
use Rattle.std.specs.Prelude.{List, [], ◌∷◌}
use Rattle.src_model.specs.declared.runs.Made.{Made}
use Rattle.src_model.specs.declared.traces.Chain.{Chain, Start, More', Same'}

-- the latest first
abbrev pub items_of : Chain → List Made
items_of Start = []
items_of (More' shape before made) = made ∷ items_of before
items_of (Same' outer inner before) = items_of before
