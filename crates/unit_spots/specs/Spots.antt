-- What stands at the places of a body, as far as levels go.
use Rattle.std.specs.Prelude.{ℕ, List, [], ◌∷◌, map, Option, Some, None, slice_get}
use Rattle.core_unit.specs.Places as unit
use Rattle.core_unit.specs.Shapes.{level_in}
use Rattle.core_unit.specs.Places.{places, Callee, Named, Row, Through}
use Rattle.core_unit.specs.declared.body.Body.{Body}
use Rattle.unit_spots.specs.declared.spots.Action.{Action}
use Rattle.unit_spots.specs.declared.spots.Action.TheVariants.{Calls, CallsLibrary, CallsThrough, UsesThreadLocal, DeclaresStatic}
use Rattle.unit_spots.specs.declared.spots.Spot.{Spot}

abbrev pub call_of : Callee → Action
call_of (Named f) = Calls f
call_of (Row row) = CallsLibrary row
call_of (Through t) = CallsThrough (level_in t)

abbrev pub seen : unit.Spot → Spot
seen (unit.Calls place site callee) = record { place = place; action = call_of callee }
seen (unit.Uses place) = record { place = place; action = UsesThreadLocal }
seen (unit.Declares place) = record { place = place; action = DeclaresStatic }

-- In order of place, as the typed unit has them; none where a function is only declared.
abbrev pub spots_of : Option Body → List Spot
spots_of (Some body) = map seen (places body)
spots_of None = []
