-- The walk over a body, as its private functions speak of it.
use Rattle.std.specs.Prelude.{◌≡◌, nat_lt, if◌then◌else◌, List, [], ◌∷◌, ◌++◌, map}
use Rattle.core_unit.specs.Places as unit
use Rattle.core_unit.specs.Places.{initializer_spots}
use Rattle.core_unit.specs.declared.body.Initializer.{Initializer}
use Rattle.unit_spots.specs.Spots.{seen}
use Rattle.unit_spots.specs.declared.spots.Spot.{Spot}

-- the whole is what was found, and the rest
pub record Remains (whole found : List Spot) (rest : List unit.Spot) : Type 0 where
  pub is : whole ≡ found ++ map seen rest

-- what was found grows by these, whatever follows
abbrev pub Finds : (List unit.Spot → List unit.Spot) → List Spot → List Spot → Type 0
Finds spots old new = (whole : List Spot) (rest : List unit.Spot) → Remains whole old (spots rest) → Remains whole new rest

-- the places of the initializers in braces
abbrev pub parts_spots : List Initializer → List unit.Spot → List unit.Spot
parts_spots [] rest = rest
parts_spots (i ∷ is) rest = initializer_spots i (parts_spots is rest)

-- Into places in order: before the first that isn't earlier.
abbrev pub inserted : Spot → List Spot → List Spot
inserted s [] = s ∷ []
inserted s (t ∷ ts) = if nat_lt t.place s.place then t ∷ inserted s ts else s ∷ t ∷ ts

-- in order of place, those at one place as they stood
abbrev pub in_place : List Spot → List Spot
in_place [] = []
in_place (s ∷ ss) = inserted s (in_place ss)
