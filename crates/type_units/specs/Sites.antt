-- The call sites of a unit, by what stands at the places of its bodies: the code's own words.
use Rattle.std.specs.Prelude.{ℕ, List, [], ◌∷◌, flat_map, slice_get, Option, Some, None}
use Rattle.core_unit.specs.Units.{row_target}
use Rattle.core_unit.specs.declared.tables.FunctionInfo.{FunctionInfo}
use Rattle.core_unit.specs.declared.tables.SiteInfo.{SiteInfo}
use Rattle.unit_spots.specs.Spots.{spots_of}
use Rattle.unit_spots.specs.declared.spots.Action.{Action}
use Rattle.unit_spots.specs.declared.spots.Action.TheVariants.{Calls, CallsLibrary, CallsThrough, UsesThreadLocal, DeclaresStatic}
use Rattle.unit_spots.specs.declared.spots.Spot.{Spot}

abbrev pub site_by : ℕ → ℕ → Action → List SiteInfo
site_by function place (Calls f) = record { function = function; place = place; direct = Some f } ∷ []
site_by function place (CallsLibrary row) = record { function = function; place = place; direct = Some (row_target row) } ∷ []
site_by function place (CallsThrough level) = record { function = function; place = place; direct = None } ∷ []
site_by function place UsesThreadLocal = []
site_by function place DeclaresStatic = []

abbrev pub site_at : ℕ → Spot → List SiteInfo
site_at function spot = site_by function spot.place spot.action

-- those of one definition
unfoldable pub sites_in : ℕ → Option FunctionInfo → List SiteInfo
sites_in function (Some f) = flat_map (site_at function) (spots_of f.body)
sites_in function None = []

-- definition after definition
abbrev pub all_sites : List FunctionInfo → List ℕ → List SiteInfo
all_sites functions definitions = flat_map (λ function. sites_in function (slice_get functions function)) definitions
