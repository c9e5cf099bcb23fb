-- The calls of all bodies, by what stands at their places.
use Rattle.std.proofs.Common.{◌≡◌, ◌∙◌, refl, sym, ap, ℕ, List, [], ◌∷◌, ◌++◌, map, flat_map, slice_get, Option, Some, None}
use Rattle.std.proofs.lemmas.List.{map-append}
use Rattle.core_unit.specs.Places.{places, Spot, Calls, Uses, Declares, Callee, Named, Row, Through}
use Rattle.core_unit.specs.Units.{site_of, body_sites, body_in, calls_of}
use Rattle.core_unit.specs.declared.body.Body.{Body}
use Rattle.core_unit.specs.declared.tables.FunctionInfo.{FunctionInfo}
use Rattle.core_unit.specs.declared.tables.UnitParts.{UnitParts}
use Rattle.unit_spots.specs.Spots.{seen, spots_of}
use Rattle.type_units.specs.Sites.{site_at, sites_in, all_sites}

one_site : (function : ℕ) (spot : Spot) → map (λ call. call.info) (site_of function spot) ≡ site_at function (seen spot)
one_site function (Calls place number (Named f)) = refl
one_site function (Calls place number (Row row)) = refl
one_site function (Calls place number (Through t)) = refl
one_site function (Uses place) = refl
one_site function (Declares place) = refl

spot_sites : (function : ℕ) (spots : List Spot) →
    map (λ call. call.info) (flat_map (site_of function) spots) ≡ flat_map (site_at function) (map seen spots)
spot_sites function [] = refl
spot_sites function (s ∷ ss) =
    map-append (λ call. call.info) (site_of function s) (flat_map (site_of function) ss)
    ∙ (ap (λ xs. xs ++ map (λ call. call.info) (flat_map (site_of function) ss)) (one_site function s)
    ∙ ap (λ xs. site_at function (seen s) ++ xs) (spot_sites function ss))

body_is : (function : ℕ) (body : Option Body) → map (λ call. call.info) (body_sites function body) ≡ flat_map (site_at function) (spots_of body)
body_is function (Some body) = spot_sites function (places body)
body_is function None = refl

definition_is : (functions : List FunctionInfo) (function : ℕ) →
    map (λ call. call.info) (body_sites function (body_in functions function)) ≡ sites_in function (slice_get functions function)
unfolding sites_in
definition_is functions function = of (slice_get functions function) refl
  where
    of : (f : Option FunctionInfo) → slice_get functions function ≡ f →
        map (λ call. call.info) (body_sites function (body_in functions function)) ≡ sites_in function f
    of (Some f) e = rw e (body_is function f.body)
    of None e = rw e refl

pub calls_are_sites : (u : UnitParts) → map (λ call. call.info) (calls_of u) ≡ all_sites u.functions u.definitions
calls_are_sites u = of u.definitions
  where
    of : (definitions : List ℕ) →
        map (λ call. call.info) (flat_map (λ function. body_sites function (body_in u.functions function)) definitions) ≡ all_sites u.functions definitions
    of [] = refl
    of (d ∷ ds) =
        map-append (λ call. call.info) (body_sites d (body_in u.functions d)) _
        ∙ (ap (λ xs. xs ++ map (λ call. call.info) (flat_map (λ function. body_sites function (body_in u.functions function)) ds)) (definition_is u.functions d)
        ∙ ap (λ xs. sites_in d (slice_get u.functions d) ++ xs) (of ds))
