-- What was found is that of the unit.
use Rattle.std.proofs.Common.{◌≡◌, ◌∙◌, ap, subst, List, map}
use Rattle.std.specs.Prelude.{flat_map}
use Rattle.core_unit.specs.declared.tables.FunctionInfo.{FunctionInfo}
use Rattle.core_unit.specs.declared.tables.UnitParts.{UnitParts}
use Rattle.unit_check.proofs.Places.{positions_are, steps_are}
use Rattle.unit_check.proofs.Told.{are_verdicts, has_spans}
use Rattle.unit_check.specs.Findings.{AreFound, listed, step_at}
use Rattle.unit_check.specs.Verdicts.{positions, step_of, Verifies}
use Rattle.unit_spots.specs.Spots.{spots_of}
use Rattle.unit_spots.specs.declared.spots.Spot.{Spot}
use Rattle.eff_types.specs.declared.levels.Level.TheVariants.{NonAllocating, NonBlocking}
use Rattle.unit_check.proofs.checking.check.Goals as goal

pub invariant_of-result : goal.invariant_of-result
invariant_of-result c =
    let u : UnitParts = c.args.unit.now in
    let functions : c.as_slice-functions.result.now ≡ u.functions = c.as_slice-functions.ensures ∙ ap (λ (v : UnitParts). v.functions) c.parts-parts.ensures.parts in
    let definitions : c.as_slice-2.result.now ≡ u.definitions = c.as_slice-2.ensures ∙ ap (λ (v : UnitParts). v.definitions) c.parts-parts.ensures.parts in
    let all : c.in_ok-spots.spots.items ≡ map (λ (f : FunctionInfo). spots_of f.body) u.functions = c.in_ok-spots.ensures ∙ ap (map (λ (f : FunctionInfo). spots_of f.body)) functions in
    let listed_places : c.in_ok-places.places.items ≡ flat_map (listed c.in_ok-spots.spots.items) u.definitions =
    c.in_ok-places.ensures ∙ (ap (λ (x : List (List Spot)). flat_map (listed x) c.as_slice-2.result.now) c.as_slice.ensures.value ∙ ap (flat_map (listed c.in_ok-spots.spots.items)) definitions) in
    let places : c.as_slice-4.result.now ≡ positions u = c.as_slice-4.ensures.value ∙ positions_are u c.in_ok-spots.spots.items c.in_ok-places.places.items all listed_places in
    let first : c.in_ok-placed_steps.field-0.items ≡ map (step_of u.functions) c.in_ok-search.search.allocation.steps =
    steps_are u.functions c.as_slice-5.result.now c.in_ok-search.search.allocation.steps c.in_ok-placed_steps.field-0.items (c.as_slice-5.ensures.value ∙ all)
    (c.in_ok-placed_steps.ensures ∙ ap (map (step_at c.as_slice-5.result.now)) (c.as_slice-6.ensures.value ∙ c.into_steps-allocation.ensures)) in
    let second : c.in_ok-placed_steps-2.field-0.items ≡ map (step_of u.functions) c.in_ok-search.search.blocking.steps =
    steps_are u.functions c.as_slice-7.result.now c.in_ok-search.search.blocking.steps c.in_ok-placed_steps-2.field-0.items (c.as_slice-7.ensures.value ∙ all)
    (c.in_ok-placed_steps-2.ensures ∙ ap (map (step_at c.as_slice-7.result.now)) (c.as_slice-8.ensures.value ∙ c.into_steps-blocking.ensures)) in
    let found : AreFound u.functions c.as_slice-4.result.now c.in_ok-search.search.allocation c.in_ok-search.search.blocking c.in_ok-search.search.found =
    subst (λ (fs : List FunctionInfo). AreFound fs c.as_slice-4.result.now c.in_ok-search.search.allocation c.in_ok-search.search.blocking c.in_ok-search.search.found) functions c.in_ok-search.ensures in
    has_spans u c.as_slice-4.result.now c.in_ok-search.search.allocation c.in_ok-search.search.blocking c.in_ok-search.search.found c.in_ok-placed_steps.field-0.items c.in_ok-placed_steps-2.field-0.items first second found

pub returns : goal.returns
returns c =
    let u : UnitParts = c.args.unit.now in
    let functions : c.as_slice-functions.result.now ≡ u.functions = c.as_slice-functions.ensures ∙ ap (λ (v : UnitParts). v.functions) c.parts-parts.ensures.parts in
    let definitions : c.as_slice-2.result.now ≡ u.definitions = c.as_slice-2.ensures ∙ ap (λ (v : UnitParts). v.definitions) c.parts-parts.ensures.parts in
    let all : c.in_ok-spots.spots.items ≡ map (λ (f : FunctionInfo). spots_of f.body) u.functions = c.in_ok-spots.ensures ∙ ap (map (λ (f : FunctionInfo). spots_of f.body)) functions in
    let listed_places : c.in_ok-places.places.items ≡ flat_map (listed c.in_ok-spots.spots.items) u.definitions =
    c.in_ok-places.ensures ∙ (ap (λ (x : List (List Spot)). flat_map (listed x) c.as_slice-2.result.now) c.as_slice.ensures.value ∙ ap (flat_map (listed c.in_ok-spots.spots.items)) definitions) in
    let places : c.as_slice-4.result.now ≡ positions u = c.as_slice-4.ensures.value ∙ positions_are u c.in_ok-spots.spots.items c.in_ok-places.places.items all listed_places in
    let first : c.in_ok-placed_steps.field-0.items ≡ map (step_of u.functions) c.in_ok-search.search.allocation.steps =
    steps_are u.functions c.as_slice-5.result.now c.in_ok-search.search.allocation.steps c.in_ok-placed_steps.field-0.items (c.as_slice-5.ensures.value ∙ all)
    (c.in_ok-placed_steps.ensures ∙ ap (map (step_at c.as_slice-5.result.now)) (c.as_slice-6.ensures.value ∙ c.into_steps-allocation.ensures)) in
    let second : c.in_ok-placed_steps-2.field-0.items ≡ map (step_of u.functions) c.in_ok-search.search.blocking.steps =
    steps_are u.functions c.as_slice-7.result.now c.in_ok-search.search.blocking.steps c.in_ok-placed_steps-2.field-0.items (c.as_slice-7.ensures.value ∙ all)
    (c.in_ok-placed_steps-2.ensures ∙ ap (map (step_at c.as_slice-7.result.now)) (c.as_slice-8.ensures.value ∙ c.into_steps-blocking.ensures)) in
    let found : AreFound u.functions c.as_slice-4.result.now c.in_ok-search.search.allocation c.in_ok-search.search.blocking c.in_ok-search.search.found =
    subst (λ (fs : List FunctionInfo). AreFound fs c.as_slice-4.result.now c.in_ok-search.search.allocation c.in_ok-search.search.blocking c.in_ok-search.search.found) functions c.in_ok-search.ensures in
    are_verdicts u c.as_slice-4.result.now c.in_ok-search.search.allocation c.in_ok-search.search.blocking c.in_ok-search.search.found c.in_ok-placed_steps.field-0.items c.in_ok-placed_steps-2.field-0.items first second found
    c.in_ok-nonallocating.nonallocating.items c.in_ok-nonblocking.nonblocking.items places (rw functions at c.in_ok-nonallocating.ensures) (rw functions at c.in_ok-nonblocking.ensures)
