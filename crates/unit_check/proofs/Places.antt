-- The places of all bodies, body after body.
use Rattle.std.proofs.Common.{◌≡◌, ◌∙◌, refl, sym, ap, ℕ, zero, suc, ◌+◌, ◌<◌, List, [], ◌∷◌, ◌++◌, map, length, get_or, take, append_assoc, Option, Some, None, slice_get, arith}
use Rattle.std.specs.Prelude.{flat_map, slice_index_or}
use Rattle.std.specs.Option.{option_map}
use Rattle.std.proofs.lemmas.Grind.{flat_map-append}
use Rattle.std.proofs.lemmas.List.{take_more, append-nil, length-take}
use Rattle.chains.specs.declared.written.ChainStep as index
use Rattle.core_unit.specs.declared.tables.FunctionInfo.{FunctionInfo}
use Rattle.core_unit.specs.declared.tables.UnitParts.{UnitParts}
use Rattle.unit_check.specs.Findings.{listed, listed_at, step_at}
use Rattle.unit_marks.specs.Marks.{spots_in}
use Rattle.unit_spots.specs.Spots.{spots_of}
use Rattle.unit_check.specs.Verdicts.{numbered, positions, positions_of, step_of, step_with}
use Rattle.unit_check.specs.declared.positions.Position.{Position}
use Rattle.unit_check.specs.declared.verdicts.ChainStep.{ChainStep}
use Rattle.unit_spots.specs.declared.spots.Spot.{Spot}

abbrev position : ℕ → ℕ → Spot → Position
position f i s = record { function = f; index = i; spot = s }

numbered_last : (f k : ℕ) (xs : List Spot) (s : Spot) → numbered f k (xs ++ s ∷ []) ≡ numbered f k xs ++ position f (k + length xs) s ∷ []
numbered_last f k [] s = ap (λ (n : ℕ). position f n s ∷ []) (omega arith)
numbered_last f k (x ∷ xs) s =
    let sum : k + 1 + length xs ≡ k + length (x ∷ xs) = omega arith in
    ap (λ ps. position f k x ∷ ps) (numbered_last f (k + 1) xs s ∙ ap (λ (n : ℕ). numbered f (k + 1) xs ++ position f n s ∷ []) sum)

-- one place more
pub numbered_next : (f : ℕ) (xs : List Spot) (i : ℕ) (d : Spot) (begun made new : List Position) → i < length xs →
    made ≡ begun ++ numbered f 0 (take i xs) → new ≡ made ++ position f i (get_or xs i d) ∷ [] → new ≡ begun ++ numbered f 0 (take (i + 1) xs)
numbered_next f xs i d begun made new below so_far grown =
    let s : Spot = get_or xs i d in
    let front : take (i + 1) xs ≡ take i xs ++ s ∷ [] = take_more xs i d below in
    let long : 0 + length (take i xs) ≡ i = omega (arith, length-take i xs) in
    let last : numbered f 0 (take (i + 1) xs) ≡ numbered f 0 (take i xs) ++ position f i s ∷ [] =
    ap (numbered f 0) front ∙ (numbered_last f 0 (take i xs) s ∙ ap (λ (n : ℕ). numbered f 0 (take i xs) ++ position f n s ∷ []) long) in
    grown ∙ (ap (λ ps. ps ++ position f i s ∷ []) so_far ∙ (append_assoc begun (numbered f 0 (take i xs)) (position f i s ∷ []) ∙ ap (λ ps. begun ++ ps) (sym last)))

-- one body more
pub listed_more : (all : List (List Spot)) (ds : List ℕ) (i d : ℕ) (made new : List Position) → i < length ds → d ≡ get_or ds i d →
    made ≡ flat_map (listed all) (take i ds) → new ≡ made ++ listed all d → new ≡ flat_map (listed all) (take (i + 1) ds)
listed_more all ds i d made new below is so_far grown =
    let front : take (i + 1) ds ≡ take i ds ++ d ∷ [] = take_more ds i d below ∙ ap (λ y. take i ds ++ y ∷ []) (sym is) in
    let one : flat_map (listed all) (d ∷ []) ≡ listed all d = append-nil (listed all d) in
    grown ∙ (ap (λ ps. ps ++ listed all d) so_far ∙ (ap (λ ps. flat_map (listed all) (take i ds) ++ ps) (sym one) ∙ (sym (flat_map-append (listed all) (take i ds) (d ∷ [])) ∙ ap (flat_map (listed all)) (sym front))))

get_map : {A B : Type 0} (f : A → B) (xs : List A) (i : ℕ) → slice_get (map f xs) i ≡ option_map f (slice_get xs i)
get_map f [] i = refl
get_map f (x ∷ xs) zero = refl
get_map f (x ∷ xs) (suc i) = get_map f xs i

found_in : (f : ℕ) (o : Option FunctionInfo) → listed_at f (option_map (λ (g : FunctionInfo). spots_of g.body) o) ≡ numbered f 0 (spots_in o)
found_in f (Some g) = refl
found_in f None = refl

one_listed : (functions : List FunctionInfo) (f : ℕ) → listed (map (λ g. spots_of g.body) functions) f ≡ positions_of functions f
one_listed functions f = ap (listed_at f) (get_map (λ (g : FunctionInfo). spots_of g.body) functions f) ∙ found_in f (slice_get functions f)

pub all_listed : (functions : List FunctionInfo) (ds : List ℕ) → flat_map (listed (map (λ g. spots_of g.body) functions)) ds ≡ flat_map (positions_of functions) ds
all_listed functions [] = refl
all_listed functions (d ∷ ds) =
    ap (λ ps. ps ++ flat_map (listed (map (λ (g : FunctionInfo). spots_of g.body) functions)) ds) (one_listed functions d)
    ∙ ap (λ ps. positions_of functions d ++ ps) (all_listed functions ds)

at_index : (functions : List FunctionInfo) (f : ℕ) → slice_index_or (map (λ g. spots_of g.body) functions) f [] ≡ spots_in (slice_get functions f)
at_index [] f = refl
at_index (x ∷ xs) zero = refl
at_index (x ∷ xs) (suc f) = at_index xs f

one_placed : (functions : List FunctionInfo) (s : index.ChainStep) → step_at (map (λ g. spots_of g.body) functions) s ≡ step_of functions s
one_placed functions s = ap (λ (ss : List Spot). step_with s.function (slice_get ss s.place)) (at_index functions s.function)

all_placed : (functions : List FunctionInfo) (steps : List index.ChainStep) → map (step_at (map (λ g. spots_of g.body) functions)) steps ≡ map (step_of functions) steps
all_placed functions [] = refl
all_placed functions (s ∷ ss) =
    ap (λ (t : ChainStep). t ∷ map (step_at (map (λ (g : FunctionInfo). spots_of g.body) functions)) ss) (one_placed functions s) ∙ ap (λ (ts : List ChainStep). step_of functions s ∷ ts) (all_placed functions ss)

-- the steps that are made of the places of all bodies
pub steps_are : (functions : List FunctionInfo) (all : List (List Spot)) (steps : List index.ChainStep) (made : List ChainStep) → all ≡ map (λ f. spots_of f.body) functions →
    made ≡ map (step_at all) steps → made ≡ map (step_of functions) steps
steps_are functions all steps made e g = g ∙ (ap (λ (x : List (List Spot)). map (step_at x) steps) e ∙ all_placed functions steps)

-- the places that are listed of all bodies
pub positions_are : (u : UnitParts) (all : List (List Spot)) (made : List Position) → all ≡ map (λ f. spots_of f.body) u.functions → made ≡ flat_map (listed all) u.definitions → made ≡ positions u
positions_are u all made e g = g ∙ (ap (λ (x : List (List Spot)). flat_map (listed x) u.definitions) e ∙ all_listed u.functions u.definitions)

out_of_reach : (all : List (List Spot)) (f : ℕ) → None ≡ slice_get all f → slice_index_or all f [] ≡ []
out_of_reach [] f e = refl
out_of_reach (x ∷ xs) zero e = let clash : ⊥ = cc in absurd clash
out_of_reach (x ∷ xs) (suc f) e = out_of_reach xs f e

-- a step in a body that isn't there
pub none_placed : (all : List (List Spot)) (s : index.ChainStep) (made : ChainStep) → None ≡ slice_get all s.function → made ≡ step_with s.function (slice_get [] s.place) → made ≡ step_at all s
none_placed all s made e g = g ∙ ap (λ (ss : List Spot). step_with s.function (slice_get ss s.place)) (sym (out_of_reach all s.function e))
