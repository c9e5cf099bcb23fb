-- Lists that are made item by item, and the places of a body in order.
use Rattle.std.proofs.Common.{◌≡◌, ◌∙◌, refl, sym, ap, ℕ, ◌+◌, ◌<◌, Bool, true, false, cond, List, [], ◌∷◌, ◌++◌, length, get_or, map, take}
use Rattle.std.specs.List.Sorted.{IsNonDecreasingBy, IsStableByKey}
use Rattle.std.specs.Ordering.{nat_cmp}
use Rattle.std.specs.Prelude.{nat_lt}
use Rattle.std.proofs.lemmas.List.{take_more, map-append, append-nil}
use Rattle.core_unit.specs.Places as unit
use Rattle.core_unit.specs.Places.{placed, in_order, spot_place, places, body_spots}
use Rattle.core_unit.specs.declared.body.Body.{Body}
use Rattle.unit_spots.specs.Spots.{seen}
use Rattle.unit_spots.specs.Walk.{Finds, Remains, inserted, in_place}
use Rattle.unit_spots.specs.declared.spots.Spot.{Spot}
use Rattle.unit_spots.proofs.Order.{insert_by, sorted_by, sorted_is}

-- The list is that of the first items, and one more.
pub one_more : {A B : Type 0} (f : A → B) (xs : List A) (i : ℕ) (x : A) (made new : List B) (b : B) → i < length xs → x ≡ get_or xs i x →
    made ≡ map f (take i xs) → b ≡ f x → new ≡ made ++ b ∷ [] → new ≡ map f (take (i + 1) xs)
one_more f xs i x made new b below is so_far e grown =
    let front : take (i + 1) xs ≡ take i xs ++ x ∷ [] = take_more xs i x below ∙ ap (λ y. take i xs ++ y ∷ []) (sym is) in
    grown ∙ (ap (λ m. m ++ b ∷ []) so_far ∙ (ap (λ y. map f (take i xs) ++ y ∷ []) e ∙ (sym (map-append f (take i xs) (x ∷ [])) ∙ ap (map f) (sym front))))

inserted_is : (s : Spot) (ss : List Spot) → inserted s ss ≡ insert_by (λ (t : Spot). t.place) s ss
inserted_is s [] = refl
inserted_is s (t ∷ ts) = ap (λ rest. cond (nat_lt t.place s.place) (t ∷ rest) (s ∷ t ∷ ts)) (inserted_is s ts)

pub in_place_is : (ss : List Spot) → in_place ss ≡ sorted_by (λ (t : Spot). t.place) ss
in_place_is [] = refl
in_place_is (s ∷ ss) = inserted_is s (in_place ss) ∙ ap (insert_by (λ (t : Spot). t.place) s) (in_place_is ss)

seen_place : (s : unit.Spot) → (seen s).place ≡ spot_place s
seen_place (unit.Calls at site callee) = refl
seen_place (unit.Uses at) = refl
seen_place (unit.Declares at) = refl

seen_placed : (s : unit.Spot) (ss : List unit.Spot) → inserted (seen s) (map seen ss) ≡ map seen (placed s ss)
seen_placed s [] = refl
seen_placed s (t ∷ ts) =
    ap (λ n. cond (nat_lt n (seen s).place) (seen t ∷ inserted (seen s) (map seen ts)) (seen s ∷ seen t ∷ map seen ts)) (seen_place t)
    ∙ (ap (λ n. cond (nat_lt (spot_place t) n) (seen t ∷ inserted (seen s) (map seen ts)) (seen s ∷ seen t ∷ map seen ts)) (seen_place s)
    ∙ (ap (λ rest. cond (nat_lt (spot_place t) (spot_place s)) (seen t ∷ rest) (seen s ∷ seen t ∷ map seen ts)) (seen_placed s ts)
    ∙ outside (nat_lt (spot_place t) (spot_place s))))
  where
    outside : (b : Bool) → cond b (seen t ∷ map seen (placed s ts)) (seen s ∷ seen t ∷ map seen ts) ≡ map seen (cond b (t ∷ placed s ts) (s ∷ t ∷ ts))
    outside true = refl
    outside false = refl

seen_in_order : (ss : List unit.Spot) → in_place (map seen ss) ≡ map seen (in_order ss)
seen_in_order [] = refl
seen_in_order (s ∷ ss) = ap (inserted (seen s)) (seen_in_order ss) ∙ seen_placed s (in_order ss)

-- what the walk over a body found, in order
pub ordered : (body : Body) (found sorted : List Spot) → Finds (unit.list_spots body.items) [] found → sorted ≡ in_place found → sorted ≡ map seen (places body)
unfolding places
ordered body found sorted finds e =
    let begun : Remains (map seen (body_spots body)) [] (unit.list_spots body.items []) = record { is = refl } in
    let ended : map seen (body_spots body) ≡ found ++ map seen [] = (finds (map seen (body_spots body)) [] begun).is in
    e ∙ (ap in_place (sym (ended ∙ append-nil found)) ∙ seen_in_order (body_spots body))

-- what a stable sort by place gives
pub sorted_in_place : (xs ys : List Spot) → IsNonDecreasingBy (λ (s : Spot). s.place) ys → IsStableByKey (λ (s : Spot). s.place) nat_cmp xs ys → ys ≡ in_place xs
sorted_in_place xs ys rises stable = sorted_is (λ (s : Spot). s.place) xs ys rises stable ∙ sym (in_place_is xs)
