-- What is found by calls one after the other, and by a loop over a list.
use Rattle.std.proofs.Common.{◌≡◌, ◌∙◌, refl, sym, ap, subst, ℕ, zero, suc, ◌+◌, ◌<◌, ◌≤◌, List, [], ◌∷◌, length, get_or, drop, arith}
use Rattle.std.specs.Prelude.{Result, Ok, Err, OnOk}
use Rattle.core_unit.specs.Places as unit
use Rattle.unit_spots.specs.Walk.{Finds, Remains}
use Rattle.unit_spots.specs.declared.spots.Spot.{Spot}

abbrev Part : Type 0
Part = List unit.Spot → List unit.Spot

pub two : {T E : Type 0} (r : Result T E) (s first second : Part) (old mid new : List Spot) → ((rest : List unit.Spot) → s rest ≡ first (second rest)) →
    Finds first old mid → OnOk r (Finds second mid new) → OnOk r (Finds s old new)
two (Ok v) s first second old mid new e f g = λ whole rest h. g whole rest (f whole (second rest) (subst (λ (spots : List unit.Spot). Remains whole old spots) (e rest) h))
two (Err x) s first second old mid new e f g = tt

pub three : {T E : Type 0} (r : Result T E) (s first second third : Part) (old mid more new : List Spot) → ((rest : List unit.Spot) → s rest ≡ first (second (third rest))) →
    Finds first old mid → Finds second mid more → OnOk r (Finds third more new) → OnOk r (Finds s old new)
three r s first second third old mid more new e f g h =
    two r s (λ rest. first (second rest)) third old more new e (λ whole rest k. g whole rest (f whole (second rest) k)) h

pub four : {T E : Type 0} (r : Result T E) (s first second third fourth : Part) (old mid more most new : List Spot) → ((rest : List unit.Spot) → s rest ≡ first (second (third (fourth rest)))) →
    Finds first old mid → Finds second mid more → Finds third more most → OnOk r (Finds fourth most new) → OnOk r (Finds s old new)
four r s first second third fourth old mid more most new e f g h i =
    two r s (λ rest. first (second (third rest))) fourth old most new e (λ whole rest k. h whole rest (g whole (third rest) (f whole (second (third rest)) k))) i

drop_at : {A : Type 0} (xs : List A) (i : ℕ) (x : A) → i < length xs → x ≡ get_or xs i x → drop i xs ≡ x ∷ drop (i + 1) xs
drop_at [] i x below e = absurd (omega arith)
drop_at (y ∷ ys) zero x below e = ap (λ z. z ∷ ys) (sym e)
drop_at (y ∷ ys) (suc i) x below e =
    let next : suc i + 1 ≡ suc (i + 1) = omega arith in
    rw next (drop_at ys i x (omega arith) e)

drop_past : {A : Type 0} (xs : List A) (i : ℕ) → length xs ≤ i → drop i xs ≡ []
drop_past [] zero past = refl
drop_past [] (suc i) past = refl
drop_past (y ∷ ys) zero past = absurd (omega arith)
drop_past (y ∷ ys) (suc i) past = drop_past ys i (omega arith)

-- one item more
pub more : {A : Type 0} (all : List A → Part) (one : A → Part) → ((x : A) (xs : List A) (rest : List unit.Spot) → all (x ∷ xs) rest ≡ one x (all xs rest)) →
    (xs : List A) (i : ℕ) (x : A) (begun now new : List Spot) → i < length xs → x ≡ get_or xs i x →
    ((whole : List Spot) (rest : List unit.Spot) → Remains whole begun (all xs rest) → Remains whole now (all (drop i xs) rest)) → Finds (one x) now new →
    (whole : List Spot) (rest : List unit.Spot) → Remains whole begun (all xs rest) → Remains whole new (all (drop (i + 1) xs) rest)
more all one step xs i x begun now new below is so_far found whole rest h =
    found whole (all (drop (i + 1) xs) rest)
    (subst (λ (spots : List unit.Spot). Remains whole now spots) (ap (λ ys. all ys rest) (drop_at xs i x below is) ∙ step x (drop (i + 1) xs) rest) (so_far whole rest h))

-- at the end of the list
pub ended : {A : Type 0} (all : List A → Part) → ((rest : List unit.Spot) → all [] rest ≡ rest) → (xs : List A) (i : ℕ) (begun now : List Spot) → length xs ≤ i →
    ((whole : List Spot) (rest : List unit.Spot) → Remains whole begun (all xs rest) → Remains whole now (all (drop i xs) rest)) →
    (whole : List Spot) (rest : List unit.Spot) → Remains whole begun (all xs rest) → Remains whole now rest
ended all none xs i begun now past so_far whole rest h =
    subst (λ (spots : List unit.Spot). Remains whole now spots) (ap (λ ys. all ys rest) (drop_past xs i past) ∙ none rest) (so_far whole rest h)
