-- The next places of all functions, and the steps along them.
use Rattle.std.proofs.Common.{◌≡◌, ℕ, zero, suc, ◌+◌, ◌-◌, ◌<◌, ◌≤◌, ◌⊎◌, inl, inr, true, List, [], ◌∷◌, ◌++◌, length, All, get_or, slice_index, slice_index_or, arith, refl, sym, ◌∙◌, ap, append_assoc}
use Rattle.std.proofs.lemmas.Bool.{cases_lt, false≢true}
use Rattle.std.proofs.lemmas.List.{get_or_past, get_or_default}
use Rattle.std.proofs.lemmas.List.Elements.{All-get_or}
use Rattle.chains.specs.declared.marks.Mark.{Mark}
use Rattle.chains.specs.declared.marks.Mark.TheVariants.{Passes, Violates, StepsTo}
use Rattle.chains.specs.declared.written.ChainStep.{ChainStep}
use Rattle.chains.specs.Look.{look, target, IsCallBelow, CallsBelow}
use Rattle.chains.specs.Chain.{Leads}
use Rattle.chains.specs.Measures.{Measures, distance_in}
use Rattle.chains.specs.Follow.{begins, IsNext, IsFirstToBegin}
use Rattle.chains.specs.Written.{steps_of, steps_along}
use Rattle.chains.proofs.Nearer.{follow, begins-shortest}

-- the first place that can begin a shortest chain is a place of the body, where there is a chain
pub IsNext-first : (rows : List (List Mark)) (distances : List ℕ) (f i : ℕ) → Measures (look rows) (distance_in distances) → 0 < distance_in distances f → IsFirstToBegin (distance_in distances) (distance_in distances f) (slice_index_or rows f []) i → IsNext (look rows) (distance_in distances) f i
IsNext-first rows distances f i exact some first = record {
  nearer = go (cases_lt i (length row));
  earliest = first.earliest;
} where
  row : List Mark
  row = slice_index_or rows f []

  far : ℕ
  far = distance_in distances f

  none_begins : length row ≤ i → (j : ℕ) → begins (distance_in distances) far (slice_index_or row j Passes) ≡ true → ⊥
  none_begins past j test = early (cases_lt j i) where
    early : (j < i) ⊎ (i ≤ j) → ⊥
    early (inl before) = let late = first.earliest j before in cc
    early (inr behind) =
        let none : get_or row j Passes ≡ Passes = get_or_past row j Passes (omega arith) in
        false≢true (rw none at test)

  some_begins : (places : List ℕ) → Leads (look rows) f places → length places ≡ far → length row ≤ i → ⊥
  some_begins [] leads size past = leads
  some_begins (j ∷ places) leads size past =
      none_begins past j (begins-shortest (look rows) (distance_in distances) exact f j places leads size)

  go : (i < length row) ⊎ (length row ≤ i) → begins (distance_in distances) far (look rows f i) ≡ true
  go (inl below) = first.nearer below
  go (inr past) =
      let shortest = exact.found f some in
      absurd (some_begins shortest.0 shortest.1 shortest.2 past)

-- the steps along the next places are those of the places that are followed
pub steps_along-follow : (look : ℕ → ℕ → Mark) (next : ℕ → ℕ) (n f : ℕ) → steps_along look next n f ≡ steps_of look f (follow look next n f)
steps_along-follow look next zero f = refl
steps_along-follow look next (suc n) f =
    ap (λ steps. record { function = f; place = next f } ∷ steps) (steps_along-follow look next n (target (look f (next f))))

-- a step more of those that are left
pub steps_along-more : (look : ℕ → ℕ → Mark) (next : ℕ → ℕ) (n done f i g : ℕ) (m : Mark) (whole written : List ChainStep) → whole ≡ written ++ steps_along look next (n - done) f → done < n → i ≡ next f → m ≡ look f i → g ≡ target m → whole ≡ (written ++ record { function = f; place = i } ∷ []) ++ steps_along look next (n - (done + 1)) g
steps_along-more look next n done f i g m whole written so_far more place mark callee =
    go (n - done) (n - (done + 1)) (omega arith) so_far where
      go : (left rest : ℕ) → left ≡ suc rest → whole ≡ written ++ steps_along look next left f → whole ≡ (written ++ record { function = f; place = i } ∷ []) ++ steps_along look next rest g
      go left rest e all = rw (append_assoc, callee, mark, place) (rw e at all)

-- what is left goes on among the rows
pub target_inside : (rows : List (List Mark)) (f i : ℕ) (m : Mark) (g : ℕ) → CallsBelow (length rows) rows → f < length rows → m ≡ look rows f i → g ≡ target m → g < length rows
target_inside rows f i m g calls inside is callee = go m is callee where
  below : (j h : ℕ) → look rows f j ≡ StepsTo h → h < length rows
  below j h step = row_calls (slice_index_or rows f []) (All-get_or (All (IsCallBelow (length rows))) rows f [] inside calls) j h step (cases_lt j (length (slice_index_or rows f []))) where
    row_calls : (row : List Mark) → All (IsCallBelow (length rows)) row → (j h : ℕ) → get_or row j Passes ≡ StepsTo h → (j < length row) ⊎ (length row ≤ j) → h < length rows
    row_calls row all j h step (inl low) = rw step at (All-get_or (IsCallBelow (length rows)) row j Passes low all)
    row_calls row all j h step (inr past) =
        let none = get_or_past row j Passes past in let clash : ⊥ = cc (none, step) in absurd clash

  go : (m : Mark) → m ≡ look rows f i → g ≡ target m → g < length rows
  go Passes is callee = omega arith
  go Violates is callee = omega arith
  go (StepsTo h) is callee = rw callee (below i h (sym is))

-- the steps as they were asked for, by what was read of the fields
pub steps_along-read : (rows read_rows : List (List Mark)) (next read_next distances : List ℕ) (count f : ℕ) (steps written : List ChainStep) → read_rows ≡ rows → read_next ≡ next → f < length distances → count ≡ get_or distances f count → written ≡ steps ++ steps_along (look read_rows) (λ g. slice_index read_next g) count f → written ≡ steps ++ steps_along (look rows) (λ g. slice_index next g) (slice_index distances f) f
steps_along-read rows read_rows next read_next distances count f steps written rows_are next_are inside read is =
    let far : count ≡ slice_index distances f = read ∙ get_or_default distances f count 0 inside in
    rw (rows_are, next_are, far) at is

-- a list that has grown grows by one step more
pub grown_more : (old now new : List ChainStep) (step : ChainStep) → (more : List ChainStep) × (now ≡ old ++ more) → new ≡ now ++ step ∷ [] → (more : List ChainStep) × (new ≡ old ++ more)
grown_more old now new step (more, grown) pushed =
    (more ++ step ∷ [], pushed ∙ (ap (λ xs. xs ++ step ∷ []) grown ∙ append_assoc old more (step ∷ [])))
