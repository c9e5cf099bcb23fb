-- The lists of callers, call by call and row by row.
use Rattle.std.proofs.Common.{◌≡◌, ℕ, zero, suc, ◌+◌, ◌<◌, ◌≤◌, ◌⊎◌, inl, inr, List, [], ◌∷◌, ◌++◌, length, map, get_or, set, slice_index_or, Contains, arith, refl, sym, ◌∙◌, ap, length-set, length-append, get_or-set_same, get_or-set_other}
use Rattle.std.proofs.lemmas.Bool.{cases_eq, cases_lt}
use Rattle.std.proofs.lemmas.List.{get_or_append_left, get_or_push, get_or_past, get_or_default, length-map}
use Rattle.std.proofs.lemmas.List.Elements.{All-get_or}
use Rattle.chains.specs.declared.marks.Mark.{Mark}
use Rattle.chains.specs.declared.marks.Mark.TheVariants.{Passes, StepsTo}
use Rattle.chains.specs.Look.{look, IsCallBelow}
use Rattle.chains.specs.Queue.{RowCallsBelow, listed_of, AddsCalls, Reverses}

-- membership under a push

contains_kept : (xs : List ℕ) (y x : ℕ) → Contains xs x → Contains (xs ++ y ∷ []) x
contains_kept xs y x (k, below, at) =
    (k, omega (arith, length-append xs (y ∷ [])), get_or_append_left xs (y ∷ []) x k below ∙ at)

contains_last : (xs : List ℕ) (y : ℕ) → Contains (xs ++ y ∷ []) y
contains_last xs y = (length xs, omega (arith, length-append xs (y ∷ [])), get_or_push xs y y (length xs) refl)

contains_either : (xs : List ℕ) (y x : ℕ) → Contains (xs ++ y ∷ []) x → Contains xs x ⊎ (x ≡ y)
contains_either xs y x (k, below, at) = go (cases_lt k (length xs)) where
  go : (k < length xs) ⊎ (length xs ≤ k) → Contains xs x ⊎ (x ≡ y)
  go (inl before) = inl (k, before, sym (get_or_append_left xs (y ∷ []) x k before) ∙ at)
  go (inr past) =
      let last : length xs ≡ k = omega (arith, length-append xs (y ∷ [])) in
      inr (sym at ∙ get_or_push xs y x k last)

-- the lists before any call is entered
pub AddsCalls-none : (row : List Mark) (f : ℕ) (old : List (List ℕ)) → AddsCalls row 0 f old old
AddsCalls-none row f old = record {
  size = refl;
  kept = λ g x h. h;
  added = λ i g below. absurd (omega arith);
  only = λ g x h. inl h;
}

-- a place that is no step changes nothing
pub AddsCalls-other : (row : List Mark) (count f : ℕ) (d : Mark) (old now : List (List ℕ)) → AddsCalls row count f old now → count < length row → ((g : ℕ) → get_or row count d ≡ StepsTo g → ⊥) → AddsCalls row (count + 1) f old now
AddsCalls-other row count f d old now so_far inside other = record {
  size = so_far.size;
  kept = so_far.kept;
  added = λ i g below step. go i g below step (cases_eq i count);
  only = so_far.only;
} where
  go : (i g : ℕ) → i < count + 1 → slice_index_or row i Passes ≡ StepsTo g → (i ≡ count) ⊎ (i ≡ count → ⊥) → Contains (listed_of now g) f
  go i g below step (inl same) = absurd (other g (get_or_default row count d Passes inside ∙ (rw same at step)))
  go i g below step (inr apart) = so_far.added i g (omega arith) step

-- the callee of a step in the row has a list
pub callee_inside : (n : ℕ) (row : List Mark) (i g : ℕ) (d : Mark) → RowCallsBelow n row → i < length row → get_or row i d ≡ StepsTo g → g < n
callee_inside n row i g d calls inside step = rw step at (All-get_or (IsCallBelow n) row i d inside calls)

-- a step enters f in the list of its callee
pub AddsCalls-step : (row : List Mark) (count f g : ℕ) (d : Mark) (old now new : List (List ℕ)) (entry list : List ℕ) → AddsCalls row count f old now → RowCallsBelow (length old) row → count < length row → get_or row count d ≡ StepsTo g → entry ≡ get_or now g entry → list ≡ entry ++ f ∷ [] → new ≡ set now g list → AddsCalls row (count + 1) f old new
AddsCalls-step row count f g d old now new entry list so_far calls below_row step entry_is list_is is = record {
  size = rw is (length-set _ _ _ ∙ so_far.size);
  kept = λ h x there. kept h x (so_far.kept h x there) (cases_eq h g);
  added = λ i h below at. added i h below at (cases_eq i count);
  only = λ h x there. only h x there (cases_eq h g);
} where
  here : get_or row count Passes ≡ StepsTo g
  here = get_or_default row count Passes d below_row ∙ step

  inside : g < length now
  inside = rw so_far.size (callee_inside (length old) row count g d calls below_row step)

  entry_same : entry ≡ listed_of now g
  entry_same = entry_is ∙ get_or_default now g entry [] inside

  same_list : listed_of new g ≡ listed_of now g ++ f ∷ []
  same_list = rw is (get_or-set_same now g list [] inside ∙ (list_is ∙ ap (λ xs. xs ++ f ∷ []) entry_same))

  other_list : (h : ℕ) → (h ≡ g → ⊥) → listed_of new h ≡ listed_of now h
  other_list h apart = rw is (get_or-set_other now g h list [] apart)

  kept : (h x : ℕ) → Contains (listed_of now h) x → (h ≡ g) ⊎ (h ≡ g → ⊥) → Contains (listed_of new h) x
  kept h x there (inl same) = rw same (rw same_list (contains_kept (listed_of now g) f x (rw same at there)))
  kept h x there (inr apart) = rw (other_list h apart) there

  added : (i h : ℕ) → i < count + 1 → slice_index_or row i Passes ≡ StepsTo h → (i ≡ count) ⊎ (i ≡ count → ⊥) → Contains (listed_of new h) f
  added i h below at (inl same) =
      let callee : h ≡ g = (let other : get_or row count Passes ≡ StepsTo h = rw same at at in cc (here, other)) in
      rw callee (rw same_list (contains_last (listed_of now g) f))
  added i h below at (inr apart) = kept h f (so_far.added i h (omega arith) at) (cases_eq h g)

  only : (h x : ℕ) → Contains (listed_of new h) x → (h ≡ g) ⊎ (h ≡ g → ⊥) → Contains (listed_of old h) x ⊎ ((x ≡ f) × ((i : ℕ) × (slice_index_or row i Passes ≡ StepsTo h)))
  only h x there (inl same) = at_callee (contains_either (listed_of now g) f x (rw same_list at (rw same at there))) where
    at_callee : Contains (listed_of now g) x ⊎ (x ≡ f) → Contains (listed_of old h) x ⊎ ((x ≡ f) × ((i : ℕ) × (slice_index_or row i Passes ≡ StepsTo h)))
    at_callee (inl before) = so_far.only h x (rw same before)
    at_callee (inr last) = inr (last, (count, rw same here))
  only h x there (inr apart) = so_far.only h x (rw (other_list h apart) at there)

blank : (rows : List (List Mark)) (g : ℕ) → get_or (map {A = List Mark} {B = List ℕ} (λ _. []) rows) g [] ≡ []
blank [] g = refl
blank (row ∷ rows) zero = refl
blank (row ∷ rows) (suc g) = blank rows g

-- no list has an entry at first
pub Reverses-none : (rows : List (List Mark)) (callers : List (List ℕ)) → callers ≡ map (λ _. []) rows → Reverses rows 0 callers
Reverses-none rows callers is = record {
  size = rw is (length-map rows (λ _. []));
  calls = λ g x there. absurd (empty g x (rw is at there));
  complete = λ f i g below. absurd (omega arith);
} where
  empty : (g x : ℕ) → Contains (listed_of (map (λ _. []) rows) g) x → ⊥
  empty g x (k, below, at) = omega (arith, ap length (blank rows g))

-- with the calls of one row more
pub Reverses-more : (rows : List (List Mark)) (f : ℕ) (row : List Mark) (now new : List (List ℕ)) → Reverses rows f now → f < length rows → row ≡ get_or rows f row → AddsCalls row (length row) f now new → Reverses rows (f + 1) new
Reverses-more rows f row now new so_far below_rows read more = record {
  size = more.size ∙ so_far.size;
  calls = λ g x there. calls g x (more.only g x there);
  complete = λ x i g below step. complete x i g below step (cases_eq x f);
} where
  is : row ≡ get_or rows f []
  is = read ∙ get_or_default rows f row [] below_rows

  calls : (g x : ℕ) → Contains (listed_of now g) x ⊎ ((x ≡ f) × ((i : ℕ) × (slice_index_or row i Passes ≡ StepsTo g))) → (i : ℕ) × (look rows x i ≡ StepsTo g)
  calls g x (inl before) = so_far.calls g x before
  calls g x (inr (same, (i, step))) = (i, rw (same, ← is) step)

  inside : (i g : ℕ) → get_or row i Passes ≡ StepsTo g → i < length row
  inside i g step = go (cases_lt i (length row)) where
    go : (i < length row) ⊎ (length row ≤ i) → i < length row
    go (inl below) = below
    go (inr past) = let none = get_or_past row i Passes past in let clash : ⊥ = cc in absurd clash

  complete : (x i g : ℕ) → x < f + 1 → look rows x i ≡ StepsTo g → (x ≡ f) ⊎ (x ≡ f → ⊥) → Contains (listed_of new g) x
  complete x i g below step (inl same) =
      let here : get_or row i Passes ≡ StepsTo g = rw is (rw same at step) in
      rw same (more.added i g (inside i g here) here)
  complete x i g below step (inr apart) = more.kept g x (so_far.complete x i g (omega arith) step)
