-- The rule goes on at each kind of step.
use Rattle.std.proofs.Common.{◌≡◌, ◌≢◌, ◌≤◌, ◌<◌, ◌+◌, ◌%◌, ◌^◌, ◌⊎◌, ℕ, zero, suc, eqb, min, true, cond, Option, Result, Ok, Err, List, [], ◌∷◌, ◌++◌, set, length, map, flat_map, Contains, refl, sym, ap, ◌∙◌, subst, inl, inr, ⊎_elim, eq-eqb, ne_eqb, arith}
use Rattle.std.proofs.lemmas.Bool.{cases_eq, cases_order}
use Rattle.std.proofs.lemmas.List.Elements.{Contains-push, Contains-append_left, Contains-append_right}
use mathlib.Core.Option.{some}
use lib.ListN.{get_elem?}
use Rattle.atomic_table.proofs.Lists.{at_map, set_here, set_else, set_again}
use Rattle.ctx_set.specs.declared.steps.StackStep.{StackStep}
use Rattle.context_set.specs.declared.node.Node.{Node}
use Rattle.context_set.specs.declared.node.CtxFull.{CtxFull}
use Rattle.context_set.specs.declared.view.CtxView.{CtxView}
use Rattle.context_set.specs.Paths.{Path, IsStep}
use Rattle.context_set.specs.Held.{KnowsParent, Entry, Joined, others_of, all_entered, all_counted, times, firsts}
use Rattle.context_set.specs.Tree.{Branch, IsTree}
use Rattle.context_set.specs.Keys.{number_of, key_of, place}
use Rattle.context_set.specs.Rule.{IsWay, IsSlot, Slots, HasPath, Fits, WasEntered, IsFilled, total, total_firsts, total_counts, branch_of, IsSet}
use Rattle.context_set.specs.Steps.{found, wanted, IsBefore}
use Rattle.context_set.proofs.Seats.{at_within, same_at, seats_set}
use Rattle.context_set.proofs.Ways.{way_key}
use Rattle.context_set.proofs.Grows.{Grows, holds-grows, way-grows, slot-grows, fits-grows}
use Rattle.context_set.proofs.Lists.{sum_by-change, sum_by_none, times_none}
use Rattle.context_set.proofs.Kept.{branches_set, Alike, alike_found, wanted_way, seen_before, found_fits}
use Rattle.context_set.proofs.Filled.{filled_set, filled_same, filled_entry}

-- an empty slot or one with a key
cases_zero : (x : ℕ) → (x ≡ 0) ⊎ (0 < x)
cases_zero zero = inl refl
cases_zero (suc x) = inr (omega arith)

module _ (n : ℕ) (r : ℕ → ℕ) (path : ℕ → Path) (views : List CtxView) (is : IsSet n r path views)
    (id : ℕ) (v : CtxView) (there : get_elem? views id ≡ some v) where
  pub tree_same : (w : CtxView) → branch_of w ≡ branch_of v → IsTree (map branch_of (set views id w))
  tree_same w same =
      let at = at_map branch_of views id v there in
      let unchanged : set (map branch_of views) id (branch_of w) ≡ map branch_of views = ap (λ (b : Branch). set (map branch_of views) id b) same ∙ set_again (map branch_of views) id (branch_of v) at in
      subst IsTree (sym (branches_set views id w ∙ unchanged)) is.tree

  pub was_set : (w : CtxView) → ((e : Entry) → Contains (all_entered v.held) e → Contains (all_entered w.held) e)
      → (p : Path) (i : ℕ) → WasEntered views p i → WasEntered (set views id w) p i
  was_set w more p i was =
      let entry : Entry = record { path = p; answer = Ok record { number = i } } in
      ⊎_elim
      (λ (here : was.seat ≡ id).
      let same = same_at views id was.view v (subst (λ (s : ℕ). get_elem? views s ≡ some was.view) here was.there) there in
      let next : WasEntered (set views id w) p i = record {
        seat = id;
        view = w;
        there = set_here views id w (at_within views id v there);
        entry = more entry (subst (λ (u : CtxView). Contains (all_entered u.held) entry) same was.entry);
      } in next)
      (λ (other : was.seat ≡ id → ⊥).
      let next : WasEntered (set views id w) p i = record {
        seat = was.seat;
        view = was.view;
        there = set_else views id was.seat w other ∙ was.there;
        entry = was.entry;
      } in next)
      (cases_eq was.seat id)

  pub total_set : (w : CtxView) (p : Path) → total p (set views id w) + times p (all_counted v.held) ≡ total p views + times p (all_counted w.held)
  total_set w p = sum_by-change (λ (u : CtxView). times p (all_counted u.held)) views id v w there

  pub firsts_set : (w : CtxView) (p : Path) → total_firsts p (set views id w) + firsts p (all_counted v.held) ≡ total_firsts p views + firsts p (all_counted w.held)
  firsts_set w p = sum_by-change (λ (u : CtxView). firsts p (all_counted u.held)) views id v w there

  pub counts_set : (w : CtxView) → total_counts (set views id w) + length (all_counted v.held) ≡ total_counts views + length (all_counted w.held)
  counts_set w = sum_by-change (λ (u : CtxView). length (all_counted u.held)) views id v w there

  pub total_same : (w : CtxView) → all_counted w.held ≡ all_counted v.held → (p : Path) → total p (set views id w) ≡ total p views
  total_same w same p = let equal : times p (all_counted w.held) ≡ times p (all_counted v.held) = ap (times p) same in omega (arith, total_set w p)

  pub first_same : (w : CtxView) → all_counted w.held ≡ all_counted v.held
      → total_counts (set views id w) < 2 ^ 64 → (p : Path) → total_firsts p (set views id w) ≡ min 1 (total p (set views id w))
  first_same w same few p =
      let lengths : length (all_counted w.held) ≡ length (all_counted v.held) = ap length same in
      let fewer : total_counts views < 2 ^ 64 = omega (arith, counts_set w) in
      let equal : firsts p (all_counted w.held) ≡ firsts p (all_counted v.held) = ap (firsts p) same in
      let unchanged : total_firsts p (set views id w) ≡ total_firsts p views = omega (arith, firsts_set w p) in
      unchanged ∙ (is.first fewer p ∙ ap (min 1) (sym (total_same w same p)))

  -- each node was given before a path is refused
  filled_view : (w : CtxView) → Alike v w → Fits n r path w → IsFilled n (set views id w) id w
  filled_view w alike fits =
      ⊎_elim
      (λ (same : w.held.entered ≡ v.held.entered). filled_same n views is.filled id v there w alike.more same alike.others)
      (λ (longer : (e : Entry) × (w.held.entered ≡ v.held.entered ++ e ∷ [])).
      filled_entry n views is.filled id v there w alike.more longer.0 longer.1 alike.others
      (λ p full is_last i within.
      let entry : Entry = record { path = p; answer = Err full } in
      let last : Contains w.held.entered entry = subst (λ (l : List Entry). Contains l entry) (sym longer.1) (subst (λ (e : Entry). Contains (v.held.entered ++ longer.0 ∷ []) e) is_last (Contains-push v.held.entered longer.0)) in
      let is_full = fits.entered entry (Contains-append_left w.held.entered (others_of w.held) entry last) in
      (path i, is.was i within (is_full i within).0)))
      alike.own

  -- the view of a seat changes, and no word
  pub keeps_view : (w : CtxView) → Alike v w → Fits n r path w → IsSet n r path (set views id w)
  keeps_view w alike fits = record {
    slots = is.slots;
    fits = seats_set (λ i u. Fits n r path u) views id w (λ i u other at. is.fits i u at) fits;
    tree = tree_same w alike.branch;
    was = λ i within holds. was_set w alike.more (path i) i (is.was i within holds);
    filled = filled_set n views is.filled id v there w alike.more (filled_view w alike fits);
    sums = λ i within holds. is.sums i within holds ∙ ap (λ (x : ℕ). x % 2 ^ 64) (sym (total_same w alike.counted (path i)));
    first = first_same w alike.counted;
  }

  -- an empty slot gets the key of a path that is looked for
  module _ (most : n ≤ 65536) (lives : v.live ≡ true) (parent : Option Node) (step : StackStep) (small : IsStep step) (knows : KnowsParent v.held parent)
      (tried : ℕ) (before : IsBefore v (key_of (number_of parent) step) tried)
      (at : ℕ) (within : at < n) (here : at ≡ place n (key_of (number_of parent) step) tried) (none : r at ≡ 0)
      (r' : ℕ → ℕ) (others : (j : ℕ) → j ≢ at → r' j ≡ r j) (written : r' at ≡ key_of (number_of parent) step) where
    key : ℕ
    key = key_of (number_of parent) step

    p : Path
    p = wanted v parent step

    pub path' : ℕ → Path
    path' i = cond (eqb i at) (wanted v parent step) (path i)

    way : IsWay n r path (number_of parent) step p
    unfolding p
    way = wanted_way n r path v (is.fits id v there) parent step knows

    holds_other : (j : ℕ) → 0 < r j → j ≢ at
    holds_other j holds same = let empty : r j ≡ 0 = ap r same ∙ none in omega arith

    path_other : (j : ℕ) → j ≢ at → path' j ≡ path j
    unfolding path'
    path_other j other = rw (ne_eqb j at other) refl

    path_here : path' at ≡ p
    unfolding path' p
    path_here = rw (eq-eqb at at refl) refl

    grows : Grows n r path r' path'
    grows j inside holds = let other = holds_other j holds in (others j other, path_other j other)

    -- no slot has the key yet
    absent : (j : ℕ) → j < n → 0 < r j → r j ≢ key
    unfolding key
    absent j inside holds same =
        let slot = is.slots.each j inside holds in
        let at_place : j ≡ place n key slot.tried = slot.here ∙ ap (λ (k : ℕ). place n k slot.tried) same in
        ⊎_elim
        (λ (equal : slot.tried ≡ tried).
        let same_slot : j ≡ at = at_place ∙ (ap (place n key) equal ∙ sym here) in
        holds_other j holds same_slot)
        (λ (apart : (slot.tried < tried) ⊎ (tried < slot.tried)).
        ⊎_elim
        (λ (earlier : slot.tried < tried).
        let seen = seen_before n r path v (is.fits id v there) key tried before slot.tried earlier in
        seen.2 (ap r (sym at_place) ∙ same))
        (λ (later : tried < slot.tried).
        let old = slot.before tried later in
        let is_here : place n (r j) tried ≡ at = ap (λ (k : ℕ). place n k tried) same ∙ sym here in
        holds_other (place n (r j) tried) old.1 is_here)
        apart)
        (cases_order slot.tried tried)

    nowhere : (j : ℕ) → j < n → 0 < r j → path j ≢ p
    unfolding key
    nowhere j inside holds same = absent j inside holds (way_key n r path most is.slots (number_of parent) step p way j inside holds same)

    new_slot : IsSlot n r' path' at
    unfolding key
    new_slot = record {
      parent = number_of parent;
      step = step;
      small = small;
      is = written;
      way = subst (λ (q : Path). IsWay n r' path' (number_of parent) step q) (sym path_here) (way-grows n r path r' path' grows (number_of parent) step p way);
      tried = tried;
      here = here ∙ ap (λ (k : ℕ). place n k tried) (sym written);
      before = λ t earlier.
          let seen = seen_before n r path v (is.fits id v there) key tried before t earlier in
          let there : (place n key t < n) × (0 < r' (place n key t)) = (seen.0, holds-grows n r path r' path' grows (place n key t) seen.0 seen.1) in
          subst (λ (k : ℕ). (place n k t < n) × (0 < r' (place n k t))) (sym written) there;
    }

    positive : 0 < r' at
    positive = rw written (omega arith)

    slots' : Slots n r' path'
    unfolding key
    slots' = record {
      each = λ i inside holds.
          ⊎_elim
          (λ (same : i ≡ at). subst (λ (j : ℕ). IsSlot n r' path' j) (sym same) new_slot)
          (λ (other : i ≡ at → ⊥).
          let before : 0 < r i = subst (λ (x : ℕ). 0 < x) (others i other) holds in
          slot-grows n r path r' path' grows i inside before (is.slots.each i inside before))
          (cases_eq i at);
      apart = λ i j inside inside' holds same.
          ⊎_elim
          (λ (first : i ≡ at).
          ⊎_elim
          (λ (second : j ≡ at). first ∙ sym second)
          (λ (other : j ≡ at → ⊥).
          let has_key : r j ≡ key = sym (others j other) ∙ (sym same ∙ (ap r' first ∙ written)) in
          let full : 0 < r j = rw has_key (omega arith) in
          absurd (absent j inside' full has_key))
          (cases_eq j at))
          (λ (other : i ≡ at → ⊥).
          let before : 0 < r i = subst (λ (x : ℕ). 0 < x) (others i other) holds in
          ⊎_elim
          (λ (second : j ≡ at).
          let has_key : r i ≡ key = sym (others i other) ∙ (same ∙ (ap r' second ∙ written)) in
          absurd (absent i inside before has_key))
          (λ (other' : j ≡ at → ⊥). is.slots.apart i j inside inside' before (sym (others i other) ∙ (same ∙ others j other')))
          (cases_eq j at))
          (cases_eq i at);
      empty = λ i inside zeroth.
          let other : i ≢ at = λ (same : i ≡ at). let full : 0 < r' i = subst (λ (j : ℕ). 0 < r' j) (sym same) positive in omega arith in
          others (n + i) (λ (e : n + i ≡ at). omega arith) ∙ is.slots.empty i inside (sym (others i other) ∙ zeroth);
    }

    has_path : HasPath n r' path' at p
    has_path = (within, positive, path_here)

    -- nobody has counted the path
    total_none : total p views ≡ 0
    total_none = sum_by_none (λ (u : CtxView). times p (all_counted u.held)) views
        (λ i u in_views. times_none p (all_counted u.held)
        (λ c in_counts same. let has = (is.fits i u in_views).counted c in_counts in nowhere has.0 has.1.0 has.1.1 (has.1.2 ∙ same)))

    pub keeps_key : IsSet n r' path' (set views id (found v at (wanted v parent step)))
    unfolding p
    keeps_key =
        let w = found v at p in
        let alike = alike_found v at p in
        let sum_same = total_same w alike.counted in record {
          slots = slots';
          fits = seats_set (λ i u. Fits n r' path' u) views id w
              (λ i u other in_views. fits-grows n r path r' path' grows u (is.fits i u in_views))
              (found_fits n r' path' v (fits-grows n r path r' path' grows v (is.fits id v there)) at p lives has_path);
          tree = tree_same w alike.branch;
          was = λ i inside holds.
              ⊎_elim
              (λ (same : i ≡ at). subst (λ (j : ℕ). WasEntered (set views id w) (path' j) j) (sym same) (subst (λ (q : Path). WasEntered (set views id w) q at) (sym path_here) was_new))
              (λ (other : i ≡ at → ⊥).
              let before : 0 < r i = subst (λ (x : ℕ). 0 < x) (others i other) holds in
              subst (λ (q : Path). WasEntered (set views id w) q i) (sym (path_other i other)) (was_set w alike.more (path i) i (is.was i inside before)))
              (cases_eq i at);
          filled = filled_set n views is.filled id v there w alike.more
              (filled_entry n views is.filled id v there w alike.more record { path = p; answer = Ok record { number = at } } refl refl
              (λ q full clash i inside.
              let answers : ◌≡◌ {A = Result Node CtxFull} (Ok record { number = at }) (Err full) = ap (λ (e : Entry). e.answer) clash in
              let none : ⊥ = cc in absurd none));
          sums = λ i inside holds.
              ⊎_elim
              (λ (same : i ≡ at).
              let zeroth : r' (n + i) ≡ 0 = others (n + i) (λ (e : n + i ≡ at). omega arith) ∙ is.slots.empty i inside (ap r same ∙ none) in
              let nothing : total (path' i) (set views id w) ≡ 0 = ap (λ (q : Path). total q (set views id w)) (ap path' same ∙ path_here) ∙ (sum_same p ∙ total_none) in
              zeroth ∙ rw nothing refl)
              (λ (other : i ≡ at → ⊥).
              let before : 0 < r i = subst (λ (x : ℕ). 0 < x) (others i other) holds in
              others (n + i) (λ (e : n + i ≡ at). omega arith)
              ∙ (is.sums i inside before ∙ ap (λ (x : ℕ). x % 2 ^ 64) (sym (ap (λ (q : Path). total q (set views id w)) (path_other i other) ∙ sum_same (path i)))))
              (cases_eq i at);
          first = first_same w alike.counted;
        }
      where
        was_new : WasEntered (set views id (found v at p)) p at
        was_new = record {
          seat = id;
          view = found v at p;
          there = set_here views id (found v at p) (at_within views id v there);
          entry = Contains-append_left (v.held.entered ++ record { path = p; answer = Ok record { number = at } } ∷ []) (flat_map (λ (j : Joined). j.entered) v.held.joined) record { path = p; answer = Ok record { number = at } }
              (Contains-append_right v.held.entered (record { path = p; answer = Ok record { number = at } } ∷ []) record { path = p; answer = Ok record { number = at } } (0, omega arith, refl));
        }
