-- The rule begins, and goes on where a seat is split and where seats are joined.
use Rattle.std.proofs.Common.{◌≡◌, ◌≢◌, ◌<◌, ◌+◌, ◌%◌, ◌^◌, ◌⊎◌, ℕ, zero, suc, min, true, Ok, List, [], ◌∷◌, ◌++◌, set, length, map, Contains, refl, sym, ap, ◌∙◌, subst, ⊎_elim, length-append, true≢false, arith}
use Rattle.std.proofs.lemmas.Bool.{cases_eq}
use Rattle.std.proofs.lemmas.List.{map-append}
use Rattle.std.proofs.lemmas.List.Elements.{Contains-append_cases, Contains-append_left, Contains-append_right}
use Rattle.std.proofs.lemmas.List.Sums.{sum_by_push}
use mathlib.Core.Option.{some, some-injective}
use lib.ListN.{get_elem?}
use Rattle.atomic_table.proofs.Lists.{at_map, set_here, set_else, at_longer}
use Rattle.context_set.specs.declared.view.CtxView.{CtxView}
use Rattle.context_set.specs.Paths.{Path}
use Rattle.context_set.specs.Held.{Entry, Count, Joined, joins, all_entered, all_counted, times, firsts}
use Rattle.context_set.specs.Tree.{Branch, IsTree, splitter, offspring, keeper}
use Rattle.context_set.specs.Rule.{Fits, WasEntered, IsFilled, total, total_firsts, total_counts, branch_of, IsSet}
use Rattle.context_set.specs.Steps.{first_view, splits, split_off, takes_in, spent}
use Rattle.context_set.proofs.Seats.{at_within, same_at, seats_set, seats_longer}
use Rattle.context_set.proofs.Tree.{tree_first, IsTree-split, IsTree-join}
use Rattle.context_set.proofs.Lists.{all_entered-joins, all_counted-joins, sum_by-change, times-append, firsts-append}
use Rattle.context_set.proofs.Kept.{branches_set}
use Rattle.context_set.proofs.Filled.{spent_filled, filled_split, filled_join}
use Rattle.context_set.proofs.SetSteps.{was_set, total_set, firsts_set, counts_set}

-- a set whose slots are empty
pub set_first : (n : ℕ) (r : ℕ → ℕ) → ((i : ℕ) → r i ≡ 0) → IsSet n r (λ i. []) (first_view n ∷ [])
set_first n r empty = record {
  slots = record {
    each = λ i within holds. absurd (omega (arith, empty i));
    apart = λ i j within within' holds same. absurd (omega (arith, empty i));
    empty = λ i within none. empty (n + i);
  };
  fits = fits;
  tree = tree_first (branch_of (first_view n)) refl refl;
  was = λ i within holds. absurd (omega (arith, empty i));
  filled = filled;
  sums = λ i within holds. absurd (omega (arith, empty i));
  first = λ few p. refl;
} where
  none : {A : Type 0} (x : A) → Contains [] x → ⊥
  none x there = absurd (omega (arith, there.1))

  view_fits : Fits n r (λ i. []) (first_view n)
  view_fits = record {
    slots = λ lives. refl;
    known = λ k there. absurd (none k there);
    seen = λ t earlier. absurd (omega arith);
    entered = λ e there. absurd (none e there);
    counted = λ c there. absurd (none c there);
    spent = λ dead. absurd (true≢false dead);
  }

  fits : (id : ℕ) (v : CtxView) → get_elem? (first_view n ∷ []) id ≡ some v → Fits n r (λ i. []) v
  fits zero v at = subst (λ (u : CtxView). Fits n r (λ i. []) u) (some-injective (first_view n) v at) view_fits
  fits (suc id) v at = let clash : ⊥ = cc in absurd clash

  filled : (id : ℕ) (v : CtxView) → get_elem? (first_view n ∷ []) id ≡ some v → IsFilled n (first_view n ∷ []) id v
  filled zero v at = subst (λ (u : CtxView). IsFilled n (first_view n ∷ []) 0 u) (some-injective (first_view n) v at) (spent_filled n (first_view n ∷ []) 0 (first_view n) refl)
  filled (suc id) v at = let clash : ⊥ = cc in absurd clash

module _ (n : ℕ) (r : ℕ → ℕ) (path : ℕ → Path) (views : List CtxView) (is : IsSet n r path views)
    (id : ℕ) (v : CtxView) (there : get_elem? views id ≡ some v) (lives : v.live ≡ true) where
  -- a pass is split
  splits_fits : Fits n r path (splits v)
  splits_fits =
      let fits = is.fits id v there in record {
        slots = fits.slots;
        known = fits.known;
        seen = fits.seen;
        entered = fits.entered;
        counted = fits.counted;
        spent = λ dead. absurd (true≢false (sym lives ∙ dead));
      }

  split_off_fits : Fits n r path (split_off v)
  split_off_fits =
      let fits = is.fits id v there in record {
        slots = λ alive. fits.slots lives;
        known = fits.known;
        seen = λ t earlier. absurd (omega arith);
        entered = λ e in_none. absurd (omega (arith, in_none.1));
        counted = λ c in_none. absurd (omega (arith, in_none.1));
        spent = λ dead. absurd (true≢false dead);
      }

  after_split : List CtxView
  after_split = set views id (splits v) ++ split_off v ∷ []

  tree_split : IsTree (map branch_of after_split)
  unfolding after_split
  tree_split =
      let branches : map branch_of (set views id (splits v) ++ split_off v ∷ []) ≡ set (map branch_of views) id (splitter (branch_of v)) ++ offspring (branch_of v) ∷ [] =
      map-append branch_of (set views id (splits v)) (split_off v ∷ []) ∙ ap (λ (l : List Branch). l ++ branch_of (split_off v) ∷ []) (branches_set views id (splits v)) in
      subst IsTree (sym branches) (IsTree-split (map branch_of views) id (branch_of v) is.tree (at_map branch_of views id v there) lives)

  was_longer : (p : Path) (i : ℕ) → WasEntered (set views id (splits v)) p i → WasEntered after_split p i
  unfolding after_split
  was_longer p i was = record {
    seat = was.seat;
    view = was.view;
    there = at_longer (set views id (splits v)) (split_off v ∷ []) was.seat was.view was.there;
    entry = was.entry;
  }

  split_total : (p : Path) → total p after_split ≡ total p views
  unfolding after_split
  split_total p =
      let more = sum_by_push (λ (u : CtxView). times p (all_counted u.held)) (set views id (splits v)) (split_off v) in
      omega (arith, more, total_set n r path views is id v there (splits v) p)

  split_firsts : (p : Path) → total_firsts p after_split ≡ total_firsts p views
  unfolding after_split
  split_firsts p =
      let more = sum_by_push (λ (u : CtxView). firsts p (all_counted u.held)) (set views id (splits v)) (split_off v) in
      omega (arith, more, firsts_set n r path views is id v there (splits v) p)

  split_counts : total_counts after_split ≡ total_counts views
  unfolding after_split
  split_counts =
      let more = sum_by_push (λ (u : CtxView). length (all_counted u.held)) (set views id (splits v)) (split_off v) in
      omega (arith, more, counts_set n r path views is id v there (splits v))

  pub keeps_split : IsSet n r path (set views id (splits v) ++ split_off v ∷ [])
  unfolding after_split
  keeps_split = record {
    slots = is.slots;
    fits = seats_longer (λ i u. Fits n r path u) (set views id (splits v)) (split_off v)
        (seats_set (λ i u. Fits n r path u) views id (splits v) (λ i u other at. is.fits i u at) splits_fits)
        split_off_fits;
    tree = tree_split;
    was = λ i within holds. was_longer (path i) i (was_set n r path views is id v there (splits v) (λ e in_entered. in_entered) (path i) i (is.was i within holds));
    filled = filled_split n views is.filled id v there;
    sums = λ i within holds. is.sums i within holds ∙ ap (λ (x : ℕ). x % 2 ^ 64) (sym (split_total (path i)));
    first = λ few p.
        let fewer : total_counts views < 2 ^ 64 = omega (arith, split_counts) in
        split_firsts p ∙ (is.first fewer p ∙ ap (min 1) (sym (split_total p)));
  }

  -- a pass is joined into another
  module _ (from : ℕ) (w : CtxView) (from_there : get_elem? views from ≡ some w) (from_lives : w.live ≡ true) (apart : from ≢ id) where
    both : CtxView
    both = takes_in v w

    kept : List CtxView
    kept = set views id (takes_in v w)

    after_join : List CtxView
    after_join = set (set views id (takes_in v w)) from spent

    from_kept : get_elem? kept from ≡ some w
    unfolding kept
    from_kept = set_else views id from (takes_in v w) apart ∙ from_there

    entered_both : (e : Entry) → Contains (all_entered (joins v.held w.held)) e → Contains (all_entered v.held) e ⊎ Contains (all_entered w.held) e
    entered_both e in_both = Contains-append_cases (all_entered v.held) (all_entered w.held) e (subst (λ (l : List Entry). Contains l e) (all_entered-joins v.held w.held) in_both)

    from_first : (e : Entry) → Contains (all_entered v.held) e → Contains (all_entered (joins v.held w.held)) e
    from_first e in_first = subst (λ (l : List Entry). Contains l e) (sym (all_entered-joins v.held w.held)) (Contains-append_left (all_entered v.held) (all_entered w.held) e in_first)

    from_second : (e : Entry) → Contains (all_entered w.held) e → Contains (all_entered (joins v.held w.held)) e
    from_second e in_second = subst (λ (l : List Entry). Contains l e) (sym (all_entered-joins v.held w.held)) (Contains-append_right (all_entered v.held) (all_entered w.held) e in_second)

    both_fits : Fits n r path both
    unfolding both
    both_fits =
        let fits = is.fits id v there in
        let fits' = is.fits from w from_there in record {
          slots = fits.slots;
          known = λ k in_both. ⊎_elim (fits.known k) (fits'.known k) (Contains-append_cases v.held.known w.held.known k in_both);
          seen = fits.seen;
          entered = λ e in_both. ⊎_elim (fits.entered e) (fits'.entered e) (entered_both e in_both);
          counted = λ c in_both. ⊎_elim (fits.counted c) (fits'.counted c)
              (Contains-append_cases (all_counted v.held) (all_counted w.held) c (subst (λ (l : List Count). Contains l c) (all_counted-joins v.held w.held) in_both));
          spent = λ dead. absurd (true≢false (sym lives ∙ dead));
        }

    spent_fits : Fits n r path spent
    spent_fits = record {
      slots = λ alive. absurd (true≢false (sym alive));
      known = λ k in_none. absurd (omega (arith, in_none.1));
      seen = λ t earlier. absurd (omega arith);
      entered = λ e in_none. absurd (omega (arith, in_none.1));
      counted = λ c in_none. absurd (omega (arith, in_none.1));
      spent = λ dead. refl;
    }

    tree_join : IsTree (map branch_of after_join)
    unfolding after_join
    tree_join =
        let numbers : branch_of (takes_in v w) ≡ keeper (branch_of v) (branch_of w) = λ k. record {
          live = v.live;
          number = v.held.number;
          splits = v.splits;
          made = v.held.made ++ w.held.made;
          joined = map-append (λ (j : Joined). j.number) v.held.joined (record { number = w.held.number; entered = w.held.entered; counted = w.held.counted } ∷ w.held.joined) k;
        } in
        let branches : map branch_of (set (set views id (takes_in v w)) from spent) ≡ set (set (map branch_of views) id (keeper (branch_of v) (branch_of w))) from (branch_of spent) =
        branches_set (set views id (takes_in v w)) from spent ∙ ap (λ (l : List Branch). set l from (branch_of spent)) (branches_set views id (takes_in v w) ∙ ap (λ (b : Branch). set (map branch_of views) id b) numbers) in
        subst IsTree (sym branches) (IsTree-join (map branch_of views) id (branch_of v) is.tree (at_map branch_of views id v there) lives from (branch_of w) (at_map branch_of views from w from_there) from_lives apart (branch_of spent) refl)

    was_join : (p : Path) (i : ℕ) → WasEntered views p i → WasEntered after_join p i
    unfolding after_join
    was_join p i was =
        let entry : Entry = record { path = p; answer = Ok record { number = i } } in
        let at_both : get_elem? (set (set views id (takes_in v w)) from spent) id ≡ some (takes_in v w) =
        set_else (set views id (takes_in v w)) from id spent (λ (e : id ≡ from). apart (sym e)) ∙ set_here views id (takes_in v w) (at_within views id v there) in
        ⊎_elim
        (λ (here : was.seat ≡ id).
        let same = same_at views id was.view v (subst (λ (s : ℕ). get_elem? views s ≡ some was.view) here was.there) there in
        let next : WasEntered after_join p i = record {
          seat = id;
          view = takes_in v w;
          there = at_both;
          entry = from_first entry (subst (λ (u : CtxView). Contains (all_entered u.held) entry) same was.entry);
        } in next)
        (λ (not_id : was.seat ≡ id → ⊥).
        ⊎_elim
        (λ (taken : was.seat ≡ from).
        let same = same_at views from was.view w (subst (λ (s : ℕ). get_elem? views s ≡ some was.view) taken was.there) from_there in
        let next : WasEntered after_join p i = record {
          seat = id;
          view = takes_in v w;
          there = at_both;
          entry = from_second entry (subst (λ (u : CtxView). Contains (all_entered u.held) entry) same was.entry);
        } in next)
        (λ (not_from : was.seat ≡ from → ⊥).
        let next : WasEntered after_join p i = record {
          seat = was.seat;
          view = was.view;
          there = set_else (set views id (takes_in v w)) from was.seat spent not_from ∙ (set_else views id was.seat (takes_in v w) not_id ∙ was.there);
          entry = was.entry;
        } in next)
        (cases_eq was.seat from))
        (cases_eq was.seat id)

    join_total : (p : Path) → total p after_join ≡ total p views
    unfolding after_join from_kept kept
    join_total p =
        let first = sum_by-change (λ (u : CtxView). times p (all_counted u.held)) views id v (takes_in v w) there in
        let second = sum_by-change (λ (u : CtxView). times p (all_counted u.held)) (set views id (takes_in v w)) from w spent from_kept in
        let sum : times p (all_counted (joins v.held w.held)) ≡ times p (all_counted v.held) + times p (all_counted w.held) = ap (times p) (all_counted-joins v.held w.held) ∙ times-append p (all_counted v.held) (all_counted w.held) in
        omega arith

    join_firsts : (p : Path) → total_firsts p after_join ≡ total_firsts p views
    unfolding after_join from_kept kept
    join_firsts p =
        let first = sum_by-change (λ (u : CtxView). firsts p (all_counted u.held)) views id v (takes_in v w) there in
        let second = sum_by-change (λ (u : CtxView). firsts p (all_counted u.held)) (set views id (takes_in v w)) from w spent from_kept in
        let sum : firsts p (all_counted (joins v.held w.held)) ≡ firsts p (all_counted v.held) + firsts p (all_counted w.held) = ap (firsts p) (all_counted-joins v.held w.held) ∙ firsts-append p (all_counted v.held) (all_counted w.held) in
        omega arith

    join_counts : total_counts after_join ≡ total_counts views
    unfolding after_join from_kept kept
    join_counts =
        let first = sum_by-change (λ (u : CtxView). length (all_counted u.held)) views id v (takes_in v w) there in
        let second = sum_by-change (λ (u : CtxView). length (all_counted u.held)) (set views id (takes_in v w)) from w spent from_kept in
        let sum : length (all_counted (joins v.held w.held)) ≡ length (all_counted v.held) + length (all_counted w.held) = ap length (all_counted-joins v.held w.held) ∙ length-append (all_counted v.held) (all_counted w.held) in
        omega arith

    pub keeps_join : IsSet n r path (set (set views id (takes_in v w)) from spent)
    unfolding after_join both
    keeps_join = record {
      slots = is.slots;
      fits = seats_set (λ i u. Fits n r path u) (set views id (takes_in v w)) from spent
          (λ i u not_from at. seats_set (λ i u. Fits n r path u) views id (takes_in v w) (λ i u other at. is.fits i u at) both_fits i u at)
          spent_fits;
      tree = tree_join;
      was = λ i within holds. was_join (path i) i (is.was i within holds);
      filled = filled_join n views is.filled id v there from w from_there apart;
      sums = λ i within holds. is.sums i within holds ∙ ap (λ (x : ℕ). x % 2 ^ 64) (sym (join_total (path i)));
      first = λ few p.
          let fewer : total_counts views < 2 ^ 64 = omega (arith, join_counts) in
          join_firsts p ∙ (is.first fewer p ∙ ap (min 1) (sym (join_total p)));
    }
