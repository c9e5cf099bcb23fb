-- The rule goes on at a count, a split and a join.
use Rattle.std.proofs.Common.{◌≡◌, ◌≢◌, ◌≤◌, ◌<◌, ◌+◌, ◌%◌, ◌^◌, ◌⊎◌, ◌&&◌, ℕ, eqb, min, Bool, true, false, cond, List, [], ◌∷◌, ◌++◌, set, length, flat_map, refl, sym, ap, ◌∙◌, subst, inl, inr, ⊎_elim, eq-eqb, ne_eqb, length-append, true≢false, mod-eq_of_lt, arith}
use Rattle.std.proofs.Math.Nat.{mod-add-mod}
use Rattle.std.proofs.lemmas.Bool.{cases_eq}
use Rattle.std.proofs.lemmas.List.Sums.{sum_by-le-sum_by, sum_by_push}
use mathlib.Core.Option.{some}
use lib.ListN.{get_elem?}
use Rattle.context_set.specs.declared.node.Node.{Node}
use Rattle.context_set.specs.declared.node.Counted.{Counted}
use Rattle.context_set.specs.declared.node.Counted.TheVariants.{First, Again}
use Rattle.context_set.specs.declared.view.CtxView.{CtxView}
use Rattle.context_set.specs.Paths.{Path, same_path}
use Rattle.context_set.specs.Held.{Count, Joined, path_of, KnowsNode, all_counted, times, firsts, is_first}
use Rattle.context_set.specs.Rule.{Slots, HasPath, Fits, total, total_firsts, total_counts, IsSet}
use Rattle.context_set.specs.Steps.{counted}
use Rattle.context_set.proofs.Seats.{seats_set}
use Rattle.context_set.proofs.Paths.{same_path_true, same_path_false, same_path-itself}
use Rattle.context_set.proofs.Ways.{one_slot}
use Rattle.context_set.proofs.Grows.{Grows, slot-grows, fits-grows}
use Rattle.context_set.proofs.Lists.{times-append, firsts-append, times-le-length}
use Rattle.context_set.proofs.Kept.{middle_cases, known_path}
use Rattle.context_set.proofs.Filled.{filled_set, filled_same}
use Rattle.context_set.proofs.SetSteps.{tree_same, was_set, total_set, firsts_set, counts_set}

-- the weight of one count
weight : Path → Path → ℕ
weight q p = cond (same_path q p) 1 0

first_weight : Path → Counted → Path → ℕ
first_weight q answer p = cond (same_path q p && is_first answer) 1 0

module _ (a b : List Count) (q : Path) (answer : Counted) where
  times_middle : (p : Path) → times p ((a ++ record { path = q; answer = answer } ∷ []) ++ b) ≡ times p (a ++ b) + weight q p
  unfolding weight
  times_middle p =
      let one : ◌≡◌ {A = ℕ} (times p (a ++ record { path = q; answer = answer } ∷ [])) (times p a + cond (same_path q p) 1 0) = sum_by_push (λ (c : Count). cond (same_path c.path p) 1 0) a record { path = q; answer = answer } in
      omega (arith, times-append p (a ++ record { path = q; answer = answer } ∷ []) b, times-append p a b)

  firsts_middle : (p : Path) → firsts p ((a ++ record { path = q; answer = answer } ∷ []) ++ b) ≡ firsts p (a ++ b) + first_weight q answer p
  unfolding first_weight
  firsts_middle p =
      let one : ◌≡◌ {A = ℕ} (firsts p (a ++ record { path = q; answer = answer } ∷ [])) (firsts p a + cond (same_path q p && is_first answer) 1 0) = sum_by_push (λ (c : Count). cond (same_path c.path p && is_first c.answer) 1 0) a record { path = q; answer = answer } in
      omega (arith, firsts-append p (a ++ record { path = q; answer = answer } ∷ []) b, firsts-append p a b)

  length_middle : length ((a ++ record { path = q; answer = answer } ∷ []) ++ b) ≡ length (a ++ b) + 1
  length_middle = omega (arith, length-append (a ++ record { path = q; answer = answer } ∷ []) b, length-append a b, length-append a (record { path = q; answer = answer } ∷ []))

weight_same : (q p : Path) → q ≡ p → weight q p ≡ 1
unfolding weight
weight_same q p same = rw (ap (λ (x : Path). same_path x p) same ∙ same_path-itself p) refl

weight_other : (q p : Path) → q ≢ p → weight q p ≡ 0
unfolding weight
weight_other q p other = rw (same_path_false q p other) refl

first_weight_other : (q : Path) (answer : Counted) (p : Path) → q ≢ p → first_weight q answer p ≡ 0
unfolding first_weight
first_weight_other q answer p other = rw (same_path_false q p other) refl

-- the answer is First where the word was 0
answer_of : ℕ → Counted
answer_of word = cond (eqb word 0) First Again

first_weight_zero : (q p : Path) (word : ℕ) → q ≡ p → word ≡ 0 → first_weight q (answer_of word) p ≡ 1
unfolding first_weight answer_of
first_weight_zero q p word same zeroth = rw (ap (λ (x : Path). same_path x p) same ∙ same_path-itself p, eq-eqb word 0 zeroth) refl

first_weight_more : (q p : Path) (word : ℕ) → q ≡ p → word ≢ 0 → first_weight q (answer_of word) p ≡ 0
unfolding first_weight answer_of
first_weight_more q p word same more = rw (ap (λ (x : Path). same_path x p) same ∙ same_path-itself p, ne_eqb word 0 more) refl

cases_same : (q p : Path) → (q ≡ p) ⊎ (q ≢ p)
cases_same q p = go (same_path q p) refl where
  go : (b : Bool) → same_path q p ≡ b → (q ≡ p) ⊎ (q ≢ p)
  go true e = inl (same_path_true q p e)
  go false e = inr (λ (same : q ≡ p). true≢false (sym (ap (λ (x : Path). same_path x p) same ∙ same_path-itself p) ∙ e))

-- at most as many as all counts
total-le-counts : (p : Path) (views : List CtxView) → total p views ≤ total_counts views
total-le-counts p views = sum_by-le-sum_by (λ (u : CtxView). times p (all_counted u.held)) (λ (u : CtxView). length (all_counted u.held)) views (λ u. times-le-length p (all_counted u.held))

module _ (n : ℕ) (r : ℕ → ℕ) (path : ℕ → Path) (views : List CtxView) (is : IsSet n r path views)
    (id : ℕ) (v : CtxView) (there : get_elem? views id ≡ some v) where
  -- a node that the pass knows is counted
  module _ (most : n ≤ 65536) (lives : v.live ≡ true) (node : Node) (knows : KnowsNode v.held node)
      (r' : ℕ → ℕ) (others : (j : ℕ) → j ≢ n + node.number → r' j ≡ r j) (written : r' (n + node.number) ≡ (r (n + node.number) + 1) % 2 ^ 64) where
    has : HasPath n r path node.number (path_of v.held.known node)
    has = known_path n r path v (is.fits id v there) node knows

    p : Path
    p = path_of v.held.known node

    w : CtxView
    w = counted v (path_of v.held.known node) (r (n + node.number))

    grows : Grows n r path r' path
    grows j inside holds = (others j (λ (e : j ≡ n + node.number). omega arith), refl)

    back : Grows n r' path r path
    back j inside holds = (sym (others j (λ (e : j ≡ n + node.number). omega arith)), refl)

    low : (j : ℕ) → j < n → r' j ≡ r j
    low j inside = others j (λ (e : j ≡ n + node.number). omega arith)

    slots' : Slots n r' path
    slots' = record {
      each = λ i inside holds.
          let before : 0 < r i = subst (λ (x : ℕ). 0 < x) (low i inside) holds in
          slot-grows n r path r' path grows i inside before (is.slots.each i inside before);
      apart = λ i j inside inside' holds same.
          let before : 0 < r i = subst (λ (x : ℕ). 0 < x) (low i inside) holds in
          is.slots.apart i j inside inside' before (sym (low i inside) ∙ (same ∙ low j inside'));
      empty = λ i inside zeroth.
          let old : r i ≡ 0 = sym (low i inside) ∙ zeroth in
          let other : i ≢ node.number = λ (e : i ≡ node.number). let same : r i ≡ r node.number = ap r e in let full = has.1 in omega arith in
          others (n + i) (λ (e : n + i ≡ n + node.number). other (omega arith)) ∙ is.slots.empty i inside old;
    }

    w_fits : Fits n r path w
    unfolding w
    w_fits =
        let fits = is.fits id v there in record {
          slots = fits.slots;
          known = fits.known;
          seen = fits.seen;
          entered = fits.entered;
          counted = λ c in_counts.
              ⊎_elim (fits.counted c)
              (λ (new : record { path = path_of v.held.known node; answer = cond (eqb (r (n + node.number)) 0) First Again } ≡ c).
              let here : (i : ℕ) × HasPath n r path i (path_of v.held.known node) = (node.number, has) in
              subst (λ (x : Count). (i : ℕ) × HasPath n r path i x.path) new here)
              (middle_cases v.held.counted (flat_map (λ (j : Joined). j.counted) v.held.joined) record { path = path_of v.held.known node; answer = cond (eqb (r (n + node.number)) 0) First Again } c in_counts);
          spent = λ dead. absurd (true≢false (sym lives ∙ dead));
        }

    rest : List Count
    rest = flat_map (λ (j : Joined). j.counted) v.held.joined

    total_more : (q : Path) → total q (set views id w) ≡ total q views + weight p q
    unfolding p w answer_of
    total_more q =
        let more = times_middle v.held.counted (flat_map (λ (j : Joined). j.counted) v.held.joined) (path_of v.held.known node) (answer_of (r (n + node.number))) q in
        omega (arith, total_set n r path views is id v there (counted v (path_of v.held.known node) (r (n + node.number))) q)

    firsts_more : (q : Path) → total_firsts q (set views id w) ≡ total_firsts q views + first_weight p (answer_of (r (n + node.number))) q
    unfolding p w answer_of
    firsts_more q =
        let more = firsts_middle v.held.counted (flat_map (λ (j : Joined). j.counted) v.held.joined) (path_of v.held.known node) (answer_of (r (n + node.number))) q in
        omega (arith, firsts_set n r path views is id v there (counted v (path_of v.held.known node) (r (n + node.number))) q)

    counts_more : total_counts (set views id w) ≡ total_counts views + 1
    unfolding w answer_of
    counts_more =
        let more = length_middle v.held.counted (flat_map (λ (j : Joined). j.counted) v.held.joined) (path_of v.held.known node) (answer_of (r (n + node.number))) in
        omega (arith, counts_set n r path views is id v there (counted v (path_of v.held.known node) (r (n + node.number))))

    first' : total_counts (set views id w) < 2 ^ 64 → (q : Path) → total_firsts q (set views id w) ≡ min 1 (total q (set views id w))
    unfolding p
    first' few q =
        let fewer : total_counts views < 2 ^ 64 = omega (arith, counts_more) in
        let old = is.first fewer q in
        let total_now = total_more q in
        let firsts_now = firsts_more q in
        ⊎_elim
        (λ (same : p ≡ q).
        let one = weight_same p q same in
        let sum = is.sums node.number has.0 has.1 in
        let path_is : path node.number ≡ q = has.2 ∙ same in
        let bound : total q views < 2 ^ 64 = omega (arith, total-le-counts q views) in
        let word : r (n + node.number) ≡ total q views = sum ∙ (ap (λ (x : Path). total x views % 2 ^ 64) path_is ∙ mod-eq_of_lt bound) in
        ⊎_elim
        (λ (zeroth : r (n + node.number) ≡ 0). let weighs = first_weight_zero p q (r (n + node.number)) same zeroth in omega arith)
        (λ (more : r (n + node.number) ≡ 0 → ⊥). let weighs = first_weight_more p q (r (n + node.number)) same more in omega arith)
        (cases_eq (r (n + node.number)) 0))
        (λ (other : p ≢ q).
        let none = weight_other p q other in
        let none' = first_weight_other p (answer_of (r (n + node.number))) q other in
        omega arith)
        (cases_same p q)

    pub keeps_count : IsSet n r' path (set views id (counted v (path_of v.held.known node) (r (n + node.number))))
    unfolding w p
    keeps_count = record {
      slots = slots';
      fits = seats_set (λ i u. Fits n r' path u) views id (counted v (path_of v.held.known node) (r (n + node.number)))
          (λ i u other in_views. fits-grows n r path r' path grows u (is.fits i u in_views))
          (fits-grows n r path r' path grows (counted v (path_of v.held.known node) (r (n + node.number))) w_fits);
      tree = tree_same n r path views is id v there w refl;
      was = λ i inside holds. was_set n r path views is id v there w (λ e in_entered. in_entered) (path i) i (is.was i inside (subst (λ (x : ℕ). 0 < x) (low i inside) holds));
      filled = filled_set n views is.filled id v there w (λ e in_entered. in_entered)
          (filled_same n views is.filled id v there w (λ e in_entered. in_entered) refl refl);
      sums = λ i inside holds.
          let before : 0 < r i = subst (λ (x : ℕ). 0 < x) (low i inside) holds in
          let old = is.sums i inside before in
          ⊎_elim
          (λ (same : i ≡ node.number).
          let path_is : p ≡ path i = sym has.2 ∙ ap path (sym same) in
          let more : total (path i) (set views id w) ≡ total (path i) views + 1 = total_more (path i) ∙ ap (λ (x : ℕ). total (path i) views + x) (weight_same p (path i) path_is) in
          ap (λ (j : ℕ). r' (n + j)) same ∙ (written ∙ (ap (λ (j : ℕ). (r (n + j) + 1) % 2 ^ 64) (sym same)
          ∙ (ap (λ (x : ℕ). (x + 1) % 2 ^ 64) old ∙ (mod-add-mod (total (path i) views) (2 ^ 64) 1 ∙ ap (λ (x : ℕ). x % 2 ^ 64) (sym more))))))
          (λ (other : i ≡ node.number → ⊥).
          let apart : p ≢ path i = λ (e : p ≡ path i). other (sym (one_slot n r path most is.slots node.number i p (path i) has (inside, before, refl) e)) in
          let unchanged : total (path i) (set views id w) ≡ total (path i) views = omega (arith, total_more (path i), weight_other p (path i) apart) in
          others (n + i) (λ (e : n + i ≡ n + node.number). other (omega arith)) ∙ (old ∙ ap (λ (x : ℕ). x % 2 ^ 64) (sym unchanged)))
          (cases_eq i node.number);
      first = first';
    }
