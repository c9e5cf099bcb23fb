-- What is so of a pass that has joined all others.
use Rattle.std.proofs.Common.{◌≡◌, ◌≢◌, ◌≤◌, ◌<◌, ◌^◌, ℕ, zero, suc, true, false, Ok, Err, List, [], ◌∷◌, ◌++◌, length, map, Contains, refl, sym, ap, ◌∙◌, subst, inr, ⊎_elim, arith}
use Rattle.std.proofs.lemmas.Bool.{cases_Bool}
use Rattle.std.proofs.lemmas.List.{get_or-map, length-map}
use mathlib.Core.Option.{some}
use lib.ListN.{get_elem?}
use Rattle.atomic_table.proofs.Lists.{at_map}
use Rattle.context_set.specs.declared.node.Node.{Node}
use Rattle.context_set.specs.declared.view.CtxView.{CtxView}
use Rattle.context_set.specs.Paths.{Path}
use Rattle.context_set.specs.Held.{Entry, Joined, Held, Gives, born, others_of, all_entered, all_counted, times, firsts, IsWhole}
use Rattle.context_set.specs.Sound.{HasNode, IsRefused, Apart, TooMany, IsSound}
use Rattle.context_set.specs.Rule.{HasPath, IsFull, IsGivenElsewhere, total, total_firsts, total_counts, branch_of, IsSet}
use Rattle.context_set.specs.Steps.{Tells}
use Rattle.context_set.proofs.Seats.{same_at}
use Rattle.context_set.proofs.Tree.{IsTree-alone}
use Rattle.context_set.proofs.Paths.{node_is}
use Rattle.context_set.proofs.Ways.{one_slot}
use Rattle.context_set.proofs.Lists.{sum_by_alone}

module _ (n : ℕ) (most : n ≤ 65536) (r : ℕ → ℕ) (path : ℕ → Path) (views : List CtxView) (is : IsSet n r path views)
    (id : ℕ) (v : CtxView) (there : get_elem? views id ≡ some v) (lives : v.live ≡ true) (whole : IsWhole v.held) where
  joined_number : (k : ℕ) → (j : Joined) × Contains v.held.joined j × (j.number ≡ k) → Contains (map (λ (j : Joined). j.number) v.held.joined) k
  joined_number k (j, (place, within, at), same) = (
    place,
    rw (length-map v.held.joined (λ (j : Joined). j.number)) within,
    get_or-map (λ (j : Joined). j.number) v.held.joined place j k within ∙ (ap (λ (j : Joined). j.number) at ∙ same),
  )

  alone : (s : ℕ) (u : CtxView) → get_elem? views s ≡ some u → u.live ≡ true → s ≡ id
  alone s u at alive =
      IsTree-alone (map branch_of views) id (branch_of v) is.tree (at_map branch_of views id v there) lives whole.first
      (λ k in_made. inr (joined_number k (whole.joined_all k in_made)))
      s (branch_of u) (at_map branch_of views s u at) alive

  -- the other seats have been joined away
  gone : (s : ℕ) (u : CtxView) → get_elem? views s ≡ some u → s ≢ id → u.held ≡ born 0 []
  gone s u at other =
      ⊎_elim
      (λ (alive : u.live ≡ true). absurd (other (alone s u at alive)))
      (λ (dead : u.live ≡ false). (is.fits s u at).spent dead)
      (cases_Bool u.live)

  -- each slot that has a key was entered by this pass
  pub has_entered : (i : ℕ) → i < n → 0 < r i → HasNode v.held (path i) record { number = i }
  has_entered i within holds =
      let was = is.was i within holds in
      let entry : Entry = record { path = path i; answer = Ok record { number = i } } in
      ⊎_elim
      (λ (alive : was.view.live ≡ true).
      let same = same_at views id was.view v (subst (λ (s : ℕ). get_elem? views s ≡ some was.view) (alone was.seat was.view was.there alive) was.there) there in
      subst (λ (u : CtxView). Contains (all_entered u.held) entry) same was.entry)
      (λ (dead : was.view.live ≡ false).
      let none = (is.fits was.seat was.view was.there).spent dead in
      let nowhere : Contains [] entry = subst (λ (h : Held). Contains (all_entered h) entry) none was.entry in
      absurd (omega (arith, nowhere.1)))
      (cases_Bool was.view.live)

  pub whole_total : (p : Path) → total p views ≡ times p (all_counted v.held)
  whole_total p = sum_by_alone (λ (u : CtxView). times p (all_counted u.held)) views id v there (λ s u at other. ap (λ (h : Held). times p (all_counted h)) (gone s u at other))

  whole_firsts : (p : Path) → total_firsts p views ≡ firsts p (all_counted v.held)
  whole_firsts p = sum_by_alone (λ (u : CtxView). firsts p (all_counted u.held)) views id v there (λ s u at other. ap (λ (h : Held). firsts p (all_counted h)) (gone s u at other))

  whole_counts : total_counts views ≡ length (all_counted v.held)
  whole_counts = sum_by_alone (λ (u : CtxView). length (all_counted u.held)) views id v there (λ s u at other. ap (λ (h : Held). length (all_counted h)) (gone s u at other))

  pub node_path : (p : Path) (node : Node) → HasNode v.held p node → HasPath n r path node.number p
  node_path p node has = (is.fits id v there).entered record { path = p; answer = Ok node } has

  is_full : (p : Path) → IsRefused v.held p → IsFull n r path p
  is_full p refused = (is.fits id v there).entered record { path = p; answer = Err refused.0 } refused.1

  -- the paths of the slots below k
  row : ℕ → List Path
  row zero = []
  row (suc k) = path k ∷ row k

  row_has : (k : ℕ) (p : Path) → Contains (row k) p → (i : ℕ) × (i < k) × (path i ≡ p)
  unfolding row
  row_has zero p in_row = absurd (omega (arith, in_row.1))
  row_has (suc k) p (zero, within, at) = (k, omega arith, at)
  row_has (suc k) p (suc j, within, at) = let old = row_has k p (j, omega arith, at) in (old.0, omega (arith, old.1), old.2)

  row_length : (k : ℕ) → length (row k) ≡ k
  unfolding row
  row_length zero = refl
  row_length (suc k) = ap suc (row_length k)

  row_apart : (full : (i : ℕ) → i < n → 0 < r i) (k : ℕ) → k ≤ n → Apart (row k)
  unfolding row
  row_apart full zero few = tt
  row_apart full (suc k) few = (
    (λ in_row.
        let other = row_has k (path k) in_row in
        let below : other.0 < k = other.1 in
        let inside : other.0 < n = omega arith in
        let inside' : k < n = omega arith in
        let same = one_slot n r path most is.slots other.0 k (path other.0) (path k) (inside, full other.0 inside, refl) (inside', full k inside', refl) other.2 in
        omega arith),
    row_apart full k (omega arith),
  )

  too_many : (p : Path) → IsRefused v.held p → TooMany n v.held
  unfolding row
  too_many p refused =
      let full = is_full p refused in record {
        paths = p ∷ row n;
        apart = ((λ in_row. let other = row_has n p in_row in (full other.0 other.1).1 other.2), row_apart (λ i within. (full i within).0) n (omega arith));
        entered = entered;
        more = omega (arith, row_length n);
      }
    where
      entered : (q : Path) → Contains (p ∷ row n) q → (e : Entry) × Contains (all_entered v.held) e × (e.path ≡ q)
      entered q (zero, within, at) = (record { path = p; answer = Err refused.0 }, refused.1, at)
      entered q (suc j, within, at) =
          let other = row_has n q (j, omega arith, at) in
          let holds = (is_full p refused other.0 other.1).0 in
          (record { path = path other.0; answer = Ok record { number = other.0 } }, has_entered other.0 other.1 holds, other.2)

  sound : IsSound n v.held
  sound = record {
    one_first = λ few p some.
        let fewer : total_counts views < 2 ^ 64 = omega (arith, whole_counts) in
        let first = is.first fewer p in
        omega (arith, whole_total p, whole_firsts p);
    counted = λ c in_counts.
        let has = (is.fits id v there).counted c in_counts in
        let node : Node = record { number = has.0 } in
        (node, subst (λ (p : Path). HasNode v.held p node) has.1.2 (has_entered has.0 has.1.0 has.1.1));
    known = λ k in_known.
        let has = (is.fits id v there).known k in_known in
        subst (λ (p : Path). HasNode v.held p k.node) has.2 (has_entered k.node.number has.0 has.1);
    within = λ p node has. (node_path p node has).0;
    same_node = λ p a b has has'. node_is a b (one_slot n r path most is.slots a.number b.number p p (node_path p a has) (node_path p b has') refl);
    same_path = λ p q node has has'. sym (node_path p node has).2 ∙ (node_path q node has').2;
    apart = λ p node has refused. let at = node_path p node has in (is_full p refused node.number at.0).1 at.2;
    full = too_many;
    filled = λ before after p full same i within.
        ⊎_elim
        (λ (given : Gives (before ++ others_of v.held) i). given)
        (λ (elsewhere : IsGivenElsewhere views id i).
        let none = gone elsewhere.seat elsewhere.view elsewhere.there elsewhere.other in
        let nowhere : Gives [] i = subst (λ (h : Held). Gives (all_entered h) i) none elsewhere.gives in
        absurd (omega (arith, nowhere.1.1)))
        (is.filled id v there before after p full same i within);
  }

-- what a seat knows at any time
pub tells : (n : ℕ) → n ≤ 65536 → (r : ℕ → ℕ) (path : ℕ → Path) (views : List CtxView) → IsSet n r path views
    → (id : ℕ) (v : CtxView) → get_elem? views id ≡ some v → v.live ≡ true → Tells v
tells n most r path views is id v there lives =
    let fits = is.fits id v there in record {
      sound = λ whole. subst (λ (slots : ℕ). IsSound slots v.held) (sym (fits.slots lives)) (sound n most r path views is id v there lives whole);
      known = λ a b in_a in_b same. sym (fits.known a in_a).2 ∙ (ap path same ∙ (fits.known b in_b).2);
    }
