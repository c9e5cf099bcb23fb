-- The queue of the search: what a function that is reached adds to it, and what it says when all of it is done.
use Rattle.std.proofs.Common.{◌≡◌, ℕ, suc, ◌+◌, ◌<◌, ◌≤◌, ◌⊎◌, inl, inr, Bool, true, false, cond, List, [], ◌∷◌, ◌++◌, length, get_or, set, eqb, count_by, arith, refl, sym, ◌∙◌, ap, eqb-true, eq-eqb, ne_eqb, length-set, length-append, get_or-set_same, get_or-set_other}
use Rattle.std.proofs.lemmas.Bool.{cases_eq, eqb-false}
use Rattle.std.proofs.lemmas.List.{get_or_append_left, get_or_push}
use Rattle.std.proofs.lemmas.List.Sums.{sum_by-set}
use Rattle.chains.specs.declared.marks.Mark.{Mark}
use Rattle.chains.specs.declared.marks.Mark.TheVariants.{StepsTo}
use Rattle.chains.specs.Chain.{Leads}
use Rattle.chains.specs.Measures.{Measures, distance_in}
use Rattle.chains.specs.Queue.{distances_with, queue_with, IsQueue, IsDoneTo}

-- the distance of f, and the function at place p of the queue
abbrev pub dist : List ℕ → ℕ → ℕ
dist d f = get_or d f 0

-- f had no distance: it gets m, and the last place of the queue
pub record IsFresh (d q new_d new_q : List ℕ) (f m : ℕ) : Type 0 where
  pub had_none : dist d f ≡ 0
  pub distances : new_d ≡ set d f m
  pub queue : new_q ≡ q ++ f ∷ []

-- f had a distance: nothing changes
pub record IsKnown (d q new_d new_q : List ℕ) (f : ℕ) : Type 0 where
  pub had_one : 0 < dist d f
  pub distances : new_d ≡ d
  pub queue : new_q ≡ q

-- to reach f is one of the two
pub reached : (d q new_d new_q : List ℕ) (f m : ℕ) → new_d ≡ distances_with d f m → new_q ≡ queue_with d q f → IsFresh d q new_d new_q f m ⊎ IsKnown d q new_d new_q f
reached d q new_d new_q f m distances queue = go (eqb (dist d f) 0) refl distances queue where
  go : (test : Bool) → eqb (dist d f) 0 ≡ test → new_d ≡ cond test (set d f m) d → new_q ≡ cond test (q ++ f ∷ []) q → IsFresh d q new_d new_q f m ⊎ IsKnown d q new_d new_q f
  go true e distances queue = inl record { had_none = eqb-true _ _ e; distances = distances; queue = queue }
  go false e distances queue =
      let some : dist d f ≡ 0 → ⊥ = eqb-false (dist d f) 0 e in
      inr record { had_one = omega (arith, some); distances = distances; queue = queue }

module _ (look : ℕ → ℕ → Mark) (n : ℕ) (d q new_d new_q : List ℕ) (f m : ℕ) (fresh : IsFresh d q new_d new_q f m) where
  -- what a fresh function leaves as it was, and what is new

  pub distance_other : (g : ℕ) → (g ≡ f → ⊥) → dist new_d g ≡ dist d g
  distance_other g apart = rw fresh.distances (get_or-set_other d f g m 0 apart)

  pub distance_kept : (g : ℕ) → 0 < dist d g → dist new_d g ≡ dist d g
  distance_kept g some = distance_other g (λ same. (let none = fresh.had_none in omega (arith, ap (dist d) same)))

  pub distance_new : f < length d → dist new_d f ≡ m
  distance_new inside = rw fresh.distances (get_or-set_same d f m 0 inside)

  pub place_kept : (p : ℕ) → p < length q → dist new_q p ≡ dist q p
  place_kept p below = rw fresh.queue (get_or_append_left q (f ∷ []) 0 p below)

  pub place_new : dist new_q (length q) ≡ f
  place_new = rw fresh.queue (get_or_push q f 0 (length q) refl)

  pub longer : length new_q ≡ length q + 1
  longer = rw fresh.queue (length-append q (f ∷ []))

  counted : f < length d → 0 < m → count_by (λ x. eqb x 0) new_d + 1 ≡ count_by (λ x. eqb x 0) d
  counted inside some =
      let all = sum_by-set (λ x. cond (eqb x 0) 1 0) d f m 0 inside in
      let was : eqb (dist d f) 0 ≡ true = eq-eqb (dist d f) 0 fresh.had_none in
      let is : eqb m 0 ≡ false = ne_eqb m 0 (λ none. omega arith) in
      rw fresh.distances (let plain = rw (was, is) at all in omega (arith, plain))

  module _ (queue : IsQueue look n d q) (inside : f < length d) (some : 0 < m) where
    -- the distance of what stands in the queue

    queued_kept : (p : ℕ) → p < length q → dist new_d (dist new_q p) ≡ dist d (dist q p)
    queued_kept p below = rw (place_kept p below) (distance_kept (dist q p) (queue.marked p below))

    queued_new : dist new_d (dist new_q (length q)) ≡ m
    queued_new = rw place_new (distance_new inside)

    -- a property of each place of the queue, from those that were there and the new one
    each_queued : (P : ℕ → ℕ → Type 0) → ((p : ℕ) → p < length q → P p (dist d (dist q p))) → P (length q) m → (p : ℕ) → p < length new_q → P p (dist new_d (dist new_q p))
    each_queued P old new p below = go (cases_eq p (length q)) where
      go : (p ≡ length q) ⊎ (p ≡ length q → ⊥) → P p (dist new_d (dist new_q p))
      go (inl same) = rw (same, queued_new) new
      go (inr apart) =
          let before : p < length q = omega (arith, longer) in rw (queued_kept p before) (old p before)

    -- the queue with a fresh function, where the distance is that of a chain
    pub IsQueue-fresh : m ≤ length q + 1 → (places : List ℕ) → Leads look f places → length places ≡ m → IsQueue look n new_d new_q
    IsQueue-fresh low places leads size = record {
      size = rw fresh.distances (length-set _ _ _ ∙ queue.size);
      count = omega (arith, counted inside some, longer, queue.count);
      real = λ g far. real g far (cases_eq g f);
      queued = λ g far. queued g far (cases_eq g f);
      marked = each_queued (λ p far. 0 < far) queue.marked some;
      small = each_queued (λ p far. far ≤ p + 1) queue.small low;
    } where
      real : (g : ℕ) → 0 < dist new_d g → (g ≡ f) ⊎ (g ≡ f → ⊥) → (places : List ℕ) × Leads look g places × (length places ≡ dist new_d g)
      real g far (inl same) = rw (same, distance_new inside) (places, leads, size)
      real g far (inr apart) = rw (distance_other g apart) (queue.real g (rw (distance_other g apart) at far))

      queued : (g : ℕ) → 0 < dist new_d g → (g ≡ f) ⊎ (g ≡ f → ⊥) → (p : ℕ) × (p < length new_q) × (dist new_q p ≡ g)
      queued g far (inl same) = (length q, omega (arith, longer), place_new ∙ sym same)
      queued g far (inr apart) =
          let was = queue.queued g (rw (distance_other g apart) at far) in
          let below : was.0 < length q = was.1 in (was.0, omega (arith, longer), place_kept was.0 below ∙ was.2)

    -- the work that is done stays done, where the fresh function is one further than the head
    pub IsDoneTo-fresh : (head : ℕ) → IsDoneTo look d q head → head < length q → m ≡ dist d (dist q head) + 1 → IsDoneTo look new_d new_q head
    IsDoneTo-fresh head work there far = record {
      base = λ g i violates. (let was = work.base g i violates in distance_kept g (omega arith) ∙ was);
      order = λ p r low below. each_queued (λ r far. p ≤ r → dist new_d (dist new_q p) ≤ far) (λ r inner up. old_order p r inner up) (λ up. new_order p up) r below low;
      near = λ p r low inner below. each_queued (λ p far. head ≤ p → dist new_d (dist new_q r) ≤ far + 1) (λ p inner up. above p r inner up below) (λ up. above_new r below) p inner low;
      done = λ p g i low step. done p g i low step;
    } where
      old_order : (p r : ℕ) → r < length q → p ≤ r → dist new_d (dist new_q p) ≤ dist d (dist q r)
      old_order p r inner up = let below : p < length q = omega arith in rw (queued_kept p below) (work.order p r up inner)

      new_order : (p : ℕ) → p ≤ length q → dist new_d (dist new_q p) ≤ m
      new_order p up = each_queued (λ p far. far ≤ m) (λ p below. (let within = work.near head p (omega arith) there below in omega arith)) (omega arith) p (omega (arith, longer))

      above : (p r : ℕ) → p < length q → head ≤ p → r < length new_q → dist new_d (dist new_q r) ≤ dist d (dist q p) + 1
      above p r inner up below = each_queued (λ r far. far ≤ dist d (dist q p) + 1) (λ r lower. work.near p r up inner lower) (let risen = work.order head p up inner in omega arith) r below

      above_new : (r : ℕ) → r < length new_q → dist new_d (dist new_q r) ≤ m + 1
      above_new r below = each_queued (λ r far. far ≤ m + 1) (λ r lower. (let within = work.near head r (omega arith) there lower in omega arith)) (omega arith) r below

      done : (p g i : ℕ) → p < head → look g i ≡ StepsTo (dist new_q p) → (0 < dist new_d g) × (dist new_d g ≤ dist new_d (dist new_q p) + 1)
      done p g i low step =
          let below : p < length q = omega arith in
          let was = work.done p g i low (rw (place_kept p below) at step) in
          rw (queued_kept p below, distance_kept g was.0) was

-- with all of the queue done, the distances are exact
pub Measures-done : (look : ℕ → ℕ → Mark) (n : ℕ) (d q : List ℕ) (head : ℕ) → IsQueue look n d q → IsDoneTo look d q head → length q ≤ head → Measures look (distance_in d)
Measures-done look n d q head queue work all = record { found = queue.real; least = least } where
  through : (f i g : ℕ) (size : ℕ) → look f i ≡ StepsTo g → (0 < dist d g) × (dist d g ≤ size) → (0 < dist d f) × (dist d f ≤ suc size)
  through f i g size step behind =
      let at = queue.queued g behind.0 in
      let one = work.done at.0 f i (omega (arith, at.1)) (rw at.2 step) in
      let bound = rw at.2 at one.1 in (one.0, omega (arith, behind.1, bound))

  least : (f : ℕ) (places : List ℕ) → Leads look f places → (0 < dist d f) × (dist d f ≤ length places)
  least f [] leads = absurd leads
  least f (i ∷ []) leads = let one = work.base f i leads in (omega arith, omega arith)
  least f (i ∷ j ∷ places) (g, step, rest) = through f i g (length (j ∷ places)) step (least g (j ∷ places) rest)

-- with the callers of the head done, one function more is done
pub IsDoneTo-more : (look : ℕ → ℕ → Mark) (d q : List ℕ) (head : ℕ) → IsDoneTo look d q head → ((f i : ℕ) → look f i ≡ StepsTo (dist q head) → (0 < dist d f) × (dist d f ≤ dist d (dist q head) + 1)) → IsDoneTo look d q (head + 1)
IsDoneTo-more look d q head work callers = record {
  base = work.base;
  order = work.order;
  near = λ p r low. work.near p r (omega arith);
  done = λ p f i low step. done p f i low step (cases_eq p head);
} where
  done : (p f i : ℕ) → p < head + 1 → look f i ≡ StepsTo (dist q p) → (p ≡ head) ⊎ (p ≡ head → ⊥) → (0 < dist d f) × (dist d f ≤ dist d (dist q p) + 1)
  done p f i low step (inl same) = rw same (callers f i (rw same at step))
  done p f i low step (inr apart) = work.done p f i (omega arith) step
