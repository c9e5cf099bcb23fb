-- The loops of the search: what they keep from turn to turn.
use Rattle.std.proofs.Common.{◌≡◌, ℕ, ◌+◌, ◌<◌, ◌≤◌, ◌⊎◌, inl, inr, cond, List, [], ◌∷◌, length, replicate, get_or, eqb, count_by, Contains, arith, refl, sym, ◌∙◌, ap, subst}
use Rattle.std.proofs.lemmas.Bool.{cases_eq, cases_lt}
use Rattle.std.proofs.lemmas.List.{get_or_past, get_or_default, get_or-replicate, length-replicate}
use Rattle.std.proofs.lemmas.List.Folds.{sum_by-replicate}
use Rattle.chains.specs.declared.marks.Mark.{Mark}
use Rattle.chains.specs.declared.marks.Mark.TheVariants.{Passes, Violates, StepsTo}
use Rattle.chains.specs.Look.{look}
use Rattle.chains.specs.Chain.{Leads}
use Rattle.chains.specs.Queue.{distances_with, queue_with, IsQueue, IsDoneTo, IsSeeded, Reverses, listed_of}
use Rattle.chains.proofs.FirstStep.{Leads-step}
use Rattle.chains.proofs.Reach.{dist, IsFresh, IsKnown, reached, distance_other, distance_kept, distance_new, longer, place_kept, IsQueue-fresh, IsDoneTo-fresh, IsDoneTo-more}

-- a function with a distance stands in the list of distances
pub dist_inside : (d : List ℕ) (f : ℕ) → 0 < dist d f → f < length d
dist_inside d f some = go (cases_lt f (length d)) where
  go : (f < length d) ⊎ (length d ≤ f) → f < length d
  go (inl below) = below
  go (inr past) = absurd (omega (arith, get_or_past d f 0 past))

-- what a place that does not pass has around it
place_inside : (row : List Mark) (i : ℕ) → (get_or row i Passes ≡ Passes → ⊥) → i < length row
place_inside row i other = go (cases_lt i (length row)) where
  go : (i < length row) ⊎ (length row ≤ i) → i < length row
  go (inl below) = below
  go (inr past) = absurd (other (get_or_past row i Passes past))

pub row_inside : (rows : List (List Mark)) (f i : ℕ) → (look rows f i ≡ Passes → ⊥) → f < length rows
row_inside rows f i other = go (cases_lt f (length rows)) where
  go : (f < length rows) ⊎ (length rows ≤ f) → f < length rows
  go (inl below) = below
  go (inr past) = absurd (other (rw (get_or_past rows f [] past) refl))

pub caller_inside : (rows : List (List Mark)) (f i g : ℕ) → look rows f i ≡ StepsTo g → f < length rows
caller_inside rows f i g step = row_inside rows f i (λ passes. cc)

pub violating_inside : (rows : List (List Mark)) (f i : ℕ) → look rows f i ≡ Violates → f < length rows
violating_inside rows f i violates = row_inside rows f i (λ passes. cc)

-- a row contains a violation exactly where a place of it is one

pub place_of_violation : (rows : List (List Mark)) (f : ℕ) (row : List Mark) → f < length rows → row ≡ get_or rows f row → Contains row Violates → (i : ℕ) × (look rows f i ≡ Violates)
place_of_violation rows f row inside read (k, below, at) =
    let is = read ∙ get_or_default rows f row [] inside in
    (k, rw (← is) (get_or_default row k Passes Violates below ∙ at))

pub no_violation : (rows : List (List Mark)) (f : ℕ) (row : List Mark) → f < length rows → row ≡ get_or rows f row → (Contains row Violates → ⊥) → (i : ℕ) → look rows f i ≡ Violates → ⊥
no_violation rows f row inside read none i violates =
    let is = read ∙ get_or_default rows f row [] inside in
    let here : get_or row i Passes ≡ Violates = rw is violates in
    let below = place_inside row i (λ passes. cc) in
    none (i, below, get_or_default row i Violates Passes below ∙ here)

-- the first rows, as many as count, have been asked for violations
pub record IsSeeding (rows : List (List Mark)) (count : ℕ) (d q : List ℕ) : Type 0 where
  pub queue : IsQueue (look rows) (length rows) d q
  pub one : (f : ℕ) → dist d f ≤ 1
  pub seeded : (f i : ℕ) → f < count → look rows f i ≡ Violates → dist d f ≡ 1

blank_distance : (n f : ℕ) → get_or (replicate {A = ℕ} n 0) f 0 ≡ 0
blank_distance n f = go (cases_lt f n) where
  go : (f < n) ⊎ (n ≤ f) → get_or (replicate {A = ℕ} n 0) f 0 ≡ 0
  go (inl below) = get_or-replicate n f 0 0 below
  go (inr past) = get_or_past (replicate {A = ℕ} n 0) f 0 (omega (arith, length-replicate {A = ℕ} n 0))

pub IsSeeding-none : (rows : List (List Mark)) (d q : List ℕ) → d ≡ replicate (length rows) 0 → q ≡ [] → IsSeeding rows 0 d q
IsSeeding-none rows d q blank empty = record {
  queue = record {
    size = rw blank (length-replicate _ _);
    count = count;
    real = λ f far. absurd (omega (arith, none f));
    queued = λ f far. absurd (omega (arith, none f));
    marked = λ p low. absurd (omega (arith, ap length empty));
    small = λ p low. absurd (omega (arith, ap length empty));
  };
  one = λ f. omega (arith, none f);
  seeded = λ f i low. absurd (omega arith);
} where
  none : (f : ℕ) → dist d f ≡ 0
  none f = rw blank (blank_distance (length rows) f)

  count : count_by (λ m. eqb m 0) d + length q ≡ length rows
  count = rw (blank, empty) (let all = sum_by-replicate (λ m. cond (eqb m 0) 1 0) (length rows) 0 in omega (arith, all))

pub IsSeeding-other : (rows : List (List Mark)) (f : ℕ) (d q : List ℕ) → IsSeeding rows f d q → ((i : ℕ) → look rows f i ≡ Violates → ⊥) → IsSeeding rows (f + 1) d q
IsSeeding-other rows f d q so_far none = record {
  queue = so_far.queue;
  one = so_far.one;
  seeded = λ g i low violates. go g i low violates (cases_eq g f);
} where
  go : (g i : ℕ) → g < f + 1 → look rows g i ≡ Violates → (g ≡ f) ⊎ (g ≡ f → ⊥) → dist d g ≡ 1
  go g i low violates (inl same) = absurd (none i (rw same at violates))
  go g i low violates (inr apart) = so_far.seeded g i (omega arith) violates

pub IsSeeding-more : (rows : List (List Mark)) (f i : ℕ) (d q new_d new_q : List ℕ) → IsSeeding rows f d q → look rows f i ≡ Violates → new_d ≡ distances_with d f 1 → new_q ≡ queue_with d q f → IsSeeding rows (f + 1) new_d new_q
IsSeeding-more rows f i d q new_d new_q so_far violates distances queue =
    go (reached d q new_d new_q f 1 distances queue) where
      inside : f < length d
      inside = rw so_far.queue.size (violating_inside rows f i violates)

      go : IsFresh d q new_d new_q f 1 ⊎ IsKnown d q new_d new_q f → IsSeeding rows (f + 1) new_d new_q
      go (inr known) = rw (known.distances, known.queue) record {
        queue = so_far.queue;
        one = so_far.one;
        seeded = λ g k low at. known_seed g k low at (cases_eq g f);
      } where
        known_seed : (g k : ℕ) → g < f + 1 → look rows g k ≡ Violates → (g ≡ f) ⊎ (g ≡ f → ⊥) → dist d g ≡ 1
        known_seed g k low at (inl same) =
            let had = known.had_one in let most = so_far.one f in rw same (omega arith)
        known_seed g k low at (inr apart) = so_far.seeded g k (omega arith) at
      go (inl fresh) = record {
        queue = IsQueue-fresh (look rows) (length rows) d q new_d new_q f 1 fresh so_far.queue inside (omega arith) (omega arith) (i ∷ []) violates refl;
        one = λ g. fresh_one g (cases_eq g f);
        seeded = λ g k low at. fresh_seed g k low at (cases_eq g f);
      } where
        new : dist new_d f ≡ 1
        new = distance_new (look rows) (length rows) d q new_d new_q f 1 fresh inside

        fresh_one : (g : ℕ) → (g ≡ f) ⊎ (g ≡ f → ⊥) → dist new_d g ≤ 1
        fresh_one g (inl same) = rw same (omega (arith, new))
        fresh_one g (inr apart) = rw (distance_other (look rows) (length rows) d q new_d new_q f 1 fresh g apart) (so_far.one g)

        fresh_seed : (g k : ℕ) → g < f + 1 → look rows g k ≡ Violates → (g ≡ f) ⊎ (g ≡ f → ⊥) → dist new_d g ≡ 1
        fresh_seed g k low at (inl same) = rw same new
        fresh_seed g k low at (inr apart) = rw (distance_other (look rows) (length rows) d q new_d new_q f 1 fresh g apart) (so_far.seeded g k (omega arith) at)

pub IsSeeded-all : (rows : List (List Mark)) (count : ℕ) (d q : List ℕ) → IsSeeding rows count d q → length rows ≤ count → IsSeeded rows d q
IsSeeded-all rows count d q all enough = record {
  queue_is = all.queue;
  done_to = record {
    base = λ f i violates. all.seeded f i (let below = violating_inside rows f i violates in omega arith) violates;
    order = λ p r low below. (let from = all.queue.marked r below in let to = all.one (dist q p) in omega arith);
    near = λ p r low inner below. (let from = all.one (dist q r) in omega arith);
    done = λ p f i low. absurd (omega arith);
  };
}

-- The callers of the head have been reached as far as index.
pub record IsTurn (look : ℕ → ℕ → Mark) (n : ℕ) (d q : List ℕ) (head callee far : ℕ) (callers : List ℕ) (index : ℕ) : Type 0 where
  pub queue : IsQueue look n d q
  pub work : IsDoneTo look d q head
  pub inside : head < length q
  pub head_is : dist q head ≡ callee
  pub far_is : far ≡ dist d callee + 1
  pub callers_done : (k : ℕ) → k < index → (0 < dist d (get_or callers k 0)) × (dist d (get_or callers k 0) ≤ far)

pub IsTurn-none : (look : ℕ → ℕ → Mark) (n : ℕ) (d q : List ℕ) (head callee far : ℕ) (callers : List ℕ) → IsQueue look n d q → IsDoneTo look d q head → head < length q → dist q head ≡ callee → far ≡ dist d callee + 1 → IsTurn look n d q head callee far callers 0
IsTurn-none look n d q head callee far callers queue work inside head_is far_is = record {
  queue = queue;
  work = work;
  inside = inside;
  head_is = head_is;
  far_is = far_is;
  callers_done = λ k low. absurd (omega arith);
}

pub IsTurn-more : (look : ℕ → ℕ → Mark) (n : ℕ) (d q new_d new_q : List ℕ) (head callee far : ℕ) (callers : List ℕ) (index f i : ℕ) → IsTurn look n d q head callee far callers index → f ≡ get_or callers index 0 → look f i ≡ StepsTo callee → f < n → new_d ≡ distances_with d f far → new_q ≡ queue_with d q f → IsTurn look n new_d new_q head callee far callers (index + 1)
IsTurn-more look n d q new_d new_q head callee far callers index f i turn caller step below distances queue =
    go (reached d q new_d new_q f far distances queue) where
      go : IsFresh d q new_d new_q f far ⊎ IsKnown d q new_d new_q f → IsTurn look n new_d new_q head callee far callers (index + 1)
      go (inr known) = rw (known.distances, known.queue) record {
        queue = turn.queue;
        work = turn.work;
        inside = turn.inside;
        head_is = turn.head_is;
        far_is = turn.far_is;
        callers_done = λ k low. known_done k low (cases_eq k index);
      } where
        in_queue : (p : ℕ) × (p < length q) × (dist q p ≡ f)
        in_queue = turn.queue.queued f known.had_one

        low_enough : dist d f ≤ far
        low_enough = go_low (cases_lt in_queue.0 head) where
          go_low : (in_queue.0 < head) ⊎ (head ≤ in_queue.0) → dist d f ≤ far
          go_low (inl before) =
              let up = rw (in_queue.2, turn.head_is) at (turn.work.order in_queue.0 head (omega arith) turn.inside) in
              let far_is = turn.far_is in omega arith
          go_low (inr behind) =
              let near = rw (in_queue.2, turn.head_is) at (turn.work.near head in_queue.0 (omega arith) turn.inside in_queue.1) in
              let far_is = turn.far_is in omega arith

        known_done : (k : ℕ) → k < index + 1 → (k ≡ index) ⊎ (k ≡ index → ⊥) → (0 < dist d (get_or callers k 0)) × (dist d (get_or callers k 0) ≤ far)
        known_done k low (inl same) = rw (same, ← caller) (known.had_one, low_enough)
        known_done k low (inr apart) = turn.callers_done k (omega arith)
      go (inl fresh) = record {
        queue = IsQueue-fresh look n d q new_d new_q f far fresh turn.queue inside some low (i ∷ behind.0) (Leads-step look f i callee behind.0 step behind.1) size;
        work = IsDoneTo-fresh look n d q new_d new_q f far fresh turn.queue inside some head turn.work turn.inside (rw turn.head_is turn.far_is);
        inside = (let more = longer look n d q new_d new_q f far fresh in let was = turn.inside in omega arith);
        head_is = place_kept look n d q new_d new_q f far fresh head turn.inside ∙ turn.head_is;
        far_is = rw (distance_kept look n d q new_d new_q f far fresh callee marked) turn.far_is;
        callers_done = λ k under. fresh_done k under (cases_eq k index);
      } where
        marked : 0 < dist d callee
        marked = rw turn.head_is at (turn.queue.marked head turn.inside)

        inside : f < length d
        inside = rw turn.queue.size below

        some : 0 < far
        some = let far_is = turn.far_is in omega arith

        low : far ≤ length q + 1
        low = let small = rw turn.head_is at (turn.queue.small head turn.inside) in let far_is = turn.far_is in let was = turn.inside in omega arith

        behind : (places : List ℕ) × Leads look callee places × (length places ≡ dist d callee)
        behind = turn.queue.real callee marked

        size : length (i ∷ behind.0) ≡ far
        size = let far_is = turn.far_is in omega (arith, behind.2)

        new : dist new_d f ≡ far
        new = distance_new look n d q new_d new_q f far fresh inside

        fresh_done : (k : ℕ) → k < index + 1 → (k ≡ index) ⊎ (k ≡ index → ⊥) → (0 < dist new_d (get_or callers k 0)) × (dist new_d (get_or callers k 0) ≤ far)
        fresh_done k under (inl same) = rw (same, ← caller, new) (some, omega arith)
        fresh_done k under (inr apart) =
            let was = turn.callers_done k (omega arith) in
            rw (distance_kept look n d q new_d new_q f far fresh (get_or callers k 0) was.0) was

pub IsDoneTo-turn : (look : ℕ → ℕ → Mark) (n : ℕ) (d q : List ℕ) (head callee far : ℕ) (callers : List ℕ) (index : ℕ) → IsTurn look n d q head callee far callers index → length callers ≤ index → ((f i : ℕ) → look f i ≡ StepsTo callee → Contains callers f) → IsDoneTo look d q (head + 1)
IsDoneTo-turn look n d q head callee far callers index turn all complete =
    IsDoneTo-more look d q head turn.work (λ f i step. at f (complete f i (rw turn.head_is at step))) where
      at : (f : ℕ) → Contains callers f → (0 < dist d f) × (dist d f ≤ dist d (dist q head) + 1)
      at f (k, below, is) =
          let same : get_or callers k 0 ≡ f = get_or_default callers k 0 f below ∙ is in
          let done = rw same at (turn.callers_done k (omega arith)) in
          let far_is = turn.far_is in rw turn.head_is (done.0, omega (arith, done.1))

-- what the head of the queue is

pub head_place : (q : List ℕ) (head callee : ℕ) → head < length q → callee ≡ get_or q head callee → dist q head ≡ callee
head_place q head callee inside read = get_or_default q head 0 callee inside ∙ sym read

pub head_marked : (look : ℕ → ℕ → Mark) (n : ℕ) (d q : List ℕ) (head callee : ℕ) → IsQueue look n d q → head < length q → callee ≡ get_or q head callee → 0 < dist d callee
head_marked look n d q head callee queue inside read =
    rw (head_place q head callee inside read) at (queue.marked head inside)

pub head_known : (look : ℕ → ℕ → Mark) (n : ℕ) (d q : List ℕ) (head callee : ℕ) → IsQueue look n d q → head < length q → callee ≡ get_or q head callee → callee < length d
head_known look n d q head callee queue inside read =
    dist_inside d callee (head_marked look n d q head callee queue inside read)

pub head_listed : (look : ℕ → ℕ → Mark) (n : ℕ) (d q : List ℕ) (callers : List (List ℕ)) (head callee : ℕ) → IsQueue look n d q → head < length q → callee ≡ get_or q head callee → length callers ≡ n → callee < length callers
head_listed look n d q callers head callee queue inside read sized =
    let known = head_known look n d q head callee queue inside read in
    let size = queue.size in omega arith

pub head_distance : (look : ℕ → ℕ → Mark) (n : ℕ) (d q : List ℕ) (head callee far : ℕ) → IsQueue look n d q → head < length q → callee ≡ get_or q head callee → far ≡ get_or d callee far → far ≡ dist d callee
head_distance look n d q head callee far queue inside read far_read =
    far_read ∙ get_or_default d callee far 0 (head_known look n d q head callee queue inside read)

pub head_low : (look : ℕ → ℕ → Mark) (n : ℕ) (d q : List ℕ) (head callee far : ℕ) → IsQueue look n d q → head < length q → callee ≡ get_or q head callee → far ≡ get_or d callee far → far ≤ n
head_low look n d q head callee far queue inside read far_read =
    let low = rw (head_place q head callee inside read) at (queue.small head inside) in
    let same = head_distance look n d q head callee far queue inside read far_read in
    let count = queue.count in omega arith

-- what the callers of the head are

list_of_head : (callers : List (List ℕ)) (callee : ℕ) (entry list : List ℕ) → callee < length callers → entry ≡ get_or callers callee entry → list ≡ entry → list ≡ listed_of callers callee
list_of_head callers callee entry list inside read is = is ∙ (read ∙ get_or_default callers callee entry [] inside)

pub callers_complete : (rows : List (List Mark)) (callers : List (List ℕ)) (callee : ℕ) (entry list : List ℕ) → Reverses rows (length rows) callers → callee < length callers → entry ≡ get_or callers callee entry → list ≡ entry → (f i : ℕ) → look rows f i ≡ StepsTo callee → Contains list f
callers_complete rows callers callee entry list all inside read is f i step =
    rw (list_of_head callers callee entry list inside read is) (all.complete f i callee (caller_inside rows f i callee step) step)

pub caller_calls : (rows : List (List Mark)) (callers : List (List ℕ)) (callee : ℕ) (entry list : List ℕ) → Reverses rows (length rows) callers → callee < length callers → entry ≡ get_or callers callee entry → list ≡ entry → (k : ℕ) → k < length list → (i : ℕ) × (look rows (get_or list k 0) i ≡ StepsTo callee)
caller_calls rows callers callee entry list all inside read is k below =
    let there : Contains list (get_or list k 0) = (k, below, get_or_default list k (get_or list k 0) 0 below) in
    let P : List ℕ → Type 0 = λ xs. Contains xs (get_or list k 0) in
    all.calls callee (get_or list k 0) (subst P (list_of_head callers callee entry list inside read is) there)
