-- Each kind of step of a locked board keeps its rule.
use Rattle.std.proofs.Common.{◌≡◌, ◌≢◌, ◌<◌, ◌⊎◌, ◌+◌, ℕ, zero, suc, eqb, Bool, true, false, true≢false, Option, Some, List, [], ◌∷◌, ◌++◌, set, length, map, Contains, slice_index, slice_set, MatchBool, refl, sym, ap, ◌∙◌, subst, inl, inr, ⊎_elim, eq-eqb, ne_eqb, length-set, get_or-set_same, length-append, arith}
use Rattle.std.specs.List.{sum_by}
use Rattle.std.proofs.lemmas.Bool.{cases_eq, cases_Bool}
use Rattle.std.proofs.lemmas.List.{map-append, map-set, set-get_or, length-map, get_or-map}
use Rattle.std.proofs.lemmas.List.Sums.{sum_by-cons, sum_by_push}
use mathlib.Core.Option.{some, some-injective, some-ne-none}
use lib.ListN.{get_elem?}
use prog.Atomic.{either}
use Rattle.atomic_table.specs.Table.{State, Act, keeps, takes, gives, rest, opening as opened, stepped, Valid, carried_after, Allows, Splits, Joins, Final, Seen}
use Rattle.atomic_table.proofs.Lists.{at_set, at_map, set_here, set_else, set_again}
use Rattle.context_set.specs.Tree.{Branch, IsTree, kid}
use Rattle.context_set.specs.Tree as trees
use Rattle.context_set.proofs.Tree.{kid_above, tree_first, IsTree-split, IsTree-join, IsTree-alone}
use Rattle.context_set.proofs.Seats.{at_end, at_within, seats_set, seats_longer}
use Rattle.context_set.proofs.Lists.{sum_by-change, sum_by_alone}
use Rattle.reports.specs.Counts.{AreFair}
use Rattle.reports.specs.Passes.{Report, Joined, Held, born, joins, makes, report_of, reported, all_reports, IsWhole}
use Rattle.locked_board.specs.declared.book.LockView.{LockView}
use Rattle.locked_board.specs.Locked.{Slot, Seated, branch_of, total, OutsAre, IsLocked, IsLockKept, first_view, splitter, offspring, taker, spent, Tells, IsLockSeat, holding, last_report, carried, with_report, IsWritten}
use Rattle.locked_board.specs.Places.{WeighAlike}
use Rattle.locked_board.proofs.Weighs.{fair_alike, weigh_reported, weigh_joins}
use Rattle.set_board.proofs.Lists.{nothing, in_map}

-- no report is fair
none_fair : AreFair []
none_fair = record {
  one_first = λ few stack some. absurd (omega arith);
  apart = λ stack there. absurd (nothing (report_of stack _) there);
  full = λ stack there. absurd (nothing (report_of stack _) there);
}

pub lock_opens : IsLockKept (opened (0 ∷ []) (Some [] ∷ []) first_view)
lock_opens = (
  [],
  0,
  record {
    wide = omega arith;
    tree = tree_first (branch_of first_view) refl refl;
    spent = only_spent;
    sums = λ w. omega (arith, sum_by-cons (λ (v : LockView). sum_by w (all_reports v.held)) first_view []);
    fair = none_fair;
    home = λ _. refl;
    outs = only_first;
  },
) where
  only_spent : (id : ℕ) (v : LockView) → get_elem? (first_view ∷ []) id ≡ some v → v.live ≡ false → v.held ≡ born 0
  only_spent zero v at dead = absurd (true≢false (ap (λ (x : LockView). x.live) (some-injective first_view v at) ∙ dead))
  only_spent (suc id) v at dead = absurd (some-ne-none v (sym at))

  only_first : OutsAre (0 ∷ []) (first_view ∷ []) 0 []
  only_first zero v at out = absurd (true≢false (sym out ∙ ap (λ (x : LockView). x.out) (sym (some-injective first_view v at))))
  only_first (suc id) v at out = absurd (some-ne-none v (sym at))

module _ (words : List ℕ) (views : List LockView) (holder : ℕ) (log : List Report) (outs : OutsAre words views holder log) where
  -- a view that says the same of the book
  outs_same : (id : ℕ) (v w : LockView) → get_elem? views id ≡ some v → w.out ≡ v.out → w.log ≡ v.log → OutsAre words (set views id w) holder log
  outs_same id v w there out same i u at is_out =
      ⊎_elim
      (λ (t : (i ≡ id) × (w ≡ u)).
      let old = outs id v there (sym out ∙ (ap (λ (x : LockView). x.out) t.1 ∙ is_out)) in
      (old.0, t.0 ∙ old.1, ap (λ (x : LockView). x.log) (sym t.1) ∙ (same ∙ old.2)))
      (λ (t : (i ≢ id) × (get_elem? views i ≡ some u)). outs i u t.1 is_out)
      (at_set views id i w u at)

  -- a view without the book
  outs_without : (id : ℕ) (w : LockView) → w.out ≡ false → OutsAre words (set views id w) holder log
  outs_without id w without i u at is_out =
      ⊎_elim
      (λ (t : (i ≡ id) × (w ≡ u)). absurd (true≢false (sym is_out ∙ (ap (λ (x : LockView). x.out) (sym t.1) ∙ without))))
      (λ (t : (i ≢ id) × (get_elem? views i ≡ some u)). outs i u t.1 is_out)
      (at_set views id i w u at)

  outs_longer : (w : LockView) → w.out ≡ false → OutsAre words (views ++ w ∷ []) holder log
  outs_longer w without i u at is_out =
      ⊎_elim
      (λ (before : get_elem? views i ≡ some u). outs i u before is_out)
      (λ (t : (i ≡ length views) × (w ≡ u)). absurd (true≢false (sym is_out ∙ (ap (λ (x : LockView). x.out) (sym t.1) ∙ without))))
      (at_end views w u i at)

branches_set : (views : List LockView) (id : ℕ) (w : LockView) → map branch_of (set views id w) ≡ set (map branch_of views) id (branch_of w)
branches_set views id w = map-set branch_of views id w

weight : (Report → ℕ) → LockView → ℕ
weight w v = sum_by w (all_reports v.held)

abbrev IsSpent : ℕ → LockView → Type 0
IsSpent id v = v.live ≡ false → v.held ≡ born 0

module _ (s : State Slot LockView) (log : List Report) (holder : ℕ) (lock : IsLocked s log holder) (id : ℕ) (v : LockView) (there : get_elem? s.views id ≡ some v) where
  tree_same : (w : LockView) → branch_of w ≡ branch_of v → IsTree (map branch_of (set s.views id w))
  tree_same w same =
      let at = at_map branch_of s.views id v there in
      let unchanged : set (map branch_of s.views) id (branch_of w) ≡ map branch_of s.views = ap (λ (b : Branch). set (map branch_of s.views) id b) same ∙ set_again (map branch_of s.views) id (branch_of v) at in
      subst IsTree (sym (branches_set s.views id w ∙ unchanged)) lock.tree

  total_set : (f : Report → ℕ) (w : LockView) → total f (set s.views id w) + sum_by f (all_reports v.held) ≡ total f s.views + sum_by f (all_reports w.held)
  total_set f w = sum_by-change (λ (u : LockView). sum_by f (all_reports u.held)) s.views id v w there

  spent_set : (w : LockView) → IsSpent id w → (i : ℕ) (u : LockView) → get_elem? (set s.views id w) i ≡ some u → u.live ≡ false → u.held ≡ born 0
  spent_set w this = seats_set IsSpent s.views id w (λ i u other at. lock.spent i u at) this

  -- the other seats of a whole pass have been joined away
  module _ (lives : v.live ≡ true) (whole : IsWhole v.held) where
    joined_number : (n : ℕ) → Contains v.held.made n → (n ≡ v.held.number) ⊎ Contains (map (λ (j : Joined). j.number) v.held.joined) n
    joined_number n in_made =
        ⊎_elim inl
        (λ (t : (j : Joined) × Contains v.held.joined j × (n ≡ j.number)).
        inr (subst (λ (k : ℕ). Contains (map (λ (j : Joined). j.number) v.held.joined) k) (sym t.2) (in_map (λ (j : Joined). j.number) v.held.joined t.0 t.1)))
        (whole.joined_all n in_made)

    alone : (i : ℕ) (u : LockView) → get_elem? s.views i ≡ some u → u.live ≡ true → i ≡ id
    alone i u at alive =
        IsTree-alone (map branch_of s.views) id (branch_of v) lock.tree (at_map branch_of s.views id v there) lives whole.first joined_number i (branch_of u) (at_map branch_of s.views i u at) alive

    gone : (i : ℕ) (u : LockView) → get_elem? s.views i ≡ some u → i ≢ id → u.held ≡ born 0
    gone i u at other =
        ⊎_elim
        (λ (alive : u.live ≡ true). absurd (other (alone i u at alive)))
        (λ (dead : u.live ≡ false). lock.spent i u at dead)
        (cases_Bool u.live)

    weigh_alike : WeighAlike (all_reports v.held) log
    weigh_alike w =
        sym (sum_by_alone (λ (u : LockView). sum_by w (all_reports u.held)) s.views id v there (λ i u at other. ap (λ (h : Held). sum_by w (all_reports h)) (gone i u at other)))
        ∙ lock.sums w

  lock_tells : v.live ≡ true → Tells v
  lock_tells lives whole = fair_alike (all_reports v.held) log (weigh_alike lives whole) lock.fair

  -- nothing changes where the word and the view are set to what they were
  unchanged : (word : ℕ) → word ≡ slice_index s.words 0 → IsLockKept record { words = slice_set s.words 0 word; homes = s.homes; views = slice_set s.views id v }
  unchanged word same =
      let words : slice_set s.words 0 word ≡ s.words = ap (λ (n : ℕ). slice_set s.words 0 n) same ∙ set-get_or s.words 0 0 in
      subst (λ (ws : List ℕ). IsLockKept record { words = ws; homes = s.homes; views = slice_set s.views id v }) (sym words)
      (subst (λ (vs : List LockView). IsLockKept record { words = s.words; homes = s.homes; views = vs }) (sym (set_again s.views id v there)) (log, holder, lock))

  split_kept : v.live ≡ true → IsLockKept record { words = s.words; homes = s.homes; views = set s.views id (splitter v) ++ offspring v ∷ [] }
  split_kept lives = (
    log,
    holder,
    record {
      wide = lock.wide;
      tree = tree;
      spent = seats_longer IsSpent (set s.views id (splitter v)) (offspring v) (spent_set (splitter v) (λ dead. absurd (true≢false (sym lives ∙ dead)))) (λ dead. absurd (true≢false dead));
      sums = sums;
      fair = lock.fair;
      home = lock.home;
      outs = outs_longer s.words (set s.views id (splitter v)) holder log (outs_same s.words s.views holder log lock.outs id v (splitter v) there refl refl) (offspring v) refl;
    },
  ) where
    tree : IsTree (map branch_of (set s.views id (splitter v) ++ offspring v ∷ []))
    tree =
        let branches : map branch_of (set s.views id (splitter v) ++ offspring v ∷ []) ≡ set (map branch_of s.views) id (trees.splitter (branch_of v)) ++ trees.offspring (branch_of v) ∷ [] =
        map-append branch_of (set s.views id (splitter v)) (offspring v ∷ []) ∙ ap (λ (l : List Branch). l ++ branch_of (offspring v) ∷ []) (branches_set s.views id (splitter v)) in
        subst IsTree (sym branches) (IsTree-split (map branch_of s.views) id (branch_of v) lock.tree (at_map branch_of s.views id v there) lives)

    sums : (w : Report → ℕ) → total w (set s.views id (splitter v) ++ offspring v ∷ []) ≡ sum_by w log
    sums w =
        let more = sum_by_push (λ (u : LockView). sum_by w (all_reports u.held)) (set s.views id (splitter v)) (offspring v) in
        omega (arith, more, total_set w (splitter v), lock.sums w)

  module _ (from : ℕ) (w : LockView) (from_there : get_elem? s.views from ≡ some w) (apart : from ≢ id) (lives : v.live ≡ true) (from_lives : w.live ≡ true) where
    tree_join : IsTree (map branch_of (set (set s.views id (taker v w)) from spent))
    tree_join =
        let numbers : branch_of (taker v w) ≡ trees.keeper (branch_of v) (branch_of w) = λ k. record {
          live = v.live;
          number = v.held.number;
          splits = v.splits;
          made = v.held.made ++ w.held.made;
          joined = map-append (λ (j : Joined). j.number) v.held.joined (record { number = w.held.number; reports = w.held.own } ∷ w.held.joined) k;
        } in
        let branches : map branch_of (set (set s.views id (taker v w)) from spent) ≡ set (set (map branch_of s.views) id (trees.keeper (branch_of v) (branch_of w))) from (branch_of spent) =
        branches_set (set s.views id (taker v w)) from spent ∙ ap (λ (l : List Branch). set l from (branch_of spent)) (branches_set s.views id (taker v w) ∙ ap (λ (b : Branch). set (map branch_of s.views) id b) numbers) in
        subst IsTree (sym branches) (IsTree-join (map branch_of s.views) id (branch_of v) lock.tree (at_map branch_of s.views id v there) lives from (branch_of w) (at_map branch_of s.views from w from_there) from_lives apart (branch_of spent) refl)

    sums_join : (f : Report → ℕ) → total f (set (set s.views id (taker v w)) from spent) ≡ sum_by f log
    sums_join f =
        let from_kept : get_elem? (set s.views id (taker v w)) from ≡ some w = set_else s.views id from (taker v w) apart ∙ from_there in
        let first = total_set f (taker v w) in
        let second = sum_by-change (λ (u : LockView). sum_by f (all_reports u.held)) (set s.views id (taker v w)) from w spent from_kept in
        let both = weigh_joins f v.held w.held in
        omega (arith, first, second, both, lock.sums f)

    join_kept : IsLockKept record { words = s.words; homes = s.homes; views = set (set s.views id (taker v w)) from spent }
    join_kept = (
      log,
      holder,
      record {
        wide = lock.wide;
        tree = tree_join;
        spent = seats_set IsSpent (set s.views id (taker v w)) from spent (λ i u not_from at. spent_set (taker v w) (λ dead. absurd (true≢false (sym lives ∙ dead))) i u at) (λ dead. refl);
        sums = sums_join;
        fair = lock.fair;
        home = lock.home;
        outs = outs_without s.words (set s.views id (taker v w)) holder log (outs_same s.words s.views holder log lock.outs id v (taker v w) there refl refl) from spent refl;
      },
    )

pub lock_splits : (id : ℕ) (v : LockView) → v.live ≡ true → Splits IsLockKept id v (splitter v) (offspring v)
lock_splits id v lives s (log, holder, lock) there = split_kept s log holder lock id v there lives

pub lock_joins : (id : ℕ) (v : LockView) (other : ℕ) (w : LockView) → v.live ≡ true → w.live ≡ true → Joins IsLockKept id v other w (taker v w) spent
lock_joins id v other w lives lives' s (log, holder, lock) there apart other_there =
    let before : get_elem? s.views other ≡ some w = sym (set_else s.views id other (taker v w) apart) ∙ other_there in
    join_kept s log holder lock id v there other w before apart lives lives'

pub lock_looks : (slots id : ℕ) (me : Seated) → me.0.live ≡ true → Allows IsLockKept slots id me 0 (λ n. n) (λ n me'. (me' ≡ me) × Tells me'.0)
lock_looks slots id me lives s (log, holder, lock) homes there small = (
  me.0,
  keeps,
  tt,
  unchanged s log holder lock id me.0 there (slice_index s.words 0) refl,
  (refl, lock_tells s log holder lock id me.0 there lives),
)

-- taking the book
module _ (id : ℕ) (me : Seated) (s : State Slot LockView) (there : get_elem? s.views id ≡ some me.0) where
  -- what the step owes, by whether it found 0
  abbrev Owes : Bool → Type 0
  Owes found =
      (w : LockView) × (a : Act Slot) × Valid s.homes me.1 a
      × IsLockKept (stepped s 0 (either found 1 (slice_index s.words 0)) id me.1 w a)
      × MatchBool found
      ((log : List Report) × ◌≡◌ {A = Seated} (w, carried_after me.1 a) (holding me.0 log, (0, Some log) ∷ me.1))
      (◌≡◌ {A = Seated} (w, carried_after me.1 a) me)

  found_home : slice_index s.words 0 ≡ 0 → IsLockKept s → Owes true
  found_home is (log, holder, lock) =
      let w = holding me.0 log in
      let one : slice_index (slice_set s.words 0 1) 0 ≡ 1 = get_or-set_same s.words 0 1 0 lock.wide in (
        w,
        takes 0 (Some log),
        lock.home is,
        (
          log,
          id,
          record {
            wide = omega (arith, length-set s.words 0 1, lock.wide);
            tree = tree_same s log holder lock id me.0 there w refl;
            spent = spent_set s log holder lock id me.0 there w (λ dead. lock.spent id me.0 there dead);
            sums = λ f. omega (arith, total_set s log holder lock id me.0 there f w, lock.sums f);
            fair = lock.fair;
            home = λ none. absurd (omega arith);
            outs = λ i u at out.
                ⊎_elim
                (λ (t : (i ≡ id) × (w ≡ u)). ((λ none. omega arith), t.0, ap (λ (x : LockView). x.log) (sym t.1)))
                (λ (t : (i ≢ id) × (get_elem? s.views i ≡ some u)). absurd ((lock.outs i u t.1 out).0 is))
                (at_set s.views id i w u at);
          },
        ),
        (log, refl),
      )

  found_out : IsLockKept s → Owes false
  found_out (log, holder, lock) = (me.0, keeps, tt, unchanged s log holder lock id me.0 there (slice_index s.words 0) refl, refl)

pub lock_takes_book : (slots id : ℕ) (me : Seated)
    → Allows IsLockKept slots id me 0 (λ n. either (eqb n 0) 1 n)
    (λ n me'. MatchBool (eqb n 0) ((log : List Report) × (me' ≡ (holding me.0 log, (0, Some log) ∷ me.1))) (me' ≡ me))
lock_takes_book slots id me s kept homes there small =
    ⊎_elim
    (λ (is : slice_index s.words 0 ≡ 0). subst (λ (found : Bool). Owes id me s there found) (sym (eq-eqb (slice_index s.words 0) 0 is)) (found_home id me s there is kept))
    (λ (other : slice_index s.words 0 ≡ 0 → ⊥). subst (λ (found : Bool). Owes id me s there found) (sym (ne_eqb (slice_index s.words 0) 0 other)) (found_out id me s there kept))
    (cases_eq (slice_index s.words 0) 0)

-- giving it back
gives_book : (slots id : ℕ) (v : LockView) (book : List Report) (r : Report) → slots ≡ 1 → IsWritten v book r
    → Allows IsLockKept slots id (v, (0, Some book) ∷ []) 0 (λ _. 0) (λ n me'. (me' ≡ (with_report v r, [])) × Tells me'.0)
gives_book slots id v book r one written s (log, holder, lock) homes there small =
    let mine = lock.outs id v there written.out in
    let w = with_report v r in
    let longer : book ≡ log ++ r ∷ [] = written.longer ∙ ap (λ (l : List Report). l ++ r ∷ []) mine.2 in
    let next : IsLocked (stepped s 0 0 id ((0, Some book) ∷ []) w gives) book holder = record {
      wide = omega (arith, length-set s.words 0 0, lock.wide);
      tree = tree_same s log holder lock id v there w refl;
      spent = spent_set s log holder lock id v there w (λ dead. absurd (true≢false (sym written.lives ∙ dead)));
      sums = λ f.
          let more : sum_by f book ≡ sum_by f log + f r = ap (λ (l : List Report). sum_by f l) longer ∙ sum_by_push f log r in
          omega (arith, more, total_set s log holder lock id v there f w, weigh_reported f v.held r.stack r.answer, lock.sums f);
      fair = written.fair;
      home = λ _. set_here s.homes 0 (some (Some book)) (omega arith);
      outs = λ i u at out.
          ⊎_elim
          (λ (t : (i ≡ id) × (w ≡ u)). absurd (true≢false (sym out ∙ ap (λ (x : LockView). x.out) (sym t.1))))
          (λ (t : (i ≢ id) × (get_elem? s.views i ≡ some u)). absurd (t.0 ((lock.outs i u t.1 out).1 ∙ sym mine.1)))
          (at_set s.views id i w u at);
    } in
    let at : get_elem? (set s.views id w) id ≡ some w = set_here s.views id w (at_within s.views id v there) in (
      w,
      gives,
      tt,
      (book, holder, next),
      (refl, lock_tells (stepped s 0 0 id ((0, Some book) ∷ []) w gives) book holder next id w at written.lives),
    )

pub lock_gives_book : (slots id : ℕ) (me : Seated) (book : List Report) → slots ≡ 1 → me.1 ≡ (0, Some book) ∷ [] → IsWritten me.0 book (last_report book)
    → Allows IsLockKept slots id me 0 (λ _. 0) (λ n me'. (me' ≡ (with_report me.0 (last_report (carried me.1)), rest me.1)) × Tells me'.0)
lock_gives_book slots id me book one carries written =
    subst (λ (c : List (ℕ × Slot)). Allows IsLockKept slots id (me.0, c) 0 (λ _. 0) (λ n me'. (me' ≡ (with_report me.0 (last_report (carried c)), rest c)) × Tells me'.0))
    (sym carries) (gives_book slots id me.0 book (last_report book) one written)

pub last_report-push : (log : List Report) (r : Report) → last_report (log ++ r ∷ []) ≡ r
last_report-push [] r = refl
last_report-push (y ∷ []) r = refl
last_report-push (y ∷ z ∷ log) r = last_report-push (z ∷ log) r

first_word : (ws : List ℕ) (n : ℕ) → get_elem? ws 0 ≡ some n → slice_index ws 0 ≡ n
first_word [] n at = absurd (some-ne-none n (sym at))
first_word (w ∷ ws) n at = some-injective w n at

-- the book at the end
pub lock_closes : (id : ℕ) (v : LockView) (ws : List ℕ) (xs : List Slot) → Final (Seen IsLockKept id v) ws xs
    → v.live ≡ true → IsWhole v.held → (n : ℕ) → get_elem? ws 0 ≡ some n → n ≡ 0 → (book : List Report) → get_elem? xs 0 ≡ some (Some book) → WeighAlike (all_reports v.held) book
lock_closes id v ws xs (s, ((log, holder, lock), at), words, long, slots) lives whole n first none book last =
    let word : slice_index s.words 0 ≡ 0 = ap (λ (l : List ℕ). slice_index l 0) words ∙ (first_word ws n first ∙ none) in
    let home = lock.home word in
    let same_slot : Some log ≡ Some book = some-injective (Some log) (Some book) (sym (slots 0 (Some log) home) ∙ last) in
    let same : log ≡ book = cc in
    subst (λ (l : List Report). WeighAlike (all_reports v.held) l) same (weigh_alike s log holder lock id v at lives whole)

-- what a step that found 0 tells
pub took_book : (me me' : Seated) (n : ℕ) → n ≡ 0
    → MatchBool (eqb n 0) ((log : List Report) × (me' ≡ (holding me.0 log, (0, Some log) ∷ me.1))) (me' ≡ me)
    → (log : List Report) × (me' ≡ (holding me.0 log, (0, Some log) ∷ me.1))
took_book me me' n none told =
    subst (λ (found : Bool). MatchBool found ((log : List Report) × (me' ≡ (holding me.0 log, (0, Some log) ∷ me.1))) (me' ≡ me))
    (eq-eqb n 0 none) told

-- the slot that is carried, and those behind it
pub carried_first : (me me' : Seated) (v : LockView) (log : List Report) → me' ≡ (v, (0, Some log) ∷ me.1) → me'.1 ≡ (0, Some log) ∷ rest me'.1
carried_first me me' v log is =
    let slots = ap (λ (m : Seated). m.1) is in
    slots ∙ ap (λ (l : List (ℕ × Slot)). (0, Some log) ∷ l) (sym (ap (λ (l : List (ℕ × Slot)). rest l) slots))

-- the book has one report more than it was taken with
pub written_report : (v : LockView) (log next : List Report) (r : Report) → v.live ≡ true → next ≡ log ++ r ∷ [] → AreFair next → IsWritten (holding v log) next (last_report next) × (last_report next ≡ r)
written_report v log next r lives longer fair =
    let last : last_report next ≡ r = ap last_report longer ∙ last_report-push log r in
    let written : IsWritten (holding v log) next r = record { out = refl; lives = lives; longer = longer; fair = fair } in
    (subst (λ (x : Report). IsWritten (holding v log) next x) (sym last) written, last)
