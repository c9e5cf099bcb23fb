-- Each kind of step of a locked memory keeps its rule.
use Rattle.std.proofs.Common.{◌≡◌, ◌≢◌, ◌<◌, ℕ, zero, suc, eqb, Bool, true, false, true≢false, Option, Some, List, [], ◌∷◌, ◌++◌, set, length, slice_index, slice_set, MatchBool, refl, sym, ap, ◌∙◌, subst, subst₂, ⊎_elim, eq-eqb, ne_eqb, length-set, get_or-set_same, arith}
use Rattle.std.proofs.lemmas.Bool.{cases_eq}
use Rattle.std.proofs.lemmas.List.{map-append, map-set, set-get_or}
use mathlib.Core.Option.{some, some-injective, some-ne-none}
use lib.ListN.{get_elem?}
use prog.Atomic.{either}
use Rattle.atomic_table.specs.Table.{State, Act, keeps, takes, gives, rest, opening as opened, stepped, Valid, carried_after, Allows, Splits, Joins, Final, Seen}
use Rattle.atomic_table.proofs.Lists.{at_set, at_map, set_here, set_else, set_again}
use Rattle.word_mem.specs.declared.event.WordEvent.{WordEvent}
use Rattle.word_mem.specs.declared.event.Entry.{Entry}
use Rattle.word_mem.specs.declared.view.View.{View}
use Rattle.word_mem.specs.declared.view.Fresh.TheVariants.{One, From}
use Rattle.word_mem.specs.declared.book.Book.{Book}
use Rattle.word_mem.specs.declared.book.LockView.{LockView}
use Rattle.word_mem.specs.declared.access.Access.{Access}
use Rattle.word_mem.specs.Held.{IsMerge, IsWhole}
use Rattle.word_mem.specs.Replay.{after, IsAllowed, IsLegal, replay}
use Rattle.word_mem.specs.Accesses.{event_of}
use Rattle.word_mem.specs.Merge.{events}
use Rattle.word_mem.specs.Story.{Story, Stands, HasStory, Tells}
use Rattle.word_mem.specs.Moves.{first_view, with_event, entry_by}
use Rattle.word_mem.specs.Locked.{Seated, plain, views_of, IsBookOf, OutsAre, IsLocked, IsLockKept, lock_first, lock_dealer, lock_dealt, lock_adopter, lock_maker, lock_newborn, lock_taker, lock_spent, holding, last_event, journal_of, IsWritten}
use Rattle.word_mem.proofs.AccessEvents.{access_is_allowed}
use Rattle.word_mem.proofs.Replays.{length-replay}
use Rattle.word_mem.proofs.Seats.{at_end, at_within}
use Rattle.word_mem.proofs.Wholes.{tells, whole_merge}
use Rattle.word_mem.proofs.Kept.{kept_first, kept_event, kept_deal, kept_bear, kept_adopt, kept_take}

module _ (words : List ℕ) (views : List LockView) (holder : ℕ) (merge : List Entry) (outs : OutsAre words views holder merge) where
  -- a view that says the same of the book
  outs_same : (id : ℕ) (v w : LockView) → get_elem? views id ≡ some v → w.out ≡ v.out → w.log ≡ v.log → OutsAre words (set views id w) holder merge
  outs_same id v w there out log i u at is_out =
      ⊎_elim
      (λ (t : (i ≡ id) × (w ≡ u)).
      let old = outs id v there (sym out ∙ (ap (λ (x : LockView). x.out) t.1 ∙ is_out)) in
      (old.0, t.0 ∙ old.1, ap (λ (x : LockView). x.log) (sym t.1) ∙ (log ∙ old.2)))
      (λ (t : (i ≢ id) × (get_elem? views i ≡ some u)). outs i u t.1 is_out)
      (at_set views id i w u at)

  -- a view without the book
  outs_without : (id : ℕ) (w : LockView) → w.out ≡ false → OutsAre words (set views id w) holder merge
  outs_without id w without i u at is_out =
      ⊎_elim
      (λ (t : (i ≡ id) × (w ≡ u)). absurd (true≢false (sym is_out ∙ (ap (λ (x : LockView). x.out) (sym t.1) ∙ without))))
      (λ (t : (i ≢ id) × (get_elem? views i ≡ some u)). outs i u t.1 is_out)
      (at_set views id i w u at)

  outs_longer : (w : LockView) → w.out ≡ false → OutsAre words (views ++ w ∷ []) holder merge
  outs_longer w without i u at is_out =
      ⊎_elim
      (λ (before : get_elem? views i ≡ some u). outs i u before is_out)
      (λ (t : (i ≡ length views) × (w ≡ u)). absurd (true≢false (sym is_out ∙ (ap (λ (x : LockView). x.out) (sym t.1) ∙ without))))
      (at_end views w u i at)

view_of : LockView → View
view_of v = v.view

views_set : (views : List LockView) (id : ℕ) (w : LockView) → views_of (set views id w) ≡ set (views_of views) id w.view
views_set views id w = map-set (λ (v : LockView). v.view) views id w

view_at : (views : List LockView) (id : ℕ) (v : LockView) → get_elem? views id ≡ some v → get_elem? (views_of views) id ≡ some v.view
view_at views id v at = at_map (λ (u : LockView). u.view) views id v at

-- a view that differs in the book alone
views_same : (views : List LockView) (id : ℕ) (v w : LockView) → get_elem? views id ≡ some v → w.view ≡ v.view → views_of (set views id w) ≡ views_of views
views_same views id v w at same =
    views_set views id w ∙ (ap (λ (u : View). set (views_of views) id u) same ∙ set_again (views_of views) id v.view (view_at views id v at))

pub lock_opens : (opening : List ℕ) (b : Book) → b.words.items ≡ opening → b.journal.items ≡ []
    → IsLockKept opening (opened (0 ∷ []) (Some b ∷ []) (lock_first opening))
lock_opens opening b words journal =
    let first = kept_first opening in
    let y = first.0 in
    let empty : y.merge ≡ [] = first.1 in
    let same : opening ≡ replay opening (events y.merge) = ap (λ (m : List Entry). replay opening (events m)) (sym empty) in (
      y,
      0,
      record {
        stands = subst (λ (ws : List ℕ). Stands opening ws (first_view opening ∷ []) y) same first.2;
        wide = omega arith;
        home = λ _. (b, refl, (words ∙ same, journal ∙ sym empty));
        outs = only_first;
      },
    ) where
      only_first : OutsAre (0 ∷ []) (lock_first opening ∷ []) 0 (kept_first opening).0.merge
      only_first zero v at out = absurd (true≢false (sym out ∙ ap (λ (x : LockView). x.out) (sym (some-injective (lock_first opening) v at))))
      only_first (suc id) v at out = absurd (some-ne-none v (sym at))

-- the rule for another story with the same merge, where only views change
module _ (opening : List ℕ) (s : State (Option Book) LockView) (y : Story) (holder : ℕ) (lock : IsLocked opening s y holder) where
  go_on : (views : List LockView) → HasStory opening (replay opening (events y.merge)) (views_of views) y.merge → OutsAre s.words views holder y.merge
      → IsLockKept opening record { words = s.words; homes = s.homes; views = views }
  go_on views (next, same, stands) outs = (
    next,
    holder,
    record {
      stands = subst (λ (m : List Entry). Stands opening (replay opening (events m)) (views_of views) next) (sym same) stands;
      wide = lock.wide;
      home = λ at_home. let old = lock.home at_home in (old.0, old.1, subst (λ (m : List Entry). IsBookOf opening m old.0) (sym same) old.2);
      outs = subst (λ (m : List Entry). OutsAre s.words views holder m) (sym same) outs;
    },
  )

  go_on_split : (id : ℕ) (v left right : LockView) → get_elem? s.views id ≡ some v → left.out ≡ v.out → left.log ≡ v.log → right.out ≡ false
      → HasStory opening (replay opening (events y.merge)) (set (views_of s.views) id left.view ++ right.view ∷ []) y.merge
      → IsLockKept opening record { words = s.words; homes = s.homes; views = set s.views id left ++ right ∷ [] }
  go_on_split id v left right there out log without next =
      let views : views_of (set s.views id left ++ right ∷ []) ≡ set (views_of s.views) id left.view ++ right.view ∷ [] =
      map-append (λ (u : LockView). u.view) (set s.views id left) (right ∷ []) ∙ ap (λ (l : List View). l ++ right.view ∷ []) (views_set s.views id left) in
      go_on (set s.views id left ++ right ∷ [])
      (subst (λ (l : List View). HasStory opening (replay opening (events y.merge)) l y.merge) (sym views) next)
      (outs_longer s.words (set s.views id left) holder y.merge (outs_same s.words s.views holder y.merge lock.outs id v left there out log) right without)

  go_on_join : (id : ℕ) (v both : LockView) (other : ℕ) (last : LockView) → get_elem? s.views id ≡ some v → both.out ≡ v.out → both.log ≡ v.log → last.out ≡ false
      → HasStory opening (replay opening (events y.merge)) (set (set (views_of s.views) id both.view) other last.view) y.merge
      → IsLockKept opening record { words = s.words; homes = s.homes; views = set (set s.views id both) other last }
  go_on_join id v both other last there out log without next =
      let views : views_of (set (set s.views id both) other last) ≡ set (set (views_of s.views) id both.view) other last.view =
      views_set (set s.views id both) other last ∙ ap (λ (l : List View). set l other last.view) (views_set s.views id both) in
      go_on (set (set s.views id both) other last)
      (subst (λ (l : List View). HasStory opening (replay opening (events y.merge)) l y.merge) (sym views) next)
      (outs_without s.words (set s.views id both) holder y.merge (outs_same s.words s.views holder y.merge lock.outs id v both there out log) other last without)

abbrev pub LockHolds : List ℕ → State (Option Book) LockView → Type 0
LockHolds opening s = IsLockKept opening s

pub lock_deals : (opening : List ℕ) (id : ℕ) (v : LockView) (k : ℕ) → v.view.fresh ≡ From k → Splits (LockHolds opening) id v (lock_dealer v) (lock_dealt v)
lock_deals opening id v k starts s (y, holder, lock) there =
    go_on_split opening s y holder lock id v (lock_dealer v) (lock_dealt v) there refl refl refl
    (kept_deal opening (replay opening (events y.merge)) (views_of s.views) y lock.stands id v.view (view_at s.views id v there) k starts)

pub lock_bears : (opening : List ℕ) (id : ℕ) (v : LockView) (t : ℕ) → v.view.alive ≡ true → v.view.fresh ≡ One t → Splits (LockHolds opening) id v (lock_maker v) (lock_newborn v)
lock_bears opening id v t lives may_give s (y, holder, lock) there =
    go_on_split opening s y holder lock id v (lock_maker v) (lock_newborn v) there refl refl refl
    (kept_bear opening (replay opening (events y.merge)) (views_of s.views) y lock.stands id v.view (view_at s.views id v there) lives t may_give)

-- the other seat before its view changes
other_before : (views : List LockView) (id other : ℕ) (u w : LockView) → ¬ (other ≡ id) → get_elem? (slice_set views id u) other ≡ some w → get_elem? (views_of views) other ≡ some w.view
other_before views id other u w apart there = view_at views other w (sym (set_else views id other u apart) ∙ there)

pub lock_adopts : (opening : List ℕ) (id : ℕ) (v : LockView) (other : ℕ) (w : LockView) → w.view.alive ≡ false → Joins (LockHolds opening) id v other w (lock_adopter v w) lock_spent
lock_adopts opening id v other w waits s (y, holder, lock) there apart other_there =
    go_on_join opening s y holder lock id v (lock_adopter v w) other lock_spent there refl refl refl
    (kept_adopt opening (replay opening (events y.merge)) (views_of s.views) y lock.stands id v.view (view_at s.views id v there) other w.view (other_before s.views id other (lock_adopter v w) w apart other_there) apart waits)

pub lock_takes_in : (opening : List ℕ) (id : ℕ) (v : LockView) (other : ℕ) (w : LockView) → v.view.alive ≡ true → w.view.alive ≡ true → Joins (LockHolds opening) id v other w (lock_taker v w) lock_spent
lock_takes_in opening id v other w lives lives' s (y, holder, lock) there apart other_there =
    go_on_join opening s y holder lock id v (lock_taker v w) other lock_spent there refl refl refl
    (kept_take opening (replay opening (events y.merge)) (views_of s.views) y lock.stands id v.view (view_at s.views id v there) lives other w.view (other_before s.views id other (lock_taker v w) w apart other_there) lives' apart)

-- nothing changes where the word and the view are set to what they were
unchanged : (opening : List ℕ) (s : State (Option Book) LockView) (id : ℕ) (v : LockView) (word : ℕ) → word ≡ slice_index s.words 0
    → get_elem? s.views id ≡ some v → IsLockKept opening s → IsLockKept opening record { words = slice_set s.words 0 word; homes = s.homes; views = slice_set s.views id v }
unchanged opening s id v word same there kept =
    let words : slice_set s.words 0 word ≡ s.words = ap (λ (n : ℕ). slice_set s.words 0 n) same ∙ set-get_or s.words 0 0 in
    subst (λ (ws : List ℕ). IsLockKept opening record { words = ws; homes = s.homes; views = slice_set s.views id v }) (sym words)
    (subst (λ (vs : List LockView). IsLockKept opening record { words = s.words; homes = s.homes; views = vs }) (sym (set_again s.views id v there)) kept)

pub lock_looks : (opening : List ℕ) (slots id : ℕ) (me : Seated) → me.0.view.alive ≡ true
    → Allows (LockHolds opening) slots id me 0 (λ n. n) (λ n me'. (me' ≡ me) × Tells me'.0.view)
lock_looks opening slots id me lives s kept homes there small = (
  me.0,
  keeps,
  tt,
  unchanged opening s id me.0 (slice_index s.words 0) refl there kept,
  (refl, tells opening (replay opening (events kept.0.merge)) (views_of s.views) kept.0 kept.2.stands id me.0.view (view_at s.views id me.0 there) lives),
)

-- taking the book
module _ (opening : List ℕ) (id : ℕ) (me : Seated) (opens : me.0.view.opening ≡ opening) (s : State (Option Book) LockView) (there : get_elem? s.views id ≡ some me.0) where
  -- what the step owes, by whether it found 0
  abbrev Owes : Bool → Type 0
  Owes found =
      (w : LockView) × (a : Act (Option Book)) × Valid s.homes me.1 a
      × IsLockKept opening (stepped s 0 (either found 1 (slice_index s.words 0)) id me.1 w a)
      × MatchBool found
      ((b : Book) × ◌≡◌ {A = Seated} (w, carried_after me.1 a) (holding me.0 b.journal.items, (0, Some b) ∷ me.1) × (b.words.items ≡ replay me.0.view.opening (events b.journal.items)))
      (◌≡◌ {A = Seated} (w, carried_after me.1 a) me)

  found_home : slice_index s.words 0 ≡ 0 → IsLockKept opening s → Owes true
  found_home is (y, holder, lock) =
      let home = lock.home is in
      let b = home.0 in
      let book = home.2 in
      let w = holding me.0 b.journal.items in
      let one : slice_index (slice_set s.words 0 1) 0 ≡ 1 = get_or-set_same s.words 0 1 0 lock.wide in
      let words = book.0 ∙ ap (λ (m : List Entry). replay opening (events m)) (sym book.1) in (
        w,
        takes 0 (Some b),
        home.1,
        (
          y,
          id,
          record {
            stands = subst (λ (l : List View). Stands opening (replay opening (events y.merge)) l y) (sym (views_same s.views id me.0 w there refl)) lock.stands;
            wide = omega (arith, length-set s.words 0 1, lock.wide);
            home = λ none. absurd (omega arith);
            outs = λ i u at out.
                ⊎_elim
                (λ (t : (i ≡ id) × (w ≡ u)). ((λ none. omega arith), t.0, ap (λ (x : LockView). x.log) (sym t.1) ∙ book.1))
                (λ (t : (i ≢ id) × (get_elem? s.views i ≡ some u)). absurd ((lock.outs i u t.1 out).0 is))
                (at_set s.views id i w u at);
          },
        ),
        (b, refl, subst (λ (o : List ℕ). b.words.items ≡ replay o (events b.journal.items)) (sym opens) words),
      )

  found_out : IsLockKept opening s → Owes false
  found_out kept = (me.0, keeps, tt, unchanged opening s id me.0 (slice_index s.words 0) refl there kept, refl)

pub lock_takes_book : (opening : List ℕ) (slots id : ℕ) (me : Seated) → me.0.view.opening ≡ opening
    → Allows (LockHolds opening) slots id me 0 (λ n. either (eqb n 0) 1 n)
    (λ n me'. MatchBool (eqb n 0) ((b : Book) × (me' ≡ (holding me.0 b.journal.items, (0, Some b) ∷ me.1)) × (b.words.items ≡ replay me.0.view.opening (events b.journal.items))) (me' ≡ me))
lock_takes_book opening slots id me opens s kept homes there small =
    ⊎_elim
    (λ (is : slice_index s.words 0 ≡ 0). subst (λ (found : Bool). Owes opening id me opens s there found) (sym (eq-eqb (slice_index s.words 0) 0 is)) (found_home opening id me opens s there is kept))
    (λ (other : slice_index s.words 0 ≡ 0 → ⊥). subst (λ (found : Bool). Owes opening id me opens s there found) (sym (ne_eqb (slice_index s.words 0) 0 other)) (found_out opening id me opens s there kept))
    (cases_eq (slice_index s.words 0) 0)

-- giving it back
gives_book : (opening : List ℕ) (slots id : ℕ) (v : LockView) (b : Book) → slots ≡ 1 → IsWritten opening v b (last_event b.journal.items)
    → Allows (LockHolds opening) slots id (v, (0, Some b) ∷ []) 0 (λ _. 0)
    (λ n me'. (me' ≡ (plain (with_event v.view (last_event b.journal.items)), [])) × Tells me'.0.view)
gives_book opening slots id v b one written s (y, holder, lock) homes there small =
    let e = last_event b.journal.items in
    let mine = lock.outs id v there written.out in
    let words = replay opening (events y.merge) in
    let same : replay opening (events v.log) ≡ words = ap (λ (m : List Entry). replay opening (events m)) mine.2 in
    let next = kept_event opening words (views_of s.views) y lock.stands id v.view (view_at s.views id v there) written.lives e (subst (λ (ws : List ℕ). IsAllowed ws e) same written.allowed) in
    let w = plain (with_event v.view e) in
    let left = next.2.replays in
    let stands : Stands opening (replay opening (events next.0.merge)) (views_of (set s.views id w)) next.0 =
    subst₂ (λ (ws : List ℕ) (vs : List View). Stands opening ws vs next.0) (sym left) (sym (views_set s.views id w)) next.2 in
    let journal = written.journal ∙ (ap (λ (m : List Entry). m ++ entry_by v.view e ∷ []) mine.2 ∙ sym next.1) in
    let book_words = written.words ∙ (ap (λ (ws : List ℕ). after ws e) same ∙ sym left) in
    let at : get_elem? (set s.views id w) id ≡ some w = set_here s.views id w (at_within s.views id v there) in (
      w,
      gives,
      tt,
      (
        next.0,
        holder,
        record {
          stands = stands;
          wide = omega (arith, length-set s.words 0 0, lock.wide);
          home = λ _. (b, set_here s.homes 0 (some (Some b)) (omega arith), (book_words, journal));
          outs = λ i u at' out.
              ⊎_elim
              (λ (t : (i ≡ id) × (w ≡ u)). absurd (true≢false (sym out ∙ ap (λ (x : LockView). x.out) (sym t.1))))
              (λ (t : (i ≢ id) × (get_elem? s.views i ≡ some u)). absurd (t.0 ((lock.outs i u t.1 out).1 ∙ sym mine.1)))
              (at_set s.views id i w u at');
        },
      ),
      (refl, tells opening (replay opening (events next.0.merge)) (views_of (set s.views id w)) next.0 stands id w.view (view_at (set s.views id w) id w at) written.lives),
    )

pub lock_gives_book : (opening : List ℕ) (slots id : ℕ) (me : Seated) (b : Book) → slots ≡ 1 → me.1 ≡ (0, Some b) ∷ [] → IsWritten opening me.0 b (last_event b.journal.items)
    → Allows (LockHolds opening) slots id me 0 (λ _. 0)
    (λ n me'. (me' ≡ (plain (with_event me.0.view (last_event (journal_of me.1))), rest me.1)) × Tells me'.0.view)
lock_gives_book opening slots id me b one carries written =
    subst (λ (c : List (ℕ × Option Book)). Allows (LockHolds opening) slots id (me.0, c) 0 (λ _. 0) (λ n me'. (me' ≡ (plain (with_event me.0.view (last_event (journal_of c))), rest c)) × Tells me'.0.view))
    (sym carries) (gives_book opening slots id me.0 b one written)

last_event-push : (m : List Entry) (x : Entry) → last_event (m ++ x ∷ []) ≡ x.event
last_event-push [] x = refl
last_event-push (y ∷ []) x = refl
last_event-push (y ∷ z ∷ m) x = last_event-push (z ∷ m) x

-- an address is within the words of the book
pub within_book : (opening opens words : List ℕ) (log : List Entry) (at : ℕ) → words ≡ replay opens (events log) → opens ≡ opening → at < length opening → at < length words
within_book opening opens words log at left same within =
    let long : length words ≡ length opens = ap length left ∙ length-replay opens (events log) in
    let as_long : length opens ≡ length opening = ap length same in
    omega arith

-- an access of the book is its last event
pub IsWritten-access : (opening : List ℕ) (v : LockView) (words : List ℕ) (log : List Entry) (b : Book) (number at found : ℕ) (access : Access)
    → v.view.alive ≡ true → words ≡ replay v.view.opening (events log) → v.view.opening ≡ opening → at < length opening → found ≡ slice_index words at
    → b.words.items ≡ after words (event_of access at found) → b.journal.items ≡ log ++ record { number = number; event = event_of access at found } ∷ []
    → number ≡ v.view.held.number
    → IsWritten opening (holding v log) b (last_event b.journal.items) × (last_event b.journal.items ≡ event_of access at found)
IsWritten-access opening v words log b number at found access lives replays opens inside answer left journal its_number =
    let e = event_of access at found in
    let is = replays ∙ ap (λ (o : List ℕ). replay o (events log)) opens in
    let within = within_book opening v.view.opening words log at replays opens inside in
    let last : last_event b.journal.items ≡ e = ap last_event journal ∙ last_event-push log (record { number = number; event = e }) in
    let written : IsWritten opening (holding v log) b e = record {
      out = refl;
      lives = lives;
      allowed = subst (λ (ws : List ℕ). IsAllowed ws e) is (access_is_allowed access at found words within answer);
      words = left ∙ ap (λ (ws : List ℕ). after ws e) is;
      journal = journal ∙ ap (λ (n : ℕ). log ++ record { number = n; event = e } ∷ []) its_number;
    } in
    (subst (λ (d : WordEvent). IsWritten opening (holding v log) b d) (sym last) written, last)

first_word : (ws : List ℕ) (n : ℕ) → get_elem? ws 0 ≡ some n → slice_index ws 0 ≡ n
first_word [] n at = absurd (some-ne-none n (sym at))
first_word (w ∷ ws) n at = some-injective w n at

-- the book at the end
pub lock_closes : (opening : List ℕ) (id : ℕ) (v : LockView) (ws : List ℕ) (xs : List (Option Book)) → Final (Seen (LockHolds opening) id v) ws xs
    → v.view.alive ≡ true → IsWhole v.view.held → (n : ℕ) → get_elem? ws 0 ≡ some n → n ≡ 0 → (b : Book) → get_elem? xs 0 ≡ some (Some b)
    → IsMerge v.view.held b.journal.items × IsLegal opening (events b.journal.items) × (b.words.items ≡ replay opening (events b.journal.items))
lock_closes opening id v ws xs (s, ((y, holder, lock), at), words, long, slots) lives whole n first none b last =
    let word : slice_index s.words 0 ≡ 0 = ap (λ (l : List ℕ). slice_index l 0) words ∙ (first_word ws n first ∙ none) in
    let home = lock.home word in
    let same_slot : Some home.0 ≡ Some b = some-injective (Some home.0) (Some b) (sym (slots 0 (Some home.0) home.1) ∙ last) in
    let same : home.0 ≡ b = cc in
    let book = subst (λ (a : Book). IsBookOf opening y.merge a) same home.2 in
    let merge = whole_merge opening (replay opening (events y.merge)) (views_of s.views) y lock.stands id v.view (view_at s.views id v at) lives whole in (
      subst (λ (m : List Entry). IsMerge v.view.held m) (sym book.1) merge,
      subst (λ (m : List Entry). IsLegal opening (events m)) (sym book.1) lock.stands.legal,
      book.0 ∙ ap (λ (m : List Entry). replay opening (events m)) (sym book.1),
    )

-- what a step that found 0 tells
pub took_book : (me me' : Seated) (n : ℕ) → n ≡ 0
    → MatchBool (eqb n 0) ((b : Book) × (me' ≡ (holding me.0 b.journal.items, (0, Some b) ∷ me.1)) × (b.words.items ≡ replay me.0.view.opening (events b.journal.items))) (me' ≡ me)
    → (b : Book) × (me' ≡ (holding me.0 b.journal.items, (0, Some b) ∷ me.1)) × (b.words.items ≡ replay me.0.view.opening (events b.journal.items))
took_book me me' n none told =
    subst (λ (found : Bool). MatchBool found ((b : Book) × (me' ≡ (holding me.0 b.journal.items, (0, Some b) ∷ me.1)) × (b.words.items ≡ replay me.0.view.opening (events b.journal.items))) (me' ≡ me))
    (eq-eqb n 0 none) told

-- the slot that is carried, and those behind it
pub carried_first : (me me' : Seated) (v : LockView) (b : Book) → me' ≡ (v, (0, Some b) ∷ me.1) → me'.1 ≡ (0, Some b) ∷ rest me'.1
carried_first me me' v b is =
    let slots = ap (λ (m : Seated). m.1) is in
    slots ∙ ap (λ (l : List (ℕ × Option Book)). (0, Some b) ∷ l) (sym (ap (λ (l : List (ℕ × Option Book)). rest l) slots))
