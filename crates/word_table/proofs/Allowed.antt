-- Each kind of step keeps the rule. One lemma serves the five kinds of word events.
use Rattle.std.proofs.Common.{◌≡◌, ◌<◌, ℕ, true, false, List, set, length, slice_index, slice_set, refl, sym, ap, ◌∙◌, subst, arith}
use Rattle.std.proofs.lemmas.List.{set-get_or}
use mathlib.Core.Option.{some}
use lib.ListN.{get_elem?}
use Rattle.atomic_table.specs.Table.{State, Me, keeps, Allows, Splits, Joins}
use Rattle.atomic_table.proofs.Lists.{set_here, set_else, set_again}
use Rattle.word_mem.specs.declared.event.WordEvent.{WordEvent}
use Rattle.word_mem.specs.declared.view.View.{View}
use Rattle.word_mem.specs.declared.view.Fresh.TheVariants.{One, From}
use Rattle.word_mem.specs.Replay.{place_of, word_after, IsAnswered, after, IsAllowed}
use Rattle.word_mem.specs.Merge.{events}
use Rattle.word_mem.specs.Story.{IsKept, Tells}
use Rattle.word_mem.specs.Moves.{with_event, dealer, dealt, adopter, maker, newborn, taker, spent}
use Rattle.word_mem.proofs.Replays.{length-replay}
use Rattle.word_mem.proofs.Seats.{at_within}
use Rattle.word_mem.proofs.Wholes.{tells}
use Rattle.word_mem.proofs.Kept.{kept_event, kept_deal, kept_bear, kept_adopt, kept_take}
use Rattle.word_table.specs.Steps.{IsPassOf}

abbrev pub Holds : List ℕ → State ℕ View → Type 0
Holds opening s = IsKept opening s.words s.views

as_long : (opening : List ℕ) (s : State ℕ View) → Holds opening s → length s.words ≡ length opening
as_long opening s kept = ap length (sym kept.1.replays) ∙ length-replay opening (events kept.0.merge)

-- the word at the address becomes what the event leaves, and its answer is the word that was found
pub allows_event : (opening : List ℕ) (slots id i : ℕ) (me : Me ℕ View) (f : ℕ → ℕ) (event : ℕ → WordEvent)
    → i < length opening → IsPassOf opening me
    → ((n : ℕ) → place_of (event n) ≡ i) → ((n : ℕ) → IsAnswered (event n) n) → ((n : ℕ) → word_after (event n) n ≡ f n)
    → Allows (Holds opening) slots id me i f (λ n me'. (me' ≡ (with_event me.0 (event n), me.1)) × Tells me'.0)
allows_event opening slots id i me f event within pass places answers leaves s kept homes there small =
    let n = slice_index s.words i in
    let e = event n in
    let w = with_event me.0 e in
    let long = as_long opening s kept in
    let in_words : i < length s.words = omega arith in
    let allowed : IsAllowed s.words e = subst (λ (k : ℕ). (k < length s.words) × IsAnswered e (slice_index s.words k)) (sym (places n)) (in_words, answers n) in
    let kept' = kept_event opening s.words s.views kept.0 kept.1 id me.0 there pass.lives e allowed in
    let same : after s.words e ≡ slice_set s.words i (f n) = ap (λ (k : ℕ). slice_set s.words k (word_after e (slice_index s.words k))) (places n) ∙ ap (λ (x : ℕ). slice_set s.words i x) (leaves n) in
    let at : get_elem? (set s.views id w) id ≡ some w = set_here s.views id w (at_within s.views id me.0 there) in (
      w,
      keeps,
      tt,
      subst (λ (ws : List ℕ). IsKept opening ws (set s.views id w)) same (kept'.0, kept'.2),
      (refl, tells opening (after s.words e) (set s.views id w) kept'.0 kept'.2 id w at pass.lives),
    )

-- a load that changes nothing
pub allows_look : (opening : List ℕ) (slots id : ℕ) (me : Me ℕ View) → me.0.alive ≡ true
    → Allows (Holds opening) slots id me 0 (λ n. n) (λ n me'. (me' ≡ me) × Tells me'.0)
allows_look opening slots id me lives s kept homes there small =
    let words = set-get_or s.words 0 0 in
    let views = set_again s.views id me.0 there in
    let kept' : IsKept opening (slice_set s.words 0 (slice_index s.words 0)) (set s.views id me.0) =
    subst (λ (ws : List ℕ). IsKept opening ws (set s.views id me.0)) (sym words) (subst (λ (vs : List View). IsKept opening s.words vs) (sym views) kept) in
    (me.0, keeps, tt, kept', (refl, tells opening s.words s.views kept.0 kept.1 id me.0 there lives))

pub splits_deal : (opening : List ℕ) (id : ℕ) (v : View) (k : ℕ) → v.fresh ≡ From k → Splits (Holds opening) id v (dealer v) (dealt v)
splits_deal opening id v k starts s kept there =
    let next = kept_deal opening s.words s.views kept.0 kept.1 id v there k starts in (next.0, next.2)

pub splits_bear : (opening : List ℕ) (id : ℕ) (v : View) (t : ℕ) → v.alive ≡ true → v.fresh ≡ One t → Splits (Holds opening) id v (maker v) (newborn v)
splits_bear opening id v t lives gives s kept there =
    let next = kept_bear opening s.words s.views kept.0 kept.1 id v there lives t gives in (next.0, next.2)

-- the other seat before its view changes
there_before : (views : List View) (id other : ℕ) (u w : View) → ¬ (other ≡ id) → get_elem? (slice_set views id u) other ≡ some w → get_elem? views other ≡ some w
there_before views id other u w apart there = sym (set_else views id other u apart) ∙ there

pub joins_adopt : (opening : List ℕ) (id : ℕ) (v : View) (other : ℕ) (w : View) → w.alive ≡ false → Joins (Holds opening) id v other w (adopter v w) spent
joins_adopt opening id v other w waits s kept there apart other_there =
    let next = kept_adopt opening s.words s.views kept.0 kept.1 id v there other w (there_before s.views id other (adopter v w) w apart other_there) apart waits in (next.0, next.2)

pub joins_take : (opening : List ℕ) (id : ℕ) (v : View) (other : ℕ) (w : View) → v.alive ≡ true → w.alive ≡ true → Joins (Holds opening) id v other w (taker v w) spent
joins_take opening id v other w lives lives' s kept there apart other_there =
    let next = kept_take opening s.words s.views kept.0 kept.1 id v there lives other w (there_before s.views id other (taker v w) w apart other_there) lives' apart in (next.0, next.2)
