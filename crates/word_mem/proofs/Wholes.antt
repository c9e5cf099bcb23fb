-- A whole pass holds all lists: the merge of the story is that of what it holds.
use Rattle.std.proofs.Common.{◌≡◌, ℕ, zero, suc, true, List, [], ◌∷◌, Contains, sym, ap, ◌∙◌, subst, inl, inr, ⊎_elim, arith}
use mathlib.Core.Option.{some}
use lib.ListN.{get_elem?}
use Rattle.word_mem.specs.declared.view.View.{View}
use Rattle.word_mem.specs.Replay.{IsLegal, replay}
use Rattle.word_mem.specs.Merge.{events}
use Rattle.word_mem.specs.Held.{Made, Joined, HasNumber, IsMerge, IsWhole, Closes}
use Rattle.word_mem.specs.Story.{HasBegun, IsChained, Story, Stands, Tells}
use Rattle.word_mem.proofs.Lists.{Contains-none, Contains-here, Contains-there}
use Rattle.word_mem.proofs.Seats.{same_at}

module _ (opening words : List ℕ) (views : List View) (y : Story) (stands : Stands opening words views y)
    (id : ℕ) (v : View) (at : get_elem? views id ≡ some v) (alive : v.alive ≡ true) (whole : IsWhole v.held) where
  -- a number that the pass holds is one of its seat
  is_owned : (n : ℕ) → HasNumber v.held n → y.owner n ≡ id
  is_owned n has =
      let fits = stands.seats id v at in
      ⊎_elim
      (λ (own : n ≡ v.held.number). ap y.owner own ∙ (fits.own alive).0)
      (λ (other : (j : Joined) × Contains v.held.joined j × (n ≡ j.number)). ap y.owner other.2 ∙ (fits.joined alive other.0 other.1).0)
      has

  -- who holds the maker of a split holds the pass that was made
  holds_made : (s : Made) → Contains y.splits s → HasNumber v.held s.maker → HasNumber v.held s.number
  holds_made s there maker =
      let noted = (stands.told s there).noted in
      let same = same_at views id noted.holder v (subst (λ (i : ℕ). get_elem? views i ≡ some noted.holder) (is_owned s.maker maker) noted.there) at in
      whole.joined_all s (subst (λ (u : View). Contains u.held.made s) same noted.noted)

  -- so it holds every number that has begun
  holds_all : (splits : List Made) → IsChained splits → ((s : Made) → Contains splits s → Contains y.splits s) → (n : ℕ) → HasBegun splits n → HasNumber v.held n
  holds_all splits chained known n (inl first) = inl (first ∙ sym whole.first)
  holds_all [] chained known n (inr (s, there, is)) = absurd (Contains-none s there)
  holds_all (t ∷ splits) chained known n (inr (s, (zero, within, same), is)) =
      let maker = holds_all splits chained.1 (λ r there. known r (Contains-there t r splits there)) t.maker chained.0 in
      subst (λ (k : ℕ). HasNumber v.held k) (ap (λ (r : Made). r.number) same ∙ sym is) (holds_made t (known t (Contains-here t splits)) maker)
  holds_all (t ∷ splits) chained known n (inr (s, (suc k, within, same), is)) =
      holds_all splits chained.1 (λ r there. known r (Contains-there t r splits there)) n (inr (s, (k, omega arith, same), is))

  pub whole_merge : IsMerge v.held y.merge
  whole_merge =
      let fits = stands.seats id v at in record {
        own = (fits.own alive).2;
        joined = λ j there. (fits.joined alive j there).3;
        only = λ x there. holds_all y.splits stands.chained (λ s here. here) x.number (stands.entries x there);
        order = λ s there. (stands.told s (fits.made alive s there)).follows;
      }

  pub whole_closes : Closes v.opening v.held words
  whole_closes =
      let opens = (stands.seats id v at).opens alive in (
        y.merge,
        whole_merge,
        subst (λ (o : List ℕ). IsLegal o (events y.merge)) (sym opens) stands.legal,
        subst (λ (o : List ℕ). replay o (events y.merge) ≡ words) (sym opens) stands.replays,
      )

-- what a seat knows at any time
pub tells : (opening words : List ℕ) (views : List View) (y : Story) → Stands opening words views y
    → (id : ℕ) (v : View) → get_elem? views id ≡ some v → v.alive ≡ true → Tells v
tells opening words views y stands id v at alive whole =
    let all = whole_closes opening words views y stands id v at alive whole in (all.0, all.1, all.2)
