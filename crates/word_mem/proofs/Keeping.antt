-- The story goes on: an event more, a seat cut in two, a seat that takes in another.
use Rattle.std.proofs.Common.{◌≡◌, ◌≢◌, ◌⊎◌, ℕ, zero, suc, true, List, [], ◌∷◌, ◌++◌, set, length, Contains, refl, sym, ap, ◌∙◌, subst, inl, inr, ⊎_elim, length-set, arith}
use Rattle.std.proofs.lemmas.Bool.{cases_eq}
use Rattle.std.proofs.lemmas.List.Elements.{Contains-push_cases}
use mathlib.Core.Option.{some}
use lib.ListN.{get_elem?}
use Rattle.atomic_table.proofs.Lists.{set_here, set_else}
use Rattle.word_mem.specs.declared.event.WordEvent.{WordEvent}
use Rattle.word_mem.specs.declared.event.Entry.{Entry}
use Rattle.word_mem.specs.declared.view.View.{View}
use Rattle.word_mem.specs.declared.view.Fresh.{Fresh}
use Rattle.word_mem.specs.Replay.{after, IsAllowed, IsLegal, replay}
use Rattle.word_mem.specs.Merge.{events}
use Rattle.word_mem.specs.Held.{Made}
use Rattle.word_mem.specs.Story.{Gives, HasBegun, IsChained, Story, Fits, IsNoted, IsTold, Stands}
use Rattle.word_mem.specs.Moves.{with_event, entry_by}
use Rattle.word_mem.proofs.Lists.{Contains-there}
use Rattle.word_mem.proofs.Replays.{replay-push, IsLegal-push}
use Rattle.word_mem.proofs.Parts.{events-append, part-push, part-push_other, part-longer, Follows-push}
use Rattle.word_mem.proofs.Seats.{at_within, same_at, given, given_other, moved, moved_same, moved_other, HoldsAsMany, noted_set, noted_longer, seats_set, seats_longer}

abbrev pub story_with : Story → Entry → Story
story_with y x = record y { merge = y.merge ++ x ∷ [] }

module _ (opening : List ℕ) (y : Story) (id : ℕ) (v : View) (fits : Fits opening y id v) where
  fits_event : (e : WordEvent) → Fits opening (story_with y (entry_by v e)) id (with_event v e)
  fits_event e =
      let x = entry_by v e in record {
        gives = fits.gives;
        opens = fits.opens;
        own = λ alive.
            let own = fits.own alive in
            (own.0, own.1, part-push v.held.number y.merge x refl ∙ ap (λ (es : List WordEvent). es ++ e ∷ []) own.2);
        joined = λ alive j there.
            let old = fits.joined alive j there in
            (old.0, old.1, old.2, part-push_other j.number y.merge x (λ is. old.2 (sym is)) ∙ old.3);
        made = fits.made;
      }

  -- an event of another seat's number
  fits_beside : (x : Entry) (at : ℕ) → y.owner x.number ≡ at → id ≢ at → Fits opening (story_with y x) id v
  fits_beside x at owned other =
      let apart : (n : ℕ) → y.owner n ≡ id → x.number ≢ n = λ n here is. other (sym here ∙ (ap y.owner (sym is) ∙ owned)) in record {
        gives = fits.gives;
        opens = fits.opens;
        own = λ alive.
            let own = fits.own alive in
            (own.0, own.1, part-push_other v.held.number y.merge x (apart v.held.number own.0) ∙ own.2);
        joined = λ alive j there.
            let old = fits.joined alive j there in
            (old.0, old.1, old.2, part-push_other j.number y.merge x (apart j.number old.0) ∙ old.3);
        made = fits.made;
      }

module _ (opening words : List ℕ) (views : List View) (y : Story) (stands : Stands opening words views y)
    (id : ℕ) (v : View) (there : get_elem? views id ≡ some v) where
  -- an event of the pass at this seat
  pub keeps_event : v.alive ≡ true → (e : WordEvent) → IsAllowed words e
      → Stands opening (after words e) (set views id (with_event v e)) (story_with y (entry_by v e))
  keeps_event alive e allowed =
      let x = entry_by v e in
      let fits = stands.seats id v there in
      let own = fits.own alive in
      let longer : events (y.merge ++ x ∷ []) ≡ events y.merge ++ e ∷ [] = events-append y.merge (x ∷ []) in record {
        legal = subst (λ (es : List WordEvent). IsLegal opening es) (sym longer)
            (IsLegal-push opening (events y.merge) e stands.legal (subst (λ (w : List ℕ). IsAllowed w e) (sym stands.replays) allowed));
        replays = subst (λ (es : List WordEvent). replay opening es ≡ after words e) (sym longer)
            (replay-push opening (events y.merge) e ∙ ap (λ (w : List ℕ). after w e) stands.replays);
        entries = λ z in_merge.
            ⊎_elim (stands.entries z) (λ (is : x ≡ z). subst (λ (u : Entry). HasBegun y.splits u.number) is own.1) (Contains-push_cases y.merge x z in_merge);
        chained = stands.chained;
        told = λ s in_splits.
            let old = stands.told s in_splits in record {
              before = omega (arith, old.before, part-longer s.maker y.merge (x ∷ []));
              follows = Follows-push y.merge x s old.follows old.before;
              noted = noted_set views id v (with_event v e) (y.owner s.maker) s there (λ lives. (lives, λ r here. here)) old.noted;
            };
        seats = seats_set (λ i u. Fits opening (story_with y x) i u) views id (with_event v e)
            (λ i u other at. fits_beside opening y i u (stands.seats i u at) x id own.0 other)
            (fits_event opening y id v fits e);
      }

pub begun_more : (t : Made) (splits : List Made) (n : ℕ) → HasBegun splits n → HasBegun (t ∷ splits) n
begun_more t splits n (inl first) = inl first
begun_more t splits n (inr (s, there, is)) = inr (s, Contains-there t s splits there, is)

-- the maker of a split has begun
chained_maker : (splits : List Made) → IsChained splits → (s : Made) → Contains splits s → HasBegun splits s.maker
chained_maker [] chained s (k, within, is) = absurd (omega arith)
chained_maker (t ∷ splits) chained s (zero, within, is) = subst (λ (r : Made). HasBegun (t ∷ splits) r.maker) is (begun_more t splits t.maker chained.0)
chained_maker (t ∷ splits) chained s (suc k, within, is) = begun_more t splits s.maker (chained_maker splits chained.1 s (k, omega arith, is))

-- where a seat is cut in two, the new one gets a number that has not begun
abbrev pub story_split : Story → List Made → ℕ → ℕ → Story
story_split y splits number to = record { merge = y.merge; splits = splits; owner = given number to y.owner }

module _ (opening words : List ℕ) (views : List View) (y : Story) (stands : Stands opening words views y)
    (id : ℕ) (v : View) (there : get_elem? views id ≡ some v)
    (number : ℕ) (owned : y.owner number ≡ id) (unborn : ¬ (HasBegun y.splits number))
    (splits : List Made)
    (grows : (n : ℕ) → HasBegun y.splits n → HasBegun splits n)
    (only : (n : ℕ) → n ≢ number → HasBegun splits n → HasBegun y.splits n)
    (kept : (s : Made) → Contains y.splits s → Contains splits s) where
  has_begun_before : (n : ℕ) → HasBegun y.splits n → n ≢ number
  has_begun_before n begun is = unborn (subst (λ (k : ℕ). HasBegun y.splits k) is begun)

  still : (n at : ℕ) → HasBegun y.splits n → y.owner n ≡ at → given number (length views) y.owner n ≡ at
  still n at begun is = given_other number (length views) y.owner n (has_begun_before n begun) ∙ is

  -- the lists of a seat stay as they are
  pub fits_still : (i : ℕ) (u : View) → Fits opening y i u → (fresh : Fresh)
      → ((n : ℕ) → Gives fresh n → (given number (length views) y.owner n ≡ i) × ¬ (HasBegun splits n))
      → Fits opening (story_split y splits number (length views)) i (record u { fresh = fresh })
  fits_still i u fits fresh gives = record {
    gives = gives;
    opens = fits.opens;
    own = λ alive. let own = fits.own alive in (still u.held.number i own.1 own.0, grows u.held.number own.1, own.2);
    joined = λ alive j in_joined.
        let old = fits.joined alive j in_joined in
        (still j.number i old.1 old.0, grows j.number old.1, old.2, old.3);
    made = λ alive s in_made. kept s (fits.made alive s in_made);
  }

  -- another seat, whose numbers are not the one that is given
  gives_still : (i : ℕ) (u : View) → i ≢ id → Fits opening y i u
      → (n : ℕ) → Gives u.fresh n → (given number (length views) y.owner n ≡ i) × ¬ (HasBegun splits n)
  gives_still i u other fits n gives =
      let old = fits.gives n gives in
      let apart : n ≢ number = λ is. other (sym old.0 ∙ (ap y.owner is ∙ owned)) in
      (given_other number (length views) y.owner n apart ∙ old.0, λ begun. old.1 (only n apart begun))

  pub keeps_split : (left right : View) → HoldsAsMany v left → IsChained splits
      → ((s : Made) → Contains splits s → (Contains y.splits s) ⊎ IsTold (set views id left ++ right ∷ []) (story_split y splits number (length views)) s)
      → Fits opening (story_split y splits number (length views)) id left
      → Fits opening (story_split y splits number (length views)) (length views) right
      → Stands opening words (set views id left ++ right ∷ []) (story_split y splits number (length views))
  keeps_split left right more chained new_or_told fits_left fits_right =
      let y' = story_split y splits number (length views) in
      let views' = set views id left ++ right ∷ [] in record {
        legal = stands.legal;
        replays = stands.replays;
        entries = λ x in_merge. grows x.number (stands.entries x in_merge);
        chained = chained;
        told = λ s in_splits.
            ⊎_elim
            (λ (before : Contains y.splits s).
            let old = stands.told s before in
            let same : y.owner s.maker ≡ y'.owner s.maker = sym (still s.maker (y.owner s.maker) (chained_maker y.splits stands.chained s before) refl) in
            let noted = noted_longer (set views id left) (right ∷ []) (y.owner s.maker) s (noted_set views id v left (y.owner s.maker) s there more old.noted) in
            let told : IsTold views' y' s = record { before = old.before; follows = old.follows; noted = subst (λ (at : ℕ). IsNoted views' at s) same noted } in
            told)
            (λ told. told)
            (new_or_told s in_splits);
        seats = seats_longer (λ i u. Fits opening y' i u) (set views id left) right
            (seats_set (λ i u. Fits opening y' i u) views id left
            (λ i u other at. let fits = stands.seats i u at in fits_still i u fits u.fresh (gives_still i u other fits))
            fits_left)
            (subst (λ (n : ℕ). Fits opening y' n right) (sym (length-set views id left)) fits_right);
      }

-- where a seat takes in another, it gets all its numbers
abbrev pub story_joined : Story → ℕ → ℕ → Story
story_joined y from to = record y { owner = moved from to y.owner }

module _ (opening words : List ℕ) (views : List View) (y : Story) (stands : Stands opening words views y)
    (id : ℕ) (v : View) (there : get_elem? views id ≡ some v)
    (from : ℕ) (w : View) (from_there : get_elem? views from ≡ some w) (differ : from ≢ id) where
  -- a seat that isn't the one that is taken in
  pub fits_moved : (i : ℕ) (u : View) → i ≢ from → Fits opening y i u → Fits opening (story_joined y from id) i u
  fits_moved i u other fits = record {
    gives = λ n gives. let old = fits.gives n gives in (moved_other from id y.owner n i old.0 other, old.1);
    opens = fits.opens;
    own = λ alive. let own = fits.own alive in (moved_other from id y.owner u.held.number i own.0 other, own.1, own.2);
    joined = λ alive j in_joined.
        let old = fits.joined alive j in_joined in
        (moved_other from id y.owner j.number i old.0 other, old.1, old.2, old.3);
    made = fits.made;
  }

  noted_joined : (both last : View) → HoldsAsMany v both → HoldsAsMany w both → (n : ℕ) (s : Made)
      → IsNoted views (y.owner n) s → IsNoted (set (set views id both) from last) (moved from id y.owner n) s
  noted_joined both last more more' n s noted =
      let views' = set (set views id both) from last in
      ⊎_elim
      (λ (here : y.owner n ≡ from).
      let same = same_at views from noted.holder w (subst (λ (i : ℕ). get_elem? views i ≡ some noted.holder) here noted.there) from_there in
      let holds = more' (subst (λ (u : View). u.alive ≡ true) same noted.lives) in
      let stays : get_elem? views' id ≡ some both = set_else (set views id both) from id last (λ e. differ (sym e)) ∙ set_here views id both (at_within views id v there) in
      let told : IsNoted views' id s = record { holder = both; there = stays; lives = holds.0; noted = holds.1 s (subst (λ (u : View). Contains u.held.made s) same noted.noted) } in
      subst (λ (at : ℕ). IsNoted views' at s) (sym (moved_same from id y.owner n here)) told)
      (λ (other : y.owner n ≡ from → ⊥).
      let first = noted_set views id v both (y.owner n) s there more noted in
      let told : IsNoted views' (y.owner n) s = record { holder = first.holder; there = set_else (set views id both) from (y.owner n) last other ∙ first.there; lives = first.lives; noted = first.noted } in
      subst (λ (at : ℕ). IsNoted views' at s) (sym (moved_other from id y.owner n (y.owner n) refl other)) told)
      (cases_eq (y.owner n) from)

  pub keeps_join : (both last : View) → HoldsAsMany v both → HoldsAsMany w both
      → Fits opening (story_joined y from id) id both → Fits opening (story_joined y from id) from last
      → Stands opening words (set (set views id both) from last) (story_joined y from id)
  keeps_join both last more more' fits_both fits_last =
      let y' = story_joined y from id in record {
        legal = stands.legal;
        replays = stands.replays;
        entries = stands.entries;
        chained = stands.chained;
        told = λ s in_splits.
            let old = stands.told s in_splits in record {
              before = old.before;
              follows = old.follows;
              noted = noted_joined both last more more' s.maker s old.noted;
            };
        seats = seats_set (λ i u. Fits opening y' i u) (set views id both) from last
            (λ i u other at.
            seats_set (λ j z. j ≢ from → Fits opening y' j z) views id both
            (λ j z _ at'. λ other'. fits_moved j z other' (stands.seats j z at'))
            (λ _. fits_both)
            i u at other)
            fits_last;
      }
