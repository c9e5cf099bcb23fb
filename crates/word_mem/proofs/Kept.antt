-- Each move of the seats keeps the rule of a shared memory.
use Rattle.std.proofs.Common.{◌≡◌, ◌≢◌, ◌≤◌, ◌⊎◌, ℕ, zero, suc, ◌+◌, true, false, true≢false, List, [], ◌∷◌, ◌++◌, set, length, Contains, refl, sym, ap, ◌∙◌, subst, inl, inr, ⊎_elim, arith}
use Rattle.std.proofs.lemmas.List.Elements.{Contains-push, Contains-push_cases, Contains-append_left, Contains-append_right, Contains-append_cases}
use mathlib.Core.Option.{some, some-injective, some-ne-none}
use lib.ListN.{get_elem?}
use Rattle.atomic_table.proofs.Lists.{set_here, at_longer}
use Rattle.word_mem.specs.declared.event.WordEvent.{WordEvent}
use Rattle.word_mem.specs.declared.view.View.{View}
use Rattle.word_mem.specs.declared.view.Fresh.{Fresh}
use Rattle.word_mem.specs.declared.view.Fresh.TheVariants.{Nothing, One, From}
use Rattle.word_mem.specs.Replay.{after, IsAllowed}
use Rattle.word_mem.specs.Merge.{part}
use Rattle.word_mem.specs.Held.{Made, Joined, split_of, list_of}
use Rattle.word_mem.specs.Story.{Gives, HasBegun, Story, Fits, IsNoted, IsTold, Stands, HasStory}
use Rattle.word_mem.specs.Moves.{first_view, with_event, entry_by, next_number, dealer, dealt, adopter, maker, newborn, taker, spent}
use Rattle.word_mem.proofs.Lists.{Contains-none, Contains-here, Contains-there}
use Rattle.word_mem.proofs.Parts.{part-none, Follows-none}
use Rattle.word_mem.proofs.Seats.{at_within, given_same, given_other, moved, moved_same}
use Rattle.word_mem.proofs.Keeping.{keeps_event, begun_more, story_split, fits_still, keeps_split, story_joined, fits_moved, keeps_join}

first_story : Story
first_story = record { merge = []; splits = []; owner = λ n. 0 }

none_begun : (n : ℕ) → 1 ≤ n → HasBegun [] n → ⊥
none_begun n later (inl first) = omega arith
none_begun n later (inr (s, there, is)) = Contains-none s there

-- a spent seat says nothing
fits_spent : (opening : List ℕ) (y : Story) (id : ℕ) → Fits opening y id spent
fits_spent opening y id = record {
  gives = λ n gives. absurd gives;
  opens = λ alive. absurd (true≢false (sym alive));
  own = λ alive. absurd (true≢false (sym alive));
  joined = λ alive. absurd (true≢false (sym alive));
  made = λ alive. absurd (true≢false (sym alive));
}

pub kept_first : (opening : List ℕ) → HasStory opening opening (first_view opening ∷ []) []
unfolding first_story
kept_first opening = (
  first_story,
  refl,
  record {
    legal = tt;
    replays = refl;
    entries = λ x there. absurd (Contains-none x there);
    chained = tt;
    told = λ s there. absurd (Contains-none s there);
    seats = the_first;
  },
) where
  the_first : (id : ℕ) (v : View) → get_elem? (first_view opening ∷ []) id ≡ some v → Fits opening first_story id v
  the_first zero v at =
      let is : first_view opening ≡ v = some-injective (first_view opening) v at in
      let fits : Fits opening first_story 0 (first_view opening) = record {
        gives = λ n later. (refl, none_begun n later);
        opens = λ _. refl;
        own = λ _. (refl, inl refl, refl);
        joined = λ _ j there. absurd (Contains-none j there);
        made = λ _ s there. absurd (Contains-none s there);
      } in
      subst (λ (u : View). Fits opening first_story 0 u) is fits
  the_first (suc id) v at = absurd (some-ne-none v (sym at))

module _ (opening words : List ℕ) (views : List View) (y : Story) (stands : Stands opening words views y)
    (id : ℕ) (v : View) (there : get_elem? views id ≡ some v) where
  pub kept_event : v.alive ≡ true → (e : WordEvent) → IsAllowed words e → HasStory opening (after words e) (set views id (with_event v e)) (y.merge ++ entry_by v e ∷ [])
  kept_event alive e allowed = (_, refl, keeps_event opening words views y stands id v there alive e allowed)

  -- the seat deals its next number
  pub kept_deal : (k : ℕ) → v.fresh ≡ From k → HasStory opening words (set views id (dealer v) ++ dealt v ∷ []) y.merge
  kept_deal k starts =
      let fits = stands.seats id v there in
      let number = next_number v.fresh in
      let to = length views in
      let k_is : number ≡ k = ap next_number starts in
      let may_give : (n : ℕ) → number ≤ n → Gives v.fresh n = λ n later. subst (λ (f : Fresh). Gives f n) (sym starts) (omega arith) in
      let its = fits.gives number (may_give number (omega arith)) in
      let left = fits_still opening words views y stands id v there number its.0 its.1 y.splits (λ n begun. begun) (λ n _ begun. begun) (λ s here. here)
      id v fits (From (number + 1))
      (λ n later.
      let old = fits.gives n (may_give n (omega arith)) in
      let apart : n ≢ number = λ is. omega arith in
      (given_other number to y.owner n apart ∙ old.0, old.1)) in
      let right : Fits opening (story_split y y.splits number to) to (dealt v) = record {
        gives = λ n is. (given_same number to y.owner n is, λ begun. its.1 (subst (λ (m : ℕ). HasBegun y.splits m) is begun));
        opens = λ alive. absurd (true≢false (sym alive));
        own = λ alive. absurd (true≢false (sym alive));
        joined = λ alive. absurd (true≢false (sym alive));
        made = λ alive. absurd (true≢false (sym alive));
      } in (
        _,
        refl,
        keeps_split opening words views y stands id v there number its.0 its.1 y.splits (λ n begun. begun) (λ n _ begun. begun) (λ s here. here)
            (dealer v) (dealt v) (λ alive. (alive, λ s here. here)) stands.chained (λ s here. inl here) left right,
      )

-- a pass makes another of the number that it may give
module _ (opening words : List ℕ) (views : List View) (y : Story) (stands : Stands opening words views y)
    (id : ℕ) (v : View) (there : get_elem? views id ≡ some v) (alive : v.alive ≡ true) (t : ℕ) (gives_one : v.fresh ≡ One t) where
  fits_v : Fits opening y id v
  fits_v = stands.seats id v there

  its : (y.owner (next_number v.fresh) ≡ id) × ¬ (HasBegun y.splits (next_number v.fresh))
  its = fits_v.gives (next_number v.fresh) (subst (λ (f : Fresh). Gives f (next_number f)) (sym gives_one) refl)

  no_entry : (n : ℕ) → n ≡ next_number v.fresh → part n y.merge ≡ []
  no_entry n is = part-none n y.merge (λ x in_merge same. its.1 (subst (λ (m : ℕ). HasBegun y.splits m) (same ∙ is) (stands.entries x in_merge)))

  only_new : (n : ℕ) → n ≢ next_number v.fresh → HasBegun (split_of v.held (next_number v.fresh) ∷ y.splits) n → HasBegun y.splits n
  only_new n apart (inl first) = inl first
  only_new n apart (inr (s, (zero, within, same), is)) = absurd (apart (is ∙ ap (λ (r : Made). r.number) (sym same)))
  only_new n apart (inr (s, (suc k, within, same), is)) = inr (s, (k, omega arith, same), is)

  told_new : IsTold (set views id (maker v) ++ newborn v ∷ []) (story_split y (split_of v.held (next_number v.fresh) ∷ y.splits) (next_number v.fresh) (length views)) (split_of v.held (next_number v.fresh))
  told_new =
      let s = split_of v.held (next_number v.fresh) in
      let own = fits_v.own alive in
      let views' = set views id (maker v) ++ newborn v ∷ [] in
      let apart : v.held.number ≢ next_number v.fresh = λ is. its.1 (subst (λ (m : ℕ). HasBegun y.splits m) is own.1) in
      let at = given_other (next_number v.fresh) (length views) y.owner v.held.number apart ∙ own.0 in
      let noted : IsNoted views' id s = record {
        holder = maker v;
        there = at_longer (set views id (maker v)) (newborn v ∷ []) id (maker v) (set_here views id (maker v) (at_within views id v there));
        lives = alive;
        noted = Contains-push v.held.made s;
      } in record {
        before = let same : length (part v.held.number y.merge) ≡ length v.held.own = ap length own.2 in omega arith;
        follows = Follows-none y.merge s (λ x in_merge is. its.1 (subst (λ (m : ℕ). HasBegun y.splits m) is (stands.entries x in_merge)));
        noted = subst (λ (i : ℕ). IsNoted views' i s) (sym at) noted;
      }

  new_or_told : (s : Made) → Contains (split_of v.held (next_number v.fresh) ∷ y.splits) s
      → (Contains y.splits s) ⊎ IsTold (set views id (maker v) ++ newborn v ∷ []) (story_split y (split_of v.held (next_number v.fresh) ∷ y.splits) (next_number v.fresh) (length views)) s
  new_or_told s (zero, within, is) =
      inr (subst (λ (r : Made). IsTold (set views id (maker v) ++ newborn v ∷ []) (story_split y (split_of v.held (next_number v.fresh) ∷ y.splits) (next_number v.fresh) (length views)) r) is told_new)
  new_or_told s (suc k, within, is) = inl (k, omega arith, is)

  keeps_bear : Stands opening words (set views id (maker v) ++ newborn v ∷ []) (story_split y (split_of v.held (next_number v.fresh) ∷ y.splits) (next_number v.fresh) (length views))
  keeps_bear =
      let s = split_of v.held (next_number v.fresh) in
      let splits = s ∷ y.splits in
      let grows = begun_more s y.splits in
      let kept : (r : Made) → Contains y.splits r → Contains splits r = λ r here. Contains-there s r y.splits here in
      let still = fits_still opening words views y stands id v there (next_number v.fresh) its.0 its.1 splits grows only_new kept id v fits_v Nothing (λ n none. absurd none) in
      let left : Fits opening (story_split y splits (next_number v.fresh) (length views)) id (maker v) = record {
        gives = still.gives;
        opens = still.opens;
        own = still.own;
        joined = still.joined;
        made = λ lives r in_made.
            ⊎_elim (still.made lives r) (λ (is : s ≡ r). subst (λ (q : Made). Contains splits q) is (Contains-here s y.splits)) (Contains-push_cases v.held.made s r in_made);
      } in
      let right : Fits opening (story_split y splits (next_number v.fresh) (length views)) (length views) (newborn v) = record {
        gives = λ n none. absurd none;
        opens = λ _. fits_v.opens alive;
        own = λ _. (given_same (next_number v.fresh) (length views) y.owner (next_number v.fresh) refl, inr (s, Contains-here s y.splits, refl), no_entry (next_number v.fresh) refl);
        joined = λ _ j in_joined. absurd (Contains-none j in_joined);
        made = λ _ r in_made. absurd (Contains-none r in_made);
      } in
      keeps_split opening words views y stands id v there (next_number v.fresh) its.0 its.1 splits grows only_new kept
      (maker v) (newborn v) (λ lives. (lives, λ r here. Contains-append_left v.held.made (s ∷ []) r here))
      ((fits_v.own alive).1, stands.chained) new_or_told left right

pub kept_bear : (opening words : List ℕ) (views : List View) (y : Story) → Stands opening words views y
    → (id : ℕ) (v : View) → get_elem? views id ≡ some v → v.alive ≡ true → (t : ℕ) → v.fresh ≡ One t
    → HasStory opening words (set views id (maker v) ++ newborn v ∷ []) y.merge
kept_bear opening words views y stands id v there alive t gives_one = (_, refl, keeps_bear opening words views y stands id v there alive t gives_one)

module _ (opening words : List ℕ) (views : List View) (y : Story) (stands : Stands opening words views y)
    (id : ℕ) (v : View) (there : get_elem? views id ≡ some v)
    (from : ℕ) (w : View) (from_there : get_elem? views from ≡ some w) (differ : from ≢ id) where
  -- a seat takes in a spare with its number
  pub kept_adopt : w.alive ≡ false → HasStory opening words (set (set views id (adopter v w)) from spent) y.merge
  kept_adopt waits =
      let moved = fits_moved opening words views y stands id v there from w from_there differ id v (λ is. differ (sym is)) (stands.seats id v there) in
      let fits_w = stands.seats from w from_there in
      let both : Fits opening (story_joined y from id) id (adopter v w) = record {
        gives = λ n gives. let old = fits_w.gives n gives in (moved_same from id y.owner n old.0, old.1);
        opens = moved.opens;
        own = moved.own;
        joined = moved.joined;
        made = moved.made;
      } in (
        _,
        refl,
        keeps_join opening words views y stands id v there from w from_there differ (adopter v w) spent
            (λ alive. (alive, λ s here. here)) (λ alive. absurd (true≢false (sym alive ∙ waits))) both (fits_spent opening (story_joined y from id) from),
      )

-- a pass takes in another with all that it holds
module _ (opening words : List ℕ) (views : List View) (y : Story) (stands : Stands opening words views y)
    (id : ℕ) (v : View) (there : get_elem? views id ≡ some v) (alive : v.alive ≡ true)
    (from : ℕ) (w : View) (from_there : get_elem? views from ≡ some w) (lives : w.alive ≡ true) (differ : from ≢ id) where
  -- a list of the other seat
  taken : (n : ℕ) → y.owner n ≡ from → (moved from id y.owner n ≡ id) × (n ≢ v.held.number)
  taken n is = (moved_same from id y.owner n is, λ same. differ (sym is ∙ (ap y.owner same ∙ ((stands.seats id v there).own alive).0)))

  taken_joined : (j : Joined) → Contains (list_of w.held ∷ w.held.joined) j
      → (moved from id y.owner j.number ≡ id) × HasBegun y.splits j.number × (j.number ≢ v.held.number) × (part j.number y.merge ≡ j.events)
  taken_joined j (zero, within, is) =
      let own = (stands.seats from w from_there).own lives in
      let its = taken w.held.number own.0 in
      subst (λ (i : Joined). (moved from id y.owner i.number ≡ id) × HasBegun y.splits i.number × (i.number ≢ v.held.number) × (part i.number y.merge ≡ i.events)) is (its.0, own.1, its.1, own.2)
  taken_joined j (suc k, within, is) =
      let old = (stands.seats from w from_there).joined lives j (k, omega arith, is) in
      let its = taken j.number old.0 in
      (its.0, old.1, its.1, old.3)

  keeps_take : Stands opening words (set (set views id (taker v w)) from spent) (story_joined y from id)
  keeps_take =
      let moved = fits_moved opening words views y stands id v there from w from_there differ id v (λ is. differ (sym is)) (stands.seats id v there) in
      let both : Fits opening (story_joined y from id) id (taker v w) = record {
        gives = moved.gives;
        opens = moved.opens;
        own = moved.own;
        joined = λ a j in_joined. ⊎_elim (moved.joined a j) (taken_joined j) (Contains-append_cases v.held.joined (list_of w.held ∷ w.held.joined) j in_joined);
        made = λ a s in_made. ⊎_elim (moved.made a s) ((stands.seats from w from_there).made lives s) (Contains-append_cases v.held.made w.held.made s in_made);
      } in
      keeps_join opening words views y stands id v there from w from_there differ (taker v w) spent
      (λ a. (a, λ s here. Contains-append_left v.held.made w.held.made s here))
      (λ a. (alive, λ s here. Contains-append_right v.held.made w.held.made s here))
      both (fits_spent opening (story_joined y from id) from)

pub kept_take : (opening words : List ℕ) (views : List View) (y : Story) → Stands opening words views y
    → (id : ℕ) (v : View) → get_elem? views id ≡ some v → v.alive ≡ true
    → (from : ℕ) (w : View) → get_elem? views from ≡ some w → w.alive ≡ true → from ≢ id
    → HasStory opening words (set (set views id (taker v w)) from spent) y.merge
kept_take opening words views y stands id v there alive from w from_there lives differ =
    (_, refl, keeps_take opening words views y stands id v there alive from w from_there lives differ)
