-- Each kind of step keeps the rule, and tells what it says.
use Rattle.std.proofs.Common.{◌≡◌, ◌≢◌, ◌≤◌, ◌<◌, ◌+◌, ◌-◌, ◌%◌, ◌^◌, ◌⊎◌, ℕ, zero, suc, eqb, Bool, true, false, cond, Option, Err, List, [], set, length, replicate, Contains, slice_index, slice_set, refl, sym, ap, ◌∙◌, subst, inl, inr, ⊎_elim, eq-eqb, ne_eqb, length-set, get_or-set_same, get_or-set_other, arith}
use Rattle.std.proofs.lemmas.Bool.{cases_eq}
use Rattle.std.proofs.lemmas.List.{set-get_or, length-replicate}
use Rattle.std.proofs.lemmas.List.Elements.{Contains-push_cases, Contains-append_cases}
use mathlib.Core.Option.{Option as Home, some}
use lib.ListN.{get_elem?}
use prog.Atomic.{either}
use Rattle.atomic_table.specs.Table.{State, Me, Act, opening, keeps, Allows, Splits, Joins, Valid, stepped, carried_after}
use Rattle.atomic_table.proofs.Lists.{set_here, set_else, set_again}
use Rattle.ctx_set.specs.declared.steps.StackStep.{StackStep}
use Rattle.context_set.specs.declared.node.Node.{Node}
use Rattle.context_set.specs.declared.view.CtxView.{CtxView}
use Rattle.context_set.specs.Paths.{Path, IsStep}
use Rattle.context_set.specs.Held.{KnowsParent, enters, Known, KnowsNode, HasOnePath, path_of}
use Rattle.context_set.specs.Keys.{number_of, key_of, place}
use Rattle.context_set.specs.Rule.{IsOther, IsSet, IsKept}
use Rattle.context_set.specs.Steps.{first_view, Tells, found, missed, looked, put, counted, splits, split_off, takes_in, spent, wanted, IsBefore, IsSeat}
use Rattle.context_set.specs.declared.keys.Ask.{Ask}
use Rattle.context_set.specs.Passes.{IsAsked}
use Rattle.context_set.specs.Tree.{kid}
use Rattle.context_set.proofs.Tree.{kid_above}
use Rattle.context_set.proofs.Seats.{at_within}
use Rattle.context_set.proofs.Paths.{node_is}
use Rattle.context_set.proofs.Ways.{way_key, key_path}
use Rattle.context_set.proofs.Kept.{missed_last, missed_one, alike_itself, alike_found, alike_missed, wanted_way, found_fits, missed_fits}
use Rattle.context_set.proofs.SetSteps.{keeps_view, keeps_key}
use Rattle.context_set.proofs.SetCounts.{keeps_count}
use Rattle.context_set.proofs.SetJoins.{set_first, keeps_split, keeps_join}
use Rattle.context_set.proofs.Wholes.{tells}

cases_zero : (x : ℕ) → (x ≡ 0) ⊎ (x ≢ 0)
cases_zero zero = inl refl
cases_zero (suc x) = inr (λ (e : suc x ≡ 0). omega arith)

-- a view that is of the same pass, and knows no node but one more, at this slot
pub record Stays (at : ℕ) (v w : CtxView) : Type 0 where
  pub live : w.live ≡ v.live
  pub slots : w.slots ≡ v.slots
  pub nodes : (k : Known) → Contains w.held.known k → (Contains v.held.known k) ⊎ (k.node.number ≡ at)

pub stays_itself : (at : ℕ) (v : CtxView) → Stays at v v
stays_itself at v = record { live = refl; slots = refl; nodes = λ k there. inl there }

pub stays_found : (at : ℕ) (v : CtxView) (p : Path) → Stays at v (found v at p)
stays_found at v p = record {
  live = refl;
  slots = refl;
  nodes = λ k there. ⊎_elim inl (λ (new : record { node = record { number = at }; path = p } ≡ k). inr (ap (λ (x : Known). x.node.number) (sym new))) (Contains-push_cases v.held.known record { node = record { number = at }; path = p } k there);
}

pub stays_missed : (at : ℕ) (v : CtxView) (key tried : ℕ) (p : Path) → Stays at v (missed v key tried p)
stays_missed at v key tried p =
    ⊎_elim
    (λ (last : tried + 1 ≡ v.slots). subst (λ (w : CtxView). Stays at v w) (sym (missed_last v key tried p last)) record { live = refl; slots = refl; nodes = λ k there. inl there })
    (λ (other : tried + 1 ≡ v.slots → ⊥). subst (λ (w : CtxView). Stays at v w) (sym (missed_one v key tried p other)) record { live = refl; slots = refl; nodes = λ k there. inl there })
    (cases_eq (tried + 1) v.slots)

pub stays_full : (at : ℕ) (v : CtxView) (b : Bool) (key tried : ℕ) (p : Path) → Stays at v (cond b (found v at p) (missed v key tried p))
stays_full at v true key tried p = stays_found at v p
stays_full at v false key tried p = stays_missed at v key tried p

pub stays_looked : (at : ℕ) (v : CtxView) (key tried : ℕ) (p : Path) (word : ℕ) → Stays at v (looked v at key tried p word)
stays_looked at v key tried p word = go (eqb word 0) where
  go : (b : Bool) → Stays at v (cond b v (cond (eqb word key) (found v at p) (missed v key tried p)))
  go true = stays_itself at v
  go false = stays_full at v (eqb word key) key tried p

pub stays_put : (at : ℕ) (v : CtxView) (key tried : ℕ) (p : Path) (word : ℕ) → Stays at v (put v at key tried p word)
stays_put at v key tried p word = go (eqb word 0) where
  go : (b : Bool) → Stays at v (cond b (found v at p) (cond (eqb word key) (found v at p) (missed v key tried p)))
  go true = stays_found at v p
  go false = stays_full at v (eqb word key) key tried p

-- the rule where words and homes are as they were
same_words : (n : ℕ) (s : State ℕ CtxView) (kept : IsKept n s) (views : List CtxView) (at x : ℕ) → x ≡ slice_index s.words at
    → IsSet n (slice_index s.words) kept.path views → IsKept n record { words = slice_set s.words at x; homes = s.homes; views = views }
same_words n s kept views at x same is =
    let words : slice_set s.words at x ≡ s.words = ap (λ (y : ℕ). slice_set s.words at y) same ∙ set-get_or s.words at 0 in record {
      wide = length-set s.words at x ∙ kept.wide;
      path = kept.path;
      set = subst (λ (ws : List ℕ). IsSet n (slice_index ws) kept.path views) (sym words) is;
    }

-- the rule from its record, where a view has another name
kept_at : (n : ℕ) (words : List ℕ) (homes : List (Home ℕ)) (views : List CtxView) (id : ℕ) (w w' : CtxView) {path : ℕ → Path} → w ≡ w' → length words ≡ n + n
    → IsSet n (slice_index words) path (set views id w) → IsKept n record { words = words; homes = homes; views = set views id w' }
kept_at n words homes views id w w' {path} same wide is = record { wide = wide; path = path; set = subst (λ (u : CtxView). IsSet n (slice_index words) path (set views id u)) same is }

module _ (n : ℕ) (most : n ≤ 65536) (r : ℕ → ℕ) (path : ℕ → Path) (views : List CtxView) (is : IsSet n r path views)
    (id : ℕ) (v : CtxView) (there : get_elem? views id ≡ some v) (lives : v.live ≡ true) (parent : Option Node) (step : StackStep) (small : IsStep step) (knows : KnowsParent v.held parent)
    (tried : ℕ) (before : IsBefore v (key_of (number_of parent) step) tried)
    (at : ℕ) (within : at < n) (here : at ≡ place n (key_of (number_of parent) step) tried) where
  -- a slot with a key: this one, or another
  full_slot : 0 < r at → IsSet n r path (set views id (cond (eqb (r at) (key_of (number_of parent) step)) (found v at (wanted v parent step)) (missed v (key_of (number_of parent) step) tried (wanted v parent step))))
  full_slot holds =
      let key = key_of (number_of parent) step in
      let p = wanted v parent step in
      let fits = is.fits id v there in
      let way = wanted_way n r path v fits parent step knows in
      ⊎_elim
      (λ (same : r at ≡ key).
      rw (eq-eqb (r at) key same)
      (keeps_view n r path views is id v there (found v at p) (alike_found v at p)
      (found_fits n r path v fits at p lives (within, holds, key_path n r path most is.slots (number_of parent) step p way small at within holds same))))
      (λ (other : r at ≡ key → ⊥).
      let is_other : IsOther n r key at = (within, holds, other) in
      rw (ne_eqb (r at) key other)
      (keeps_view n r path views is id v there (missed v key tried p) (alike_missed v key tried p)
      (missed_fits n r path v fits key tried p lives before (subst (λ (i : ℕ). IsOther n r key i) here is_other)
      (λ i inside full same. way_key n r path most is.slots (number_of parent) step p way i inside full same))))
      (cases_eq (r at) key)

  look_set : IsSet n r path (set views id (looked v at (key_of (number_of parent) step) tried (wanted v parent step) (r at)))
  look_set =
      ⊎_elim
      (λ (none : r at ≡ 0). rw (eq-eqb (r at) 0 none) (keeps_view n r path views is id v there v (alike_itself v) (is.fits id v there)))
      (λ (some : r at ≢ 0). rw (ne_eqb (r at) 0 some) (full_slot (omega arith)))
      (cases_zero (r at))

module _ (n : ℕ) (most : n ≤ 65536) (slots id : ℕ) (me : Me ℕ CtxView) (lives : me.0.live ≡ true) (parent : Option Node) (step : StackStep) (small : IsStep step) (knows : KnowsParent me.0.held parent)
    (tried : ℕ) (before : IsBefore me.0 (key_of (number_of parent) step) tried)
    (at : ℕ) (within : at < n) (here : at ≡ place n (key_of (number_of parent) step) tried) where
  pub allows_look : Allows (IsKept n) slots id me at (λ x. x) (λ word me'. (me' ≡ (looked me.0 at (key_of (number_of parent) step) tried (wanted me.0 parent step) word, me.1)) × Tells me'.0)
  allows_look s kept homes there small_word =
      let word = slice_index s.words at in
      let w = looked me.0 at (key_of (number_of parent) step) tried (wanted me.0 parent step) word in
      let is = look_set n most (slice_index s.words) kept.path s.views kept.set id me.0 there lives parent step small knows tried before at within here in
      let in_views : get_elem? (set s.views id w) id ≡ some w = set_here s.views id w (at_within s.views id me.0 there) in (
        w,
        keeps,
        tt,
        same_words n s kept (set s.views id w) at word refl is,
        (refl, tells n most (slice_index s.words) kept.path (set s.views id w) is id w in_views ((stays_looked at me.0 (key_of (number_of parent) step) tried (wanted me.0 parent step) word).live ∙ lives)),
      )

  pub allows_put : Allows (IsKept n) slots id me at (λ x. either (eqb x 0) (key_of (number_of parent) step) x) (λ word me'. (me' ≡ (put me.0 at (key_of (number_of parent) step) tried (wanted me.0 parent step) word, me.1)) × Tells me'.0)
  allows_put s kept homes there small_word =
      ⊎_elim
      (λ (none : slice_index s.words at ≡ 0). result (empty none))
      (λ (some : slice_index s.words at ≢ 0). result (full some))
      (cases_zero (slice_index s.words at))
    where
      word : ℕ
      word = slice_index s.words at

      after : CtxView
      after = put me.0 at (key_of (number_of parent) step) tried (wanted me.0 parent step) (slice_index s.words at)

      Goes : ℕ → Type 0
      Goes x = (is : IsKept n record { words = slice_set s.words at x; homes = s.homes; views = set s.views id after }) × Tells after

      in_views : get_elem? (set s.views id after) id ≡ some after
      in_views = set_here s.views id after (at_within s.views id me.0 there)

      stays : after.live ≡ true
      stays = (stays_put at me.0 (key_of (number_of parent) step) tried (wanted me.0 parent step) (slice_index s.words at)).live ∙ lives

      goes : (x : ℕ) → IsKept n record { words = slice_set s.words at x; homes = s.homes; views = set s.views id after } → Goes x
      goes x is = (is, tells n most (slice_index (slice_set s.words at x)) is.path (set s.views id after) is.set id after in_views stays)

      result : Goes (either (eqb (slice_index s.words at) 0) (key_of (number_of parent) step) (slice_index s.words at))
          → (w : CtxView) × (a : Act ℕ) × Valid s.homes me.1 a
          × IsKept n (stepped s at (either (eqb (slice_index s.words at) 0) (key_of (number_of parent) step) (slice_index s.words at)) id me.1 w a)
          × ((◌≡◌ {A = Me ℕ CtxView} (w, carried_after me.1 a) (put me.0 at (key_of (number_of parent) step) tried (wanted me.0 parent step) (slice_index s.words at), me.1)) × Tells w)
      result (is, tell) = (after, keeps, tt, is, (refl, tell))

      empty : slice_index s.words at ≡ 0 → Goes (either (eqb (slice_index s.words at) 0) (key_of (number_of parent) step) (slice_index s.words at))
      empty none =
          let key = key_of (number_of parent) step in
          let long : at < length s.words = omega (arith, kept.wide) in
          let written : slice_index (slice_set s.words at key) at ≡ key = get_or-set_same s.words at key 0 long in
          let others : (j : ℕ) → j ≢ at → slice_index (slice_set s.words at key) j ≡ slice_index s.words j = λ j other. get_or-set_other s.words at j key 0 other in
          let next = keeps_key n (slice_index s.words) kept.path s.views kept.set id me.0 there most lives parent step small knows tried before at within here none (slice_index (slice_set s.words at key)) others written in
          let same : found me.0 at (wanted me.0 parent step) ≡ after = rw (eq-eqb (slice_index s.words at) 0 none) refl in
          subst (λ (b : Bool). Goes (either b key (slice_index s.words at))) (sym (eq-eqb (slice_index s.words at) 0 none))
          (goes key (kept_at n (slice_set s.words at key) s.homes s.views id (found me.0 at (wanted me.0 parent step)) after same (length-set s.words at key ∙ kept.wide) next))

      full : slice_index s.words at ≢ 0 → Goes (either (eqb (slice_index s.words at) 0) (key_of (number_of parent) step) (slice_index s.words at))
      full taken =
          let slot = full_slot n most (slice_index s.words) kept.path s.views kept.set id me.0 there lives parent step small knows tried before at within here (omega arith) in
          let same : cond (eqb (slice_index s.words at) (key_of (number_of parent) step)) (found me.0 at (wanted me.0 parent step)) (missed me.0 (key_of (number_of parent) step) tried (wanted me.0 parent step)) ≡ after =
          rw (ne_eqb (slice_index s.words at) 0 taken) refl in
          subst (λ (b : Bool). Goes (either b (key_of (number_of parent) step) (slice_index s.words at))) (sym (ne_eqb (slice_index s.words at) 0 taken))
          (goes (slice_index s.words at) (same_words n s kept (set s.views id after) at (slice_index s.words at) refl (subst (λ (w : CtxView). IsSet n (slice_index s.words) kept.path (set s.views id w)) same slot)))

-- a count
pub allows_count : (n : ℕ) → n ≤ 65536 → (slots id : ℕ) (me : Me ℕ CtxView) → me.0.live ≡ true → (node : Node) → KnowsNode me.0.held node → node.number < n → (at : ℕ) → at ≡ n + node.number
    → Allows (IsKept n) slots id me at (λ x. (x + 1) % 2 ^ 64) (λ word me'. (me' ≡ (counted me.0 (path_of me.0.held.known node) word, me.1)) × Tells me'.0)
allows_count n most slots id me lives node knows within at is_at s kept homes there small_word =
    let next = (slice_index s.words at + 1) % 2 ^ 64 in
    let long : at < length s.words = omega (arith, kept.wide) in
    let written : slice_index (slice_set s.words at next) (n + node.number) ≡ (slice_index s.words (n + node.number) + 1) % 2 ^ 64 =
    ap (slice_index (slice_set s.words at next)) (sym is_at) ∙ (get_or-set_same s.words at next 0 long ∙ ap (λ (i : ℕ). (slice_index s.words i + 1) % 2 ^ 64) is_at) in
    let others : (j : ℕ) → j ≢ n + node.number → slice_index (slice_set s.words at next) j ≡ slice_index s.words j = λ j other. get_or-set_other s.words at j next 0 (λ (e : j ≡ at). other (e ∙ is_at)) in
    let w = counted me.0 (path_of me.0.held.known node) (slice_index s.words at) in
    let set_now = keeps_count n (slice_index s.words) kept.path s.views kept.set id me.0 there most lives node knows (slice_index (slice_set s.words at next)) others written in
    let same : counted me.0 (path_of me.0.held.known node) (slice_index s.words (n + node.number)) ≡ w = ap (λ (i : ℕ). counted me.0 (path_of me.0.held.known node) (slice_index s.words i)) (sym is_at) in
    let is : IsSet n (slice_index (slice_set s.words at next)) kept.path (set s.views id w) = subst (λ (u : CtxView). IsSet n (slice_index (slice_set s.words at next)) kept.path (set s.views id u)) same set_now in
    let in_views : get_elem? (set s.views id w) id ≡ some w = set_here s.views id w (at_within s.views id me.0 there) in (
      w,
      keeps,
      tt,
      record { wide = length-set s.words at next ∙ kept.wide; path = kept.path; set = is },
      (refl, tells n most (slice_index (slice_set s.words at next)) kept.path (set s.views id w) is id w in_views lives),
    )

-- a load that changes nothing
pub allows_told : (n : ℕ) → n ≤ 65536 → (slots id : ℕ) (me : Me ℕ CtxView) → me.0.live ≡ true → Allows (IsKept n) slots id me 0 (λ x. x) (λ word me'. (me' ≡ me) × Tells me'.0)
allows_told n most slots id me lives s kept homes there small_word =
    let same = set_again s.views id me.0 there in
    let is : IsSet n (slice_index s.words) kept.path (set s.views id me.0) = subst (λ (vs : List CtxView). IsSet n (slice_index s.words) kept.path vs) (sym same) kept.set in
    (me.0, keeps, tt, same_words n s kept (set s.views id me.0) 0 (slice_index s.words 0) refl is, (refl, tells n most (slice_index s.words) kept.path s.views kept.set id me.0 there lives))

pub splits_pass : (n id : ℕ) (v : CtxView) → v.live ≡ true → Splits (IsKept n) id v (splits v) (split_off v)
splits_pass n id v lives s kept there = record { wide = kept.wide; path = kept.path; set = keeps_split n (slice_index s.words) kept.path s.views kept.set id v there lives }

pub joins_pass : (n id : ℕ) (v : CtxView) (other : ℕ) (w : CtxView) → v.live ≡ true → w.live ≡ true → Joins (IsKept n) id v other w (takes_in v w) spent
joins_pass n id v other w lives lives' s kept there apart other_there =
    let before : get_elem? s.views other ≡ some w = sym (set_else s.views id other (takes_in v w) apart) ∙ other_there in
    record { wide = kept.wide; path = kept.path; set = keeps_join n (slice_index s.words) kept.path s.views kept.set id v there lives other w before lives' apart }

-- a fact about what is asked, under other names of it
renamed : (Goal : ℕ → Option Node → StackStep → ℕ → Type 0) (n k : ℕ) (a b : Option Node) (s s' : StackStep) (t t' : ℕ) → k ≡ n → b ≡ a → s' ≡ s → t' ≡ t → Goal n a s t → Goal k b s' t'
renamed Goal n k a b s s' t t' about parent step tried fact =
    subst (λ (x : ℕ). Goal x b s' t') (sym about) (subst (λ (x : Option Node). Goal n x s' t') (sym parent) (subst (λ (x : StackStep). Goal n a x t') (sym step) (subst (λ (x : ℕ). Goal n a s x) (sym tried) fact)))

module _ (n : ℕ) (most : n ≤ 65536) (slots id : ℕ) (me : Me ℕ CtxView) (seat : IsSeat n me) (ask : Ask) (at tried : ℕ) (asked : IsAsked n me.0 ask at tried)
    (k : ℕ) (about : k ≡ n) (parent : Option Node) (step : StackStep) (t : ℕ) (same_parent : parent ≡ ask.parent) (same_step : step ≡ ask.step) (same_tried : t ≡ tried) where
  pub looks_asked : Allows (IsKept k) slots id me at (λ x. x) (λ word me'. (me' ≡ (looked me.0 at (key_of (number_of parent) step) t (wanted me.0 parent step) word, me.1)) × Tells me'.0)
  looks_asked =
      renamed (λ k parent step t. Allows (IsKept k) slots id me at (λ x. x) (λ word me'. (me' ≡ (looked me.0 at (key_of (number_of parent) step) t (wanted me.0 parent step) word, me.1)) × Tells me'.0))
      n k ask.parent parent ask.step step tried t about same_parent same_step same_tried
      (allows_look n most slots id me seat.lives ask.parent ask.step asked.small asked.knows tried
      (subst (λ (key : ℕ). IsBefore me.0 key tried) asked.key asked.before) at asked.within (asked.here ∙ ap (λ (key : ℕ). place n key tried) asked.key))

  pub puts_asked : Allows (IsKept k) slots id me at (λ x. either (eqb x 0) ask.key x) (λ word me'. (me' ≡ (put me.0 at (key_of (number_of parent) step) t (wanted me.0 parent step) word, me.1)) × Tells me'.0)
  puts_asked =
      renamed (λ k parent step t. Allows (IsKept k) slots id me at (λ x. either (eqb x 0) ask.key x) (λ word me'. (me' ≡ (put me.0 at (key_of (number_of parent) step) t (wanted me.0 parent step) word, me.1)) × Tells me'.0))
      n k ask.parent parent ask.step step tried t about same_parent same_step same_tried
      (subst (λ (key : ℕ). Allows (IsKept n) slots id me at (λ x. either (eqb x 0) key x) (λ word me'. (me' ≡ (put me.0 at (key_of (number_of ask.parent) ask.step) tried (wanted me.0 ask.parent ask.step) word, me.1)) × Tells me'.0)) (sym asked.key)
      (allows_put n most slots id me seat.lives ask.parent ask.step asked.small asked.knows tried
      (subst (λ (key : ℕ). IsBefore me.0 key tried) asked.key asked.before) at asked.within (asked.here ∙ ap (λ (key : ℕ). place n key tried) asked.key)))

-- the seat stays that of a pass
seat_kept : (n at : ℕ) (me me' : Me ℕ CtxView) (w : CtxView) → IsSeat n me → at < n → Stays at me.0 w → me' ≡ (w, me.1) → Tells me'.0 → IsSeat n me'
seat_kept n at me me' w seat within stays is tell = record {
  bare = ap (λ (m : Me ℕ CtxView). m.1) is ∙ seat.bare;
  lives = ap (λ (m : Me ℕ CtxView). m.0.live) is ∙ (stays.live ∙ seat.lives);
  slots = ap (λ (m : Me ℕ CtxView). m.0.slots) is ∙ (stays.slots ∙ seat.slots);
  nodes = λ k there.
      ⊎_elim
      (λ (before : Contains me.0.held.known k). seat.nodes k before)
      (λ (new : k.node.number ≡ at). subst (λ (i : ℕ). i < n) (sym new) within)
      (stays.nodes k (subst (λ (m : Me ℕ CtxView). Contains m.0.held.known k) is there));
  tells = tell;
}

module _ (n at : ℕ) (me me' : Me ℕ CtxView) (seat : IsSeat n me) (within : at < n) (key tried : ℕ) (p : Path) (word : ℕ) where
  pub seat_looked : (me' ≡ (looked me.0 at key tried p word, me.1)) × Tells me'.0 → IsSeat n me'
  seat_looked (is, tell) = seat_kept n at me me' (looked me.0 at key tried p word) seat within (stays_looked at me.0 key tried p word) is tell

  pub seat_put : (me' ≡ (put me.0 at key tried p word, me.1)) × Tells me'.0 → IsSeat n me'
  seat_put (is, tell) = seat_kept n at me me' (put me.0 at key tried p word) seat within (stays_put at me.0 key tried p word) is tell

-- a new table
pub kept_opening : (n : ℕ) (words : List ℕ) → words ≡ replicate (n + n) 0 → IsKept n (opening words [] (first_view n))
kept_opening n words is = record {
  wide = ap length is ∙ length-replicate (n + n) 0;
  path = λ i. [];
  set = set_first n (slice_index words) (λ i. ap (λ (ws : List ℕ). slice_index ws i) is ∙ zeros (n + n) i);
} where
  zeros : (m i : ℕ) → slice_index (replicate m 0) i ≡ 0
  zeros zero i = refl
  zeros (suc m) zero = refl
  zeros (suc m) (suc i) = zeros m i

-- what is asked at the first slot, and at the next one
pub asked_first : (v : CtxView) (key : ℕ) → IsBefore v key 0
asked_first v key = inl refl

-- after a slot with another key: the path is refused, or one more slot was seen
pub missed_held : (v : CtxView) (n key tried : ℕ) (p : Path) → v.slots ≡ n → tried < n
    → ((tried + 1 < n → ((missed v key tried p).held ≡ v.held) × IsBefore (missed v key tried p) key (tried + 1)))
    × (tried + 1 ≡ n → (missed v key tried p).held ≡ enters v.held p (Err record {}))
missed_held v n key tried p many within = (
  (λ before.
      let is = missed_one v key tried p (λ (e : tried + 1 ≡ v.slots). omega arith) in
      (ap (λ (w : CtxView). w.held) is, inr (ap (λ (w : CtxView). w.trying) is, ap (λ (w : CtxView). w.tried) is))),
  (λ last. ap (λ (w : CtxView). w.held) (missed_last v key tried p (last ∙ sym many))),
)

-- a seat that knows no more nodes
seat_same : (n : ℕ) (me me' : Me ℕ CtxView) (w : CtxView) → IsSeat n me → w.live ≡ me.0.live → w.slots ≡ me.0.slots
    → ((k : Known) → Contains w.held.known k → Contains me.0.held.known k) → me' ≡ (w, me.1) → Tells me'.0 → IsSeat n me'
seat_same n me me' w seat live slots nodes is tell = record {
  bare = ap (λ (m : Me ℕ CtxView). m.1) is ∙ seat.bare;
  lives = ap (λ (m : Me ℕ CtxView). m.0.live) is ∙ (live ∙ seat.lives);
  slots = ap (λ (m : Me ℕ CtxView). m.0.slots) is ∙ (slots ∙ seat.slots);
  nodes = λ k there. seat.nodes k (nodes k (subst (λ (m : Me ℕ CtxView). Contains m.0.held.known k) is there));
  tells = tell;
}

-- the seats after a count, a split and a join
pub seat_counted : (n : ℕ) (me me' : Me ℕ CtxView) (p : Path) (word : ℕ) → IsSeat n me → (me' ≡ (counted me.0 p word, me.1)) × Tells me'.0 → IsSeat n me'
seat_counted n me me' p word seat (is, tell) =
    seat_same n me me' (counted me.0 p word) seat refl refl (λ k there. there) is tell

pub seat_split : (n : ℕ) (me me' : Me ℕ CtxView) → IsSeat n me → me' ≡ (splits me.0, me.1) → Tells me'.0 → IsSeat n me'
seat_split n me me' seat is tell = seat_same n me me' (splits me.0) seat refl refl (λ k there. there) is tell

-- a new pass isn't the first one
pub seat_split_off : (n : ℕ) (me made : Me ℕ CtxView) → IsSeat n me → made ≡ (split_off me.0, []) → IsSeat n made
seat_split_off n me made seat is = record {
  bare = ap (λ (m : Me ℕ CtxView). m.1) is;
  lives = ap (λ (m : Me ℕ CtxView). m.0.live) is;
  slots = ap (λ (m : Me ℕ CtxView). m.0.slots) is ∙ seat.slots;
  nodes = λ k there. seat.nodes k (subst (λ (m : Me ℕ CtxView). Contains m.0.held.known k) is there);
  tells = record {
    sound = λ whole.
        let above = kid_above me.0.held.number me.0.splits in
        let number : made.0.held.number ≡ kid me.0.held.number me.0.splits = ap (λ (m : Me ℕ CtxView). m.0.held.number) is in
        absurd (omega (arith, whole.first));
    known = subst (λ (m : Me ℕ CtxView). HasOnePath m.0.held.known) (sym is) seat.tells.known;
  };
}

pub seat_join : (n : ℕ) (me other me' : Me ℕ CtxView) → IsSeat n me → IsSeat n other → me' ≡ (takes_in me.0 other.0, me.1) → Tells me'.0 → IsSeat n me'
seat_join n me other me' seat seat' is tell = record {
  bare = ap (λ (m : Me ℕ CtxView). m.1) is ∙ seat.bare;
  lives = ap (λ (m : Me ℕ CtxView). m.0.live) is ∙ seat.lives;
  slots = ap (λ (m : Me ℕ CtxView). m.0.slots) is ∙ seat.slots;
  nodes = λ k there.
      ⊎_elim (seat.nodes k) (seat'.nodes k)
      (Contains-append_cases me.0.held.known other.0.held.known k (subst (λ (m : Me ℕ CtxView). Contains m.0.held.known k) is there));
  tells = tell;
}

-- a node that is known is one of the slots
pub node_within : (n : ℕ) (me : Me ℕ CtxView) (node : Node) → IsSeat n me → KnowsNode me.0.held node → node.number < n
node_within n me node seat (k, there, is) = subst (λ (m : Node). m.number < n) is (seat.nodes k there)

-- the rule under the name of its key
module _ (n k : ℕ) (about : k ≡ n) where
  pub counts_known : n ≤ 65536 → (slots id : ℕ) (me : Me ℕ CtxView) → IsSeat n me → (node : Node) → KnowsNode me.0.held node
      → Allows (IsKept k) slots id me (n + node.number) (λ x. (x + 1) % 2 ^ 64) (λ word me'. (me' ≡ (counted me.0 (path_of me.0.held.known record { number = n + node.number - me.0.slots }) word, me.1)) × Tells me'.0)
  counts_known most slots id me seat node knows =
      let same : node ≡ record { number = n + node.number - me.0.slots } = node_is node record { number = n + node.number - me.0.slots } (omega (arith, seat.slots)) in
      subst (λ (x : ℕ). Allows (IsKept x) slots id me (n + node.number) (λ x. (x + 1) % 2 ^ 64) (λ word me'. (me' ≡ (counted me.0 (path_of me.0.held.known record { number = n + node.number - me.0.slots }) word, me.1)) × Tells me'.0)) (sym about)
      (subst (λ (m : Node). Allows (IsKept n) slots id me (n + node.number) (λ x. (x + 1) % 2 ^ 64) (λ word me'. (me' ≡ (counted me.0 (path_of me.0.held.known m) word, me.1)) × Tells me'.0)) same
      (allows_count n most slots id me seat.lives node knows (node_within n me node seat knows) (n + node.number) refl))

  pub told_known : n ≤ 65536 → (slots id : ℕ) (me : Me ℕ CtxView) → me.0.live ≡ true → Allows (IsKept k) slots id me 0 (λ x. x) (λ word me'. (me' ≡ me) × Tells me'.0)
  told_known most slots id me lives = subst (λ (x : ℕ). Allows (IsKept x) slots id me 0 (λ x. x) (λ word me'. (me' ≡ me) × Tells me'.0)) (sym about) (allows_told n most slots id me lives)

  pub splits_known : (id : ℕ) (v : CtxView) → v.live ≡ true → Splits (IsKept k) id v (splits v) (split_off v)
  splits_known id v lives = subst (λ (x : ℕ). Splits (IsKept x) id v (splits v) (split_off v)) (sym about) (splits_pass n id v lives)

  pub joins_known : (id : ℕ) (v : CtxView) (other : ℕ) (w : CtxView) → v.live ≡ true → w.live ≡ true → Joins (IsKept k) id v other w (takes_in v w) spent
  joins_known id v other w lives lives' = subst (λ (x : ℕ). Joins (IsKept x) id v other w (takes_in v w) spent) (sym about) (joins_pass n id v other w lives lives')
