-- What the sound lists of the set's pass say of the reports.
use Rattle.std.proofs.Common.{◌≡◌, ◌<◌, ◌⊎◌, ◌^◌, ℕ, zero, suc, Ok, Err, List, [], ◌∷◌, ◌++◌, take, length, flat_map, Contains, refl, sym, ap, ◌∙◌, subst, inl, inr, ⊎_elim, arith}
use Rattle.std.specs.List.{list_all}
use Rattle.std.proofs.lemmas.List.{append-nil}
use Rattle.std.proofs.lemmas.List.Elements.{All-contains, Contains-push, Contains-append_left}
use Rattle.atomic_table.specs.Seated.{TableId}
use Rattle.ctx_set.specs.declared.steps.StackStep.{StackStep}
use Rattle.context_set.specs.declared.table.CtxSet.{CtxSet}
use Rattle.context_set.specs.declared.table.CtxPass.{CtxPass}
use Rattle.context_set.specs.Paths.{Path}
use Rattle.context_set.specs.Held.{Entry, Count, Gives, times, firsts, others_of, all_entered, all_counted}
use Rattle.context_set.specs.Held as contexts
use Rattle.context_set.specs.Sound.{IsSound}
use Rattle.context_set.specs.Passes.{place_of, held_of, IsPassOf}
use Rattle.context_set.proofs.Laws.{pass_sound}
use Rattle.reports.specs.declared.board.Noted.{Noted}
use Rattle.reports.specs.declared.board.Noted.TheVariants.{Full}
use Rattle.reports.specs.Counts.{is_counted, counted, AreFair}
use Rattle.reports.specs.Counts as boards
use Rattle.reports.specs.Passes.{Report, Held, Joined, BoardPlace, report_of, reported, all_reports, IsWhole, IsAlone}
use Rattle.reports.specs.Prefixes.{prefixes, asked, distinct, has, has_room, room}
use Rattle.set_board.specs.Mirrors.{all_counts, AreEntered, AreJoined, IsMirror, IsBoardPass}
use Rattle.set_board.proofs.Lists.{nothing, head_of, behind, apart_within, in_distinct}
use Rattle.set_board.proofs.Counting.{times_all, firsts_all, few_counts, counted_some}
use Rattle.set_board.proofs.Exact.{AreAlone, exact}
use Rattle.set_board.proofs.Mirroring.{all_are_entered, whole_too, asked_more}

-- zero, or some
some_or_none : (n : ℕ) → (0 < n) ⊎ (n ≡ 0)
some_or_none zero = inr refl
some_or_none (suc n) = inl (omega arith)

module _ (c : contexts.Held) (reports : List Report) (are : AreEntered (all_entered c) (all_counted c) reports) (sound : IsSound room c) where
  count_is : (q : Path) → times q (all_counted c) ≡ counted q reports
  count_is q = ap (times q) are.counts ∙ times_all q reports

  first_is : (q : Path) → firsts q (all_counted c) ≡ boards.firsts q reports
  first_is q = ap (firsts q) are.counts ∙ firsts_all q reports

  one_first : length reports < 2 ^ 64 → (stack : List StackStep) → 0 < counted stack reports → boards.firsts stack reports ≡ 1
  one_first few stack some =
      let long : length (all_counted c) ≡ length (all_counts reports) = ap length are.counts in
      let most = few_counts reports in
      let fewer : length (all_counted c) < 2 ^ 64 = omega (arith, long, most, few) in
      let same = count_is stack in
      let more : 0 < times stack (all_counted c) = omega (arith, same, some) in
      sym (first_is stack) ∙ sound.one_first fewer stack more

  apart : (stack : List StackStep) → Contains reports (report_of stack Full) → counted stack reports ≡ 0
  apart stack there =
      ⊎_elim
      (λ (some : 0 < counted stack reports).
      let r = counted_some stack reports some in
      let no = are.refused (report_of stack Full) there refl in
      let in_stack : Contains (prefixes r.0.stack) no.0 = subst (λ (s : List StackStep). Contains (prefixes s) no.0) (sym r.2) no.2 in
      let node = are.given r.0 r.1 r.3 no.0 in_stack in
      absurd (sound.apart no.0 node.0 node.1 (no.1, no.3)))
      (λ (none : counted stack reports ≡ 0). none)
      (some_or_none (counted stack reports))

  full : (stack : List StackStep) → Contains reports (report_of stack Full) → room < length (distinct (asked reports))
  full stack there =
      let no = are.refused (report_of stack Full) there refl in
      let many = sound.full no.0 (no.1, no.3) in
      let most = apart_within many.paths (distinct (asked reports)) many.apart
      (λ p in_paths. let e = many.entered p in_paths in in_distinct (asked reports) p (subst (λ (q : Path). Contains (asked reports) q) e.2 (are.paths e.0 e.1))) in
      omega (arith, most, many.more)

  pub are_fair : AreFair reports
  are_fair = record { one_first = one_first; apart = apart; full = full }

-- passes that reported nothing entered nothing
no_elements : {A : Type 0} (xs : List A) → ((x : A) → Contains xs x → ⊥) → xs ≡ []
no_elements [] none = refl
no_elements (x ∷ xs) none = absurd (none x (head_of x xs))

silent_others : (cs : List contexts.Joined) (bs : List Joined) → AreJoined cs bs → ((b : Joined) → Contains bs b → b.reports ≡ []) → flat_map (λ (j : contexts.Joined). j.entered) cs ≡ []
silent_others [] [] are silent = refl
silent_others [] (b ∷ bs) are silent = absurd are
silent_others (c ∷ cs) [] are silent = absurd are
silent_others (c ∷ cs) (b ∷ bs) are silent =
    let none : b.reports ≡ [] = silent b (head_of b bs) in
    let empty : c.entered ≡ [] = no_elements c.entered (λ e there. nothing e.path (subst (λ (rs : List Report). Contains (asked rs) e.path) none (are.1.paths e there))) in
    ap (λ (l : List Entry). l ++ flat_map (λ (j : contexts.Joined). j.entered) cs) empty ∙ silent_others cs bs are.2 (λ x there. silent x (behind x b bs there))

alone_entries : (c : contexts.Held) → others_of c ≡ [] → IsSound room c → AreAlone c.entered
alone_entries c none sound = record {
  within = λ p node there. sound.within p node (more record { path = p; answer = Ok node } there);
  same_node = λ p a b there there'. sound.same_node p a b (more record { path = p; answer = Ok a } there) (more record { path = p; answer = Ok b } there');
  same_path = λ p q node there there'. sound.same_path p q node (more record { path = p; answer = Ok node } there) (more record { path = q; answer = Ok node } there');
  apart = λ p node full there there'. sound.apart p node (more record { path = p; answer = Ok node } there) (full, more record { path = p; answer = Err full } there');
  filled = λ before after p full same i within. subst (λ (l : List Entry). Gives l i) (ap (λ (l : List Entry). before ++ l) none ∙ append-nil before) (sound.filled before after p full same i within);
} where
  more : (e : Entry) → Contains c.entered e → Contains (all_entered c) e
  more e there = Contains-append_left c.entered (others_of c) e there

-- a report of a pass that reports alone is refused exactly where there is no room
exact_report : (c : contexts.Held) (h : Held) (stack : List StackStep) (answer : Noted) → IsMirror c (reported h stack answer) → IsSound room c → IsAlone h → is_counted answer ≡ has_room h.own stack
exact_report c h stack answer m sound alone =
    let none = silent_others c.joined h.joined m.joined (λ b there. All-contains (λ (j : Joined). j.reports ≡ []) h.joined b alone.silent there) in
    let told = exact c.entered c.counted (h.own ++ report_of stack answer ∷ []) m.own m.order (alone_entries c none sound) (report_of stack answer) (Contains-push h.own (report_of stack answer)) in
    told ∙ ap (λ (l : List Path). list_all (has (take room (distinct l))) (prefixes stack)) (asked_more h.own stack answer)

whole_reported : (h : Held) (stack : List StackStep) (answer : Noted) → IsWhole h → IsWhole (reported h stack answer)
whole_reported h stack answer whole = record { first = whole.first; others = whole.others; joined_all = whole.joined_all }

-- the pass of the board, and that of its set
module _ (set : CtxSet) (wide : (place_of set).slots ≡ room) where
  abbrev pub here : BoardPlace
  here = record { tables = (place_of set).table ∷ [] }

  pub to_set : (c : CtxPass) (h : Held) → IsBoardPass here c h → IsPassOf (place_of set) c
  to_set c h b =
      let same : (place_of set).table ≡ b.table = let e = b.tables in cc in
      subst (λ (n : ℕ). IsPassOf record { table = (place_of set).table; slots = n } c) (sym wide) (subst (λ (t : TableId). IsPassOf record { table = t; slots = room } c) (sym same) b.pass)

  in_room : (c : CtxPass) → IsPassOf (place_of set) c → IsPassOf record { table = (place_of set).table; slots = room } c
  in_room c belongs = subst (λ (n : ℕ). IsPassOf record { table = (place_of set).table; slots = n } c) wide belongs

  pub sound_of : (c : CtxPass) (h : Held) → IsPassOf (place_of set) c → IsMirror (held_of c) h → IsWhole h → IsSound room (held_of c)
  sound_of c h belongs m whole = pass_sound record { table = (place_of set).table; slots = room } c (in_room c belongs) (whole_too (held_of c) h m whole)

  pub from_set : (c : CtxPass) (h : Held) → IsPassOf (place_of set) c → IsMirror (held_of c) h → IsBoardPass here c h
  from_set c h belongs m = record {
    table = (place_of set).table;
    tables = refl;
    pass = in_room c belongs;
    mirror = m;
    tells = λ whole. are_fair (held_of c) (all_reports h) (all_are_entered (held_of c) h m) (sound_of c h belongs m whole);
  }

  pub exact_here : (c : CtxPass) (h : Held) (stack : List StackStep) (answer : Noted) → IsPassOf (place_of set) c → IsMirror (held_of c) (reported h stack answer) → IsAlone h → is_counted answer ≡ has_room h.own stack
  exact_here c h stack answer belongs m alone = exact_report (held_of c) h stack answer m (sound_of c (reported h stack answer) belongs m (whole_reported h stack answer alone.whole)) alone

-- few reports make few counts
pub few_counted : (c : contexts.Held) (h : Held) → IsMirror c h → length (all_reports h) < 2 ^ 64 → length (all_counted c) < 2 ^ 64
few_counted c h m few =
    let are = all_are_entered c h m in
    let long : length (all_counted c) ≡ length (all_counts (all_reports h)) = ap length are.counts in
    let most = few_counts (all_reports h) in
    omega (arith, long, most, few)
