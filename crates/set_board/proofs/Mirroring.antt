-- What passes to the set and to the board say of each other, after each call.
use Rattle.std.proofs.Common.{◌≡◌, ◌≤◌, ◌<◌, ℕ, suc, true, false, Ok, Err, List, [], ◌∷◌, ◌++◌, length, map, flat_map, Contains, refl, sym, ap, ◌∙◌, subst, inl, inr, ⊎_elim, append_assoc, arith}
use Rattle.std.proofs.lemmas.List.{append-nil, map-append}
use Rattle.std.proofs.lemmas.List.Concat.{flat_map-append}
use Rattle.std.proofs.lemmas.List.Elements.{Contains-push, Contains-push_cases, Contains-append_cases, Contains-append_left, Contains-append_right}
use Rattle.ctx_set.specs.declared.steps.StackStep.{StackStep}
use Rattle.context_set.specs.declared.node.Node.{Node}
use Rattle.context_set.specs.declared.node.CtxFull.{CtxFull}
use Rattle.context_set.specs.Paths.{Path}
use Rattle.context_set.specs.Held.{Entry, Count, KnowsNode, enters, path_of, path_to, all_entered, all_counted}
use Rattle.context_set.specs.Held as contexts
use Rattle.reports.specs.declared.board.Noted.{Noted}
use Rattle.reports.specs.declared.board.Noted.TheVariants.{First, Again, Full}
use Rattle.reports.specs.Counts.{is_counted}
use Rattle.reports.specs.Passes.{Report, Held, HasNumber, report_of, reported, born, makes, joins, all_reports, IsWhole}
use Rattle.reports.specs.Passes as boards
use Rattle.reports.specs.Prefixes.{prefixes, asked}
use Rattle.set_board.specs.Mirrors.{counts_of, all_counts, paths_of, AreGiven, AreEntered, IsCut, AreInOrder, AreJoined, IsMirror, GoesThrough, Stops, IsWalk, IsNoted}
use Rattle.set_board.proofs.Lists.{nothing, head_of, behind, cons_cases, in_map, from_map}

-- nothing was entered
pub none_entered : AreEntered [] [] []
none_entered = record {
  counts = refl;
  paths = λ e there. absurd (nothing e there);
  short = λ e there. absurd (nothing e there);
  given = λ r there. absurd (nothing r there);
  refused = λ r there. absurd (nothing r there);
}

pub none_in_order : AreInOrder [] []
none_in_order = record { front = []; rest = []; given = λ e there. absurd (nothing e there); paths = refl; ends = inl (refl, refl) }

-- the lists of two passes together
module _ (es fs : List Entry) (cs ds : List Count) (rs qs : List Report) (a : AreEntered es cs rs) (b : AreEntered fs ds qs) where
  asked_both : asked (rs ++ qs) ≡ asked rs ++ asked qs
  asked_both = flat_map-append (λ (r : Report). prefixes r.stack) rs qs

  pub both_entered : AreEntered (es ++ fs) (cs ++ ds) (rs ++ qs)
  both_entered = record {
    counts = ap (λ (l : List Count). l ++ ds) a.counts ∙ (ap (λ (l : List Count). all_counts rs ++ l) b.counts ∙ sym (flat_map-append (λ (r : Report). counts_of r.stack r.answer) rs qs));
    paths = λ e there.
        subst (λ (l : List Path). Contains l e.path) (sym asked_both)
        (⊎_elim
        (λ (first : Contains es e). Contains-append_left (asked rs) (asked qs) e.path (a.paths e first))
        (λ (second : Contains fs e). Contains-append_right (asked rs) (asked qs) e.path (b.paths e second))
        (Contains-append_cases es fs e there));
    short = λ e there. ⊎_elim (a.short e) (b.short e) (Contains-append_cases es fs e there);
    given = λ r there counted p in_prefixes.
        ⊎_elim
        (λ (first : Contains rs r).
        let g = a.given r first counted p in_prefixes in
        let found : (node : Node) × Contains (es ++ fs) record { path = p; answer = Ok node } = (g.0, Contains-append_left es fs record { path = p; answer = Ok g.0 } g.1) in found)
        (λ (second : Contains qs r).
        let g = b.given r second counted p in_prefixes in
        let found : (node : Node) × Contains (es ++ fs) record { path = p; answer = Ok node } = (g.0, Contains-append_right es fs record { path = p; answer = Ok g.0 } g.1) in found)
        (Contains-append_cases rs qs r there);
    refused = λ r there counted.
        ⊎_elim
        (λ (first : Contains rs r).
        let g = a.refused r first counted in
        let found : (p : Path) × (full : CtxFull) × Contains (prefixes r.stack) p × Contains (es ++ fs) record { path = p; answer = Err full } =
        (g.0, g.1, g.2, Contains-append_left es fs record { path = g.0; answer = Err g.1 } g.3) in found)
        (λ (second : Contains qs r).
        let g = b.refused r second counted in
        let found : (p : Path) × (full : CtxFull) × Contains (prefixes r.stack) p × Contains (es ++ fs) record { path = p; answer = Err full } =
        (g.0, g.1, g.2, Contains-append_right es fs record { path = g.0; answer = Err g.1 } g.3) in found)
        (Contains-append_cases rs qs r there);
  }

-- all lists of a pass
joined_entered : (cs : List contexts.Joined) (bs : List boards.Joined) → AreJoined cs bs
    → AreEntered (flat_map (λ (j : contexts.Joined). j.entered) cs) (flat_map (λ (j : contexts.Joined). j.counted) cs) (flat_map (λ (j : boards.Joined). j.reports) bs)
joined_entered [] [] are = none_entered
joined_entered [] (b ∷ bs) are = absurd are
joined_entered (c ∷ cs) [] are = absurd are
joined_entered (c ∷ cs) (b ∷ bs) are =
    both_entered c.entered (flat_map (λ (j : contexts.Joined). j.entered) cs) c.counted (flat_map (λ (j : contexts.Joined). j.counted) cs) b.reports (flat_map (λ (j : boards.Joined). j.reports) bs) are.1 (joined_entered cs bs are.2)

pub all_are_entered : (c : contexts.Held) (h : Held) → IsMirror c h → AreEntered (all_entered c) (all_counted c) (all_reports h)
all_are_entered c h m =
    both_entered c.entered (flat_map (λ (j : contexts.Joined). j.entered) c.joined) c.counted (flat_map (λ (j : contexts.Joined). j.counted) c.joined) h.own (flat_map (λ (j : boards.Joined). j.reports) h.joined)
    m.own (joined_entered c.joined h.joined m.joined)

-- the set's pass is whole where the board's is
joined_back : (cs : List contexts.Joined) (bs : List boards.Joined) (b : boards.Joined) → AreJoined cs bs → Contains bs b → (c : contexts.Joined) × Contains cs c × (b.number ≡ c.number)
joined_back cs [] b are there = absurd (nothing b there)
joined_back [] (x ∷ bs) b are there = absurd are
joined_back (c ∷ cs) (x ∷ bs) b are there =
    ⊎_elim
    (λ (e : x ≡ b). let found : (k : contexts.Joined) × Contains (c ∷ cs) k × (b.number ≡ k.number) = (c, head_of c cs, ap (λ (j : boards.Joined). j.number) (sym e) ∙ are.0) in found)
    (λ (later : Contains bs b).
    let r = joined_back cs bs b are.2 later in
    let found : (k : contexts.Joined) × Contains (c ∷ cs) k × (b.number ≡ k.number) = (r.0, behind r.0 c cs r.1, r.2) in found)
    (cons_cases x bs b there)

pub whole_too : (c : contexts.Held) (h : Held) → IsMirror c h → IsWhole h → contexts.IsWhole c
whole_too c h m whole = record {
  first = sym m.number ∙ whole.first;
  joined_all = λ n there.
      let in_made : Contains h.made n = subst (λ (l : List ℕ). Contains l n) (sym m.made) there in
      ⊎_elim
      (λ (mine : n ≡ h.number). let late = m.later n in_made in absurd (omega (arith, mine, late, whole.first)))
      (λ (other : (j : boards.Joined) × Contains h.joined j × (n ≡ j.number)).
      let c' = joined_back c.joined h.joined other.0 m.joined other.1 in
      let found : (j : contexts.Joined) × Contains c.joined j × (j.number ≡ n) = (c'.0, c'.1, sym c'.2 ∙ sym other.2) in found)
      (whole.joined_all n in_made);
}

-- a new pass
pub born_mirror : (c : contexts.Held) (n : ℕ) (known : List contexts.Known) → c ≡ contexts.born n known → IsMirror c (born c.number)
born_mirror c n known is = subst (λ (x : contexts.Held). IsMirror x (born x.number)) (sym is) record {
  number = refl;
  made = refl;
  later = λ n there. absurd (nothing n there);
  own = none_entered;
  order = none_in_order;
  joined = tt;
}

-- a pass that was split
pub split_mirror : (c c' : contexts.Held) (h : Held) (n : ℕ) → IsMirror c h → c' ≡ contexts.makes c n → 0 < n → IsMirror c' (makes h n)
split_mirror c c' h n m is later = subst (λ (x : contexts.Held). IsMirror x (makes h n)) (sym is) record {
  number = m.number;
  made = ap (λ (l : List ℕ). l ++ n ∷ []) m.made;
  later = λ k there. ⊎_elim (m.later k) (λ (e : n ≡ k). subst (λ (x : ℕ). 0 < x) e later) (Contains-push_cases h.made n k there);
  own = m.own;
  order = m.order;
  joined = m.joined;
}

-- a pass that took in another
joined_both : (cs : List contexts.Joined) (bs : List boards.Joined) (ds : List contexts.Joined) (es : List boards.Joined) → AreJoined cs bs → AreJoined ds es → AreJoined (cs ++ ds) (bs ++ es)
joined_both [] [] ds es are more = more
joined_both [] (b ∷ bs) ds es are more = absurd are
joined_both (c ∷ cs) [] ds es are more = absurd are
joined_both (c ∷ cs) (b ∷ bs) ds es are more = (are.0, are.1, joined_both cs bs ds es are.2 more)

pub join_mirror : (c c' d : contexts.Held) (h k : Held) → IsMirror c h → IsMirror d k → c' ≡ contexts.joins c d → IsMirror c' (joins h k)
join_mirror c c' d h k m o is = subst (λ (x : contexts.Held). IsMirror x (joins h k)) (sym is) record {
  number = m.number;
  made = ap (λ (l : List ℕ). l ++ k.made) m.made ∙ ap (λ (l : List ℕ). c.made ++ l) o.made;
  later = λ n there. ⊎_elim (m.later n) (o.later n) (Contains-append_cases h.made k.made n there);
  own = m.own;
  order = m.order;
  joined = joined_both c.joined h.joined (contexts.lists_of d ∷ d.joined) (boards.list_of k ∷ k.joined) m.joined (o.number, o.own, o.joined);
}

-- one report more
short_prefixes : (stack : List StackStep) (p : Path) → Contains (prefixes stack) p → length p ≤ length stack
short_prefixes [] p there = absurd (nothing p there)
short_prefixes (step ∷ steps) p there =
    ⊎_elim
    (λ (e : step ∷ [] ≡ p). let one : 1 ≡ length p = ap length e in omega arith)
    (λ (later : Contains (map (λ (q : Path). step ∷ q) (prefixes steps)) p).
    let q = from_map (λ (q : Path). step ∷ q) (prefixes steps) p later in
    let rest = short_prefixes steps q.0 q.1 in
    let long : suc (length q.0) ≡ length p = ap length q.2 in
    omega arith)
    (cons_cases (step ∷ []) (map (λ (q : Path). step ∷ q) (prefixes steps)) p there)

in_walk : (walk : List Entry) (p : Path) → AreGiven walk → Contains (paths_of walk) p → (node : Node) × Contains walk record { path = p; answer = Ok node }
in_walk walk p given there =
    let e = from_map (λ (x : Entry). x.path) walk p there in
    let got = given e.0 e.1 in
    let is : e.0 ≡ record { path = p; answer = Ok got.0 } = ap (λ a. record { path = e.0.path; answer = a }) got.1 ∙ ap (λ (q : Path). record { path = q; answer = Ok got.0 }) e.2 in
    (got.0, subst (λ (x : Entry). Contains walk x) is e.1)

-- the paths of a walk are prefixes of its stack
stopped_paths : (walk : List Entry) (stack : List StackStep) → Stops walk stack → (e : Entry) → Contains walk e → Contains (prefixes stack) e.path
stopped_paths walk stack s e there =
    let in_parts : Contains (s.front ++ record { path = s.path; answer = Err s.full } ∷ []) e = subst (λ (l : List Entry). Contains l e) s.is there in
    subst (λ (l : List Path). Contains l e.path) s.paths
    (⊎_elim
    (λ (front : Contains s.front e). Contains-append_left (paths_of s.front) (s.path ∷ s.rest) e.path (in_map (λ (x : Entry). x.path) s.front e front))
    (λ (last : record { path = s.path; answer = Err s.full } ≡ e).
    Contains-append_right (paths_of s.front) (s.path ∷ s.rest) e.path
    (subst (λ (x : Entry). Contains (s.path ∷ s.rest) x.path) last (head_of s.path s.rest)))
    (Contains-push_cases s.front record { path = s.path; answer = Err s.full } e in_parts))

asked_one : (stack : List StackStep) (answer : Noted) → asked (report_of stack answer ∷ []) ≡ prefixes stack
asked_one stack answer = append-nil (prefixes stack)

one_report : (stack : List StackStep) (answer : Noted) (r : Report) → Contains (report_of stack answer ∷ []) r → report_of stack answer ≡ r
one_report stack answer r there = ⊎_elim (λ (e : report_of stack answer ≡ r). e) (λ (none : Contains [] r). absurd (nothing r none)) (cons_cases (report_of stack answer) [] r there)

-- a counted report, and one that was refused
module _ (walk : List Entry) (stack : List StackStep) (few : length stack ≤ 257) (answer : Noted) where
  through_entered : is_counted answer ≡ true → GoesThrough walk stack → AreEntered walk (counts_of stack answer) (report_of stack answer ∷ [])
  through_entered told g = record {
    counts = sym (append-nil (counts_of stack answer));
    paths = λ e there. subst (λ (l : List Path). Contains l e.path) (sym (asked_one stack answer)) (in_prefixes e there);
    short = λ e there. let short = short_prefixes stack e.path (in_prefixes e there) in omega arith;
    given = λ r there counted p in_stack.
        let same = one_report stack answer r there in
        in_walk walk p g.given (subst (λ (l : List Path). Contains l p) (sym g.paths) (subst (λ (x : Report). Contains (prefixes x.stack) p) (sym same) in_stack));
    refused = λ r there counted.
        let same = one_report stack answer r there in
        let clash : true ≡ false = sym told ∙ (ap (λ (x : Report). is_counted x.answer) same ∙ counted) in
        let none : ⊥ = cc in absurd none;
  } where
    in_prefixes : (e : Entry) → Contains walk e → Contains (prefixes stack) e.path
    in_prefixes e there = subst (λ (l : List Path). Contains l e.path) g.paths (in_map (λ (x : Entry). x.path) walk e there)

  stopped_entered : is_counted answer ≡ false → counts_of stack answer ≡ [] → Stops walk stack → AreEntered walk (counts_of stack answer) (report_of stack answer ∷ [])
  stopped_entered told none s = record {
    counts = sym (append-nil (counts_of stack answer));
    paths = λ e there. subst (λ (l : List Path). Contains l e.path) (sym (asked_one stack answer)) (stopped_paths walk stack s e there);
    short = λ e there. let short = short_prefixes stack e.path (stopped_paths walk stack s e there) in omega arith;
    given = λ r there counted p in_stack.
        let same = one_report stack answer r there in
        let clash : false ≡ true = sym told ∙ (ap (λ (x : Report). is_counted x.answer) same ∙ counted) in
        let never : ⊥ = cc in absurd never;
    refused = λ r there counted.
        let same = one_report stack answer r there in
        let last : Contains walk record { path = s.path; answer = Err s.full } = subst (λ (l : List Entry). Contains l record { path = s.path; answer = Err s.full }) (sym s.is) (Contains-push s.front record { path = s.path; answer = Err s.full }) in
        let in_stack : Contains (prefixes stack) s.path = stopped_paths walk stack s record { path = s.path; answer = Err s.full } last in
        (s.path, s.full, subst (λ (x : Report). Contains (prefixes x.stack) s.path) same in_stack, last);
  }

walk_entered : (walk : List Entry) (stack : List StackStep) → length stack ≤ 257 → (answer : Noted) → IsWalk walk stack answer → AreEntered walk (counts_of stack answer) (report_of stack answer ∷ [])
walk_entered walk stack few First is = through_entered walk stack few First refl is
walk_entered walk stack few Again is = through_entered walk stack few Again refl is
walk_entered walk stack few Full is = stopped_entered walk stack few Full refl refl is

given_both : (a b : List Entry) → AreGiven a → AreGiven b → AreGiven (a ++ b)
given_both a b first second e there = ⊎_elim (first e) (second e) (Contains-append_cases a b e there)

pub asked_more : (reports : List Report) (stack : List StackStep) (answer : Noted) → asked (reports ++ report_of stack answer ∷ []) ≡ asked reports ++ prefixes stack
asked_more reports stack answer = flat_map-append (λ (r : Report). prefixes r.stack) reports (report_of stack answer ∷ []) ∙ ap (λ (l : List Path). asked reports ++ l) (asked_one stack answer)

-- the order goes on
module _ (entered : List Entry) (reports : List Report) (order : AreInOrder entered reports) (walk : List Entry) (stack : List StackStep) (answer : Noted) where
  -- where a path was refused before, nothing changes
  cut_before : IsCut entered order.front → AreInOrder (entered ++ walk) (reports ++ report_of stack answer ∷ [])
  cut_before cut = record {
    front = order.front;
    rest = order.rest ++ prefixes stack;
    given = order.given;
    paths = sym (append_assoc (paths_of order.front) order.rest (prefixes stack)) ∙ (ap (λ (l : List Path). l ++ prefixes stack) order.paths ∙ sym (asked_more reports stack answer));
    ends = inr record {
      path = cut.path;
      full = cut.full;
      behind = cut.behind ++ walk;
      is = ap (λ (l : List Entry). l ++ walk) cut.is ∙ append_assoc order.front (record { path = cut.path; answer = Err cut.full } ∷ cut.behind) walk;
    };
  }

  module _ (whole : (entered ≡ order.front) × (order.rest ≡ [])) where
    asked_whole : asked reports ≡ paths_of entered
    asked_whole = sym order.paths ∙ (ap (λ (l : List Path). paths_of order.front ++ l) whole.1 ∙ (append-nil (paths_of order.front) ∙ ap paths_of (sym whole.0)))

    given_whole : AreGiven entered
    given_whole = subst AreGiven (sym whole.0) order.given

    through_order : GoesThrough walk stack → AreInOrder (entered ++ walk) (reports ++ report_of stack answer ∷ [])
    through_order g = record {
      front = entered ++ walk;
      rest = [];
      given = given_both entered walk given_whole g.given;
      paths = append-nil (paths_of (entered ++ walk)) ∙ (map-append (λ (e : Entry). e.path) entered walk ∙ (ap (λ (l : List Path). paths_of entered ++ l) g.paths ∙ (ap (λ (l : List Path). l ++ prefixes stack) (sym asked_whole) ∙ sym (asked_more reports stack answer))));
      ends = inl (refl, refl);
    }

    stopped_order : Stops walk stack → AreInOrder (entered ++ walk) (reports ++ report_of stack answer ∷ [])
    stopped_order s = record {
      front = entered ++ s.front;
      rest = s.path ∷ s.rest;
      given = given_both entered s.front given_whole s.given;
      paths = ap (λ (l : List Path). l ++ s.path ∷ s.rest) (map-append (λ (e : Entry). e.path) entered s.front) ∙ (append_assoc (paths_of entered) (paths_of s.front) (s.path ∷ s.rest)
          ∙ (ap (λ (l : List Path). paths_of entered ++ l) s.paths ∙ (ap (λ (l : List Path). l ++ prefixes stack) (sym asked_whole) ∙ sym (asked_more reports stack answer))));
      ends = inr record {
        path = s.path;
        full = s.full;
        behind = [];
        is = ap (λ (l : List Entry). entered ++ l) s.is ∙ sym (append_assoc entered s.front (record { path = s.path; answer = Err s.full } ∷ []));
      };
    }

order_more : (entered : List Entry) (reports : List Report) → AreInOrder entered reports → (walk : List Entry) (stack : List StackStep) (answer : Noted) → IsWalk walk stack answer
    → AreInOrder (entered ++ walk) (reports ++ report_of stack answer ∷ [])
order_more entered reports order walk stack First is = ⊎_elim (λ (whole : (entered ≡ order.front) × (order.rest ≡ [])). through_order entered reports order walk stack First whole is) (cut_before entered reports order walk stack First) order.ends
order_more entered reports order walk stack Again is = ⊎_elim (λ (whole : (entered ≡ order.front) × (order.rest ≡ [])). through_order entered reports order walk stack Again whole is) (cut_before entered reports order walk stack Again) order.ends
order_more entered reports order walk stack Full is = ⊎_elim (λ (whole : (entered ≡ order.front) × (order.rest ≡ [])). stopped_order entered reports order walk stack Full whole is) (cut_before entered reports order walk stack Full) order.ends

-- a report
pub noted_mirror : (c c' : contexts.Held) (h : Held) (stack : List StackStep) (answer : Noted) → IsMirror c h → length stack ≤ 257 → IsNoted c c' stack answer → IsMirror c' (reported h stack answer)
noted_mirror c c' h stack answer m few n = record {
  number = m.number ∙ sym n.number;
  made = m.made ∙ sym n.made;
  later = m.later;
  own = subst (λ (es : List Entry). AreEntered es c'.counted (h.own ++ report_of stack answer ∷ [])) (sym n.entered)
      (subst (λ (cs : List Count). AreEntered (c.entered ++ n.walk) cs (h.own ++ report_of stack answer ∷ [])) (sym n.counted)
      (both_entered c.entered n.walk c.counted (counts_of stack answer) h.own (report_of stack answer ∷ []) m.own (walk_entered n.walk stack few answer n.is)));
  order = subst (λ (es : List Entry). AreInOrder es (h.own ++ report_of stack answer ∷ [])) (sym n.entered) (order_more c.entered h.own m.order n.walk stack answer n.is);
  joined = subst (λ (js : List contexts.Joined). AreJoined js h.joined) (sym n.joined) m.joined;
}
