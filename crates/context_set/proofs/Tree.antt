-- A whole pass is the only one, and splits and joins keep the tree.
use Rattle.std.proofs.Common.{◌≡◌, ◌≢◌, ◌⊎◌, ◌≤◌, ◌<◌, ℕ, zero, suc, eqb, true, false, cond, Option, Some, None, List, [], ◌∷◌, ◌++◌, set, length, Contains, refl, sym, ap, ◌∙◌, subst, inl, inr, ⊎_elim, eq-eqb, ne_eqb, length-set, true≢false, arith}
use Rattle.std.proofs.lemmas.Bool.{cases_eq}
use Rattle.std.proofs.lemmas.List.Elements.{Contains-push, Contains-append_cases, Contains-append_left, Contains-append_right}
use mathlib.Core.Option.{some, some-injective}
use lib.ListN.{get_elem?}
use Rattle.atomic_table.proofs.Lists.{set_here, set_else, at_longer}
use Rattle.context_set.specs.Tree.{kid, Branch, IsMade, Tree, IsTree, splitter, offspring, keeper}
use Rattle.context_set.proofs.Seats.{at_within, same_at, seats_set, seats_longer}

some_is : {A : Type 0} (a b : A) → Some a ≡ Some b → a ≡ b
some_is a b e = cc

not_some : {A : Type 0} (a : A) (o : Option A) → o ≡ Some a → o ≡ None → ⊥
not_some a o e f = cc

pub kid_above : (p j : ℕ) → p < kid p j
kid_above p zero = omega arith
kid_above p (suc j) = let before = kid_above p j in omega arith

-- odd at the first place, even at the others
pub kid_apart : (p j q k : ℕ) → kid p j ≡ kid q k → (p ≡ q) × (j ≡ k)
kid_apart p zero q zero e = (omega arith, refl)
kid_apart p zero q (suc k) e = absurd (omega arith)
kid_apart p (suc j) q zero e = absurd (omega arith)
kid_apart p (suc j) q (suc k) e = let same = kid_apart p j q k (omega arith) in (same.0, ap suc same.1)

-- one pass with number 0, and no other seat
pub tree_first : (v : Branch) → v.number ≡ 0 → v.joined ≡ [] → IsTree (v ∷ [])
tree_first v first none = (holder, record { own = own; joined = joined; fresh = fresh; made = made }) where
  holder : ℕ → Option ℕ
  holder n = cond (eqb n 0) (Some 0) None

  at_first : (s : ℕ) (u : Branch) → get_elem? (v ∷ []) s ≡ some u → (s ≡ 0) × (v ≡ u)
  at_first zero u at = (refl, some-injective v u at)
  at_first (suc s) u at = let clash : ⊥ = cc in absurd clash

  own : (s : ℕ) (u : Branch) → get_elem? (v ∷ []) s ≡ some u → u.live ≡ true → holder u.number ≡ Some s
  own s u at lives = let is = at_first s u at in
      rw (eq-eqb u.number 0 (ap (λ (b : Branch). b.number) (sym is.1) ∙ first)) (ap Some (sym is.0))

  joined : (s : ℕ) (u : Branch) → get_elem? (v ∷ []) s ≡ some u → u.live ≡ true → (n : ℕ) → Contains u.joined n → holder n ≡ Some s
  joined s u at lives n there = let is = at_first s u at in
      let empty : Contains [] n = subst (λ (l : List ℕ). Contains l n) (ap (λ (b : Branch). b.joined) (sym is.1) ∙ none) there in
      absurd (omega (arith, empty.1))

  fresh : (s : ℕ) (u : Branch) → get_elem? (v ∷ []) s ≡ some u → u.live ≡ true → (i : ℕ) → u.splits ≤ i → holder (kid u.number i) ≡ None
  fresh s u at lives i later = let above = kid_above u.number i in rw (ne_eqb (kid u.number i) 0 (λ (e : kid u.number i ≡ 0). omega arith)) refl

  made : (n s : ℕ) → holder n ≡ Some s → (n ≡ 0) ⊎ IsMade holder (v ∷ []) n
  made n s is = ⊎_elim inl (λ (other : n ≡ 0 → ⊥). let gone : None ≡ Some s = rw (ne_eqb n 0 other) at is in let clash : ⊥ = cc in absurd clash) (cases_eq n 0)

module _ (holder : ℕ → Option ℕ) (seats : List Branch) (tree : Tree holder seats) where
  -- a pass with number 0 that has joined all that it made holds every number
  module _ (id : ℕ) (v : Branch) (there : get_elem? seats id ≡ some v) (lives : v.live ≡ true)
      (first : v.number ≡ 0) (joined_all : (n : ℕ) → Contains v.made n → (n ≡ v.number) ⊎ Contains v.joined n) where
    holds_below : (most n : ℕ) → n < most → (s : ℕ) → holder n ≡ Some s → s ≡ id
    holds_below zero n below s is = absurd (omega arith)
    holds_below (suc most) n below s is =
        ⊎_elim
        (λ (zeroth : n ≡ 0).
        some_is s id (sym is ∙ (ap holder (zeroth ∙ sym first) ∙ tree.own id v there lives)))
        (λ (m : IsMade holder seats n).
        let above = kid_above m.parent m.place in
        let smaller : m.parent < most = omega (arith, m.is) in
        let here = holds_below most m.parent smaller m.at m.held in
        let same = same_at seats id m.view v (subst (λ (i : ℕ). get_elem? seats i ≡ some m.view) here m.there) there in
        let noted : Contains v.made n = subst (λ (u : Branch). Contains u.made n) same m.noted in
        ⊎_elim
        (λ (own : n ≡ v.number). some_is s id (sym is ∙ (ap holder own ∙ tree.own id v there lives)))
        (λ (in_joined : Contains v.joined n). some_is s id (sym is ∙ tree.joined id v there lives n in_joined))
        (joined_all n noted))
        (tree.made n s is)

    pub whole_alone : (s : ℕ) (u : Branch) → get_elem? seats s ≡ some u → u.live ≡ true → s ≡ id
    whole_alone s u at alive = holds_below (suc u.number) u.number (omega arith) s (tree.own s u at alive)

  module _ (id : ℕ) (v : Branch) (there : get_elem? seats id ≡ some v) (lives : v.live ≡ true) where
    -- no number below one that isn't given was given
    unborn : (k i : ℕ) → holder k ≡ None → holder (kid k i) ≡ None
    unborn k i none = by_cases (holder (kid k i)) refl where
      by_cases : (o : Option ℕ) → holder (kid k i) ≡ o → o ≡ None
      by_cases None is = refl
      by_cases (Some s) is =
          ⊎_elim
          (λ (zeroth : kid k i ≡ 0). let above = kid_above k i in absurd (omega arith))
          (λ (m : IsMade holder seats (kid k i)).
          let same = kid_apart k i m.parent m.place m.is in
          absurd (not_some m.at (holder k) (ap holder same.0 ∙ m.held) none))
          (tree.made (kid k i) s is)

    new : ℕ
    new = kid v.number v.splits

    is_new : holder new ≡ None
    unfolding new
    is_new = tree.fresh id v there lives v.splits (omega arith)

    given : ℕ → Option ℕ
    unfolding new
    given n = cond (eqb n new) (Some (length seats)) (holder n)

    given_other : (n s : ℕ) → holder n ≡ Some s → given n ≡ Some s
    unfolding given
    given_other n s is = rw (ne_eqb n new (λ (e : n ≡ new). not_some s (holder new) (ap holder (sym e) ∙ is) is_new)) is

    given_none : (n : ℕ) → n ≢ new → holder n ≡ None → given n ≡ None
    unfolding given
    given_none n other none = rw (ne_eqb n new other) none

    given_new : given new ≡ Some (length seats)
    unfolding given
    given_new = rw (eq-eqb new new refl) refl

    after : List Branch
    after = set seats id (splitter v) ++ offspring v ∷ []

    at_id : get_elem? after id ≡ some (splitter v)
    unfolding after
    at_id = at_longer (set seats id (splitter v)) (offspring v ∷ []) id (splitter v) (set_here seats id (splitter v) (at_within seats id v there))

    at_other : (s : ℕ) (u : Branch) → s ≢ id → get_elem? seats s ≡ some u → get_elem? after s ≡ some u
    unfolding after
    at_other s u other at = at_longer (set seats id (splitter v)) (offspring v ∷ []) s u (set_else seats id s (splitter v) other ∙ at)

    each_after : (P : ℕ → Branch → Type 0)
        → ((s : ℕ) (u : Branch) → s ≢ id → get_elem? seats s ≡ some u → P s u) → P id (splitter v) → P (length seats) (offspring v)
        → (s : ℕ) (u : Branch) → get_elem? after s ≡ some u → P s u
    unfolding after
    each_after P others left right =
        seats_longer P (set seats id (splitter v)) (offspring v)
        (seats_set P seats id (splitter v) others left)
        (subst (λ (n : ℕ). P n (offspring v)) (sym (length-set seats id (splitter v))) right)

    -- a made number stays made
    still_made : (n : ℕ) → IsMade holder seats n → IsMade given after n
    still_made n m =
        ⊎_elim
        (λ (here : m.at ≡ id).
        let same = same_at seats id m.view v (subst (λ (i : ℕ). get_elem? seats i ≡ some m.view) here m.there) there in
        let before : Contains v.made n = subst (λ (u : Branch). Contains u.made n) same m.noted in
        let made : IsMade given after n = record {
          parent = m.parent;
          place = m.place;
          is = m.is;
          at = id;
          held = given_other m.parent id (m.held ∙ ap Some here);
          view = splitter v;
          there = at_id;
          lives = lives;
          noted = Contains-append_left v.made (kid v.number v.splits ∷ []) n before;
        } in made)
        (λ (other : m.at ≡ id → ⊥).
        let made : IsMade given after n = record {
          parent = m.parent;
          place = m.place;
          is = m.is;
          at = m.at;
          held = given_other m.parent m.at m.held;
          view = m.view;
          there = at_other m.at m.view other m.there;
          lives = m.lives;
          noted = m.noted;
        } in made)
        (cases_eq m.at id)

    is_made_new : IsMade given after new
    unfolding new
    is_made_new = record {
      parent = v.number;
      place = v.splits;
      is = refl;
      at = id;
      held = given_other v.number id (tree.own id v there lives);
      view = splitter v;
      there = at_id;
      lives = lives;
      noted = Contains-push v.made (kid v.number v.splits);
    }

    made_after : (n s : ℕ) → given n ≡ Some s → (n ≡ 0) ⊎ IsMade given after n
    unfolding given
    made_after n s is =
        ⊎_elim
        (λ (same : n ≡ new). inr (subst (λ (k : ℕ). IsMade given after k) (sym same) is_made_new))
        (λ (other : n ≡ new → ⊥).
        let old : holder n ≡ Some s = rw (ne_eqb n new other) at is in
        ⊎_elim inl (λ (m : IsMade holder seats n). inr (still_made n m)) (tree.made n s old))
        (cases_eq n new)

    Fresh : ℕ → Branch → Type 0
    Fresh s u = u.live ≡ true → (i : ℕ) → u.splits ≤ i → given (kid u.number i) ≡ None

    fresh_other : (s : ℕ) (u : Branch) → s ≢ id → get_elem? seats s ≡ some u → Fresh s u
    unfolding Fresh new
    fresh_other s u other at alive i later =
        given_none (kid u.number i)
        (λ (e : kid u.number i ≡ new).
        let same = kid_apart u.number i v.number v.splits e in
        other (some_is s id (sym (tree.own s u at alive) ∙ (ap holder same.0 ∙ tree.own id v there lives))))
        (tree.fresh s u at alive i later)

    fresh_left : Fresh id (splitter v)
    unfolding Fresh new
    fresh_left alive i later =
        given_none (kid v.number i)
        (λ (e : kid v.number i ≡ new). let same = kid_apart v.number i v.number v.splits e in let is = same.1 in omega arith)
        (tree.fresh id v there lives i (omega arith))

    fresh_right : Fresh (length seats) (offspring v)
    unfolding Fresh new
    fresh_right alive i later =
        let above = kid_above new i in
        given_none (kid new i) (λ (e : kid new i ≡ new). omega arith) (unborn new i is_new)

    tree_split : Tree given after
    unfolding Fresh new
    tree_split = record {
      own = each_after (λ s u. u.live ≡ true → given u.number ≡ Some s)
          (λ s u other at alive. given_other u.number s (tree.own s u at alive))
          (λ alive. given_other v.number id (tree.own id v there lives))
          (λ alive. given_new);
      joined = each_after (λ s u. u.live ≡ true → (n : ℕ) → Contains u.joined n → given n ≡ Some s)
          (λ s u other at alive n in_joined. given_other n s (tree.joined s u at alive n in_joined))
          (λ alive n in_joined. given_other n id (tree.joined id v there lives n in_joined))
          (λ alive n in_joined. absurd (omega (arith, in_joined.1)));
      fresh = each_after Fresh fresh_other fresh_left fresh_right;
      made = made_after;
    }

pub IsTree-split : (seats : List Branch) (id : ℕ) (v : Branch) → IsTree seats → get_elem? seats id ≡ some v → v.live ≡ true
    → IsTree (set seats id (splitter v) ++ offspring v ∷ [])
unfolding after
IsTree-split seats id v (holder, tree) there lives = (given holder seats tree id v there lives, tree_split holder seats tree id v there lives)

-- all numbers of a seat go to another
moved : ℕ → ℕ → Option ℕ → Option ℕ
moved from to None = None
moved from to (Some s) = cond (eqb s from) (Some to) (Some s)

moved_same : (from to : ℕ) (o : Option ℕ) → o ≡ Some from → moved from to o ≡ Some to
unfolding moved
moved_same from to None is = let clash : ⊥ = cc in absurd clash
moved_same from to (Some s) is = rw (eq-eqb s from (some_is s from is)) refl

moved_other : (from to : ℕ) (o : Option ℕ) (s : ℕ) → o ≡ Some s → s ≢ from → moved from to o ≡ Some s
unfolding moved
moved_other from to None s is other = let clash : ⊥ = cc in absurd clash
moved_other from to (Some t) s is other = rw (ne_eqb t from (λ (e : t ≡ from). other (sym (some_is t s is) ∙ e))) is

moved_none : (from to : ℕ) (o : Option ℕ) → o ≡ None → moved from to o ≡ None
unfolding moved
moved_none from to None is = refl
moved_none from to (Some s) is = let clash : ⊥ = cc in absurd clash

moved_from : (from to : ℕ) (o : Option ℕ) (s : ℕ) → moved from to o ≡ Some s → (t : ℕ) × (o ≡ Some t)
unfolding moved
moved_from from to None s is = let clash : ⊥ = cc in absurd clash
moved_from from to (Some t) s is = (t, refl)

module _ (holder : ℕ → Option ℕ) (seats : List Branch) (tree : Tree holder seats)
    (id : ℕ) (v : Branch) (there : get_elem? seats id ≡ some v) (lives : v.live ≡ true)
    (from : ℕ) (w : Branch) (from_there : get_elem? seats from ≡ some w) (from_lives : w.live ≡ true) (apart : from ≢ id)
    (spent : Branch) (ended : spent.live ≡ false) where
  carried : ℕ → Option ℕ
  carried n = moved from id (holder n)

  carried_own : (n : ℕ) → holder n ≡ Some id → carried n ≡ Some id
  unfolding carried
  carried_own n is = moved_other from id (holder n) id is (λ (e : id ≡ from). apart (sym e))

  joined_seats : List Branch
  joined_seats = set (set seats id (keeper v w)) from spent

  at_keeper : get_elem? joined_seats id ≡ some (keeper v w)
  unfolding joined_seats
  at_keeper = set_else (set seats id (keeper v w)) from id spent (λ (e : id ≡ from). apart (sym e)) ∙ set_here seats id (keeper v w) (at_within seats id v there)

  each_joined : (P : ℕ → Branch → Type 0)
      → ((s : ℕ) (u : Branch) → s ≢ id → s ≢ from → get_elem? seats s ≡ some u → P s u) → P id (keeper v w) → P from spent
      → (s : ℕ) (u : Branch) → get_elem? joined_seats s ≡ some u → P s u
  unfolding joined_seats
  each_joined P others both last =
      seats_set P (set seats id (keeper v w)) from spent
      (λ s u not_from at. seats_set (λ i b. i ≢ from → P i b) seats id (keeper v w) (λ i b not_id before still. others i b not_id still before) (λ _. both) s u at not_from)
      last

  keeps_made : (n : ℕ) → IsMade holder seats n → IsMade carried joined_seats n
  unfolding carried joined_seats
  keeps_made n m =
      ⊎_elim
      (λ (here : m.at ≡ id).
      let same = same_at seats id m.view v (subst (λ (i : ℕ). get_elem? seats i ≡ some m.view) here m.there) there in
      let before : Contains v.made n = subst (λ (u : Branch). Contains u.made n) same m.noted in
      let made : IsMade carried joined_seats n = record {
        parent = m.parent;
        place = m.place;
        is = m.is;
        at = id;
        held = carried_own m.parent (m.held ∙ ap Some here);
        view = keeper v w;
        there = at_keeper;
        lives = lives;
        noted = Contains-append_left v.made w.made n before;
      } in made)
      (λ (not_id : m.at ≡ id → ⊥).
      ⊎_elim
      (λ (taken : m.at ≡ from).
      let same = same_at seats from m.view w (subst (λ (i : ℕ). get_elem? seats i ≡ some m.view) taken m.there) from_there in
      let before : Contains w.made n = subst (λ (u : Branch). Contains u.made n) same m.noted in
      let made : IsMade carried joined_seats n = record {
        parent = m.parent;
        place = m.place;
        is = m.is;
        at = id;
        held = moved_same from id (holder m.parent) (m.held ∙ ap Some taken);
        view = keeper v w;
        there = at_keeper;
        lives = lives;
        noted = Contains-append_right v.made w.made n before;
      } in made)
      (λ (not_from : m.at ≡ from → ⊥).
      let made : IsMade carried joined_seats n = record {
        parent = m.parent;
        place = m.place;
        is = m.is;
        at = m.at;
        held = moved_other from id (holder m.parent) m.at m.held not_from;
        view = m.view;
        there = set_else (set seats id (keeper v w)) from m.at spent not_from ∙ (set_else seats id m.at (keeper v w) not_id ∙ m.there);
        lives = m.lives;
        noted = m.noted;
      } in made)
      (cases_eq m.at from))
      (cases_eq m.at id)

  joined_both : (n : ℕ) → Contains (keeper v w).joined n → carried n ≡ Some id
  unfolding carried
  joined_both n in_both =
      ⊎_elim
      (λ (before : Contains v.joined n). carried_own n (tree.joined id v there lives n before))
      (λ (taken : Contains (w.number ∷ w.joined) n).
      let owned : holder n ≡ Some from = ⊎_elim
      (λ (itself : Contains (w.number ∷ []) n). let is : n ≡ w.number = only_one w.number n itself in ap holder is ∙ tree.own from w from_there from_lives)
      (λ (below : Contains w.joined n). tree.joined from w from_there from_lives n below)
      (Contains-append_cases (w.number ∷ []) w.joined n taken) in
      moved_same from id (holder n) owned)
      (Contains-append_cases v.joined (w.number ∷ w.joined) n in_both)
    where
      only_one : (a n : ℕ) → Contains (a ∷ []) n → n ≡ a
      only_one a n (zero, within, is) = sym is
      only_one a n (suc k, within, is) = absurd (omega arith)

  never : (P : Type 0) → spent.live ≡ true → P
  never P alive = absurd (true≢false (sym alive ∙ ended))

  tree_join : Tree carried joined_seats
  unfolding carried
  tree_join = record {
    own = each_joined (λ s u. u.live ≡ true → carried u.number ≡ Some s)
        (λ s u not_id not_from at alive. moved_other from id (holder u.number) s (tree.own s u at alive) not_from)
        (λ alive. carried_own v.number (tree.own id v there lives))
        (λ alive. never (carried spent.number ≡ Some from) alive);
    joined = each_joined (λ s u. u.live ≡ true → (n : ℕ) → Contains u.joined n → carried n ≡ Some s)
        (λ s u not_id not_from at alive n in_joined. moved_other from id (holder n) s (tree.joined s u at alive n in_joined) not_from)
        (λ alive n in_joined. joined_both n in_joined)
        (λ alive n in_joined. never (carried n ≡ Some from) alive);
    fresh = each_joined (λ s u. u.live ≡ true → (i : ℕ) → u.splits ≤ i → carried (kid u.number i) ≡ None)
        (λ s u not_id not_from at alive i later. moved_none from id (holder (kid u.number i)) (tree.fresh s u at alive i later))
        (λ alive i later. moved_none from id (holder (kid v.number i)) (tree.fresh id v there lives i later))
        (λ alive i later. never (carried (kid spent.number i) ≡ None) alive);
    made = λ n s is.
        let old = moved_from from id (holder n) s is in
        ⊎_elim inl (λ (m : IsMade holder seats n). inr (keeps_made n m)) (tree.made n old.0 old.1);
  }

pub IsTree-join : (seats : List Branch) (id : ℕ) (v : Branch) → IsTree seats → get_elem? seats id ≡ some v → v.live ≡ true
    → (from : ℕ) (w : Branch) → get_elem? seats from ≡ some w → w.live ≡ true → from ≢ id → (spent : Branch) → spent.live ≡ false
    → IsTree (set (set seats id (keeper v w)) from spent)
unfolding joined_seats
IsTree-join seats id v (holder, tree) there lives from w from_there from_lives apart spent ended =
    (carried holder seats tree id v there lives from w from_there from_lives apart spent ended, tree_join holder seats tree id v there lives from w from_there from_lives apart spent ended)

-- a pass with number 0 that has joined all that it made is the only one
pub IsTree-alone : (seats : List Branch) (id : ℕ) (v : Branch) → IsTree seats → get_elem? seats id ≡ some v → v.live ≡ true
    → v.number ≡ 0 → ((n : ℕ) → Contains v.made n → (n ≡ v.number) ⊎ Contains v.joined n) → (s : ℕ) (u : Branch) → get_elem? seats s ≡ some u → u.live ≡ true → s ≡ id
IsTree-alone seats id v (holder, tree) there lives first joined_all = whole_alone holder seats tree id v there lives first joined_all
