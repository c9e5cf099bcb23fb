-- A pass that reports alone: a stack is refused exactly where a prefix of it isn't among the first that were asked.
use Rattle.std.proofs.Common.{◌≡◌, ◌≤◌, ◌<◌, ◌==◌, ℕ, suc, eqb-true, eq-eqb, Bool, true, false, cond, Result, Ok, Err, List, [], ◌∷◌, ◌++◌, take, length, Contains, refl, sym, ap, ◌∙◌, subst, ⊎_elim, arith}
use Rattle.std.specs.Prelude.{fold}
use Rattle.std.specs.List.{list_all}
use Rattle.std.proofs.lemmas.List.{take_all, append-nil}
use Rattle.std.proofs.lemmas.List.Elements.{Contains-append_left}
use Rattle.context_set.specs.declared.node.Node.{Node}
use Rattle.context_set.specs.declared.node.CtxFull.{CtxFull}
use Rattle.context_set.specs.Paths.{Path}
use Rattle.context_set.specs.Held.{Entry, Count, Gives}
use Rattle.reports.specs.Counts.{is_counted}
use Rattle.reports.specs.Passes.{Report}
use Rattle.reports.specs.Prefixes.{prefixes, asked, distinct, has, room}
use Rattle.prefix_table.proofs.Firsts.{has_distinct, take_more, fold_full, entered}
use Rattle.set_board.specs.Mirrors.{AreEntered, AreInOrder, IsCut, paths_of}
use Rattle.set_board.proofs.Lists.{nothing, cons_cases, in_map, from_map, contains_has, has_none, all_pass, one_fails, apart_within, distinct_apart, in_distinct, from_distinct, row, row_length, row_from, row_has, row_apart}

-- whether the answer is the node of this number
is_node : Result Node CtxFull → ℕ → Bool
is_node (Ok node) i = node.number == i
is_node (Err full) i = false

is_node_true : (answer : Result Node CtxFull) (i : ℕ) → is_node answer i ≡ true → answer ≡ Ok record { number = i }
unfolding is_node
is_node_true (Ok node) i e = let same : node.number ≡ i = eqb-true node.number i e in ap (λ (n : ℕ). Ok record { number = n }) same
is_node_true (Err full) i e = let clash : ⊥ = cc in absurd clash

is_node_itself : (i : ℕ) → is_node (Ok record { number = i }) i ≡ true
unfolding is_node
is_node_itself i = eq-eqb i i refl

abbrev given : Path → ℕ → Entry
given p i = record { path = p; answer = Ok record { number = i } }

-- the first path that got the node of this number
path_at : List Entry → ℕ → Path
path_at [] i = []
path_at (e ∷ es) i = cond (is_node e.answer i) e.path (path_at es i)

path_at_is : (es : List Entry) (q : Path) (i : ℕ) → Contains es (given q i) → Contains es (given (path_at es i) i)
unfolding path_at
path_at_is [] q i there = absurd (nothing (given q i) there)
path_at_is (e ∷ es) q i there = go (is_node e.answer i) refl (path_at_is es q i) where
  go : (b : Bool) → is_node e.answer i ≡ b → (Contains es (given q i) → Contains es (given (path_at es i) i)) → Contains (e ∷ es) (given (cond b e.path (path_at es i)) i)
  go true is rest = (0, omega arith, ap (λ (a : Result Node CtxFull). record { path = e.path; answer = a }) (is_node_true e.answer i is))
  go false is rest =
      ⊎_elim
      (λ (same : e ≡ given q i).
      let yes : is_node e.answer i ≡ true = ap (λ (x : Entry). is_node x.answer i) same ∙ is_node_itself i in
      let clash : false ≡ true = sym is ∙ yes in
      let none : ⊥ = cc in absurd none)
      (λ (later : Contains es (given q i)). let r = rest later in let found : Contains (e ∷ es) (given (path_at es i) i) = (suc r.0, omega (arith, r.1), r.2) in found)
      (cons_cases e es (given q i) there)

-- the entries of a pass, and the facts of its set that make it exact
pub record AreAlone (entered : List Entry) : Type 0 where
  pub within : (p : Path) (node : Node) → Contains entered record { path = p; answer = Ok node } → node.number < room
  pub same_node : (p : Path) (a b : Node) → Contains entered record { path = p; answer = Ok a } → Contains entered record { path = p; answer = Ok b } → a ≡ b
  pub same_path : (p q : Path) (node : Node) → Contains entered record { path = p; answer = Ok node } → Contains entered record { path = q; answer = Ok node } → p ≡ q
  pub apart : (p : Path) (node : Node) (full : CtxFull) → Contains entered record { path = p; answer = Ok node } → Contains entered record { path = p; answer = Err full } → ⊥
  pub filled : (before after : List Entry) (p : Path) (full : CtxFull) → entered ≡ before ++ record { path = p; answer = Err full } ∷ after → (i : ℕ) → i < room → Gives before i

module _ (entered_all : List Entry) (counted : List Count) (reports : List Report)
    (are : AreEntered entered_all counted reports) (order : AreInOrder entered_all reports) (alone : AreAlone entered_all) where
  front : List Entry
  front = order.front

  paths : List Path
  paths = paths_of order.front

  in_front : (e : Entry) → Contains front e → Contains entered_all e
  unfolding front
  in_front e there =
      ⊎_elim
      (λ (whole : (entered_all ≡ order.front) × (order.rest ≡ [])). subst (λ (l : List Entry). Contains l e) (sym whole.0) there)
      (λ (cut : IsCut entered_all order.front).
      subst (λ (l : List Entry). Contains l e) (sym cut.is) (Contains-append_left order.front (record { path = cut.path; answer = Err cut.full } ∷ cut.behind) e there))
      order.ends

  -- a path in front has a node
  node_of : (p : Path) → Contains paths p → (node : Node) × Contains front record { path = p; answer = Ok node }
  unfolding front paths
  node_of p there =
      let e = from_map (λ (x : Entry). x.path) order.front p there in
      let got = order.given e.0 e.1 in
      let is : e.0 ≡ record { path = p; answer = Ok got.0 } = ap (λ (a : Result Node CtxFull). record { path = e.0.path; answer = a }) got.1 ∙ ap (λ (q : Path). record { path = q; answer = Ok got.0 }) e.2 in
      (got.0, subst (λ (x : Entry). Contains order.front x) is e.1)

  at : ℕ → Path
  at i = path_at front i

  at_is : (q : Path) (i : ℕ) → Contains front (given q i) → Contains front (given (at i) i)
  unfolding at
  at_is q i there = path_at_is front q i there

  in_paths : (e : Entry) → Contains front e → Contains paths e.path
  unfolding front paths
  in_paths e there = in_map (λ (x : Entry). x.path) order.front e there

  -- the different paths in front are no more than there is room for
  bounded : length (distinct paths) ≤ room
  bounded =
      let few = apart_within (distinct paths) (row at room) (distinct_apart paths)
      (λ p there.
      let node = node_of p (from_distinct paths p there) in
      let low = alone.within p node.0 (in_front _ node.1) in
      let first = at_is p node.0.number node.1 in
      let same = alone.same_path (at node.0.number) p node.0 (in_front _ first) (in_front _ node.1) in
      subst (λ (q : Path). Contains (row at room) q) same (row_has at room node.0.number low)) in
      omega (arith, few, row_length at room)

  -- behind a refusal there is no room left
  full_paths : ((i : ℕ) → i < room → Gives front i) → room ≤ length (distinct paths)
  full_paths all =
      let first : (i : ℕ) → i < room → Contains front (given (at i) i) = λ i low. let g = all i low in at_is g.0 i g.1 in
      let many = apart_within (row at room) (distinct paths)
      (row_apart at room room (omega arith)
      (λ i j low low' same.
      let one = in_front _ (first i low) in
      let two = subst (λ (q : Path). Contains entered_all (given q j)) (sym same) (in_front _ (first j low')) in
      ap (λ (n : Node). n.number) (alone.same_node (at i) record { number = i } record { number = j } one two)))
      (λ p there.
      let r = row_from at room p there in
      subst (λ (q : Path). Contains (distinct paths) q) r.2 (in_distinct paths (at r.0) (in_paths _ (first r.0 r.1)))) in
      omega (arith, many, row_length at room)

  cut_gives : (cut : IsCut entered_all order.front) (i : ℕ) → i < room → Gives front i
  unfolding front
  cut_gives cut i low = alone.filled order.front cut.behind cut.path cut.full cut.is i low

  -- the first different ones that were asked are the paths in front
  firsts_are : take room (distinct (asked reports)) ≡ distinct paths
  unfolding paths
  firsts_are =
      ⊎_elim
      (λ (whole : (entered_all ≡ order.front) × (order.rest ≡ [])).
      let same : asked reports ≡ paths_of order.front = sym order.paths ∙ (ap (λ (l : List Path). paths_of order.front ++ l) whole.1 ∙ append-nil (paths_of order.front)) in
      ap (λ (l : List Path). take room (distinct l)) same ∙ take_all room (distinct (paths_of order.front)) bounded)
      (λ (cut : IsCut entered_all order.front).
      let enough = full_paths (cut_gives cut) in
      let start : take room (distinct (paths_of order.front)) ≡ distinct (paths_of order.front) = take_all room (distinct (paths_of order.front)) bounded in
      ap (λ (l : List Path). take room (distinct l)) (sym order.paths)
      ∙ (take_more room (paths_of order.front) order.rest
      ∙ (ap (λ (held : List Path). fold (entered room) held order.rest) start ∙ fold_full room (distinct (paths_of order.front)) order.rest enough)))
      order.ends

  has_first : (q : Path) → has (take room (distinct (asked reports))) q ≡ has paths q
  has_first q = ap (λ (l : List Path). has l q) firsts_are ∙ has_distinct paths q

  -- a path with a node stands in front
  covered : (p : Path) (node : Node) → Contains entered_all record { path = p; answer = Ok node } → Contains paths p
  unfolding front paths
  covered p node there =
      ⊎_elim
      (λ (whole : (entered_all ≡ order.front) × (order.rest ≡ [])). in_paths record { path = p; answer = Ok node } (subst (λ (l : List Entry). Contains l record { path = p; answer = Ok node }) whole.0 there))
      (λ (cut : IsCut entered_all order.front).
      let g = cut_gives cut node.number (alone.within p node there) in
      let same = alone.same_path g.0 p node (in_front _ g.1) there in
      subst (λ (q : Path). Contains (paths_of order.front) q) same (in_paths (given g.0 node.number) g.1))
      order.ends

  pub exact : (r : Report) → Contains reports r → is_counted r.answer ≡ list_all (has (take room (distinct (asked reports)))) (prefixes r.stack)
  exact r there = go (is_counted r.answer) refl where
    go : (b : Bool) → is_counted r.answer ≡ b → b ≡ list_all (has (take room (distinct (asked reports)))) (prefixes r.stack)
    go true e =
        sym (all_pass (has (take room (distinct (asked reports)))) (prefixes r.stack)
        (λ p in_prefixes. let got = are.given r there e p in_prefixes in has_first p ∙ contains_has paths p (covered p got.0 got.1)))
    go false e =
        let no = are.refused r there e in
        sym (one_fails (has (take room (distinct (asked reports)))) (prefixes r.stack) no.0 no.2
        (has_first no.0 ∙ has_none paths no.0 (λ in_paths_too. let node = node_of no.0 in_paths_too in alone.apart no.0 node.0 no.1 (in_front _ node.1) no.3)))
