-- The steps up from a slot: they are those of its path, and no more than there are slots.
use Rattle.std.proofs.Common.{◌≡◌, ◌≢◌, ◌≤◌, ◌<◌, ◌+◌, ◌-◌, ◌⊎◌, ℕ, zero, suc, ltb, cond, append_assoc, List, [], ◌∷◌, ◌++◌, length, reverse, refl, sym, ap, ◌∙◌, subst, inl, inr, ⊎_elim, length-append, lt-ltb, le-ltb, arith}
use Rattle.std.proofs.lemmas.Bool.{cases_lt, cases_eq}
use Rattle.std.proofs.lemmas.List.{reverse-append}
use Rattle.ctx_set.specs.declared.steps.StackStep.{StackStep}
use Rattle.context_set.specs.Paths.{Path, IsStep}
use Rattle.context_set.specs.Keys.{key_of}
use Rattle.context_set.specs.Rule.{IsWay, Slots}
use Rattle.context_set.specs.Closed.{Climbs}
use Rattle.context_set.proofs.Paths.{step_is}
use Rattle.context_set.proofs.KeyLemmas.{key_tells}
use Rattle.context_set.proofs.Ways.{way_within, way_length}

-- how many of the first numbers have at most l
module _ (long : ℕ → ℕ) where
  upto : ℕ → ℕ → ℕ
  upto l zero = 0
  upto l (suc k) = upto l k + cond (ltb (long k) (suc l)) 1 0

  counts_yes : (l k : ℕ) → long k ≤ l → upto l (suc k) ≡ upto l k + 1
  unfolding upto
  counts_yes l k few = rw (lt-ltb (long k) (suc l) (omega arith)) refl

  counts_no : (l k : ℕ) → l < long k → upto l (suc k) ≡ upto l k
  unfolding upto
  counts_no l k many = rw (le-ltb (long k) (suc l) (omega arith)) (omega arith)

  upto_most : (l k : ℕ) → upto l k ≤ k
  unfolding upto
  upto_most l zero = omega arith
  upto_most l (suc k) =
      let before = upto_most l k in
      ⊎_elim
      (λ (many : l < long k). omega (arith, counts_no l k many))
      (λ (few : long k ≤ l). omega (arith, counts_yes l k few))
      (cases_lt l (long k))

  upto_more : (l k : ℕ) → upto l k ≤ upto (suc l) k
  unfolding upto
  upto_more l zero = omega arith
  upto_more l (suc k) =
      let before = upto_more l k in
      ⊎_elim
      (λ (many : l < long k).
      ⊎_elim
      (λ (more : suc l < long k). omega (arith, counts_no l k many, counts_no (suc l) k more))
      (λ (here : long k ≤ suc l). omega (arith, counts_no l k many, counts_yes (suc l) k here))
      (cases_lt (suc l) (long k)))
      (λ (few : long k ≤ l). omega (arith, counts_yes l k few, counts_yes (suc l) k (omega arith)))
      (cases_lt l (long k))

  upto_new : (l k j : ℕ) → j < k → long j ≡ suc l → upto l k + 1 ≤ upto (suc l) k
  upto_new l zero j within is = absurd (omega arith)
  upto_new l (suc k) j within is =
      ⊎_elim
      (λ (here : j ≡ k).
      let at : long k ≡ suc l = ap long (sym here) ∙ is in
      omega (arith, upto_more l k, counts_no l k (omega arith), counts_yes (suc l) k (omega arith)))
      (λ (other : j ≡ k → ⊥).
      let before = upto_new l k j (omega arith) is in
      ⊎_elim
      (λ (many : l < long k).
      ⊎_elim
      (λ (more : suc l < long k). omega (arith, counts_no l k many, counts_no (suc l) k more))
      (λ (here : long k ≤ suc l). omega (arith, counts_no l k many, counts_yes (suc l) k here))
      (cases_lt (suc l) (long k)))
      (λ (few : long k ≤ l). omega (arith, counts_yes l k few, counts_yes (suc l) k (omega arith)))
      (cases_lt l (long k)))
      (cases_eq j k)

module _ (n : ℕ) (most : n ≤ 65536) (r : ℕ → ℕ) (path : ℕ → Path) (slots : Slots n r path) where
  -- a slot with a longer path has one above it with each shorter length
  above : (d l i : ℕ) → 0 < l → i < n → 0 < r i → length (path i) ≡ l + d → (j : ℕ) × (j < n) × (0 < r j) × (length (path j) ≡ l)
  above zero l i some within holds is = (i, within, holds, omega arith)
  above (suc d) l i some within holds is =
      let slot = slots.each i within holds in
      ⊎_elim
      (λ (root : (slot.parent ≡ 65536) × (path i ≡ slot.step ∷ [])). let one : length (path i) ≡ 1 = ap length root.1 in absurd (omega arith))
      (λ (child : (slot.parent < n) × (0 < r slot.parent) × (path i ≡ path slot.parent ++ slot.step ∷ [])).
      let longer : length (path i) ≡ length (path slot.parent) + 1 = ap length child.2 ∙ length-append (path slot.parent) (slot.step ∷ []) in
      above d l slot.parent some child.0 child.1 (omega arith))
      slot.way

  many_slots : (i : ℕ) → i < n → 0 < r i → (l : ℕ) → l ≤ length (path i) → l ≤ upto (λ (j : ℕ). length (path j)) l n
  many_slots i within holds zero few = omega arith
  many_slots i within holds (suc l) few =
      let before = many_slots i within holds l (omega arith) in
      let rest : (d : ℕ) × (length (path i) ≡ suc l + d) = (length (path i) - suc l, omega arith) in
      let at = above rest.0 (suc l) i (omega arith) within holds rest.1 in
      omega (arith, upto_new (λ (j : ℕ). length (path j)) l n at.0 at.1 at.3)

  -- no path is longer than there are slots
  path_short : (i : ℕ) → i < n → 0 < r i → length (path i) ≤ n
  path_short i within holds =
      let many = many_slots i within holds (length (path i)) (omega arith) in
      omega (arith, upto_most (λ (j : ℕ). length (path j)) (length (path i)) n)

  has_climb : (long i : ℕ) → i < n → 0 < r i → length (path i) ≤ long → (p : List StackStep) × Climbs n r i p × (length p ≡ length (path i))
  has_climb zero i within holds few =
      let slot = slots.each i within holds in
      let some = way_length n r path most slot.parent slot.step (path i) slot.way in
      absurd (omega arith)
  has_climb (suc long) i within holds few =
      let slot = slots.each i within holds in
      ⊎_elim
      (λ (root : (slot.parent ≡ 65536) × (path i ≡ slot.step ∷ [])).
      let climbs : Climbs n r i (slot.step ∷ []) = (slot.parent, within, holds, slot.is, slot.small, inl (root.0, refl)) in
      let found : (p : List StackStep) × Climbs n r i p × (length p ≡ length (path i)) = (slot.step ∷ [], climbs, sym (ap length root.1)) in
      found)
      (λ (child : (slot.parent < n) × (0 < r slot.parent) × (path i ≡ path slot.parent ++ slot.step ∷ [])).
      let longer : length (path i) ≡ length (path slot.parent) + 1 = ap length child.2 ∙ length-append (path slot.parent) (slot.step ∷ []) in
      let up = has_climb long slot.parent child.0 child.1 (omega arith) in
      let climbs : Climbs n r i (slot.step ∷ up.0) = (slot.parent, within, holds, slot.is, slot.small, inr (child.0, up.1)) in
      let found : (p : List StackStep) × Climbs n r i p × (length p ≡ length (path i)) = (slot.step ∷ up.0, climbs, omega (arith, up.2)) in
      found)
      slot.way

  -- there is a way up, of no more steps than there are slots
  pub short_climb : (i : ℕ) → i < n → 0 < r i → (p : List StackStep) × Climbs n r i p × (length p ≤ n)
  short_climb i within holds =
      let climb = has_climb (length (path i)) i within holds (omega arith) in
      (climb.0, climb.1, omega (arith, climb.2, path_short i within holds))

  -- it goes along the path
  pub climb_path : (i : ℕ) (p : List StackStep) → Climbs n r i p → path i ≡ reverse p
  climb_path i [] climbs = absurd climbs
  climb_path i (step ∷ steps) (parent, within, holds, is, small, up) =
      let slot = slots.each i within holds in
      let parent_most : parent ≤ 65536 = ⊎_elim (λ (root : (parent ≡ 65536) × (steps ≡ [])). omega (arith, root.0)) (λ (child : (parent < n) × Climbs n r parent steps). omega (arith, child.0)) up in
      let tells = key_tells slot.parent parent slot.step step (way_within n r path most slot.parent slot.step (path i) slot.way) parent_most slot.small small (sym slot.is ∙ is) in
      let way : IsWay n r path parent step (path i) = subst (λ (s : StackStep). IsWay n r path parent s (path i)) tells.1 (subst (λ (a : ℕ). IsWay n r path a slot.step (path i)) tells.0 slot.way) in
      go way up (λ child. climb_path parent steps child)
    where
      turned : (xs : List StackStep) → reverse (step ∷ xs) ≡ reverse xs ++ step ∷ []
      turned xs = reverse-append (step ∷ []) xs

      go : IsWay n r path parent step (path i) → ((parent ≡ 65536) × (steps ≡ [])) ⊎ ((parent < n) × Climbs n r parent steps) → (Climbs n r parent steps → path parent ≡ reverse steps) → path i ≡ reverse (step ∷ steps)
      go (inl (root, path_is)) (inl (root', none)) rec = path_is ∙ ap (λ (l : List StackStep). reverse (step ∷ l)) (sym none)
      go (inl (root, path_is)) (inr (below, child)) rec = absurd (omega arith)
      go (inr (below, full, path_is)) (inl (root, none)) rec = absurd (omega arith)
      go (inr (below, full, path_is)) (inr (below', child)) rec = path_is ∙ (ap (λ (l : List StackStep). l ++ step ∷ []) (rec child) ∙ sym (turned steps))

-- who is on the way up stands at a slot with a key
pub climb_within : (n : ℕ) (r : ℕ → ℕ) (i : ℕ) (p : List StackStep) → Climbs n r i p → (i < n) × (0 < r i)
climb_within n r i [] climbs = absurd climbs
climb_within n r i (step ∷ steps) climbs = (climbs.1, climbs.2)

-- one step up, where the key at this slot was taken apart
module _ (n : ℕ) (most : n ≤ 65536) (r : ℕ → ℕ) (slot at : ℕ) (steps : List StackStep) (above : ℕ) (step : StackStep)
    (tells : (parent : ℕ) (s : StackStep) → parent ≤ 65536 → IsStep s → r at ≡ key_of parent s → (above ≡ parent) × (step.target ≡ s.target) × (step.site ≡ s.site))
    (whole : (p : List StackStep) → Climbs n r at p → Climbs n r slot (steps ++ p)) where
  pub climb_done : (p : List StackStep) → Climbs n r at p → above ≡ 65536 → Climbs n r slot (steps ++ step ∷ [])
  climb_done [] climbs last = absurd climbs
  climb_done (s ∷ rest) (parent, within, holds, is, small, inl (root, none)) last =
      let told = tells parent s (omega arith) small is in
      let climbs : Climbs n r at (s ∷ []) = (parent, within, holds, is, small, inl (root, refl)) in
      subst (λ (x : StackStep). Climbs n r slot (steps ++ x ∷ [])) (step_is s step (sym told.1) (sym told.2)) (whole (s ∷ []) climbs)
  climb_done (s ∷ rest) (parent, within, holds, is, small, inr (below, up)) last =
      let told = tells parent s (omega arith) small is in
      absurd (omega (arith, told.0))

  pub climb_left : (turn : ℕ) (p : List StackStep) → Climbs n r at p → length p + turn ≤ n → above ≢ 65536 → (q : List StackStep) × Climbs n r above q × (length q + (turn + 1) ≤ n)
  climb_left turn [] climbs short further = absurd climbs
  climb_left turn (s ∷ rest) (parent, within, holds, is, small, inl (root, none)) short further = absurd (further ((tells parent s (omega arith) small is).0 ∙ root))
  climb_left turn (s ∷ rest) (parent, within, holds, is, small, inr (below, up)) short further =
      let told = tells parent s (omega arith) small is in
      (rest, subst (λ (a : ℕ). Climbs n r a rest) (sym told.0) up, omega arith)

  pub climb_whole : (p : List StackStep) → Climbs n r at p → above ≢ 65536 → (q : List StackStep) → Climbs n r above q → Climbs n r slot ((steps ++ step ∷ []) ++ q)
  climb_whole [] climbs further q higher = absurd climbs
  climb_whole (s ∷ rest) (parent, within, holds, is, small, inl (root, none)) further q higher = absurd (further ((tells parent s (omega arith) small is).0 ∙ root))
  climb_whole (s ∷ rest) (parent, within, holds, is, small, inr (below, up)) further q higher =
      let told = tells parent s (omega arith) small is in
      let same = step_is s step (sym told.1) (sym told.2) in
      let climbs : Climbs n r at (s ∷ q) = (parent, within, holds, is, small, inr (below, subst (λ (a : ℕ). Climbs n r a q) told.0 higher)) in
      rw append_assoc (subst (λ (x : StackStep). Climbs n r slot (steps ++ x ∷ q)) same (whole (s ∷ q) climbs))
