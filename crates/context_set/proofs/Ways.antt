-- Ways and paths: one path has one way, and one slot.
use Rattle.std.proofs.Common.{◌≡◌, ◌≤◌, ◌<◌, ◌+◌, ℕ, zero, suc, [], ◌∷◌, length, refl, sym, ap, ◌∙◌, subst, inl, inr, length-append, arith}
use Rattle.std.proofs.lemmas.List.{same_from_push}
use Rattle.ctx_set.specs.declared.steps.StackStep.{StackStep}
use Rattle.context_set.specs.Paths.{Path, IsStep}
use Rattle.context_set.specs.Keys.{key_of}
use Rattle.context_set.specs.Rule.{IsWay, Slots, HasPath}
use Rattle.context_set.proofs.KeyLemmas.{key_tells}

module _ (n : ℕ) (r : ℕ → ℕ) (path : ℕ → Path) (most : n ≤ 65536) where
  pub way_within : (parent : ℕ) (step : StackStep) (p : Path) → IsWay n r path parent step p → parent ≤ 65536
  way_within parent step p (inl (root, is)) = omega arith
  way_within parent step p (inr (within, holds, is)) = omega arith

  -- a way leads to one path
  pub way_path : (parent : ℕ) (step : StackStep) (p q : Path) → IsWay n r path parent step p → IsWay n r path parent step q → p ≡ q
  way_path parent step p q (inl (root, is)) (inl (root', is')) = is ∙ sym is'
  way_path parent step p q (inl (root, is)) (inr (within, holds, is')) = absurd (omega arith)
  way_path parent step p q (inr (within, holds, is)) (inl (root, is')) = absurd (omega arith)
  way_path parent step p q (inr (within, holds, is)) (inr (within', holds', is')) = is ∙ sym is'

  pub way_length : (parent : ℕ) (step : StackStep) (p : Path) → IsWay n r path parent step p → 0 < length p
  way_length parent step p (inl (root, is)) = omega (arith, ap length is)
  way_length parent step p (inr (within, holds, is)) = omega (arith, ap length is, length-append (path parent) (step ∷ []))

  module _ (slots : Slots n r path) where
    slot_length : (i : ℕ) → i < n → 0 < r i → 0 < length (path i)
    slot_length i within holds = let slot = slots.each i within holds in way_length slot.parent slot.step (path i) slot.way

    -- where paths of fewer steps have one slot, a path has one way
    one_way : (steps : ℕ) → ((i j : ℕ) → i < n → j < n → 0 < r i → 0 < r j → length (path i) < steps → path i ≡ path j → i ≡ j)
        → (a b : ℕ) (s t : StackStep) (p q : Path) → length p ≤ steps → p ≡ q → IsWay n r path a s p → IsWay n r path b t q → (a ≡ b) × (s ≡ t)
    one_way steps shorter a b s t p q long same (inl (root, is)) (inl (root', is')) =
        let steps_same : s ∷ [] ≡ t ∷ [] = sym is ∙ (same ∙ is') in
        (root ∙ sym root', cc)
    one_way steps shorter a b s t p q long same (inl (root, is)) (inr (within, holds, is')) =
        let one : length p ≡ 1 = ap length is in
        let more : length q ≡ length (path b) + 1 = ap length is' ∙ length-append (path b) (t ∷ []) in
        let some = slot_length b within holds in
        let equal : length p ≡ length q = ap length same in
        absurd (omega arith)
    one_way steps shorter a b s t p q long same (inr (within, holds, is)) (inl (root, is')) =
        let one : length q ≡ 1 = ap length is' in
        let more : length p ≡ length (path a) + 1 = ap length is ∙ length-append (path a) (s ∷ []) in
        let some = slot_length a within holds in
        let equal : length p ≡ length q = ap length same in
        absurd (omega arith)
    one_way steps shorter a b s t p q long same (inr (within, holds, is)) (inr (within', holds', is')) =
        let ends = same_from_push (path a) (path b) s t (sym is ∙ (same ∙ is')) in
        let more : length p ≡ length (path a) + 1 = ap length is ∙ length-append (path a) (s ∷ []) in
        let below : length (path a) < steps = omega arith in
        (shorter a b within within' holds holds' below ends.0, ends.1)

    one_slot_below : (steps : ℕ) (i j : ℕ) → i < n → j < n → 0 < r i → 0 < r j → length (path i) < steps → path i ≡ path j → i ≡ j
    one_slot_below zero i j within within' holds holds' long same = absurd (omega arith)
    one_slot_below (suc steps) i j within within' holds holds' long same =
        let slot = slots.each i within holds in
        let slot' = slots.each j within' holds' in
        let ways = one_way steps (one_slot_below steps) slot.parent slot'.parent slot.step slot'.step (path i) (path j) (omega arith) same slot.way slot'.way in
        let keys : key_of slot.parent slot.step ≡ key_of slot'.parent slot'.step = λ k. key_of (ways.0 k) (ways.1 k) in
        slots.apart i j within within' holds (slot.is ∙ (keys ∙ sym slot'.is))

    -- one path has one slot
    pub one_slot : (i j : ℕ) (p q : Path) → HasPath n r path i p → HasPath n r path j q → p ≡ q → i ≡ j
    one_slot i j p q has has' same =
        one_slot_below (suc (length (path i))) i j has.0 has'.0 has.1 has'.1 (omega arith) (has.2 ∙ (same ∙ sym has'.2))

    -- a slot with the path of a way has the key of the way
    pub way_key : (parent : ℕ) (step : StackStep) (p : Path) → IsWay n r path parent step p → (i : ℕ) → i < n → 0 < r i → path i ≡ p → r i ≡ key_of parent step
    way_key parent step p way i within holds same =
        let slot = slots.each i within holds in
        let ways = one_way (length (path i)) (λ a b in_a in_b has has' short equal. one_slot a b (path a) (path b) (in_a, has, refl) (in_b, has', refl) equal)
        slot.parent parent slot.step step (path i) p (omega arith) same slot.way way in
        let keys : key_of slot.parent slot.step ≡ key_of parent step = λ k. key_of (ways.0 k) (ways.1 k) in
        slot.is ∙ keys

    -- a slot with the key of a way has the path of the way
    pub key_path : (parent : ℕ) (step : StackStep) (p : Path) → IsWay n r path parent step p → IsStep step → (i : ℕ) → i < n → 0 < r i → r i ≡ key_of parent step → path i ≡ p
    key_path parent step p way small i within holds same =
        let slot = slots.each i within holds in
        let ways = key_tells slot.parent parent slot.step step (way_within slot.parent slot.step (path i) slot.way) (way_within parent step p way) slot.small small (sym slot.is ∙ same) in
        let moved : IsWay n r path parent step (path i) = subst (λ (s : StackStep). IsWay n r path parent s (path i)) ways.1 (subst (λ (a : ℕ). IsWay n r path a slot.step (path i)) ways.0 slot.way) in
        way_path parent step (path i) p moved way
