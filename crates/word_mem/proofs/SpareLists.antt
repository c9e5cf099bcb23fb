-- One spare more at the end of a list.
use Rattle.std.proofs.Common.{◌≡◌, ◌+◌, ◌⊎◌, ℕ, zero, suc, List, [], ◌∷◌, ◌++◌, length, Some, slice_get, refl, sym, ap, ◌∙◌, subst, inl, inr, ⊎_elim, length-append, arith}
use Rattle.word_mem.specs.Spares.{AreSpares}

module _ {S : Type 0} where
  -- what stands at a place of a longer list
  get_push : (xs : List S) (x s : S) (k : ℕ) → slice_get (xs ++ x ∷ []) k ≡ Some s → (slice_get xs k ≡ Some s) ⊎ ((k ≡ length xs) × (x ≡ s))
  get_push [] x s zero is = inr (refl, cc)
  get_push [] x s (suc k) is = let clash : ⊥ = cc in absurd clash
  get_push (y ∷ xs) x s zero is = inl is
  get_push (y ∷ xs) x s (suc k) is = ⊎_elim inl (λ (last : (k ≡ length xs) × (x ≡ s)). inr (ap suc last.0, last.1)) (get_push xs x s k is)

  pub AreSpares-push : (number calls : S → ℕ) (count : ℕ) (belongs : S → Type 0) (xs : List S) (x : S)
      → AreSpares number calls count belongs xs → number x ≡ length xs + 1 → calls x ≡ count → belongs x → AreSpares number calls count belongs (xs ++ x ∷ [])
  AreSpares-push number calls count belongs xs x are is so_many here k s there =
      ⊎_elim
      (λ (before : slice_get xs k ≡ Some s). are k s before)
      (λ (last : (k ≡ length xs) × (x ≡ s)).
      subst (λ (r : S). (number r ≡ k + 1) × (calls r ≡ count) × belongs r) last.1 (is ∙ ap (λ (n : ℕ). n + 1) (sym last.0), so_many, here))
      (get_push xs x s k there)

  pub AreSpares-none : (number calls : S → ℕ) (count : ℕ) (belongs : S → Type 0) → AreSpares number calls count belongs []
  AreSpares-none number calls count belongs k s there = let clash : ⊥ = cc in absurd clash

pub ruleset spare_lists = (AreSpares-push, AreSpares-none)

-- the last spare of a list
pub last_spare : {S : Type 0} (number calls : S → ℕ) (count : ℕ) (belongs : S → Type 0) (xs rest : List S) (s : S)
    → AreSpares number calls count belongs xs → xs ≡ rest ++ s ∷ [] → (number s ≡ length rest + 1) × (calls s ≡ count) × belongs s
last_spare {S} number calls count belongs xs rest s are is =
    subst (λ (l : List S). AreSpares number calls count belongs l) is are (length rest) s (at_last rest s) where
      at_last : (rest : List S) (s : S) → slice_get (rest ++ s ∷ []) (length rest) ≡ Some s
      at_last [] s = refl
      at_last (x ∷ rest) s = at_last rest s

-- the one spare of a memory with two passes
pub only_spare : {S : Type 0} (number calls : S → ℕ) (count : ℕ) (belongs : S → Type 0) (xs rest : List S) (s : S)
    → AreSpares number calls count belongs xs → xs ≡ rest ++ s ∷ [] → length xs + 1 ≡ 2 → (number s ≡ 1) × (calls s ≡ count) × belongs s
only_spare {S} number calls count belongs xs rest s are is two =
    let last = last_spare number calls count belongs xs rest s are is in
    let long : length xs ≡ length rest + 1 = ap length is ∙ length-append rest (s ∷ []) in
    let alone : length rest + 1 ≡ 1 = omega arith in
    (last.0 ∙ alone, last.1, last.2)
