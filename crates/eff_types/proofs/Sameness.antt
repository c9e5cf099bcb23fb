-- The test of sameness decides equality, and types that are the same are so without their effects too.
use Rattle.std.proofs.Common.{◌≡◌, ◌==◌, Bool, true, false, refl, sym, ◌∙◌, ap, ◌∷◌, true≢false, IsTrue, ◌↔◌}
use Rattle.std.proofs.lemmas.Bool.{eq-eqb, eqb-true, and_from, and_parts}
use Rattle.eff_types.specs.declared.levels.Level.{Level}
use Rattle.eff_types.specs.declared.levels.Level.TheVariants.{Plain, NonAllocating, NonBlocking}
use Rattle.eff_types.specs.declared.levels.Effects.{Effects}
use Rattle.eff_types.specs.declared.types.CType.{CType, Void, Char, Int, Unsigned, Mutex, Struct, Pointer', Array', Function', Row_of-CType, end_of-CType, more_of-CType, items-the_row-CType}
use Rattle.eff_types.specs.declared.types.CType.TheVariants.{Pointer, Array, Function}
use Rattle.eff_types.specs.Effects.{rank}
use Rattle.eff_types.specs.Types.{same, same_row, same_flag, same_effects, without_effects, row_without_effects}
use Rattle.eff_types.proofs.Shapes.{eta-Pointer, eta-Array, eta-Function}

pub same_flag-refl : (b : Bool) → same_flag b b ≡ true
same_flag-refl true = refl
same_flag-refl false = refl

same_flag-eq : (b c : Bool) → same_flag b c ≡ true → b ≡ c
same_flag-eq true c h = sym h
same_flag-eq false true h = h
same_flag-eq false false h = refl

rank-eq : (a b : Level) → (rank a == rank b) ≡ true → a ≡ b
rank-eq Plain Plain h = refl
rank-eq NonAllocating NonAllocating h = refl
rank-eq NonBlocking NonBlocking h = refl
rank-eq _ _ h = absurd (true≢false (sym h))

pub same_effects-refl : (e : Effects) → same_effects e e ≡ true
same_effects-refl e = and_from _ _ (and_from _ _ (eq-eqb _ _ refl) (same_flag-refl e.no_block_inference)) (same_flag-refl e.no_alloc_inference)

pub same_effects-eq : (e f : Effects) → same_effects e f ≡ true → e ≡ f
same_effects-eq e f h =
    let outer = and_parts _ _ h in
    let inner = and_parts _ _ outer.0 in
    let level : e.level ≡ f.level = rank-eq e.level f.level inner.0 in
    let blocks : e.no_block_inference ≡ f.no_block_inference = same_flag-eq _ _ inner.1 in
    let allocs : e.no_alloc_inference ≡ f.no_alloc_inference = same_flag-eq _ _ outer.1 in
    ap (λ l. record e { level = l }) level
    ∙ ap (λ b. record f { no_block_inference = b; no_alloc_inference = e.no_alloc_inference }) blocks
    ∙ ap (λ b. record f { no_alloc_inference = b }) allocs

mutual
  unfolding same

  pub same-refl : (t : CType) → same t t ≡ true
  same-refl (Pointer' _ t) = same_row-refl t
  same-refl (Array' _ t n) = and_from _ _ (eq-eqb n n refl) (same_row-refl t)
  same-refl (Function' _ r _ ps e) = and_from _ _ (and_from _ _ (same_effects-refl e) (same_row-refl r)) (same_row-refl ps)
  same-refl (Struct n) = eq-eqb n n refl
  same-refl _ = refl

  same_row-refl : {n : _} (ts : Row_of-CType n) → same_row ts ts ≡ true
  same_row-refl end_of-CType = refl
  same_row-refl (more_of-CType t ts) = and_from _ _ (same-refl t) (same_row-refl ts)

mutual
  unfolding same

  pub same-eq : (t u : CType) → same t u ≡ true → t ≡ u
  same-eq (Pointer' s (more_of-CType t end_of-CType)) (Pointer' z (more_of-CType u end_of-CType)) h =
      eta-Pointer s t ∙ ap Pointer (same-eq t u (and_parts _ _ h).0) ∙ sym (eta-Pointer z u)
  same-eq (Array' s (more_of-CType t end_of-CType) n) (Array' z (more_of-CType u end_of-CType) m) h =
      let parts = and_parts _ _ h in
      let inside = same-eq t u (and_parts _ _ parts.1).0 in
      let count = eqb-true n m parts.0 in
      eta-Array s t n ∙ ap (λ x. Array x n) inside ∙ ap (Array u) count ∙ sym (eta-Array z u m)
  same-eq (Struct n) (Struct m) h = ap Struct (eqb-true n m h)
  same-eq (Function' s (more_of-CType r end_of-CType) z ps e) (Function' x (more_of-CType q end_of-CType) y qs f) h =
      let parts = and_parts _ _ h in
      let outer = and_parts _ _ parts.0 in
      let effects = same_effects-eq e f outer.0 in
      let results = same-eq r q (and_parts _ _ outer.1).0 in
      let params = same_row-eq ps qs parts.1 in
      eta-Function s r z ps e
      ∙ ap (λ w. Function (record { result = w; params = items-the_row-CType _ ps; effects = e })) results
      ∙ ap (λ w. Function (record { result = q; params = w; effects = e })) params
      ∙ ap (λ w. Function (record { result = q; params = items-the_row-CType _ qs; effects = w })) effects
      ∙ sym (eta-Function x q y qs f)
  same-eq Void Void h = refl
  same-eq Char Char h = refl
  same-eq Int Int h = refl
  same-eq Unsigned Unsigned h = refl
  same-eq Mutex Mutex h = refl
  same-eq _ _ h = absurd (true≢false (sym h))

  same_row-eq : {n m : _} (ts : Row_of-CType n) (us : Row_of-CType m) → same_row ts us ≡ true → items-the_row-CType n ts ≡ items-the_row-CType m us
  same_row-eq end_of-CType end_of-CType h = refl
  same_row-eq (more_of-CType t ts) (more_of-CType u us) h =
      let parts = and_parts _ _ h in
      let first = same-eq t u parts.0 in
      let others = same_row-eq ts us parts.1 in
      ap (λ x. x ∷ items-the_row-CType _ ts) first ∙ ap (λ xs. u ∷ xs) others
  same_row-eq _ _ h = absurd (true≢false (sym h))

mutual
  unfolding same without_effects

  pub same-without_effects : (t u : CType) → same t u ≡ true → same (without_effects t) (without_effects u) ≡ true
  same-without_effects (Pointer' _ t) (Pointer' _ u) h = same_row-without_effects t u h
  same-without_effects (Array' _ t n) (Array' _ u m) h =
      let parts = and_parts _ _ h in and_from _ _ parts.0 (same_row-without_effects t u parts.1)
  same-without_effects (Struct n) (Struct m) h = h
  same-without_effects (Function' _ r _ ps e) (Function' _ q _ qs f) h =
      let parts = and_parts _ _ h in
      and_from _ _ (same_row-without_effects r q (and_parts _ _ parts.0).1) (same_row-without_effects ps qs parts.1)
  same-without_effects Void Void h = refl
  same-without_effects Char Char h = refl
  same-without_effects Int Int h = refl
  same-without_effects Unsigned Unsigned h = refl
  same-without_effects Mutex Mutex h = refl
  same-without_effects _ _ h = absurd (true≢false (sym h))

  pub same_row-without_effects : {n m : _} (ts : Row_of-CType n) (us : Row_of-CType m) → same_row ts us ≡ true →
      same_row (row_without_effects ts) (row_without_effects us) ≡ true
  same_row-without_effects end_of-CType end_of-CType h = refl
  same_row-without_effects (more_of-CType t ts) (more_of-CType u us) h =
      let parts = and_parts _ _ h in and_from _ _ (same-without_effects t u parts.0) (same_row-without_effects ts us parts.1)
  same_row-without_effects _ _ h = absurd (true≢false (sym h))

pub same-is : (t u : CType) → IsTrue (same t u) ↔ (t ≡ u)
same-is t u = (λ h. same-eq t u h, λ e. ap (same t) (sym e) ∙ same-refl t)

pub answer-is : (b : Bool) (t u : CType) → b ≡ same t u → IsTrue b ↔ (t ≡ u)
answer-is b t u e = rw e (same-is t u)
