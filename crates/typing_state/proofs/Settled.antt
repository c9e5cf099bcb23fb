-- Functions that are given their effects one after the other.
use Rattle.std.proofs.Common.{◌≡◌, ◌∙◌, refl, sym, ap, ℕ, zero, suc, ◌+◌, ◌<◌, List, [], ◌∷◌, ◌++◌, take, drop, length, slice_get, Option, Some, None, arith}
use Rattle.eff_types.specs.declared.levels.Effects.{Effects}
use Rattle.core_unit.specs.declared.tables.FunctionInfo.{FunctionInfo}
use Rattle.type_rules.specs.Units.{with_whole}
use Rattle.typing_state.specs.Functions.{settled_at, with_set, settled}

-- The functions from the first one on, once the one at `i` has its effects.
behind : (effects : Option Effects) (i : ℕ) (f : FunctionInfo) (fs : List FunctionInfo) →
    settled_at effects (suc i) (f ∷ fs) ≡ f ∷ settled_at effects i fs
behind None i f fs = refl
behind (Some effects) i f fs = of (slice_get fs i)
  where
    of : (g : Option FunctionInfo) → with_set (settled effects) (suc i) (f ∷ fs) g ≡ f ∷ with_set (settled effects) i fs g
    of (Some g) = refl
    of None = refl

first : (effects : Option Effects) (whole : List Effects) (number : ℕ) (f : FunctionInfo) (fs : List FunctionInfo) → slice_get whole number ≡ effects →
    with_whole whole number (f ∷ fs) ≡ take 1 (settled_at effects 0 (f ∷ fs)) ++ with_whole whole (number + 1) (drop 1 (settled_at effects 0 (f ∷ fs)))
first None whole number f fs e = rw e refl
first (Some effects) whole number f fs e = rw e refl

-- One more function has its effects.
pub settle_more : (whole : List Effects) (number i : ℕ) (fs : List FunctionInfo) → i < length fs →
    take i fs ++ with_whole whole number (drop i fs)
    ≡ take (i + 1) (settled_at (slice_get whole number) i fs) ++ with_whole whole (number + 1) (drop (i + 1) (settled_at (slice_get whole number) i fs))
settle_more whole number i [] below = let clash : ⊥ = omega (arith, below) in absurd clash
settle_more whole number zero (f ∷ fs) below = first (slice_get whole number) whole number f fs refl
settle_more whole number (suc i) (f ∷ fs) below =
    let next : suc i + 1 ≡ suc (i + 1) = omega arith in
    rw (next, behind (slice_get whole number) i f fs) (ap (λ xs. f ∷ xs) (settle_more whole number i fs (omega (arith, below))))

-- as many functions as before
pub settled_long : (effects : Option Effects) (i : ℕ) (fs : List FunctionInfo) → length (settled_at effects i fs) ≡ length fs
settled_long None i fs = refl
settled_long (Some effects) i [] = refl
settled_long (Some effects) zero (f ∷ fs) = refl
settled_long (Some effects) (suc i) (f ∷ fs) = ap length (behind (Some effects) i f fs) ∙ ap suc (settled_long (Some effects) i fs)

pub ruleset settled_rules = (settle_more, settled_long)
