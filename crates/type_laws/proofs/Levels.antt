-- The flags of each function allow its level, and so each lower one.
use Rattle.std.proofs.Common.{◌≡◌, ℕ, Bool, true, false, refl, sym, ◌∙◌, ap, List, [], ◌∷◌, slice_get, Option, Some, None, arith}
use Rattle.std.specs.Prelude.{◌||◌}
use Rattle.eff_types.specs.Effects.{conflict, forbids}
use Rattle.eff_types.specs.Laws.{IsAtMost}
use Rattle.eff_types.specs.declared.levels.Effects.{Effects}
use Rattle.eff_types.specs.declared.levels.Level.{Level}
use Rattle.eff_types.specs.declared.levels.Level.TheVariants.{Plain, NonAllocating, NonBlocking}
use Rattle.eff_types.proofs.EffectLaws.{conflict-union, union-one}
use Rattle.core_unit.specs.declared.tables.FunctionInfo.{FunctionInfo}
use Rattle.type_rules.specs.Functions.{effects_at}
use Rattle.type_rules.specs.Units.{effects_of_all}
use Rattle.type_laws.proofs.Each.{Each, each_get}

lower_level : (e : Effects) (own level : Level) → forbids e own ≡ false → IsAtMost level own → forbids e level ≡ false
lower_level e own Plain fits below = refl
lower_level e Plain NonAllocating fits below = absurd (omega arith)
lower_level e NonAllocating NonAllocating fits below = fits
lower_level e NonBlocking NonAllocating fits below = second e.no_block_inference e.no_alloc_inference fits
  where
    second : (a b : Bool) → a || b ≡ false → b ≡ false
    second true b h = absurd (cc)
    second false b h = h
lower_level e Plain NonBlocking fits below = absurd (omega arith)
lower_level e NonAllocating NonBlocking fits below = absurd (omega arith)
lower_level e NonBlocking NonBlocking fits below = fits

pub allowed_of : (e : Effects) → conflict (e ∷ []) ≡ false → (level : Level) → IsAtMost level e.level → forbids e level ≡ false
allowed_of e fits level below =
    lower_level e e.level level (ap (λ (x : Effects). forbids x x.level) (sym (union-one e)) ∙ sym (conflict-union (e ∷ [])) ∙ fits) below

-- the effects that a function has in the whole unit
pub fits_at : (whole : List Effects) (f : FunctionInfo) (i : ℕ) → Each (λ e. conflict (e ∷ []) ≡ false) whole → conflict (f.kind.effects ∷ []) ≡ false
    → conflict ((effects_at (slice_get whole i) f.kind).effects ∷ []) ≡ false
fits_at whole f i each own = of (slice_get whole i) refl
  where
    of : (found : Option Effects) → slice_get whole i ≡ found → conflict ((effects_at found f.kind).effects ∷ []) ≡ false
    of None e = own
    of (Some x) e = each_get (λ (y : Effects). conflict (y ∷ []) ≡ false) whole i x each e

pub all_fit : (functions : List FunctionInfo) → Each (λ f. conflict (f.kind.effects ∷ []) ≡ false) functions → Each (λ e. conflict (e ∷ []) ≡ false) (effects_of_all functions)
all_fit [] each = tt
all_fit (f ∷ fs) each = (each.0, all_fit fs each.1)
