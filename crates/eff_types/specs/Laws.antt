-- What the laws of effects and conversions speak of.
use Rattle.std.specs.Prelude.{◌≤◌, Option, Some, None, Result, Ok, Err}
use Rattle.eff_types.specs.Effects.{rank, merged}
use Rattle.eff_types.specs.Types.{target_effects}
use Rattle.eff_types.specs.declared.levels.Level.{Level}
use Rattle.eff_types.specs.declared.levels.Effects.{Effects}
use Rattle.eff_types.specs.declared.levels.Conflict.{Conflict}
use Rattle.eff_types.specs.declared.types.CType.{CType}
use Rattle.eff_types.specs.declared.conversions.Conversion.{Conversion}
use Rattle.eff_types.specs.declared.conversions.Conversion.TheVariants as as_a
use Rattle.eff_types.specs.declared.conversions.Mismatch.{Mismatch}

-- one more declaration, after what the ones before came to
abbrev pub merged_onto : Result Effects Conflict → Effects → Result Effects Conflict
merged_onto (Ok before) e = merged before e
merged_onto (Err conflict) e = Err conflict

-- the same level or a lower one
abbrev pub IsAtMost : Level → Level → Type 0
IsAtMost a b = rank a ≤ rank b

-- A function of this level keeps what a pointer of this type promises of its target.
abbrev pub Keeps : Level → CType → Type 0
Keeps level t = IsAtMost (target_effects t).level level

-- A conversion of a value that isn't null which adds no level.
abbrev pub AddsNothing : Conversion → Type 0
AddsNothing as_a.Null = ⊥
AddsNothing (as_a.Effects (Some level)) = ⊥
AddsNothing _ = Unit {0}

-- why it is refused, if it is
abbrev pub refusal : Result Conversion Mismatch → Option Mismatch
refusal (Ok how) = None
refusal (Err why) = Some why
