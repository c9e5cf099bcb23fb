-- The union so far, with those that are left.
use Rattle.std.proofs.Common.{◌≡◌, ◌∷◌, drop}
use Rattle.eff_types.specs.Effects.{union}
use Rattle.type_specifiers.proofs.effects.union_with.Given as goal

abbrev pub invariant-each : goal.invariant-each
invariant-each l = union (l.initial.union ∷ l.more) ≡ union (l.union ∷ drop l.effects-index l.more)
