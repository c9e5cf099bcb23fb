-- The warnings in order, and the parts.
use Rattle.std.proofs.Common.{refl}
use Rattle.type_units.proofs.Endings.{fills}
use Rattle.type_units.proofs.ending.typed_parts.Goals as goal

pub returns-clause-value : goal.returns-clause-value
returns-clause-value c = fills _ _ _ _ _ c.warnings.ensures c.in_ok-warnings.ensures c.in_ok-parts.ensures refl
