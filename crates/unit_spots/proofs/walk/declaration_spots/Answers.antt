use Rattle.std.proofs.Common.{◌∙◌, refl, ap, sym}
use Rattle.core_unit.specs.Places as unit
use Rattle.unit_spots.proofs.Compose.{two}
use Rattle.unit_spots.proofs.walk.declaration_spots.Goals as goal

pub returns : goal.returns
returns c =
    two c.initializer_spots.result (λ rest. unit.declared c.args.variable.now.storage c.args.variable.now.place (unit.initializer_spots c.args.variable.now.initializer rest))
    (unit.declared c.args.variable.now.storage c.args.variable.now.place) (unit.initializer_spots c.args.variable.now.initializer)
    c.args.found.now c.declared_spots.new.found c.initializer_spots.new.found (λ rest. refl) c.in_ok-declared_spots.ensures c.initializer_spots.ensures
