use Rattle.std.proofs.Common.{◌∙◌, refl, ap, sym}
use Rattle.core_unit.specs.Places as unit
use Rattle.unit_spots.specs.Walk.{parts_spots}
use Rattle.unit_spots.proofs.Compose.{more, ended}
use Rattle.unit_spots.proofs.walk.+initializing.Goals as goal

pub list_spots-each-preserved : goal.list_spots-each-preserved
list_spots-each-preserved t c =
    more parts_spots unit.initializer_spots (λ x xs rest. refl) c.args.parts.now c.each.part-index c.part-item.result c.args.found.now c.each.found
    c.initializer_spots.new.found c.each-test.true c.part-item.is c.each.invariant c.in_ok-initializer_spots.ensures

pub list_spots-returns : goal.list_spots-returns
list_spots-returns t c =
    ended parts_spots (λ rest. refl) c.args.parts.now c.each.part-index c.args.found.now c.each.found c.each-test.false c.each.invariant
