use Rattle.std.proofs.Common.{◌∷◌, ◌∙◌, refl, ap, sym}
use Rattle.core_unit.specs.Places as unit
use Rattle.core_unit.proofs.Equations.{place_spots-Element, spots-Assign, spots-Compound, spots-Binary, spots-Logical, spots-Conditional, spots-Comma, spots-Call}
use Rattle.unit_spots.proofs.Compose.{two, three, more, ended}
use Rattle.unit_spots.proofs.walk.+walking.Goals as goal

pub argument_spots-each-preserved : goal.argument_spots-each-preserved
argument_spots-each-preserved t c =
    more unit.arguments_spots unit.spots (λ x xs rest. refl) c.args.expressions.now c.each.expression-index c.expression-item.result c.args.found.now c.each.found
    c.spots.new.found c.each-test.true c.expression-item.is c.each.invariant c.in_ok-spots.ensures

pub argument_spots-returns : goal.argument_spots-returns
argument_spots-returns t c =
    ended unit.arguments_spots (λ rest. refl) c.args.expressions.now c.each.expression-index c.args.found.now c.each.found c.each-test.false c.each.invariant

pub place_spots-returns-in_ok-spots-in-Element : goal.place_spots-returns-in_ok-spots-in-Element
place_spots-returns-in_ok-spots-in-Element t c =
    two c.spots-in-Element-2.result (unit.place_spots c.args.place.now) (unit.spots c.in-Element.left) (unit.spots c.in-Element.right)
    c.args.found.now c.spots-in-Element.new.found c.spots-in-Element-2.new.found
    (λ rest. ap (λ p. unit.place_spots p rest) c.in-Element.is ∙ place_spots-Element rest c.in-Element.left c.in-Element.right c.in-Element.field-2 c.in-Element.field-3 c.in-Element.field-4)
    (rw c.get-in-Element.ensures at c.in_ok-spots-in-Element.ensures) (rw c.get-in-Element-2.ensures at c.spots-in-Element-2.ensures)

pub spots-returns-in_ok-place_spots-in-Assign : goal.spots-returns-in_ok-place_spots-in-Assign
spots-returns-in_ok-place_spots-in-Assign t c =
    two c.spots-in-Assign.result (unit.spots c.args.expression.now) (unit.place_spots c.in-Assign.place) (unit.spots c.in-Assign.e)
    c.args.found.now c.place_spots-in-Assign.new.found c.spots-in-Assign.new.found
    (λ rest. ap (λ e. unit.spots e rest) c.in-Assign.is ∙ spots-Assign rest c.in-Assign.place c.in-Assign.e)
    (rw c.get-in-Assign.ensures at c.in_ok-place_spots-in-Assign.ensures) (rw c.get-in-Assign-2.ensures at c.spots-in-Assign.ensures)

pub spots-returns-in_ok-place_spots-in-Compound : goal.spots-returns-in_ok-place_spots-in-Compound
spots-returns-in_ok-place_spots-in-Compound t c =
    two c.spots-in-Compound.result (unit.spots c.args.expression.now) (unit.place_spots c.in-Compound.place) (unit.spots c.in-Compound.e)
    c.args.found.now c.place_spots-in-Compound.new.found c.spots-in-Compound.new.found
    (λ rest. ap (λ e. unit.spots e rest) c.in-Compound.is ∙ spots-Compound rest c.in-Compound.place c.in-Compound.field-1 c.in-Compound.e)
    (rw c.get-in-Compound.ensures at c.in_ok-place_spots-in-Compound.ensures) (rw c.get-in-Compound-2.ensures at c.spots-in-Compound.ensures)

pub spots-returns-in_ok-spots-in-Binary : goal.spots-returns-in_ok-spots-in-Binary
spots-returns-in_ok-spots-in-Binary t c =
    two c.spots-in-Binary-2.result (unit.spots c.args.expression.now) (unit.spots c.in-Binary.a) (unit.spots c.in-Binary.b)
    c.args.found.now c.spots-in-Binary.new.found c.spots-in-Binary-2.new.found
    (λ rest. ap (λ e. unit.spots e rest) c.in-Binary.is ∙ spots-Binary rest c.in-Binary.field-0 c.in-Binary.a c.in-Binary.b)
    (rw c.get-in-Binary.ensures at c.in_ok-spots-in-Binary.ensures) (rw c.get-in-Binary-2.ensures at c.spots-in-Binary-2.ensures)

pub spots-returns-in_ok-spots-in-Logical : goal.spots-returns-in_ok-spots-in-Logical
spots-returns-in_ok-spots-in-Logical t c =
    two c.spots-in-Logical-2.result (unit.spots c.args.expression.now) (unit.spots c.in-Logical.a) (unit.spots c.in-Logical.b)
    c.args.found.now c.spots-in-Logical.new.found c.spots-in-Logical-2.new.found
    (λ rest. ap (λ e. unit.spots e rest) c.in-Logical.is ∙ spots-Logical rest c.in-Logical.field-0 c.in-Logical.a c.in-Logical.b)
    (rw c.get-in-Logical.ensures at c.in_ok-spots-in-Logical.ensures) (rw c.get-in-Logical-2.ensures at c.spots-in-Logical-2.ensures)

pub spots-returns-in_ok-spots-in-Comma : goal.spots-returns-in_ok-spots-in-Comma
spots-returns-in_ok-spots-in-Comma t c =
    two c.spots-in-Comma-2.result (unit.spots c.args.expression.now) (unit.spots c.in-Comma.a) (unit.spots c.in-Comma.b)
    c.args.found.now c.spots-in-Comma.new.found c.spots-in-Comma-2.new.found
    (λ rest. ap (λ e. unit.spots e rest) c.in-Comma.is ∙ spots-Comma rest c.in-Comma.a c.in-Comma.b)
    (rw c.get-in-Comma.ensures at c.in_ok-spots-in-Comma.ensures) (rw c.get-in-Comma-2.ensures at c.spots-in-Comma-2.ensures)

pub spots-returns-in_ok-spots-in-Conditional-2 : goal.spots-returns-in_ok-spots-in-Conditional-2
spots-returns-in_ok-spots-in-Conditional-2 t c =
    three c.spots-in-Conditional-3.result (unit.spots c.args.expression.now) (unit.spots c.in-Conditional.c) (unit.spots c.in-Conditional.a) (unit.spots c.in-Conditional.b)
    c.args.found.now c.spots-in-Conditional.new.found c.spots-in-Conditional-2.new.found c.spots-in-Conditional-3.new.found
    (λ rest. ap (λ e. unit.spots e rest) c.in-Conditional.is ∙ spots-Conditional rest c.in-Conditional.c c.in-Conditional.a c.in-Conditional.b)
    (rw c.get-in-Conditional.ensures at c.in_ok-spots-in-Conditional.ensures) (rw c.get-in-Conditional-2.ensures at c.in_ok-spots-in-Conditional-2.ensures)
    (rw c.get-in-Conditional-3.ensures at c.spots-in-Conditional-3.ensures)

pub spots-returns-in_ok-argument_spots-in-Call : goal.spots-returns-in_ok-argument_spots-in-Call
spots-returns-in_ok-argument_spots-in-Call t c =
    three c.add_call.result (unit.spots c.args.expression.now) (unit.spots c.in-Call.callee) (unit.arguments_spots c.in-Call.arguments)
    (λ rest. unit.Calls c.in-Call.at c.in-Call.site (unit.callee c.in-Call.callee) ∷ rest)
    c.args.found.now c.spots-in-Call.new.found c.argument_spots.new.found c.add_call.new.found
    (λ rest. ap (λ e. unit.spots e rest) c.in-Call.is ∙ spots-Call rest c.in-Call.at c.in-Call.site c.in-Call.callee c.in-Call.arguments)
    (rw c.get-in-Call.ensures at c.in_ok-spots-in-Call.ensures) (rw c.as_slice.ensures at c.in_ok-argument_spots-in-Call.ensures) (rw c.get-in-Call-2.ensures at c.add_call.ensures)
