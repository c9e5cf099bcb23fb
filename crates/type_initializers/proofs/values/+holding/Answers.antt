use Rattle.type_initializers.proofs.Holding.{part-held, part-words, parts-held, parts-words}
use Rattle.type_initializers.proofs.values.+holding.Goals as goal

pub hold_all-each-preserved : goal.hold_all-each-preserved
hold_all-each-preserved t c = record {
  place = part-words c.args.parts.now c.each.part-index c.part-item.result _ c.each.next c.in_ok-next.next c.each-test.true c.part-item.is
      c.each.invariant.place c.in_ok-next.ensures.place;
  noted = part-held c.args.storage c.args.parts.now c.each.part-index c.part-item.result c.each.next c.in_ok-next.next c.each.typing c.hold.new.typing _
      c.each-test.true c.part-item.is c.each.invariant.noted c.in_ok-next.ensures.held c.in_ok-next.ensures.place;
}

pub hold_all-returns-clause-place : goal.hold_all-returns-clause-place
hold_all-returns-clause-place t c = parts-words c.args.parts.now c.each.part-index c.each.next _ c.each-test.false c.each.invariant.place

pub hold_all-returns-clause-held : goal.hold_all-returns-clause-held
hold_all-returns-clause-held t c = parts-held c.args.storage c.args.parts.now c.each.part-index c.each.next c.each.typing _ c.each-test.false c.each.invariant.noted
