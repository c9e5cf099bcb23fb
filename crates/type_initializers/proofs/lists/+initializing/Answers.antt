use Rattle.std.proofs.lemmas.Result.{err_from_is_err_and}
use Rattle.type_initializers.proofs.ListForms.{part-more, part-stop, part-end}
use Rattle.type_initializers.proofs.lists.+initializing.Goals as goal

pub part_list-each-preserved : goal.part_list-each-preserved
part_list-each-preserved t c =
    part-more c.args.fixed c.args.place c.args.kind.now c.each.index c.in_ok-index.index c.each.given c.add_part.new.given c.args.inits.now c.each.init-index
    c.init-item.result c.in_ok-part.part c.each.typing c.one_part.new.typing _ c.each-test.true c.init-item.is c.each.invariant c.in_ok-part.ensures
    c.in_ok-add_part.ensures c.in_ok-index.ensures

pub part_list-returns-in_err-part : goal.part_list-returns-in_err-part
part_list-returns-in_err-part t c =
    let p = err_from_is_err_and c.from_residual.result c.from_residual.ensures.1 in
    rw (p.1, p.2) (
    part-stop c.args.fixed c.args.place c.args.kind.now c.each.index c.each.given c.args.inits.now c.each.init-index c.init-item.result c.each.typing
    c.one_part.new.typing c.one_part.new.typing _ c.in_err-part.field-0.0 c.each-test.true c.init-item.is c.each.invariant c.in_err-part.ensures
    )

pub part_list-returns : goal.part_list-returns
part_list-returns t c =
    part-end c.args.fixed c.args.place c.args.kind.now c.each.index c.each.given c.args.inits.now c.each.init-index c.each.typing _ c.each-test.false c.each.invariant
