-- Each turn writes the line of the last caller of those that are left.
use Rattle.std.proofs.Common.{arith}
use Rattle.std.proofs.lemmas.Result.{err_from_is_err_and}
use Rattle.reports.proofs.LastStep.{callers_of_last}
use Rattle.reports.proofs.Remaining.{Remains-next, Remains-fault}
use Rattle.reports.proofs.text.write_callers.Goals as goal

pub returns-in_err-write_caller : goal.returns-in_err-write_caller
returns-in_err-write_caller g c =
    let p = err_from_is_err_and c.from_residual.result c.from_residual.ensures.1 in
    let owed = rw (callers_of_last c.args.source.now c.args.unit.now c.each.index c.each.site c.each.rest.now c.in-Some.below.now c.in-Some.step.now c.in-Some.ensures.cases.0) at c.each.invariant.owed in
    rw p.1 (Remains-fault _ _ _ _ _ _ owed c.in_err-write_caller.ensures)

pub each-preserved : goal.each-preserved
each-preserved g c =
    let owed = rw (callers_of_last c.args.source.now c.args.unit.now c.each.index c.each.site c.each.rest.now c.in-Some.below.now c.in-Some.step.now c.in-Some.ensures.cases.0) at c.each.invariant.owed in
    record {
      owed = Remains-next _ _ _ _ _ _ owed c.in_ok-write_caller.ensures;
      counted = omega (arith, c.in-Some.ensures.cases.1);
    }
