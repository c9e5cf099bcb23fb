-- The call names its callee.
use Rattle.built_form.proofs.Callees.{call_built}
use Rattle.built_form.proofs.calls.is_call_built.Goals as goal

pub returns-in-Some : goal.returns-in-Some
returns-in-Some c =
    call_built c.args.unit.now.functions c.args.site.now c.in-Some.callee c.function.result.now c.function-in-Some.result.now
    c.may_call.result c.in-Some.is c.function.ensures c.function-in-Some.ensures c.may_call.ensures
