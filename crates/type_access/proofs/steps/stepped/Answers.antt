use Rattle.std.proofs.Common.{◌≡◌, true, false}
use Rattle.type_access.proofs.Stepping.{step_taken}
use Rattle.type_rules.specs.Assignments.{is_stepped}
use Rattle.type_rules.specs.Operands.{is_whole}
use Rattle.type_access.proofs.steps.stepped.Goals as goal

pub returns : goal.returns
returns c =
    let whole : is_whole c.args.found.kind ≡ false = cc in
    let takes : is_stepped c.args.found.kind ≡ true = cc in
    step_taken c.args.place c.args.operator c.args.value c.args.found c.args.typing.now c.stepped_as.result whole takes c.stepped_as.ensures
