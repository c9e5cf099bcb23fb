-- With the default options the unit is run, and else the command isn't built.
use Rattle.std.proofs.Common.{refl}
use Rattle.rtsan_core.proofs.Plain.{plain_told, options_told, not_plain}
use Rattle.rtsan_core.proofs.stepping.step_formed.Goals as goal

pub returns-then-has_defaults : goal.returns-then-has_defaults
returns-then-has_defaults g c =
    plain_told c.args.command.now c.args.found.now.source c.args.found.now.read c.args.unit.now c.step_plain.result _ _ (c.if-has_defaults.ensures.0 refl)
    (rw c.as_str.ensures at c.step_plain.ensures)

pub returns-else-has_defaults : goal.returns-else-has_defaults
returns-else-has_defaults g c =
    options_told c.args.command.now c.args.found.now.source c.args.found.now.read c.args.unit.now c.ended.result c.print_not_built.result _ _
    (not_plain c.args.command.now c.if-has_defaults.ensures.1) c.print_not_built.ensures c.ended.ensures.status c.ended.ensures.finished
