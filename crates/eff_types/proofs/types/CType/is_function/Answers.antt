use Rattle.std.proofs.Common.{sym}
use Rattle.eff_types.proofs.Shapes.{is_function-other}
use Rattle.eff_types.proofs.types.CType.is_function.Goals as goal

pub returns-in_default : goal.returns-in_default
returns-in_default c = sym (is_function-other c.args.self.now c.in_default.not-Function)
