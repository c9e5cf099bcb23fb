use Rattle.std.proofs.Common.{sym}
use Rattle.eff_types.specs.Types.{is_function}
use Rattle.eff_types.proofs.Shapes.{points_to-Pointer, points_to-other}
use Rattle.eff_types.proofs.types.CType.is_function_pointer.Goals as goal

pub returns-in-Pointer : goal.returns-in-Pointer
returns-in-Pointer c = let pointer = points_to-Pointer is_function c.in-Pointer.target in cc

pub returns-in_default : goal.returns-in_default
returns-in_default c = sym (points_to-other is_function c.args.self.now c.in_default.not-Pointer)
