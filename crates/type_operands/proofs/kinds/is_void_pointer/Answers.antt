use Rattle.std.proofs.Common.{sym}
use Rattle.eff_types.specs.Types.{is_void}
use Rattle.eff_types.proofs.Shapes.{points_to-Pointer, points_to-other}
use Rattle.type_operands.proofs.kinds.is_void_pointer.Goals as goal

pub returns-in-Pointer : goal.returns-in-Pointer
returns-in-Pointer c = let pointer = points_to-Pointer is_void c.in-Pointer.target in cc

pub returns-in_default : goal.returns-in_default
returns-in_default c = sym (points_to-other is_void c.args.kind.now c.in_default.not-Pointer)
