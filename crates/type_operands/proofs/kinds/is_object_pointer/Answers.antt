use Rattle.std.proofs.Common.{sym, not, ◌&&◌}
use Rattle.eff_types.specs.Types.{is_function, is_void}
use Rattle.eff_types.proofs.Shapes.{points_to-Pointer, points_to-other}
use Rattle.type_operands.proofs.kinds.is_object_pointer.Goals as goal

pub returns-in-Pointer : goal.returns-in-Pointer
returns-in-Pointer c = let pointer = points_to-Pointer (λ t. not (is_function t) && not (is_void t)) c.in-Pointer.target in cc

pub returns-in_default : goal.returns-in_default
returns-in_default c = sym (points_to-other (λ t. not (is_function t) && not (is_void t)) c.args.kind.now c.in_default.not-Pointer)
