use Rattle.std.proofs.Common.{◌∙◌, sym, ap}
use Rattle.core_unit.specs.Shapes.{element_of}
use Rattle.type_operands.proofs.KindEquations.{element_of-Array, value_is}
use Rattle.type_operands.proofs.shapes.element_of.Goals as goal

pub returns-in-Array : goal.returns-in-Array
returns-in-Array c =
    value_is c.boxed_copy.result c.get.result.now (element_of c.args.kind.now)
    (c.get.ensures ∙ (sym (element_of-Array c.in-Array.element c.in-Array.field-1) ∙ sym (ap element_of c.in-Array.is))) c.boxed_copy.ensures
