-- By its faults, and by what is noted of it.
use Rattle.std.proofs.Common.{◌≡◌, slice_get, arith}
use Rattle.type_rules.specs.Functions.{marked}
use Rattle.type_functions.proofs.Declared.{further_ends, further_stops}
use Rattle.type_functions.proofs.functions.further_declaration.Goals as goal

pub returns-in-Ok : goal.returns-in-Ok
returns-in-Ok c =
    let effects : c.marked-effects.result ≡ marked c.args.typing.now.marks c.args.number c.args.declaration.now.kind.effects = grind arith in
    further_ends c.args.declaration.now c.args.number (slice_get c.args.typing.now.functions c.args.number) c.args.typing.now c.marked-effects.result
    c.further_noted.result c.further_noted.new.typing effects c.in-Ok.ensures c.further_noted.ensures

pub returns-in-Err : goal.returns-in-Err
returns-in-Err c =
    let effects : c.marked-effects.result ≡ marked c.args.typing.now.marks c.args.number c.args.declaration.now.kind.effects = grind arith in
    further_stops c.args.declaration.now c.args.number (slice_get c.args.typing.now.functions c.args.number) c.args.typing.now c.marked-effects.result
    c.in-Err.stop effects c.in-Err.ensures
