-- By its faults, and by what is noted of it.
use Rattle.std.proofs.Common.{◌≡◌, length, arith}
use Rattle.type_rules.specs.Functions.{marked}
use Rattle.type_functions.proofs.Declared.{first_ends, first_stops}
use Rattle.type_functions.proofs.functions.first_declaration.Goals as goal

pub returns-in-Ok-first_faults : goal.returns-in-Ok-first_faults
returns-in-Ok-first_faults c =
    let effects : c.marked-effects.result ≡ marked c.args.typing.now.marks (length c.args.typing.now.functions) c.args.declaration.kind.effects = grind arith in
    first_ends c.args.declaration c.args.typing.now c.marked-effects.result c.first_noted.result c.first_noted.new.typing effects c.in-Ok-first_faults.ensures
    c.first_noted.ensures

pub returns-in-Err : goal.returns-in-Err
returns-in-Err c =
    let effects : c.marked-effects.result ≡ marked c.args.typing.now.marks (length c.args.typing.now.functions) c.args.declaration.kind.effects = grind arith in
    first_stops c.args.declaration c.args.typing.now c.marked-effects.result c.in-Err.stop effects c.in-Err.ensures
