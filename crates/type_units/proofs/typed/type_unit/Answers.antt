-- What was typed is a unit, since the tree stands in order.
use Rattle.std.proofs.Common.{◌<◌, [], ap, length, arith}
use Rattle.std.proofs.lemmas.List.Elements.{All-from_get_or}
use Rattle.type_units.proofs.Lawful.{lawful}
use Rattle.type_units.proofs.typed.type_unit.Goals as goal

pub new-requires : goal.new-requires
new-requires c =
    let same = ap length c.as_slice.ensures in
    let few = c.if-as_slice.false in
    lawful c.args.source.now [] c.args.tree.now c.in-Ok.typed
    (All-from_get_or (λ byte. byte < 256) c.args.source.now 0 (λ i inside. let fits = c.type_inv.source i in omega (arith, fits)))
    c.requires c.in-Ok.ensures (omega (arith, few, same))
