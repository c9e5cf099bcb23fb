use Rattle.std.proofs.Common.{Some}
use Rattle.std.proofs.lemmas.Map.Text.{hash_map_updates_str}
use Rattle.type_names.proofs.Restoring.{keeps_more, keeps_same}
use Rattle.type_names.proofs.TypeNames.declare.Goals as goal

pub invariant_of-self-in-Ok : goal.invariant_of-self-in-Ok
invariant_of-self-in-Ok c =
    rw c.in-Ok.ensures.items
    (keeps_more c.self.inside.kinds c.self.inside.log.items _ c.insert.new.self c.self.invariant c.in_ok-before.ensures.old
    (hash_map_updates_str c.args.name.now c.self.inside.kinds c.insert.new.self _ c.in_ok-before.ensures.updates))

pub invariant_of-self-in-Err : goal.invariant_of-self-in-Err
invariant_of-self-in-Err c =
    rw c.in-Err.ensures.items
    (keeps_same c.self.inside.kinds c.insert.new.self c.put_back.new.kinds c.self.inside.log.items c.args.name.now (Some c.args.is_type) _
    c.self.invariant c.in_ok-before.ensures.old
    (hash_map_updates_str c.args.name.now c.self.inside.kinds c.insert.new.self _ c.in_ok-before.ensures.updates)
    c.put_back.ensures)
