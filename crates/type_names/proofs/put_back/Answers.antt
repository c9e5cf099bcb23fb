use Rattle.std.proofs.Common.{rules}
use Rattle.std.proofs.lemmas.Map.Text.{hash_map_updates_str}
use Rattle.type_names.proofs.put_back.Goals as goal

pub returns-in-Some-get_mut : goal.returns-in-Some-get_mut
returns-in-Some-get_mut c = rw c.in-Some.is (hash_map_updates_str c.args.name.now c.args.kinds.now (c.get_mut.follows.lender c.in-Some.is_type) _ ((c.get_mut.follows.holds c.in-Some.is_type).3 (search rules)))

pub returns-in-None : goal.returns-in-None
returns-in-None c = rw c.in-None.is (hash_map_updates_str c.args.name.now c.args.kinds.now c.swap_remove.new.self _ c.swap_remove.ensures.updates)
