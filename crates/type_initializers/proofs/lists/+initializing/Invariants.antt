-- The whole is what was read, and then the parts that remain.
use Rattle.std.proofs.Common.{◌≡◌, [], drop}
use Rattle.type_initializers.specs.Parts.{part_list}
use Rattle.type_initializers.proofs.lists.+initializing.Given as goal

abbrev pub invariant-part_list-each : goal.invariant-part_list-each
invariant-part_list-each l =
    part_list l.fixed l.place l.kind 0 [] l.inits l.initial.typing
    ≡ part_list l.fixed l.place l.kind l.index l.given (drop l.init-index l.inits) l.typing
