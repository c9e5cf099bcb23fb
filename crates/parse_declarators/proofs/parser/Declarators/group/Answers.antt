-- What stands inside a node is no deeper than the room there.
use Rattle.std.proofs.Common.{◌<◌, arith}
use Rattle.parse_declarators.proofs.Grouping.{group_within}
use Rattle.parse_declarators.proofs.parser.Declarators.group.Goals as goal

pub overflow_add-result : goal.overflow_add-result
overflow_add-result g c =
    let some : 0 < c.args.limits.room = omega arith in
    let within : c.in_ok-read.read.depth < c.args.limits.room =
    group_within c.args.limits.room c.take-opened.new.self.scope c.args.kind c.place.result c.take-opened.new.self.tokens c.in_ok-read.read.value
    c.in_ok-read.read.depth c.group_rest.new.input.tokens some c.in_ok-read.ensures.reads in
    omega arith
