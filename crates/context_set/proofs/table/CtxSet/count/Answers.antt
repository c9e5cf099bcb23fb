use Rattle.std.proofs.Common.{◌+◌, ◌-◌, ◌∙◌, arith}
use Rattle.context_set.specs.Held.{path_of}
use Rattle.context_set.proofs.Allowed.{counts_known, node_within, seat_counted}
use Rattle.context_set.proofs.table.CtxSet.count.Goals as goal

pub fetch_add-before-requires : goal.fetch_add-before-requires
fetch_add-before-requires c =
    let self = c.args.self.now in
    let me = c.args.pass.now.seat.me in
    let seat = c.requires.pass.1 in (
      c.requires.pass.0,
      omega (arith, self.size, node_within self.slots me c.args.node seat c.requires.node),
      counts_known self.slots self.table.shared.key self.about self.most _ _ me seat c.args.node c.requires.node,
    )

pub returns-then-before-eq0-clause-pass : goal.returns-then-before-eq0-clause-pass
returns-then-before-eq0-clause-pass c =
    let self = c.args.self.now in
    let me = c.args.pass.now.seat.me in (
      c.fetch_add-before.ensures.0 ∙ c.requires.pass.0,
      seat_counted self.slots me c.fetch_add-before.new.seat.me (path_of me.0.held.known record { number = self.slots + c.args.node.number - me.0.slots }) c.fetch_add-before.result c.requires.pass.1 c.fetch_add-before.ensures.2,
    )

pub returns-else-before-eq0-clause-pass : goal.returns-else-before-eq0-clause-pass
returns-else-before-eq0-clause-pass c =
    let self = c.args.self.now in
    let me = c.args.pass.now.seat.me in (
      c.fetch_add-before.ensures.0 ∙ c.requires.pass.0,
      seat_counted self.slots me c.fetch_add-before.new.seat.me (path_of me.0.held.known record { number = self.slots + c.args.node.number - me.0.slots }) c.fetch_add-before.result c.requires.pass.1 c.fetch_add-before.ensures.2,
    )
