use Rattle.std.proofs.Common.{ℕ, ap, ◌∙◌, arith}
use Rattle.atomic_table.specs.Table.{Me}
use Rattle.context_set.specs.declared.view.CtxView.{CtxView}
use Rattle.context_set.proofs.Allowed.{joins_known, told_known, seat_join}
use Rattle.context_set.proofs.table.CtxSet.join.Goals as goal

pub join_seat-requires : goal.join_seat-requires
join_seat-requires c =
    let self = c.args.self.now in
    let other = c.requires.other in
    (c.requires.pass.0, other.0, other.1.bare, omega (arith, self.size, self.some), joins_known self.slots self.table.shared.key self.about _ _ _ _ c.requires.pass.1.lives other.1.lives)

pub load-requires : goal.load-requires
load-requires c =
    let self = c.args.self.now in
    let joined = c.join_seat.ensures in
    (joined.0 ∙ c.requires.pass.0, omega (arith, self.size, self.some), told_known self.slots self.table.shared.key self.about self.most _ _ _ (ap (λ (m : Me ℕ CtxView). m.0.live) joined.2 ∙ c.requires.pass.1.lives))

pub returns-clause-pass : goal.returns-clause-pass
returns-clause-pass c =
    let joined = c.join_seat.ensures in
    let told = c.load.ensures in (
      told.0 ∙ (joined.0 ∙ c.requires.pass.0),
      seat_join c.args.self.now.slots c.args.pass.now.seat.me c.args.other.seat.me c.load.new.seat.me c.requires.pass.1 c.requires.other.1 (told.2.0 ∙ joined.2) told.2.1,
    )
