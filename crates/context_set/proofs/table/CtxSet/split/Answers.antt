use Rattle.std.proofs.Common.{ℕ, ap, ◌∙◌, arith}
use Rattle.atomic_table.specs.Table.{Me}
use Rattle.context_set.specs.declared.view.CtxView.{CtxView}
use Rattle.context_set.proofs.Tree.{kid_above}
use Rattle.context_set.proofs.Allowed.{splits_known, told_known, seat_split, seat_split_off}
use Rattle.context_set.proofs.table.CtxSet.split.Goals as goal

pub split_seat-seat-requires : goal.split_seat-seat-requires
split_seat-seat-requires c =
    let self = c.args.self.now in
    (c.requires.pass.0, omega (arith, self.size, self.some), splits_known self.slots self.table.shared.key self.about _ _ c.requires.pass.1.lives)

pub load-requires : goal.load-requires
load-requires c =
    let self = c.args.self.now in
    let cut = c.split_seat-seat.ensures in
    (cut.0 ∙ c.requires.pass.0, omega (arith, self.size, self.some), told_known self.slots self.table.shared.key self.about self.most _ _ _ (ap (λ (m : Me ℕ CtxView). m.0.live) cut.2 ∙ c.requires.pass.1.lives))

pub returns-clause-later : goal.returns-clause-later
returns-clause-later c =
    let v = c.args.pass.now.seat.me.0 in
    let above = kid_above v.held.number v.splits in
    let number = ap (λ (m : Me ℕ CtxView). m.0.held.number) c.split_seat-seat.ensures.4 in
    omega (arith, number)

pub returns-clause-pass : goal.returns-clause-pass
returns-clause-pass c =
    let cut = c.split_seat-seat.ensures in
    let told = c.load.ensures in
    (told.0 ∙ (cut.0 ∙ c.requires.pass.0), seat_split c.args.self.now.slots c.args.pass.now.seat.me c.load.new.seat.me c.requires.pass.1 (told.2.0 ∙ cut.2) told.2.1)

pub returns-clause-made_pass : goal.returns-clause-made_pass
returns-clause-made_pass c =
    let cut = c.split_seat-seat.ensures in
    (cut.3 ∙ c.requires.pass.0, seat_split_off c.args.self.now.slots c.args.pass.now.seat.me c.split_seat-seat.result.me c.requires.pass.1 cut.4)
