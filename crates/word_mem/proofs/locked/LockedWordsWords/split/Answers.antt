use Rattle.std.proofs.Common.{ap, ◌∙◌, arith}
use Rattle.word_mem.specs.Locked.{Seated}
use Rattle.word_mem.proofs.LockRule.{lock_looks, lock_bears, lock_adopts}
use Rattle.word_mem.proofs.locked.LockedWordsWords.split.Goals as goal

pub join_seat-requires : goal.join_seat-requires
join_seat-requires g c =
    let pass = c.requires.belongs in
    let spare = c.requires.spare in
    (pass.0, spare.0, spare.1.bare, omega (arith, c.args.self.now.one), lock_adopts c.args.self.now.table.shared.key.value _ _ _ _ spare.1.waits)

pub split_seat-seat-requires : goal.split_seat-seat-requires
split_seat-seat-requires g c =
    let joined = c.join_seat.ensures in
    let pass = c.requires.belongs in
    let lives = ap (λ (me : Seated). me.0.view.alive) joined.2 ∙ pass.2.lives in
    let gives = ap (λ (me : Seated). me.0.view.fresh) joined.2 ∙ c.requires.spare.1.gives in
    (joined.0 ∙ pass.0, omega (arith, c.args.self.now.one), lock_bears c.args.self.now.table.shared.key.value _ _ c.args.spare.number lives gives)

pub load-requires : goal.load-requires
load-requires g c =
    let cut = c.split_seat-seat.ensures in
    let joined = c.join_seat.ensures in
    let pass = c.requires.belongs in
    let lives = ap (λ (me : Seated). me.0.view.alive) cut.2 ∙ (ap (λ (me : Seated). me.0.view.alive) joined.2 ∙ pass.2.lives) in
    (cut.0 ∙ (joined.0 ∙ pass.0), omega (arith, c.args.self.now.one), lock_looks c.args.self.now.table.shared.key.value _ _ _ lives)
