use Rattle.std.proofs.Common.{ap, ◌∙◌, arith}
use Rattle.word_mem.specs.Locked.{Seated}
use Rattle.word_mem.proofs.LockRule.{lock_looks, lock_takes_in}
use Rattle.word_mem.proofs.locked.LockedWordsWords.join.Goals as goal

pub join_seat-requires : goal.join_seat-requires
join_seat-requires g c =
    let pass = c.requires.belongs in
    let other = c.requires.other in
    (pass.0, other.0, other.2.bare, omega (arith, c.args.self.now.one), lock_takes_in c.args.self.now.table.shared.key.value _ _ _ _ pass.2.lives other.2.lives)

pub load-requires : goal.load-requires
load-requires g c =
    let joined = c.join_seat.ensures in
    let pass = c.requires.belongs in
    let lives = ap (λ (me : Seated). me.0.view.alive) joined.2 ∙ pass.2.lives in
    (joined.0 ∙ pass.0, omega (arith, c.args.self.now.one), lock_looks c.args.self.now.table.shared.key.value _ _ _ lives)
