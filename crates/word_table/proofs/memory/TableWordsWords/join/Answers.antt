use Rattle.std.proofs.Common.{ℕ, ap, ◌∙◌}
use Rattle.atomic_table.specs.Table.{Me}
use Rattle.word_mem.specs.declared.view.View.{View}
use Rattle.word_table.proofs.Allowed.{allows_look, joins_take}
use Rattle.word_table.proofs.memory.TableWordsWords.join.Goals as goal

pub join_seat-requires : goal.join_seat-requires
join_seat-requires c =
    let belongs = c.requires.belongs in
    let other = c.requires.other in
    (belongs.0, other.0, other.1.bare, c.args.self.now.some, joins_take c.args.self.now.table.shared.key.value _ _ _ _ belongs.1.lives other.1.lives)

pub load-requires : goal.load-requires
load-requires c =
    let joined = c.join_seat.ensures in
    let belongs = c.requires.belongs in
    let lives = ap (λ (me : Me ℕ View). me.0.alive) joined.2 ∙ belongs.1.lives in
    (joined.0 ∙ belongs.0, c.args.self.now.some, allows_look c.args.self.now.table.shared.key.value _ _ _ lives)
