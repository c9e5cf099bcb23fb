use Rattle.std.proofs.Common.{ℕ, ap, ◌∙◌}
use Rattle.atomic_table.specs.Table.{Me}
use Rattle.word_mem.specs.declared.view.View.{View}
use Rattle.word_table.proofs.Allowed.{allows_look, splits_bear, joins_adopt}
use Rattle.word_table.proofs.memory.TableWordsWords.split.Goals as goal

pub join_seat-requires : goal.join_seat-requires
join_seat-requires c =
    let belongs = c.requires.belongs in
    let spare = c.requires.spare in
    (belongs.0, spare.0, spare.1.bare, c.args.self.now.some, joins_adopt c.args.self.now.table.shared.key.value _ _ _ _ spare.1.waits)

pub split_seat-seat-requires : goal.split_seat-seat-requires
split_seat-seat-requires c =
    let joined = c.join_seat.ensures in
    let belongs = c.requires.belongs in
    let lives = ap (λ (me : Me ℕ View). me.0.alive) joined.2 ∙ belongs.1.lives in
    let gives = ap (λ (me : Me ℕ View). me.0.fresh) joined.2 ∙ c.requires.spare.1.gives in
    (joined.0 ∙ belongs.0, c.args.self.now.some, splits_bear c.args.self.now.table.shared.key.value _ _ c.args.spare.number lives gives)

pub load-requires : goal.load-requires
load-requires c =
    let cut = c.split_seat-seat.ensures in
    let joined = c.join_seat.ensures in
    let belongs = c.requires.belongs in
    let lives = ap (λ (me : Me ℕ View). me.0.alive) cut.2 ∙ (ap (λ (me : Me ℕ View). me.0.alive) joined.2 ∙ belongs.1.lives) in
    (cut.0 ∙ (joined.0 ∙ belongs.0), c.args.self.now.some, allows_look c.args.self.now.table.shared.key.value _ _ _ lives)
