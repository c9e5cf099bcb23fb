-- The new number is above that of the pass that was split.
use Rattle.std.proofs.Common.{◌<◌, ◌+◌, subst}
use Rattle.reports.specs.Passes.{Held}
use Rattle.board_past.specs.Lives.{kid, splits, held_of}
use Rattle.board_past.proofs.Kids.{kid_above}
use Rattle.board_past.proofs.past.Past.split.Goals as goal

pub returns-clause-later : goal.returns-clause-later
returns-clause-later c =
    let life = c.self.inside.life.value in
    rw (c.of-4.ensures, c.of-3.ensures, c.replace-before.ensures.value)
    (subst (λ (h : Held). h.number < kid (held_of life).number (splits life + 1)) c.self.view_is (kid_above (held_of life).number (splits life + 1)))
