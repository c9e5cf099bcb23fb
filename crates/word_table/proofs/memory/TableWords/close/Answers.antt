use Rattle.std.proofs.Common.{ℕ, List, sym, ◌∙◌, subst₂}
use Rattle.word_mem.specs.Held.{Closes}
use Rattle.word_mem.proofs.Wholes.{whole_closes}
use Rattle.word_table.proofs.memory.TableWords.close.Goals as goal

pub returns : goal.returns
returns c =
    let pass = c.requires.belongs.1 in
    let last = c.close_with-closed.ensures.values.2 in
    let seen = last.1 in
    let closes = whole_closes c.args.self.table.shared.key.value last.0.words last.0.views seen.0.0 seen.0.1 c.args.pass.seat.id c.args.pass.seat.me.0 seen.1 pass.lives c.requires.whole in
    let words = last.2 ∙ (sym c.in_ok-words.ensures ∙ sym c.new.ensures) in
    subst₂ (λ (o w : List ℕ). Closes o c.args.pass.seat.me.0.held w) pass.opens words closes
