use Rattle.std.proofs.Common.{sym, subst}
use Rattle.word_mem.specs.Held.{IsWhole, Closes}
use Rattle.word_mem.specs.FirstPass.{PlainParts}
use Rattle.word_mem.proofs.OnePass.{keeps_closes}
use Rattle.word_mem.proofs.plain.PlainWords.close.Goals as goal

pub returns : goal.returns
returns c =
    let view = c.pass.view_is in
    let words = c.pass.inside.words.items in
    let whole : IsWhole c.pass.inside.past = subst (λ (p : PlainParts). IsWhole p.held) (sym view) c.requires.whole in
    let here : Closes c.args.pass.opening c.args.pass.held words = subst (λ (p : PlainParts). Closes p.opening p.held words) view (keeps_closes _ _ _ _ c.pass.invariant whole) in
    rw (c.new.ensures, ← c.requires.belongs.opens) here
