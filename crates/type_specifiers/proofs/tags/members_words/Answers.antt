use Rattle.std.proofs.Common.{◌∙◌, ap, ◌+◌, arith}
use Rattle.core_unit.specs.Layout.{told, words_of}
use Rattle.type_specifiers.proofs.Sums.{told_more}
use Rattle.type_specifiers.proofs.tags.members_words.Goals as goal

pub each-preserved : goal.each-preserved
each-preserved c =
    c.told_sum-words.ensures
    ∙ ap (λ n. told (c.each.words + n)) c.words_of.ensures
    ∙ told_more (λ m. words_of c.args.structures.now m.kind) c.args.members.now c.each.member-index c.each.words c.member-item.result (omega arith) c.member-item.is c.each.invariant
