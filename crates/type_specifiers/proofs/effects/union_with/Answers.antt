use Rattle.std.proofs.Common.{◌≡◌, ◌+◌, ◌∷◌, drop, sym, ◌∙◌, ap, arith}
use Rattle.eff_types.specs.Effects.{union}
use Rattle.type_specifiers.proofs.Unions.{union_more, union_end}
use Rattle.type_specifiers.proofs.effects.union_with.Goals as goal

pub each-preserved : goal.each-preserved
each-preserved c =
    c.each.invariant
    ∙ union_more c.each.union c.args.more.now c.each.effects-index _ (omega arith)
    ∙ ap (λ u. union (u ∷ drop (c.each.effects-index + 1) c.args.more.now)) (sym c.joined-union.ensures)

pub returns : goal.returns
returns c = sym (c.each.invariant ∙ union_end c.each.union c.args.more.now c.each.effects-index (omega arith))
