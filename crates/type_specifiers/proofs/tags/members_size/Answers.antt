use Rattle.std.proofs.Common.{◌∙◌, ap, ◌+◌, ◌%◌, ◌^◌, arith}
use Rattle.type_rules.specs.Sizes.{size_of}
use Rattle.type_specifiers.proofs.Sums.{wrapped_more}
use Rattle.type_specifiers.proofs.tags.members_size.Goals as goal

pub each-preserved : goal.each-preserved
each-preserved c =
    c.wrapped_sum-size.ensures
    ∙ ap (λ n. (c.each.size + n) % 2 ^ 32) c.size_of.ensures
    ∙ wrapped_more (λ m. size_of c.args.sizes.now m.kind) c.args.members.now c.each.member-index c.each.size c.member-item.result (omega arith) c.member-item.is c.each.invariant
