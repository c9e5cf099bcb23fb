-- A step goes on with what was read, and takes a token.
use Rattle.std.proofs.Common.{sym, ◌∙◌, ap}
use Rattle.parse_operands.specs.Parts.{goes_on}
use Rattle.parse_operands.proofs.Postfixes.{postfix_on, step_within, step_falls}
use Rattle.parse_operands.proofs.parser.Operands.postfix.Goals as goal

pub each-smaller : goal.each-smaller
each-smaller g c =
    step_falls c.args.limits.room c.each.input.scope c.each.left.value c.each.input.tokens c.each.left.depth c.in_ok-left-2.left.value
    c.in_ok-left-2.left.depth c.step.new.input.tokens c.if-left-limits.false c.in_ok-left-2.ensures.reads

pub each-preserved : goal.each-preserved
each-preserved g c =
    let inv = c.each.invariant in (
      postfix_on c.args.limits.room c.args.front c.args.input.now.scope c.args.input.now.tokens c.each.left.value c.each.left.depth
          c.each.input.tokens c.each.input.scope c.in_ok-left-2.left.value c.in_ok-left-2.left.depth c.step.new.input.tokens inv.0 inv.2
          (ap (λ x. goes_on x c.each.input.tokens) (sym c.get.ensures) ∙ sym c.goes_on.ensures ∙ c.each-test.true) c.if-left-limits.false c.in_ok-left-2.ensures.reads,
      step_within c.args.limits.room c.each.input.scope c.each.left.value c.each.input.tokens c.each.left.depth c.in_ok-left-2.left.value
          c.in_ok-left-2.left.depth c.step.new.input.tokens c.if-left-limits.false c.in_ok-left-2.ensures.reads,
      c.in_ok-left-2.ensures.kept ∙ inv.2,
    )
