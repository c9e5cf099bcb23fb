use Rattle.std.proofs.Common.{◌≤◌, ◌*◌, ◌+◌, ◌∙◌, ap, arith}
use Rattle.std.proofs.lemmas.List.{take_all}
use Rattle.std.proofs.Math.Nat.{mul-le-mul}
use Rattle.c_text.specs.Numbers.{capped, value_in}
use Rattle.c_text.proofs.Numbers.{value_more}
use Rattle.c_text.proofs.number.value_in.Goals as goal

pub overflow_mul-value : goal.overflow_mul-value
overflow_mul-value c =
    let v : c.loop-digit.value ≤ 4294967296 = omega (arith, c.loop-digit.invariant) in
    let p : c.loop-digit.value * c.args.base ≤ 4294967296 * 16 = mul-le-mul v c.requires.most in
    omega (arith, p)

pub overflow_add-value : goal.overflow_add-value
overflow_add-value c =
    let v : c.loop-digit.value ≤ 4294967296 = omega (arith, c.loop-digit.invariant) in
    let p : c.loop-digit.value * c.args.base ≤ 4294967296 * 16 = mul-le-mul v c.requires.most in
    omega (arith, p)

pub loop-digit-preserved : goal.loop-digit-preserved
loop-digit-preserved c =
    c.capped-value.ensures
    ∙ ap (λ d. capped (c.loop-digit.value * c.args.base + d)) (c.from.ensures ∙ c.digit_value.ensures)
    ∙ value_more c.args.base c.loop-digit.value c.loop-digit.digit-index c.args.digits.now c.loop-digit-test.true c.requires.some c.loop-digit.invariant

pub returns : goal.returns
returns c = c.loop-digit.invariant ∙ ap (λ t. capped (value_in c.args.base t)) (take_all c.loop-digit.digit-index c.args.digits.now c.loop-digit-test.false)
