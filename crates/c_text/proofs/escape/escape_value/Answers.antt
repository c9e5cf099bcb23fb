use Rattle.std.proofs.Common.{◌<◌, length, Some, ◌∙◌, sym, ap, arith}
use Rattle.c_text.specs.Numbers.{value_within}
use Rattle.c_text.proofs.Numbers.{octal_escape, hex_escape, within_capped}
use Rattle.c_text.proofs.escape.escape_value.Goals as goal

pub returns-then-is_octal_digit : goal.returns-then-is_octal_digit
returns-then-is_octal_digit c =
    let some : 0 < length c.args.text.now = grind arith in
    c.byte_of.ensures ∙ ap (λ v. value_within 255 (Some v)) c.value_in.ensures ∙ within_capped 255 _ (omega arith)
    ∙ octal_escape c.args.text.now c.further_digits-digits.result some c.further_digits-digits.ensures.value (sym c.is_octal_digit.ensures ∙ c.if-is_octal_digit.true)

pub returns : goal.returns
returns c =
    let some : 0 < length c.args.text.now = grind arith in
    c.byte_of-2.ensures ∙ ap (λ v. value_within 255 (Some v)) c.value_in-2.ensures ∙ within_capped 255 _ (omega arith)
    ∙ hex_escape c.args.text.now c.further_digits-digits.result some c.further_digits-digits.ensures.value c.further_digits-digits.ensures.within
    c.if-first-ne120.false c.if-digits-eq0.false
