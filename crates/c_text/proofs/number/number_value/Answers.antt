use Rattle.std.proofs.Common.{◌≤◌, ◌-◌, length, ◌∙◌, sym, arith}
use Rattle.c_text.proofs.Numbers.{number_read}
use Rattle.c_text.proofs.number.number_value.Goals as goal

pub returns-in-Some : goal.returns-in-Some
returns-in-Some c =
    let short : length c.args.word.now - length c.digits_of-digits.result.now ≤ 1 = omega (arith, c.if-word-digits-gt1.false) in
    c.within.ensures
    ∙ number_read c.args.word.now c.digits_of-digits.result.now c.greatest.result c.in-Some.value c.digits_of-digits.ensures short
    c.greatest.ensures.value c.greatest.ensures.most (sym c.in-Some.is ∙ c.read_number.ensures)
