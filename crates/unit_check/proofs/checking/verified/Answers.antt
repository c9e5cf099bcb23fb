-- Each turn tells one function more.
use Rattle.std.proofs.Common.{◌≡◌, ◌∙◌, ap, length, arith}
use Rattle.unit_marks.proofs.Marked.{rows_length}
use Rattle.unit_check.proofs.Turns.{verified_more, all_verified}
use Rattle.unit_check.proofs.checking.verified.Goals as goal

pub keeps-requires : goal.keeps-requires
keeps-requires c =
    let long : length c.args.chains.now.rows ≡ length c.args.functions.now = ap length c.requires.rows ∙ rows_length c.args.functions.now c.args.level in
    omega (arith, c.each-test.true)

pub each-preserved : goal.each-preserved
each-preserved c =
    verified_more c.args.functions.now c.args.level c.args.chains.now.rows c.each.number c.index-functions-number.result c.each.all.items c.push.new.self.items c.keeps.result c.each-test.true
    c.index-functions-number.is c.requires.rows c.each.invariant c.keeps.ensures c.in_ok-push.ensures.items

pub returns : goal.returns
returns c = all_verified c.args.functions.now c.args.level c.each.number c.each.all.items c.each-test.false c.each.invariant
