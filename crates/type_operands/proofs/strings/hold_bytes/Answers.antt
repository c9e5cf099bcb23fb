use Rattle.std.proofs.Common.{arith}
use Rattle.type_operands.proofs.StringBytes.{held_more, held_whole}
use Rattle.type_operands.proofs.strings.hold_bytes.Goals as goal

pub each-preserved : goal.each-preserved
each-preserved c =
    held_more c.args.typing.now c.each.typing c.hold_byte.new.typing c.args.address c.each.at c.in_ok-at.at c.each.byte-index c.args.bytes.now
    c.each-test.true c.each.invariant c.in_ok-hold_byte.ensures c.in_ok-at.ensures

pub returns : goal.returns
returns c = held_whole c.args.typing.now c.each.typing c.args.address c.each.at c.each.byte-index c.args.bytes.now (omega arith) c.each.invariant
