use Rattle.type_initializers.proofs.Holding.{byte-held, bytes-held}
use Rattle.type_initializers.proofs.values.hold_bytes.Goals as goal

pub each-preserved : goal.each-preserved
each-preserved c =
    byte-held c.args.storage c.args.bytes.now c.each.byte-index c.each.next c.in_ok-next.next c.number_word-word.result c.each.typing c.note_unless_zero.new.typing _
    c.each-test.true c.number_word-word.ensures c.each.invariant c.in_ok-note_unless_zero.ensures c.in_ok-next.ensures

pub returns : goal.returns
returns c = bytes-held c.args.storage c.args.bytes.now c.each.byte-index c.each.next c.each.typing _ c.each-test.false c.each.invariant
