use Rattle.std.proofs.Common.{arith}
use Rattle.type_access.proofs.Parts.{one_member_more}
use Rattle.type_access.proofs.members.members_words.Goals as goal

pub each-preserved : goal.each-preserved
each-preserved c =
    one_member_more c.args.structures.now c.args.members.now c.each.member-index c.each.total c.member-item.result c.words_of-words.result _
    c.each-test.true c.member-item.is c.each.invariant c.words_of-words.ensures (omega arith) c.saturating_add-total.ensures
