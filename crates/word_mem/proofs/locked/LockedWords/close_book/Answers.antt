use Rattle.word_mem.proofs.LockRule.{lock_closes}
use Rattle.word_mem.proofs.locked.LockedWords.close_book.Goals as goal

pub returns-in-Some-clause-merge : goal.returns-in-Some-clause-merge
returns-in-Some-clause-merge g c =
    let all = lock_closes c.args.self.table.shared.key.value c.args.pass.seat.id c.args.pass.seat.me.0 _ _ c.close_with-closed.ensures.values.2 c.requires.seat.lives c.requires.whole c.word-out.result c.word-out.ensures c.if-out-eq0.true c.in-Some.book c.in-Some.ensures.value in
    all.0

pub returns-in-Some-clause-legal : goal.returns-in-Some-clause-legal
returns-in-Some-clause-legal g c =
    let all = lock_closes c.args.self.table.shared.key.value c.args.pass.seat.id c.args.pass.seat.me.0 _ _ c.close_with-closed.ensures.values.2 c.requires.seat.lives c.requires.whole c.word-out.result c.word-out.ensures c.if-out-eq0.true c.in-Some.book c.in-Some.ensures.value in
    all.1

pub returns-in-Some-clause-words : goal.returns-in-Some-clause-words
returns-in-Some-clause-words g c =
    let all = lock_closes c.args.self.table.shared.key.value c.args.pass.seat.id c.args.pass.seat.me.0 _ _ c.close_with-closed.ensures.values.2 c.requires.seat.lives c.requires.whole c.word-out.result c.word-out.ensures c.if-out-eq0.true c.in-Some.book c.in-Some.ensures.value in
    all.2
