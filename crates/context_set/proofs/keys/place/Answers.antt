use Rattle.context_set.proofs.KeyLemmas.{start_is, place_before, place_turned}
use Rattle.context_set.proofs.keys.place.Goals as goal

pub returns-then-at-slots-clause-place : goal.returns-then-at-slots-clause-place
returns-then-at-slots-clause-place c = place_before c.args.slots c.args.key c.args.tried _ (start_is c.args.slots c.args.key c.from.result c.from.ensures) c.if-at-slots.true

pub returns-else-at-slots-clause-place : goal.returns-else-at-slots-clause-place
returns-else-at-slots-clause-place c = place_turned c.args.slots c.args.key c.args.tried _ (start_is c.args.slots c.args.key c.from.result c.from.ensures) c.if-at-slots.false
