use Rattle.std.proofs.Common.{slice_index}
use Rattle.std.specs.Mem.Slots.{slots_items}
use Rattle.context_set.specs.Closed.{IsTally, Rows}
use Rattle.context_set.specs.Passes.{held_of}
use Rattle.context_set.proofs.Tally.{end_climbs, end_tally, if_ok_more}
use Rattle.context_set.proofs.table.CtxSet.close.Goals as goal

pub tallied-list-requires-clause-climbs : goal.tallied-list-requires-clause-climbs
tallied-list-requires-clause-climbs c =
    let self = c.args.self in
    let closed = c.close_with-closed in
    end_climbs self.slots self.table.shared.key self.about self.most (slots_items closed.result.words) (slots_items closed.result.slots) c.args.pass.seat.id c.args.pass.seat.me.0 closed.ensures.values.2

pub returns : goal.returns
returns c =
    let self = c.args.self in
    let seat = c.args.pass.seat in
    let closed = c.close_with-closed in
    if_ok_more c.tallied-list.result
    (λ list. Rows self.slots (slice_index (slots_items closed.result.words)) self.slots list.items)
    (λ list. IsTally (held_of c.args.pass) list.items)
    (λ list rows. end_tally self.slots self.table.shared.key self.about self.most (slots_items closed.result.words) (slots_items closed.result.slots) seat.id seat.me.0 closed.ensures.values.2 c.requires.pass.1.lives c.requires.whole c.requires.few list.items rows)
    c.tallied-list.ensures
