use Rattle.std.proofs.Common.{arith}
use Rattle.context_set.specs.Keys.{number_of, key_of}
use Rattle.context_set.specs.Steps.{wanted}
use Rattle.context_set.proofs.Allowed.{puts_asked, seat_put}
use Rattle.context_set.proofs.table.CtxSet.put.Goals as goal

pub compare_exchange-word-requires : goal.compare_exchange-word-requires
compare_exchange-word-requires g c =
    let self = c.args.self.now in
    let picked = c.requires.picked in (
      c.requires.table,
      omega (arith, c.requires.asked.within, self.size),
      puts_asked self.slots self.most _ _ c.args.seat.now.me c.requires.seat c.args.ask.now c.args.at c.args.tried c.requires.asked self.table.shared.key self.about
          g.G.Want.parent g.G.Want.step g.G.Want.tried picked.0 picked.1 picked.2,
    )

pub returns-then-word-eq0-clause-seat : goal.returns-then-word-eq0-clause-seat
returns-then-word-eq0-clause-seat g c =
    seat_put c.args.self.now.slots c.args.at c.args.seat.now.me c.compare_exchange-word.new.seat.me c.requires.seat c.requires.asked.within
    (key_of (number_of g.G.Want.parent) g.G.Want.step) g.G.Want.tried (wanted c.args.seat.now.me.0 g.G.Want.parent g.G.Want.step) c.compare_exchange-word.result c.compare_exchange-word.ensures.2

pub returns-else-word-eq0-clause-seat : goal.returns-else-word-eq0-clause-seat
returns-else-word-eq0-clause-seat g c =
    seat_put c.args.self.now.slots c.args.at c.args.seat.now.me c.compare_exchange-word.new.seat.me c.requires.seat c.requires.asked.within
    (key_of (number_of g.G.Want.parent) g.G.Want.step) g.G.Want.tried (wanted c.args.seat.now.me.0 g.G.Want.parent g.G.Want.step) c.compare_exchange-word.result c.compare_exchange-word.ensures.2
