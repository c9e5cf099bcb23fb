use Rattle.std.proofs.Common.{arith}
use Rattle.context_set.specs.Keys.{number_of, key_of}
use Rattle.context_set.specs.Steps.{wanted}
use Rattle.context_set.proofs.Allowed.{looks_asked, seat_looked}
use Rattle.context_set.proofs.table.CtxSet.look.Goals as goal

pub load-requires : goal.load-requires
load-requires g c =
    let self = c.args.self.now in
    let picked = c.requires.picked in (
      c.requires.table,
      omega (arith, c.requires.asked.within, self.size),
      looks_asked self.slots self.most _ _ c.args.seat.now.me c.requires.seat c.args.ask.now c.args.at c.args.tried c.requires.asked self.table.shared.key self.about
          g.G.Want.parent g.G.Want.step g.G.Want.tried picked.0 picked.1 picked.2,
    )

pub returns-clause-seat : goal.returns-clause-seat
returns-clause-seat g c =
    seat_looked c.args.self.now.slots c.args.at c.args.seat.now.me c.load.new.seat.me c.requires.seat c.requires.asked.within
    (key_of (number_of g.G.Want.parent) g.G.Want.step) g.G.Want.tried (wanted c.args.seat.now.me.0 g.G.Want.parent g.G.Want.step) c.load.result c.load.ensures.2
