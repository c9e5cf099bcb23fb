use Rattle.type_names.proofs.Restoring.{keeps_less, latest_is_known}
use Rattle.type_names.proofs.TypeNames.forget_last.Goals as goal

pub put_back-requires : goal.put_back-requires
put_back-requires c = latest_is_known c.self.inside.kinds c.pop.new.self.items c.in-Some.last (rw c.in-Some.ensures.items at c.self.invariant)

pub invariant_of-self : goal.invariant_of-self
invariant_of-self c =
    keeps_less c.self.inside.kinds c.pop.new.self.items c.in-Some.last c.put_back.new.kinds
    (rw c.in-Some.ensures.items at c.self.invariant) c.put_back.ensures
