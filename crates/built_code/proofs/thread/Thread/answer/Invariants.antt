use Rattle.built_code.specs.Machine.{machine_after}
use Rattle.built_code.proofs.Parking.{rank, Parking}
use Rattle.built_code.proofs.thread.Thread.answer.Given as goal

abbrev pub invariant-loop-self : goal.invariant-loop-self
invariant-loop-self l = Parking l.code l.self (machine_after l.code l.fn.self l.word)

abbrev pub decreases-loop-self : goal.decreases-loop-self
decreases-loop-self l = rank l.code l.self
