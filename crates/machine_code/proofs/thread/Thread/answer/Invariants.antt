use Rattle.mcode.specs.Machine.{machine_after}
use Rattle.machine_code.proofs.Parking.{left, Leads}
use Rattle.machine_code.proofs.thread.Thread.answer.Given as goal

abbrev pub invariant-steps : goal.invariant-steps
invariant-steps l = Leads l.code l.self l.answer (machine_after l.code l.fn.self l.word)

abbrev pub decreases-steps : goal.decreases-steps
decreases-steps l = left l.code l.self l.answer
