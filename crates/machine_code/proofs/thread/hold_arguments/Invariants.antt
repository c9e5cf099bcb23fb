use Rattle.std.proofs.Common.{◌≡◌, map, take, reverse}
use Rattle.mcode.specs.Words.{argument, unpacked}
use Rattle.machine_code.proofs.thread.hold_arguments.Given as goal

abbrev pub invariant-each : goal.invariant-each
invariant-each l = l.held ≡ reverse (map (λ word. argument (unpacked word)) (take l.argument-index l.arguments))
