use Rattle.std.proofs.Common.{◌≡◌, ◌+◌, length}
use Rattle.acceptance_detector.specs.Lone.{IsLone}
use Rattle.acceptance_detector.proofs.boards.fill.Given as goal

abbrev pub invariant-each : goal.invariant-each
invariant-each l = record { lone : IsLone l.pass; longer : length l.pass.held.own ≡ length l.initial.pass.held.own + l.number }
