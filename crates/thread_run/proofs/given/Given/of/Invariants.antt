-- the words so far are added
use Rattle.std.proofs.Common.{◌≡◌, take}
use Rattle.thread_run.proofs.given.Given.of.Given as goal

abbrev pub invariant-each : goal.invariant-each
invariant-each l = l.given ≡ take l.word-index l.words
