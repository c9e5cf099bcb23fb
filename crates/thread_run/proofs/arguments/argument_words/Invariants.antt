-- with the words of the parameters that are left, from the arguments that are left, they are all
use Rattle.std.proofs.Common.{◌≡◌, ◌≤◌, ◌++◌, drop}
use Rattle.src_model.specs.Runs.{argument_words}
use Rattle.thread_run.proofs.arguments.argument_words.Given as goal

abbrev pub invariant-each : goal.invariant-each
invariant-each l = record {
  used : l.used ≤ l.kind-index;
  words : l.words.items ++ argument_words (drop l.kind-index l.params) (drop l.used l.arguments) ≡ argument_words l.params l.arguments;
}
