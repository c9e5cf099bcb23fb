-- The whole is what was passed, with the rest behind it. The arguments that are left stand the last first.
use Rattle.std.proofs.Common.{◌≡◌, drop, reverse}
use Rattle.type_rules.specs.Calls.{passed}
use Rattle.type_calls.proofs.Passes.{rest_passed}
use Rattle.type_calls.proofs.arguments.passed.Given as goal

abbrev pub invariant-each : goal.invariant-each
invariant-each l = passed l.fn.params l.fn.given.items l.fn.typing ≡ rest_passed l.arguments (drop l.kind-index l.params) (reverse l.given.items) l.typing
