-- The parameters that are left, from the next word on.
use Rattle.std.proofs.Common.{◌≡◌, drop}
use Rattle.type_rules.specs.Functions.{parameters_declared}
use Rattle.type_functions.proofs.definitions.declare_parameters.Given as goal

abbrev pub invariant-each : goal.invariant-each
invariant-each l =
    parameters_declared 0 l.parameters l.initial.typing ≡ parameters_declared l.offset (drop l.parameter-index l.parameters) l.typing
