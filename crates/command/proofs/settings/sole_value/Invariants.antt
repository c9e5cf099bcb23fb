use Rattle.std.proofs.Common.{◌≡◌, ◌++◌, length}
use Rattle.std.specs.Prelude.{option_to_list, option_copied}
use Rattle.command.specs.Lines.{pairs}
use Rattle.command.specs.Settings.{sole, values_of}
use Rattle.command.proofs.settings.sole_value.Given as goal

abbrev pub invariant-options : goal.invariant-options
invariant-options l =
    sole (values_of l.name (pairs l.fn.given)) ≡ sole (option_to_list (option_copied l.found) ++ values_of l.name (pairs l.rest))

abbrev pub decreases-options : goal.decreases-options
decreases-options l = length l.rest
