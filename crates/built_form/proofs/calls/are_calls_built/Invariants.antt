use Rattle.std.proofs.Common.{take, All}
use Rattle.built_form.specs.Built.{IsCallBuilt}
use Rattle.built_form.proofs.calls.are_calls_built.Given as goal

abbrev pub invariant-calls : goal.invariant-calls
invariant-calls l = All (IsCallBuilt l.unit.functions) (take l.site-index l.site-items)
