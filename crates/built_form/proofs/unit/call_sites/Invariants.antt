use Rattle.std.proofs.Common.{drop}
use Rattle.built_form.proofs.Sites.{Placing}
use Rattle.built_form.proofs.unit.call_sites.Given as goal

abbrev pub invariant-calls : goal.invariant-calls
invariant-calls l =
    Placing l.source l.scope l.function l.calls l.initial.sites l.sites l.numbers (drop l.call-index l.calls)
