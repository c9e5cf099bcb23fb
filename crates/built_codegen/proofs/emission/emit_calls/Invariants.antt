use Rattle.std.proofs.Common.{◌≡◌, ◌++◌, [], take}
use Rattle.built_model.specs.Source.{calls}
use Rattle.built_codegen.specs.Instructions.{tasks_code}
use Rattle.built_codegen.proofs.emission.emit_calls.Given as goal

abbrev pub invariant-loop-site : goal.invariant-loop-site
invariant-loop-site l = l.code ≡ l.initial.code ++ tasks_code (calls l.unit (take l.site-index l.sites) [])
