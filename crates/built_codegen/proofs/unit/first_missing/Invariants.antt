use Rattle.built_codegen.specs.Unit.{IsFirstBelow}
use Rattle.built_codegen.proofs.unit.first_missing.Given as goal

abbrev pub invariant-loop-site : goal.invariant-loop-site
invariant-loop-site l = IsFirstBelow l.unit l.site-index l.first
