use Rattle.built_codegen.proofs.Emitted.{calls_step}
use Rattle.built_codegen.proofs.emission.emit_calls.Goals as goal

pub loop-site-preserved : goal.loop-site-preserved
loop-site-preserved c =
    calls_step c.args.unit.now c.args.sites.now c.loop-site.site-index c.args.code.now c.loop-site.code c.emit_call.new.code c.loop-site-test.true c.loop-site.invariant c.in_ok-emit_call.ensures
