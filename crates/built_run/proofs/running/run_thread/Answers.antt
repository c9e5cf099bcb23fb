use Rattle.built_run.proofs.Runner.{has_run}
use Rattle.built_run.proofs.running.run_thread.Goals as goal

pub returns-clause-run : goal.returns-clause-run
returns-clause-run c =
    rw (c.into_ran.ensures.trace, c.into_ran.ensures.end) (has_run c.args.unit.now c.args.code.now c.run-end.new.self c.run-end.result c.run-end.ensures.under_way c.run-end.ensures.ended)
