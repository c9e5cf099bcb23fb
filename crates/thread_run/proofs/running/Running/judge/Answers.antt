use Rattle.std.proofs.Common.{◌∙◌}
use Rattle.thread_run.proofs.Along.{stack_told, report_told, place_told}
use Rattle.thread_run.proofs.running.Running.judge.Goals as goal

pub judge-requires-clause-stack : goal.judge-requires-clause-stack
judge-requires-clause-stack g c κs within =
    stack_told c.self.inside.world _ c.self.inside.kept c.self.invariant c.args.ask c.args.self.now c.args.world.now c.self.view_is c.requires.world (record { can = c.requires.runs; code = c.is_code.ensures }) c.requires.going c.requires.next

pub returns-clause-report : goal.returns-clause-report
returns-clause-report g c =
    c.judge.ensures.report ∙ report_told c.self.inside.world _ c.self.inside.kept c.self.invariant c.args.ask c.args.self.now c.args.world.now c.self.view_is c.requires.world

pub returns-clause-suppressed : goal.returns-clause-suppressed
returns-clause-suppressed g c =
    c.judge.ensures.suppressed ∙ place_told c.self.inside.world _ c.self.inside.kept c.self.invariant c.args.ask c.args.self.now c.args.world.now c.self.view_is c.requires.world
