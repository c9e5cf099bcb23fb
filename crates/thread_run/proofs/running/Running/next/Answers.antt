use Rattle.std.proofs.Common.{◌∙◌, ap}
use Rattle.mcode.specs.Machine.{machine_next}
use Rattle.thread_run.proofs.Along.{next_told, few_told}
use Rattle.thread_run.proofs.running.Running.next.Goals as goal

pub returns-clause-event : goal.returns-clause-event
returns-clause-event c =
    c.next.ensures.event ∙ ap (λ code. machine_next code c.self.inside.kept.machine) (ap (λ w. w.code) c.world.view_is)
    ∙ next_told c.self.inside.world _ c.self.inside.kept c.self.invariant c.args.self.now c.args.world.now c.self.view_is c.requires.world (record { can = c.requires.runs; code = c.is_code.ensures }) c.requires.going

pub returns-clause-few : goal.returns-clause-few
returns-clause-few c = few_told c.self.inside.world _ c.self.inside.kept c.self.invariant c.args.self.now c.args.world.now c.self.view_is c.requires.world (record { can = c.requires.runs; code = c.is_code.ensures }) c.requires.going
