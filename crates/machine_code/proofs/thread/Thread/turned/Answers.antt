use Rattle.std.proofs.Common.{◌≡◌, subst}
use Rattle.mcode.specs.Machine.{Machine}
use Rattle.mcode.specs.declared.stages.Stage.{Stage}
use Rattle.mcode.specs.declared.thread.Mode.TheVariants.{Calling}
use Rattle.machine_code.proofs.Parking.{went}
use Rattle.machine_code.proofs.thread.Thread.turned.Goals as goal

pub returns-in_default : goal.returns-in_default
returns-in_default c =
    went c.args.code.now c.args.self.now c.args.word c.is_code.ensures
    (subst (λ (t : Machine). (stage : Stage) → t.mode ≡ Calling stage → ⊥) c.self.view_is c.in_default.not-Calling)
