-- A unit of the form that is run so far is stepped, and else the command isn't built.
use Rattle.std.proofs.Common.{ap, inr, refl, Err}
use Rattle.rtsan_core.specs.Causes.{OutOfMemory}
use Rattle.rtsan_core.proofs.Jobs.{stop_told}
use Rattle.rtsan_core.proofs.Plain.{formed_told, other_told}
use Rattle.rtsan_core.proofs.stepping.step_command.Goals as goal

pub returns-in-Ok : goal.returns-in-Ok
returns-in-Ok g c =
    let formed = rw (c.as_slice.ensures, c.as_slice-2.ensures) at c.in-Ok.ensures.read in
    let only = rw (c.as_slice.ensures, c.as_slice-2.ensures) at c.in-Ok.ensures.only in
    formed_told c.args.command.now c.args.found.now.source c.args.found.now.read c.in-Ok.unit c.step_formed.result _ _ formed only c.step_formed.ensures

pub returns-in-Err-NotBuilt : goal.returns-in-Err-NotBuilt
returns-in-Err-NotBuilt g c =
    let other = rw (c.as_slice.ensures, c.as_slice-2.ensures) at c.in-Err-NotBuilt.ensures.other in
    other_told c.args.command.now c.args.found.now.source c.args.found.now.read c.ended.result c.print_not_built.result _ _ (other (ap Err c.in-Err-NotBuilt.field-0-is))
    c.print_not_built.ensures c.ended.ensures.status c.ended.ensures.finished

pub returns-in-Err-NoMemory : goal.returns-in-Err-NoMemory
returns-in-Err-NoMemory g c =
    stop_told _ OutOfMemory c.ended-in-Err-NoMemory.result c.print_no_memory.result _ _ (inr refl) c.print_no_memory.ensures c.ended-in-Err-NoMemory.ensures.status c.ended-in-Err-NoMemory.ensures.finished
