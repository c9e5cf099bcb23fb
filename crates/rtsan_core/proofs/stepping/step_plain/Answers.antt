use Rattle.std.proofs.Common.{inr, refl}
use Rattle.rtsan_core.specs.Causes.{OutOfMemory}
use Rattle.rtsan_core.specs.Found.{cause_to_stop}
use Rattle.rtsan_core.proofs.Jobs.{named_in, job_refused, stop_told, job_run_told}
use Rattle.rtsan_core.proofs.stepping.step_plain.Goals as goal

pub print_uncompiled-requires : goal.print_uncompiled-requires
print_uncompiled-requires g c =
    named_in c.args.unit.now c.compile.result c.in-Err.refusal (record { no_entry = c.compile.ensures.no_entry; undefined = c.compile.ensures.undefined; long = c.compile.ensures.long }) c.in-Err.is

pub returns-in-Err : goal.returns-in-Err
returns-in-Err g c =
    let stopped = job_refused c.args.file.now c.args.found.now.source c.args.found.now.read c.args.unit.now c.compile.result c.in-Err.refusal (record { no_entry = c.compile.ensures.no_entry; undefined = c.compile.ensures.undefined; long = c.compile.ensures.long }) c.in-Err.is in
    stop_told _ (cause_to_stop c.args.unit.now c.in-Err.refusal) c.ended.result c.print_uncompiled.result _ _ stopped c.print_uncompiled.ensures c.ended.ensures.status c.ended.ensures.finished

pub returns-in-Ok-run_code : goal.returns-in-Ok-run_code
returns-in-Ok-run_code g c =
    job_run_told c.args.file.now c.args.found.now.source c.args.found.now.read c.args.unit.now c.in-Ok.code.entry c.args.found.now.verdicts c.in-Ok-run_code.finished c.print_run-status.result _ _
    c.law_one_run.ensures c.in-Ok.ensures.entry c.in-Ok.ensures.linked c.in-Ok.ensures.short c.requires.ready.verdicts c.in-Ok-run_code.ensures c.print_run-status.ensures

pub returns-in-Err-run_code : goal.returns-in-Err-run_code
returns-in-Err-run_code g c =
    stop_told _ OutOfMemory c.ended-in-Err-run_code.result c.print_no_memory.result _ _ (inr refl) c.print_no_memory.ensures c.ended-in-Err-run_code.ensures.status c.ended-in-Err-run_code.ensures.finished
