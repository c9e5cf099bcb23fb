-- What was printed of the file that was read is the outcome of the command.
use Rattle.rtsan_core.proofs.Outcomes.{commanded, determined, step_told, refused, refused_determined}
use Rattle.rtsan_core.proofs.commands.step_unit.Goals as goal

pub returns-in-Ok-clause-outcome : goal.returns-in-Ok-clause-outcome
returns-in-Ok-clause-outcome g c =
    let found = rw c.as_str-file.ensures at c.in-Ok.ensures.found in
    commanded c.args.command.now (g.F.Files.state c.args.files.now) (g.F.Files.state c.read_file.new.files) c.in-Ok.found.source _ _ _ found.contents
    (step_told c.args.command.now.job c.args.command.now c.in-Ok.found.source c.in-Ok.found.read _ _ _ c.requires (found.ready.read.reads c.args.command.now.file) c.step_command.ensures)

pub returns-in-Ok-clause-determined : goal.returns-in-Ok-clause-determined
returns-in-Ok-clause-determined g c =
    let found = rw c.as_str-file.ensures at c.in-Ok.ensures.found in
    determined c.args.command.now (g.F.Files.state c.args.files.now) (g.F.Files.state c.read_file.new.files) c.in-Ok.found.source _ _ _ found.contents
    (step_told c.args.command.now.job c.args.command.now c.in-Ok.found.source c.in-Ok.found.read _ _ _ c.requires (found.ready.read.reads c.args.command.now.file) c.step_command.ensures)

pub returns-in-Err-clause-outcome : goal.returns-in-Err-clause-outcome
returns-in-Err-clause-outcome g c =
    let why = rw c.as_str-file.ensures at c.in-Err.ensures.refused in
    let printed = rw c.as_str-file.ensures at c.print_refusal.ensures in
    refused c.args.command.now (g.F.Files.state c.args.files.now) (g.F.Files.state c.read_file.new.files) c.in-Err.refusal _ _ _ _ why printed c.ended.ensures.status c.ended.ensures.finished

pub returns-in-Err-clause-determined : goal.returns-in-Err-clause-determined
returns-in-Err-clause-determined g c =
    let why = rw c.as_str-file.ensures at c.in-Err.ensures.refused in
    let printed = rw c.as_str-file.ensures at c.print_refusal.ensures in
    refused_determined c.args.command.now (g.F.Files.state c.args.files.now) (g.F.Files.state c.read_file.new.files) c.in-Err.refusal _ _ _ _ why printed c.ended.ensures.status c.ended.ensures.finished
