use Rattle.command.specs.Lines.{texts}
use Rattle.rtsan_core.proofs.Outcomes.{worded, worded_determined, wordless, roomless}
use Rattle.rtsan_core.proofs.serving.answer_words.Goals as goal

pub returns-in-Ok-clause-outcome : goal.returns-in-Ok-clause-outcome
returns-in-Ok-clause-outcome g c =
    worded (texts c.args.words.now) (g.F.Files.state c.args.files.now) (g.F.Files.state c.answer_command.new.files) c.in-Ok.command c.answer_command.result (g.S.Sink.state c.args.out.now) (g.S.Sink.state c.answer_command.new.out) c.in-Ok.ensures.reading c.answer_command.ensures.outcome

pub returns-in-Ok-clause-determined : goal.returns-in-Ok-clause-determined
returns-in-Ok-clause-determined g c =
    worded_determined (texts c.args.words.now) (g.F.Files.state c.args.files.now) (g.F.Files.state c.answer_command.new.files) c.in-Ok.command c.answer_command.result (g.S.Sink.state c.args.out.now) (g.S.Sink.state c.answer_command.new.out) c.in-Ok.ensures.reading c.answer_command.ensures.determined

pub returns-in-Err-Usage-clause-outcome : goal.returns-in-Err-Usage-clause-outcome
returns-in-Err-Usage-clause-outcome g c =
    wordless (texts c.args.words.now) (g.F.Files.state c.args.files.now) (g.F.Files.state c.args.files.now) c.ended.result c.print_usage.result _ _ (rw c.in-Err-Usage.field-0-is at c.in-Err-Usage.ensures.reading) c.print_usage.ensures c.ended.ensures.status c.ended.ensures.finished

pub returns-in-Err-NoMemory-clause-outcome : goal.returns-in-Err-NoMemory-clause-outcome
returns-in-Err-NoMemory-clause-outcome g c =
    roomless _ c.ended-in-Err-NoMemory.result c.print_no_memory.result _ _ c.print_no_memory.ensures c.ended-in-Err-NoMemory.ensures.status c.ended-in-Err-NoMemory.ensures.finished
