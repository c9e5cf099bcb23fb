-- Each row follows from where the ladder ended.
use Rattle.command.specs.Lines.{texts}
use Rattle.rtsan_core.specs.declared.status.Status.TheVariants.{Refused, Usage, ReadFault, WriteFault, Limit, Unlinked}
use Rattle.rtsan_core.proofs.Stops.{row, line_alone}
use Rattle.rtsan_core.proofs.Endings.{reported_row, trapped_row, stopped_row, left_runs, sink_later}
use Rattle.rtsan_core.proofs.serving.serve.Goals as goal

pub returns-clause-line : goal.returns-clause-line
returns-clause-line g c = line_alone _ _ _ _ c.answer_words.ensures.outcome

pub returns-clause-usage : goal.returns-clause-usage
returns-clause-usage g c =
    row (texts c.args.words.now) (g.F.Files.state c.args.files.now) (g.F.Files.state c.answer_words.new.files) c.answer_words.result (g.S.Sink.state c.args.out.now) (g.S.Sink.state c.answer_words.new.out) c.answer_words.ensures.outcome Usage

pub returns-clause-read_fault : goal.returns-clause-read_fault
returns-clause-read_fault g c =
    row (texts c.args.words.now) (g.F.Files.state c.args.files.now) (g.F.Files.state c.answer_words.new.files) c.answer_words.result (g.S.Sink.state c.args.out.now) (g.S.Sink.state c.answer_words.new.out) c.answer_words.ensures.outcome ReadFault

pub returns-clause-write_fault : goal.returns-clause-write_fault
returns-clause-write_fault g c =
    row (texts c.args.words.now) (g.F.Files.state c.args.files.now) (g.F.Files.state c.answer_words.new.files) c.answer_words.result (g.S.Sink.state c.args.out.now) (g.S.Sink.state c.answer_words.new.out) c.answer_words.ensures.outcome WriteFault

pub returns-clause-refused : goal.returns-clause-refused
returns-clause-refused g c =
    row (texts c.args.words.now) (g.F.Files.state c.args.files.now) (g.F.Files.state c.answer_words.new.files) c.answer_words.result (g.S.Sink.state c.args.out.now) (g.S.Sink.state c.answer_words.new.out) c.answer_words.ensures.outcome Refused

pub returns-clause-limit : goal.returns-clause-limit
returns-clause-limit g c =
    row (texts c.args.words.now) (g.F.Files.state c.args.files.now) (g.F.Files.state c.answer_words.new.files) c.answer_words.result (g.S.Sink.state c.args.out.now) (g.S.Sink.state c.answer_words.new.out) c.answer_words.ensures.outcome Limit

pub returns-clause-unlinked : goal.returns-clause-unlinked
returns-clause-unlinked g c =
    row (texts c.args.words.now) (g.F.Files.state c.args.files.now) (g.F.Files.state c.answer_words.new.files) c.answer_words.result (g.S.Sink.state c.args.out.now) (g.S.Sink.state c.answer_words.new.out) c.answer_words.ensures.outcome Unlinked

pub returns-clause-reported : goal.returns-clause-reported
returns-clause-reported g c =
    reported_row (texts c.args.words.now) (g.F.Files.state c.args.files.now) (g.F.Files.state c.answer_words.new.files) c.answer_words.result (g.S.Sink.state c.args.out.now) (g.S.Sink.state c.answer_words.new.out) c.answer_words.ensures.outcome

pub returns-clause-trapped : goal.returns-clause-trapped
returns-clause-trapped g c =
    trapped_row (texts c.args.words.now) (g.F.Files.state c.args.files.now) (g.F.Files.state c.answer_words.new.files) c.answer_words.result (g.S.Sink.state c.args.out.now) (g.S.Sink.state c.answer_words.new.out) c.answer_words.ensures.outcome

pub returns-clause-stopped : goal.returns-clause-stopped
returns-clause-stopped g c =
    stopped_row (texts c.args.words.now) (g.F.Files.state c.args.files.now) (g.F.Files.state c.answer_words.new.files) c.answer_words.result (g.S.Sink.state c.args.out.now) (g.S.Sink.state c.answer_words.new.out) c.answer_words.ensures.outcome

pub returns-clause-left : goal.returns-clause-left
returns-clause-left g c =
    left_runs (texts c.args.words.now) (g.F.Files.state c.args.files.now) (g.F.Files.state c.answer_words.new.files) c.answer_words.result (g.S.Sink.state c.args.out.now) (g.S.Sink.state c.answer_words.new.out) c.answer_words.ensures.outcome

pub returns-clause-sink : goal.returns-clause-sink
returns-clause-sink g c = sink_later _ _ _ _ c.answer_words.ensures.outcome
