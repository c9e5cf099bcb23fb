-- the lines so far were gathered
use Rattle.std.proofs.Common.{take}
use Rattle.printing.specs.Gathered.{Gathers}
use Rattle.warning_text.specs.WarningText.{typed_text}
use Rattle.warning_text.proofs.merging.write_all_typed.Given as goal

abbrev pub invariant-each : goal.invariant-each
invariant-each g l =
    Gathers (typed_text l.source (take l.warning-index l.typed)) l.initial.text (g.S.Sink.state l.initial.out) l.text (g.S.Sink.state l.out)
