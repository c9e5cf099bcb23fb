-- the warnings that are left remain
use Rattle.std.proofs.Common.{drop}
use Rattle.printing.proofs.Gathering.{Remains}
use Rattle.warning_text.specs.WarningText.{merged_text}
use Rattle.warning_text.proofs.merging.write_merged.Given as goal

abbrev pub invariant-each : goal.invariant-each
invariant-each g l =
    Remains (merged_text l.source l.unit l.rest (drop l.index l.warning-items) (drop l.index l.verdicts.chains))
    (merged_text l.source l.unit l.typed l.warning-items l.verdicts.chains) l.initial.text (g.S.Sink.state l.initial.out) l.text (g.S.Sink.state l.out)
