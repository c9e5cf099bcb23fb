-- the notes so far were gathered
use Rattle.std.proofs.Common.{take}
use Rattle.std.specs.List.{flat_map}
use Rattle.printing.specs.Gathered.{Gathers}
use Rattle.warning_text.specs.WarningText.{chain_note}
use Rattle.warning_text.proofs.merging.write_notes.Given as goal

abbrev pub invariant-each : goal.invariant-each
invariant-each g l =
    Gathers (flat_map (chain_note l.source l.unit l.level) (take l.step-index l.chain)) l.initial.text (g.S.Sink.state l.initial.out) l.text (g.S.Sink.state l.out)
