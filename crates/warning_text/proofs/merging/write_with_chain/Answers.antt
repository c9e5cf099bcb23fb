-- The warning, and then its notes.
use Rattle.std.proofs.lemmas.Result.{err_from_is_err_and}
use Rattle.std.specs.List.{flat_map}
use Rattle.printing.proofs.Gathering.{gathered_behind, fails_before}
use Rattle.warning_text.specs.WarningText.{violation_line, chain_note}
use Rattle.warning_text.proofs.merging.write_with_chain.Goals as goal

pub returns-in_err-write_violation : goal.returns-in_err-write_violation
returns-in_err-write_violation g c =
    let p = err_from_is_err_and c.from_residual.result c.from_residual.ensures.1 in
    rw p.1
    (fails_before (violation_line c.args.source.now c.args.unit.now c.args.warning.now)
    (flat_map (chain_note c.args.source.now c.args.unit.now c.args.warning.now.level) c.args.chain.now) c.args.text.now _ _ c.in_err-write_violation.ensures)

pub returns : goal.returns
returns g c =
    gathered_behind c.write_notes.result (violation_line c.args.source.now c.args.unit.now c.args.warning.now)
    (flat_map (chain_note c.args.source.now c.args.unit.now c.args.warning.now.level) c.args.chain.now) c.args.text.now _ _ _ _ _ c.in_ok-write_violation.ensures c.write_notes.ensures
