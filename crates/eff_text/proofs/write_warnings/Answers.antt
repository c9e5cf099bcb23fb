-- Each turn adds the line of its warning, from the cursor at its place.
use Rattle.std.proofs.Common.{map}
use Rattle.std.specs.List.Sorted.{IsStrictlyIncreasing}
use Rattle.std.proofs.lemmas.Result.{err_from_is_err_and}
use Rattle.eff_text.proofs.Printing.{takes_line, fails_line, place_before_next}
use Rattle.eff_text.proofs.write_warnings.Goals as goal

pub returns-in_err-write_warning : goal.returns-in_err-write_warning
returns-in_err-write_warning g c =
    let p = err_from_is_err_and c.from_residual.result c.from_residual.ensures.1 in
    let line = fails_line c.args.file.now c.args.source.now c.args.unit.now c.warnings-warning-items.result.now c.loop-warning.warning-index _ c.advance-cursor.result _ _ _ c.loop-warning-test.true c.advance-cursor.ensures.at c.advance-cursor.ensures.place c.loop-warning.invariant.taken c.in_err-write_warning.ensures in
    rw p.1 (rw c.warnings-warning-items.ensures at line)

pub loop-warning-preserved : goal.loop-warning-preserved
loop-warning-preserved g c =
    let rises : IsStrictlyIncreasing (map (λ w. w.place) c.warnings-warning-items.result.now) =
    rw c.warnings-warning-items.ensures c.requires.ordered in
    record {
      taken = takes_line c.args.file.now c.args.source.now c.args.unit.now c.warnings-warning-items.result.now c.loop-warning.warning-index _ c.advance-cursor.result _ _ _ c.loop-warning-test.true c.advance-cursor.ensures.at c.advance-cursor.ensures.place c.loop-warning.invariant.taken c.in_ok-write_warning.ensures;
      at = c.advance-cursor.ensures.at;
      onward = λ d within. rw c.advance-cursor.ensures.place (place_before_next c.warnings-warning-items.result.now c.loop-warning.warning-index _ d rises within);
    }
