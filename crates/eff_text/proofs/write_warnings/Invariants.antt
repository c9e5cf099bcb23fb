-- the sink took the lines so far, and the cursor stands at no later place than the next warning
use Rattle.std.proofs.Common.{take, length, get_or, ◌≤◌, ◌<◌}
use Rattle.rt_base.specs.Outside.{TakesAll}
use Rattle.c_text.specs.Place.{IsAt}
use Rattle.eff_check.specs.declared.Warning.{Warning}
use Rattle.eff_text.specs.WarningText.{warnings_text}
use Rattle.eff_text.proofs.write_warnings.Given as goal

abbrev pub invariant-loop-warning : goal.invariant-loop-warning
invariant-loop-warning g l = record {
  taken :
      TakesAll (warnings_text l.file l.source l.unit (take l.warning-index l.warning-items))
      (g.S.Sink.state l.initial.out) (g.S.Sink.state l.out);
  at : IsAt l.source l.cursor;
  onward : (d : Warning) → l.warning-index < length l.warning-items → l.cursor.place ≤ (get_or l.warning-items l.warning-index d).place;
}
