-- the marks so far, and a cursor that stands before the next one
use Rattle.std.proofs.Common.{◌≡◌, ◌≤◌, ◌*◌, length}
use Rattle.c_text.specs.Place.{IsAt}
use Rattle.printing.specs.Table.{AreMarks}
use Rattle.printing.proofs.lines.marks_of.Given as goal

abbrev pub invariant-each : goal.invariant-each
invariant-each l = record {
  many : length l.marks.items ≡ l.mark;
  marks : AreMarks l.source l.mark l.marks.items;
  at : IsAt l.source l.cursor;
  onward : l.cursor.place ≤ l.mark * 64;
}
