-- The row of the code is that of the table.
use Rattle.std.proofs.Common.{◌≡◌, ◌∙◌, Option, Some, None, sym, ap, slice_get}
use Rattle.core_unit.specs.Library.{rows, seen}
use Rattle.core_unit.specs.declared.rows.LibRow.{LibRow}
use Rattle.unit_marks.proofs.Marked.{row_at}
use Rattle.unit_marks.specs.Marks as spec
use Rattle.unit_marks.proofs.marks.library_mark.Goals as goal

pub returns-in-Some : goal.returns-in-Some
returns-in-Some c =
    let known : slice_get rows c.args.row ≡ Some (seen c.in-Some.row.now) = row_at c.library.result.now c.args.row (Some c.in-Some.row.now) c.library.ensures c.in-Some.ensures in
    c.row_mark.ensures ∙ ap (spec.row_mark c.args.level) (sym known)

pub returns-in-None : goal.returns-in-None
returns-in-None c =
    let gone : Option LibRow = None in
    let known : slice_get rows c.args.row ≡ None = row_at c.library.result.now c.args.row gone c.library.ensures c.in-None.ensures in
    ap (spec.row_mark c.args.level) (sym known)
