-- The line, the bytes, and their end.
use Rattle.std.proofs.Common.{length}
use Rattle.std.proofs.lemmas.Result.{err_from_is_err_and}
use Rattle.thread_text.specs.ThreadText.{output_line, line_end}
use Rattle.thread_text.proofs.Parts.{first_fails, second_fails, third_behind}
use Rattle.thread_text.proofs.output.write_kept.Goals as goal

pub returns-in_err-write_output_line : goal.returns-in_err-write_output_line
returns-in_err-write_output_line g c =
    let p = err_from_is_err_and c.from_residual.result c.from_residual.ensures.1 in
    let bytes = c.args.output.now in
    rw p.1 (first_fails (output_line c.args.number (length bytes)) bytes (line_end bytes) c.args.text.now _ _ c.in_err-write_output_line.ensures)

pub returns-in_err-write : goal.returns-in_err-write
returns-in_err-write g c =
    let p = err_from_is_err_and c.from_residual-in_err-write.result c.from_residual-in_err-write.ensures.1 in
    let bytes = c.args.output.now in
    rw p.1 (second_fails (output_line c.args.number (length bytes)) bytes (line_end bytes) c.args.text.now _ _ _ _ c.in_ok-write_output_line.ensures c.in_err-write.ensures)

pub returns : goal.returns
returns g c =
    let bytes = c.args.output.now in
    third_behind c.write-2.result (output_line c.args.number (length bytes)) bytes (line_end bytes) c.args.text.now _ _ _ _ _ _ _ c.in_ok-write_output_line.ensures c.in_ok-write.ensures
    (rw (c.as_bytes.ensures.value, c.line_end.ensures) at c.write-2.ensures)
