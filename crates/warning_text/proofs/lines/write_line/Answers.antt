-- The head, the message, and the end.
use Rattle.std.proofs.lemmas.Result.{err_from_is_err_and}
use Rattle.printing.specs.Table.{seen}
use Rattle.warning_text.proofs.Heads.{head_fails, message_fails, line_behind}
use Rattle.warning_text.proofs.lines.write_line.Goals as goal

pub returns-in_err-write_head : goal.returns-in_err-write_head
returns-in_err-write_head g c =
    let p = err_from_is_err_and c.from_residual.result c.from_residual.ensures.1 in
    rw p.1 (head_fails _ (seen c.args.at) _ _ _ _ _ c.format-line.ensures.text c.format-column.ensures.text _ _ _ c.in_err-write_head.ensures)

pub returns-in_err-write_pieces : goal.returns-in_err-write_pieces
returns-in_err-write_pieces g c =
    let p = err_from_is_err_and c.from_residual-in_err-write_pieces.result c.from_residual-in_err-write_pieces.ensures.1 in
    rw p.1 (message_fails _ (seen c.args.at) _ _ _ _ _ c.format-line.ensures.text c.format-column.ensures.text _ _ _ _ _ c.in_ok-write_head.ensures c.in_err-write_pieces.ensures)

pub returns : goal.returns
returns g c =
    line_behind _ (seen c.args.at) _ _ _ _ _ c.format-line.ensures.text c.format-column.ensures.text c.write.result _ _ _ _ _ _ _ _ c.in_ok-write_head.ensures c.in_ok-write_pieces.ensures
    (rw c.as_bytes.ensures.value at c.write.ensures)
