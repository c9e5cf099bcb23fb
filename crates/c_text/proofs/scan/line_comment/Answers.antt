use Rattle.std.proofs.Common.{refl}
use Rattle.c_text.specs.declared.form.Form.TheVariants.{Comment}
use Rattle.c_text.specs.Bytes.{is_in_line}
use Rattle.c_text.proofs.FirstBytes.{front_run_at}
use Rattle.c_text.proofs.scan.line_comment.Goals as goal

pub returns : goal.returns
returns c = front_run_at is_in_line (λ word. Comment) c.args.rest.now c.line_length.result Comment c.line_length.ensures.value refl
