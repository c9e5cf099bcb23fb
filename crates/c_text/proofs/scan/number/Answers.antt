use Rattle.std.proofs.Common.{refl}
use Rattle.c_text.specs.declared.form.Form.TheVariants.{Word}
use Rattle.c_text.specs.declared.TokenKind.TheVariants.{Number}
use Rattle.c_text.specs.Bytes.{is_number_byte}
use Rattle.c_text.proofs.FirstBytes.{front_run_at}
use Rattle.c_text.proofs.scan.number.Goals as goal

pub returns : goal.returns
returns c = front_run_at is_number_byte (λ word. Word Number) c.args.rest.now c.number_length.result (Word Number) c.number_length.ensures.value refl
