use Rattle.std.proofs.Common.{◌∙◌, ap}
use Rattle.machine_code.proofs.Unpacked.{unpacked_is}
use Rattle.c_codegen.specs.Names.{pointed}
use Rattle.c_codegen.specs.Refusals.{first_missing}
use Rattle.c_codegen.proofs.names.first_in_word.Goals as goal

pub returns : goal.returns
returns c = c.first_pointed.ensures ∙ ap (λ w. first_missing c.args.unit.now (pointed w)) (unpacked_is c.args.word c.unpack.result c.unpack.ensures)
