use Rattle.core_unit.proofs.Signed.{row_is}
use Rattle.core_unit.proofs.signatures.signature_of.Goals as goal

pub returns : goal.returns
returns c = row_is c.signatures.result.now c.args.row _ c.signatures.ensures c.requires
