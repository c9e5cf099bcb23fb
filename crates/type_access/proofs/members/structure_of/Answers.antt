use Rattle.std.proofs.Common.{sym}
use Rattle.type_access.proofs.Parts.{structure_of-other}
use Rattle.type_access.proofs.members.structure_of.Goals as goal

pub returns-in_default : goal.returns-in_default
returns-in_default c = sym (structure_of-other c.args.kind.now c.in_default.not-Struct)
