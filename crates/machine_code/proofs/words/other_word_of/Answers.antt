use Rattle.machine_code.proofs.Unpacked.{unpacked_is}
use Rattle.machine_code.proofs.words.other_word_of.Goals as goal

pub returns : goal.returns
returns c = unpacked_is c.args.raw c.unpack.result c.unpack.ensures
