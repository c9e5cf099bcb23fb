use Rattle.std.proofs.Common.{◌-◌, ◌*◌, ◌^◌, arith}
use Rattle.machine_code.proofs.Unpacked.{zero_is, number_is}
use Rattle.machine_code.proofs.words.word_of.Goals as goal

pub returns-then-raw-eq0 : goal.returns-then-raw-eq0
returns-then-raw-eq0 c = zero_is c.args.raw c.if-raw-eq0.true

pub returns-then-raw : goal.returns-then-raw
returns-then-raw c = number_is c.args.raw (c.args.raw - 2 * 2 ^ 60) (omega arith) (omega arith) (omega arith)
