use Rattle.std.proofs.Common.{length, ap, arith}
use Rattle.acceptance_detector.proofs.Stacks.{lone_is_whole, lone_reports}
use Rattle.acceptance_detector.proofs.boards.stacks_of.Goals as goal

pub collect-requires-clause-whole : goal.collect-requires-clause-whole
collect-requires-clause-whole c = lone_is_whole c.args.pass c.requires.lone

pub collect-requires-clause-few : goal.collect-requires-clause-few
collect-requires-clause-few c = let same = ap length (lone_reports c.args.pass c.requires.lone) in let few = c.requires.few in omega (arith, same, few)
