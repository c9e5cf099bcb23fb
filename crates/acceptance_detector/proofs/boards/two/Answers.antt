use Rattle.std.proofs.Common.{arith}
use Rattle.std.proofs.lemmas.List.Elements.{All-replicate}
use Rattle.reports.specs.Stacks.{IsStep}
use Rattle.acceptance_detector.proofs.Stacks.{step_is_one}
use Rattle.acceptance_detector.proofs.boards.two.Goals as goal

pub returns : goal.returns
returns c = record { some = omega arith; few = omega arith; steps = All-replicate IsStep 2 _ (step_is_one c.args.site c.requires) }
