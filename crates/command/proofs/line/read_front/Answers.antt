use Rattle.std.proofs.Common.{arith, length-drop}
use Rattle.std.proofs.lemmas.List.{take_rest}
use Rattle.command.proofs.Collected.{part_more}
use Rattle.command.proofs.line.read_front.Goals as goal

pub parts-preserved : goal.parts-preserved
parts-preserved c =
    let there = rw take_rest at c.in-Some.ensures.there in record {
      read = part_more c.args.words.now c.parts.at c.in-Some.taken _ _ c.in-Some.part _ c.parts.invariant.read (rw take_rest at c.in-Some.ensures.part) c.in_ok-push.ensures.value;
      within = omega (arith, there, length-drop c.parts.at c.args.words.now);
    }
