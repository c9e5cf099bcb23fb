use Rattle.std.proofs.Common.{◌≡◌, ◌≤◌, ◌-◌, None, drop, length}
use Rattle.command.specs.Lines.{texts, line_from}
use Rattle.command.specs.Parts.{line_seen}
use Rattle.command.proofs.Collected.{joined}
use Rattle.command.proofs.line.read_front.Given as goal

abbrev pub invariant-parts : goal.invariant-parts
invariant-parts l = record {
  read : line_from (texts l.fn.words) None ≡ joined (line_seen l.line) (line_from (texts (drop l.at l.words)) None);
  within : l.at ≤ length l.words;
}

abbrev pub decreases-parts : goal.decreases-parts
decreases-parts l = length l.words - l.at
