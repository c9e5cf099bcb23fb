use Rattle.std.proofs.Common.{◌≡◌, ◌+◌, length}
use Rattle.std.specs.List.{position_or_len}
use Rattle.command.specs.Lines.{texts, is_terminator}
use Rattle.command.proofs.line.front_len.Given as goal

abbrev pub invariant-words : goal.invariant-words
invariant-words l = record {
  place : position_or_len is_terminator (texts l.fn.words) ≡ l.count + position_or_len is_terminator (texts l.rest);
  counted : l.count + length l.rest ≡ length l.fn.words;
}

abbrev pub decreases-words : goal.decreases-words
decreases-words l = length l.rest
