use Rattle.std.proofs.Common.{◌≡◌, length}
use Rattle.command.specs.Lines.{texts, followed_by}
use Rattle.command.specs.Parts.{line_seen}
use Rattle.command.proofs.line.Line.push_words.Given as goal

abbrev pub invariant-words : goal.invariant-words
invariant-words l = followed_by (texts l.fn.words) (line_seen l.initial.self) ≡ followed_by (texts l.rest) (line_seen l.self)

abbrev pub decreases-words : goal.decreases-words
decreases-words l = length l.rest
