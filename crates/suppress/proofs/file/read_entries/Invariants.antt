use Rattle.std.proofs.Common.{length}
use Rattle.suppress.specs.Lines.{lines_of}
use Rattle.suppress.proofs.FileLemmas.{ReadSoFar}
use Rattle.suppress.proofs.file.read_entries.Given as goal

abbrev pub invariant-loop-line : goal.invariant-loop-line
invariant-loop-line l = ReadSoFar (lines_of l.fn.text) l.number l.entries.items (lines_of l.rest)

abbrev pub decreases-loop-line : goal.decreases-loop-line
decreases-loop-line l = length l.rest
