use Rattle.std.proofs.Common.{◌≡◌, drop, false}
use Rattle.c_text.specs.Forms.{ends_string, breaks_string, marks_string}
use Rattle.c_text.proofs.Ends.{end_length, plus}
use Rattle.c_text.proofs.words.string_end.Given as goal

-- the end of the text is the end of what is left of it
abbrev pub invariant-loop-at : goal.invariant-loop-at
invariant-loop-at l =
    end_length ends_string breaks_string marks_string false l.text
    ≡ plus l.at (end_length ends_string breaks_string marks_string l.marked (drop l.at l.text))
