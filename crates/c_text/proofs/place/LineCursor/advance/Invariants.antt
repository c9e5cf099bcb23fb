use Rattle.std.proofs.Common.{◌≡◌, ◌+◌, ◌≤◌, take}
use Rattle.c_text.specs.Place.{after_bytes}
use Rattle.c_text.proofs.place.LineCursor.advance.Given as goal

-- the bytes read so far lead from the cursor's line and column to these
abbrev pub invariant-loop-byte : goal.invariant-loop-byte
invariant-loop-byte l = record {
  reached : record { line = l.line; column = l.column } ≡ after_bytes (record { line = l.initial.line; column = l.initial.column }) (take l.byte-index l.byte-items);
  low_line : l.line ≤ l.initial.line + l.byte-index;
  low_column : l.column ≤ l.initial.column + l.byte-index;
}
