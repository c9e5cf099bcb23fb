-- The writes of one piece, from one turn of a loop to the next.
use Rattle.std.proofs.Common.{◌≡◌, ℕ, ◌+◌, ◌-◌, ◌<◌, List, length, take, drop, Option, Some, None, arith, length-drop}
use Rattle.std.proofs.lemmas.List.{take_all}
use Rattle.rt_base.specs.Writes.{Writes, MoreWritten, WritesToFault}

-- the part of a piece that is left, as the code writes it
left-drop : (piece : List ℕ) (written : ℕ) → take (length piece - written) (drop written piece) ≡ drop written piece
left-drop piece written = take_all (length piece - written) (drop written piece) (omega (arith, length-drop written piece))

-- one more write of what was left
pub Writes-more : {S : Type 0} (gives : S → List ℕ → Option ℕ → S → Type 0) (piece : List ℕ) (first between now : S) (written count : ℕ) → Writes gives piece first written between → gives between (take (length piece - written) (drop written piece)) (Some count) now → 0 < count → Writes gives piece first (written + count) now
Writes-more gives piece first between now written count writes gave some =
    MoreWritten written count between now writes (rw (left-drop piece written) at gave) some

-- a write of what was left failed
pub Writes-stopped : {S : Type 0} (gives : S → List ℕ → Option ℕ → S → Type 0) (piece : List ℕ) (first between last : S) (written : ℕ) → Writes gives piece first written between → written < length piece → gives between (take (length piece - written) (drop written piece)) None last → WritesToFault gives piece first last
Writes-stopped gives piece first between last written writes left gave = record {
  written = written;
  between = between;
  writes = writes;
  left = left;
  failed = rw (left-drop piece written) at gave;
}
