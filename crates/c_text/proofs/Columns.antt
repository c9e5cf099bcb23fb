-- What reading bytes one after another does to a line and a column.
use Rattle.std.proofs.Common.{◌≡◌, ◌≢◌, ℕ, ◌+◌, ◌-◌, ◌<◌, ◌≤◌, false, List, [], ◌∷◌, ◌++◌, length, get_or, take, drop, eqb, refl, sym, ◌∙◌, ap, subst, arith}
use Rattle.std.proofs.lemmas.Bool.Decides.{nat_tests}
use Rattle.std.proofs.lemmas.List.{take_more, length-take, take-take, take-append-drop, drop-take}
use Rattle.c_text.specs.Place.{LineColumn, after_byte, after_bytes, line_column}

pub after_bytes-append : (at : LineColumn) (xs ys : List ℕ) → after_bytes at (xs ++ ys) ≡ after_bytes (after_bytes at xs) ys
after_bytes-append at [] ys = refl
after_bytes-append at (x ∷ xs) ys = after_bytes-append (after_byte at x) xs ys

pub line_is_low : (at : LineColumn) (bytes : List ℕ) → (after_bytes at bytes).line ≤ at.line + length bytes
line_is_low at [] = omega arith
line_is_low at (byte ∷ bytes) = grind (arith, nat_tests, line_is_low (after_byte at byte) bytes)

pub column_is_low : (at : LineColumn) (bytes : List ℕ) → (after_bytes at bytes).column ≤ at.column + length bytes
column_is_low at [] = omega arith
column_is_low at (byte ∷ bytes) = grind (arith, nat_tests, column_is_low (after_byte at byte) bytes)

pub cursor_is_low : (source : List ℕ) (place line column : ℕ) → record { line = line; column = column } ≡ line_column source place → (line ≤ 1 + place) × (column ≤ 1 + place)
cursor_is_low source place line column at =
    let start : LineColumn = record { line = 1; column = 1 }
    in let l : line ≡ (line_column source place).line = ap (λ (p : LineColumn). p.line) at
    in let c : column ≡ (line_column source place).column = ap (λ (p : LineColumn). p.column) at
    in (omega (arith, l, line_is_low start (take place source), length-take place source), omega (arith, c, column_is_low start (take place source), length-take place source))

-- one byte more
pub read_more : (at now : LineColumn) (bytes : List ℕ) (i : ℕ) → i < length bytes → now ≡ after_bytes at (take i bytes) → after_byte now (get_or bytes i 0) ≡ after_bytes at (take (i + 1) bytes)
read_more at now bytes i inside e =
    ap (λ (p : LineColumn). after_byte p (get_or bytes i 0)) e
    ∙ sym (after_bytes-append at (take i bytes) (get_or bytes i 0 ∷ []))
    ∙ ap (after_bytes at) (sym (take_more bytes i 0 inside))

pub line_feed : (now next : LineColumn) (byte : ℕ) → byte ≡ 10 → next.line ≡ now.line + 1 → next.column ≡ 1 → next ≡ after_byte now byte
line_feed now next byte e l c = rw e (ap (λ (x : ℕ). record { line = x; column = next.column }) l ∙ ap (λ (x : ℕ). record { line = now.line + 1; column = x }) c)

pub other_byte : (now next : LineColumn) (byte : ℕ) → byte ≢ 10 → next.line ≡ now.line → next.column ≡ now.column + 1 → next ≡ after_byte now byte
other_byte now next byte apart l c =
    let e : eqb byte 10 ≡ false = grind (arith, nat_tests)
    in rw e (ap (λ (x : ℕ). record { line = x; column = next.column }) l ∙ ap (λ (x : ℕ). record { line = now.line; column = x }) c)

-- reading on from a place
pub read_on : (source : List ℕ) (from to : ℕ) (now : LineColumn) → from ≤ to → now ≡ line_column source from → after_bytes now (take (to - from) (drop from source)) ≡ line_column source to
read_on source from to now le e =
    let start : LineColumn = record { line = 1; column = 1 }
    in let n : from + (to - from) ≡ to = omega arith
    in let later : drop from (take to source) ≡ take (to - from) (drop from source) =
    let P : ℕ → Type 0 = λ m. drop from (take m source) ≡ take (to - from) (drop from source) in subst P n (drop-take from (to - from) source)
    in let whole : take from source ++ take (to - from) (drop from source) ≡ take to source =
    ap (λ (xs : List ℕ). take from source ++ xs) (sym later)
    ∙ ap (λ (xs : List ℕ). xs ++ drop from (take to source)) (sym (take-take from to source le))
    ∙ take-append-drop from (take to source)
    in ap (λ (p : LineColumn). after_bytes p (take (to - from) (drop from source))) e
    ∙ sym (after_bytes-append start (take from source) (take (to - from) (drop from source)))
    ∙ ap (after_bytes start) whole
