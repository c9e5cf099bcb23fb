-- The marks of a table of lines and columns.
use Rattle.std.proofs.Common.{◌≡◌, ◌∙◌, refl, sym, ap, ℕ, ◌+◌, ◌*◌, ◌<◌, ◌≤◌, min, Bool, true, false, List, [], ◌∷◌, ◌++◌, length, take, get_or, arith}
use Rattle.std.specs.Prelude.{nat_lt}
use Rattle.std.proofs.lemmas.Bool.{ltb-true, ltb-false}
use Rattle.std.proofs.lemmas.List.{get_or_append_left, get_or_push, take_all}
use Rattle.c_text.specs.Place.{LineColumn, after_bytes, line_column}
use Rattle.printing.specs.Table.{AreMarks, IsTable, seen}
use Rattle.printing.specs.declared.lines.LineAt.{LineAt}

-- one mark more
pub marks_more : (source : List ℕ) (n : ℕ) (marks new : List LineAt) (m : LineAt) → AreMarks source n marks → length marks ≡ n → new ≡ marks ++ m ∷ [] → seen m ≡ line_column source (n * 64) → AreMarks source (n + 1) new
marks_more source n marks new m so_far long grown at k d within = go (nat_lt k n) refl
  where
    go : (b : Bool) → nat_lt k n ≡ b → seen (get_or new k d) ≡ line_column source (k * 64)
    go true e =
        let low : k < n = ltb-true k n e in
        ap (λ (xs : List LineAt). seen (get_or xs k d)) grown ∙ (ap seen (get_or_append_left marks (m ∷ []) d k (omega arith)) ∙ so_far k d low)
    go false e =
        let high : n ≤ k = ltb-false k n e in
        let same : n ≡ k = omega arith in
        ap (λ (xs : List LineAt). seen (get_or xs k d)) grown
        ∙ (ap (λ (i : ℕ). seen (get_or (marks ++ m ∷ []) i d)) (sym same)
        ∙ (ap seen (get_or_push marks m d n long) ∙ (at ∙ ap (λ (i : ℕ). line_column source (i * 64)) same)))

-- behind the end of the source every place is its end
pub clamped : (source : List ℕ) (place at : ℕ) → at ≡ min place (length source) → line_column source at ≡ line_column source place
clamped source place at e = go (nat_lt place (length source)) refl
  where
    go : (b : Bool) → nat_lt place (length source) ≡ b → line_column source at ≡ line_column source place
    go true t =
        let low : place < length source = ltb-true place (length source) t in
        let same : at ≡ place = omega arith in
        ap (line_column source) same
    go false t =
        let high : length source ≤ place = ltb-false place (length source) t in
        let last : length source ≤ at = omega arith in
        let start : LineColumn = record { line = 1; column = 1 } in
        ap (after_bytes start) (take_all at source last ∙ sym (take_all place source high))

-- there is a mark for each place up to the end
pub mark_stands : (source : List ℕ) (marks : List LineAt) (place index : ℕ) → IsTable source marks → place ≤ length source → index * 64 ≤ place → index < length marks
mark_stands source marks place index table within before =
    let sized : length source < length marks * 64 = table.sized in
    omega arith

-- and it is that of a cursor
pub mark_tells : (source : List ℕ) (marks : List LineAt) (index : ℕ) (d : LineAt) → IsTable source marks → index < length marks →
    record { line = (get_or marks index d).line; column = (get_or marks index d).column } ≡ line_column source (index * 64)
mark_tells source marks index d table within = table.told index d within
