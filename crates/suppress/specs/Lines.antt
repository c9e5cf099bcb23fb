-- The lines of a suppression file. This project's own rule.
use Rattle.std.specs.Prelude.{ℕ, ◌-◌, List, [], ◌∷◌, length, take, map, slice_index, ◌==◌, if◌then◌else◌}
use Rattle.std.specs.List.{slice_split}

-- The bytes without the one CR at their end, if one stands there.
abbrev pub without_return : List ℕ → List ℕ
without_return bytes = if slice_index bytes (length bytes - 1) == 13 then take (length bytes - 1) bytes else bytes

-- The parts without the last one where that is empty: no line stands where nothing follows the last LF.
abbrev pub without_empty_last : List (List ℕ) → List (List ℕ)
without_empty_last [] = []
without_empty_last (part ∷ []) = if length part == 0 then [] else part ∷ []
without_empty_last (part ∷ next ∷ parts) = part ∷ without_empty_last (next ∷ parts)

-- The lines of a text: LF ends each, and the end of the text ends a last one that is not empty. One CR
-- before either end is no part of the line.
abbrev pub lines_of : List ℕ → List (List ℕ)
lines_of text = map without_return (without_empty_last (slice_split (λ byte. byte == 10) text))
