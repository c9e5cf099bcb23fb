-- Patterns: how one is read from its bytes, and the texts that it matches. This project's own rules.
use Rattle.std.specs.Prelude.{ℕ, ◌-◌, List, Bool, length, take, drop, slice_index, ◌==◌, if◌then◌else◌}
use Rattle.std.specs.List.{slice_split}
use Rattle.suppress.specs.declared.pattern.Pattern.{Pattern}
use Rattle.suppress.specs.Layout.{IsLaidOut}

-- Whether the bytes begin with `^`, the anchor at the start.
abbrev pub has_start_anchor : List ℕ → Bool
has_start_anchor bytes = slice_index bytes 0 == 94

-- Whether the bytes end with `$`, the anchor at the end.
abbrev pub has_end_anchor : List ℕ → Bool
has_end_anchor bytes = slice_index bytes (length bytes - 1) == 36

-- The bytes without the anchor at the start.
abbrev pub without_start_anchor : List ℕ → List ℕ
without_start_anchor bytes = if has_start_anchor bytes then drop 1 bytes else bytes

-- The bytes without the anchor at the end.
abbrev pub without_end_anchor : List ℕ → List ℕ
without_end_anchor bytes = if has_end_anchor bytes then take (length bytes - 1) bytes else bytes

-- The pieces of what stands between the anchors: it is split at each `*`.
abbrev pub pieces_in : List ℕ → List (List ℕ)
pieces_in bytes = slice_split (λ byte. byte == 42) bytes

-- The pattern that the bytes write: a leading `^` and a trailing `$` are anchors, and the rest is split
-- at each `*` into pieces.
abbrev pub pattern_of : List ℕ → Pattern
pattern_of bytes = record {
  anchored_start = has_start_anchor bytes;
  anchored_end = has_end_anchor (without_start_anchor bytes);
  pieces = pieces_in (without_end_anchor (without_start_anchor bytes));
}

-- The pattern matches the text: the text is the pattern's pieces in order with any runs before, between
-- and after them, the first run empty under `^` and the last under `$`.
abbrev pub Matches : Pattern → List ℕ → Type 0
Matches pattern text = IsLaidOut pattern.anchored_start pattern.anchored_end pattern.pieces text
