-- Where a piece of a pattern stands in a text.
use Rattle.std.specs.Prelude.{◌≡◌, ◌≤◌, ℕ, List, ◌++◌, length}

-- The text nowhere has the piece.
abbrev pub IsNowhere : List ℕ → List ℕ → Type 0
IsNowhere piece text = (run rest : List ℕ) → text ≡ run ++ (piece ++ rest) → ⊥

-- The rest follows the first place of the piece in the text: no place has a shorter run before it.
pub record IsAfterFirst (piece text rest : List ℕ) : Type 0 where
  pub run : List ℕ
  pub place : text ≡ run ++ (piece ++ rest)
  pub first : (other later : List ℕ) → text ≡ other ++ (piece ++ later) → length run ≤ length other
