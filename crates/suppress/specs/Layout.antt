-- When a text is the pieces of a pattern in order, with any runs of bytes before, between and after them.
-- This project's own rule of matching.
use Rattle.std.specs.Prelude.{◌≡◌, ◌+◌, ℕ, List, [], ◌∷◌, ◌++◌, length, Bool, IsTrue, Some, slice_get}

-- The text that runs and pieces make in turn: a run, then each piece and the run after it.
abbrev pub laid_out : List (List ℕ) → List (List ℕ) → List ℕ
laid_out [] pieces = []
laid_out (run ∷ runs) [] = run
laid_out (run ∷ runs) (piece ∷ pieces) = run ++ (piece ++ laid_out runs pieces)

-- The text is the pieces in order with one run before each and one after the last. The first run is
-- empty where the start is anchored, and the last where the end is.
pub record IsLaidOut (anchored_start anchored_end : Bool) (pieces : List (List ℕ)) (text : List ℕ) : Type 0 where
  pub runs : List (List ℕ)
  pub one_more : length runs ≡ length pieces + 1
  pub text_is : text ≡ laid_out runs pieces
  pub first_run : IsTrue anchored_start → slice_get runs 0 ≡ Some []
  pub last_run : IsTrue anchored_end → slice_get runs (length pieces) ≡ Some []
