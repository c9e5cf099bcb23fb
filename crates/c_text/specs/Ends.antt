-- The end of a word that closes: a comment, a string, a character constant.
use Rattle.std.specs.Prelude.{◌≡◌, ℕ, ◌≤◌, Bool, true, List, ◌++◌, length, take, Option, Some, None}

-- A text has just one prefix that passes a test, that of n bytes; or it has none.
abbrev pub IsOnlyEnd : (List ℕ → Bool) → Option ℕ → List ℕ → Type 0
IsOnlyEnd test None text = (word rest : List ℕ) → text ≡ word ++ rest → test word ≡ true → ⊥
IsOnlyEnd test (Some n) text =
    (n ≤ length text) × (test (take n text) ≡ true)
    × ((word rest : List ℕ) → text ≡ word ++ rest → test word ≡ true → length word ≡ n)
