-- One event more at the end of a history.
use Rattle.std.proofs.Common.{◌≡◌, ℕ, List, [], ◌∷◌, ◌++◌, length, slice_index, refl, ◌∙◌, length-set}
use Rattle.word_mem.specs.declared.event.WordEvent.{WordEvent}
use Rattle.word_mem.specs.Replay.{place_of, word_after, after, IsAllowed, IsLegal, replay}

pub length-after : (words : List ℕ) (e : WordEvent) → length (after words e) ≡ length words
length-after words e = length-set words (place_of e) (word_after e (slice_index words (place_of e)))

pub length-replay : (words : List ℕ) (es : List WordEvent) → length (replay words es) ≡ length words
length-replay words [] = refl
length-replay words (e ∷ es) = length-replay (after words e) es ∙ length-after words e

pub replay-push : (words : List ℕ) (es : List WordEvent) (e : WordEvent) → replay words (es ++ e ∷ []) ≡ after (replay words es) e
replay-push words [] e = refl
replay-push words (d ∷ es) e = replay-push (after words d) es e

pub IsLegal-push : (words : List ℕ) (es : List WordEvent) (e : WordEvent) → IsLegal words es → IsAllowed (replay words es) e → IsLegal words (es ++ e ∷ [])
IsLegal-push words [] e legal allowed = (allowed, tt)
IsLegal-push words (d ∷ es) e legal allowed = (legal.0, IsLegal-push (after words d) es e legal.1 allowed)
