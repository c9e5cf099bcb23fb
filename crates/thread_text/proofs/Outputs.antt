-- The text of an output that has bytes.
use Rattle.std.proofs.Common.{◌≡◌, ◌<◌, ℕ, List, [], ◌∷◌, ◌++◌, length, refl, arith}
use Rattle.thread_text.specs.ThreadText.{kept_text, dropped_text, output_text}

pub output_some : (number : ℕ) (output : List ℕ) (dropped : ℕ) → 0 < length output → output_text number output dropped ≡ kept_text number output ++ dropped_text number dropped
output_some number [] dropped some = let no : ⊥ = omega (arith, some) in absurd no
output_some number (byte ∷ bytes) dropped some = refl
