-- Texts that are made of a line for each number.
use Rattle.std.proofs.Common.{◌≡◌, ℕ, suc, ◌+◌, ◌-◌, ◌<◌, ◌≤◌, List, [], ◌++◌, sym, ap, ◌∙◌, append_assoc, arith}
use Rattle.std.specs.Prelude.{flat_map}
use Rattle.std.specs.List.{range_with_len}
use Rattle.std.proofs.lemmas.List.{append-nil}

-- one line more
pub lines_more : (line : ℕ → List ℕ) (i n : ℕ) (whole text next : List ℕ) → i < n
    → whole ≡ text ++ flat_map line (range_with_len i (n - i)) → next ≡ text ++ line i
    → whole ≡ next ++ flat_map line (range_with_len (i + 1) (n - (i + 1)))
lines_more line i n whole text next below so_far grown =
    let rest : List ℕ = flat_map line (range_with_len (i + 1) (n - (i + 1))) in
    let left : n - i ≡ suc (n - (i + 1)) = omega arith in
    so_far ∙ rw left (sym (append_assoc text (line i) rest) ∙ ap (λ all. all ++ rest) (sym grown))

-- no line is left
pub lines_done : (line : ℕ → List ℕ) (i n : ℕ) (whole text : List ℕ) → n ≤ i
    → whole ≡ text ++ flat_map line (range_with_len i (n - i)) → whole ≡ text
lines_done line i n whole text past so_far =
    let none : n - i ≡ 0 = omega arith in
    so_far ∙ rw none (append-nil text)

-- a text that is appended in five parts
pub in_five_parts : (none first second third fourth whole a b c d e : List ℕ) → none ≡ [] → first ≡ none ++ a → second ≡ first ++ b
    → third ≡ second ++ c → fourth ≡ third ++ d → whole ≡ fourth ++ e → whole ≡ a ++ (b ++ (c ++ (d ++ e)))
in_five_parts none first second third fourth whole a b c d e start one two three four five =
    five ∙ ap (λ t. t ++ e) (four ∙ ap (λ t. t ++ d) (three ∙ ap (λ t. t ++ c) (two ∙ ap (λ t. t ++ b) (one ∙ ap (λ t. t ++ a) start))))
    ∙ simp append_assoc
