-- The closing quote of a character constant hides what follows it, so its end is the only one.
use Rattle.std.proofs.Common.{◌≡◌, ℕ, zero, suc, ◌+◌, ◌<◌, Bool, true, false, ◌||◌, cond, eqb, if◌then◌else◌, List, [], ◌∷◌, ◌++◌, length, take, drop, get_or, Option, Some, None, refl, sym, ◌∙◌, ap, arith, append_assoc}
use Rattle.std.specs.List.{prefix_len}
use Rattle.std.specs.Str.{bytes_eq}
use Rattle.std.proofs.lemmas.List.{take-append-drop, take_more, drop_more, drop_at, length-take-le, length-drop, length-append}
use Rattle.std.proofs.lemmas.Slice.Eq.{bytes_eq-Decides}
use Rattle.c_text.specs.Bytes.{is_octal_digit, is_hex_digit}
use Rattle.c_text.specs.Ends.{IsOnlyEnd}
use Rattle.c_text.specs.Forms.{further_digits, escape_length, character_length, one_more, closes_after, is_character_end}

run_hides : (p : ℕ → Bool) → p 39 ≡ false → (u s : List ℕ) → prefix_len p (u ++ 39 ∷ s) ≡ prefix_len p (u ++ 39 ∷ [])
run_hides p stop [] s = rw stop refl
run_hides p stop (x ∷ u) s = ap (λ n. cond (p x) (1 + n) 0) (run_hides p stop u s)

short_run_hides : (p : ℕ → Bool) → p 39 ≡ false → (k : ℕ) (u s : List ℕ) → prefix_len p (take k (u ++ 39 ∷ s)) ≡ prefix_len p (take k (u ++ 39 ∷ []))
short_run_hides p stop zero u s = refl
short_run_hides p stop (suc k) [] s = rw stop refl
short_run_hides p stop (suc k) (x ∷ u) s = ap (λ n. cond (p x) (1 + n) 0) (short_run_hides p stop k u s)

digits_hide : (c : ℕ) (u s : List ℕ) → further_digits c (u ++ 39 ∷ s) ≡ further_digits c (u ++ 39 ∷ [])
digits_hide c u s =
    ap (λ n. if is_octal_digit c then n else (if eqb c 120 then prefix_len is_hex_digit (u ++ 39 ∷ s) else 0)) (short_run_hides is_octal_digit refl 2 u s)
    ∙ ap (λ n. if is_octal_digit c then prefix_len is_octal_digit (take 2 (u ++ 39 ∷ [])) else (if eqb c 120 then n else 0)) (run_hides is_hex_digit refl u s)

escape_hides : (u s : List ℕ) → escape_length (u ++ 39 ∷ s) ≡ escape_length (u ++ 39 ∷ [])
escape_hides [] s = refl
escape_hides (c ∷ u) s = ap (λ n. if eqb c 10 then None else Some (1 + n)) (digits_hide c u s)

pub quote_hides : (u s : List ℕ) → character_length (u ++ 39 ∷ s) ≡ character_length (u ++ 39 ∷ [])
quote_hides [] s = refl
quote_hides (b ∷ u) s = ap (λ o. if eqb b 92 then one_more o else (if (eqb b 39) || (eqb b 10) then None else Some 1)) (escape_hides u s)

closing_at : (o : Option ℕ) (word : List ℕ) → closes_after o word ≡ true → (m : ℕ) × (o ≡ Some m) × (drop m word ≡ 39 ∷ [])
closing_at None word h = absurd cc
closing_at (Some m) word h = (m, refl, (bytes_eq-Decides (drop m word) (39 ∷ [])).0 h)

-- a word that is a character's end tells the character's length in every text that begins by it
pub character_found : (word rest : List ℕ) → is_character_end word ≡ true
    → (m : ℕ) × (character_length (word ++ rest) ≡ Some m) × (length word ≡ m + 1) × (get_or (word ++ rest) m 0 ≡ 39)
character_found word rest h =
    let w : (m : ℕ) × (character_length word ≡ Some m) × (drop m word ≡ 39 ∷ []) = closing_at (character_length word) word h in
    let m : ℕ = w.0 in
    let split : word ≡ take m word ++ 39 ∷ [] = sym (take-append-drop m word) ∙ ap (λ t. take m word ++ t) w.2 in
    let size : length (drop m word) ≡ 1 = ap length w.2 in
    let long : length word ≡ m + 1 = omega (arith, length-drop m word, size) in
    let whole : word ++ rest ≡ take m word ++ 39 ∷ rest =
    ap (λ t. t ++ rest) split ∙ append_assoc (take m word) (39 ∷ []) rest in
    let front : length (take m word) ≡ m = length-take-le m word (omega (arith, long)) in
    let there : drop m (word ++ rest) ≡ 39 ∷ rest = ap (drop m) whole ∙ drop_at (take m word) (39 ∷ rest) m front in (
      m,
      ap character_length whole ∙ quote_hides (take m word) rest ∙ ap character_length (sym split) ∙ w.1,
      long,
      at_front m (word ++ rest) rest there,
    )
  where
    at_front : (m : ℕ) (text rest : List ℕ) → drop m text ≡ 39 ∷ rest → get_or text m 0 ≡ 39
    at_front zero [] rest e = absurd cc
    at_front zero (x ∷ text) rest e = cc
    at_front (suc m) [] rest e = absurd cc
    at_front (suc m) (x ∷ text) rest e = at_front m text rest e

pub only_character : (text : List ℕ) (n : ℕ) → character_length text ≡ Some n → n < length text → get_or text n 0 ≡ 39
    → IsOnlyEnd is_character_end (Some (n + 1)) text
only_character text n h inside quote =
    let front : length (take n text) ≡ n = length-take-le n text (omega arith) in
    let taken : take (n + 1) text ≡ take n text ++ 39 ∷ [] = take_more text n 0 inside ∙ ap (λ b. take n text ++ b ∷ []) quote in
    let left : drop n text ≡ 39 ∷ drop (n + 1) text = drop_more text n 0 inside ∙ ap (λ b. b ∷ drop (n + 1) text) quote in
    let whole : text ≡ take n text ++ 39 ∷ drop (n + 1) text = sym (take-append-drop n text) ∙ ap (λ t. take n text ++ t) left in
    let short : character_length (take n text ++ 39 ∷ []) ≡ Some n =
    sym (quote_hides (take n text) (drop (n + 1) text)) ∙ ap character_length (sym whole) ∙ h in
    let closed : is_character_end (take n text ++ 39 ∷ []) ≡ true =
    ap (λ o. closes_after o (take n text ++ 39 ∷ [])) short
    ∙ ap (λ t. bytes_eq t (39 ∷ [])) (drop_at (take n text) (39 ∷ []) n front) in (
      omega arith,
      ap is_character_end taken ∙ closed,
      λ word rest split ends.
          let f : (m : ℕ) × (character_length (word ++ rest) ≡ Some m) × (length word ≡ m + 1) × (get_or (word ++ rest) m 0 ≡ 39) = character_found word rest ends in
          let same : Some n ≡ Some f.0 = sym h ∙ ap character_length split ∙ f.1 in
          let sames : n ≡ f.0 = cc in
          omega (arith, f.2, sames),
    )

pub no_character : (text : List ℕ) → character_length text ≡ None → IsOnlyEnd is_character_end None text
no_character text h = λ word rest split ends.
    let f : (m : ℕ) × (character_length (word ++ rest) ≡ Some m) × (length word ≡ m + 1) × (get_or (word ++ rest) m 0 ≡ 39) = character_found word rest ends in
    let same : None ≡ Some f.0 = sym h ∙ ap character_length split ∙ f.1 in
    cc

-- no closing quote behind the character
pub open_character : (text : List ℕ) (n : ℕ) → character_length text ≡ Some n → (n < length text → get_or text n 0 ≡ 39 → ⊥)
    → IsOnlyEnd is_character_end None text
open_character text n h unclosed = λ word rest split ends.
    let f : (m : ℕ) × (character_length (word ++ rest) ≡ Some m) × (length word ≡ m + 1) × (get_or (word ++ rest) m 0 ≡ 39) = character_found word rest ends in
    let same : Some n ≡ Some f.0 = sym h ∙ ap character_length split ∙ f.1 in
    let sames : f.0 ≡ n = cc in
    let size : length text ≡ length word + length rest = ap length split ∙ length-append word rest in
    let there : get_or text n 0 ≡ 39 = ap (λ t. get_or t n 0) split ∙ ap (λ i. get_or (word ++ rest) i 0) (sym sames) ∙ f.3 in
    unclosed (omega (arith, f.2, sames, size)) there
