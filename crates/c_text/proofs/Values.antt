-- The values of the bytes of a string, one after another.
use Rattle.std.proofs.Common.{◌≡◌, ℕ, zero, suc, ◌+◌, ◌-◌, ◌<◌, ◌≤◌, false, true, eqb, List, [], ◌∷◌, ◌++◌, length, take, drop, get_or, Option, refl, sym, ◌∙◌, ap, arith}
use Rattle.std.specs.Prelude.{unwrap_or}
use Rattle.std.proofs.lemmas.List.{drop_more, drop-drop, take_rest}
use Rattle.c_text.specs.Forms.{escape_length}
use Rattle.c_text.specs.Escapes.{escape_value, values_after}

skip_values : (skip : ℕ) (text : List ℕ) → values_after skip text ≡ values_after 0 (drop skip text)
skip_values zero text = refl
skip_values (suc k) [] = refl
skip_values (suc k) (b ∷ text) = skip_values k text

pub escaped_value : (word : List ℕ) (at v n : ℕ) (o l : Option ℕ) → at < length word → get_or word at 0 ≡ 92
    → o ≡ escape_value (take (length word - (at + 1)) (drop (at + 1) word)) → v ≡ unwrap_or o 0
    → l ≡ escape_length (take (length word - (at + 1)) (drop (at + 1) word)) → n ≡ unwrap_or l 0
    → values_after 0 (drop at word) ≡ v ∷ values_after 0 (drop (at + 1 + n) word)
escaped_value word at v n o l h first value v_is size n_is =
    let rest : List ℕ = drop (at + 1) word in
    let k : ℕ = unwrap_or (escape_length rest) 0 in
    let whole : take (length word - (at + 1)) (drop (at + 1) word) ≡ rest = take_rest word (at + 1) in
    let v_as : unwrap_or (escape_value rest) 0 ≡ v = sym (v_is ∙ ap (λ m. unwrap_or m 0) (value ∙ ap escape_value whole)) in
    let n_as : k ≡ n = sym (n_is ∙ ap (λ m. unwrap_or m 0) (size ∙ ap escape_length whole)) in
    ap (values_after 0) (drop_more word at 0 h)
    ∙ ap (λ b. values_after 0 (b ∷ rest)) first
    ∙ ap (λ t. unwrap_or (escape_value rest) 0 ∷ t) (skip_values k rest ∙ ap (values_after 0) (drop-drop k (at + 1) word))
    ∙ ap (λ m. m ∷ values_after 0 (drop (at + 1 + k) word)) v_as
    ∙ ap (λ m. v ∷ values_after 0 (drop (at + 1 + m) word)) n_as
