-- Values that are cut off above every limit, and escapes that are passed.
use Rattle.std.proofs.Common.{◌≡◌, ℕ, zero, suc, ◌+◌, ◌-◌, ◌*◌, ◌<◌, ◌≤◌, inl, inr, true, false, eqb, leb, if◌then◌else◌, List, [], ◌∷◌, length, take, drop, get_or, Option, Some, None, refl, sym, ◌∙◌, ap, arith}
use Rattle.std.proofs.lemmas.Bool.{cases_lt}
use Rattle.std.proofs.lemmas.Bool.Decides.{nat_tests}
use Rattle.std.proofs.lemmas.List.{drop_more, drop-drop, take_rest}
use Rattle.std.proofs.lemmas.List.Sums.{fold_more}
use Rattle.std.proofs.Math.Nat.{mul-le-mul}
use Rattle.std.specs.Prelude.{is_some, unwrap_or}
use Rattle.c_text.specs.Bytes.{is_octal_digit, is_hex_digit}
use Rattle.std.specs.List.{prefix_len}
use Rattle.c_text.specs.Numbers.{value_within, value_in, digit_value, capped, capped_value, digits_of, greatest, read_number, number_value}
use Rattle.c_text.specs.Forms.{escape_length, further_digits, is_empty}
use Rattle.c_text.specs.Escapes.{unknown_escape, escape_value, first_unknown}

-- one digit more, where the value so far is cut off
pub capped_digit : (v base d : ℕ) → 1 ≤ base → capped (capped v * base + d) ≡ capped (v * base + d)
capped_digit v base d h = elim (cases_lt v 4294967296) [
  | inl below ↦ let e : capped v ≡ v = omega arith in ap (λ n. capped (n * base + d)) e
  | inr above ↦
      let e : capped v ≡ 4294967296 = omega arith in
      let p : 4294967296 * 1 ≤ v * base = mul-le-mul above h in
      let same : 4294967296 ≤ 4294967296 = omega arith in
      let q : 4294967296 * 1 ≤ 4294967296 * base = mul-le-mul same h in
      let m : capped v * base ≡ 4294967296 * base = ap (λ n. n * base) e in
      omega (arith, p, q, m)
]

-- a loop over the digits
pub value_more : (base value i : ℕ) (digits : List ℕ) → i < length digits → 1 ≤ base → value ≡ capped (value_in base (take i digits))
    → capped (value * base + digit_value (get_or digits i 0)) ≡ capped (value_in base (take (i + 1) digits))
value_more base value i digits h some before =
    let next : value_in base (take (i + 1) digits) ≡ value_in base (take i digits) * base + digit_value (get_or digits i 0) =
    fold_more (λ n d. n * base + digit_value d) 0 digits i 0 h in
    ap (λ n. capped (n * base + digit_value (get_or digits i 0))) before
    ∙ capped_digit (value_in base (take i digits)) base (digit_value (get_or digits i 0)) some
    ∙ ap capped (sym next)

take_behind : (x m : ℕ) (xs : List ℕ) → take (1 + m) (x ∷ xs) ≡ x ∷ take m xs
take_behind x m xs = let e : 1 + m ≡ suc m = omega arith in ap (λ k. take k (x ∷ xs)) e

-- a limit below the cut sees no difference
pub within_capped : (limit v : ℕ) → limit ≤ 4294967295 → value_within limit (Some (capped v)) ≡ value_within limit (Some v)
within_capped limit v h = elim (cases_lt limit v) [
  | inl above ↦
      let a : leb v limit ≡ false = grind (arith, nat_tests) in
      let b : leb (capped v) limit ≡ false = let c : limit < capped v = omega arith in grind (arith, nat_tests) in
      ap (λ t. if t then Some (capped v) else None) b ∙ sym (ap (λ t. if t then Some v else None) a)
  | inr below ↦ let e : capped v ≡ v = omega arith in ap (λ n. value_within limit (Some n)) e
]

-- an escape is passed at once
skip_escape : (skip at : ℕ) (text : List ℕ) → unknown_escape skip at text ≡ unknown_escape 0 (at + skip) (drop skip text)
skip_escape zero at text = let e : at ≡ at + 0 = omega arith in ap (λ n. unknown_escape 0 n text) e
skip_escape (suc k) at [] = refl
skip_escape (suc k) at (b ∷ text) =
    let e : (at + 1) + k ≡ at + suc k = omega arith in
    skip_escape k (at + 1) text ∙ ap (λ n. unknown_escape 0 n (drop k text)) e

is_some_value : (o : Option ℕ) → is_some o ≡ true → (v : ℕ) × (o ≡ Some v)
is_some_value None h = absurd cc
is_some_value (Some v) h = (v, refl)

pub past_escape : (word : List ℕ) (at n : ℕ) (o l : Option ℕ) → at < length word → get_or word at 0 ≡ 92
    → o ≡ escape_value (take (length word - (at + 1)) (drop (at + 1) word)) → is_some o ≡ true
    → l ≡ escape_length (take (length word - (at + 1)) (drop (at + 1) word)) → n ≡ unwrap_or l 0
    → unknown_escape 0 at (drop at word) ≡ unknown_escape 0 (at + 1 + n) (drop (at + 1 + n) word)
past_escape word at n o l h first value known size n_is =
    let rest : List ℕ = drop (at + 1) word in
    let k : ℕ = unwrap_or (escape_length rest) 0 in
    let whole : take (length word - (at + 1)) (drop (at + 1) word) ≡ rest = take_rest word (at + 1) in
    let some : (v : ℕ) × (o ≡ Some v) = is_some_value o known in
    let found : escape_value rest ≡ Some some.0 = sym (value ∙ ap escape_value whole) ∙ some.1 in
    let n_as : n ≡ k = n_is ∙ ap (λ m. unwrap_or m 0) (size ∙ ap escape_length whole) in
    ap (unknown_escape 0 at) (drop_more word at 0 h)
    ∙ ap (λ b. unknown_escape 0 at (b ∷ rest)) first
    ∙ ap (λ m. first_unknown m at (unknown_escape k (at + 1) rest)) found
    ∙ skip_escape k (at + 1) rest
    ∙ ap (λ t. unknown_escape 0 (at + 1 + k) t) (drop-drop k (at + 1) word)
    ∙ ap (λ m. unknown_escape 0 (at + 1 + m) (drop (at + 1 + m) word)) (sym n_as)

pub past_byte : (word : List ℕ) (at : ℕ) → at < length word → (get_or word at 0 ≡ 92 → ⊥)
    → unknown_escape 0 at (drop at word) ≡ unknown_escape 0 (at + 1) (drop (at + 1) word)
past_byte word at h other =
    let plain : eqb (get_or word at 0) 92 ≡ false = grind (arith, nat_tests) in
    ap (unknown_escape 0 at) (drop_more word at 0 h) ∙ rw plain refl

-- the value of an octal escape
pub octal_escape : (text : List ℕ) (n : ℕ) → 0 < length text
    → n ≡ further_digits (get_or text 0 0) (take (length text - 1) (drop 1 text)) → is_octal_digit (get_or text 0 0) ≡ true
    → value_within 255 (Some (value_in 8 (take (1 + n) text))) ≡ escape_value text
octal_escape [] n some size octal = absurd (omega arith)
octal_escape (b ∷ rest) n some size octal =
    let n_is : n ≡ further_digits b rest = size ∙ ap (further_digits b) (take_rest (b ∷ rest) 1) in
    ap (λ t. value_within 255 (Some (value_in 8 t))) (take_behind b n rest)
    ∙ ap (λ m. value_within 255 (Some (value_in 8 (b ∷ take m rest)))) n_is
    ∙ sym (rw octal refl)

not_empty : (n : ℕ) (text : List ℕ) → (n ≡ 0 → ⊥) → n ≤ length text → is_empty (take n text) ≡ false
not_empty zero text some h = absurd (some refl)
not_empty (suc n) [] some h = absurd (omega arith)
not_empty (suc n) (x ∷ text) some h = refl

hex_at : (rest : List ℕ) (n : ℕ) → n ≡ prefix_len is_hex_digit rest → n ≤ length rest → (n ≡ 0 → ⊥)
    → value_within 255 (Some (value_in 16 (take n rest))) ≡ escape_value (120 ∷ rest)
hex_at rest n size inside digits =
    let filled : is_empty (take (prefix_len is_hex_digit rest) rest) ≡ false = ap (λ m. is_empty (take m rest)) (sym size) ∙ not_empty n rest digits inside in
    ap (λ m. value_within 255 (Some (value_in 16 (take m rest)))) size ∙ sym (rw filled refl)

-- the value of a hexadecimal escape
pub hex_escape : (text : List ℕ) (n : ℕ) → 0 < length text
    → n ≡ further_digits (get_or text 0 0) (take (length text - 1) (drop 1 text)) → n ≤ length (take (length text - 1) (drop 1 text))
    → get_or text 0 0 ≡ 120 → (n ≡ 0 → ⊥)
    → value_within 255 (Some (value_in 16 (take (1 + n - 1) (drop 1 text)))) ≡ escape_value text
hex_escape [] n some size within hex digits = absurd (omega arith)
hex_escape (b ∷ rest) n some size within hex digits =
    let whole : take (length (b ∷ rest) - 1) (drop 1 (b ∷ rest)) ≡ rest = take_rest (b ∷ rest) 1 in
    let n_is : n ≡ prefix_len is_hex_digit rest = size ∙ ap (further_digits b) whole ∙ ap (λ x. further_digits x rest) hex in
    let inside : n ≤ length rest = let e : length (take (length (b ∷ rest) - 1) (drop 1 (b ∷ rest))) ≡ length rest = ap length whole in omega (arith, within, e) in
    let one : 1 + n - 1 ≡ n = omega arith in
    ap (λ m. value_within 255 (Some (value_in 16 (take m rest)))) one
    ∙ hex_at rest n n_is inside digits
    ∙ ap (λ x. escape_value (x ∷ rest)) (sym hex)

-- the value of a number whose digits were read
pub number_read : (word digits : List ℕ) (g v : ℕ) → digits ≡ digits_of word → length word - length digits ≤ 1 → g ≡ greatest word → g ≤ 4294967295
    → Some v ≡ capped_value (read_number digits) → value_within g (Some v) ≡ number_value word
number_read word digits g v d short limit most h =
    let small : leb (length word) (length (digits_of word) + 1) ≡ true =
    let e : length digits ≡ length (digits_of word) = ap length d in
    let le : length word ≤ length (digits_of word) + 1 = omega (arith, e, short) in grind (arith, nat_tests) in
    uncap g (read_number digits) v most h
    ∙ ap (λ t. value_within g (read_number t)) d
    ∙ ap (λ m. value_within m (read_number (digits_of word))) limit
    ∙ ap (λ t. if t then value_within (greatest word) (read_number (digits_of word)) else None) (sym small)
  where
    uncap : (limit : ℕ) (o : Option ℕ) (v : ℕ) → limit ≤ 4294967295 → Some v ≡ capped_value o → value_within limit (Some v) ≡ value_within limit o
    uncap limit None v h e = absurd cc
    uncap limit (Some w) v h e = ap (value_within limit) e ∙ within_capped limit w h
