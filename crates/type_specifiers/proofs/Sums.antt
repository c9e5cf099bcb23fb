-- Sums over members, one after another.
use Rattle.std.proofs.Common.{◌≡◌, ◌∙◌, sym, ap, ℕ, ◌+◌, ◌%◌, ◌^◌, ◌<◌, List, [], ◌∷◌, ◌++◌, length, take, map, sum, get_or, zero-add, arith}
use Rattle.std.proofs.Math.Nat.{mod-add-mod}
use Rattle.std.proofs.lemmas.List.{map-append, take_more}
use Rattle.std.proofs.lemmas.List.Sums.{sum_by-append}
use Rattle.core_unit.specs.Layout.{told}

behind : {A : Type 0} (f : A → ℕ) (xs : List A) (x : A) → sum (map f (xs ++ x ∷ [])) ≡ sum (map f xs) + f x
behind f xs x =
    ap sum (map-append f xs (x ∷ []))
    ∙ sum_by-append (λ n. n) (map f xs) (f x ∷ [])
    ∙ ap (λ n. sum (map f xs) + n) (zero-add (f x))

one_more : {A : Type 0} (f : A → ℕ) (xs : List A) (i : ℕ) (x : A) → i < length xs → x ≡ get_or xs i x →
    sum (map f (take (i + 1) xs)) ≡ sum (map f (take i xs)) + f x
one_more f xs i x below is =
    let front : take (i + 1) xs ≡ take i xs ++ x ∷ [] = take_more xs i x below ∙ ap (λ y. take i xs ++ y ∷ []) (sym is) in
    ap (λ ys. sum (map f ys)) front ∙ behind f (take i xs) x

-- one more, as far as 32 bits tell the sum
pub told_more : {A : Type 0} (f : A → ℕ) (xs : List A) (i words : ℕ) (x : A) → i < length xs → x ≡ get_or xs i x →
    words ≡ told (sum (map f (take i xs))) → told (words + f x) ≡ told (sum (map f (take (i + 1) xs)))
told_more f xs i words x below is so_far =
    let more = one_more f xs i x below is in omega arith

-- one more modulo 2^32
pub wrapped_more : {A : Type 0} (f : A → ℕ) (xs : List A) (i size : ℕ) (x : A) → i < length xs → x ≡ get_or xs i x →
    size ≡ sum (map f (take i xs)) % 2 ^ 32 → (size + f x) % 2 ^ 32 ≡ sum (map f (take (i + 1) xs)) % 2 ^ 32
wrapped_more f xs i size x below is so_far =
    ap (λ n. (n + f x) % 2 ^ 32) so_far
    ∙ mod-add-mod (sum (map f (take i xs))) (2 ^ 32) (f x)
    ∙ ap (λ n. n % 2 ^ 32) (sym (one_more f xs i x below is))
