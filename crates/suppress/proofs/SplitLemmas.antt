-- A list split at the elements that pass a test, by the place of the first one.
use Rattle.std.proofs.Common.{◌≡◌, ℕ, ◌+◌, ◌<◌, ◌≤◌, Bool, true, cond, ltb, List, [], ◌∷◌, length, take, drop, Option, None, Some, sym, ap, ◌∙◌, subst, arith, ⊎_elim, not, Bor}
use Rattle.std.specs.List.{slice_split, position, position_or_len}
use Rattle.std.proofs.lemmas.List.Splits.{slice_split_none, slice_split_first}
use Rattle.std.proofs.lemmas.List.Sums.{position_or_len_is, prefix_len_passes}
use Rattle.std.proofs.lemmas.List.Quantifiers.{position-Some}
use Rattle.std.proofs.lemmas.Bool.{ltb-false, not-true, cases_Bool}
use Rattle.suppress.specs.Pattern.{pieces_in}

-- the first part ends at the first element that passes, and the others are those of what follows it
pub slice_split-at_place : (p : ℕ → Bool) (xs : List ℕ) (at : ℕ) → position p xs ≡ Some at → slice_split p xs ≡ take at xs ∷ slice_split p (drop (at + 1) xs)
slice_split-at_place p xs at found =
    let facts = position-Some p xs at 0 found in
    let place : position_or_len p xs ≡ at = position_or_len_is p xs at 0 (omega (arith, facts.0)) facts.2 (λ _. facts.1) in
    let within : position_or_len p xs < length xs = omega (arith, place, facts.0) in
    subst (λ (n : ℕ). slice_split p xs ≡ take n xs ∷ slice_split p (drop (n + 1) xs)) place (slice_split_first p xs 0 within)

-- where no element passes, no place is below the length
length-le-position_or_len : (p : ℕ → Bool) (xs : List ℕ) → position p xs ≡ None → length xs ≤ position_or_len p xs
length-le-position_or_len p xs none =
    ⊎_elim
    (λ below. let clash : cond true (Some (position_or_len p xs)) None ≡ None = ap (λ (b : Bool). cond b (Some (position_or_len p xs)) None) (sym below) ∙ none in absurd (cc clash))
    (λ past. ltb-false (position_or_len p xs) (length xs) past)
    (cases_Bool (ltb (position_or_len p xs) (length xs)))

-- where no element passes, the list is the one part
pub slice_split-nowhere : (p : ℕ → Bool) (xs : List ℕ) → position p xs ≡ None → slice_split p xs ≡ xs ∷ []
slice_split-nowhere p xs none =
    slice_split_none p xs
    (λ k d h. not-true _ (prefix_len_passes (λ x. not (p x)) xs k d (omega (arith, h, length-le-position_or_len p xs none))))

-- the pieces of the bytes that are left to split, none where they are used up
abbrev pub pieces_left : Option (Bor (List ℕ)) → List (List ℕ)
pieces_left None = []
pieces_left (Some bytes) = pieces_in bytes.now

-- how much is left to split, a number that each piece makes smaller
abbrev pub work_left : Option (Bor (List ℕ)) → ℕ
work_left None = 0
work_left (Some bytes) = length bytes.now + 1
