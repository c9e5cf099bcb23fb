-- The list of a stack, whose latest item stands last in memory.
use Rattle.std.proofs.Common.{◌≡◌, sym, ap, ◌∙◌, ℕ, ◌+◌, ◌-◌, ◌<◌, List, length, get_or, take, drop, reverse, arith}
use Rattle.std.proofs.lemmas.List.{same_lists, get_or-drop, get_or-take, get_or-reverse, length-drop, length-take, length-reverse}

pub drop_reverse : {X : Type 0} → (n : ℕ) (xs : List X) → drop n (reverse xs) ≡ reverse (take (length xs - n) xs)
drop_reverse n xs =
    let m = length xs - n in
    let long : length (take m xs) ≡ m = omega (arith, length-take m xs) in
    same_lists (drop n (reverse xs)) (reverse (take m xs))
    (omega (arith, length-drop n (reverse xs), length-reverse xs, length-reverse (take m xs), long))
    (λ k d low.
    let within : n + k < length xs = omega (arith, low, length-drop n (reverse xs), length-reverse xs) in
    let same : length xs - 1 - (n + k) ≡ length (take m xs) - 1 - k = omega (arith, long) in
    get_or-drop n (reverse xs) k d ∙ get_or-reverse xs (n + k) d within ∙ ap (λ i. get_or xs i d) same
    ∙ sym (get_or-take m xs (length (take m xs) - 1 - k) d (omega (arith, long)))
    ∙ sym (get_or-reverse (take m xs) k d (omega (arith, long))))
