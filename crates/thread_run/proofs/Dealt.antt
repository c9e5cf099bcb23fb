-- One blank more, made of the last spare that is left.
use Rattle.std.proofs.Common.{◌≡◌, ◌+◌, ◌⊎◌, ℕ, zero, suc, List, [], ◌∷◌, ◌++◌, length, map, reverse, Some, slice_get, refl, sym, ap, ◌∙◌, subst, inl, inr, ⊎_elim}
use Rattle.std.proofs.lemmas.List.{append_assoc, reverse-append}

-- what stands at a place of a longer list
get_push : {X : Type 0} (xs : List X) (y x : X) (k : ℕ) → slice_get (xs ++ y ∷ []) k ≡ Some x → (slice_get xs k ≡ Some x) ⊎ ((k ≡ length xs) × (y ≡ x))
get_push [] y x zero is = inr (refl, cc)
get_push [] y x (suc k) is = let clash : ⊥ = cc in absurd clash
get_push (z ∷ xs) y x zero is = inl is
get_push (z ∷ xs) y x (suc k) is = ⊎_elim inl (λ (last : (k ≡ length xs) × (y ≡ x)). inr (ap suc last.0, last.1)) (get_push xs y x k is)

get_front : {X : Type 0} (xs : List X) (y x : X) (k : ℕ) → slice_get xs k ≡ Some x → slice_get (xs ++ y ∷ []) k ≡ Some x
get_front [] y x zero is = let clash : ⊥ = cc in absurd clash
get_front [] y x (suc k) is = let clash : ⊥ = cc in absurd clash
get_front (z ∷ xs) y x zero is = is
get_front (z ∷ xs) y x (suc k) is = get_front xs y x k is

map_push : {B S : Type 0} (spare : B → S) (list : List B) (b : B) → map spare (list ++ b ∷ []) ≡ map spare list ++ spare b ∷ []
map_push spare [] b = refl
map_push spare (c ∷ list) b = ap (λ ss. spare c ∷ ss) (map_push spare list b)

-- the spares of the blanks so far, and those that are left
pub spared_more : {B S : Type 0} (spare : B → S) (all spares rest : List S) (list new : List B) (b : B) (s : S) →
    map spare list ++ reverse spares ≡ reverse all → spares ≡ rest ++ s ∷ [] → new ≡ list ++ b ∷ [] → spare b ≡ s → map spare new ++ reverse rest ≡ reverse all
spared_more spare all spares rest list new b s so_far left longer is =
    ap (λ bs. map spare bs ++ reverse rest) longer
    ∙ ap (λ ss. ss ++ reverse rest) (map_push spare list b)
    ∙ append_assoc (map spare list) (spare b ∷ []) (reverse rest)
    ∙ ap (λ x. map spare list ++ x ∷ reverse rest) is
    ∙ ap (λ ss. map spare list ++ ss) (sym (ap reverse left ∙ reverse-append rest (s ∷ [])))
    ∙ so_far

-- their numbers
pub numbers_more : {B : Type 0} (number : B → ℕ) (list new : List B) (b : B) →
    ((k : ℕ) (x : B) → slice_get list k ≡ Some x → number x + k ≡ 63) → new ≡ list ++ b ∷ [] → number b + length list ≡ 63 → (k : ℕ) (x : B) → slice_get new k ≡ Some x → number x + k ≡ 63
numbers_more {B} number list new b so_far longer here k x there =
    ⊎_elim
    (λ (before : slice_get list k ≡ Some x). so_far k x before)
    (λ (last : (k ≡ length list) × (b ≡ x)). ap (λ n. n + k) (sym (ap number last.1)) ∙ ap (λ n. number b + n) last.0 ∙ here)
    (get_push list b x k (subst (λ (l : List B). slice_get l k ≡ Some x) longer there))

-- the numbers of the spares that are left
pub left_more : {S : Type 0} (numbered : S → ℕ) (spares rest : List S) (s : S) →
    ((k : ℕ) (x : S) → slice_get spares k ≡ Some x → numbered x ≡ k + 1) → spares ≡ rest ++ s ∷ [] → (k : ℕ) (x : S) → slice_get rest k ≡ Some x → numbered x ≡ k + 1
left_more {S} numbered spares rest s so_far left k x there = so_far k x (subst (λ (l : List S). slice_get l k ≡ Some x) (sym left) (get_front rest s x k there))
