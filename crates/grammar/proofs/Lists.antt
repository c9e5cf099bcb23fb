-- What the proofs need of lists, tests and options.
use Rattle.std.proofs.Common.{◌≡◌, Bool, true, false, ◌||◌, List, [], ◌∷◌, ◌++◌, ◌⊎◌, inl, inr, refl, sym}

-- two ways to split one list: one cut stands before the other
pub split_append : {A : Type 0} (a b c d : List A) → a ++ b ≡ c ++ d
    → ((e : List A) × (c ≡ a ++ e) × (b ≡ e ++ d)) ⊎ ((e : List A) × (a ≡ c ++ e) × (d ≡ e ++ b))
split_append [] b c d h = inl (c, refl, h)
split_append (x ∷ a) b [] d h = inr (x ∷ a, refl, sym h)
split_append {A} (x ∷ a) b (y ∷ c) d h =
    let same : x ≡ y = cc in
    let rest : a ++ b ≡ c ++ d = cc in
    go same (split_append a b c d rest)
  where
    go : x ≡ y → ((e : List A) × (c ≡ a ++ e) × (b ≡ e ++ d)) ⊎ ((e : List A) × (a ≡ c ++ e) × (d ≡ e ++ b))
        → ((e : List A) × (y ∷ c ≡ (x ∷ a) ++ e) × (b ≡ e ++ d)) ⊎ ((e : List A) × (x ∷ a ≡ (y ∷ c) ++ e) × (d ≡ e ++ b))
    go same (inl (e, p, q)) = inl (e, cc, q)
    go same (inr (e, p, q)) = inr (e, cc, q)

pub front_nil : {A : Type 0} (a b : List A) → a ++ b ≡ [] → a ≡ []
front_nil [] b h = refl
front_nil (x ∷ a) b h = cc

pub back_nil : {A : Type 0} (a b : List A) → a ++ b ≡ [] → b ≡ []
back_nil [] b h = h
back_nil (x ∷ a) b h = cc

pub or_left : (a b : Bool) → a ≡ true → (a || b) ≡ true
or_left true b h = refl
or_left false b h = cc

pub or_right : (a b : Bool) → b ≡ true → (a || b) ≡ true
or_right true b h = refl
or_right false b h = h

pub or_cases : (a b : Bool) → (a || b) ≡ true → (a ≡ true) ⊎ (b ≡ true)
or_cases true b h = inl refl
or_cases false b h = inr h

pub or_false : (a b : Bool) → a ≡ false → b ≡ false → (a || b) ≡ false
or_false true b h k = cc
or_false false b h k = k

pub not_true : (b : Bool) → (b ≡ true → ⊥) → b ≡ false
not_true true h = absurd (h refl)
not_true false h = refl

pub true_or_false : (b : Bool) → (b ≡ true) ⊎ (b ≡ false)
true_or_false true = inl refl
true_or_false false = inr refl
