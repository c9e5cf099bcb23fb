-- The first end of a text, as a length.
use Rattle.std.proofs.Common.{◌≡◌, ℕ, suc, ◌+◌, ◌<◌, ◌≤◌, ◌⊎◌, inl, inr, Bool, true, false, not, ◌&&◌, if◌then◌else◌, List, [], ◌∷◌, ◌++◌, length, take, drop, get_or, Option, Some, None, refl, sym, ◌∙◌, ap, subst, arith}
use Rattle.std.proofs.lemmas.List.{drop_more, drop_all}
use Rattle.c_text.specs.Ends.{IsOnlyEnd}
use Rattle.c_text.specs.Forms.{is_first_end, is_empty, one_more}

abbrev pub end_length : (ends breaks marks : Bool → ℕ → Bool) → Bool → List ℕ → Option ℕ
end_length e k m marked [] = None
end_length e k m marked (b ∷ rest) =
    if e marked b then Some 1 else (if k marked b then None else one_more (end_length e k m (m marked b) rest))

abbrev pub plus : ℕ → Option ℕ → Option ℕ
plus n None = None
plus n (Some k) = Some (n + k)

-- how an end is met: at once, or later
met : (t u : Bool) (o : Option ℕ) (n : ℕ) → (if t then Some 1 else (if u then None else one_more o)) ≡ Some n
    → ((t ≡ true) × (n ≡ 1)) ⊎ ((t ≡ false) × (u ≡ false) × ((k : ℕ) × (o ≡ Some k) × (n ≡ suc k)))
met true u o n h = inl (refl, cc)
met false true o n h = absurd cc
met false false None n h = absurd cc
met false false (Some k) n h = let e : 1 + k ≡ n = cc in inr (refl, refl, (k, refl, omega (arith, e)))

sound_at : (e k m : Bool → ℕ → Bool) (marked : Bool) (b : ℕ) (rest : List ℕ) (n : ℕ)
    → ((j : ℕ) → end_length e k m (m marked b) rest ≡ Some j → (j ≤ length rest) × (is_first_end e k m (m marked b) (take j rest) ≡ true))
    → ((e marked b ≡ true) × (n ≡ 1)) ⊎ ((e marked b ≡ false) × (k marked b ≡ false) × ((j : ℕ) × (end_length e k m (m marked b) rest ≡ Some j) × (n ≡ suc j)))
    → (n ≤ length (b ∷ rest)) × (is_first_end e k m marked (take n (b ∷ rest)) ≡ true)
sound_at e k m marked b rest n later (inl w) =
    let P : ℕ → Type 0 = λ i. (i ≤ length (b ∷ rest)) × (is_first_end e k m marked (take i (b ∷ rest)) ≡ true) in
    subst P (sym w.1) (omega arith, rw w.0 refl)
sound_at e k m marked b rest n later (inr w) =
    let P : ℕ → Type 0 = λ i. (i ≤ length (b ∷ rest)) × (is_first_end e k m marked (take i (b ∷ rest)) ≡ true) in
    let j : ℕ = w.2.0 in
    let found : (j ≤ length rest) × (is_first_end e k m (m marked b) (take j rest) ≡ true) = later j w.2.1 in
    subst P (sym w.2.2) (omega (arith, found.0), rw (w.0, w.1) found.1)

pub end_sound : (e k m : Bool → ℕ → Bool) (marked : Bool) (text : List ℕ) (n : ℕ) → end_length e k m marked text ≡ Some n
    → (n ≤ length text) × (is_first_end e k m marked (take n text) ≡ true)
end_sound e k m marked [] n h = absurd cc
end_sound e k m marked (b ∷ rest) n h =
    sound_at e k m marked b rest n (λ j. end_sound e k m (m marked b) rest j) (met (e marked b) (k marked b) (end_length e k m (m marked b) rest) n h)

complete_at : (t u : Bool) (o : Option ℕ) (word rest : List ℕ) (closed : Bool)
    → (if t then is_empty word else (not u && closed)) ≡ true
    → (closed ≡ true → o ≡ Some (length word))
    → (if t then Some 1 else (if u then None else one_more o)) ≡ Some (suc (length word))
complete_at true u o [] rest closed h later = refl
complete_at true u o (x ∷ word) rest closed h later = absurd cc
complete_at false true o word rest closed h later = absurd cc
complete_at false false o word rest closed h later =
    let e : o ≡ Some (length word) = later h in
    let n : 1 + length word ≡ suc (length word) = omega arith in
    rw e (ap Some n)

pub end_complete : (e k m : Bool → ℕ → Bool) (marked : Bool) (word rest : List ℕ) → is_first_end e k m marked word ≡ true
    → end_length e k m marked (word ++ rest) ≡ Some (length word)
end_complete e k m marked [] rest h = absurd cc
end_complete e k m marked (b ∷ word) rest h =
    complete_at (e marked b) (k marked b) (end_length e k m (m marked b) (word ++ rest)) word rest (is_first_end e k m (m marked b) word) h
    (end_complete e k m (m marked b) word rest)

pub only_end : (e k m : Bool → ℕ → Bool) (text : List ℕ) (result : Option ℕ) → end_length e k m false text ≡ result
    → IsOnlyEnd (is_first_end e k m false) result text
only_end e k m text None h = λ word rest split closed.
    let found : end_length e k m false text ≡ Some (length word) = ap (end_length e k m false) split ∙ end_complete e k m false word rest closed in
    cc
only_end e k m text (Some n) h =
    let found : (n ≤ length text) × (is_first_end e k m false (take n text) ≡ true) = end_sound e k m false text n h in (
      found.0,
      found.1,
      λ word rest split closed.
          let also : end_length e k m false text ≡ Some (length word) = ap (end_length e k m false) split ∙ end_complete e k m false word rest closed in
          cc,
    )

-- a loop that looks for the end: a byte that neither ends nor breaks the text
pub end_more : (e k m : Bool → ℕ → Bool) (whole : Option ℕ) (text : List ℕ) (at : ℕ) (marked : Bool) → at < length text
    → e marked (get_or text at 0) ≡ false → k marked (get_or text at 0) ≡ false
    → whole ≡ plus at (end_length e k m marked (drop at text))
    → whole ≡ plus (at + 1) (end_length e k m (m marked (get_or text at 0)) (drop (at + 1) text))
end_more e k m whole text at marked h goes on before =
    before ∙ ap (λ t. plus at (end_length e k m marked t)) (drop_more text at 0 h) ∙ rw (goes, on) (plus_one at _)
  where
    plus_one : (n : ℕ) (o : Option ℕ) → plus n (one_more o) ≡ plus (n + 1) o
    plus_one n None = refl
    plus_one n (Some j) = let e : n + (1 + j) ≡ (n + 1) + j = omega arith in ap Some e

-- one that ends it
pub end_here : (e k m : Bool → ℕ → Bool) (whole : Option ℕ) (text : List ℕ) (at : ℕ) (marked : Bool) → at < length text
    → e marked (get_or text at 0) ≡ true
    → whole ≡ plus at (end_length e k m marked (drop at text))
    → whole ≡ Some (at + 1)
end_here e k m whole text at marked h ends before =
    before ∙ ap (λ t. plus at (end_length e k m marked t)) (drop_more text at 0 h) ∙ rw ends refl

-- one that breaks it
pub end_broken : (e k m : Bool → ℕ → Bool) (whole : Option ℕ) (text : List ℕ) (at : ℕ) (marked : Bool) → at < length text
    → e marked (get_or text at 0) ≡ false → k marked (get_or text at 0) ≡ true
    → whole ≡ plus at (end_length e k m marked (drop at text))
    → whole ≡ None
end_broken e k m whole text at marked h goes breaks before =
    before ∙ ap (λ t. plus at (end_length e k m marked t)) (drop_more text at 0 h) ∙ rw (goes, breaks) refl

-- the text is over
pub end_none : (e k m : Bool → ℕ → Bool) (whole : Option ℕ) (text : List ℕ) (at : ℕ) (marked : Bool) → length text ≤ at
    → whole ≡ plus at (end_length e k m marked (drop at text))
    → whole ≡ None
end_none e k m whole text at marked h before =
    before ∙ ap (λ t. plus at (end_length e k m marked t)) (drop_all at text h)
