-- What words hold at first, one note after the other.
use Rattle.std.proofs.Common.{◌≡◌, ◌∙◌, refl, sym, ap, ℕ, zero, suc, ◌+◌, ◌-◌, ◌<◌, ◌≤◌, Bool, true, false, cond, nat_eq, if◌then◌else◌, List, [], ◌∷◌, ◌++◌, length, replicate, arith}
use Rattle.std.proofs.Common.{eq-eqb}
use Rattle.std.proofs.lemmas.Bool.{eqb-true}
use Rattle.std.proofs.Common.{take, get_or}
use Rattle.std.proofs.lemmas.List.{set_past, take_more}
use Rattle.std.specs.Prelude.{slice_set}
use Rattle.core_unit.specs.Words.{packed}
use Rattle.type_rules.specs.Units.{value_at, words_from}
use Rattle.type_rules.specs.declared.notes.Initial.{Initial}
use Rattle.type_units.specs.Words.{with_initial}

-- a further note of what a word holds
value_last : (at : ℕ) (notes : List Initial) (i : Initial) (before : ℕ) →
    value_at at (notes ++ i ∷ []) before ≡ (if nat_eq i.at at then packed i.word else value_at at notes before)
value_last at [] i before = refl
value_last at (n ∷ ns) i before = value_last at ns i (if nat_eq n.at at then packed n.word else before)

-- and of all words
pub words_last : (first n : ℕ) (notes : List Initial) (i : Initial) → words_from first n (notes ++ i ∷ []) ≡ with_initial first i (words_from first n notes)
unfolding with_initial
words_last first zero notes i = refl
words_last first (suc n) notes i =
    ap (λ w. w ∷ words_from (first + 1) n (notes ++ i ∷ [])) (value_last first notes i 0)
    ∙ ap (λ ws. (if nat_eq i.at first then packed i.word else value_at first notes 0) ∷ ws) (words_last (first + 1) n notes i)

-- before the first note
pub words_zero : (first n : ℕ) → words_from first n [] ≡ replicate n 0
words_zero first zero = refl
words_zero first (suc n) = ap (λ ws. 0 ∷ ws) (words_zero (first + 1) n)

apart : (a b : ℕ) → (a ≡ b → ⊥) → nat_eq a b ≡ false
apart a b other = of (nat_eq a b) refl
  where
    of : (test : Bool) → nat_eq a b ≡ test → nat_eq a b ≡ false
    of false e = e
    of true e = absurd (other (eqb-true a b e))

-- a note of a word that stands before these
initial_before : (first : ℕ) (i : Initial) (words : List ℕ) → i.at < first → with_initial first i words ≡ words
unfolding with_initial
initial_before first i [] below = refl
initial_before first i (w ∷ ws) below =
    ap (λ b. cond b (packed i.word) w ∷ with_initial (first + 1) i ws) (apart i.at first (λ e. omega (arith, below, e)))
    ∙ ap (λ rest. w ∷ rest) (initial_before (first + 1) i ws (omega (arith, below)))

-- a note of one of these
initial_at : (first n : ℕ) (i : Initial) (words : List ℕ) → i.at ≡ first + n → with_initial first i words ≡ slice_set words n (packed i.word)
unfolding with_initial
initial_at first n i [] here = refl
initial_at first zero i (w ∷ ws) here =
    ap (λ b. cond b (packed i.word) w ∷ with_initial (first + 1) i ws) (eq-eqb i.at first (omega (arith, here)))
    ∙ ap (λ rest. packed i.word ∷ rest) (initial_before (first + 1) i ws (omega (arith, here)))
initial_at first (suc n) i (w ∷ ws) here =
    ap (λ b. cond b (packed i.word) w ∷ with_initial (first + 1) i ws) (apart i.at first (λ e. omega (arith, here, e)))
    ∙ ap (λ rest. w ∷ rest) (initial_at (first + 1) n i ws (omega (arith, here)))

-- what is put for a note that stands before these words, at one of them, and behind them
pub put_before : (first : ℕ) (i : Initial) (words : List ℕ) → i.at < first → words ≡ with_initial first i words
put_before first i words below = sym (initial_before first i words below)

pub put_here : (first : ℕ) (i : Initial) (words : List ℕ) (bits : ℕ) → first ≤ i.at → bits ≡ packed i.word →
    slice_set words (i.at - first) bits ≡ with_initial first i words
put_here first i words bits within is =
    ap (slice_set words (i.at - first)) is ∙ sym (initial_at first (i.at - first) i words (omega (arith, within)))

pub put_behind : (first : ℕ) (i : Initial) (words : List ℕ) → first ≤ i.at → length words ≤ i.at - first → words ≡ with_initial first i words
put_behind first i words within past =
    sym (initial_at first (i.at - first) i words (omega (arith, within)) ∙ set_past words (i.at - first) (packed i.word) past)

-- One note more is put.
pub words_more : (first n : ℕ) (notes : List Initial) (i : ℕ) (d : Initial) (words next : List ℕ) → i < length notes →
    words ≡ words_from first n (take i notes) → next ≡ with_initial first (get_or notes i d) words → next ≡ words_from first n (take (i + 1) notes)
words_more first n notes i d words next below before put =
    put
    ∙ (ap (with_initial first (get_or notes i d)) before
    ∙ (sym (words_last first n (take i notes) (get_or notes i d)) ∙ ap (words_from first n) (sym (take_more notes i d below))))

pub ruleset word_rules = (words_last, words_zero)
