-- Views by their seats, and the seats that have the numbers.
use Rattle.std.proofs.Common.{◌≡◌, ◌≢◌, ◌⊎◌, ◌<◌, ℕ, zero, suc, eqb, true, List, [], ◌∷◌, ◌++◌, set, length, Contains, refl, sym, ap, ◌∙◌, subst, subst₂, inl, inr, ⊎_elim, eq-eqb, ne_eqb, if◌then◌else◌, arith}
use Rattle.std.proofs.lemmas.Bool.{cases_eq}
use mathlib.Core.Option.{some, some-injective, some-ne-none}
use lib.ListN.{get_elem?}
use Rattle.atomic_table.proofs.Lists.{at_set, set_here, set_else, at_longer}
use Rattle.word_mem.specs.declared.view.View.{View}
use Rattle.word_mem.specs.Held.{Made}
use Rattle.word_mem.specs.Story.{IsNoted}

module _ {A : Type 0} where
  -- what stands at a place of a longer list: what stood there, or the new element at the end
  pub at_end : (l : List A) (a b : A) (j : ℕ) → get_elem? (l ++ a ∷ []) j ≡ some b → (get_elem? l j ≡ some b) ⊎ ((j ≡ length l) × (a ≡ b))
  at_end [] a b zero e = inr (refl, some-injective a b e)
  at_end [] a b (suc j) e = absurd (some-ne-none b (sym e))
  at_end (x ∷ xs) a b zero e = inl e
  at_end (x ∷ xs) a b (suc j) e = ⊎_elim inl (λ (t : (j ≡ length xs) × (a ≡ b)). inr (ap suc t.0, t.1)) (at_end xs a b j e)

  pub at_within : (l : List A) (i : ℕ) (a : A) → get_elem? l i ≡ some a → i < length l
  at_within [] i a e = absurd (some-ne-none a (sym e))
  at_within (x ∷ xs) zero a e = omega arith
  at_within (x ∷ xs) (suc i) a e = let before = at_within xs i a e in omega arith

  pub same_at : (l : List A) (i : ℕ) (a b : A) → get_elem? l i ≡ some a → get_elem? l i ≡ some b → a ≡ b
  same_at l i a b e f = some-injective a b (sym e ∙ f)

  -- what holds of all seats, where one view changes
  pub seats_set : (P : ℕ → A → Type 0) (views : List A) (id : ℕ) (w : A)
      → ((i : ℕ) (u : A) → i ≢ id → get_elem? views i ≡ some u → P i u) → P id w
      → (i : ℕ) (u : A) → get_elem? (set views id w) i ≡ some u → P i u
  seats_set P views id w others this i u at =
      ⊎_elim
      (λ (t : (i ≡ id) × (w ≡ u)). subst₂ P (sym t.0) t.1 this)
      (λ (t : (i ≢ id) × (get_elem? views i ≡ some u)). others i u t.0 t.1)
      (at_set views id i w u at)

  pub seats_longer : (P : ℕ → A → Type 0) (views : List A) (w : A)
      → ((i : ℕ) (u : A) → get_elem? views i ≡ some u → P i u) → P (length views) w
      → (i : ℕ) (u : A) → get_elem? (views ++ w ∷ []) i ≡ some u → P i u
  seats_longer P views w others last i u at =
      ⊎_elim
      (λ (before : get_elem? views i ≡ some u). others i u before)
      (λ (t : (i ≡ length views) × (w ≡ u)). subst₂ P (sym t.0) t.1 last)
      (at_end views w u i at)

-- the number goes to this seat
abbrev pub given : ℕ → ℕ → (ℕ → ℕ) → ℕ → ℕ
given number to owner n = if eqb n number then to else owner n

pub given_same : (number to : ℕ) (owner : ℕ → ℕ) (n : ℕ) → n ≡ number → given number to owner n ≡ to
given_same number to owner n same = rw (eq-eqb n number same) refl

pub given_other : (number to : ℕ) (owner : ℕ → ℕ) (n : ℕ) → n ≢ number → given number to owner n ≡ owner n
given_other number to owner n other = rw (ne_eqb n number other) refl

-- all numbers of a seat go to another
abbrev pub moved : ℕ → ℕ → (ℕ → ℕ) → ℕ → ℕ
moved from to owner n = if eqb (owner n) from then to else owner n

pub moved_same : (from to : ℕ) (owner : ℕ → ℕ) (n : ℕ) → owner n ≡ from → moved from to owner n ≡ to
moved_same from to owner n same = rw (eq-eqb (owner n) from same) refl

pub moved_other : (from to : ℕ) (owner : ℕ → ℕ) (n at : ℕ) → owner n ≡ at → at ≢ from → moved from to owner n ≡ at
moved_other from to owner n at is other = rw (ne_eqb (owner n) from (λ e. other (sym is ∙ e))) is

-- a view that holds at least the splits of another
abbrev pub HoldsAsMany : View → View → Type 0
HoldsAsMany v w = v.alive ≡ true → (w.alive ≡ true) × ((s : Made) → Contains v.held.made s → Contains w.held.made s)

-- a split stays noted where the view of a seat gets one that holds as many
pub noted_set : (views : List View) (id : ℕ) (v w : View) (at : ℕ) (s : Made)
    → get_elem? views id ≡ some v → HoldsAsMany v w → IsNoted views at s → IsNoted (set views id w) at s
noted_set views id v w at s there more noted =
    ⊎_elim
    (λ (here : at ≡ id).
    let same : noted.holder ≡ v = same_at views id noted.holder v (subst (λ (i : ℕ). get_elem? views i ≡ some noted.holder) here noted.there) there in
    let holds = more (subst (λ (u : View). u.alive ≡ true) same noted.lives) in
    record {
      holder = w;
      there = subst (λ (i : ℕ). get_elem? (set views id w) i ≡ some w) (sym here) (set_here views id w (at_within views id v there));
      lives = holds.0;
      noted = holds.1 s (subst (λ (u : View). Contains u.held.made s) same noted.noted);
    })
    (λ (other : at ≡ id → ⊥). record {
      holder = noted.holder;
      there = set_else views id at w other ∙ noted.there;
      lives = noted.lives;
      noted = noted.noted;
    })
    (cases_eq at id)

pub noted_longer : (views more : List View) (at : ℕ) (s : Made) → IsNoted views at s → IsNoted (views ++ more) at s
noted_longer views more at s noted = record {
  holder = noted.holder;
  there = at_longer views more at noted.holder noted.there;
  lives = noted.lives;
  noted = noted.noted;
}
