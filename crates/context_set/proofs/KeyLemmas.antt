-- A key tells its parent and its step, and every slot is tried.
use Rattle.std.proofs.Common.{◌≡◌, ◌≤◌, ◌<◌, ◌+◌, ◌-◌, ◌*◌, ◌/◌, ◌%◌, ◌^◌, ℕ, ap, ⊎_elim, lt-ltb, le-ltb, mod-lt, div-lt_iff_lt-mul, mul-lt-mul_of_pos_right, mul_comm, arith}
use Rattle.std.proofs.lemmas.Bool.{cases_lt}
use Rattle.ctx_set.specs.declared.steps.StackStep.{StackStep}
use Rattle.context_set.specs.Paths.{IsStep}
use Rattle.context_set.specs.Keys.{key_of, start, place}

pub key_tells : (a b : ℕ) (s t : StackStep) → a ≤ 65536 → b ≤ 65536 → IsStep s → IsStep t → key_of a s ≡ key_of b t → (a ≡ b) × (s ≡ t)
key_tells a b s t small small' step step' e =
    let above : ℕ = s.site + 1048576 * s.target in
    let above' : ℕ = t.site + 1048576 * t.target in
    let first = digits a b above above' (omega arith) (omega arith) (omega arith) in
    let second = sites s.site t.site s.target t.target (omega arith) (omega arith) first.1 in
    (first.0, (λ k. record { target = second.1 k; site = second.0 k }))
  where
    digits : (a b x y : ℕ) → a < 131072 → b < 131072 → a + 131072 * x ≡ b + 131072 * y → (a ≡ b) × (x ≡ y)
    digits a b x y la lb e = (omega arith, omega arith)

    sites : (a b x y : ℕ) → a < 1048576 → b < 1048576 → a + 1048576 * x ≡ b + 1048576 * y → (a ≡ b) × (x ≡ y)
    sites a b x y la lb e = (omega arith, omega arith)

pub start_below : (n key : ℕ) → 0 < n → start n key < n
unfolding start
start_below n key some =
    scaled ((key * 11400714819323198485) % 2 ^ 64 / 2 ^ 32) (upper ((key * 11400714819323198485) % 2 ^ 64) (mod-lt (key * 11400714819323198485) (omega arith)))
  where
    upper : (x : ℕ) → x < 2 ^ 64 → x / 2 ^ 32 < 2 ^ 32
    upper x small = omega arith

    scaled : (h : ℕ) → h < 2 ^ 32 → h * n / 2 ^ 32 < n
    scaled h small = (div-lt_iff_lt-mul {k = 2 ^ 32} {x = h * n} {y = n} (omega arith)).1 (rw (mul_comm n (2 ^ 32)) (mul-lt-mul_of_pos_right small some))

pub every_place : (n key i : ℕ) → i < n → (t : ℕ) × (t < n) × (place n key t ≡ i)
every_place n key i within =
    let below = start_below n key (omega arith) in
    ⊎_elim
    (λ (before : i < start n key).
    let t : ℕ = i + n - start n key in
    let back : n ≤ start n key + t = omega arith in
    (t, omega arith, rw (le-ltb (start n key + t) n back) (omega arith)))
    (λ (after : start n key ≤ i).
    let t : ℕ = i - start n key in
    let same : start n key + t ≡ i = omega arith in
    let inside : start n key + t < n = omega arith in
    (t, omega arith, rw (lt-ltb (start n key + t) n inside) same))
    (cases_lt i (start n key))

-- as the code computes it
pub start_is : (n key m : ℕ) → m ≡ n → ((key * 11400714819323198485) % 2 ^ 64 / 2 ^ 32) * m / 2 ^ 32 ≡ start n key
unfolding start
start_is n key m same = ap (λ (k : ℕ). ((key * 11400714819323198485) % 2 ^ 64 / 2 ^ 32) * k / 2 ^ 32) same

pub place_before : (n key tried first : ℕ) → first ≡ start n key → first + tried < n → first + tried ≡ place n key tried
place_before n key tried first is before =
    let inside : start n key + tried < n = omega arith in
    rw (lt-ltb (start n key + tried) n inside) (omega arith)

pub place_turned : (n key tried first : ℕ) → first ≡ start n key → n ≤ first + tried → first + tried - n ≡ place n key tried
place_turned n key tried first is behind =
    let outside : n ≤ start n key + tried = omega arith in
    rw (le-ltb (start n key + tried) n outside) (omega arith)
