-- Bits are unpacked to exactly the words that pack to them.
use Rattle.std.proofs.Common.{◌≡◌, ◌∙◌, refl, ap, ℕ, ◌/◌, ◌%◌, ◌^◌, ◌≤◌, Bool, true, false, ◌&&◌, if◌then◌else◌, Some, None, nat_eq, subst, arith}
use Rattle.std.proofs.lemmas.Bool.Decides.{nat_tests}
use Rattle.core_unit.specs.Words.{packed, IsInRange, PacksTo}
use Rattle.core_unit.specs.declared.words.Word.{Word}
use Rattle.core_unit.specs.declared.words.Word.TheVariants.{Zero, Undefined, Number, DataPointer, FunctionPointer, Mutex, Live, Freed}
use Rattle.eff_types.specs.Effects.{rank}
use Rattle.eff_types.specs.declared.levels.Level.{Level}
use Rattle.eff_types.specs.declared.levels.Level.TheVariants.{Plain, NonAllocating, NonBlocking}
use Rattle.mcode.specs.Words.{word_by, level_by, is_in_range, where_packed, unpacked}

-- the word that bits are taken for
abbrev candidate : ℕ → Word
candidate raw = word_by (raw / 2 ^ 60) (level_by (raw % 2 ^ 60 / 2 ^ 32)) (raw % 2 ^ 32)

-- a word by the kind that is known
of_kind : (kind : ℕ) (raw : ℕ) → raw / 2 ^ 60 ≡ kind → candidate raw ≡ word_by kind (level_by (raw % 2 ^ 60 / 2 ^ 32)) (raw % 2 ^ 32)
of_kind kind raw e = ap (λ k. word_by k (level_by (raw % 2 ^ 60 / 2 ^ 32)) (raw % 2 ^ 32)) e

level_is : (level : Level) (n : ℕ) → n ≡ rank level → level_by n ≡ level
level_is Plain n e = ap level_by e
level_is NonAllocating n e = ap level_by e
level_is NonBlocking n e = ap level_by e

rank_small : (level : Level) → rank level ≤ 2
rank_small Plain = omega arith
rank_small NonAllocating = omega arith
rank_small NonBlocking = omega arith

function_is : (function : ℕ) (level : Level) (raw : ℕ) → raw % 2 ^ 32 ≡ function → raw % 2 ^ 60 / 2 ^ 32 ≡ rank level →
    FunctionPointer (raw % 2 ^ 32) (level_by (raw % 2 ^ 60 / 2 ^ 32)) ≡ FunctionPointer function level
function_is function level raw e l =
    ap (λ f. FunctionPointer f (level_by (raw % 2 ^ 60 / 2 ^ 32))) e ∙ ap (λ v. FunctionPointer function v) (level_is level (raw % 2 ^ 60 / 2 ^ 32) l)

candidate_is : (w : Word) (raw : ℕ) → PacksTo w raw → candidate raw ≡ w
unfolding packed
candidate_is Zero raw p = of_kind 0 raw (omega (arith, p.bits))
candidate_is Undefined raw p = of_kind 1 raw (omega (arith, p.bits))
candidate_is (Number bits) raw p = let range = p.in_range in of_kind 2 raw (omega (arith, p.bits)) ∙ ap Number (omega (arith, p.bits))
candidate_is (DataPointer address) raw p = let range = p.in_range in of_kind 3 raw (omega (arith, p.bits)) ∙ ap DataPointer (omega (arith, p.bits))
candidate_is (FunctionPointer function level) raw p =
    let range = p.in_range in let small = rank_small level in
    of_kind 4 raw (omega (arith, p.bits, small)) ∙ function_is function level raw (omega (arith, p.bits, small)) (omega (arith, p.bits, small))
candidate_is (Mutex thread) raw p = let range = p.in_range in of_kind 5 raw (omega (arith, p.bits)) ∙ ap Mutex (omega (arith, p.bits))
candidate_is (Live words) raw p = let range = p.in_range in of_kind 6 raw (omega (arith, p.bits)) ∙ ap Live (omega (arith, p.bits))
candidate_is (Freed words) raw p = let range = p.in_range in of_kind 7 raw (omega (arith, p.bits)) ∙ ap Freed (omega (arith, p.bits))

range_of : (w : Word) → IsInRange w → is_in_range w ≡ true
range_of Zero r = refl
range_of Undefined r = refl
range_of (Number bits) r = grind (arith, nat_tests)
range_of (DataPointer address) r = grind (arith, nat_tests)
range_of (FunctionPointer function level) r = grind (arith, nat_tests)
range_of (Mutex thread) r = grind (arith, nat_tests)
range_of (Live words) r = grind (arith, nat_tests)
range_of (Freed words) r = grind (arith, nat_tests)

in_range : (w : Word) → is_in_range w ≡ true → IsInRange w
in_range Zero r = tt
in_range Undefined r = tt
in_range (Number bits) r = (grind (arith, nat_tests), grind (arith, nat_tests))
in_range (DataPointer address) r = (grind (arith, nat_tests), grind (arith, nat_tests))
in_range (FunctionPointer function level) r = grind (arith, nat_tests)
in_range (Mutex thread) r = grind (arith, nat_tests)
in_range (Live words) r = grind (arith, nat_tests)
in_range (Freed words) r = grind (arith, nat_tests)

chosen : (a b : Bool) (w : Word) → a ≡ true → b ≡ true → (if a && b then Some w else None) ≡ Some w
chosen true true w p q = refl
chosen true false w p q = let clash : ⊥ = cc in absurd clash
chosen false b w p q = let clash : ⊥ = cc in absurd clash

-- A word that packs to the bits is what they are unpacked to.
pub unpacked-packed : (w : Word) (raw : ℕ) → PacksTo w raw → unpacked raw ≡ Some w
unfolding unpacked
unpacked-packed w raw p =
    ap (λ c. where_packed c raw) (candidate_is w raw p) ∙ chosen (is_in_range w) (nat_eq (packed w) raw) w (range_of w p.in_range) (let e = p.bits in grind (arith, nat_tests))

kept : (c w : Word) (raw : ℕ) (a b : Bool) → is_in_range c ≡ a → nat_eq (packed c) raw ≡ b → (if a && b then Some c else None) ≡ Some w → PacksTo w raw
kept c w raw true true r e h =
    let same : c ≡ w = cc in subst (λ v. PacksTo v raw) same (record { in_range = in_range c r; bits = grind (arith, nat_tests) })
kept c w raw true false r e h = let clash : ⊥ = cc in absurd clash
kept c w raw false b r e h = let clash : ⊥ = cc in absurd clash

-- What bits are unpacked to packs to them.
pub packed-unpacked : (raw : ℕ) (w : Word) → unpacked raw ≡ Some w → PacksTo w raw
unfolding unpacked
packed-unpacked raw w h = kept (candidate raw) w raw (is_in_range (candidate raw)) (nat_eq (packed (candidate raw)) raw) refl refl h
