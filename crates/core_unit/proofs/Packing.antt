-- Of the bits that stand for a word, what its kind is and what it carries.
use Rattle.std.proofs.Common.{◌≡◌, ℕ, ◌/◌, ◌%◌, ◌^◌, ◌<◌, ◌≤◌, ◌==◌, if◌then◌else◌, refl, sym, ◌∙◌, ap, arith}
use Rattle.eff_types.specs.Effects.{rank}
use Rattle.eff_types.specs.declared.levels.Level.{Level}
use Rattle.eff_types.specs.declared.levels.Level.TheVariants.{Plain, NonAllocating, NonBlocking}
use Rattle.core_unit.specs.declared.words.Word.{Word}
use Rattle.core_unit.specs.declared.words.Word.TheVariants.{Zero, Undefined, Number, DataPointer, FunctionPointer, Mutex, Live, Freed}
use Rattle.core_unit.specs.Words.{packed, PacksTo}

abbrev kind_of : Word → ℕ
kind_of Zero = 0
kind_of Undefined = 1
kind_of (Number bits) = 2
kind_of (DataPointer address) = 3
kind_of (FunctionPointer function level) = 4
kind_of (Mutex thread) = 5
kind_of (Live words) = 6
kind_of (Freed words) = 7

abbrev carries : Word → ℕ
carries Zero = 0
carries Undefined = 0
carries (Number bits) = bits
carries (DataPointer address) = address
carries (FunctionPointer function level) = function
carries (Mutex thread) = thread
carries (Live words) = words
carries (Freed words) = words

abbrev pub level_in : Word → Level
level_in (FunctionPointer function level) = level
level_in _ = Plain

abbrev pub word_by : ℕ → Level → ℕ → Word
word_by kind level carried =
    if kind == 0 then Zero else if kind == 1 then Undefined else if kind == 2 then Number carried else if kind == 3 then DataPointer carried
    else if kind == 4 then FunctionPointer carried level else if kind == 5 then Mutex carried else if kind == 6 then Live carried else Freed carried

told : (word : Word) → word_by (kind_of word) (level_in word) (carries word) ≡ word
told Zero = refl
told Undefined = refl
told (Number bits) = refl
told (DataPointer address) = refl
told (FunctionPointer function level) = refl
told (Mutex thread) = refl
told (Live words) = refl
told (Freed words) = refl

rank_small : (level : Level) → rank level ≤ 2
rank_small Plain = omega arith
rank_small NonAllocating = omega arith
rank_small NonBlocking = omega arith

kind_is : (word : Word) (raw : ℕ) → PacksTo word raw → raw / 2 ^ 60 ≡ kind_of word
unfolding packed
kind_is Zero raw p = omega (arith, p.bits)
kind_is Undefined raw p = omega (arith, p.bits)
kind_is (Number bits) raw p = omega (arith, p.bits)
kind_is (DataPointer address) raw p = omega (arith, p.bits)
kind_is (FunctionPointer function level) raw p = let small = rank_small level in omega (arith, p.bits, small)
kind_is (Mutex thread) raw p = omega (arith, p.bits)
kind_is (Live words) raw p = omega (arith, p.bits)
kind_is (Freed words) raw p = omega (arith, p.bits)

carried_is : (word : Word) (raw : ℕ) → PacksTo word raw → raw % 2 ^ 32 ≡ carries word
unfolding packed
carried_is Zero raw p = omega (arith, p.bits)
carried_is Undefined raw p = omega (arith, p.bits)
carried_is (Number bits) raw p = let range = p.in_range in omega (arith, p.bits)
carried_is (DataPointer address) raw p = let range = p.in_range in omega (arith, p.bits)
carried_is (FunctionPointer function level) raw p = let range = p.in_range in let small = rank_small level in omega (arith, p.bits)
carried_is (Mutex thread) raw p = let range = p.in_range in omega (arith, p.bits)
carried_is (Live words) raw p = let range = p.in_range in omega (arith, p.bits)
carried_is (Freed words) raw p = let range = p.in_range in omega (arith, p.bits)

-- A word is told by its kind, its level and what it carries.
pub only : (word : Word) (raw kind : ℕ) → raw / 2 ^ 60 ≡ kind → PacksTo word raw → word_by kind (level_in word) (raw % 2 ^ 32) ≡ word
only word raw kind e p =
    ap (λ k. word_by k (level_in word) (raw % 2 ^ 32)) (sym e ∙ kind_is word raw p)
    ∙ ap (λ carried. word_by (kind_of word) (level_in word) carried) (carried_is word raw p)
    ∙ told word

-- of a function word, the number of its level
pub level_is : (word : Word) (raw : ℕ) → raw / 2 ^ 60 ≡ 4 → PacksTo word raw → rank (level_in word) ≡ raw % 2 ^ 60 / 2 ^ 32
unfolding packed
level_is (FunctionPointer function level) raw e p =
    let range = p.in_range in let small = rank_small level in omega (arith, p.bits)
level_is Zero raw e p = let k = kind_is Zero raw p in omega (arith, k)
level_is Undefined raw e p = let k = kind_is Undefined raw p in omega (arith, k)
level_is (Number bits) raw e p = let k = kind_is (Number bits) raw p in omega (arith, k)
level_is (DataPointer address) raw e p = let k = kind_is (DataPointer address) raw p in omega (arith, k)
level_is (Mutex thread) raw e p = let k = kind_is (Mutex thread) raw p in omega (arith, k)
level_is (Live words) raw e p = let k = kind_is (Live words) raw p in omega (arith, k)
level_is (Freed words) raw e p = let k = kind_is (Freed words) raw p in omega (arith, k)

-- A word of a kind above 6 is the header of a freed piece.
pub rest_is_freed : (word : Word) (raw : ℕ) → 6 < raw / 2 ^ 60 → PacksTo word raw → Freed (raw % 2 ^ 32) ≡ word
rest_is_freed (Freed words) raw more p = ap Freed (carried_is (Freed words) raw p)
rest_is_freed Zero raw more p = let k = kind_is Zero raw p in let clash : ⊥ = omega (arith, k, more) in absurd clash
rest_is_freed Undefined raw more p = let k = kind_is Undefined raw p in let clash : ⊥ = omega (arith, k, more) in absurd clash
rest_is_freed (Number bits) raw more p = let k = kind_is (Number bits) raw p in let clash : ⊥ = omega (arith, k, more) in absurd clash
rest_is_freed (DataPointer address) raw more p = let k = kind_is (DataPointer address) raw p in let clash : ⊥ = omega (arith, k, more) in absurd clash
rest_is_freed (FunctionPointer function level) raw more p = let k = kind_is (FunctionPointer function level) raw p in let clash : ⊥ = omega (arith, k, more) in absurd clash
rest_is_freed (Mutex thread) raw more p = let k = kind_is (Mutex thread) raw p in let clash : ⊥ = omega (arith, k, more) in absurd clash
rest_is_freed (Live words) raw more p = let k = kind_is (Live words) raw p in let clash : ⊥ = omega (arith, k, more) in absurd clash
