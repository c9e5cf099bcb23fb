-- The words of memory: 64 bits each, by which a value is known as a number, a pointer or something else (this project's own rule).
use Rattle.std.specs.Prelude.{◌≡◌, ℕ, ◌+◌, ◌*◌, ◌%◌, ◌^◌, ◌<◌, ◌≤◌}
use Rattle.eff_types.specs.Effects.{rank}
use Rattle.core_unit.specs.declared.words.Word.{Word}
use Rattle.core_unit.specs.declared.words.Word.TheVariants.{Zero, Undefined, Number, DataPointer, FunctionPointer, Mutex, Live, Freed}

-- What a word carries is in its range: a number isn't 0, an address is from 1 up to 2^20, the greatest that a pointer may hold, though no object
-- stands there; a function is one of 4,096, a thread one of 64, and a piece of the heap has at most 2^20 words.
abbrev pub IsInRange : Word → Type 0
IsInRange Zero = Unit {0}
IsInRange Undefined = Unit {0}
IsInRange (Number bits) = (0 < bits) × (bits < 2 ^ 32)
IsInRange (DataPointer address) = (0 < address) × (address ≤ 2 ^ 20)
IsInRange (FunctionPointer function level) = function < 4096
IsInRange (Mutex thread) = thread < 64
IsInRange (Live words) = words ≤ 2 ^ 20
IsInRange (Freed words) = words ≤ 2 ^ 20

-- the bits of a kind that carries this, cut to 32 bits
abbrev pub of_kind : ℕ → ℕ → ℕ
of_kind kind carried = kind * 2 ^ 60 + carried % 2 ^ 32

-- the 64 bits that stand for a word
unfoldable pub packed : Word → ℕ
packed Zero = 0
packed Undefined = 2 ^ 60
packed (Number bits) = of_kind 2 bits
packed (DataPointer address) = of_kind 3 address
packed (FunctionPointer function level) = rank level * 2 ^ 32 + of_kind 4 function
packed (Mutex thread) = of_kind 5 thread
packed (Live words) = of_kind 6 words
packed (Freed words) = of_kind 7 words

-- The bits stand for this word.
pub record PacksTo (word : Word) (raw : ℕ) : Type 0 where
  pub in_range : IsInRange word
  pub bits : packed word ≡ raw

-- They stand for no word.
abbrev pub NothingPacksTo : ℕ → Type 0
NothingPacksTo raw = (word : Word) → PacksTo word raw → ⊥
