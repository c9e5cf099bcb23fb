-- Rows of words, where some are left.
use Rattle.std.proofs.Common.{◌≡◌, refl, ℕ, zero, suc, ◌-◌, ◌<◌, arith, slice_index}
use Rattle.arithmetic.specs.Values.{number}
use Rattle.core_unit.specs.Words.{packed}
use Rattle.mcode.specs.Machine.{Program, Machine, puts, fills, filling, spells, spelling}
use Rattle.mcode.specs.declared.thread.Mode.TheVariants.{Filling, Spelling}

pub filling_more : (offset word left : ℕ) → 0 < left → Filling offset word left ≡ filling offset word left
filling_more offset word zero more = absurd (omega arith)
filling_more offset word (suc left) more = refl

pub spelling_more : (offset at left : ℕ) → 0 < left → Spelling offset at left ≡ spelling offset at left
spelling_more offset at zero more = absurd (omega arith)
spelling_more offset at (suc left) more = refl

less_one : (left : ℕ) → suc left - 1 ≡ left
less_one left = omega arith

pub fills_more : (c : Program) (t : Machine) (offset word count : ℕ) → 0 < count →
    fills c t offset word count ≡ puts c t offset word (record t { mode = filling (suc offset) word (count - 1) })
fills_more c t offset word zero more = absurd (omega arith)
fills_more c t offset word (suc left) more =
    rw (less_one left) refl

pub spells_more : (c : Program) (t : Machine) (offset at count : ℕ) → 0 < count →
    spells c t offset at count ≡ puts c t offset (packed (number (slice_index c.texts at))) (record t { mode = spelling (suc offset) (suc at) (count - 1) })
spells_more c t offset at zero more = absurd (omega arith)
spells_more c t offset at (suc left) more = rw (less_one left) refl
