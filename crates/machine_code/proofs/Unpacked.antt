-- A relation that tells what bits stand for tells what they are unpacked to.
use Rattle.std.proofs.Common.{◌≡◌, refl, sym, ℕ, ◌+◌, ◌*◌, ◌^◌, ◌<◌, Option, Some, None, arith}
use Rattle.std.specs.Prelude.{MatchOption}
use Rattle.core_unit.specs.Words.{packed, PacksTo, NothingPacksTo}
use Rattle.core_unit.specs.declared.words.Word.{Word}
use Rattle.core_unit.specs.declared.words.Word.TheVariants.{Zero, Number}
use Rattle.mcode.proofs.Unpacking.{unpacked-packed, packed-unpacked}
use Rattle.mcode.specs.Words.{unpacked}

none_is : (raw : ℕ) (found : Option Word) → NothingPacksTo raw → unpacked raw ≡ found → None ≡ unpacked raw
none_is raw None h e = sym e
none_is raw (Some word) h e = absurd (h word (packed-unpacked raw word e))

pub unpacked_is : (raw : ℕ) (found : Option Word) → MatchOption found (NothingPacksTo raw) (λ word. PacksTo word raw) → found ≡ unpacked raw
unpacked_is raw (Some word) h = sym (unpacked-packed word raw h)
unpacked_is raw None h = none_is raw (unpacked raw) h refl

-- zero and numbers, by their bits
pub zero_is : (raw : ℕ) → raw ≡ 0 → Some Zero ≡ unpacked raw
unfolding packed
zero_is raw e = sym (unpacked-packed Zero raw (record { in_range = tt; bits = sym e }))

pub number_is : (raw bits : ℕ) → 0 < bits → bits < 2 ^ 32 → raw ≡ 2 * 2 ^ 60 + bits → Some (Number bits) ≡ unpacked raw
unfolding packed
number_is raw bits some low e =
    sym (unpacked-packed (Number bits) raw (record { in_range = (some, low); bits = omega (arith, e) }))
