-- Of a pointer that moves: where it comes to.
use Rattle.std.proofs.Common.{◌≡◌, ℕ, ◌^◌, ◌<◌, Result, Ok, ℤ, pos, ◌+ℤ◌, ◌≤ℤ◌, unsigned_abs, arith}
use Rattle.std.proofs.lemmas.Bool.Decides.{nat_tests}
use Rattle.std.proofs.lemmas.Int.{ints}
use Rattle.arithmetic.specs.Pointers.{moved}
use Rattle.arithmetic.specs.declared.traps.TrapKind.{TrapKind}

-- What a pointer that isn't null comes to within the addresses.
pub moved_is : (address : ℕ) (distance there : ℤ) → there ≡ pos address +ℤ distance → 0 < address → pos 1 ≤ℤ there → there ≤ℤ pos (2 ^ 20) →
    ◌≡◌ {A = Result ℕ TrapKind} (Ok (unsigned_abs there)) (moved address distance)
moved_is address distance there e some low high = grind (arith, ints, nat_tests)
