use Rattle.std.proofs.Common.{◌≡◌, take}
use Rattle.c_text.specs.Numbers.{capped, value_in}
use Rattle.c_text.proofs.number.value_in.Given as goal

-- the value of the digits so far
abbrev pub invariant-loop-digit : goal.invariant-loop-digit
invariant-loop-digit l = l.value ≡ capped (value_in l.base (take l.digit-index l.digits))
