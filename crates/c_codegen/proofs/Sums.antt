-- Sums of sizes, as far as 32 bits tell them.
use Rattle.std.proofs.Common.{◌≡◌, refl, ◌+◌}
use Rattle.core_unit.proofs.Sums.{IsSumOf, told_none, small, told_two, told_three}
use Rattle.core_unit.specs.Layout.{told}
use Rattle.c_codegen.specs.Sizes.{size, arguments_size, initializer_size, listed_size, statement_size, list_size}

pub told_four : 4 ≡ told 4
told_four = refl

pub told_five : 5 ≡ told 5
told_five = refl

-- the first numbers
pub ruleset few = (told_none, small, told_two, told_three, told_four, told_five)

pub arguments_sum : IsSumOf (λ e. size e + 1) arguments_size
arguments_sum = record { none = refl; more = λ e es. refl }

pub listed_sum : IsSumOf initializer_size listed_size
listed_sum = record { none = refl; more = λ i is. refl }

pub statements_sum : IsSumOf statement_size list_size
statements_sum = record { none = refl; more = λ s ss. refl }
