-- The key of a path in its slot, and the order in which the slots are tried for a key.
use Rattle.std.specs.Prelude.{ℕ, ◌+◌, ◌-◌, ◌*◌, ◌/◌, ◌%◌, ◌^◌, nat_lt, if◌then◌else◌, Option, Some, None}
use Rattle.ctx_set.specs.declared.steps.StackStep.{StackStep}
use Rattle.context_set.specs.declared.node.Node.{Node}

-- the number of a parent; 65,536 stands for none
abbrev pub number_of : Option Node → ℕ
number_of None = 65536
number_of (Some node) = node.number

abbrev pub key_of : ℕ → StackStep → ℕ
key_of parent step = 1 + parent + 131072 * step.site + 137438953472 * step.target

-- the slot that is tried first of so many: the upper bits of a product with 2^64 over the golden ratio, which spreads keys that lie side by side
unfoldable pub start : ℕ → ℕ → ℕ
start slots key = ((key * 11400714819323198485) % 2 ^ 64 / 2 ^ 32) * slots / 2 ^ 32

-- the slot that is tried after so many others: they follow one another, and the first slot follows the last
abbrev pub place : ℕ → ℕ → ℕ → ℕ
place slots key tried = if nat_lt (start slots key + tried) slots then start slots key + tried else start slots key + tried - slots
