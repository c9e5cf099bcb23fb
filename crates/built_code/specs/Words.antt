-- The words that threads write, and where they stand (this project's own layout).
use Rattle.std.specs.Prelude.{ℕ, ◌+◌, ◌*◌, ◌^◌, ◌==◌, if◌then◌else◌, ℤ}
use Rattle.std.specs.Int.{w32, cast_signed}

-- the address of the word that tells all threads to halt
abbrev pub halt : ℕ
halt = 2 ^ 20

-- the address of the word that tells that a thread has returned
abbrev pub done_of : ℕ → ℕ
done_of thread = 2 ^ 20 + 64 + thread

-- the address of the word for a thread's result
abbrev pub result_of : ℕ → ℕ
result_of thread = 2 ^ 20 + 128 + thread

-- the word of a number: 0 for 0, else the tag 2 above its bits
abbrev pub number_word : ℕ → ℕ
number_word bits = if bits == 0 then 0 else 2 * 2 ^ 60 + bits

-- the number of type int with these bits, by two's complement
abbrev pub signed_number : ℕ → ℤ
signed_number bits = cast_signed w32 bits
