-- Where the words stand that threads reach by themselves (this project's own layout, which is that of the opening words).
use Rattle.std.specs.Prelude.{ℕ, ◌+◌, ◌*◌, ◌^◌, ◌<◌}
use Rattle.mcode.specs.declared.events.Ask.{Ask}
use Rattle.mcode.specs.declared.events.Ask.TheVariants.{Load, Store, Exchange, FetchAdd, FetchSub}

-- the word that tells all threads to halt, where it isn't 0; the words of objects stand below
abbrev pub halt : ℕ
halt = 2 ^ 20

-- the word that tells where the heap ends so far
abbrev pub break_word : ℕ
break_word = 2 ^ 20 + 1

-- the word that tells that a thread has returned
abbrev pub done_of : ℕ → ℕ
done_of thread = 2 ^ 20 + 64 + thread

-- the word for the result of a thread
abbrev pub result_of : ℕ → ℕ
result_of thread = 2 ^ 20 + 128 + thread

-- so many words has memory: those of objects up to the halt word, and the words of threads behind it
abbrev pub table_words : ℕ
table_words = 2 ^ 20 + 192

-- the address of an event, if it has one, is one of the table
abbrev pub IsInTable : Ask → Type 0
IsInTable (Load at) = at < table_words
IsInTable (Store at word) = at < table_words
IsInTable (Exchange at old new) = at < table_words
IsInTable (FetchAdd at n) = at < table_words
IsInTable (FetchSub at n) = at < table_words
IsInTable _ = Unit {0}

-- The thread-local variables of a thread, behind so many words of static storage.
abbrev pub region_of : (static_words thread : ℕ) → ℕ
region_of static_words thread = 1 + static_words + 5120 * thread

-- the stack of a thread
abbrev pub stack_of : (static_words thread : ℕ) → ℕ
stack_of static_words thread = region_of static_words thread + 1024

-- a frame is entered where fewer stand, and where its words fit
abbrev pub frame_limit : ℕ
frame_limit = 256

abbrev pub stack_words : ℕ
stack_words = 4096

-- at most so many values are held
abbrev pub held_limit : ℕ
held_limit = 1024
