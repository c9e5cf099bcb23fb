-- The memory of a run: a table of words, and what the word events of a trace make of it (this project's own layout; each
-- word event is one sequentially consistent access, C17 section 5.1.2.4).
use Rattle.std.specs.Prelude.{◌≡◌, ℕ, ◌+◌, ◌-◌, ◌*◌, ◌%◌, ◌^◌, ◌==◌, List, [], ◌∷◌, replicate, slice_index, slice_set, if◌then◌else◌}
use Rattle.built_code.specs.declared.events.Ask.{Ask}
use Rattle.built_code.specs.declared.events.Ask.TheVariants.{Load, Store, Exchange, FetchAdd, FetchSub}
use Rattle.built_code.specs.Words.{halt}
use Rattle.built_model.specs.declared.runs.Made.{Made}
use Rattle.built_model.specs.Laws.{table_words}

-- where the heap starts, behind the 64 threads' own words: a unit of functions whose bodies are calls has no static words
abbrev pub heap_start : ℕ
heap_start = 1 + 64 * 5120

-- the word that tells where the heap ends so far
abbrev pub break_word : ℕ
break_word = halt + 1

-- the words at the start of a run: zeros, but for the end of the heap
unfoldable pub opening_words : List ℕ
opening_words = slice_set (replicate table_words 0) break_word heap_start

-- the word that answers an event: the one that stood at its address before; an event that asks for none is answered by 0
abbrev pub answer_of : Ask → List ℕ → ℕ
answer_of (Load at) words = slice_index words at
answer_of (Exchange at old new) words = slice_index words at
answer_of (FetchAdd at n) words = slice_index words at
answer_of (FetchSub at n) words = slice_index words at
answer_of ask words = 0

-- the words after an event: a store writes, an exchange only where it finds the old word, and sums wrap at 2^64
abbrev pub changed : Ask → List ℕ → List ℕ
changed (Store at word) words = slice_set words at word
changed (Exchange at old new) words = if slice_index words at == old then slice_set words at new else words
changed (FetchAdd at n) words = slice_set words at ((slice_index words at + n) % 2 ^ 64)
changed (FetchSub at n) words = slice_set words at ((slice_index words at + (2 ^ 64 - n)) % 2 ^ 64)
changed ask words = words

-- the words after a trace, the latest event of which stands first
abbrev pub words_after : List Made → List ℕ
words_after [] = opening_words
words_after (made ∷ before) = changed made.ask (words_after before)

-- a legal history: each event is answered by the word that stood at its address
abbrev pub IsLegal : List Made → Type 0
IsLegal [] = Unit {0}
IsLegal (made ∷ before) = (made.word ≡ answer_of made.ask (words_after before)) × IsLegal before
