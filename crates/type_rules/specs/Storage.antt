-- Where variables are kept (C17 6.2.4): objects of static storage and thread-local ones, each where the one before ends, in order of
-- appearance, and the words of a frame (this project's own rules).
use Rattle.std.specs.Prelude.{ℕ, ◌+◌, List, [], ◌∷◌, ◌++◌, Option}
use Rattle.eff_types.specs.declared.types.CType.{CType}
use Rattle.core_unit.specs.Layout.{told, words_of}
use Rattle.core_unit.specs.declared.expressions.Storage.{Storage}
use Rattle.core_unit.specs.declared.expressions.Storage.TheVariants.{Automatic, Static, ThreadLocal}
use Rattle.type_rules.specs.Reading.{Rule, Good, ◌>>=◌, gives, changes}
use Rattle.type_rules.specs.declared.durations.Duration.{Duration}
use Rattle.type_rules.specs.declared.durations.Duration.TheVariants.{Automatic as IsAutomatic, Static as IsStatic, ThreadLocal as IsThreadLocal}
use Rattle.type_rules.specs.declared.notes.Initial.{Initial}

-- the words of an object of the type
abbrev pub words_in : CType → Rule ℕ
words_in t = λ s. Good (words_of s.structures t) s

-- An object of so many words: its address. Address 0 is never used.
abbrev pub allot_static : ℕ → Option ℕ → Rule ℕ
allot_static words variable = λ s. Good (s.static_words + 1) (record s {
  statics = s.statics ++ record { at = s.static_words + 1; words = words; variable = variable } ∷ [];
  static_words = told (s.static_words + words);
})

-- its offset in the region of each thread
abbrev pub allot_thread_local : ℕ → Option ℕ → Rule ℕ
allot_thread_local words variable = λ s. Good s.thread_words (record s {
  thread_locals = s.thread_locals ++ record { at = s.thread_words; words = words; variable = variable } ∷ [];
  thread_words = told (s.thread_words + words);
})

-- its offset in the frame of the function
abbrev pub allot_automatic : ℕ → Rule ℕ
allot_automatic words = λ s. Good s.frame (record s { frame = told (s.frame + words) })

-- what an object that is kept there holds at first
abbrev pub initially : Storage → List Initial → Rule (Unit {0})
initially (Automatic offset) values = λ s. Good tt s
initially (Static address) values = changes (λ s. record s { static_values = s.static_values ++ values })
initially (ThreadLocal offset) values = changes (λ s. record s { thread_values = s.thread_values ++ values })

-- Where an object of so many words is kept by the words of its declaration. Inside a function it is automatic without `static`.
abbrev pub kept_for : Duration → ℕ → Option ℕ → Rule Storage
kept_for IsAutomatic words variable = do
  offset ← allot_automatic words
  gives (Automatic offset)
kept_for IsStatic words variable = do
  address ← allot_static words variable
  gives (Static address)
kept_for IsThreadLocal words variable = do
  offset ← allot_thread_local words variable
  gives (ThreadLocal offset)
