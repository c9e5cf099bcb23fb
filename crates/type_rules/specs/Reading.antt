-- Rules: how a part of a unit is read. The lines of a rule stand in the order in which they are asked, so the first that fails is the
-- fault of the unit.
use Rattle.std.specs.Prelude.{ℕ, ◌-◌, Bool, if◌then◌else◌, List, [], ◌∷◌, ◌++◌, take, drop, Option, Some, None}
use Rattle.scopes.specs.Number.{number_of, noted}
use Rattle.scopes.specs.Scope.{found, found_here, declare}
use Rattle.c_tree.specs.declared.words.Span.{Span}
use Rattle.eff_types.specs.declared.levels.Level.{Level}
use Rattle.type_rules.specs.Seen.{Seen}
use Rattle.type_rules.specs.declared.names.Entity.{Entity}
use Rattle.type_rules.specs.declared.notes.TypeWarning.{TypeWarning}

-- What a part means and what was seen by its end, or the number and the place of the first rule that it breaks.
pub data Read (A : Type 0) : Type 0 where
  Good : A → Seen → Read A
  Bad : (number place : ℕ) → Read A

-- how a part is read, from what was seen before it
abbrev pub Rule : Type 0 → Type 0
Rule A = Seen → Read A

-- What follows is read where what came before is good.
unfoldable pub and_then : {A B : Type 0} → Read A → (A → Seen → Read B) → Read B
and_then (Good a s) k = k a s
and_then (Bad number place) k = Bad number place

infixl 10 ◌>>=◌
abbrev pub ◌>>=◌ : {A B : Type 0} → Rule A → (A → Rule B) → Rule B
m >>= k = λ s. and_then (m s) k

infixl 10 ◌>>◌
abbrev pub ◌>>◌ : {A B : Type 0} → Rule A → Rule B → Rule B
m >> k = λ s. and_then (m s) (λ _. k)

abbrev pub gives : {A : Type 0} → A → Rule A
gives a = λ s. Good a s

abbrev pub fails : {A : Type 0} → (number place : ℕ) → Rule A
fails number place = λ s. Bad number place

-- It is a fault where the test holds.
abbrev pub refused : Bool → (number place : ℕ) → Rule (Unit {0})
refused test number place = λ s. if test then Bad number place else Good tt s

-- what is noted
abbrev pub changes : (Seen → Seen) → Rule (Unit {0})
changes change = λ s. Good tt (change s)

-- what was seen so far
abbrev pub seen : Rule Seen
seen = λ s. Good s s

-- of what stands there only where it is written
abbrev pub where_written : {A B : Type 0} → Option A → (A → Rule B) → Rule (Option B)
where_written None rule = gives None
where_written (Some a) rule = do
  b ← rule a
  gives (Some b)

-- the number of a name (C17 6.4.2.1), which it keeps
abbrev pub text_of : List ℕ → Span → List ℕ
text_of source name = take (name.end - name.start) (drop name.start source)

unfoldable pub name_number : Span → Rule ℕ
name_number name = λ s.
    Good (number_of s.names (text_of s.source name)) (record s { names = noted s.names (text_of s.source name) })

-- Scopes (C17 6.2.1).
abbrev pub enter : Rule (Unit {0})
enter = changes (λ s. record s { scopes = [] ∷ s.scopes })

abbrev pub leave : Rule (Unit {0})
leave = changes (λ s. record s { scopes = drop 1 s.scopes })

-- what the rule reads stands in a scope of its own
unfoldable pub scoped : {A : Type 0} → Rule A → Rule A
scoped rule = do
  enter
  a ← rule
  leave
  gives a

-- what a name means, by its number, here and in the innermost scope alone
abbrev pub meaning : ℕ → Rule (Option Entity)
meaning name = λ s. Good (found s.scopes name) s

abbrev pub meaning_here : ℕ → Rule (Option Entity)
meaning_here name = λ s. Good (found_here s.scopes name) s

-- in the innermost scope
abbrev pub declared : ℕ → Entity → Rule (Unit {0})
declared name e = changes (λ s. record s { scopes = declare s.scopes name e })

abbrev pub warned : Option Level → (Level → TypeWarning) → Rule (Unit {0})
warned None what = gives tt
warned (Some level) what = changes (λ s. record s { warnings = s.warnings ++ what level ∷ [] })
