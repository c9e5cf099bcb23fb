-- What a rule of the grammar reads, in the words of a parser that looks one token ahead.
use Rattle.std.specs.Prelude.{◌≡◌, ℕ, zero, suc, max, false, cond, List, ◌++◌, Result, Ok, Err}
use Rattle.grammar.specs.Parts.{Return, Take, Call, Either}
use Rattle.grammar.specs.Parser.{Outcome, Got, Bad, New, Past, parse, begins, after, deepen}
use Rattle.c_grammar.specs.Lexemes.{Lexeme}
use Rattle.c_grammar.specs.Rules.{Rule, ValueOf}
use Rattle.c_grammar.specs.Expressions.{Reading}
use Rattle.c_grammar.specs.Grammar.{c_grammar}
use Rattle.c_grammar.specs.Lookahead.{c_lookahead}
use Rattle.parse_input.specs.Input.{head, behind, sees}
use Rattle.parse_input.specs.declared.read.Read.{Read}
use Rattle.parse_input.specs.declared.read.Refusal.{Refusal}
use Rattle.parse_input.specs.declared.read.Refusal.TheVariants.{Refused, NoMemory}

-- what the parser on lists gives for a rule at the front of the tokens, within a room
unfoldable pub named : ℕ → (n : Rule) → List Lexeme → Outcome Lexeme (ValueOf n)
named room n ts = parse c_grammar c_lookahead room n New ts

-- the same for the rest of a rule that leans to the left, after what was read so far and its depth
unfoldable pub past : ℕ → (n : Rule) → ValueOf n → ℕ → List Lexeme → Outcome Lexeme (ValueOf n)
past room n x depth ts = parse c_grammar c_lookahead room n (Past x depth) ts

-- The parts of a rule in order, by tests of the next token (`grammar`'s run, without matching on the tokens).
abbrev pub reads : {A : Type 0} → ((n : Rule) → List Lexeme → Outcome Lexeme (ValueOf n)) → Reading A → List Lexeme → Outcome Lexeme A
reads call (Return x) ts = Got x zero ts
reads call (Take test rest) ts = cond (sees test ts) (reads call (rest (head ts)) (behind ts)) (Bad false ts)
reads call (Call n rest) ts = after (λ a depth left. deepen depth (reads call (rest a) left)) (call n ts)
reads call (Either one other) ts = cond (sees (begins c_lookahead one) ts) (reads call one ts) (reads call other ts)

-- one node round what was read before, of this depth, and what is read here
abbrev pub joined : {A : Type 0} → ℕ → Outcome Lexeme A → Outcome Lexeme A
joined depth (Got x deeper left) = Got x (suc (max depth deeper)) left
joined depth (Bad deep left) = Bad deep left

-- these items, in front of what is read here
abbrev pub behind_items : {A : Type 0} → List A → Outcome Lexeme (List A) → Outcome Lexeme (List A)
behind_items items (Got more depth left) = Got (items ++ more) depth left
behind_items items (Bad deep left) = Bad deep left

-- What a function that reads answers is what the theory's parser says, with the tokens that are left; where memory
-- ran out it says nothing.
abbrev pub Says : {A : Type 0} → Outcome Lexeme A → Result (Read A) Refusal → List Lexeme → Type 0
Says o (Ok read) left = o ≡ Got read.value read.depth left
Says o (Err (Refused deep)) left = o ≡ Bad deep left
Says o (Err NoMemory) left = Unit {0}
