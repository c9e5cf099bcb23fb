-- The parser on lists: it looks one token ahead, and never goes back. What it needs beside the grammar are
-- lookahead. That it is right wherever the lookahead fit the grammar is proved (Fits).
use Rattle.std.specs.Prelude.{ℕ, zero, suc, ◌+◌, ◌*◌, max, Bool, true, false, cond, ◌||◌, leb, List, [], ◌∷◌, length, Option, Some, None}
use Rattle.grammar.specs.Parts.{Parts, Return, Take, Call, Either, Production, Plain, Node, Chain, Grammar}

pub record Lookahead (T N : Type 0) (V : N → Type 0) : Type 0 where
  -- a token may begin what the name reads
  pub first : N → T → Bool
  -- what the name reads from no token
  pub nullable : (n : N) → Option (V n)
  -- a token may follow what the name read with this value
  pub follow : (n : N) → V n → T → Bool
  -- a name that another one may read at its front, before any token, has a smaller rank
  pub rank : N → ℕ
  -- all ranks are below this
  pub ranks : ℕ

-- What the parser answers.
pub data Outcome (T : Type 0) (A : Type 0) : Type 0 where
  -- the value, its depth, and the tokens that are left
  Got : A → ℕ → List T → Outcome T A
  -- whether depth alone is at fault, and the tokens from the refused one on
  Bad : Bool → List T → Outcome T A

-- Where the parser stands in a production: at its beginning, or in a chain, after what was read so far and its depth.
pub data Entry (A : Type 0) : Type 0 where
  New : Entry A
  Past : A → ℕ → Entry A

-- what is deeper by one than what was read
abbrev pub one_more : {T A : Type 0} → Outcome T A → Outcome T A
one_more (Got x depth left) = Got x (suc depth) left
one_more (Bad deep left) = Bad deep left

-- at least as deep as what was read before
abbrev pub deepen : {T A : Type 0} → ℕ → Outcome T A → Outcome T A
deepen least (Got x depth left) = Got x (max least depth) left
deepen least (Bad deep left) = Bad deep left

-- go on after what was read, with its value, depth and the tokens that are left
abbrev pub after : {T A B : Type 0} → (A → ℕ → List T → Outcome T B) → Outcome T A → Outcome T B
after next (Got x depth left) = next x depth left
after next (Bad deep left) = Bad deep left

-- the first one, or else the second
abbrev pub or_else : {A : Type 0} → Option A → Option A → Option A
or_else (Some x) other = Some x
or_else None other = other

abbrev pub and_then : {A B : Type 0} → Option A → (A → Option B) → Option B
and_then (Some x) next = next x
and_then None next = None

-- a test of what is read from no token
abbrev pub holds : {A : Type 0} → (A → Bool) → Option A → Bool
holds test (Some x) = test x
holds test None = false

module _ {T N : Type 0} {V : N → Type 0} (lookahead : Lookahead T N V) where
  -- what the parts read from no token
  abbrev pub nothing : {A : Type 0} → Parts T N V A → Option A
  nothing (Return x) = Some x
  nothing (Take test rest) = None
  nothing (Call n rest) = and_then (lookahead.nullable n) (λ a. nothing (rest a))
  nothing (Either one other) = or_else (nothing one) (nothing other)

  -- the token may begin what the parts read
  abbrev pub begins : {A : Type 0} → Parts T N V A → T → Bool
  begins (Return x) t = false
  begins (Take test rest) t = test t
  begins (Call n rest) t = lookahead.first n t || holds (λ a. begins (rest a) t) (lookahead.nullable n)
  begins (Either one other) t = begins one t || begins other t

  -- the next token may begin what the parts read
  abbrev pub starts : {A : Type 0} → Parts T N V A → List T → Bool
  starts parts [] = false
  starts parts (t ∷ tokens) = begins parts t

  -- The parts in order. Of two, the one that the next token may begin. `call` reads a name.
  abbrev pub run : {A : Type 0} → ((n : N) → List T → Outcome T (V n)) → Parts T N V A → List T → Outcome T A
  run call (Return x) tokens = Got x zero tokens
  run call (Take test rest) [] = Bad false []
  run call (Take test rest) (t ∷ tokens) = cond (test t) (run call (rest t) tokens) (Bad false (t ∷ tokens))
  run call (Call n rest) tokens = after (λ a depth left. deepen depth (run call (rest a) left)) (call n tokens)
  run call (Either one other) tokens = cond (starts one tokens) (run call one tokens) (run call other tokens)

  -- One more step of a chain, whose next token begins it. There must be room for a node around what was
  -- read so far. `call` reads a name within a room, and here the rest of this chain.
  abbrev pub advance : {A : Type 0} → (ℕ → (n : N) → List T → Outcome T (V n)) → (A → ℕ → List T → Outcome T A)
      → Parts T N V A → ℕ → ℕ → List T → Outcome T A
  advance call here step zero depth tokens = Bad true tokens
  advance call here step (suc room) depth tokens =
      cond (leb depth room)
      (after (λ y deeper left. here y (suc (max depth deeper)) left) (run (call room) step tokens))
      (Bad true tokens)

  -- A production within a room, at its beginning. `call` reads a name within a room, and here goes on with a chain.
  abbrev pub produce : {A : Type 0} → (ℕ → (n : N) → List T → Outcome T (V n)) → (A → ℕ → List T → Outcome T A)
      → Production T N V A → ℕ → List T → Outcome T A
  produce call here (Plain parts) room tokens = run (call room) parts tokens
  produce call here (Node parts) zero tokens = Bad (starts parts tokens) tokens
  produce call here (Node parts) (suc room) tokens = one_more (run (call room) parts tokens)
  produce call here (Chain start step) room tokens = after here (run (call room) start tokens)

  -- The rest of a chain, after what was read so far.
  abbrev pub go_on : {A : Type 0} → (ℕ → (n : N) → List T → Outcome T (V n)) → (A → ℕ → List T → Outcome T A)
      → Production T N V A → ℕ → A → ℕ → List T → Outcome T A
  go_on call here (Plain parts) room x depth tokens = Got x depth tokens
  go_on call here (Node parts) room x depth tokens = Got x depth tokens
  go_on call here (Chain start step) room x depth tokens =
      cond (starts (step x) tokens) (advance call here (step x) room depth tokens) (Got x depth tokens)

  -- a production from either place
  abbrev pub proceed : {A : Type 0} → (ℕ → (n : N) → List T → Outcome T (V n)) → (A → ℕ → List T → Outcome T A)
      → Production T N V A → ℕ → Entry A → List T → Outcome T A
  proceed call here production room New tokens = produce call here production room tokens
  proceed call here production room (Past x depth) tokens = go_on call here production room x depth tokens

-- more than the steps that may be taken, one inside another, before the tokens have grown fewer by one
abbrev pub rank_of : ℕ → {A : Type 0} → Entry A → ℕ
rank_of rank New = 2 * rank + 1
rank_of rank (Past x depth) = 2 * rank

module _ (grammar : Grammar) (lookahead : Lookahead grammar.Token grammar.Name grammar.Value) where
  -- one step of the parser, where `call` does the rest
  abbrev pub step : (ℕ → (n : grammar.Name) → Entry (grammar.Value n) → List grammar.Token → Outcome grammar.Token (grammar.Value n))
      → ℕ → (n : grammar.Name) → Entry (grammar.Value n) → List grammar.Token → Outcome grammar.Token (grammar.Value n)
  step call room n entry tokens =
      proceed lookahead (λ within m some. call within m New some) (λ x depth left. call room n (Past x depth) left)
      (grammar.production n) room entry tokens

  -- at most so many steps inside one another
  abbrev pub parse_within : ℕ → ℕ → (n : grammar.Name) → Entry (grammar.Value n) → List grammar.Token → Outcome grammar.Token (grammar.Value n)
  parse_within zero room n entry tokens = Bad false tokens
  parse_within (suc steps) room n entry tokens =
      step (λ within m place some. parse_within steps within m place some) room n entry tokens

  -- enough steps for all of the tokens
  abbrev pub steps_for : (n : grammar.Name) → Entry (grammar.Value n) → List grammar.Token → ℕ
  steps_for n entry tokens = suc (2 * lookahead.ranks * length tokens + rank_of (lookahead.rank n) entry)

  -- What a name reads at the front of the tokens, within a room. It takes its steps without end: the
  -- number of them is only why this is defined (proofs/Step).
  unfoldable pub parse : ℕ → (n : grammar.Name) → Entry (grammar.Value n) → List grammar.Token → Outcome grammar.Token (grammar.Value n)
  parse room n entry tokens = parse_within (steps_for n entry tokens) room n entry tokens

-- what was read must be all of the tokens
abbrev pub finish : {T A : Type 0} → Outcome T A → Outcome T A
finish (Got x depth []) = Got x depth []
finish (Got x depth (t ∷ left)) = Bad false (t ∷ left)
finish (Bad deep left) = Bad deep left

-- The name reads all of the tokens, within a room.
abbrev pub parse_all : (grammar : Grammar) (lookahead : Lookahead grammar.Token grammar.Name grammar.Value)
    → ℕ → (n : grammar.Name) → List grammar.Token → Outcome grammar.Token (grammar.Value n)
parse_all grammar lookahead depth n tokens = finish (parse grammar lookahead depth n New tokens)
