-- Whole and unfinished readings, viable prefixes and the refused token, as relations on whole lists of
-- tokens. None of them knows a parser, and none ranges over what could follow a prefix.
use Rattle.std.specs.Prelude.{◌≡◌, ℕ, zero, suc, Bool, true, ◌⊎◌, ◌↔◌, List, [], ◌∷◌, ◌++◌}
use Rattle.grammar.specs.Parts.{Parts, Return, Take, Call, Either, Production, Plain, Node, Chain, Grammar}

module _ {T N : Type 0} {V : N → Type 0} where
  -- The parts read all of the tokens, with this value. `reads` tells what a name reads.
  abbrev pub PartsRead : {A : Type 0} → ((n : N) → List T → V n → Type 0) → Parts T N V A → List T → A → Type 0
  PartsRead reads (Return value) tokens x = (tokens ≡ []) × (value ≡ x)
  PartsRead reads (Take test rest) [] x = ⊥
  PartsRead reads (Take test rest) (t ∷ tokens) x = (test t ≡ true) × PartsRead reads (rest t) tokens x
  PartsRead reads (Call n rest) tokens x =
      (front : List T) × (back : List T) × (a : V n) × (tokens ≡ front ++ back) × reads n front a × PartsRead reads (rest a) back x
  PartsRead reads (Either one other) tokens x = PartsRead reads one tokens x ⊎ PartsRead reads other tokens x

  -- An unfinished reading of the parts: the first parts whole, none or more of them, then at most one part
  -- that is unfinished itself, and nothing after it. `begun` tells what a name has begun to read.
  abbrev pub PartsBegun : {A : Type 0} → ((n : N) → List T → V n → Type 0) → ((n : N) → List T → Type 0) → Parts T N V A → List T → Type 0
  PartsBegun reads begun (Return value) tokens = tokens ≡ []
  PartsBegun reads begun (Take test rest) [] = Unit {0}
  PartsBegun reads begun (Take test rest) (t ∷ tokens) = (test t ≡ true) × PartsBegun reads begun (rest t) tokens
  PartsBegun reads begun (Call n rest) tokens =
      begun n tokens ⊎ ((front : List T) × (back : List T) × (a : V n) × (tokens ≡ front ++ back) × reads n front a × PartsBegun reads begun (rest a) back)
  PartsBegun reads begun (Either one other) tokens = PartsBegun reads begun one tokens ⊎ PartsBegun reads begun other tokens

  -- A whole reading by a production within a room, the number of nodes that may stand inside one another.
  -- `reads` tells what a name reads within a room, `own` what this very production reads.
  abbrev pub WholeRead : {A : Type 0} → (ℕ → (n : N) → List T → V n → Type 0) → (ℕ → List T → A → Type 0)
      → Production T N V A → ℕ → List T → A → Type 0
  WholeRead reads own (Plain parts) room tokens x = PartsRead (reads room) parts tokens x
  WholeRead reads own (Node parts) zero tokens x = ⊥
  WholeRead reads own (Node parts) (suc room) tokens x = PartsRead (reads room) parts tokens x
  WholeRead reads own (Chain start step) zero tokens x = PartsRead (reads zero) start tokens x
  WholeRead {A} reads own (Chain start step) (suc room) tokens x =
      PartsRead (reads (suc room)) start tokens x
      ⊎ ((front : List T) × (back : List T) × (left : A) × (tokens ≡ front ++ back) × own room front left × PartsRead (reads room) (step left) back x)

  -- An unfinished reading by a production of which a token was read. In a chain what stands left of the
  -- last step is whole. `begun` tells what a name has begun to read within a room.
  abbrev pub BegunBy : {A : Type 0} → (ℕ → (n : N) → List T → V n → Type 0) → (ℕ → List T → A → Type 0) → (ℕ → (n : N) → List T → Type 0)
      → Production T N V A → ℕ → List T → Type 0
  BegunBy reads own begun (Plain parts) room tokens = PartsBegun (reads room) (begun room) parts tokens
  BegunBy reads own begun (Node parts) zero tokens = ⊥
  BegunBy reads own begun (Node parts) (suc room) tokens = PartsBegun (reads room) (begun room) parts tokens
  BegunBy reads own begun (Chain start step) zero tokens = PartsBegun (reads zero) (begun zero) start tokens
  BegunBy {A} reads own begun (Chain start step) (suc room) tokens =
      PartsBegun (reads (suc room)) (begun (suc room)) start tokens
      ⊎ ((front : List T) × (back : List T) × (left : A) × (tokens ≡ front ++ back) × own room front left × PartsBegun (reads room) (begun room) (step left) back)

module _ (grammar : Grammar) where
  -- The name reads the tokens within the room, by a derivation of at most this height. The height is no
  -- limit: it is whatever number will do (IsRead).
  abbrev pub Reads : ℕ → ℕ → (n : grammar.Name) → List grammar.Token → grammar.Value n → Type 0
  Reads zero room n tokens x = ⊥
  Reads (suc height) room n tokens x =
      WholeRead (λ within m some y. Reads height within m some y) (λ within some y. Reads height within n some y)
      (grammar.production n) room tokens x

  -- The same for unfinished readings. A node of which no token was read does not count.
  abbrev pub Begun : ℕ → ℕ → (n : grammar.Name) → List grammar.Token → Type 0
  Begun zero room n tokens = tokens ≡ []
  Begun (suc height) room n tokens =
      (tokens ≡ [])
      ⊎ BegunBy (λ within m some y. Reads height within m some y) (λ within some y. Reads height within n some y)
      (λ within m some. Begun height within m some) (grammar.production n) room tokens

  -- The tokens have a reading by n, with this value and of at most this depth.
  abbrev pub IsRead : ℕ → (n : grammar.Name) → List grammar.Token → grammar.Value n → Type 0
  IsRead depth n tokens x = (height : ℕ) × Reads height depth n tokens x

  -- The tokens have an unfinished (or a whole) reading by n, of at most this depth.
  abbrev pub IsViable : ℕ → (n : grammar.Name) → List grammar.Token → Type 0
  IsViable depth n tokens = (height : ℕ) × Begun height depth n tokens

  -- After the tokens before, what comes next is refused: the next token makes them a prefix that is not
  -- viable, or there is no next token and they are no whole reading. It is refused for depth alone exactly
  -- where some greater depth would do.
  abbrev pub IsRefused : ℕ → (n : grammar.Name) → Bool → List grammar.Token → List grammar.Token → Type 0
  IsRefused depth n deep before [] =
      ((x : grammar.Value n) → IsRead depth n before x → ⊥)
      × ((deep ≡ true) ↔ ((greater : ℕ) × (x : grammar.Value n) × IsRead greater n before x))
  IsRefused depth n deep before (t ∷ after) =
      (IsViable depth n (before ++ (t ∷ [])) → ⊥)
      × ((deep ≡ true) ↔ ((greater : ℕ) × IsViable greater n (before ++ (t ∷ []))))

  -- The refused token is the first of rest, or the end where rest is empty: all that stands before it is
  -- viable, so it is the first token that is refused.
  abbrev pub HasFault : ℕ → (n : grammar.Name) → List grammar.Token → Bool → List grammar.Token → Type 0
  HasFault depth n tokens deep rest =
      (before : List grammar.Token) × (tokens ≡ before ++ rest) × IsRefused depth n deep before rest
      × ((one other : List grammar.Token) → before ≡ one ++ other → IsViable depth n one)
