-- When one token decides: the conditions on a grammar and its lookahead under which the parser on lists is right.
-- Each is a computation or a proof by cases over the tests of the grammar, production by production.
use Rattle.std.specs.Prelude.{◌≡◌, ℕ, ◌<◌, Bool, true, false, ◌||◌, Some, None}
use Rattle.grammar.specs.Parts.{Parts, Return, Take, Call, Either, Production, Plain, Node, Chain, Grammar}
use Rattle.grammar.specs.Parser.{Lookahead, nothing, begins, holds}

module _ {T N : Type 0} {V : N → Type 0} (lookahead : Lookahead T N V) where
  -- One token decides, where the token after the whole passes a test that may look at the value.
  abbrev pub Decided : {A : Type 0} → (A → T → Bool) → Parts T N V A → Type 0
  Decided follows (Return x) = Unit {0}
  Decided follows (Take test rest) = (t : T) → test t ≡ true → Decided follows (rest t)
  -- what begins the rest may follow what was read, and so may what follows the whole, if the rest can be empty
  Decided {A} follows (Call n rest) = (a : V n) →
      ((t : T) → begins lookahead (rest a) t ≡ true → lookahead.follow n a t ≡ true)
      × ((x : A) (t : T) → nothing lookahead (rest a) ≡ Some x → follows x t ≡ true → lookahead.follow n a t ≡ true)
      × Decided follows (rest a)
  -- the first is not empty, no token begins both, and if the second can be empty then what follows begins not the first
  Decided {A} follows (Either one other) =
      (nothing lookahead one ≡ None)
      × ((t : T) → begins lookahead one t ≡ true → begins lookahead other t ≡ false)
      × ((x : A) (t : T) → nothing lookahead other ≡ Some x → follows x t ≡ true → begins lookahead one t ≡ false)
      × Decided follows one × Decided follows other

  -- What is called before any token was read has a smaller rank: no recursion at the front.
  abbrev pub Ranked : {A : Type 0} → ℕ → Parts T N V A → Type 0
  Ranked rank (Return x) = Unit {0}
  Ranked rank (Take test rest) = Unit {0}
  Ranked rank (Call n rest) = (lookahead.rank n < rank) × ((a : V n) → lookahead.nullable n ≡ Some a → Ranked rank (rest a))
  Ranked rank (Either one other) = Ranked rank one × Ranked rank other

  -- the token goes on with a chain after what was read so far
  abbrev pub goes_on : {A : Type 0} → Production T N V A → A → T → Bool
  goes_on (Plain parts) x t = false
  goes_on (Node parts) x t = false
  goes_on (Chain start step) x t = begins lookahead (step x) t

  -- The lookahead of a name fit its production.
  abbrev pub IsLL1Production : (n : N) → Production T N V (V n) → Type 0
  IsLL1Production n (Plain parts) =
      ((t : T) → lookahead.first n t ≡ begins lookahead parts t)
      × (lookahead.nullable n ≡ nothing lookahead parts)
      × Ranked (lookahead.rank n) parts
      × Decided (lookahead.follow n) parts
  -- a node has a token
  IsLL1Production n (Node parts) =
      ((t : T) → lookahead.first n t ≡ begins lookahead parts t)
      × (lookahead.nullable n ≡ None)
      × (nothing lookahead parts ≡ None)
      × Ranked (lookahead.rank n) parts
      × Decided (lookahead.follow n) parts
  -- a step has a token, and a token that may follow the whole does not go on with it
  IsLL1Production n (Chain start step) =
      ((t : T) → lookahead.first n t ≡ (begins lookahead start t || holds (λ x. begins lookahead (step x) t) (nothing lookahead start)))
      × (lookahead.nullable n ≡ nothing lookahead start)
      × Ranked (lookahead.rank n) start
      × Decided (λ x t. lookahead.follow n x t || begins lookahead (step x) t) start
      × ((y : V n) → nothing lookahead (step y) ≡ None)
      × ((y : V n) → Ranked (lookahead.rank n) (step y))
      × ((y : V n) → Decided (λ x t. lookahead.follow n x t || begins lookahead (step x) t) (step y))
      × ((x : V n) (t : T) → lookahead.follow n x t ≡ true → begins lookahead (step x) t ≡ false)

-- The lookahead of every name fit its production.
abbrev pub IsLL1 : (grammar : Grammar) → Lookahead grammar.Token grammar.Name grammar.Value → Type 0
IsLL1 grammar lookahead = (n : grammar.Name) → (lookahead.rank n < lookahead.ranks) × IsLL1Production lookahead n (grammar.production n)
