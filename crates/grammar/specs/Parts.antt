-- A grammar as data: one production for each name, in the order in which a grammar is written down.
-- Nothing here knows of any language. (This project's own rule; a production by its parts from the
-- left is the usual notation of context-free grammars, where later parts may depend on earlier values.)
use Rattle.std.specs.Prelude.{Bool}

-- What a production is made of, by its parts from the left. T are the tokens, N the names of productions,
-- V n what the name n reads, and A what is read here.
pub data Parts (T N : Type 0) (V : N → Type 0) (A : Type 0) : Type 0 where
  -- no part is left, and this was read
  Return : A → Parts T N V A
  -- one token that passes a test; the rest may depend on it
  Take : (T → Bool) → (T → Parts T N V A) → Parts T N V A
  -- what the name reads; the rest may depend on the value
  Call : (n : N) → (V n → Parts T N V A) → Parts T N V A
  -- the one or the other
  Either : Parts T N V A → Parts T N V A → Parts T N V A

-- A production, and how it counts in the depth.
pub data Production (T N : Type 0) (V : N → Type 0) (A : Type 0) : Type 0 where
  -- no node: its nodes are those of its parts
  Plain : Parts T N V A → Production T N V A
  -- one node around its parts
  Node : Parts T N V A → Production T N V A
  -- nodes that lean to the left: a beginning that is no node, and any number of steps. Each step makes one
  -- node of what was read before it and of its own parts, as `a - b - c` is a node of `a - b` and of `c`
  Chain : Parts T N V A → (A → Parts T N V A) → Production T N V A

pub record Grammar : Type 1 where
  pub Token : Type 0
  pub Name : Type 0
  pub Value : Name → Type 0
  pub production : (n : Name) → Production Token Name Value (Value n)
