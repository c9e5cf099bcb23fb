-- A small grammar, on which the definitions can be read and tried:
--
--     sums = { sum ";" } .
--     sum  = atom { "-" atom } .
--     atom = number | "(" sum ")" .
--
-- Each atom is a node, and so is each difference, which leans to the left.
use Rattle.std.specs.Prelude.{ℕ, Bool, true, false, ◌||◌, List, [], ◌∷◌, Option, Some, None}
use Rattle.grammar.specs.Parts.{Return, Take, Call, Either, Production, Plain, Node, Chain, Grammar}
use Rattle.grammar.specs.Parser.{Lookahead}

pub data Terminal : Type 0 where
  Digit Minus Open Close Semicolon : Terminal

pub data Tree : Type 0 where
  Number : Tree
  Group : Tree → Tree
  Difference : Tree → Tree → Tree

pub data Rule : Type 0 where
  Sums Additive Atom : Rule

abbrev pub is_digit : Terminal → Bool
is_digit Digit = true
is_digit _ = false

abbrev pub is_minus : Terminal → Bool
is_minus Minus = true
is_minus _ = false

abbrev pub is_open : Terminal → Bool
is_open Open = true
is_open _ = false

abbrev pub is_close : Terminal → Bool
is_close Close = true
is_close _ = false

abbrev pub is_semicolon : Terminal → Bool
is_semicolon Semicolon = true
is_semicolon _ = false

-- what a rule reads
abbrev pub TreeOf : Rule → Type 0
TreeOf Sums = List Tree
TreeOf Additive = Tree
TreeOf Atom = Tree

abbrev pub rule : (n : Rule) → Production Terminal Rule TreeOf (TreeOf n)
rule Sums = Plain (Either (Call Additive (λ one. Take is_semicolon (λ t. Call Sums (λ others. Return (one ∷ others))))) (Return []))
rule Additive = Chain (Call Atom (λ one. Return one)) (λ left. Take is_minus (λ t. Call Atom (λ right. Return (Difference left right))))
rule Atom = Node (Either (Take is_digit (λ t. Return Number)) (Take is_open (λ t. Call Additive (λ x. Take is_close (λ u. Return (Group x))))))

abbrev pub sums : Grammar
sums = record { Token = Terminal; Name = Rule; Value = TreeOf; production = rule }

abbrev pub first_of : Rule → Terminal → Bool
first_of n t = is_digit t || is_open t

abbrev pub nullable_of : (n : Rule) → Option (TreeOf n)
nullable_of Sums = Some []
nullable_of Additive = None
nullable_of Atom = None

abbrev pub follow_of : (n : Rule) → TreeOf n → Terminal → Bool
follow_of Sums x t = false
follow_of Additive x t = is_semicolon t || is_close t
follow_of Atom x t = is_minus t || (is_semicolon t || is_close t)

abbrev pub rank_of_rule : Rule → ℕ
rank_of_rule Sums = 2
rank_of_rule Additive = 1
rank_of_rule Atom = 0

abbrev pub sums_lookahead : Lookahead Terminal Rule TreeOf
sums_lookahead = record { first = first_of; nullable = nullable_of; follow = follow_of; rank = rank_of_rule; ranks = 3 }
