-- That one token decides in a rule, as it is computed terminal by terminal.
use Rattle.std.proofs.Common.{false}
use Rattle.grammar.proofs.Checked.{ChecksProduction, within}
use Rattle.c_grammar.specs.Rules.{Rule, ValueOf}
use Rattle.c_grammar.specs.Grammar.{production}
use Rattle.c_grammar.specs.Lookahead.{c_lookahead}
use Rattle.c_grammar.proofs.Every.{All, all, none}

abbrev pub Fine : Rule → Type 0
Fine n = ChecksProduction c_lookahead All all n (production n)

-- what begins with no token may stand before any
pub begins_not : (n : Rule) (a : ValueOf n) → All (λ t. within false (c_lookahead.follow n a t))
begins_not n a = none (λ t. c_lookahead.follow n a t)
