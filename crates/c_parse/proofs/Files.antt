-- A file is read where its rule reads all of the tokens.
use Rattle.std.proofs.Common.{◌≡◌, refl, ℕ, Bool, true, false, List, [], ◌∷◌, length, Ok, Err, ap, ◌∙◌}
use Rattle.grammar.specs.Parser.{Outcome, Got, Bad, finish, parse_all}
use Rattle.c_tree.specs.declared.statements.Tree.{Tree}
use Rattle.c_grammar.specs.Lexemes.{Lexeme}
use Rattle.c_grammar.specs.Rules.{Unit}
use Rattle.c_grammar.specs.Grammar.{c_grammar}
use Rattle.c_grammar.specs.Lookahead.{c_lookahead}
use Rattle.parse_input.specs.Input.{is_done}
use Rattle.parse_input.specs.Reads.{named}
use Rattle.c_parse.specs.Parsed.{IsAnswer}
use Rattle.c_parse.specs.declared.file.Fault.TheVariants.{Refused, NoMemory}

whole : (room : ℕ) (ts : List Lexeme) → parse_all c_grammar c_lookahead room Unit ts ≡ finish (named room Unit ts)
unfolding named
whole room ts = refl

module _ (room : ℕ) (ts : List Lexeme) where
  pub got : (x : Tree) (d : ℕ) (rest : List Lexeme) → named room Unit ts ≡ Got x d rest → is_done rest ≡ true
      → (depth : ℕ) × (parse_all c_grammar c_lookahead room Unit ts ≡ Got x depth [])
  unfolding is_done
  got x d [] e h = (d, whole room ts ∙ ap (λ o. finish o) e)
  got x d (t ∷ rest) e h = let clash : ⊥ = cc in absurd clash

  pub left_over : (x : Tree) (d : ℕ) (rest : List Lexeme) → named room Unit ts ≡ Got x d rest → is_done rest ≡ false
      → (us : List Lexeme) × (parse_all c_grammar c_lookahead room Unit ts ≡ Bad false us) × (length rest ≡ length us)
  unfolding is_done
  left_over x d [] e h = let clash : ⊥ = cc in absurd clash
  left_over x d (t ∷ rest) e h = (t ∷ rest, whole room ts ∙ ap (λ o. finish o) e, refl)

  pub bad : (deep : Bool) (rest : List Lexeme) → named room Unit ts ≡ Bad deep rest
      → (us : List Lexeme) × (parse_all c_grammar c_lookahead room Unit ts ≡ Bad deep us) × (length rest ≡ length us)
  bad deep rest e = (rest, whole room ts ∙ ap (λ o. finish o) e, refl)

pub no_answer : (o : Outcome Lexeme Tree) → IsAnswer o (Err NoMemory)
no_answer o = tt

pub answered_tree : (o : Outcome Lexeme Tree) (tree : Tree) → IsAnswer o (Ok tree) → (depth : ℕ) × (o ≡ Got tree depth [])
answered_tree o tree h = h

pub answered_refusal : (o : Outcome Lexeme Tree) (deep : Bool) (left : ℕ) → IsAnswer o (Err (Refused deep left))
    → (rest : List Lexeme) × (o ≡ Bad deep rest) × (left ≡ length rest)
answered_refusal o deep left h = h
