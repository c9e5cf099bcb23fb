-- The tokens of an input, by those of the slice that is left.
use Rattle.std.proofs.Common.{◌≡◌, refl, ℕ, true, false, List, [], ◌∷◌, length, drop}
use Rattle.c_text.specs.declared.Token.{Token}
use Rattle.c_grammar.specs.Lexemes.{lexeme_of, lexemes_of}
use Rattle.parse_input.specs.Input.{nothing, head, behind, is_done}

module _ (source : List ℕ) where
  pub none_done : (ts : List Token) → length ts ≡ 0 → is_done (lexemes_of source ts) ≡ true
  unfolding is_done
  none_done [] e = refl
  none_done (t ∷ ts) e = cc

  pub no_head : (ts : List Token) → length ts ≡ 0 → head (lexemes_of source ts) ≡ nothing
  unfolding head
  no_head [] e = refl
  no_head (t ∷ ts) e = cc

  pub behind_drop : (ts : List Token) → behind (lexemes_of source ts) ≡ lexemes_of source (drop 1 ts)
  unfolding behind
  behind_drop [] = refl
  behind_drop (t ∷ ts) = refl

  pub none_behind : (ts : List Token) → length ts ≡ 0 → behind (lexemes_of source ts) ≡ lexemes_of source ts
  unfolding behind
  none_behind [] e = refl
  none_behind (t ∷ ts) e = cc

  pub some_done : (t : Token) (more ts : List Token) → ts ≡ t ∷ more → is_done (lexemes_of source ts) ≡ false
  unfolding is_done
  some_done t more ts e = rw e

  pub a_head : (t : Token) (more ts : List Token) → ts ≡ t ∷ more → head (lexemes_of source ts) ≡ lexeme_of source t
  unfolding head
  a_head t more ts e = rw e
