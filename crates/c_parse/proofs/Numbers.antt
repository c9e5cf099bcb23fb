-- The number of a refusal.
use Rattle.std.proofs.Common.{◌≡◌, refl, ℕ, Bool, true, false, List, inl, inr}
use Rattle.std.proofs.lemmas.Bool.{false≢true}
use Rattle.c_text.specs.declared.Token.{Token}
use Rattle.c_grammar.specs.declared.terminal.Terminal.TheVariants as k
use Rattle.c_grammar.specs.Lexemes.{Lexeme, lexemes_of, is}
use Rattle.c_grammar.specs.Refusals.{is_reserved_name}
use Rattle.c_parse.specs.Parsed.{NumberByDepth, IsNumberOf, SaysIfNameGoesOn}

module _ (source : List ℕ) (before : List Token) (deep : Bool) (t : Lexeme) where
  pub unused : is k.Unused t ≡ true → IsNumberOf source (lexemes_of source before) deep t 4
  unused e = inl (e, refl)

  pub reserved : is k.Unused t ≡ false → is_reserved_name t ≡ true → SaysIfNameGoesOn source before true → IsNumberOf source (lexemes_of source before) deep t 3
  reserved e f g = inr (inl (e, f, g, refl))

  pub not_reserved : (number : ℕ) → is k.Unused t ≡ false → is_reserved_name t ≡ false → NumberByDepth deep number
      → IsNumberOf source (lexemes_of source before) deep t number
  not_reserved number e f n = inr (inr ((e, (λ g h. false≢true (rw f at g))), n))

  pub no_name : (number : ℕ) → is k.Unused t ≡ false → SaysIfNameGoesOn source before false → NumberByDepth deep number
      → IsNumberOf source (lexemes_of source before) deep t number
  no_name number e g n = inr (inr ((e, (λ f h. g h)), n))
