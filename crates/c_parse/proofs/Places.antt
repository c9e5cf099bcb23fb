-- Where a refusal stands among the tokens.
use Rattle.std.proofs.Common.{◌≡◌, refl, ℕ, suc, ◌+◌, ◌-◌, ◌≤◌, Bool, List, [], ◌∷◌, ◌++◌, length, take, slice_index_or, ap, ap₂, sym, ◌∙◌, subst, length-append, arith}
use Rattle.std.proofs.lemmas.List.{length-map}
use Rattle.grammar.specs.Parser.{Bad, parse_all}
use Rattle.grammar.proofs.Theorem.{fault}
use Rattle.c_text.specs.declared.Token.{Token}
use Rattle.c_grammar.specs.Lexemes.{Lexeme, lexeme_of, lexemes_of}
use Rattle.c_grammar.specs.Rules.{Unit}
use Rattle.c_grammar.specs.Grammar.{c_grammar}
use Rattle.c_grammar.specs.Lookahead.{c_lookahead}
use Rattle.c_grammar.specs.Refusals.{deepest, NumberAt}
use Rattle.c_grammar.proofs.Fit.{c_grammar_fits}
use Rattle.c_parse.specs.Parsed.{IsRefusedAt, IsRefusedFrom, IsNumberOf, NumberByDepth}

-- The tokens that stand before the one of an index, and that one.
record Split (source : List ℕ) (c : List Lexeme) (u : Lexeme) (ts : List Token) : Type 0 where
  pub front : c ≡ lexemes_of source (take (length c) ts)
  pub token : (d : Token) → u ≡ lexeme_of source (slice_index_or ts (length c) d)

split : (source : List ℕ) (c : List Lexeme) (u : Lexeme) (us : List Lexeme) (ts : List Token) → lexemes_of source ts ≡ c ++ (u ∷ us) → Split source c u ts
split source [] u us [] e = let clash : ⊥ = cc in absurd clash
split source [] u us (t ∷ ts) e = record { front = refl; token = λ d. cc }
split source (x ∷ c) u us [] e = let clash : ⊥ = cc in absurd clash
split source (x ∷ c) u us (t ∷ ts) e =
    let first : x ≡ lexeme_of source t = cc in
    let rest : lexemes_of source ts ≡ c ++ (u ∷ us) = cc in
    let s = split source c u us ts rest in
    record { front = ap₂ (λ one others. one ∷ others) first s.front; token = λ d. s.token d }

module _ (source : List ℕ) (tokens : List Token) (deep : Bool) (left : ℕ) (h : IsRefusedFrom source tokens deep left) where
  counted : (c rest : List Lexeme) → lexemes_of source tokens ≡ c ++ rest → length tokens ≡ length c + length rest
  counted c rest q = sym (length-map tokens (λ token. lexeme_of source token)) ∙ ap (λ us. length us) q ∙ length-append c rest

  pub left_within : left ≤ length tokens
  left_within =
      let (c, q, refused, viable) = fault c_grammar c_lookahead c_grammar_fits deepest Unit (lexemes_of source tokens) deep h.0 h.1 in
      let n : length tokens ≡ length c + length h.0 = counted c h.0 q in
      let m : left ≡ length h.0 = h.2 in omega arith

  end_of : (rest : List Lexeme) → parse_all c_grammar c_lookahead deepest Unit (lexemes_of source tokens) ≡ Bad deep rest → left ≡ length rest
      → left ≡ 0 → (number : ℕ) → NumberByDepth deep number → IsRefusedAt source tokens number (length tokens - left) (length source)
  end_of [] e m z number n =
      let f = fault c_grammar c_lookahead c_grammar_fits deepest Unit (lexemes_of source tokens) deep [] e in
      record {
        rest = [];
        refused = (deep, f.0, f.1, f, n);
        counted = omega arith;
        placed = refl;
      }
  end_of (u ∷ us) e m z number n = let clash : ⊥ = omega arith in absurd clash

  pub at_end : left ≡ 0 → (number : ℕ) → NumberByDepth deep number → IsRefusedAt source tokens number (length tokens - left) (length source)
  at_end z number n = end_of h.0 h.1 h.2 z number n

  token_of : (rest : List Lexeme) → parse_all c_grammar c_lookahead deepest Unit (lexemes_of source tokens) ≡ Bad deep rest → left ≡ length rest
      → (left ≡ 0 → ⊥) → (d : Token) (number : ℕ)
      → IsNumberOf source (lexemes_of source (take (length tokens - left) tokens)) deep (lexeme_of source (slice_index_or tokens (length tokens - left) d)) number
      → IsRefusedAt source tokens number (length tokens - left) (slice_index_or tokens (length tokens - left) d).start
  token_of [] e m z d number n = absurd (z m)
  token_of (u ∷ us) e m z d number n =
      let f = fault c_grammar c_lookahead c_grammar_fits deepest Unit (lexemes_of source tokens) deep (u ∷ us) e in
      let all : length tokens ≡ length f.0 + suc (length us) = counted f.0 (u ∷ us) f.1 in
      let index : length tokens - left ≡ length f.0 = omega arith in
      let s = split source f.0 u us tokens f.1 in
      let front : lexemes_of source (take (length tokens - left) tokens) ≡ f.0 = rw index (sym s.front) in
      let token : lexeme_of source (slice_index_or tokens (length tokens - left) d) ≡ u = rw index (sym (s.token d)) in
      record {
        rest = u ∷ us;
        refused = (
          deep,
          f.0,
          f.1,
          f,
          subst (λ v. NumberAt source f.0 deep (v ∷ us) number) token
              (subst (λ b. NumberAt source b deep (lexeme_of source (slice_index_or tokens (length tokens - left) d) ∷ us) number) front n),
        );
        counted = omega arith;
        placed = ap (λ t. t.token.start) token;
      }

  pub at_token : (left ≡ 0 → ⊥) → (d : Token) (front : List Token) (number : ℕ) → front ≡ take (length tokens - left) tokens
      → IsNumberOf source (lexemes_of source front) deep (lexeme_of source (slice_index_or tokens (length tokens - left) d)) number
      → IsRefusedAt source tokens number (length tokens - left) (slice_index_or tokens (length tokens - left) d).start
  at_token z d front number e n = token_of h.0 h.1 h.2 z d number (rw e at n)
