-- A file is read as one tree, or refused at one token with one number, and never both.
use Rattle.std.proofs.Common.{◌≡◌, ℕ, Bool, true, false, ◌⊎◌, inl, inr, List, [], ◌∷◌, ◌++◌, length, Ok, Err, ap, sym, ◌∙◌, arith}
use Rattle.std.proofs.lemmas.List.{append_cancel_right}
use Rattle.grammar.specs.Parser.{parse_all}
use Rattle.grammar.proofs.Theorem.{sound, complete, only_fault, one_reading, same_fault}
use Rattle.c_text.specs.declared.Token.{Token}
use Rattle.c_tree.specs.declared.statements.Tree.{Tree}
use Rattle.c_grammar.specs.Lexemes.{Lexeme, lexemes_of}
use Rattle.c_grammar.specs.Rules.{Unit}
use Rattle.c_grammar.specs.Grammar.{c_grammar}
use Rattle.c_grammar.specs.Lookahead.{c_lookahead}
use Rattle.c_grammar.specs.Refusals.{deepest, NumberAt}
use Rattle.c_grammar.proofs.Fit.{c_grammar_fits}
use Rattle.c_grammar.proofs.DepthLaw.{depth_of_tree}
use Rattle.c_parse.specs.Parsed.{IsParsed, IsRefusedAt, IfBad, IsRefusedFrom, IsAnswer, place_of}
use Rattle.c_parse.specs.declared.ParseRefusal.{ParseRefusal}
use Rattle.c_parse.specs.declared.ParseRefusal.TheVariants.{Bad as Unread, NoMemory}
use Rattle.c_parse.specs.declared.file.Fault.TheVariants.{Refused}
use Rattle.c_parse.proofs.Files.{answered_tree, answered_refusal}

same_by_depth : (deep : Bool) (n m : ℕ) → ((deep ≡ true) × (n ≡ 2)) ⊎ ((deep ≡ false) × (n ≡ 1)) → ((deep ≡ true) × (m ≡ 2)) ⊎ ((deep ≡ false) × (m ≡ 1))
    → m ≡ n
same_by_depth deep n m (inl (a, b)) (inl (c, d)) = d ∙ sym b
same_by_depth deep n m (inr (a, b)) (inr (c, d)) = d ∙ sym b
same_by_depth deep n m (inl (a, b)) (inr (c, d)) = let clash : ⊥ = cc in absurd clash
same_by_depth deep n m (inr (a, b)) (inl (c, d)) = let clash : ⊥ = cc in absurd clash

same_number : (source : List ℕ) (before : List Lexeme) (deep : Bool) (rest : List Lexeme) (n m : ℕ) → NumberAt source before deep rest n
    → NumberAt source before deep rest m → m ≡ n
same_number source before deep [] n m h k = same_by_depth deep n m h k
same_number source before deep (t ∷ rest) n m (inl (a, b)) (inl (c, d)) = d ∙ sym b
same_number source before deep (t ∷ rest) n m (inl (a, b)) (inr (inl (c, d, e, f))) = let clash : ⊥ = cc in absurd clash
same_number source before deep (t ∷ rest) n m (inl (a, b)) (inr (inr ((c, d), e))) = let clash : ⊥ = cc in absurd clash
same_number source before deep (t ∷ rest) n m (inr (inl (a, b, e, f))) (inl (c, d)) = let clash : ⊥ = cc in absurd clash
same_number source before deep (t ∷ rest) n m (inr (inr ((a, b), e))) (inl (c, d)) = let clash : ⊥ = cc in absurd clash
same_number source before deep (t ∷ rest) n m (inr (inl (a, b, c, d))) (inr (inl (e, f, g, h))) = h ∙ sym d
same_number source before deep (t ∷ rest) n m (inr (inl (a, b, c, d))) (inr (inr ((e, f), g))) = absurd (f b c)
same_number source before deep (t ∷ rest) n m (inr (inr ((a, b), c))) (inr (inl (d, e, f, g))) = absurd (b e f)
same_number source before deep (t ∷ rest) n m (inr (inr ((a, b), c))) (inr (inr ((d, e), f))) = same_by_depth deep n m c f

-- what follows for each refusal
pub if_bad : {P Q : ℕ → ℕ → ℕ → Type 0} → ((number token place : ℕ) → P number token place → Q number token place) → (r : ParseRefusal)
    → IfBad P r → IfBad Q r
if_bad f (Unread number token place) h = f number token place h
if_bad f NoMemory h = tt

module _ (source : List ℕ) (tokens : List Token) where
  pub parsed : (tree : Tree) → IsAnswer (parse_all c_grammar c_lookahead deepest Unit (lexemes_of source tokens)) (Ok tree) → IsParsed source tokens tree
  parsed tree h =
      let (depth, e) = answered_tree (parse_all c_grammar c_lookahead deepest Unit (lexemes_of source tokens)) tree h in
      let s = sound c_grammar c_lookahead c_grammar_fits deepest Unit (lexemes_of source tokens) tree depth [] e in
      let d = (depth_of_tree depth (lexemes_of source tokens) tree).0 s.1 in (d.0, omega (arith, d.1, s.2))

  pub refused_from : (deep : Bool) (left : ℕ) → IsAnswer (parse_all c_grammar c_lookahead deepest Unit (lexemes_of source tokens)) (Err (Refused deep left))
      → IsRefusedFrom source tokens deep left
  refused_from deep left h = answered_refusal (parse_all c_grammar c_lookahead deepest Unit (lexemes_of source tokens)) deep left h

  pub one_tree : (tree other : Tree) → IsParsed source tokens tree → IsParsed source tokens other → other ≡ tree
  one_tree tree other ((d, w), l) ((e, v), m) = one_reading c_grammar c_lookahead c_grammar_fits e d Unit (lexemes_of source tokens) other tree v w

  pub not_both : (tree : Tree) (number token place : ℕ) → IsParsed source tokens tree → IsRefusedAt source tokens number token place → ⊥
  not_both tree number token place (read, l) r =
      let w = (depth_of_tree deepest (lexemes_of source tokens) tree).1 (read, l) in
      let (deep, before, q, f, n) = r.refused in
      let bad = only_fault c_grammar c_lookahead c_grammar_fits deepest Unit (lexemes_of source tokens) deep r.rest f in
      let (e, m, got) = complete c_grammar c_lookahead c_grammar_fits deepest deepest Unit (lexemes_of source tokens) tree w (omega arith) in
      let clash : ⊥ = cc in clash

  pub one_refusal : (number token place other index spot : ℕ) → IsRefusedAt source tokens number token place → IsRefusedAt source tokens other index spot
      → (other ≡ number) × (index ≡ token) × (spot ≡ place)
  one_refusal number token place other index spot r s = (
    same_number source r.refused.1 r.refused.0 r.rest number other r.refused.4 again,
    (let size : length s.rest ≡ length r.rest = ap (λ us. length us) (sym same.1) in let one = r.counted in let two = s.counted in omega arith),
    s.placed ∙ ap (λ us. place_of source us) (sym same.1) ∙ sym r.placed,
  )
    where
      same : (r.refused.0 ≡ s.refused.0) × (r.rest ≡ s.rest)
      same = same_fault c_grammar deepest Unit (lexemes_of source tokens) r.refused.0 s.refused.0 r.rest s.rest r.refused.3 s.refused.3

      front : s.refused.1 ≡ r.refused.1
      front = append_cancel_right s.refused.1 r.refused.1 r.rest (ap (λ us. s.refused.1 ++ us) same.1 ∙ sym s.refused.2 ∙ r.refused.2)

      again : NumberAt source r.refused.1 r.refused.0 r.rest other
      again = rw (same.0, same.1, ← front) s.refused.4
