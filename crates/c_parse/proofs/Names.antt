-- A source with a new name behind it: its tokens, and what follows from their reading.
use Rattle.std.proofs.Common.{◌≡◌, refl, ℕ, ◌+◌, ◌-◌, ◌≤◌, nat_eq, List, [], ◌∷◌, ◌++◌, length, replicate, drop, take, All, ap, ap₂, sym, ◌∙◌, subst, append_assoc, append-nil, get_or, Ok, Err, length-drop, length-append, arith}
use Rattle.std.proofs.lemmas.List.{drop-append-le, take-append-le, length-replicate, map-append}
use Rattle.std.proofs.lemmas.List.Elements.{All-append, All-cons, All-nil, All-tail}
use Rattle.std.proofs.Math.Seq.{drop-append_seam, take-length}
use Rattle.grammar.specs.Parser.{Bad, parse_all}
use Rattle.grammar.specs.Reading.{IsViable}
use Rattle.grammar.proofs.Theorem.{sound, fault}
use Rattle.grammar.proofs.Closed.{is_read_up, read_viable}
use Rattle.grammar.proofs.Prefix.{viable_prefix}
use Rattle.c_text.specs.declared.Token.{Token}
use Rattle.c_text.specs.Spelling.{IsWithin, text_of}
use Rattle.c_tree.specs.declared.statements.Tree.{Tree}
use Rattle.c_grammar.specs.Lexemes.{Lexeme, lexeme_of, lexemes_of}
use Rattle.c_grammar.specs.Rules.{Unit}
use Rattle.c_grammar.specs.Grammar.{c_grammar}
use Rattle.c_grammar.specs.Lookahead.{c_lookahead}
use Rattle.c_grammar.specs.Refusals.{deepest, new_name}
use Rattle.c_grammar.proofs.Fit.{c_grammar_fits}
use Rattle.c_parse.specs.Parsed.{IsAnswer, SaysIfNameGoesOn, new_token}
use Rattle.c_parse.proofs.Files.{answered_tree, answered_refusal}
use Rattle.c_parse.specs.declared.file.Fault.TheVariants.{Refused}
use Rattle.std.specs.Prelude.{Bool}

same_text : (source more : List ℕ) (t : Token) → IsWithin source t → text_of (source ++ more) t ≡ text_of source t
same_text source more t h =
    let before : t.start ≤ length source = omega arith in
    let room : t.end - t.start ≤ length (drop t.start source) = rw (length-drop t.start source) (omega arith) in
    rw (drop-append-le t.start source more before) (take-append-le (t.end - t.start) (drop t.start source) more room)

same_lexeme : (source more : List ℕ) (t : Token) → IsWithin source t → lexeme_of (source ++ more) t ≡ lexeme_of source t
same_lexeme source more t h = rw (same_text source more t h) refl

same_lexemes : (source more : List ℕ) (ts : List Token) → All (IsWithin source) ts → lexemes_of (source ++ more) ts ≡ lexemes_of source ts
same_lexemes source more [] h = refl
same_lexemes source more (t ∷ ts) h =
    ap₂ (λ one others. one ∷ others) (same_lexeme source more t (h 0 t (omega arith))) (same_lexemes source more ts (All-tail (IsWithin source) t ts h))

whole_replicate : (n b : ℕ) → take n (replicate n b) ≡ replicate n b
whole_replicate n b = ap (λ m. take m (replicate n b)) (sym (length-replicate n b)) ∙ take-length (replicate n b)

last_text : (source : List ℕ) → text_of (source ++ replicate (length source + 26) 97) (new_token (length source)) ≡ replicate (length source + 26) 97
last_text source =
    let cut : drop (length source) (source ++ replicate (length source + 26) 97) ≡ replicate (length source + 26) 97 =
    drop-append_seam source (replicate (length source + 26) 97) in
    let long : (length source + (length source + 26)) - length source ≡ length source + 26 = omega arith in
    rw (cut, long) (whole_replicate (length source + 26) 97)

named_last : (source : List ℕ) → lexeme_of (source ++ replicate (length source + 26) 97) (new_token (length source)) ≡ new_name source
named_last source = rw (last_text source) refl

pub new_lexemes : (source : List ℕ) (ts : List Token) → All (IsWithin source) ts
    → lexemes_of (source ++ replicate (length source + 26) 97) (ts ++ (new_token (length source) ∷ [])) ≡ lexemes_of source ts ++ (new_name source ∷ [])
new_lexemes source ts h =
    map-append (λ token. lexeme_of (source ++ replicate (length source + 26) 97) token) ts (new_token (length source) ∷ [])
    ∙ ap₂ (λ front back. front ++ (back ∷ [])) (same_lexemes source (replicate (length source + 26) 97) ts h) (named_last source)

one_within : (source more : List ℕ) (t : Token) → IsWithin source t → IsWithin (source ++ more) t
one_within source more t h = rw (length-append source more) (h.0, omega arith)

all_longer : (source more : List ℕ) (ts : List Token) → All (IsWithin source) ts → All (IsWithin (source ++ more)) ts
all_longer source more ts h = λ k d l. one_within source more (get_or ts k d) (h k d l)

module _ (source longer : List ℕ) (before tokens : List Token) (e : longer ≡ source ++ replicate (length source + 26) 97)
    (f : tokens ≡ before ++ (new_token (length source) ∷ [])) (within : All (IsWithin source) before) where
  pub all_within : All (IsWithin longer) tokens
  all_within =
      let size : length (source ++ replicate (length source + 26) 97) ≡ length source + (length source + 26) =
      length-append source (replicate (length source + 26) 97) ∙ ap (λ n. length source + n) (length-replicate (length source + 26) 97) in
      rw (e, f) (All-append (IsWithin (source ++ replicate (length source + 26) 97)) before (new_token (length source) ∷ [])
      (all_longer source (replicate (length source + 26) 97) before within)
      (All-cons (IsWithin (source ++ replicate (length source + 26) 97)) (new_token (length source)) [] (rw size (omega arith, omega arith))
      (All-nil (IsWithin (source ++ replicate (length source + 26) 97)))))

  same : lexemes_of longer tokens ≡ lexemes_of source before ++ (new_name source ∷ [])
  same = rw (e, f) (new_lexemes source before within)

  pub goes_on : (tree : Tree) → IsAnswer (parse_all c_grammar c_lookahead deepest Unit (lexemes_of longer tokens)) (Ok tree) → SaysIfNameGoesOn source before Bool.true
  goes_on tree h =
      let (depth, g) = answered_tree (parse_all c_grammar c_lookahead deepest Unit (lexemes_of longer tokens)) tree h in
      let s = sound c_grammar c_lookahead c_grammar_fits deepest Unit (lexemes_of longer tokens) tree depth [] g in
      subst (λ us. IsViable c_grammar deepest Unit us) same
      (read_viable c_grammar deepest Unit (lexemes_of longer tokens) tree
      (is_read_up c_grammar depth deepest Unit (lexemes_of longer tokens) tree s.2 s.1))

  stops_at : (deep : Bool) (rest : List Lexeme) → parse_all c_grammar c_lookahead deepest Unit (lexemes_of longer tokens) ≡ Bad deep rest
      → SaysIfNameGoesOn source before (nat_eq (length rest) 0)
  stops_at deep [] h =
      let (c, q, refused, viable) = fault c_grammar c_lookahead c_grammar_fits deepest Unit (lexemes_of longer tokens) deep [] h in
      subst (λ us. IsViable c_grammar deepest Unit us) (sym (append-nil c) ∙ sym q ∙ same) (viable c [] (sym (append-nil c)))
  stops_at deep (t ∷ rest) h =
      let more : nat_eq (length (t ∷ rest)) 0 ≡ Bool.false = grind arith in
      rw more (λ goes.
      let (c, q, refused, viable) = fault c_grammar c_lookahead c_grammar_fits deepest Unit (lexemes_of longer tokens) deep (t ∷ rest) h in
      refused.0 (viable_prefix c_grammar deepest Unit (c ++ (t ∷ [])) rest
      (subst (λ us. IsViable c_grammar deepest Unit us) (sym same ∙ q ∙ sym (append_assoc c (t ∷ []) rest)) goes)))

  pub stops : (deep : Bool) (left : ℕ) → IsAnswer (parse_all c_grammar c_lookahead deepest Unit (lexemes_of longer tokens)) (Err (Refused deep left))
      → SaysIfNameGoesOn source before (nat_eq left 0)
  stops deep left h =
      let (rest, g, n) = answered_refusal (parse_all c_grammar c_lookahead deepest Unit (lexemes_of longer tokens)) deep left h in
      rw n (stops_at deep rest g)
