-- Primary expressions, and casts: each rule as an equation.
use Rattle.std.proofs.Common.{◌≡◌, refl, ℕ, ◌-◌, ◌<◌, Bool, true, false, cond, not, ◌&&◌, ◌||◌, zero, List, [], ◌∷◌, ◌++◌, ap, sym, ◌∙◌}
use Rattle.grammar.specs.Parts.{Either}
use Rattle.grammar.specs.Parser.{Outcome, Got, Bad, begins, one_more, after, deepen}
use Rattle.c_tree.specs.declared.words.Span.{Span}
use Rattle.c_tree.specs.declared.expressions.Expr.{Expr}
use Rattle.c_tree.specs.declared.expressions.Expr.TheVariants as e
use Rattle.c_grammar.specs.declared.terminal.Terminal.TheVariants as k
use Rattle.c_grammar.specs.Lexemes.{Lexeme, is, span, place}
use Rattle.c_grammar.specs.declared.state.Front.{Front}
use Rattle.c_grammar.specs.declared.state.Front.TheVariants.{Cast as CastFront, Unary as UnaryFront, Bare as BareFront, Opened as OpenedFront}
use Rattle.c_grammar.specs.declared.state.SpecifierContext.TheVariants.{«Type» as TypeContext}
use Rattle.c_grammar.specs.Rules.{Scope, Primary, Texts}
use Rattle.c_grammar.specs.Specifiers.{no_specs}
use Rattle.c_grammar.specs.Expressions.{Reading, word, is_plain_name, primary, bare_primary, texts, inside, cast_rest}
use Rattle.c_grammar.specs.Lookahead.{c_lookahead, starts_primary, starts_specs}
use Rattle.c_grammar.proofs.Every.{all}
use Rattle.parse_input.specs.Input.{sees, head, behind}
use Rattle.parse_input.specs.Reads.{named, reads, behind_items}
use Rattle.parse_input.proofs.Choices.{sees_first}
use Rattle.parse_operands.specs.Parts.{bare_reads, opened_reads, primary_reads}
use Rattle.parse_input.proofs.Steps.{plain_rule, node_rule, full_rule, behind_none, behind_both, item_first, items_end}

pub no_primary : (room : ℕ) (f : Front) (s : Scope) (ts : List Lexeme) → room ≡ 0
    → named room (Primary f s) ts ≡ Bad (sees (starts_primary f s) ts) ts
no_primary room f s ts e = full_rule room (Primary f s) ts (primary f s) refl e

-- adjacent texts, which need no room
pub texts_begin : (ts : List Lexeme) → named 0 Texts ts ≡ behind_items [] (named 0 Texts ts)
texts_begin ts = behind_none (named 0 Texts ts)

no_text : (room : ℕ) (ts : List Lexeme) → sees (is k.Text) ts ≡ false → named room Texts ts ≡ Got [] 0 ts
no_text room ts e = plain_rule room Texts ts texts refl ∙ rw e

one_text : (room : ℕ) (ts : List Lexeme) → sees (is k.Text) ts ≡ true
    → named room Texts ts ≡ behind_items (span (head ts) ∷ []) (named room Texts (behind ts))
one_text room ts e = plain_rule room Texts ts texts refl ∙ rw e (item_first (span (head ts)) (named room Texts (behind ts)))

module _ (start : List Lexeme) (xs : List Span) (ts : List Lexeme) (h : named 0 Texts start ≡ behind_items xs (named 0 Texts ts)) where
  pub texts_more : sees (is k.Text) ts ≡ true → named 0 Texts start ≡ behind_items (xs ++ span (head ts) ∷ []) (named 0 Texts (behind ts))
  texts_more e =
      h ∙ ap (λ o. behind_items xs o) (one_text 0 ts e)
      ∙ behind_both xs (span (head ts) ∷ []) (named 0 Texts (behind ts))

  pub texts_end : sees (is k.Text) ts ≡ false → named 0 Texts start ≡ Got xs 0 ts
  texts_end e = h ∙ ap (λ o. behind_items xs o) (no_text 0 ts e) ∙ items_end xs 0 ts

same_texts : (room : ℕ) (ts : List Lexeme) → named room Texts ts ≡ named 0 Texts ts
unfolding sees head behind
same_texts room [] = no_text room [] refl ∙ sym (no_text 0 [] refl)
same_texts room (t ∷ ts) = go (is k.Text t) refl (same_texts room ts)
  where
    go : (b : Bool) → is k.Text t ≡ b → named room Texts ts ≡ named 0 Texts ts → named room Texts (t ∷ ts) ≡ named 0 Texts (t ∷ ts)
    go true e h = one_text room (t ∷ ts) e ∙ ap (λ o. behind_items (span t ∷ []) o) h ∙ sym (one_text 0 (t ∷ ts) e)
    go false e h = no_text room (t ∷ ts) e ∙ sym (no_text 0 (t ∷ ts) e)

same_bare : (room : ℕ) (s : Scope) (ts : List Lexeme) → reads (named room) (bare_primary s) ts ≡ bare_reads s ts
unfolding bare_reads
same_bare room s ts = rw (same_texts room (behind ts))

begins_cast : (s : Scope) (p : ℕ) (ts : List Lexeme) → sees (begins c_lookahead (cast_rest s p)) ts ≡ sees (starts_specs TypeContext s no_specs) ts
begins_cast s p ts = sees_first (starts_specs TypeContext s no_specs) ts

opened_rule : (room : ℕ) (s : Scope) (p : ℕ) (ts : List Lexeme)
    → reads (named room) (Either (cast_rest s p) (inside s p)) ts ≡ opened_reads room s p ts
opened_rule room s p ts = ap (λ b. cond b (reads (named room) (cast_rest s p) ts) (reads (named room) (inside s p) ts)) (begins_cast s p ts)

-- behind a text, the other texts
pub text_read : (ts us : List Lexeme) (xs : List Span) → sees (is k.Text) ts ≡ true → named 0 Texts ts ≡ Got xs 0 us
    → one_more (after (λ more d left. deepen d (Got (e.Text (span (head ts) ∷ more)) zero left)) (named 0 Texts (behind ts))) ≡ Got (e.Text xs) 1 us
text_read ts us xs b h = go (span (head ts)) (named 0 Texts (behind ts)) (sym (one_text 0 ts b) ∙ h)
  where
    go : (x : Span) (o : Outcome Lexeme (List Span)) → behind_items (x ∷ []) o ≡ Got xs 0 us
        → one_more (after (λ more d left. deepen d (Got (e.Text (x ∷ more)) zero left)) o) ≡ Got (e.Text xs) 1 us
    go x (Got more d left) h =
        let all : x ∷ more ≡ xs = cc in let deep : d ≡ 0 = cc in let rest : left ≡ us = cc in rw (all, deep, rest)
    go x (Bad deep left) h = let clash : ⊥ = cc in absurd clash

-- A parenthesis begins no primary expression without one, so it may be asked for first.
no_bare : (p n c t : Bool) (one two three four bad : Outcome Lexeme Expr) → (p || (n || (c || t))) ≡ false
    → cond p (cond p one bad) (cond n (cond n two bad) (cond c (cond c three bad) (cond t four bad))) ≡ bad
no_bare true n c t one two three four bad h = cc
no_bare false true c t one two three four bad h = cc
no_bare false false true t one two three four bad h = cc
no_bare false false false true one two three four bad h = cc
no_bare false false false false one two three four bad h = refl

choose : (o b : Bool) (x y bad : Outcome Lexeme Expr) → not (o && b) ≡ true → (b ≡ false → y ≡ bad) → cond b y (cond o x bad) ≡ cond o x y
choose true true x y bad h k = cc
choose true false x y bad h k = refl
choose false true x y bad h k = refl
choose false false x y bad h k = sym (k refl)

bare_or_opened : (room : ℕ) (s : Scope) (rest : Lexeme → Reading Expr) (ts : List Lexeme)
    → reads (named room) (Either (bare_primary s) (word k.OpenParen rest)) ts
    ≡ cond (sees (is k.OpenParen) ts) (reads (named room) (rest (head ts)) (behind ts)) (bare_reads s ts)
unfolding sees head behind
bare_or_opened room s rest [] = same_bare room s []
bare_or_opened room s rest (t ∷ ts) =
    choose (is k.OpenParen t) (begins c_lookahead (bare_primary s) t) (reads (named room) (rest t) ts) (reads (named room) (bare_primary s) (t ∷ ts)) (Bad false (t ∷ ts))
    (all (λ u. not (is k.OpenParen u && begins c_lookahead (bare_primary s) u)) (λ text token. refl) t)
    (λ h. no_bare (is_plain_name s t) (is k.Number t) (is k.Character t) (is k.Text t) _ _ _ _ (Bad false (t ∷ ts)) h)
    ∙ ap (λ o. cond (is k.OpenParen t) (reads (named room) (rest t) ts) o) (same_bare room s (t ∷ ts))

parts_read : (room : ℕ) (f : Front) (s : Scope) (ts : List Lexeme) → reads (named room) (primary f s) ts ≡ primary_reads room f s ts
parts_read room CastFront s ts =
    bare_or_opened room s (λ t. Either (cast_rest s (place t)) (inside s (place t))) ts
    ∙ ap (λ o. cond (sees (is k.OpenParen) ts) o (bare_reads s ts)) (opened_rule room s (place (head ts)) (behind ts))
parts_read room UnaryFront s ts = bare_or_opened room s (λ t. inside s (place t)) ts
parts_read room BareFront s ts = same_bare room s ts
parts_read room (OpenedFront p) s ts = refl

pub primary_rule : (room : ℕ) (f : Front) (s : Scope) (ts : List Lexeme) → 0 < room
    → named room (Primary f s) ts ≡ one_more (primary_reads (room - 1) f s ts)
primary_rule room f s ts l = node_rule room (Primary f s) ts (primary f s) refl l ∙ ap (λ o. one_more o) (parts_read (room - 1) f s ts)
