-- Attributes: each rule as an equation.
use Rattle.std.proofs.Common.{◌≡◌, refl, ℕ, zero, max, Bool, true, false, cond, List, [], ◌∷◌, ◌++◌, Option, Some, None, ap, ◌∙◌, sym, append_assoc, append-nil, arith}
use Rattle.grammar.specs.Parts.{Return, Call, Either}
use Rattle.grammar.specs.Parser.{Outcome, Got, Bad, after, deepen}
use Rattle.c_tree.specs.declared.words.Attr.{Attr}
use Rattle.c_tree.specs.declared.words.AttrSpelling.{AttrSpelling}
use Rattle.c_tree.specs.declared.words.AttrSpelling.TheVariants.{Gnu}
use Rattle.c_tree.specs.declared.words.AttrWord.{AttrWord}
use Rattle.c_grammar.specs.declared.terminal.Terminal.TheVariants as k
use Rattle.c_grammar.specs.Lexemes.{Lexeme, is, place}
use Rattle.c_grammar.specs.Rules.{Scope, AttributesRead, Effect, ClangWords, GnuWords, Attributes}
use Rattle.c_grammar.specs.Expressions.{Reading, word}
use Rattle.c_grammar.specs.Specifiers as grammar
use Rattle.parse_input.specs.Input.{head, behind, sees}
use Rattle.parse_input.specs.Reads.{named, reads, behind_items}
use Rattle.parse_input.proofs.Steps.{plain_rule}
use Rattle.parse_specifiers.specs.Parts.{clang_word, gnu_attribute, bracket_attribute, behind_attributes}
use Rattle.parse_input.proofs.Then.{reads_followed, one_more_item}

pub effect : (room : ℕ) (spelling : AttrSpelling) (ts : List Lexeme) → named room (Effect spelling) ts ≡ reads (named room) (grammar.effect_parts spelling) ts
effect room spelling ts = plain_rule room (Effect spelling) ts (grammar.effect_parts spelling) refl

-- what stands behind one word
abbrev pub clang_rest : AttrWord → Reading (List AttrWord)
clang_rest one =
    Either (word k.Comma (λ c. Call ClangWords (λ more. Return (one ∷ more))))
    (word k.CloseBracket (λ c. word k.CloseBracket (λ d. Return (one ∷ []))))

pub clang_words : (room : ℕ) (ts : List Lexeme)
    → named room ClangWords ts ≡ after (λ one d left. deepen d (reads (named room) (clang_rest one) left)) (reads (named room) clang_word ts)
clang_words room ts =
    plain_rule room ClangWords ts grammar.clang_words refl ∙ reads_followed clang_rest (named room) clang_word ts (λ t u v a. tt)

pub clang_goes : (room : ℕ) (start : List Lexeme) (xs : List AttrWord) (ts : List Lexeme) (x : AttrWord) (us : List Lexeme)
    → named room ClangWords start ≡ behind_items xs (named room ClangWords ts)
    → reads (named room) clang_word ts ≡ Got x 0 us → sees (is k.Comma) us ≡ true
    → named room ClangWords start ≡ behind_items (xs ++ x ∷ []) (named room ClangWords (behind us))
clang_goes room start xs ts x us h one comma =
    h ∙ ap (λ o. behind_items xs o) (clang_words room ts ∙ rw (one, comma)) ∙ one_more_item xs x (named room ClangWords (behind us))

abbrev pub gnu_rest : AttrWord → Reading (List AttrWord)
gnu_rest one =
    Either (word k.Comma (λ c. Call GnuWords (λ more. Return (one ∷ more))))
    (word k.CloseParen (λ c. word k.CloseParen (λ d. Return (one ∷ []))))

pub gnu_words : (room : ℕ) (ts : List Lexeme)
    → named room GnuWords ts ≡ after (λ one d left. deepen d (reads (named room) (gnu_rest one) left)) (named room (Effect Gnu) ts)
gnu_words room ts = plain_rule room GnuWords ts grammar.gnu_words refl

pub gnu_goes : (room : ℕ) (start : List Lexeme) (xs : List AttrWord) (ts : List Lexeme) (x : AttrWord) (us : List Lexeme)
    → named room GnuWords start ≡ behind_items xs (named room GnuWords ts)
    → named room (Effect Gnu) ts ≡ Got x 0 us → sees (is k.Comma) us ≡ true
    → named room GnuWords start ≡ behind_items (xs ++ x ∷ []) (named room GnuWords (behind us))
gnu_goes room start xs ts x us h one comma =
    h ∙ ap (λ o. behind_items xs o) (gnu_words room ts ∙ rw (one, comma)) ∙ one_more_item xs x (named room GnuWords (behind us))

-- the attributes, of which the first is read in a function of its own
abbrev pub more_attributes : Scope → Attr → Reading AttributesRead
more_attributes s first = Call (Attributes s) (λ more. Return (grammar.with_attribute first more))

abbrev pub and_more : ℕ → Scope → Outcome Lexeme Attr → Outcome Lexeme AttributesRead
and_more room s o = after (λ first d left. deepen d (reads (named room) (more_attributes s first) left)) o

abbrev pub no_attributes : Option ℕ → AttributesRead
no_attributes bracket = record { attributes = []; bracket = bracket }

pub attributes : (room : ℕ) (s : Scope) (ts : List Lexeme)
    → named room (Attributes s) ts
    ≡ cond (sees (is k.OpenBracket) ts)
    (cond (sees (is k.OpenBracket) (behind ts))
    (and_more room s (reads (named room) (bracket_attribute (place (head ts))) (behind (behind ts))))
    (Got (no_attributes (Some (place (head ts)))) 0 (behind ts)))
    (cond (sees (is k.Attribute) ts) (and_more room s (reads (named room) (gnu_attribute (place (head ts))) (behind ts))) (Got (no_attributes None) 0 ts))
attributes room s ts =
    plain_rule room (Attributes s) ts (grammar.attributes s) refl
    ∙ go (sees (is k.OpenBracket) ts) (sees (is k.OpenBracket) (behind ts)) (sees (is k.Attribute) ts) _ _ _ _ _ _ _ _ _
    (reads_followed (more_attributes s) (named room) (bracket_attribute (place (head ts))) (behind (behind ts)) (λ words. tt))
    (reads_followed (more_attributes s) (named room) (gnu_attribute (place (head ts))) (behind ts) (λ t u words. tt))
  where
    go : (b c g : Bool) (one one' other other' end bracket w v u : Outcome Lexeme AttributesRead) → one ≡ one' → other ≡ other'
        → cond b (cond b (cond c (cond c one w) bracket) v) (cond g (cond g other u) end) ≡ cond b (cond c one' bracket) (cond g other' end)
    go true true g one one' other other' end bracket w v u e f = e
    go true false g one one' other other' end bracket w v u e f = refl
    go false c true one one' other other' end bracket w v u e f = f
    go false c false one one' other other' end bracket w v u e f = refl

pub attributes_begin : (room : ℕ) (s : Scope) (ts : List Lexeme) → named room (Attributes s) ts ≡ behind_attributes [] (named room (Attributes s) ts)
attributes_begin room s ts = go (named room (Attributes s) ts)
  where
    go : (o : Outcome Lexeme AttributesRead) → o ≡ behind_attributes [] o
    go (Got x d left) = refl
    go (Bad deep left) = refl

one_more_attribute : (xs : List Attr) (x : Attr) (o : Outcome Lexeme AttributesRead)
    → behind_attributes xs (deepen zero (after (λ more d left. deepen d (Got (grammar.with_attribute x more) zero left)) o)) ≡ behind_attributes (xs ++ x ∷ []) o
one_more_attribute xs x (Got more d left) =
    ap (λ all. Got (record { attributes = all; bracket = more.bracket }) (max 0 (max d 0)) left) (sym (append_assoc xs (x ∷ []) more.attributes))
    ∙ ap (λ n. Got (record { attributes = (xs ++ x ∷ []) ++ more.attributes; bracket = more.bracket }) n left) (omega arith)
one_more_attribute xs x (Bad deep left) = refl

module _ (room : ℕ) (s : Scope) (start : List Lexeme) (xs : List Attr) (ts : List Lexeme)
    (h : named room (Attributes s) start ≡ behind_attributes xs (named room (Attributes s) ts)) where
  pub bracket_goes : (x : Attr) (us : List Lexeme) → sees (is k.OpenBracket) ts ≡ true → sees (is k.OpenBracket) (behind ts) ≡ true
      → reads (named room) (bracket_attribute (place (head ts))) (behind (behind ts)) ≡ Got x 0 us
      → named room (Attributes s) start ≡ behind_attributes (xs ++ x ∷ []) (named room (Attributes s) us)
  bracket_goes x us one two e =
      h ∙ ap (λ o. behind_attributes xs o) (attributes room s ts ∙ rw (one, two, e)) ∙ one_more_attribute xs x (named room (Attributes s) us)

  pub gnu_attribute_goes : (x : Attr) (us : List Lexeme) → sees (is k.OpenBracket) ts ≡ false → sees (is k.Attribute) ts ≡ true
      → reads (named room) (gnu_attribute (place (head ts))) (behind ts) ≡ Got x 0 us
      → named room (Attributes s) start ≡ behind_attributes (xs ++ x ∷ []) (named room (Attributes s) us)
  gnu_attribute_goes x us one two e =
      h ∙ ap (λ o. behind_attributes xs o) (attributes room s ts ∙ rw (one, two, e)) ∙ one_more_attribute xs x (named room (Attributes s) us)

  pub bracket_ends : sees (is k.OpenBracket) ts ≡ true → sees (is k.OpenBracket) (behind ts) ≡ false
      → named room (Attributes s) start ≡ Got (record { attributes = xs; bracket = Some (place (head ts)) }) 0 (behind ts)
  bracket_ends one two =
      rw (h, attributes room s ts, one, two) (ap (λ all. Got (record { attributes = all; bracket = Some (place (head ts)) }) 0 (behind ts)) (append-nil xs))

  pub attributes_end : sees (is k.OpenBracket) ts ≡ false → sees (is k.Attribute) ts ≡ false
      → named room (Attributes s) start ≡ Got (record { attributes = xs; bracket = None }) 0 ts
  attributes_end one two =
      rw (h, attributes room s ts, one, two) (ap (λ all. Got (record { attributes = all; bracket = None }) 0 ts) (append-nil xs))
