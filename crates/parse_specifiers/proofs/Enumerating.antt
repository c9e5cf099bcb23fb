-- Enumerators: the rule as an equation, and what its loop collects.
use Rattle.std.proofs.Common.{◌≡◌, ℕ, max, true, false, List, [], ◌∷◌, ◌++◌, ◌∙◌, refl}
use Rattle.grammar.specs.Parts.{Return, Call, Either}
use Rattle.grammar.specs.Parser.{Got, after, deepen}
use Rattle.c_tree.specs.declared.expressions.Enumerator.{Enumerator}
use Rattle.c_grammar.specs.declared.terminal.Terminal.TheVariants as k
use Rattle.c_grammar.specs.Lexemes.{Lexeme, is}
use Rattle.c_grammar.specs.Rules.{Scope, Enumerators}
use Rattle.c_grammar.specs.Expressions.{Reading, word}
use Rattle.c_grammar.specs.Specifiers as grammar
use Rattle.parse_input.specs.Input.{behind, sees}
use Rattle.parse_input.specs.Reads.{named, reads, behind_items}
use Rattle.parse_input.proofs.Steps.{plain_rule}
use Rattle.parse_specifiers.specs.Parts.{enumerator}
use Rattle.parse_input.proofs.Then.{reads_followed, item_goes, item_ends}

-- what stands behind one enumerator
abbrev pub enumerators_rest : Scope → Enumerator → Reading (List Enumerator)
enumerators_rest s x =
    Either (word k.CloseBrace (λ c. Return (x ∷ [])))
    (word k.Comma (λ c. Either (word k.CloseBrace (λ d. Return (x ∷ []))) (Call (Enumerators s) (λ more. Return (x ∷ more)))))

module _ (room : ℕ) (s : Scope) where
  pub enumerators : (ts : List Lexeme)
      → named room (Enumerators s) ts ≡ after (λ x d left. deepen d (reads (named room) (enumerators_rest s x) left)) (reads (named room) (enumerator s) ts)
  enumerators ts =
      plain_rule room (Enumerators s) ts (grammar.enumerators s) refl
      ∙ reads_followed (enumerators_rest s) (named room) (enumerator s) ts (λ t. ((λ us. refl), (λ e value. tt), tt))

  module _ (start ts us : List Lexeme) (depth d : ℕ) (xs : List Enumerator) (h : named room (Enumerators s) start ≡ deepen depth (behind_items xs (named room (Enumerators s) ts)))
      (x : Enumerator) (e : reads (named room) (enumerator s) ts ≡ Got x d us) where
    pub enumerators_go : sees (is k.CloseBrace) us ≡ false → sees (is k.Comma) us ≡ true → sees (is k.CloseBrace) (behind us) ≡ false
        → named room (Enumerators s) start ≡ deepen (max depth d) (behind_items (xs ++ x ∷ []) (named room (Enumerators s) (behind us)))
    enumerators_go brace comma more = rw (h, enumerators ts, e, brace, comma, more) (item_goes xs depth x d (named room (Enumerators s) (behind us)))

    pub enumerators_end : sees (is k.CloseBrace) us ≡ true → named room (Enumerators s) start ≡ Got (xs ++ x ∷ []) (max depth d) (behind us)
    enumerators_end brace = rw (h, enumerators ts, e, brace) (item_ends xs depth x d (behind us))

    pub enumerators_end_comma : sees (is k.CloseBrace) us ≡ false → sees (is k.Comma) us ≡ true → sees (is k.CloseBrace) (behind us) ≡ true
        → named room (Enumerators s) start ≡ Got (xs ++ x ∷ []) (max depth d) (behind (behind us))
    enumerators_end_comma brace comma closed = rw (h, enumerators ts, e, brace, comma, closed) (item_ends xs depth x d (behind (behind us)))
