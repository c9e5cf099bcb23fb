-- Qualifiers of pointers: each rule as an equation.
use Rattle.std.proofs.Common.{◌≡◌, refl, ℕ, true, false, List, [], ◌∷◌, ◌++◌, ap, ◌∙◌}
use Rattle.grammar.specs.Parser.{Got}
use Rattle.c_tree.specs.declared.expressions.PointerQualifier.{PointerQualifier}
use Rattle.c_grammar.specs.Lexemes.{Lexeme}
use Rattle.c_grammar.specs.Rules.{Qualifiers}
use Rattle.c_grammar.specs.Specifiers.{is_qualifier}
use Rattle.c_grammar.specs.Declarators.{qualifier_of, qualifiers}
use Rattle.parse_input.specs.Input.{head, behind, sees}
use Rattle.parse_input.specs.Reads.{named, behind_items}
use Rattle.parse_input.proofs.Steps.{plain_rule, behind_none, behind_both, item_first, items_end}

pub qualifiers_begin : (room : ℕ) (ts : List Lexeme) → named room Qualifiers ts ≡ behind_items [] (named room Qualifiers ts)
qualifiers_begin room ts = behind_none (named room Qualifiers ts)

module _ (room : ℕ) (start : List Lexeme) (xs : List PointerQualifier) (ts : List Lexeme)
    (e : named room Qualifiers start ≡ behind_items xs (named room Qualifiers ts)) where
  pub qualifiers_more : sees is_qualifier ts ≡ true
      → named room Qualifiers start ≡ behind_items (xs ++ qualifier_of (head ts) (head ts).terminal ∷ []) (named room Qualifiers (behind ts))
  qualifiers_more s =
      e
      ∙ ap (λ o. behind_items xs o) (plain_rule room Qualifiers ts qualifiers refl ∙ rw s (item_first (qualifier_of (head ts) (head ts).terminal) (named room Qualifiers (behind ts))))
      ∙ behind_both xs (qualifier_of (head ts) (head ts).terminal ∷ []) (named room Qualifiers (behind ts))

  pub qualifiers_end : sees is_qualifier ts ≡ false → named room Qualifiers start ≡ Got xs 0 ts
  qualifiers_end s =
      let none : named room Qualifiers ts ≡ Got [] 0 ts = plain_rule room Qualifiers ts qualifiers refl ∙ rw s in
      e ∙ ap (λ o. behind_items xs o) none ∙ items_end xs 0 ts
