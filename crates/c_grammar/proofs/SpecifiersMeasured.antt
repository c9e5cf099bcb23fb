-- Specifiers and attributes are as deep as the nodes that their rules count.
use Rattle.std.proofs.Common.{◌≡◌, refl, ◌∙◌, ℕ, Bool, true, false, ◌&&◌, List, map, Option, Some, None, arith}
use Rattle.c_tree.specs.Depth.{deepest, expr_depth, spec_depth, optional_depth, enumerator_depth}
use Rattle.c_tree.specs.declared.words.AttrSpelling.{AttrSpelling}
use Rattle.c_tree.specs.declared.expressions.Expr.{Expr}
use Rattle.c_tree.specs.declared.expressions.Spec.{Spec}
use Rattle.c_tree.specs.declared.expressions.Enumerator.{Enumerator}
use Rattle.c_tree.proofs.Equations.{depth-Struct, depth-StructName, depth-Enum, depth-EnumName, depth-Attribute}
use Rattle.c_grammar.specs.Lexemes.{Lexeme, place}
use Rattle.c_grammar.specs.declared.terminal.Terminal.{Terminal}
use Rattle.c_grammar.specs.declared.terminal.Terminal.TheVariants as k
use Rattle.c_grammar.specs.declared.state.SpecifierContext.{SpecifierContext}
use Rattle.c_grammar.specs.Rules.{Scope, SpecsState, SpecsRead, Specs, Members, MemberDeclarators, Enumerators, TypeName, ClangWords, GnuWords, Effect, Attributes}
use Rattle.c_grammar.specs.Specifiers.{after_terminal, after_type, spec_of, more_specs, structure, enumeration, end_specs, bracket_rest, specs_until, is_whole, is_abstract, enumerator_rest}
use Rattle.c_grammar.specs.Expressions.{Reading}
use Rattle.c_grammar.proofs.Measured.{PartsMeasured}
use Rattle.c_grammar.proofs.Measure.{measure, Fine, Counted, all_specs}

-- a specifier of one word is not deep
word_is_flat : (terminal : Terminal) (t : Lexeme) → spec_depth (spec_of terminal t) ≡ 0
unfolding expr_depth
word_is_flat k.Typedef t = refl
word_is_flat _ t = refl

-- specifiers with the depth so far
abbrev pub SpecsCounted : ℕ → Reading SpecsRead → Type 0
SpecsCounted deep parts = PartsMeasured measure Fine (λ d. d) (λ x. all_specs x.specs) deep parts

more_counted : (deep : ℕ) (context : SpecifierContext) (s : Scope) (state : SpecsState) (first : Spec) → spec_depth first ≡ deep
    → SpecsCounted deep (more_specs context s state first)
more_counted deep context s state first e = (tt, λ more. omega arith)

end_counted : (ends : Bool) (bracket : Option ℕ) → SpecsCounted 0 (end_specs ends bracket)
end_counted true bracket = refl
end_counted false bracket = λ t. refl

structure_counted : (context : SpecifierContext) (s : Scope) (state : SpecsState) (p : ℕ) → SpecsCounted 0 (structure context s state p)
structure_counted context s state p = (
  (λ tag. ((λ o. (tt, λ lines. more_counted _ context s state _ (depth-Struct _ _ _ ∙ omega arith))), more_counted 0 context s state _ (depth-StructName _ _))),
  (λ o. (tt, λ lines. more_counted _ context s state _ (depth-Struct _ _ _ ∙ omega arith))),
)

enumeration_counted : (context : SpecifierContext) (s : Scope) (state : SpecsState) (p : ℕ) → SpecsCounted 0 (enumeration context s state p)
enumeration_counted context s state p = (
  (λ tag. ((λ o. (tt, λ lines. more_counted _ context s state _ (depth-Enum _ _ _ ∙ omega arith))), more_counted 0 context s state _ (depth-EnumName _ _))),
  (λ o. (tt, λ lines. more_counted _ context s state _ (depth-Enum _ _ _ ∙ omega arith))),
)

bracket_counted : (ends : Bool) (context : SpecifierContext) (s : Scope) (state : SpecsState) (p : ℕ) → SpecsCounted 0 (bracket_rest ends context s state p)
bracket_counted ends context s state p =
    ((λ o. (tt, λ words. more_counted _ context s state _ (depth-Attribute _ ∙ omega arith))), end_counted ends (Some p))

until_counted : (ends : Bool) (context : SpecifierContext) (s : Scope) (state : SpecsState) → SpecsCounted 0 (specs_until ends context s state)
until_counted ends context s state = (
  (λ t. more_counted 0 context s (after_terminal state t.terminal) (spec_of t.terminal t) (word_is_flat t.terminal t)),
  (
    (λ t. structure_counted context s (after_type state) (place t)),
    (
      (λ t. enumeration_counted context s (after_type state) (place t)),
      (
        (λ t u v. (tt, λ words. more_counted _ context s state _ (depth-Attribute _ ∙ omega arith))),
        ((λ t. bracket_counted (is_abstract context && ends) context s state (place t)), end_counted ends None),
      ),
    ),
  ),
)

pub specs_counted : (context : SpecifierContext) (s : Scope) (state : SpecsState) → Counted (Specs context s state)
specs_counted context s state = until_counted (is_whole context state) context s state

pub members_counted : (s : Scope) → Counted (Members s)
members_counted s = (tt, λ x. (tt, λ ds. ((λ c. omega arith), (tt, λ more. omega arith))))

pub member_declarators_counted : (s : Scope) → Counted (MemberDeclarators s)
member_declarators_counted s = (tt, λ d. ((λ c. (tt, λ more. omega arith)), (λ c. omega arith)))

enumerator_counted : (deep : ℕ) (s : Scope) (name : Lexeme) (value : Option Expr) → optional_depth value ≡ deep
    → PartsMeasured measure Fine (λ d. d) (λ (x : List Enumerator). deepest (map enumerator_depth x)) deep (enumerator_rest s name value)
enumerator_counted deep s name value e = ((λ c. omega arith), (λ c. ((λ d. omega arith), (tt, λ more. omega arith))))

pub enumerators_counted : (s : Scope) → Counted (Enumerators s)
enumerators_counted s =
    λ name. ((λ t. (tt, λ value. enumerator_counted _ s name (Some value) (omega arith))), enumerator_counted 0 s name None refl)

pub type_name_counted : (s : Scope) → Counted (TypeName s)
type_name_counted s = (tt, λ x. (tt, λ d. omega arith))

pub clang_words_counted : Counted ClangWords
clang_words_counted = λ t u v. (tt, λ one. ((λ c. (tt, λ more. refl)), (λ c d. refl)))

pub gnu_words_counted : Counted GnuWords
gnu_words_counted = (tt, λ one. ((λ c. (tt, λ more. refl)), (λ c d. refl)))

pub effect_counted : (spelling : AttrSpelling) → Counted (Effect spelling)
effect_counted spelling = ((λ t. ((λ o v c. refl), refl)), (λ t. refl))

pub attributes_counted : (s : Scope) → Counted (Attributes s)
attributes_counted s =
    ((λ t. ((λ o. (tt, λ words. (tt, λ more. refl))), refl)), ((λ t u v. (tt, λ words. (tt, λ more. refl))), refl))
