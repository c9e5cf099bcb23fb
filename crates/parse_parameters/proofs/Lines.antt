-- Members: each rule as an equation, and what their loops collect.
use Rattle.std.proofs.Common.{◌≡◌, refl, ℕ, max, true, false, List, [], ◌∷◌, ◌++◌, length, ◌<◌, ◌∙◌}
use Rattle.grammar.specs.Parts.{Return, Call, Either}
use Rattle.grammar.specs.Parser.{Got, after, deepen}
use Rattle.c_tree.specs.declared.expressions.Member.{Member}
use Rattle.c_tree.specs.declared.expressions.Declarator as trees
use Rattle.c_grammar.specs.declared.terminal.Terminal.TheVariants as k
use Rattle.c_grammar.specs.Lexemes.{Lexeme, is}
use Rattle.c_grammar.specs.Trees.{specs_place}
use Rattle.c_grammar.specs.declared.state.SpecifierContext.TheVariants.{Member as MemberContext}
use Rattle.c_grammar.specs.declared.state.DeclaratorKind.TheVariants.{Member as MemberKind}
use Rattle.c_grammar.specs.declared.state.Bracket.TheVariants.{Unknown}
use Rattle.c_grammar.specs.Rules.{Scope, Specs, DeclaratorRead, Declarator, Members, MemberDeclarators}
use Rattle.c_grammar.specs.Expressions.{Reading, word}
use Rattle.c_grammar.specs.Specifiers as grammar
use Rattle.parse_input.specs.Input.{behind, sees}
use Rattle.parse_input.specs.Reads.{named, reads, behind_items}
use Rattle.parse_input.proofs.Steps.{plain_rule}
use Rattle.parse_parameters.specs.Parts.{member_line}
use Rattle.parse_input.proofs.Then.{reads_followed, call_falls, item_goes, item_ends}

-- what stands behind one declarator, and behind one line
abbrev pub declarators_rest : Scope → DeclaratorRead → Reading (List trees.Declarator)
declarators_rest s x =
    Either (word k.Comma (λ c. Call (MemberDeclarators s) (λ more. Return (x.tree ∷ more))))
    (word k.Semicolon (λ c. Return (x.tree ∷ [])))

abbrev pub members_rest : Scope → Member → Reading (List Member)
members_rest s x = Either (word k.CloseBrace (λ c. Return (x ∷ []))) (Call (Members s) (λ more. Return (x ∷ more)))

module _ (room : ℕ) (s : Scope) where
  pub declarators : (ts : List Lexeme)
      → named room (MemberDeclarators s) ts
      ≡ after (λ x d left. deepen d (reads (named room) (declarators_rest s x) left)) (named room (Declarator s MemberKind Unknown) ts)
  declarators ts = plain_rule room (MemberDeclarators s) ts (grammar.member_declarators s) refl

  pub members : (ts : List Lexeme)
      → named room (Members s) ts ≡ after (λ x d left. deepen d (reads (named room) (members_rest s x) left)) (reads (named room) (member_line s) ts)
  members ts = plain_rule room (Members s) ts (grammar.members s) refl ∙ reads_followed (members_rest s) (named room) (member_line s) ts (λ x ds. tt)

  module _ (start ts us : List Lexeme) (depth d : ℕ) where
    module _ (xs : List trees.Declarator) (h : named room (MemberDeclarators s) start ≡ deepen depth (behind_items xs (named room (MemberDeclarators s) ts)))
        (x : DeclaratorRead) (e : named room (Declarator s MemberKind Unknown) ts ≡ Got x d us) where
      pub declarators_go : sees (is k.Comma) us ≡ true
          → named room (MemberDeclarators s) start ≡ deepen (max depth d) (behind_items (xs ++ x.tree ∷ []) (named room (MemberDeclarators s) (behind us)))
      declarators_go comma = rw (h, declarators ts, e, comma) (item_goes xs depth x.tree d (named room (MemberDeclarators s) (behind us)))

      pub declarators_end : sees (is k.Comma) us ≡ false → sees (is k.Semicolon) us ≡ true
          → named room (MemberDeclarators s) start ≡ Got (xs ++ x.tree ∷ []) (max depth d) (behind us)
      declarators_end comma semicolon = rw (h, declarators ts, e, comma, semicolon) (item_ends xs depth x.tree d (behind us))

    module _ (xs : List Member) (h : named room (Members s) start ≡ deepen depth (behind_items xs (named room (Members s) ts)))
        (x : Member) (e : reads (named room) (member_line s) ts ≡ Got x d us) where
      pub members_go : sees (is k.CloseBrace) us ≡ false
          → named room (Members s) start ≡ deepen (max depth d) (behind_items (xs ++ x ∷ []) (named room (Members s) us))
      members_go brace = rw (h, members ts, e, brace) (item_goes xs depth x d (named room (Members s) us))

      pub members_end : sees (is k.CloseBrace) us ≡ true → named room (Members s) start ≡ Got (xs ++ x ∷ []) (max depth d) (behind us)
      members_end brace = rw (h, members ts, e, brace) (item_ends xs depth x d (behind us))

-- a line takes a token, at the least
pub line_falls : (room : ℕ) (s : Scope) (ts us : List Lexeme) (x : Member) (d : ℕ) → reads (named room) (member_line s) ts ≡ Got x d us → length us < length ts
line_falls room s ts us x d e =
    call_falls room (Specs MemberContext s grammar.no_specs)
    (λ y. Call (MemberDeclarators s) (λ ds. Return (record { place = specs_place y.specs; specs = y.specs; declarators = ds }))) ts x d us refl e
