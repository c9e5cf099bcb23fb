-- Groups: each way through the rule as an equation.
use Rattle.std.proofs.Common.{◌≡◌, refl, ℕ, ◌-◌, ◌<◌, false, cond, ◌||◌, List, [], None, ap, ◌∙◌, arith}
use Rattle.grammar.specs.Parser.{Outcome, Got, Bad, one_more}
use Rattle.c_grammar.specs.declared.terminal.Terminal.TheVariants as k
use Rattle.c_grammar.specs.Lexemes.{Lexeme, is, place}
use Rattle.c_grammar.specs.declared.state.DeclaratorKind.{DeclaratorKind}
use Rattle.c_grammar.specs.declared.state.DeclaratorKind.TheVariants.{Ordinary as OrdinaryKind, Member as MemberKind, Parameter as ParameterKind, Abstract as AbstractKind}
use Rattle.c_grammar.specs.declared.state.Bracket.TheVariants.{Unknown, Barred, Opened}
use Rattle.c_grammar.specs.declared.state.SpecifierContext.TheVariants.{Barred as BarredContext}
use Rattle.c_grammar.specs.Rules.{Rule, ValueOf, Scope, DeclaratorRead, Group}
use Rattle.c_grammar.specs.Specifiers.{no_specs}
use Rattle.c_grammar.specs.Declarators.{absent, no_params, group, open_group, group_bracket}
use Rattle.c_grammar.specs.Lookahead.{starts_specs}
use Rattle.parse_input.specs.Input.{head, behind, sees}
use Rattle.parse_input.specs.Reads.{named, reads}
use Rattle.parse_input.proofs.Steps.{node_rule, full_rule, reads_within}
use Rattle.parse_declared.specs.Starts.{may_lack, function_parts, declarator_parts, list_parts, attribute_parts, group_parts}
use Rattle.parse_input.proofs.Choices.{sees_first, twice}

module _ (call : (n : Rule) → List Lexeme → Outcome Lexeme (ValueOf n)) (s : Scope) where
  opens : (kind : DeclaratorKind) (ts : List Lexeme)
      → reads call (group s kind) ts ≡ cond (sees (is k.OpenParen) ts) (reads call (group_parts s kind (place (head ts))) (behind ts)) (Bad false ts)
  opens OrdinaryKind ts = refl
  opens MemberKind ts = refl
  opens ParameterKind ts = refl
  opens AbstractKind ts = refl

  open_rule : (kind : DeclaratorKind) (p : ℕ) (ts : List Lexeme)
      → reads call (open_group s kind p) ts
      ≡ cond (sees (is k.OpenBracket) ts) (reads call (group_bracket s kind p (place (head ts))) (behind ts))
      (cond (sees (starts_specs BarredContext s no_specs) ts) (reads call (list_parts BarredContext s [] p) ts)
      (cond (sees (is k.CloseParen) ts) (reads call (function_parts s (absent None) p no_params) ts) (reads call (declarator_parts s kind Barred p) ts)))
  open_rule kind p ts =
      twice (sees (is k.OpenBracket) ts) (reads call (group_bracket s kind p (place (head ts))) (behind ts)) (Bad false ts)
      (cond (sees (λ t. starts_specs BarredContext s no_specs t || false) ts) (reads call (list_parts BarredContext s [] p) ts)
      (cond (sees (is k.CloseParen) ts) (reads call (function_parts s (absent None) p no_params) ts) (reads call (declarator_parts s kind Barred p) ts)))
      ∙ ap (λ b. cond (sees (is k.OpenBracket) ts) (reads call (group_bracket s kind p (place (head ts))) (behind ts))
      (cond b (reads call (list_parts BarredContext s [] p) ts)
      (cond (sees (is k.CloseParen) ts) (reads call (function_parts s (absent None) p no_params) ts) (reads call (declarator_parts s kind Barred p) ts))))
      (sees_first (starts_specs BarredContext s no_specs) ts)

  pub parts_rule : (kind : DeclaratorKind) (p : ℕ) (ts : List Lexeme)
      → reads call (group_parts s kind p) ts
      ≡ cond (may_lack kind Unknown)
      (cond (sees (is k.OpenBracket) ts) (reads call (group_bracket s kind p (place (head ts))) (behind ts))
      (cond (sees (starts_specs BarredContext s no_specs) ts) (reads call (list_parts BarredContext s [] p) ts)
      (cond (sees (is k.CloseParen) ts) (reads call (function_parts s (absent None) p no_params) ts) (reads call (declarator_parts s kind Barred p) ts))))
      (reads call (declarator_parts s kind Unknown p) ts)
  parts_rule OrdinaryKind p ts = refl
  parts_rule MemberKind p ts = refl
  parts_rule ParameterKind p ts = open_rule ParameterKind p ts
  parts_rule AbstractKind p ts = open_rule AbstractKind p ts

  pub bracket_rule : (kind : DeclaratorKind) (p b : ℕ) (ts : List Lexeme)
      → reads call (group_bracket s kind p b) ts
      ≡ cond (sees (is k.OpenBracket) ts) (reads call (attribute_parts s p b) (behind ts)) (reads call (declarator_parts s kind (Opened b) p) ts)
  bracket_rule kind p b ts =
      twice (sees (is k.OpenBracket) ts) (reads call (attribute_parts s p b) (behind ts)) (Bad false ts) (reads call (declarator_parts s kind (Opened b) p) ts)

pub a_group : (room : ℕ) (s : Scope) (kind : DeclaratorKind) (ts : List Lexeme) → 0 < room
    → named room (Group s kind) ts
    ≡ one_more (cond (sees (is k.OpenParen) ts) (reads (named (room - 1)) (group_parts s kind (place (head ts))) (behind ts)) (Bad false ts))
a_group room s kind ts l =
    node_rule room (Group s kind) ts (group s kind) refl l ∙ ap (λ o. one_more o) (opens (λ n us. named (room - 1) n us) s kind ts)

pub no_group : (room : ℕ) (s : Scope) (kind : DeclaratorKind) (ts : List Lexeme) → room ≡ 0 → named room (Group s kind) ts ≡ Bad (sees (is k.OpenParen) ts) ts
no_group room s kind ts e = full_rule room (Group s kind) ts (group s kind) refl e

pub group_within : (room : ℕ) (s : Scope) (kind : DeclaratorKind) (p : ℕ) (ts : List Lexeme) (x : DeclaratorRead) (d : ℕ) (rest : List Lexeme) → 0 < room
    → reads (named (room - 1)) (group_parts s kind p) ts ≡ Got x d rest → d < room
group_within room s kind p ts x d rest l h = let inner = reads_within (room - 1) (group_parts s kind p) ts x d rest h in omega arith
