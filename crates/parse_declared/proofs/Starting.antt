-- What may come next, by its parts.
use Rattle.std.proofs.Common.{◌≡◌, refl, ℕ, Bool, true, false, ◌&&◌, ◌||◌, List, [], ◌∷◌, Option, Some, None, ap, ◌∙◌}
use Rattle.std.specs.Prelude.{is_some}
use Rattle.c_grammar.specs.declared.terminal.Terminal.TheVariants as k
use Rattle.c_grammar.specs.Lexemes.{Lexeme, is}
use Rattle.c_grammar.specs.declared.state.DeclaratorKind.{DeclaratorKind}
use Rattle.c_grammar.specs.declared.state.Bracket.{Bracket}
use Rattle.c_grammar.specs.declared.state.Reach.{Reach}
use Rattle.c_grammar.specs.Rules.{Scope}
use Rattle.c_grammar.specs.Declarators.{takes_array, takes_params}
use Rattle.c_grammar.specs.Lookahead.{starts_expression, starts_size}
use Rattle.parse_input.specs.Input.{sees}
use Rattle.parse_declared.specs.Starts.{starts_step}

sees_either : (f g : Lexeme → Bool) (ts : List Lexeme) → sees (λ t. f t || g t) ts ≡ (sees f ts || sees g ts)
unfolding sees
sees_either f g [] = refl
sees_either f g (t ∷ ts) = refl

pub size_closes : (s : Scope) (ts : List Lexeme) → sees (is k.CloseBracket) ts ≡ true → sees (starts_size s) ts ≡ true
size_closes s ts e = sees_either (is k.CloseBracket) (starts_expression s) ts ∙ rw e

pub size_starts : (s : Scope) (ts : List Lexeme) → sees (is k.CloseBracket) ts ≡ false → sees (starts_size s) ts ≡ sees (starts_expression s) ts
size_starts s ts e = sees_either (is k.CloseBracket) (starts_expression s) ts ∙ rw e

pub sees_and : (f : Lexeme → Bool) (b : Bool) (ts : List Lexeme) → sees (λ t. f t && b) ts ≡ (sees f ts && b)
unfolding sees
sees_and f b [] = refl
sees_and f b (t ∷ ts) = refl

module _ (s : Scope) (kind : DeclaratorKind) (b : Bracket) (m : Option ℕ) (reach : Reach) (ts : List Lexeme) where
  pub step_opened : is_some m ≡ true → sees (starts_step s kind b m reach) ts ≡ sees (starts_size s) ts
  step_opened e = go m e
    where
      go : (o : Option ℕ) → is_some o ≡ true → sees (starts_step s kind b o reach) ts ≡ sees (starts_size s) ts
      go None f = cc
      go (Some p) f = refl

  either : is_some m ≡ false
      → sees (starts_step s kind b m reach) ts ≡ ((sees (is k.OpenBracket) ts && takes_array reach b) || (sees (is k.OpenParen) ts && takes_params s kind reach))
  either e = go m e
    where
      go : (o : Option ℕ) → is_some o ≡ false
          → sees (starts_step s kind b o reach) ts ≡ ((sees (is k.OpenBracket) ts && takes_array reach b) || (sees (is k.OpenParen) ts && takes_params s kind reach))
      go (Some p) f = cc
      go None f =
          sees_either (λ t. is k.OpenBracket t && takes_array reach b) (λ t. is k.OpenParen t && takes_params s kind reach) ts
          ∙ ap (λ v. v || sees (λ t. is k.OpenParen t && takes_params s kind reach) ts) (sees_and (is k.OpenBracket) (takes_array reach b) ts)
          ∙ ap (λ v. (sees (is k.OpenBracket) ts && takes_array reach b) || v) (sees_and (is k.OpenParen) (takes_params s kind reach) ts)

  pub step_brackets : is_some m ≡ false → (sees (is k.OpenBracket) ts && takes_array reach b) ≡ true → sees (starts_step s kind b m reach) ts ≡ true
  step_brackets e f = either e ∙ rw f

  pub step_other : is_some m ≡ false → (sees (is k.OpenBracket) ts && takes_array reach b) ≡ false
      → sees (starts_step s kind b m reach) ts ≡ (sees (is k.OpenParen) ts && takes_params s kind reach)
  step_other e f = either e ∙ rw f
