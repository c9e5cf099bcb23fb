-- Initializers: each rule as an equation.
use Rattle.std.proofs.Common.{◌≡◌, refl, ℕ, ◌-◌, ◌<◌, max, true, false, cond, List, [], ◌∷◌, ◌++◌, ap, ◌∙◌, Err}
use Rattle.grammar.specs.Parts.{Return, Call}
use Rattle.grammar.specs.Parser.{Got, Bad, one_more}
use Rattle.c_tree.specs.declared.declarations.Init.{Init}
use Rattle.c_tree.specs.declared.declarations.Init.TheVariants as init
use Rattle.c_grammar.specs.Lexemes.{Lexeme, is}
use Rattle.c_grammar.specs.declared.terminal.Terminal.TheVariants as k
use Rattle.c_grammar.specs.Rules.{Scope, Initializer, Braces, Initializers, Assignment}
use Rattle.c_grammar.specs.Statements.{initializer, braces, initializers}
use Rattle.c_grammar.specs.Expressions.{Reading}
use Rattle.parse_input.specs.Input.{sees, behind}
use Rattle.parse_input.specs.Reads.{named, reads, Says}
use Rattle.parse_input.specs.declared.read.Refusal.{Refusal}
use Rattle.parse_input.specs.declared.read.Refusal.TheVariants.{Refused, NoMemory}
use Rattle.parse_input.proofs.Steps.{plain_rule, node_rule, full_rule, max_zero}
use Rattle.parse_input.proofs.Choices.{sees_first, either}
use Rattle.parse_declarations.proofs.Gathered.{gathered, gathered_first, gathered_both, mapped, mapped_same, one_call}

pub braces_rule : (room : ℕ) (s : Scope) (ts : List Lexeme) → 0 < room
    → named room (Braces s) ts ≡ one_more (reads (named (room - 1)) (braces s) ts)
braces_rule room s ts l = node_rule room (Braces s) ts (braces s) refl l

pub no_braces : (room : ℕ) (s : Scope) (ts : List Lexeme) → room ≡ 0 → named room (Braces s) ts ≡ Bad (sees (is k.OpenBrace) ts) ts
no_braces room s ts e = full_rule room (Braces s) ts (braces s) refl e

abbrev initializer_braces : Scope → Reading Init
initializer_braces s = Call (Braces s) Return

pub initializer_rule : (room : ℕ) (s : Scope) (ts : List Lexeme)
    → named room (Initializer s) ts
    ≡ cond (sees (is k.OpenBrace) ts) (named room (Braces s) ts) (mapped (λ a. init.Value a) (named room (Assignment s) ts))
initializer_rule room s ts =
    plain_rule room (Initializer s) ts (initializer s) refl
    ∙ either (sees_first (is k.OpenBrace) ts)
    (one_call (named room) (Braces s) (λ a. a) ts ∙ mapped_same (named room (Braces s) ts))
    (one_call (named room) (Assignment s) (λ a. init.Value a) ts)

-- the initializers behind the first
module _ (room : ℕ) (s : Scope) (start : List Lexeme) (xs : List Init) (depth : ℕ) (ts : List Lexeme)
    (h : named room (Initializers s) start ≡ gathered xs depth (named room (Initializers s) ts)) where
  initializers_rule : named room (Initializers s) start ≡ gathered xs depth (reads (named room) (initializers s) ts)
  initializers_rule = h ∙ ap (λ o. gathered xs depth o) (plain_rule room (Initializers s) ts (initializers s) refl)

  pub initializer_refused : (r : Refusal) (us : List Lexeme) → Says (named room (Initializer s) ts) (Err r) us
      → Says {A = List Init} (named room (Initializers s) start) (Err r) us
  initializer_refused (Refused deep) us e = initializers_rule ∙ rw e refl
  initializer_refused NoMemory us e = tt

  module _ (one : Init) (d : ℕ) (us : List Lexeme) (e : named room (Initializer s) ts ≡ Got one d us) where
    pub initializers_closed : sees (is k.CloseBrace) us ≡ true
        → named room (Initializers s) start ≡ Got (xs ++ one ∷ []) (max depth d) (behind us)
    initializers_closed c = initializers_rule ∙ rw e (rw c (ap (λ n. Got (xs ++ one ∷ []) (max depth n) (behind us)) (max_zero d)))

    pub initializers_faulty : sees (is k.CloseBrace) us ≡ false → sees (is k.Comma) us ≡ false
        → named room (Initializers s) start ≡ Bad false us
    initializers_faulty c f = initializers_rule ∙ rw e (rw c (rw f refl))

    pub initializers_ended : sees (is k.CloseBrace) us ≡ false → sees (is k.Comma) us ≡ true → sees (is k.CloseBrace) (behind us) ≡ true
        → named room (Initializers s) start ≡ Got (xs ++ one ∷ []) (max depth d) (behind (behind us))
    initializers_ended c f g =
        initializers_rule ∙ rw e (rw c (rw f (rw g (ap (λ n. Got (xs ++ one ∷ []) (max depth n) (behind (behind us))) (max_zero d)))))

    pub initializers_more : sees (is k.CloseBrace) us ≡ false → sees (is k.Comma) us ≡ true → sees (is k.CloseBrace) (behind us) ≡ false
        → named room (Initializers s) start ≡ gathered (xs ++ one ∷ []) (max depth d) (named room (Initializers s) (behind us))
    initializers_more c f g =
        initializers_rule
        ∙ rw e (rw c (rw f (rw g (ap (λ o. gathered xs depth o) (gathered_first one d (named room (Initializers s) (behind us)))
        ∙ gathered_both xs (one ∷ []) depth d (named room (Initializers s) (behind us))))))
