-- Declarators: each rule as an equation.
use Rattle.std.proofs.Common.{◌≡◌, refl, ℕ, zero, suc, ◌-◌, ◌<◌, ◌≤◌, max, Bool, true, false, cond, not, ◌&&◌, ◌||◌, List, length, Option, Some, None, ap, sym, ◌∙◌, arith}
use Rattle.std.specs.Prelude.{is_some, is_none}
use Rattle.grammar.specs.Parts.{Return, Take, Call, Either}
use Rattle.grammar.specs.Parser.{Outcome, Got, Bad, begins, after, deepen}
use Rattle.c_grammar.specs.declared.terminal.Terminal.TheVariants as k
use Rattle.c_grammar.specs.Lexemes.{Lexeme, is, place}
use Rattle.c_grammar.specs.declared.state.DeclaratorKind.{DeclaratorKind}
use Rattle.c_grammar.specs.declared.state.Bracket.{Bracket}
use Rattle.c_grammar.specs.declared.state.DeclaratorKind.TheVariants.{Ordinary as OrdinaryKind, Member as MemberKind, Parameter as ParameterKind, Abstract as AbstractKind}
use Rattle.c_grammar.specs.declared.state.Bracket.TheVariants.{Unknown, Passed, Barred, Opened}
use Rattle.c_grammar.specs.Rules.{Rule, ValueOf, Scope, DeclaratorRead, Declarator, Direct, Pointer, Group, Conditional}
use Rattle.c_grammar.specs.Expressions.{Reading, word}
use Rattle.c_grammar.specs.Specifiers.{is_ordinary_name}
use Rattle.c_grammar.specs.Declarators.{named as a_name, absent, closing, closed, declarator, is_free_name, array_of, direct_start, direct_step, array_rest, takes_array, takes_params}
use Rattle.c_grammar.specs.Lookahead.{c_lookahead, starts_expression}
use Rattle.parse_input.specs.Input.{head, behind, sees}
use Rattle.parse_input.specs.Reads.{named, past, reads, joined}
use Rattle.parse_input.proofs.Steps.{plain_rule, chain_rule, past_ends, past_full, past_goes, max_zero, sees_less, less, reads_within, reads_shorter}
use Rattle.parse_input.proofs.Choices.{sees_alike, sees_never, sees_first, or_false, passed, either}
use Rattle.parse_declared.proofs.Starting.{sees_and}
use Rattle.parse_declared.specs.Starts.{opened_at, starts_name, may_lack, starts_step, params_parts}

-- a declarator: no `[` behind it is left without its array
closed_reads : (room : ℕ) (o : Outcome Lexeme DeclaratorRead)
    → after (λ x d left. deepen d (reads (named room) (closed x) left)) o ≡ after (λ x d left. cond (is_some x.bracket) (Bad false left) (Got x d left)) o
closed_reads room (Bad deep left) = refl
closed_reads room (Got x d left) = go x.bracket
  where
    go : (m : Option ℕ) → deepen d (reads (named room) (closing m x) left) ≡ cond (is_some m) (Bad false left) (Got x d left)
    go None = ap (λ n. Got x n left) (max_zero d)
    go (Some p) = rw (sees_never left) refl

module _ (room : ℕ) (s : Scope) (kind : DeclaratorKind) where
  on_star : (b : Bracket) (ts : List Lexeme)
      → reads (named room) (Either (Call (Pointer s kind) Return) (Call (Direct s kind b) closed)) ts
      ≡ cond (sees (is k.Star) ts) (named room (Pointer s kind) ts) (after (λ x d left. cond (is_some x.bracket) (Bad false left) (Got x d left)) (named room (Direct s kind b) ts))
  on_star b ts =
      either (sees_first (is k.Star) ts) (passed (named room (Pointer s kind) ts))
      (closed_reads room (named room (Direct s kind b) ts))

  pub declarator_rule : (b : Bracket) (ts : List Lexeme)
      → named room (Declarator s kind b) ts
      ≡ cond (is_none (opened_at b) && sees (is k.Star) ts) (named room (Pointer s kind) ts)
      (after (λ x d left. cond (is_some x.bracket) (Bad false left) (Got x d left)) (named room (Direct s kind b) ts))
  declarator_rule Unknown ts = plain_rule room (Declarator s kind Unknown) ts (declarator s kind Unknown) refl ∙ on_star Unknown ts
  declarator_rule Passed ts = plain_rule room (Declarator s kind Passed) ts (declarator s kind Passed) refl ∙ on_star Passed ts
  declarator_rule Barred ts = plain_rule room (Declarator s kind Barred) ts (declarator s kind Barred) refl ∙ on_star Barred ts
  declarator_rule (Opened p) ts =
      plain_rule room (Declarator s kind (Opened p)) ts (declarator s kind (Opened p)) refl ∙ closed_reads room (named room (Direct s kind (Opened p)) ts)

-- what a direct declarator begins with
module _ (room : ℕ) (s : Scope) where
  pub start_opened : (kind : DeclaratorKind) (b : Bracket) (p : ℕ) (ts : List Lexeme) → opened_at b ≡ Some p
      → reads (named room) (direct_start s kind b) ts ≡ Got (absent (Some p)) 0 ts
  start_opened kind Unknown p ts e = cc
  start_opened kind Passed p ts e = cc
  start_opened kind Barred p ts e = cc
  start_opened kind (Opened q) p ts e = let same : q ≡ p = cc in rw same refl

  named_or : (test : Lexeme → Bool) (ts : List Lexeme) (o r : Outcome Lexeme DeclaratorRead) → o ≡ r
      → cond (sees test ts) (reads (named room) (Take test (λ t. Return (a_name t))) ts) o ≡ cond (sees test ts) (Got (a_name (head ts)) 0 (behind ts)) r
  named_or test ts o r e = go (sees test ts)
    where
      go : (p : Bool) → cond p (cond p (Got (a_name (head ts)) 0 (behind ts)) (Bad false ts)) o ≡ cond p (Got (a_name (head ts)) 0 (behind ts)) r
      go true = refl
      go false = e

  group_or : (p q : Bool) (a g o : Outcome Lexeme DeclaratorRead) → p ≡ q → g ≡ o → cond p g a ≡ cond (true && not q) a o
  group_or p true a g o e f = rw e f
  group_or p false a g o e f = rw e refl

  a_group : (kind : DeclaratorKind) (ts : List Lexeme) → after (λ x d left. deepen d (Got x zero left)) (named room (Group s kind) ts) ≡ named room (Group s kind) ts
  a_group kind ts = passed (named room (Group s kind) ts)

  lacking : (kind : DeclaratorKind) (ts : List Lexeme)
      → cond (sees (λ t. is k.OpenParen t || false) ts) (after (λ x d left. deepen d (Got x zero left)) (named room (Group s kind) ts)) (Got (absent None) 0 ts)
      ≡ cond (true && not (sees (is k.OpenParen) ts)) (Got (absent None) 0 ts) (named room (Group s kind) ts)
  lacking kind ts =
      group_or (sees (λ t. is k.OpenParen t || false) ts) (sees (is k.OpenParen) ts) (Got (absent None) 0 ts)
      (after (λ x d left. deepen d (Got x zero left)) (named room (Group s kind) ts)) (named room (Group s kind) ts)
      (sees_first (is k.OpenParen) ts) (a_group kind ts)

  pub start_rule : (kind : DeclaratorKind) (b : Bracket) (ts : List Lexeme) → opened_at b ≡ None
      → reads (named room) (direct_start s kind b) ts
      ≡ cond (sees (starts_name s kind b) ts) (Got (a_name (head ts)) 0 (behind ts))
      (cond (may_lack kind b && not (sees (is k.OpenParen) ts)) (Got (absent None) 0 ts) (named room (Group s kind) ts))
  start_rule kind (Opened p) ts e = cc
  start_rule OrdinaryKind Unknown ts e = named_or is_ordinary_name ts _ _ (a_group OrdinaryKind ts)
  start_rule OrdinaryKind Passed ts e = named_or is_ordinary_name ts _ _ (a_group OrdinaryKind ts)
  start_rule OrdinaryKind Barred ts e = named_or is_ordinary_name ts _ _ (a_group OrdinaryKind ts)
  start_rule MemberKind Unknown ts e = named_or (is k.Name) ts _ _ (a_group MemberKind ts)
  start_rule MemberKind Passed ts e = named_or (is k.Name) ts _ _ (a_group MemberKind ts)
  start_rule MemberKind Barred ts e = named_or (is k.Name) ts _ _ (a_group MemberKind ts)
  start_rule ParameterKind Unknown ts e = named_or is_ordinary_name ts _ _ (lacking ParameterKind ts)
  start_rule ParameterKind Passed ts e = named_or is_ordinary_name ts _ _ (lacking ParameterKind ts)
  start_rule ParameterKind Barred ts e = named_or (is_free_name s) ts _ _ (a_group ParameterKind ts)
  start_rule AbstractKind Unknown ts e = rw (sees_never ts) (lacking AbstractKind ts)
  start_rule AbstractKind Passed ts e = rw (sees_never ts) (lacking AbstractKind ts)
  start_rule AbstractKind Barred ts e = rw (sees_never ts) (a_group AbstractKind ts)

-- the chain of arrays and functions
module _ (room : ℕ) (s : Scope) (kind : DeclaratorKind) (b : Bracket) where
  pub direct_begins : (ts : List Lexeme)
      → named room (Direct s kind b) ts ≡ after (λ x d us. past room (Direct s kind b) x d us) (reads (named room) (direct_start s kind b) ts)
  direct_begins ts = chain_rule room (Direct s kind b) (direct_start s kind b) (λ x. direct_step s kind b x.bracket x) refl ts

  same_step : (x : DeclaratorRead) (m : Option ℕ) (ts : List Lexeme)
      → sees (begins c_lookahead (direct_step s kind b m x)) ts ≡ sees (starts_step s kind b m x.reach) ts
  same_step x None ts = refl
  same_step x (Some p) ts =
      sees_alike (λ t. is k.CloseBracket t || (starts_expression s t || false)) (λ t. is k.CloseBracket t || starts_expression s t)
      (λ t. ap (λ e. is k.CloseBracket t || e) (or_false (starts_expression s t))) ts

  module _ (x : DeclaratorRead) (d : ℕ) (ts : List Lexeme) where
    pub direct_ends : sees (starts_step s kind b x.bracket x.reach) ts ≡ false → past room (Direct s kind b) x d ts ≡ Got x d ts
    direct_ends e =
        past_ends room (Direct s kind b) (direct_start s kind b) (λ y. direct_step s kind b y.bracket y) refl x d ts (same_step x x.bracket ts ∙ e)

    pub direct_full : sees (starts_step s kind b x.bracket x.reach) ts ≡ true → room ≤ d → past room (Direct s kind b) x d ts ≡ Bad true ts
    direct_full e l =
        past_full room (Direct s kind b) (direct_start s kind b) (λ y. direct_step s kind b y.bracket y) refl x d ts (same_step x x.bracket ts ∙ e) l

    goes : sees (starts_step s kind b x.bracket x.reach) ts ≡ true → d < room
        → past room (Direct s kind b) x d ts
        ≡ after (λ y f us. past room (Direct s kind b) y f us) (joined d (reads (named (room - 1)) (direct_step s kind b x.bracket x) ts))
    goes e l =
        past_goes room (Direct s kind b) (direct_start s kind b) (λ y. direct_step s kind b y.bracket y) refl x d ts (same_step x x.bracket ts ∙ e) l

    pub direct_goes : (y : DeclaratorRead) (f : ℕ) (us : List Lexeme) → sees (starts_step s kind b x.bracket x.reach) ts ≡ true → d < room
        → joined d (reads (named (room - 1)) (direct_step s kind b x.bracket x) ts) ≡ Got y f us
        → past room (Direct s kind b) x d ts ≡ past room (Direct s kind b) y f us
    direct_goes y f us e l h = goes e l ∙ ap (λ o. after (λ z g vs. past room (Direct s kind b) z g vs) o) h

    pub direct_stops : (deep : Bool) (us : List Lexeme) → sees (starts_step s kind b x.bracket x.reach) ts ≡ true → d < room
        → joined d (reads (named (room - 1)) (direct_step s kind b x.bracket x) ts) ≡ Bad deep us
        → past room (Direct s kind b) x d ts ≡ Bad deep us
    direct_stops deep us e l h = goes e l ∙ ap (λ o. after (λ z g vs. past room (Direct s kind b) z g vs) o) h

  -- the loop: what the whole is, by what was read so far
  pub start_goes : (ts : List Lexeme) (x : DeclaratorRead) (d : ℕ) (us : List Lexeme) → reads (named room) (direct_start s kind b) ts ≡ Got x d us
      → named room (Direct s kind b) ts ≡ past room (Direct s kind b) x d us
  start_goes ts x d us h = direct_begins ts ∙ ap (λ o. after (λ y e vs. past room (Direct s kind b) y e vs) o) h

  module _ (whole : Outcome Lexeme DeclaratorRead) (x : DeclaratorRead) (d : ℕ) (ts : List Lexeme) (now : Scope)
      (so_far : whole ≡ past room (Direct s kind b) x d ts) (kept : now ≡ s) where
    pub loop_ends : sees (starts_step now kind b x.bracket x.reach) ts ≡ false → whole ≡ Got x d ts
    loop_ends e = so_far ∙ direct_ends x d ts (ap (λ scope. sees (starts_step scope kind b x.bracket x.reach) ts) (sym kept) ∙ e)

    pub loop_full : sees (starts_step now kind b x.bracket x.reach) ts ≡ true → room ≤ d → whole ≡ Bad true ts
    loop_full e l = so_far ∙ direct_full x d ts (ap (λ scope. sees (starts_step scope kind b x.bracket x.reach) ts) (sym kept) ∙ e) l

    same_read : (o : Outcome Lexeme DeclaratorRead) → joined d (reads (named (room - 1)) (direct_step now kind b x.bracket x) ts) ≡ o
        → joined d (reads (named (room - 1)) (direct_step s kind b x.bracket x) ts) ≡ o
    same_read o h = ap (λ scope. joined d (reads (named (room - 1)) (direct_step scope kind b x.bracket x) ts)) (sym kept) ∙ h

    pub loop_goes : (y : DeclaratorRead) (f : ℕ) (us : List Lexeme) → sees (starts_step now kind b x.bracket x.reach) ts ≡ true → d < room
        → joined d (reads (named (room - 1)) (direct_step now kind b x.bracket x) ts) ≡ Got y f us → whole ≡ past room (Direct s kind b) y f us
    loop_goes y f us e l h =
        so_far
        ∙ direct_goes x d ts y f us (ap (λ scope. sees (starts_step scope kind b x.bracket x.reach) ts) (sym kept) ∙ e) l (same_read (Got y f us) h)

    pub loop_stops : (deep : Bool) (us : List Lexeme) → sees (starts_step now kind b x.bracket x.reach) ts ≡ true → d < room
        → joined d (reads (named (room - 1)) (direct_step now kind b x.bracket x) ts) ≡ Bad deep us → whole ≡ Bad deep us
    loop_stops deep us e l h =
        so_far
        ∙ direct_stops x d ts deep us (ap (λ scope. sees (starts_step scope kind b x.bracket x.reach) ts) (sym kept) ∙ e) l (same_read (Bad deep us) h)

-- one step
module _ (call : (n : Rule) → List Lexeme → Outcome Lexeme (ValueOf n)) (s : Scope) (kind : DeclaratorKind) (b : Bracket) (x : DeclaratorRead) (ts : List Lexeme) where
  pub step_opened : (p : ℕ) → x.bracket ≡ Some p → reads call (direct_step s kind b x.bracket x) ts ≡ reads call (array_rest x s p) ts
  step_opened p e = ap (λ m. reads call (direct_step s kind b m x) ts) e

  twice : (p q : Bool) (y z o : Outcome Lexeme DeclaratorRead) → p ≡ q → cond p (cond p y z) o ≡ cond q y o
  twice p true y z o e = rw e refl
  twice p false y z o e = rw e refl

  pub step_rule : x.bracket ≡ None
      → reads call (direct_step s kind b x.bracket x) ts
      ≡ cond (sees (is k.OpenBracket) ts && takes_array x.reach b) (reads call (array_rest x s (place (head ts))) (behind ts))
      (cond (sees (is k.OpenParen) ts && takes_params s kind x.reach)
      (reads call (params_parts s x (place (head ts))) (behind ts)) (Bad false ts))
  step_rule e =
      ap (λ m. reads call (direct_step s kind b m x) ts) e
      ∙ twice _ _ _ _ _ (sees_and (is k.OpenBracket) (takes_array x.reach b) ts)
      ∙ ap (λ v. cond (sees (is k.OpenBracket) ts && takes_array x.reach b) (reads call (array_rest x s (place (head ts))) (behind ts))
      (cond v (reads call (params_parts s x (place (head ts))) (behind ts)) (Bad false ts)))
      (sees_and (is k.OpenParen) (takes_params s kind x.reach) ts)

-- what a step read is within its room, and leaves fewer tokens
joined_parts : {A : Type 0} (d : ℕ) (o : Outcome Lexeme A) (y : A) (f : ℕ) (us : List Lexeme) → joined d o ≡ Got y f us
    → (e : ℕ) × ((o ≡ Got y e us) × (f ≡ suc (max d e)))
joined_parts d (Got x e left) y f us h = (e, (cc, cc))
joined_parts d (Bad deep left) y f us h = let clash : ⊥ = cc in absurd clash

pub joined_within : {A : Type 0} (room : ℕ) (d : ℕ) (g : Reading A) (ts : List Lexeme) (y : A) (f : ℕ) (us : List Lexeme) → d < room
    → joined d (reads (named (room - 1)) g ts) ≡ Got y f us → f ≤ room
joined_within room d g ts y f us l h =
    let (e, (got, same)) = joined_parts d (reads (named (room - 1)) g ts) y f us h in
    let inner : e ≤ room - 1 = reads_within (room - 1) g ts y e us got in
    omega arith

module _ (room : ℕ) {A : Type 0} where
  take_less : (test : Lexeme → Bool) (rest : Lexeme → Reading A) (ts : List Lexeme) (x : A) (d : ℕ) (us : List Lexeme)
      → reads (named room) (Take test rest) ts ≡ Got x d us → length us < length ts
  take_less test rest ts x d us h = go (sees test ts) refl h
    where
      go : (v : Bool) → sees test ts ≡ v → cond v (reads (named room) (rest (head ts)) (behind ts)) (Bad false ts) ≡ Got x d us → length us < length ts
      go true e g = let one = sees_less test ts e in let more = reads_shorter room (rest (head ts)) (behind ts) x d us g in omega arith
      go false e g = let clash : ⊥ = cc in absurd clash

  call_less : (n : Rule) (rest : ValueOf n → Reading A) (ts : List Lexeme) (x : A) (d : ℕ) (us : List Lexeme) → c_lookahead.nullable n ≡ None
      → reads (named room) (Call n rest) ts ≡ Got x d us → length us < length ts
  call_less n rest ts x d us none h = go (named room n ts) refl h
    where
      go : (o : Outcome Lexeme (ValueOf n)) → named room n ts ≡ o → after (λ a e left. deepen e (reads (named room) (rest a) left)) o ≡ Got x d us
          → length us < length ts
      go (Bad deep left) e g = let clash : ⊥ = cc in absurd clash
      go (Got a f left) e g = inner (reads (named room) (rest a) left) refl g
        where
          inner : (p : Outcome Lexeme A) → reads (named room) (rest a) left ≡ p → deepen f p ≡ Got x d us → length us < length ts
          inner (Bad deep vs) q r = let clash : ⊥ = cc in absurd clash
          inner (Got y m vs) q r =
              let same : vs ≡ us = cc in
              let one = less room n ts a f left none e in
              let more = reads_shorter room (rest a) left y m vs q in
              let equal = ap length same in
              omega arith

  either_less : (one other : Reading A) (ts : List Lexeme) (x : A) (d : ℕ) (us : List Lexeme)
      → (reads (named room) one ts ≡ Got x d us → length us < length ts) → (reads (named room) other ts ≡ Got x d us → length us < length ts)
      → reads (named room) (Either one other) ts ≡ Got x d us → length us < length ts
  either_less one other ts x d us f g h = go (sees (begins c_lookahead one) ts) h
    where
      go : (v : Bool) → cond v (reads (named room) one ts) (reads (named room) other ts) ≡ Got x d us → length us < length ts
      go true e = f e
      go false e = g e

module _ (room : ℕ) (s : Scope) (kind : DeclaratorKind) (b : Bracket) (x : DeclaratorRead) (ts : List Lexeme) where
  array_less : (p : ℕ) (y : DeclaratorRead) (e : ℕ) (us : List Lexeme) → reads (named room) (array_rest x s p) ts ≡ Got y e us → length us < length ts
  array_less p y e us h =
      either_less room (word k.CloseBracket (λ c. Return (array_of x p None)))
      (Call (Conditional s) (λ size. word k.CloseBracket (λ c. Return (array_of x p (Some size))))) ts y e us
      (λ g. take_less room (is k.CloseBracket) (λ c. Return (array_of x p None)) ts y e us g)
      (λ g. call_less room (Conditional s) (λ size. word k.CloseBracket (λ c. Return (array_of x p (Some size)))) ts y e us refl g) h

  step_less : (m : Option ℕ) (y : DeclaratorRead) (e : ℕ) (us : List Lexeme) → reads (named room) (direct_step s kind b m x) ts ≡ Got y e us
      → length us < length ts
  step_less (Some p) y e us h = array_less p y e us h
  step_less None y e us h =
      either_less room (Take (λ t. is k.OpenBracket t && takes_array x.reach b) (λ t. array_rest x s (place t)))
      (Take (λ t. is k.OpenParen t && takes_params s kind x.reach) (λ t. params_parts s x (place t))) ts y e us
      (λ g. take_less room (λ t. is k.OpenBracket t && takes_array x.reach b) (λ t. array_rest x s (place t)) ts y e us g)
      (λ g. take_less room (λ t. is k.OpenParen t && takes_params s kind x.reach) (λ t. params_parts s x (place t)) ts y e us g) h

pub joined_less : (room : ℕ) (s : Scope) (kind : DeclaratorKind) (b : Bracket) (x : DeclaratorRead) (d : ℕ) (ts : List Lexeme) (y : DeclaratorRead) (f : ℕ) (us : List Lexeme)
    → joined d (reads (named room) (direct_step s kind b x.bracket x) ts) ≡ Got y f us → length us < length ts
joined_less room s kind b x d ts y f us h =
    let (e, (got, same)) = joined_parts d (reads (named room) (direct_step s kind b x.bracket x) ts) y f us h in
    step_less room s kind b x ts x.bracket y e us got
