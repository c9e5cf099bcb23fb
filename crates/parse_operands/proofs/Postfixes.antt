-- Postfix expressions: each rule as an equation.
use Rattle.std.proofs.Common.{◌≡◌, refl, ℕ, suc, length, ◌-◌, ◌<◌, ◌≤◌, zero, max, Bool, true, false, cond, not, ◌&&◌, ◌||◌, List, [], ◌∷◌, ◌++◌, ap, sym, ◌∙◌, append_assoc, arith}
use Rattle.grammar.specs.Parts.{Return, Call}
use Rattle.grammar.specs.Parser.{Outcome, Got, Bad, begins, after, deepen}
use Rattle.c_tree.specs.declared.expressions.Expr.{Expr}
use Rattle.c_grammar.specs.declared.terminal.Terminal.TheVariants as k
use Rattle.c_grammar.specs.Lexemes.{Lexeme, is, is_among}
use Rattle.c_grammar.specs.Trees.{is_cast}
use Rattle.c_grammar.specs.declared.state.Front.{Front}
use Rattle.c_grammar.specs.Rules.{Scope, Primary, Postfix, Assignment, Arguments, MoreArguments}
use Rattle.c_tree.specs.declared.expressions.AccessOperator.TheVariants as access
use Rattle.c_grammar.specs.Expressions.{Reading, arguments, more_arguments, postfix_step}
use Rattle.c_grammar.specs.Lookahead.{c_lookahead, steps, starts_expression}
use Rattle.parse_input.specs.Input.{sees, behind}
use Rattle.parse_input.specs.Reads.{named, past, reads, joined, behind_items}
use Rattle.parse_operands.specs.Parts.{arguments_reads, goes_on, index_rest, call_rest, access_rest, step_reads}
use Rattle.parse_input.proofs.Choices.{sees_first, or_false, passed}
use Rattle.parse_input.proofs.Then.{deepen_none, behind_falls}
use Rattle.parse_input.proofs.Steps as rule

-- arguments
arguments_rule : (room : ℕ) (s : Scope) (ts : List Lexeme)
    → named room (Arguments s) ts ≡ cond (sees (starts_expression s) ts) (arguments_reads room s ts) (Got [] 0 ts)
unfolding arguments_reads
arguments_rule room s ts =
    rule.plain_rule room (Arguments s) ts (arguments s) refl
    ∙ ap (λ b. cond b (arguments_reads room s ts) (Got [] 0 ts)) (sees_first (starts_expression s) ts)

more_rule : (room : ℕ) (s : Scope) (ts : List Lexeme)
    → named room (MoreArguments s) ts ≡ cond (sees (is k.Comma) ts) (arguments_reads room s (behind ts)) (Got [] 0 ts)
unfolding arguments_reads
more_rule room s ts = rule.plain_rule room (MoreArguments s) ts (more_arguments s) refl ∙ same (sees (is k.Comma) ts)
  where
    same : (b : Bool) → cond b (cond b (arguments_reads room s (behind ts)) (Bad false ts)) (Got [] 0 ts) ≡ cond b (arguments_reads room s (behind ts)) (Got [] 0 ts)
    same true = refl
    same false = refl

no_more : (room : ℕ) (s : Scope) (ts : List Lexeme) → sees (is k.Comma) ts ≡ false → named room (MoreArguments s) ts ≡ Got [] 0 ts
no_more room s ts e = more_rule room s ts ∙ rw e

first_got : (room : ℕ) (s : Scope) (ts us : List Lexeme) (a : Expr) (d : ℕ) → named room (Assignment s) ts ≡ Got a d us
    → arguments_reads room s ts ≡ deepen d (behind_items (a ∷ []) (named room (MoreArguments s) us))
unfolding arguments_reads
first_got room s ts us a d e = rw e (ap (λ o. deepen d o) (rule.item_first a (named room (MoreArguments s) us)))

first_bad : (room : ℕ) (s : Scope) (ts us : List Lexeme) (deep : Bool) → named room (Assignment s) ts ≡ Bad deep us
    → arguments_reads room s ts ≡ Bad deep us
unfolding arguments_reads
first_bad room s ts us deep e = rw e

pub no_arguments : (room : ℕ) (s : Scope) (ts : List Lexeme) → sees (starts_expression s) ts ≡ false → named room (Arguments s) ts ≡ Got [] 0 ts
no_arguments room s ts e = arguments_rule room s ts ∙ rw e

pub arguments_begin : (room : ℕ) (s : Scope) (ts : List Lexeme) → sees (starts_expression s) ts ≡ true
    → named room (Arguments s) ts ≡ deepen 0 (behind_items [] (arguments_reads room s ts))
arguments_begin room s ts e =
    arguments_rule room s ts ∙ rw e (rule.behind_none (arguments_reads room s ts) ∙ sym (deepen_none (behind_items [] (arguments_reads room s ts))))

deepen_both : {A : Type 0} (c d : ℕ) (xs ys : List A) (o : Outcome Lexeme (List A))
    → deepen c (behind_items xs (deepen d (behind_items ys o))) ≡ deepen (max c d) (behind_items (xs ++ ys) o)
deepen_both c d xs ys (Got x f left) =
    let same : max c (max d f) ≡ max (max c d) f = omega arith in
    rw same (ap (λ all. Got all (max (max c d) f) left) (sym (append_assoc xs ys x)))
deepen_both c d xs ys (Bad deep left) = refl

module _ (room : ℕ) (s : Scope) (start : List Lexeme) (depth : ℕ) (xs : List Expr) (ts us : List Lexeme)
    (h : named room (Arguments s) start ≡ deepen depth (behind_items xs (arguments_reads room s ts))) where
  pub arguments_bad : (deep : Bool) → named room (Assignment s) ts ≡ Bad deep us → named room (Arguments s) start ≡ Bad deep us
  arguments_bad deep e = h ∙ ap (λ o. deepen depth (behind_items xs o)) (first_bad room s ts us deep e)

  module _ (a : Expr) (d : ℕ) (e : named room (Assignment s) ts ≡ Got a d us) where
    one_more_argument : named room (Arguments s) start ≡ deepen (max depth d) (behind_items (xs ++ a ∷ []) (named room (MoreArguments s) us))
    one_more_argument =
        h ∙ ap (λ o. deepen depth (behind_items xs o)) (first_got room s ts us a d e)
        ∙ deepen_both depth d xs (a ∷ []) (named room (MoreArguments s) us)

    pub arguments_more : sees (is k.Comma) us ≡ true
        → named room (Arguments s) start ≡ deepen (max depth d) (behind_items (xs ++ a ∷ []) (arguments_reads room s (behind us)))
    arguments_more c = one_more_argument ∙ ap (λ o. deepen (max depth d) (behind_items (xs ++ a ∷ []) o)) (more_rule room s us ∙ rw c)

    pub arguments_end : sees (is k.Comma) us ≡ false → named room (Arguments s) start ≡ Got (xs ++ a ∷ []) (max depth d) us
    arguments_end c =
        one_more_argument ∙ ap (λ o. deepen (max depth d) (behind_items (xs ++ a ∷ []) o)) (no_more room s us c)
        ∙ ap (λ o. deepen (max depth d) o) (rule.items_end (xs ++ a ∷ []) 0 us) ∙ ap (λ n. Got (xs ++ a ∷ []) n us) (rule.max_zero (max depth d))

-- the steps, none of which stands behind a cast
and_true : (b : Bool) → b && true ≡ b
and_true true = refl
and_true false = refl

and_false : (b : Bool) → b && false ≡ false
and_false true = refl
and_false false = refl

one_of_six : (cast : Bool) (b p d w i n : Bool)
    → (b && not cast) || ((p && not cast) || ((d && not cast) || ((w && not cast) || ((i && not cast) || (n && not cast)))))
    ≡ (b || (p || (d || (w || (i || (n || false)))))) && not cast
one_of_six true b p d w i n = simp and_false
one_of_six false b p d w i n = simp (and_true, or_false)

begins_step : (s : Scope) (a : Expr) (ts : List Lexeme) → sees (begins c_lookahead (postfix_step s a)) ts ≡ goes_on a ts
unfolding sees goes_on
begins_step s a [] = refl
begins_step s a (t ∷ ts) =
    one_of_six (is_cast a) (is k.OpenBracket t) (is k.OpenParen t) (is k.Dot t) (is k.Arrow t) (is k.Increment t) (is k.Decrement t)

goes_on_cast : (cast sight : Bool) → (sight && not cast) ≡ true → cast ≡ false
goes_on_cast false sight e = refl
goes_on_cast true true e = cc
goes_on_cast true false e = cc

-- one alternative of the parts, asked for twice
once : (one two bad other : Outcome Lexeme Expr) (b : Bool) → two ≡ other
    → cond (b && true) (cond (b && true) one bad) two ≡ cond b one other
once one two bad other true e = refl
once one two bad other false e = e

step_rule : (room : ℕ) (s : Scope) (a : Expr) (ts : List Lexeme) → is_cast a ≡ false
    → reads (named room) (postfix_step s a) ts ≡ step_reads room s a ts
unfolding sees
step_rule room s a [] e = refl
step_rule room s a (t ∷ ts) e =
    rw e (once _ _ _ _ (is k.OpenBracket t) (once _ _ _ _ (is k.OpenParen t) (once _ _ _ _ (is k.Dot t) (once _ _ _ _ (is k.Arrow t)
    (once _ _ _ _ (is k.Increment t) (rw (and_true (is k.Decrement t))))))))

-- A step is no deeper than its room, and it takes a token.
module _ (room : ℕ) (s : Scope) (a : Expr) (ts : List Lexeme) where
  abbrev IsBounded : Outcome Lexeme Expr → Type 0
  IsBounded (Got y d us) = (d ≤ room) × (length us < length ts)
  IsBounded (Bad deep us) = Unit {0}

  pick : (b : Bool) (o p : Outcome Lexeme Expr) → (b ≡ true → IsBounded o) → IsBounded p → IsBounded (cond b o p)
  pick true o p f g = f refl
  pick false o p f g = g

  parts_bounded : (g : Reading Expr) (test : Lexeme → Bool) → sees test ts ≡ true → IsBounded (reads (named room) g (behind ts))
  parts_bounded g test e = go (reads (named room) g (behind ts)) refl
    where
      go : (o : Outcome Lexeme Expr) → reads (named room) g (behind ts) ≡ o → IsBounded o
      go (Got y d us) h = (rule.reads_within room g (behind ts) y d us h, behind_falls room g test ts e y d us h)
      go (Bad deep us) h = tt

  token_bounded : (test : Lexeme → Bool) → sees test ts ≡ true → (zero ≤ room) × (length (behind ts) < length ts)
  token_bounded test e = let less = rule.sees_less test ts e in (omega arith, less)

  step_bounded : IsBounded (step_reads room s a ts)
  step_bounded =
      pick _ _ _ (λ e. parts_bounded (index_rest s a) (is k.OpenBracket) e)
      (pick _ _ _ (λ e. parts_bounded (call_rest s a) (is k.OpenParen) e)
      (pick _ _ _ (λ e. parts_bounded (access_rest a access.Dot) (is k.Dot) e)
      (pick _ _ _ (λ e. parts_bounded (access_rest a access.Arrow) (is k.Arrow) e)
      (pick _ _ _ (λ e. token_bounded (is k.Increment) e)
      (pick _ _ _ (λ e. token_bounded (is k.Decrement) e) tt)))))

  joined_bounded : (c : ℕ) (o : Outcome Lexeme Expr) → IsBounded o → (y : Expr) (e : ℕ) (us : List Lexeme) → joined c o ≡ Got y e us → c ≤ room
      → (e ≤ suc room) × (length us < length ts)
  joined_bounded c (Got x d vs) b y e us h l =
      let deep : suc (max c d) ≡ e = cc in let rest : vs ≡ us = cc in let below : suc (max c d) ≤ suc room = omega (arith, b.0) in (rw deep at below, rw rest at b.1)
  joined_bounded c (Bad deep vs) b y e us h l = let clash : ⊥ = cc in absurd clash

module _ (room : ℕ) (s : Scope) (a : Expr) (ts : List Lexeme) (c : ℕ) (y : Expr) (e : ℕ) (us : List Lexeme) (l : c < room)
    (h : joined c (step_reads (room - 1) s a ts) ≡ Got y e us) where
  pub step_within : e ≤ room
  step_within = let b = (joined_bounded (room - 1) s a ts c _ (step_bounded (room - 1) s a ts) y e us h (omega arith)).0 in omega arith

  pub step_falls : length us < length ts
  step_falls = (joined_bounded (room - 1) s a ts c _ (step_bounded (room - 1) s a ts) y e us h (omega arith)).1

-- a postfix expression: its beginning, and its rest
module _ (room : ℕ) (f : Front) (s : Scope) where
  pub postfix_rule : (ts : List Lexeme)
      → named room (Postfix f s) ts ≡ after (λ x d us. past room (Postfix f s) x d us) (named room (Primary f s) ts)
  postfix_rule ts =
      rule.chain_rule room (Postfix f s) (Call (Primary f s) Return) (postfix_step s) refl ts
      ∙ ap (λ o. after (λ x d us. past room (Postfix f s) x d us) o) (passed (named room (Primary f s) ts))

  pub postfix_ends : (x : Expr) (d : ℕ) (ts : List Lexeme) → goes_on x ts ≡ false → past room (Postfix f s) x d ts ≡ Got x d ts
  postfix_ends x d ts e =
      rule.past_ends room (Postfix f s) (Call (Primary f s) Return) (postfix_step s) refl x d ts (begins_step s x ts ∙ e)

  pub postfix_full : (x : Expr) (d : ℕ) (ts : List Lexeme) → goes_on x ts ≡ true → room ≤ d → past room (Postfix f s) x d ts ≡ Bad true ts
  postfix_full x d ts e l =
      rule.past_full room (Postfix f s) (Call (Primary f s) Return) (postfix_step s) refl x d ts (begins_step s x ts ∙ e) l

  pub postfix_goes : (x : Expr) (d : ℕ) (ts : List Lexeme) → goes_on x ts ≡ true → d < room
      → past room (Postfix f s) x d ts ≡ after (λ y deeper us. past room (Postfix f s) y deeper us) (joined d (step_reads (room - 1) s x ts))
  unfolding goes_on
  postfix_goes x d ts e l =
      rule.past_goes room (Postfix f s) (Call (Primary f s) Return) (postfix_step s) refl x d ts (begins_step s x ts ∙ e) l
      ∙ ap (λ o. after (λ y deeper us. past room (Postfix f s) y deeper us) (joined d o))
      (step_rule (room - 1) s x ts (goes_on_cast (is_cast x) (sees (is_among steps) ts) e))

  -- one step more behind what was read so far
  pub postfix_on : (start : List Lexeme) (x : Expr) (d : ℕ) (ts : List Lexeme) (here : Scope) (y : Expr) (e : ℕ) (us : List Lexeme)
      → named room (Postfix f s) start ≡ past room (Postfix f s) x d ts → here ≡ s → goes_on x ts ≡ true → d < room
      → joined d (step_reads (room - 1) here x ts) ≡ Got y e us → named room (Postfix f s) start ≡ past room (Postfix f s) y e us
  postfix_on start x d ts here y e us h same g l j =
      h ∙ postfix_goes x d ts g l ∙ ap (λ o. after (λ z deeper left. past room (Postfix f s) z deeper left) o) (rw same at j)
