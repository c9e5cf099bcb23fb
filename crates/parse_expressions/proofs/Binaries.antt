-- Binary operations by climbing: the chains of all levels as one.
use Rattle.std.proofs.Common.{◌≡◌, refl, ℕ, zero, suc, ◌-◌, ◌<◌, ◌≤◌, Bool, true, false, cond, ◌&&◌, ◌⊎◌, inl, inr, List, [], ◌∷◌, length, Option, Some, None, Err, ap, ◌∙◌, sym, subst, leb, eqb, le-leb, arith}
use Rattle.std.proofs.lemmas.Bool.{leb-true, leb-false, ne_eqb}
use Rattle.std.proofs.lemmas.Bool.Decides.{eqb_tells}
use Rattle.grammar.specs.Parts.{Return, Call}
use Rattle.grammar.specs.Parser.{Outcome, Got, Bad, after, deepen}
use Rattle.grammar.proofs.Checked.{alike, alike_same}
use Rattle.c_tree.specs.declared.expressions.Expr.{Expr}
use Rattle.c_tree.specs.declared.expressions.Expr.TheVariants as e
use Rattle.c_grammar.specs.Lexemes.{Lexeme, place, is_among}
use Rattle.c_grammar.specs.Trees.{place_of}
use Rattle.c_grammar.specs.declared.state.Precedence.{Precedence}
use Rattle.c_grammar.specs.declared.state.Precedence.TheVariants.{LogicalOr, LogicalAnd, InclusiveOr, ExclusiveOr, BitwiseAnd, Equality, Relational, Shift, Additive, Multiplicative}
use Rattle.c_grammar.specs.declared.state.Front.TheVariants.{Cast as CastFront}
use Rattle.c_grammar.specs.Rules.{Scope, Binary, Operand}
use Rattle.c_grammar.specs.Expressions.{Reading, operators, binary_operator, tighter, binary_step}
use Rattle.c_grammar.proofs.Every.{All, all}
use Rattle.parse_input.specs.Input.{head, behind, sees}
use Rattle.parse_input.specs.Reads.{named, past, reads, joined, Says}
use Rattle.parse_input.specs.declared.read.Refusal.{Refusal}
use Rattle.parse_input.specs.declared.read.Refusal.TheVariants.{Refused, NoMemory}
use Rattle.parse_input.proofs.Steps.{chain_rule, past_ends, past_full, past_goes}
use Rattle.c_grammar.specs.declared.state.Precedence.TheVariants as o
use Rattle.parse_expressions.specs.Climbing.{looseness, level_at, operators_of, between, next_level, open_chain, chains, climbs}
use Rattle.parse_operands.specs.Named.{right_of}
use Rattle.parse_expressions.specs.Nodes.{binary_node, on_right}
use Rattle.parse_input.proofs.Choices.{passed}
use Rattle.parse_expressions.proofs.Chains.{binary_step_node}

-- levels and their numbers
level_number : (level : Precedence) → level_at (looseness level) ≡ level
level_number o.Multiplicative = refl
level_number o.Additive = refl
level_number o.Shift = refl
level_number o.Relational = refl
level_number o.Equality = refl
level_number o.BitwiseAnd = refl
level_number o.ExclusiveOr = refl
level_number o.InclusiveOr = refl
level_number o.LogicalAnd = refl
level_number o.LogicalOr = refl

number_below : (level : Precedence) → looseness level < 10
number_below o.Multiplicative = omega arith
number_below o.Additive = omega arith
number_below o.Shift = omega arith
number_below o.Relational = omega arith
number_below o.Equality = omega arith
number_below o.BitwiseAnd = omega arith
number_below o.ExclusiveOr = omega arith
number_below o.InclusiveOr = omega arith
number_below o.LogicalAnd = omega arith
number_below o.LogicalOr = omega arith

-- each operator is of one level
abbrev numbered : ℕ → Option Precedence → Bool
numbered n None = false
numbered n (Some level) = eqb n (looseness level)

of_level : (n : ℕ) → n < 10 → All (λ t. alike (is_among (operators (level_at n)) t) (numbered n (operators_of t.terminal)))
of_level zero l = λ x p. refl
of_level (suc zero) l = λ x p. refl
of_level (suc (suc zero)) l = λ x p. refl
of_level (suc (suc (suc zero))) l = λ x p. refl
of_level (suc (suc (suc (suc zero)))) l = λ x p. refl
of_level (suc (suc (suc (suc (suc zero))))) l = λ x p. refl
of_level (suc (suc (suc (suc (suc (suc zero)))))) l = λ x p. refl
of_level (suc (suc (suc (suc (suc (suc (suc zero))))))) l = λ x p. refl
of_level (suc (suc (suc (suc (suc (suc (suc (suc zero)))))))) l = λ x p. refl
of_level (suc (suc (suc (suc (suc (suc (suc (suc (suc zero))))))))) l = λ x p. refl
of_level (suc (suc (suc (suc (suc (suc (suc (suc (suc (suc n)))))))))) l = absurd (omega arith)

seen_level : (n : ℕ) → n < 10 → (ts : List Lexeme) → sees (is_among (operators (level_at n))) ts ≡ numbered n (operators_of (head ts).terminal)
unfolding sees head
seen_level n l [] = refl
seen_level n l (t ∷ ts) =
    alike_same _ _ (all (λ u. alike (is_among (operators (level_at n)) u) (numbered n (operators_of u.terminal))) (of_level n l) t)

same_number : (n : ℕ) → eqb n n ≡ true
same_number n = go (eqb_tells n n)
  where
    go : ((eqb n n ≡ true) × (n ≡ n)) ⊎ ((eqb n n ≡ false) × (n ≡ n → ⊥)) → eqb n n ≡ true
    go (inl (e, same)) = e
    go (inr (e, differ)) = absurd (differ refl)

-- the operator that comes next, and its level
both_true : (a b : Bool) → (a && b) ≡ true → (a ≡ true) × (b ≡ true)
both_true true b h = (refl, h)
both_true false b h = cc

not_both : (a b : Bool) → (a && b) ≡ false → (a ≡ false) ⊎ (b ≡ false)
not_both true b h = inr h
not_both false b h = inl refl

if_some : (b : Bool) (l level : Precedence) → cond b (Some l) None ≡ Some level → (b ≡ true) × (l ≡ level)
if_some true l level h = (refl, cc)
if_some false l level h = cc

if_none : (b : Bool) (l : Precedence) → cond b (Some l) None ≡ None → b ≡ false
if_none true l h = cc
if_none false l h = refl

found : (from tightest level : Precedence) (next : Option Precedence) → between from tightest next ≡ Some level
    → (next ≡ Some level) × (looseness tightest ≤ looseness level) × (looseness level ≤ looseness from)
found from tightest level None h = cc
found from tightest level (Some l) h =
    go (if_some (leb (looseness tightest) (looseness l) && leb (looseness l) (looseness from)) l level h)
  where
    go : ((leb (looseness tightest) (looseness l) && leb (looseness l) (looseness from)) ≡ true) × (l ≡ level)
        → (Some l ≡ Some level) × (looseness tightest ≤ looseness level) × (looseness level ≤ looseness from)
    go (b, same) =
        let both = both_true (leb (looseness tightest) (looseness l)) (leb (looseness l) (looseness from)) b in (
          ap (λ k. Some k) same,
          subst (λ k. looseness tightest ≤ looseness k) same (leb-true _ _ both.0),
          subst (λ k. looseness k ≤ looseness from) same (leb-true _ _ both.1),
        )

missed : (from tightest : Precedence) (next : Option Precedence) → between from tightest next ≡ None
    → (n : ℕ) → looseness tightest ≤ n → n ≤ looseness from → numbered n next ≡ false
missed from tightest None h n l m = refl
missed from tightest (Some level) h n l m =
    go (not_both (leb (looseness tightest) (looseness level)) (leb (looseness level) (looseness from)) (if_none _ level h))
  where
    go : (leb (looseness tightest) (looseness level) ≡ false) ⊎ (leb (looseness level) (looseness from) ≡ false) → eqb n (looseness level) ≡ false
    go (inl a) = let k : looseness level < looseness tightest = leb-false _ _ a in ne_eqb n (looseness level) (λ same. omega (arith, k, l, same))
    go (inr b) = let k : looseness from < looseness level = leb-false _ _ b in ne_eqb n (looseness level) (λ same. omega (arith, k, m, same))

-- what follows what follows
after_after : {A B C : Type 0} (f : B → ℕ → List Lexeme → Outcome Lexeme C) (g : A → ℕ → List Lexeme → Outcome Lexeme B) (p : Outcome Lexeme A)
    → after f (after g p) ≡ after (λ x d us. after f (g x d us)) p
after_after f g (Got x d us) = refl
after_after f g (Bad deep us) = refl

after_same : {A B : Type 0} (f g : A → ℕ → List Lexeme → Outcome Lexeme B) (p : Outcome Lexeme A)
    → ((x : A) (d : ℕ) (us : List Lexeme) → f x d us ≡ g x d us) → after f p ≡ after g p
after_same f g (Got x d us) h = h x d us
after_same f g (Bad deep us) h = refl

module _ (room : ℕ) (s : Scope) where
  -- a level stands between what the next tighter one reads
  over_tighter : (l m : Precedence) (ts : List Lexeme) → tighter l s Return ≡ Call (Binary m s) Return
      → named room (Binary l s) ts ≡ after (λ x d us. past room (Binary l s) x d us) (named room (Binary m s) ts)
  over_tighter l m ts e =
      chain_rule room (Binary l s) (tighter l s Return) (binary_step l s) refl ts
      ∙ ap (λ g. after (λ x d us. past room (Binary l s) x d us) (reads (named room) g ts)) e
      ∙ ap (λ p. after (λ x d us. past room (Binary l s) x d us) p) (passed (named room (Binary m s) ts))

  over_number : (n : ℕ) (ts : List Lexeme) → n < 9
      → named room (Binary (level_at (suc n)) s) ts
      ≡ after (λ x d us. past room (Binary (level_at (suc n)) s) x d us) (named room (Binary (level_at n) s) ts)
  over_number zero ts l = over_tighter Additive Multiplicative ts refl
  over_number (suc zero) ts l = over_tighter Shift Additive ts refl
  over_number (suc (suc zero)) ts l = over_tighter Relational Shift ts refl
  over_number (suc (suc (suc zero))) ts l = over_tighter Equality Relational ts refl
  over_number (suc (suc (suc (suc zero)))) ts l = over_tighter BitwiseAnd Equality ts refl
  over_number (suc (suc (suc (suc (suc zero))))) ts l = over_tighter ExclusiveOr BitwiseAnd ts refl
  over_number (suc (suc (suc (suc (suc (suc zero)))))) ts l = over_tighter InclusiveOr ExclusiveOr ts refl
  over_number (suc (suc (suc (suc (suc (suc (suc zero))))))) ts l = over_tighter LogicalAnd InclusiveOr ts refl
  over_number (suc (suc (suc (suc (suc (suc (suc (suc zero)))))))) ts l = over_tighter LogicalOr LogicalAnd ts refl
  over_number (suc (suc (suc (suc (suc (suc (suc (suc (suc n))))))))) ts l = absurd (omega arith)

  opened : (first n : ℕ) (y : Expr) (f : ℕ) (us : List Lexeme) → first ≤ n → open_chain room s first n y f us ≡ past room (Binary (level_at n) s) y f us
  opened first n y f us l = ap (λ b. cond b (past room (Binary (level_at n) s) y f us) (Got y f us)) (le-leb first n l)

  begins_at : (n : ℕ) (ts : List Lexeme) → n < 10
      → named room (Binary (level_at n) s) ts ≡ after (λ x d us. chains room s 0 (suc n) x d us) (named room (Operand CastFront s) ts)
  begins_at zero ts l =
      chain_rule room (Binary Multiplicative s) (Call (Operand CastFront s) Return) (binary_step Multiplicative s) refl ts
      ∙ ap (λ p. after (λ x d us. past room (Binary Multiplicative s) x d us) p) (passed (named room (Operand CastFront s) ts))
  begins_at (suc n) ts l =
      over_number n ts (omega arith)
      ∙ ap (λ p. after (λ x d us. past room (Binary (level_at (suc n)) s) x d us) p) (begins_at n ts (omega arith))
      ∙ after_after (λ x d us. past room (Binary (level_at (suc n)) s) x d us) (λ x d us. chains room s 0 (suc n) x d us) (named room (Operand CastFront s) ts)
      ∙ after_same (λ x d us. after (λ y f vs. past room (Binary (level_at (suc n)) s) y f vs) (chains room s 0 (suc n) x d us))
      (λ x d us. chains room s 0 (suc (suc n)) x d us) (named room (Operand CastFront s) ts) (λ x d us.
      after_same (λ y f vs. past room (Binary (level_at (suc n)) s) y f vs) (λ y f vs. open_chain room s 0 (suc n) y f vs) (chains room s 0 (suc n) x d us)
      (λ y f vs. sym (opened 0 (suc n) y f vs (omega arith))))

  module _ (first : ℕ) (x : Expr) (d : ℕ) (ts : List Lexeme) where
    -- a level that doesn't go on
    closed : (n : ℕ) (b : Bool) → leb first n ≡ b → (first ≤ n → sees (is_among (operators (level_at n))) ts ≡ false)
        → cond b (past room (Binary (level_at n) s) x d ts) (Got x d ts) ≡ Got x d ts
    closed n true e h =
        past_ends room (Binary (level_at n) s) (tighter (level_at n) s Return) (binary_step (level_at n) s) refl x d ts (h (leb-true first n e))
    closed n false e h = refl

    -- no level goes on
    all_closed : (n : ℕ) → ((i : ℕ) → first ≤ i → i < n → sees (is_among (operators (level_at i))) ts ≡ false) → chains room s first n x d ts ≡ Got x d ts
    all_closed zero h = refl
    all_closed (suc n) h =
        ap (λ p. after (λ y f us. open_chain room s first n y f us) p) (all_closed n (λ i l m. h i l (omega (arith, m))))
        ∙ closed n (leb first n) refl (λ l. h n l (omega arith))

  none_tighter : (n : ℕ) (y : Expr) (f : ℕ) (us : List Lexeme) → chains room s n n y f us ≡ Got y f us
  none_tighter n y f us = all_closed n y f us n (λ i l m. absurd (omega (arith, l, m)))

  -- the level that goes on, where no tighter one does
  module _ (first m : ℕ) (x : Expr) (d : ℕ) (ts : List Lexeme) (p : Outcome Lexeme Expr) (low : first ≤ m)
      (tight : (i : ℕ) → first ≤ i → i < m → sees (is_among (operators (level_at i))) ts ≡ false)
      (goes : past room (Binary (level_at m) s) x d ts ≡ after (λ y f us. past room (Binary (level_at m) s) y f us) p) where
    goes_here : chains room s first (suc m) x d ts ≡ after (λ y f us. chains room s m (suc m) y f us) p
    goes_here =
        ap (λ q. after (λ y f us. open_chain room s first m y f us) q) (all_closed first x d ts m tight)
        ∙ opened first m x d ts low ∙ goes
        ∙ after_same _ (λ y f us. chains room s m (suc m) y f us) p (λ y f us.
        sym (ap (λ q. after (λ z g vs. open_chain room s m m z g vs) q) (none_tighter m y f us) ∙ opened m m y f us (omega arith)))

    goes_at : (n : ℕ) → m < n → chains room s first n x d ts ≡ after (λ y f us. chains room s m n y f us) p
    goes_at zero l = absurd (omega arith)
    goes_at (suc n) l = go (leb (suc m) n) refl (λ k. goes_at n k)
      where
        go : (b : Bool) → leb (suc m) n ≡ b → (m < n → chains room s first n x d ts ≡ after (λ y f us. chains room s m n y f us) p)
            → chains room s first (suc n) x d ts ≡ after (λ y f us. chains room s m (suc n) y f us) p
        go true e h =
            let k : m < n = leb-true (suc m) n e in
            let high : m ≤ n = omega (arith, k) in
            let higher : first ≤ n = omega (arith, k, low) in
            ap (λ q. after (λ y f us. open_chain room s first n y f us) q) (h k)
            ∙ after_after (λ y f us. open_chain room s first n y f us) (λ y f us. chains room s m n y f us) p
            ∙ after_same _ _ p (λ y f us.
            after_same (λ z g vs. open_chain room s first n z g vs) (λ z g vs. open_chain room s m n z g vs) (chains room s m n y f us)
            (λ z g vs. opened first n z g vs higher ∙ sym (opened m n z g vs high)))
        go false e h =
            let same : m ≡ n = omega (arith, l, leb-false (suc m) n e) in
            subst (λ i. chains room s first (suc i) x d ts ≡ after (λ y f us. chains room s m (suc i) y f us) p) same goes_here

pub climb_begins : (room : ℕ) (s : Scope) (from : Precedence) (ts : List Lexeme)
    → named room (Binary from s) ts ≡ after (λ x d us. climbs room s from o.Multiplicative x d us) (named room (Operand CastFront s) ts)
unfolding climbs
climb_begins room s from ts =
    subst (λ l. named room (Binary l s) ts ≡ after (λ x d us. chains room s 0 (suc (looseness from)) x d us) (named room (Operand CastFront s) ts))
    (level_number from) (begins_at room s (looseness from) ts (number_below from))

pub climb_ends : (room : ℕ) (s : Scope) (from tightest : Precedence) (x : Expr) (d : ℕ) (ts : List Lexeme)
    → next_level from tightest ts ≡ None → climbs room s from tightest x d ts ≡ Got x d ts
unfolding climbs next_level
climb_ends room s from tightest x d ts h =
    all_closed room s (looseness tightest) x d ts (suc (looseness from)) (λ i l m.
    seen_level i (omega (arith, m, number_below from)) ts ∙ missed from tightest (operators_of (head ts).terminal) h i l (omega (arith, m)))

-- where an operator of a level comes next, and no tighter level is open
module _ (room : ℕ) (s : Scope) (from tightest level : Precedence) (x : Expr) (d : ℕ) (ts : List Lexeme) (h : next_level from tightest ts ≡ Some level) where
  is_found : (operators_of (head ts).terminal ≡ Some level) × (looseness tightest ≤ looseness level) × (looseness level ≤ looseness from)
  unfolding next_level
  is_found = found from tightest level (operators_of (head ts).terminal) h

  seen_here : sees (is_among (operators (level_at (looseness level)))) ts ≡ true
  seen_here =
      seen_level (looseness level) (number_below level) ts ∙ ap (λ next. numbered (looseness level) next) is_found.0 ∙ same_number (looseness level)

  tighter_closed : (i : ℕ) → looseness tightest ≤ i → i < looseness level → sees (is_among (operators (level_at i))) ts ≡ false
  tighter_closed i l m =
      seen_level i (omega (arith, m, number_below level)) ts ∙ ap (λ next. numbered i next) is_found.0
      ∙ ne_eqb i (looseness level) (λ same. omega (arith, m, same))

  climbs_by : (p : Outcome Lexeme Expr)
      → past room (Binary (level_at (looseness level)) s) x d ts ≡ after (λ y f us. past room (Binary (level_at (looseness level)) s) y f us) p
      → climbs room s from tightest x d ts ≡ after (λ y f us. climbs room s from level y f us) p
  unfolding climbs
  climbs_by p goes =
      goes_at room s (looseness tightest) (looseness level) x d ts p is_found.1 tighter_closed goes (suc (looseness from)) (omega (arith, is_found.2))

-- a step, as the node that it makes
right_side : (room : ℕ) (s : Scope) (level : Precedence) (ts : List Lexeme) (rest : Expr → Reading Expr)
    → reads (named room) (tighter level s rest) ts ≡ after (λ b f left. deepen f (reads (named room) (rest b) left)) (right_of room level s ts)
right_side room s o.Multiplicative ts rest = refl
right_side room s o.Additive ts rest = refl
right_side room s o.Shift ts rest = refl
right_side room s o.Relational ts rest = refl
right_side room s o.Equality ts rest = refl
right_side room s o.BitwiseAnd ts rest = refl
right_side room s o.ExclusiveOr ts rest = refl
right_side room s o.InclusiveOr ts rest = refl
right_side room s o.LogicalAnd ts rest = refl
right_side room s o.LogicalOr ts rest = refl

step_node : (room : ℕ) (s : Scope) (level : Precedence) (x : Expr) (d : ℕ) (ts : List Lexeme) → sees (is_among (operators level)) ts ≡ true
    → joined d (reads (named room) (binary_step level s x) ts)
    ≡ binary_node x d (binary_operator (head ts).terminal) (place (head ts)) (right_of room level s (behind ts))
step_node room s level x d ts h =
    ap (λ b. joined d (cond b (reads (named room) (tighter level s (λ b. Return (e.Binary (place_of x) x (binary_operator (head ts).terminal) (place (head ts)) b))) (behind ts)) (Bad false ts))) h
    ∙ ap (λ q. joined d q) (right_side room s level (behind ts) (λ b. Return (e.Binary (place_of x) x (binary_operator (head ts).terminal) (place (head ts)) b)))
    ∙ binary_step_node x d (binary_operator (head ts).terminal) (place (head ts)) (right_of room level s (behind ts))

pub climb_full : (room : ℕ) (s : Scope) (from tightest : Precedence) (x : Expr) (d : ℕ) (ts : List Lexeme) (level : Precedence)
    → next_level from tightest ts ≡ Some level → room ≤ d → climbs room s from tightest x d ts ≡ Bad true ts
climb_full room s from tightest x d ts level h l =
    climbs_by room s from tightest level x d ts h (Bad true ts)
    (past_full room (Binary (level_at (looseness level)) s) (tighter (level_at (looseness level)) s Return) (binary_step (level_at (looseness level)) s) refl x d ts
    (seen_here room s from tightest level x d ts h) l)

climb_goes : (room : ℕ) (s : Scope) (from tightest : Precedence) (x : Expr) (d : ℕ) (ts : List Lexeme) (level : Precedence)
    → next_level from tightest ts ≡ Some level → d < room
    → climbs room s from tightest x d ts
    ≡ after (λ y f us. climbs room s from level y f us)
    (binary_node x d (binary_operator (head ts).terminal) (place (head ts)) (on_right (room - 1) level s (behind ts)))
unfolding on_right
climb_goes room s from tightest x d ts level h l =
    climbs_by room s from tightest level x d ts h
    (binary_node x d (binary_operator (head ts).terminal) (place (head ts)) (right_of (room - 1) level s (behind ts)))
    (subst (λ m. sees (is_among (operators m)) ts ≡ true
    → past room (Binary m s) x d ts
    ≡ after (λ y f us. past room (Binary m s) y f us)
    (binary_node x d (binary_operator (head ts).terminal) (place (head ts)) (right_of (room - 1) level s (behind ts)))) (sym (level_number level))
    (λ seen. past_goes room (Binary level s) (tighter level s Return) (binary_step level s) refl x d ts seen l
    ∙ ap (λ q. after (λ y f us. past room (Binary level s) y f us) q) (step_node (room - 1) s level x d ts seen))
    (seen_here room s from tightest level x d ts h))

-- a whole that goes on so, with what the operator makes of it
pub climb_on : (whole : Outcome Lexeme Expr) (room : ℕ) (s r : Scope) (from tightest : Precedence) (x : Expr) (d : ℕ) (ts : List Lexeme) (level : Precedence)
    (y : Expr) (f : ℕ) (us : List Lexeme)
    → whole ≡ climbs room s from tightest x d ts → next_level from tightest ts ≡ Some level → d < room → r ≡ s
    → binary_node x d (binary_operator (head ts).terminal) (place (head ts)) (on_right (room - 1) level r (behind ts)) ≡ Got y f us
    → whole ≡ climbs room s from level y f us
climb_on whole room s r from tightest x d ts level y f us h next l same node =
    h ∙ climb_goes room s from tightest x d ts level next l
    ∙ ap (λ q. after (λ z g vs. climbs room s from level z g vs) q)
    (ap (λ k. binary_node x d (binary_operator (head ts).terminal) (place (head ts)) (on_right (room - 1) level k (behind ts))) (sym same) ∙ node)

pub climb_off : (whole : Outcome Lexeme Expr) (room : ℕ) (s r : Scope) (from tightest : Precedence) (x : Expr) (d : ℕ) (ts : List Lexeme) (level : Precedence)
    (refusal : Refusal) (us : List Lexeme)
    → whole ≡ climbs room s from tightest x d ts → next_level from tightest ts ≡ Some level → d < room → r ≡ s
    → Says (binary_node x d (binary_operator (head ts).terminal) (place (head ts)) (on_right (room - 1) level r (behind ts))) (Err refusal) us
    → Says whole (Err refusal) us
climb_off whole room s r from tightest x d ts level NoMemory us h next l same node = tt
climb_off whole room s r from tightest x d ts level (Refused deep) us h next l same node =
    h ∙ climb_goes room s from tightest x d ts level next l
    ∙ ap (λ q. after (λ z g vs. climbs room s from level z g vs) q)
    (ap (λ k. binary_node x d (binary_operator (head ts).terminal) (place (head ts)) (on_right (room - 1) level k (behind ts))) (sym same) ∙ node)

none_at_end : (from tightest : Precedence) → next_level from tightest [] ≡ None
unfolding next_level head
none_at_end from tightest = refl

pub level_less : (from tightest : Precedence) (ts : List Lexeme) (level : Precedence) → next_level from tightest ts ≡ Some level → length (behind ts) < length ts
unfolding behind
level_less from tightest [] level h =
    let e : next_level from tightest [] ≡ None = none_at_end from tightest in
    let clash : ⊥ = cc in
    absurd clash
level_less from tightest (t ∷ ts) level h = omega arith
