-- Each kind of rule as an equation over `reads`, for the code that reads it. At a rule that is written out the premise
-- about its production is `refl`.
use Rattle.std.proofs.Common.{◌≡◌, refl, ℕ, zero, suc, ◌-◌, ◌<◌, ◌≤◌, max, Bool, true, false, cond, List, [], ◌∷◌, ◌++◌, length, None, ap, ◌∙◌, sym, subst, append_assoc, append-nil, arith}
use Rattle.grammar.specs.Parts.{Return, Take, Call, Either, Plain, Node, Chain}
use Rattle.grammar.specs.LL1.{IsLL1Production}
use Rattle.grammar.specs.Parser.{Outcome, Got, Bad, run, starts, begins, after, deepen, one_more}
use Rattle.grammar.proofs.Walk as walk
use Rattle.c_grammar.specs.Lexemes.{Lexeme}
use Rattle.c_grammar.specs.Rules.{Rule, ValueOf}
use Rattle.c_grammar.specs.Expressions.{Reading}
use Rattle.c_grammar.specs.Grammar.{c_grammar}
use Rattle.c_grammar.specs.Lookahead.{c_lookahead, first_of}
use Rattle.c_grammar.proofs.Fit.{c_grammar_fits}
use Rattle.parse_input.specs.Input.{head, behind, is_done, sees}
use Rattle.parse_input.specs.Reads.{named, past, reads, joined, behind_items}

-- the next token
pub starts_sees : {A : Type 0} (g : Reading A) (ts : List Lexeme) → starts c_lookahead g ts ≡ sees (begins c_lookahead g) ts
unfolding sees
starts_sees g [] = refl
starts_sees g (t ∷ ts) = refl

pub sees_none : (test : Lexeme → Bool) (ts : List Lexeme) → is_done ts ≡ true → sees test ts ≡ false
unfolding sees is_done
sees_none test [] e = refl
sees_none test (t ∷ ts) e = cc

pub sees_head : (test : Lexeme → Bool) (ts : List Lexeme) → is_done ts ≡ false → sees test ts ≡ test (head ts)
unfolding sees is_done head
sees_head test [] e = cc
sees_head test (t ∷ ts) e = refl

pub sees_less : (test : Lexeme → Bool) (ts : List Lexeme) → sees test ts ≡ true → length (behind ts) < length ts
unfolding sees behind
sees_less test [] e = cc
sees_less test (t ∷ ts) e = omega arith

-- the parts in order, as the theory has them
module _ (call : (n : Rule) → List Lexeme → Outcome Lexeme (ValueOf n)) where
  pub run_reads : {A : Type 0} (g : Reading A) (ts : List Lexeme) → run c_lookahead call g ts ≡ reads call g ts
  unfolding sees head behind
  run_reads (Return x) ts = refl
  run_reads (Take test rest) [] = refl
  run_reads (Take test rest) (t ∷ ts) = ap (λ o. cond (test t) o (Bad false (t ∷ ts))) (run_reads (rest t) ts)
  run_reads (Call n rest) ts = go (call n ts) (λ a left. run_reads (rest a) left)
    where
      go : (o : Outcome Lexeme (ValueOf n)) → ((a : ValueOf n) (left : List Lexeme) → run c_lookahead call (rest a) left ≡ reads call (rest a) left)
          → after (λ a depth left. deepen depth (run c_lookahead call (rest a) left)) o ≡ after (λ a depth left. deepen depth (reads call (rest a) left)) o
      go (Got a depth left) h = ap (λ o. deepen depth o) (h a left)
      go (Bad deep left) h = refl
  run_reads (Either one other) ts =
      ap (λ b. cond b (run c_lookahead call one ts) (run c_lookahead call other ts)) (starts_sees one ts)
      ∙ ap (λ o. cond (sees (begins c_lookahead one) ts) o (run c_lookahead call other ts)) (run_reads one ts)
      ∙ ap (λ o. cond (sees (begins c_lookahead one) ts) (reads call one ts) o) (run_reads other ts)

-- what is no node
pub plain_rule : (room : ℕ) (n : Rule) (ts : List Lexeme) (g : Reading (ValueOf n)) → c_grammar.production n ≡ Plain g
    → named room n ts ≡ reads (named room) g ts
unfolding named
plain_rule room n ts g e = walk.at_plain c_grammar c_lookahead c_grammar_fits room n ts g e ∙ run_reads (named room) g ts

-- a node, for which there is room or none
pub node_rule : (room : ℕ) (n : Rule) (ts : List Lexeme) (g : Reading (ValueOf n)) → c_grammar.production n ≡ Node g → 0 < room
    → named room n ts ≡ one_more (reads (named (room - 1)) g ts)
unfolding named
node_rule room n ts g e l = walk.at_node c_grammar c_lookahead c_grammar_fits room n ts g e l ∙ ap (λ o. one_more o) (run_reads (named (room - 1)) g ts)

pub full_rule : (room : ℕ) (n : Rule) (ts : List Lexeme) (g : Reading (ValueOf n)) → c_grammar.production n ≡ Node g → room ≡ 0
    → named room n ts ≡ Bad (sees (first_of n) ts) ts
unfolding named sees
full_rule (suc room) n ts g e r = cc
full_rule zero n [] g e r = walk.no_node c_grammar c_lookahead c_grammar_fits n [] g e
full_rule zero n (t ∷ ts) g e r = walk.no_node c_grammar c_lookahead c_grammar_fits n (t ∷ ts) g e ∙ ap (λ b. Bad b (t ∷ ts)) (sym (first.0 t))
  where
    first : IsLL1Production c_lookahead n (Node g)
    first = subst (λ p. IsLL1Production c_lookahead n p) e (c_grammar_fits n).1

-- a chain: its beginning, and its rest
module _ (room : ℕ) (n : Rule) (start : Reading (ValueOf n)) (step : ValueOf n → Reading (ValueOf n)) (e : c_grammar.production n ≡ Chain start step) where
  pub chain_rule : (ts : List Lexeme) → named room n ts ≡ after (λ x d us. past room n x d us) (reads (named room) start ts)
  unfolding named past
  chain_rule ts =
      walk.at_chain c_grammar c_lookahead c_grammar_fits room n ts start step e ∙ ap (λ o. after (λ x d us. past room n x d us) o) (run_reads (named room) start ts)

  pub past_ends : (x : ValueOf n) (d : ℕ) (ts : List Lexeme) → sees (begins c_lookahead (step x)) ts ≡ false → past room n x d ts ≡ Got x d ts
  unfolding past
  past_ends x d ts s = walk.chain_end c_grammar c_lookahead c_grammar_fits room n x d ts start step e (starts_sees (step x) ts ∙ s)

  pub past_full : (x : ValueOf n) (d : ℕ) (ts : List Lexeme) → sees (begins c_lookahead (step x)) ts ≡ true → room ≤ d → past room n x d ts ≡ Bad true ts
  unfolding past
  past_full x d ts s l = walk.chain_full c_grammar c_lookahead c_grammar_fits room n x d ts start step e (starts_sees (step x) ts ∙ s) l

  over : (x : ValueOf n) (d : ℕ) (o : Outcome Lexeme (ValueOf n))
      → after (λ y f us. past room n y (suc (max d f)) us) o ≡ after (λ y f us. past room n y f us) (joined d o)
  over x d (Got y f us) = refl
  over x d (Bad deep us) = refl

  -- what goes on with the step, read as one node with what was read before
  pub past_goes : (x : ValueOf n) (d : ℕ) (ts : List Lexeme) → sees (begins c_lookahead (step x)) ts ≡ true → d < room
      → past room n x d ts ≡ after (λ y f us. past room n y f us) (joined d (reads (named (room - 1)) (step x) ts))
  unfolding named past
  past_goes x d ts s l =
      walk.chain_goes c_grammar c_lookahead c_grammar_fits room n x d ts start step e (starts_sees (step x) ts ∙ s) l
      ∙ ap (λ o. after (λ y f us. past room n y (suc (max d f)) us) o) (run_reads (named (room - 1)) (step x) ts)
      ∙ over x d (reads (named (room - 1)) (step x) ts)

-- what was read is no deeper than its room, and leaves no more tokens
pub within : (room : ℕ) (n : Rule) (ts : List Lexeme) (x : ValueOf n) (d : ℕ) (rest : List Lexeme) → named room n ts ≡ Got x d rest → d ≤ room
unfolding named
within room n ts x d rest e = walk.within c_grammar c_lookahead c_grammar_fits room n ts x d rest e

pub shorter : (room : ℕ) (n : Rule) (ts : List Lexeme) (x : ValueOf n) (d : ℕ) (rest : List Lexeme) → named room n ts ≡ Got x d rest
    → length rest ≤ length ts
unfolding named
shorter room n ts x d rest e = walk.shorter c_grammar c_lookahead c_grammar_fits room n ts x d rest e

pub less : (room : ℕ) (n : Rule) (ts : List Lexeme) (x : ValueOf n) (d : ℕ) (rest : List Lexeme) → c_lookahead.nullable n ≡ None
    → named room n ts ≡ Got x d rest → length rest < length ts
unfolding named
less room n ts x d rest none e = walk.less c_grammar c_lookahead c_grammar_fits room n ts x d rest none e

-- parts that read
module _ (room : ℕ) {A : Type 0} (g : Reading A) (ts : List Lexeme) (x : A) (d : ℕ) (rest : List Lexeme) (e : reads (named room) g ts ≡ Got x d rest) where
  pub reads_within : d ≤ room
  unfolding named
  reads_within = walk.run_within c_grammar c_lookahead c_grammar_fits room g ts x d rest (run_reads (λ m us. named room m us) g ts ∙ e)

  pub reads_shorter : length rest ≤ length ts
  unfolding named
  reads_shorter = walk.run_shorter c_grammar c_lookahead c_grammar_fits room g ts x d rest (run_reads (λ m us. named room m us) g ts ∙ e)

pub max_zero : (n : ℕ) → max n 0 ≡ n
max_zero n = omega arith

pub joined_got : {A : Type 0} (d : ℕ) (o : Outcome Lexeme A) (x : A) (e : ℕ) (us : List Lexeme) → o ≡ Got x e us → joined d o ≡ Got x (suc (max d e)) us
joined_got d o x e us h = ap (λ p. joined d p) h

pub joined_bad : {A : Type 0} (d : ℕ) (o : Outcome Lexeme A) (deep : Bool) (us : List Lexeme) → o ≡ Bad deep us → joined d o ≡ Bad deep us
joined_bad d o deep us h = ap (λ p. joined d p) h

-- items in front of a list that is read
pub behind_none : {A : Type 0} (o : Outcome Lexeme (List A)) → o ≡ behind_items [] o
behind_none (Got x d left) = refl
behind_none (Bad deep left) = refl

pub behind_both : {A : Type 0} (xs ys : List A) (o : Outcome Lexeme (List A)) → behind_items xs (behind_items ys o) ≡ behind_items (xs ++ ys) o
behind_both xs ys (Got x d left) = ap (λ all. Got all d left) (sym (append_assoc xs ys x))
behind_both xs ys (Bad deep left) = refl

pub item_first : {A : Type 0} (x : A) (o : Outcome Lexeme (List A))
    → after (λ more d left. deepen d (Got (x ∷ more) zero left)) o ≡ behind_items (x ∷ []) o
item_first x (Got more d left) = ap (λ n. Got (x ∷ more) n left) (max_zero d)
item_first x (Bad deep left) = refl

pub items_end : {A : Type 0} (xs : List A) (d : ℕ) (us : List Lexeme) → behind_items xs (Got [] d us) ≡ Got xs d us
items_end xs d us = ap (λ all. Got all d us) (append-nil xs)
