-- Parts that are read by a function of their own, and the parts behind them.
use Rattle.std.proofs.Common.{◌≡◌, refl, ℕ, zero, max, Bool, true, false, cond, List, [], ◌∷◌, ◌++◌, None, ap, ◌∙◌, sym, append_assoc, length, ◌<◌, ◌≤◌, arith}
use Rattle.grammar.specs.Parts.{Return, Take, Call, Either}
use Rattle.grammar.specs.Parser.{Outcome, Got, Bad, begins, after, deepen}
use Rattle.c_grammar.specs.Lexemes.{Lexeme}
use Rattle.c_grammar.specs.Rules.{Rule, ValueOf}
use Rattle.c_grammar.specs.Expressions.{Reading}
use Rattle.c_grammar.specs.Lookahead.{c_lookahead}
use Rattle.parse_input.specs.Input.{Input, head, behind, sees, after_token}
use Rattle.parse_input.specs.Reads.{named, reads, behind_items}
use Rattle.parse_input.proofs.Steps.{sees_less, shorter, less, reads_shorter}

deepen_twice : {A : Type 0} (d e : ℕ) (o : Outcome Lexeme A) → deepen d (deepen e o) ≡ deepen (max d e) o
deepen_twice d e (Got x f us) = ap (λ n. Got x n us) (omega arith)
deepen_twice d e (Bad deep us) = refl

pub deepen_none : {A : Type 0} (o : Outcome Lexeme A) → deepen zero o ≡ o
deepen_none (Got x d us) = ap (λ n. Got x n us) (omega arith)
deepen_none (Bad deep us) = refl

module _ {A B : Type 0} (next : A → Reading B) where
  -- the parts, and behind them those that their value asks for
  abbrev pub followed : Reading A → Reading B
  followed (Return x) = next x
  followed (Take test rest) = Take test (λ t. followed (rest t))
  followed (Call n rest) = Call n (λ a. followed (rest a))
  followed (Either one other) = Either (followed one) (followed other)

  -- of two parts, the first begins alike with what follows
  abbrev pub Begins : Reading A → Type 0
  Begins (Return x) = Unit {0}
  Begins (Take test rest) = (t : Lexeme) → Begins (rest t)
  Begins (Call n rest) = (a : ValueOf n) → Begins (rest a)
  Begins (Either one other) =
      ((ts : List Lexeme) → sees (begins c_lookahead (followed one)) ts ≡ sees (begins c_lookahead one) ts) × Begins one × Begins other

  module _ (call : (n : Rule) → List Lexeme → Outcome Lexeme (ValueOf n)) where
    abbrev go_on : Outcome Lexeme A → Outcome Lexeme B
    go_on o = after (λ a d left. deepen d (reads call (next a) left)) o

    deepen_on : (d : ℕ) (o : Outcome Lexeme A) → deepen d (go_on o) ≡ go_on (deepen d o)
    deepen_on d (Got x e us) = deepen_twice d e (reads call (next x) us)
    deepen_on d (Bad deep us) = refl

    both : (b : Bool) (o p : Outcome Lexeme A) → cond b (go_on o) (go_on p) ≡ go_on (cond b o p)
    both true o p = refl
    both false o p = refl

    pub reads_followed : (g : Reading A) (ts : List Lexeme) → Begins g → reads call (followed g) ts ≡ go_on (reads call g ts)
    reads_followed (Return x) ts h = sym (deepen_none (reads call (next x) ts))
    reads_followed (Take test rest) ts h =
        ap (λ o. cond (sees test ts) o (Bad false ts)) (reads_followed (rest (head ts)) (behind ts) (h (head ts)))
        ∙ both (sees test ts) (reads call (rest (head ts)) (behind ts)) (Bad false ts)
    reads_followed (Call n rest) ts h = go (call n ts) (λ a left. reads_followed (rest a) left (h a))
      where
        go : (o : Outcome Lexeme (ValueOf n)) → ((a : ValueOf n) (left : List Lexeme) → reads call (followed (rest a)) left ≡ go_on (reads call (rest a) left))
            → after (λ a d left. deepen d (reads call (followed (rest a)) left)) o ≡ go_on (after (λ a d left. deepen d (reads call (rest a) left)) o)
        go (Got a d left) ih = ap (λ o. deepen d o) (ih a left) ∙ deepen_on d (reads call (rest a) left)
        go (Bad deep left) ih = refl
    reads_followed (Either one other) ts h =
        ap (λ b. cond b (reads call (followed one) ts) (reads call (followed other) ts)) (h.0 ts)
        ∙ ap (λ o. cond (sees (begins c_lookahead one) ts) o (reads call (followed other) ts)) (reads_followed one ts h.1)
        ∙ ap (λ o. cond (sees (begins c_lookahead one) ts) (go_on (reads call one ts)) o) (reads_followed other ts h.2)
        ∙ both (sees (begins c_lookahead one) ts) (reads call one ts) (reads call other ts)

-- one item more of a list that is read
pub one_more_item : {A : Type 0} (xs : List A) (x : A) (o : Outcome Lexeme (List A))
    → behind_items xs (deepen zero (after (λ more d left. deepen d (Got (x ∷ more) zero left)) o)) ≡ behind_items (xs ++ x ∷ []) o
one_more_item xs x (Got more d left) = ap (λ all. Got all (max 0 (max d 0)) left) (sym (append_assoc xs (x ∷ []) more)) ∙ ap (λ n. Got ((xs ++ x ∷ []) ++ more) n left) (omega arith)
one_more_item xs x (Bad deep left) = refl

-- the same with what is deeper: items so far, one more, and the last
pub items_begin : {A : Type 0} (o : Outcome Lexeme (List A)) → o ≡ deepen 0 (behind_items [] o)
items_begin (Got x d left) = ap (λ n. Got x n left) (omega arith)
items_begin (Bad deep left) = refl

pub item_goes : {A : Type 0} (xs : List A) (depth : ℕ) (x : A) (d : ℕ) (o : Outcome Lexeme (List A))
    → deepen depth (behind_items xs (deepen d (after (λ more e left. deepen e (Got (x ∷ more) zero left)) o))) ≡ deepen (max depth d) (behind_items (xs ++ x ∷ []) o)
item_goes xs depth x d (Got more e left) =
    ap (λ all. Got all (max depth (max d (max e 0))) left) (sym (append_assoc xs (x ∷ []) more)) ∙ ap (λ n. Got ((xs ++ x ∷ []) ++ more) n left) (omega arith)
item_goes xs depth x d (Bad deep left) = refl

pub item_ends : {A : Type 0} (xs : List A) (depth : ℕ) (x : A) (d : ℕ) (us : List Lexeme)
    → deepen depth (behind_items xs (deepen d (Got (x ∷ []) zero us))) ≡ Got (xs ++ x ∷ []) (max depth d) us
item_ends xs depth x d us = ap (λ n. Got (xs ++ x ∷ []) n us) (omega arith)

-- what is left falls by what is read and a token behind it, or one or two tokens and what is read behind them
behind_less : (ts : List Lexeme) → length (behind ts) ≤ length ts
unfolding behind
behind_less [] = omega arith
behind_less (t ∷ ts) = omega arith

-- what is read behind a token
pub behind_falls : {A : Type 0} (room : ℕ) (g : Reading A) (test : Lexeme → Bool) (ts : List Lexeme) → sees test ts ≡ true
    → (x : A) (d : ℕ) (us : List Lexeme) → reads (named room) g (behind ts) ≡ Got x d us → length us < length ts
behind_falls room g test ts s x d us e =
    let below = sees_less test ts s in let le = reads_shorter room g (behind ts) x d us e in omega arith

module _ (room : ℕ) (test : Lexeme → Bool) where
  module _ {A : Type 0} (g : Reading A) (x : A) (d : ℕ) where
    pub falls : (start middle left : Input) → reads (named room) g start.tokens ≡ Got x d middle.tokens → sees test middle.tokens ≡ true
        → left ≡ after_token middle → length left.tokens < length start.tokens
    falls start middle left e s f =
        let below = sees_less test middle.tokens s in let le = reads_shorter room g start.tokens x d middle.tokens e in rw f (omega arith)

    pub falls_behind : (start first left : Input) → sees test start.tokens ≡ true → first ≡ after_token start
        → reads (named room) g first.tokens ≡ Got x d left.tokens → length left.tokens < length start.tokens
    falls_behind start first left s f e = behind_falls room g test start.tokens s x d left.tokens (rw f at e)

    pub falls_behind_two : (start first second left : Input) → sees test start.tokens ≡ true → first ≡ after_token start → second ≡ after_token first
        → reads (named room) g second.tokens ≡ Got x d left.tokens → length left.tokens < length start.tokens
    falls_behind_two start first second left s f two e =
        let below = sees_less test start.tokens s in let also = behind_less (behind start.tokens) in
        let le = reads_shorter room g (behind (behind start.tokens)) x d left.tokens (rw (two, f) at e) in omega arith

  pub falls_rule : (n : Rule) (x : ValueOf n) (d : ℕ) (start middle left : Input) → named room n start.tokens ≡ Got x d middle.tokens
      → sees test middle.tokens ≡ true → left ≡ after_token middle → length left.tokens < length start.tokens
  falls_rule n x d start middle left e s f =
      let below = sees_less test middle.tokens s in let le = shorter room n start.tokens x d middle.tokens e in rw f (omega arith)

-- what begins with a rule that reads a token, at the least
pub call_falls : (room : ℕ) (n : Rule) {A : Type 0} (rest : ValueOf n → Reading A) (ts : List Lexeme) (x : A) (d : ℕ) (us : List Lexeme)
    → c_lookahead.nullable n ≡ None → reads (named room) (Call n rest) ts ≡ Got x d us → length us < length ts
call_falls room n rest ts x d us none e = go (named room n ts) refl e
  where
    settle : (a : ValueOf n) (c : ℕ) (vs : List Lexeme) (o : Outcome Lexeme _) → reads (named room) (rest a) vs ≡ o → deepen c o ≡ Got x d us
        → length vs < length ts → length us < length ts
    settle a c vs (Got y b ws) f h l =
        let same : ws ≡ us = cc in let le = reads_shorter room (rest a) vs y b ws f in omega (arith, ap length same)
    settle a c vs (Bad deep ws) f h l = let clash : ⊥ = cc in absurd clash

    go : (o : Outcome Lexeme (ValueOf n)) → named room n ts ≡ o → after (λ a c left. deepen c (reads (named room) (rest a) left)) o ≡ Got x d us
        → length us < length ts
    go (Got a c vs) f h = settle a c vs (reads (named room) (rest a) vs) refl h (less room n ts a c vs none f)
    go (Bad deep vs) f h = let clash : ⊥ = cc in absurd clash
