-- The parser leaves no more tokens than it was given.
use Rattle.std.proofs.Common.{◌≡◌, ℕ, zero, suc, ◌≤◌, max, Bool, true, false, cond, leb, List, [], ◌∷◌, length, refl, sym, subst, le_refl, le_trans, arith}
use Rattle.grammar.specs.Parts.{Parts, Return, Take, Call, Either, Production, Plain, Node, Chain, Grammar}
use Rattle.grammar.specs.Parser.{Lookahead, Outcome, Got, Bad, Entry, New, Past, starts, run, after, deepen, one_more, produce, go_on, parse_within, parse, steps_for}

-- how many tokens are left
abbrev pub left : {T A : Type 0} → Outcome T A → ℕ
left (Got x d rest) = length rest
left (Bad deep rest) = length rest

pub left_deepen : {T A : Type 0} (d : ℕ) (o : Outcome T A) → left (deepen d o) ≡ left o
left_deepen d (Got x e rest) = refl
left_deepen d (Bad deep rest) = refl

pub left_one_more : {T A : Type 0} (o : Outcome T A) → left (one_more o) ≡ left o
left_one_more (Got x e rest) = refl
left_one_more (Bad deep rest) = refl

pub after_short : {T A B : Type 0} (next : A → ℕ → List T → Outcome T B) → ((x : A) (d : ℕ) (us : List T) → left (next x d us) ≤ length us)
    → (l : ℕ) (o : Outcome T A) → left o ≤ l → left (after next o) ≤ l
after_short next short l (Got x d rest) h = le_trans (short x d rest) h
after_short next short l (Bad deep rest) h = h

cond_short : {T A : Type 0} (b : Bool) (l : ℕ) (o p : Outcome T A) → left o ≤ l → left p ≤ l → left (cond b o p) ≤ l
cond_short true l o p h k = h
cond_short false l o p h k = k

module _ {T N : Type 0} {V : N → Type 0} (lookahead : Lookahead T N V) (P : (m : N) → List T → Outcome T (V m))
    (short : (m : N) (us : List T) → left (P m us) ≤ length us) where
  pub run_short : {A : Type 0} (g : Parts T N V A) (us : List T) → left (run lookahead P g us) ≤ length us
  run_short (Return x) us = le_refl (length us)
  run_short (Take p k) [] = le_refl 0
  run_short (Take p k) (t ∷ us) =
      let h = run_short (k t) us in
      let one : left (run lookahead P (k t) us) ≤ length (t ∷ us) = omega arith in
      cond_short (p t) (length (t ∷ us)) (run lookahead P (k t) us) (Bad false (t ∷ us)) one (le_refl (length (t ∷ us)))
  run_short (Call m k) us =
      after_short (λ a d rest. deepen d (run lookahead P (k a) rest))
      (λ a d rest. subst (λ l. l ≤ length rest) (sym (left_deepen d (run lookahead P (k a) rest))) (run_short (k a) rest))
      (length us) (P m us) (short m us)
  run_short (Either g h) us = cond_short (starts lookahead g us) (length us) (run lookahead P g us) (run lookahead P h us) (run_short g us) (run_short h us)

module _ {T N : Type 0} {V : N → Type 0} (lookahead : Lookahead T N V) (n : N) (P : ℕ → (m : N) → List T → Outcome T (V m))
    (here : V n → ℕ → List T → Outcome T (V n))
    (short : (w : ℕ) (m : N) (us : List T) → left (P w m us) ≤ length us)
    (here_short : (x : V n) (d : ℕ) (us : List T) → left (here x d us) ≤ length us) where
  produce_short : (p : Production T N V (V n)) (room : ℕ) (ts : List T) → left (produce lookahead P here p room ts) ≤ length ts
  produce_short (Plain g) room ts = run_short lookahead (P room) (short room) g ts
  produce_short (Node g) zero ts = le_refl (length ts)
  produce_short (Node g) (suc room) ts =
      subst (λ l. l ≤ length ts) (sym (left_one_more (run lookahead (P room) g ts))) (run_short lookahead (P room) (short room) g ts)
  produce_short (Chain b step) room ts =
      after_short here here_short (length ts) (run lookahead (P room) b ts) (run_short lookahead (P room) (short room) b ts)

  go_on_short : (p : Production T N V (V n)) (room : ℕ) (x : V n) (d : ℕ) (ts : List T) → left (go_on lookahead P here p room x d ts) ≤ length ts
  go_on_short (Plain g) room x d ts = le_refl (length ts)
  go_on_short (Node g) room x d ts = le_refl (length ts)
  go_on_short (Chain b step) zero x d ts =
      cond_short (starts lookahead (step x) ts) (length ts) (Bad true ts) (Got x d ts) (le_refl (length ts)) (le_refl (length ts))
  go_on_short (Chain b step) (suc room) x d ts =
      cond_short (starts lookahead (step x) ts) (length ts)
      (cond (leb d room) (after (λ y deeper left. here y (suc (max d deeper)) left) (run lookahead (P room) (step x) ts)) (Bad true ts)) (Got x d ts)
      (cond_short (leb d room) (length ts)
      (after (λ y deeper left. here y (suc (max d deeper)) left) (run lookahead (P room) (step x) ts)) (Bad true ts)
      (after_short (λ y deeper left. here y (suc (max d deeper)) left) (λ y e us. here_short y (suc (max d e)) us) (length ts)
      (run lookahead (P room) (step x) ts) (run_short lookahead (P room) (short room) (step x) ts))
      (le_refl (length ts)))
      (le_refl (length ts))

module _ (gr : Grammar) (lookahead : Lookahead gr.Token gr.Name gr.Value) where
  within_short : (k room : ℕ) (n : gr.Name) (e : Entry (gr.Value n)) (ts : List gr.Token)
      → left (parse_within gr lookahead k room n e ts) ≤ length ts
  within_short zero room n e ts = le_refl (length ts)
  within_short (suc k) room n New ts =
      produce_short lookahead n (λ w m us. parse_within gr lookahead k w m New us) (λ y d us. parse_within gr lookahead k room n (Past y d) us)
      (λ w m us. within_short k w m New us) (λ y d us. within_short k room n (Past y d) us) (gr.production n) room ts
  within_short (suc k) room n (Past x d) ts =
      go_on_short lookahead n (λ w m us. parse_within gr lookahead k w m New us) (λ y e us. parse_within gr lookahead k room n (Past y e) us)
      (λ w m us. within_short k w m New us) (λ y e us. within_short k room n (Past y e) us) (gr.production n) room x d ts

  pub parse_short : (room : ℕ) (n : gr.Name) (e : Entry (gr.Value n)) (ts : List gr.Token) → left (parse gr lookahead room n e ts) ≤ length ts
  unfolding parse
  parse_short room n e ts = within_short (steps_for gr lookahead n e ts) room n e ts
