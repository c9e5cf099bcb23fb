-- Every reading is found: what is read, where what follows may follow it, is what the parser gives, with no
-- greater depth; or it stopped for the depth, and had less room than the reading takes.
use Rattle.std.proofs.Common.{◌≡◌, ℕ, zero, suc, ◌≤◌, ◌<◌, max, Bool, true, false, cond, ◌||◌, leb, List, [], ◌∷◌, ◌++◌, Some, None, ◌⊎◌, inl, inr, refl, sym, ap, ap₂, ◌∙◌, subst, zero-le, append_assoc, leb-false, arith}
use Rattle.grammar.specs.Parts.{Parts, Return, Take, Call, Either, Production, Plain, Node, Chain, Grammar}
use Rattle.grammar.specs.Reading.{PartsRead, WholeRead, Reads}
use Rattle.grammar.specs.Parser.{Lookahead, Outcome, Got, Bad, New, Past, nothing, begins, starts, run, after, deepen, one_more, produce, go_on, parse}
use Rattle.grammar.specs.LL1.{Decided, IsLL1Production, IsLL1, goes_on}
use Rattle.grammar.proofs.Lists.{or_left, or_right, not_true}
use Rattle.grammar.proofs.Up.{Reader, parts_read_begun}
use Rattle.grammar.proofs.First.{parts_empty, parts_first, reads_empty, reads_begins}
use Rattle.grammar.proofs.Step.{parse_step}

-- the next token, where there is one, passes a test
abbrev pub Next : {T : Type 0} → (T → Bool) → List T → Type 0
Next test [] = Unit {0}
Next test (t ∷ ts) = test t ≡ true

pub next_map : {T : Type 0} (p q : T → Bool) → ((t : T) → p t ≡ true → q t ≡ true) → (ts : List T) → Next p ts → Next q ts
next_map p q f [] h = tt
next_map p q f (t ∷ ts) h = f t h

-- it stopped for the depth at room r, where q is needed
abbrev pub Stopped : {T A : Type 0} → ℕ → ℕ → Outcome T A → Type 0
Stopped {T} q r o = (r < q) × (s : List T) × (o ≡ Bad true s)

-- it gave this value and what is left, or stopped for the depth
abbrev pub Hits : {T A : Type 0} → ℕ → ℕ → A → List T → Outcome T A → Type 0
Hits q r x rest o = ((d : ℕ) × (d ≤ q) × (o ≡ Got x d rest)) ⊎ Stopped q r o

-- the same, where the answer is what goes on behind the value
abbrev pub Reaches : {T A : Type 0} → ℕ → ℕ → (ℕ → Outcome T A) → Outcome T A → Type 0
Reaches q r behind o = ((d : ℕ) × (d ≤ q) × (o ≡ behind d)) ⊎ Stopped q r o

module _ {T N : Type 0} {V : N → Type 0} (lookahead : Lookahead T N V) (R : Reader T N V)
    (em : (n : N) (x : V n) → R n [] x → lookahead.nullable n ≡ Some x)
    (fr : (n : N) (t : T) (ts : List T) (x : V n) → R n (t ∷ ts) x → lookahead.first n t ≡ true) where
  pub parts_starts : {A : Type 0} (g : Parts T N V A) (t : T) (ts : List T) (x : A) → PartsRead R g (t ∷ ts) x → begins lookahead g t ≡ true
  parts_starts g t ts x h =
      parts_first lookahead R (λ n us. ⊥) em fr (λ n c us b. absurd b) g t ts (parts_read_begun R (λ n us. ⊥) g (t ∷ ts) x h)

  -- what is read without the first alternative begins not with it
  pub other_starts : {A : Type 0} (follows : A → T → Bool) (one other : Parts T N V A) → Decided lookahead follows (Either one other)
      → (u : List T) (x : A) (rest : List T) → PartsRead R other u x → Next (follows x) rest → starts lookahead one (u ++ rest) ≡ false
  other_starts follows one other d [] x [] h nx = refl
  other_starts follows one other d [] x (t ∷ rest) h nx = d.2 x t (parts_empty lookahead R em follows other x d.4 h) nx
  other_starts follows one other d (t ∷ u) x rest h nx =
      let e = parts_starts other t u x h in
      not_true (begins lookahead one t) (λ b. let f = d.1 t b in let clash : ⊥ = cc in clash)

  pub one_starts : {A : Type 0} (follows : A → T → Bool) (g : Parts T N V A) → Decided lookahead follows g → nothing lookahead g ≡ None
      → (u : List T) (x : A) (rest : List T) → PartsRead R g u x → starts lookahead g (u ++ rest) ≡ true
  one_starts follows g d e [] x rest h = let f = parts_empty lookahead R em follows g x d h in cc
  one_starts follows g d e (t ∷ u) x rest h = parts_starts g t u x h

  -- what follows a part may follow it
  pub next_after : {A : Type 0} (follows : A → T → Bool) (n : N) (k : V n → Parts T N V A) → Decided lookahead follows (Call n k)
      → (a : V n) (w : List T) (x : A) (rest : List T) → PartsRead R (k a) w x → Next (follows x) rest → Next (lookahead.follow n a) (w ++ rest)
  next_after follows n k d a [] x [] h nx = tt
  next_after follows n k d a [] x (t ∷ rest) h nx = (d a).1 x t (parts_empty lookahead R em follows (k a) x (d a).2 h) nx
  next_after follows n k d a (t ∷ w) x rest h nx = (d a).0 t (parts_starts (k a) t w x h)

  pub parts_hit : {A : Type 0} (q r : ℕ) (P : (n : N) → List T → Outcome T (V n))
      → ((n : N) (u : List T) (x : V n) (rest : List T) → R n u x → Next (lookahead.follow n x) rest → Hits q r x rest (P n (u ++ rest)))
      → (follows : A → T → Bool) (g : Parts T N V A) → Decided lookahead follows g
      → (u : List T) (x : A) (rest : List T) → PartsRead R g u x → Next (follows x) rest → Hits q r x rest (run lookahead P g (u ++ rest))
  parts_hit q r P hit follows (Return y) d u x rest h nx =
      let e : u ++ rest ≡ rest = rw h.0 refl in inl (zero, zero-le, ap₂ (λ v w. Got v zero w) h.1 e)
  parts_hit q r P hit follows (Take p k) d [] x rest h nx = absurd h
  parts_hit q r P hit follows (Take p k) d (t ∷ u) x rest h nx = rw h.0 (parts_hit q r P hit follows (k t) (d t h.0) u x rest h.1 nx)
  parts_hit {A} q r P hit follows (Call n k) d u x rest (v, w, a, e, s, h) nx =
      subst (λ us. Hits q r x rest (run lookahead P (Call n k) us)) (sym (ap (λ us. us ++ rest) e ∙ append_assoc v w rest))
      (go (P n (v ++ (w ++ rest))) (hit n v a (w ++ rest) s (next_after follows n k d a w x rest h nx))
      (parts_hit q r P hit follows (k a) (d a).2 w x rest h nx))
    where
      deeper : (e : ℕ) → e ≤ q → Hits q r x rest (run lookahead P (k a) (w ++ rest)) → Hits q r x rest (deepen e (run lookahead P (k a) (w ++ rest)))
      deeper e l (inl (f, m, g)) = let le : max e f ≤ q = omega arith in inl (max e f, le, ap (λ o. deepen e o) g)
      deeper e l (inr (m, b, g)) = inr (m, b, ap (λ o. deepen e o) g)

      go : (o : Outcome T (V n)) → Hits q r a (w ++ rest) o → Hits q r x rest (run lookahead P (k a) (w ++ rest))
          → Hits q r x rest (after (λ c depth left. deepen depth (run lookahead P (k c) left)) o)
      go o (inl (e, l, f)) rec =
          subst (λ p. Hits q r x rest (after (λ c depth left. deepen depth (run lookahead P (k c) left)) p)) (sym f) (deeper e l rec)
      go o (inr (l, b, f)) rec = inr (l, b, ap (λ p. after (λ c depth left. deepen depth (run lookahead P (k c) left)) p) f)
  parts_hit q r P hit follows (Either g h) d u x rest (inl s) nx =
      rw (one_starts follows g d.3 d.0 u x rest s) (parts_hit q r P hit follows g d.3 u x rest s nx)
  parts_hit q r P hit follows (Either g h) d u x rest (inr s) nx =
      rw (other_starts follows g h d u x rest s nx) (parts_hit q r P hit follows h d.4 u x rest s nx)

-- one production, which reads S at a lesser height
module _ {T N : Type 0} {V : N → Type 0} (lookahead : Lookahead T N V) (R : ℕ → Reader T N V) (n : N) (S : ℕ → List T → V n → Type 0)
    (em : (w : ℕ) (m : N) (x : V m) → R w m [] x → lookahead.nullable m ≡ Some x)
    (fr : (w : ℕ) (m : N) (t : T) (ts : List T) (x : V m) → R w m (t ∷ ts) x → lookahead.first m t ≡ true)
    (P : ℕ → (m : N) → List T → Outcome T (V m)) (here : ℕ → V n → ℕ → List T → Outcome T (V n))
    (hit : (q r : ℕ) (m : N) (u : List T) (x : V m) (rest : List T) → R q m u x → Next (lookahead.follow m x) rest → Hits q r x rest (P r m (u ++ rest))) where
  -- a step of a chain behind what was read so far
  pub step_hit : (b : Parts T N V (V n)) (step : V n → Parts T N V (V n)) → IsLL1Production lookahead n (Chain b step)
      → (q r d : ℕ) → d ≤ q → (y : V n) (v : List T) (x : V n) (rest : List T) → PartsRead (R q) (step y) v x
      → Next (λ t. lookahead.follow n x t || begins lookahead (step x) t) rest
      → Reaches (suc q) r (λ e. here r x e rest) (go_on lookahead P (here r) (Chain b step) r y d (v ++ rest))
  step_hit b step f q zero d l y v x rest h nx =
      let e = one_starts lookahead (R q) (em q) (fr q) (λ z t. lookahead.follow n z t || begins lookahead (step z) t) (step y) (f.6 y) (f.4 y) v x rest h in
      let less : 0 < suc q = omega arith in
      inr (less, v ++ rest, rw e refl)
  step_hit b step f q (suc r) d l y v x rest h nx =
      rw (one_starts lookahead (R q) (em q) (fr q) (λ z t. lookahead.follow n z t || begins lookahead (step z) t) (step y) (f.6 y) (f.4 y) v x rest h)
      (go (leb d r) refl
      (parts_hit lookahead (R q) (em q) (fr q) q r (P r) (λ m u z us. hit q r m u z us)
      (λ z t. lookahead.follow n z t || begins lookahead (step z) t) (step y) (f.6 y) v x rest h nx))
    where
      go : (w : Bool) → leb d r ≡ w → Hits q r x rest (run lookahead (P r) (step y) (v ++ rest))
          → Reaches (suc q) (suc r) (λ e. here (suc r) x e rest)
          (cond w (after (λ z deeper left. here (suc r) z (suc (max d deeper)) left) (run lookahead (P r) (step y) (v ++ rest)))
          (Bad true (v ++ rest)))
      go true k (inl (e, m, g)) =
          let le : suc (max d e) ≤ suc q = omega arith in
          inl (suc (max d e), le, ap (λ o. after (λ z deeper left. here (suc r) z (suc (max d deeper)) left) o) g)
      go true k (inr (m, s, g)) =
          let less : suc r < suc q = omega arith in
          inr (less, s, ap (λ o. after (λ z deeper left. here (suc r) z (suc (max d deeper)) left) o) g)
      go false k _ = let m = leb-false d r k in let less : suc r < suc q = omega arith in inr (less, v ++ rest, refl)

  pub start_hit : (b : Parts T N V (V n)) (step : V n → Parts T N V (V n)) → IsLL1Production lookahead n (Chain b step)
      → (q r : ℕ) (u : List T) (x : V n) (rest : List T) → PartsRead (R q) b u x → Next (λ t. lookahead.follow n x t || begins lookahead (step x) t) rest
      → Reaches q r (λ e. here r x e rest) (produce lookahead P (here r) (Chain b step) r (u ++ rest))
  start_hit b step f q r u x rest h nx =
      go (parts_hit lookahead (R q) (em q) (fr q) q r (P r) (λ m v z us. hit q r m v z us)
      (λ z t. lookahead.follow n z t || begins lookahead (step z) t) b f.3 u x rest h nx)
    where
      go : Hits q r x rest (run lookahead (P r) b (u ++ rest)) → Reaches q r (λ e. here r x e rest) (after (here r) (run lookahead (P r) b (u ++ rest)))
      go (inl (d, l, g)) = inl (d, l, ap (λ o. after (here r) o) g)
      go (inr (m, s, g)) = inr (m, s, ap (λ o. after (here r) o) g)

  pub node_hit : (g : Parts T N V (V n)) → IsLL1Production lookahead n (Node g)
      → (q r : ℕ) (u : List T) (x : V n) (rest : List T) → PartsRead (R q) g u x → Next (lookahead.follow n x) rest
      → Hits (suc q) r x rest (produce lookahead P (here r) (Node g) r (u ++ rest))
  node_hit g f q zero u x rest h nx =
      let e = one_starts lookahead (R q) (em q) (fr q) (lookahead.follow n) g f.4 f.2 u x rest h in
      let less : 0 < suc q = omega arith in
      inr (less, u ++ rest, ap (λ b. Bad b (u ++ rest)) e)
  node_hit g f q (suc r) u x rest h nx =
      go (parts_hit lookahead (R q) (em q) (fr q) q r (P r) (λ m v z us. hit q r m v z us) (lookahead.follow n) g f.4 u x rest h nx)
    where
      go : Hits q r x rest (run lookahead (P r) g (u ++ rest)) → Hits (suc q) (suc r) x rest (one_more (run lookahead (P r) g (u ++ rest)))
      go (inl (d, l, e)) = let le : suc d ≤ suc q = omega arith in inl (suc d, le, ap (λ o. one_more o) e)
      go (inr (m, s, e)) = let less : suc r < suc q = omega arith in inr (less, s, ap (λ o. one_more o) e)

  -- an equal answer
  reaches_by : (q r : ℕ) (behind behind' : ℕ → Outcome T (V n)) (o o' : Outcome T (V n)) → o ≡ o' → ((d : ℕ) → behind' d ≡ behind d)
      → Reaches q r behind' o' → Reaches q r behind o
  reaches_by q r behind behind' o o' e f (inl (d, l, g)) = inl (d, l, e ∙ g ∙ f d)
  reaches_by q r behind behind' o o' e f (inr (l, s, g)) = inr (l, s, e ∙ g)

  pub whole_hit : (p : Production T N V (V n)) → IsLL1Production lookahead n p
      → ((r : ℕ) (ts : List T) → P r n ts ≡ produce lookahead P (here r) p r ts)
      → ((r : ℕ) (x : V n) (d : ℕ) (ts : List T) → here r x d ts ≡ go_on lookahead P (here r) p r x d ts)
      → ((q r : ℕ) (u : List T) (y : V n) (rest : List T) → S q u y → Next (λ t. lookahead.follow n y t || goes_on lookahead p y t) rest
      → Reaches q r (λ d. here r y d rest) (P r n (u ++ rest)))
      → (q r : ℕ) (u : List T) (x : V n) (rest : List T) → WholeRead R S p q u x
      → Next (λ t. lookahead.follow n x t || goes_on lookahead p x t) rest → Reaches q r (λ d. here r x d rest) (P r n (u ++ rest))
  whole_hit (Plain g) f new past self q r u x rest h nx =
      reaches_by q r (λ d. here r x d rest) (λ d. Got x d rest) (P r n (u ++ rest)) (run lookahead (P r) g (u ++ rest))
      (new r (u ++ rest)) (λ d. sym (past r x d rest))
      (parts_hit lookahead (R q) (em q) (fr q) q r (P r) (λ m v z us. hit q r m v z us) (lookahead.follow n) g f.3 u x rest h
      (next_map (λ t. lookahead.follow n x t || false) (lookahead.follow n x) (λ t e. or_nothing (lookahead.follow n x t) e) rest nx))
    where
      or_nothing : (b : Bool) → (b || false) ≡ true → b ≡ true
      or_nothing true e = refl
      or_nothing false e = e
  whole_hit (Node g) f new past self zero r u x rest h nx = absurd h
  whole_hit (Node g) f new past self (suc q) r u x rest h nx =
      reaches_by (suc q) r (λ d. here r x d rest) (λ d. Got x d rest) (P r n (u ++ rest)) (produce lookahead P (here r) (Node g) r (u ++ rest))
      (new r (u ++ rest)) (λ d. sym (past r x d rest))
      (node_hit g f q r u x rest h
      (next_map (λ t. lookahead.follow n x t || false) (lookahead.follow n x) (λ t e. or_nothing (lookahead.follow n x t) e) rest nx))
    where
      or_nothing : (b : Bool) → (b || false) ≡ true → b ≡ true
      or_nothing true e = refl
      or_nothing false e = e
  whole_hit (Chain b step) f new past self zero r u x rest h nx =
      reaches_by zero r (λ d. here r x d rest) (λ d. here r x d rest) (P r n (u ++ rest)) (produce lookahead P (here r) (Chain b step) r (u ++ rest))
      (new r (u ++ rest)) (λ d. refl) (start_hit b step f zero r u x rest h nx)
  whole_hit (Chain b step) f new past self (suc q) r u x rest (inl h) nx =
      reaches_by (suc q) r (λ d. here r x d rest) (λ d. here r x d rest) (P r n (u ++ rest)) (produce lookahead P (here r) (Chain b step) r (u ++ rest))
      (new r (u ++ rest)) (λ d. refl) (start_hit b step f (suc q) r u x rest h nx)
  whole_hit (Chain b step) f new past self (suc q) r u x rest (inr (w, v, y, e, s, h)) nx =
      subst (λ us. Reaches (suc q) r (λ d. here r x d rest) (P r n us)) (sym (ap (λ us. us ++ rest) e ∙ append_assoc w v rest))
      (go (self q r w y (v ++ rest) s (begun v h)))
    where
      begun : (v : List T) → PartsRead (R q) (step y) v x → Next (λ t. lookahead.follow n y t || begins lookahead (step y) t) (v ++ rest)
      begun [] h =
          let some = parts_empty lookahead (R q) (em q) (λ z t. lookahead.follow n z t || begins lookahead (step z) t) (step y) x (f.6 y) h in
          let none = f.4 y in let clash : ⊥ = cc in absurd clash
      begun (t ∷ v) h = or_right (lookahead.follow n y t) (begins lookahead (step y) t) (parts_starts lookahead (R q) (em q) (fr q) (step y) t v x h)

      go : Reaches q r (λ d. here r y d (v ++ rest)) (P r n (w ++ (v ++ rest))) → Reaches (suc q) r (λ d. here r x d rest) (P r n (w ++ (v ++ rest)))
      go (inl (d, l, g)) =
          reaches_by (suc q) r (λ e. here r x e rest) (λ e. here r x e rest) (P r n (w ++ (v ++ rest)))
          (go_on lookahead P (here r) (Chain b step) r y d (v ++ rest)) (g ∙ past r y d (v ++ rest)) (λ e. refl)
          (step_hit b step f q r d l y v x rest h nx)
      go (inr (l, s, g)) = let less : r < suc q = omega arith in inr (less, s, g)

-- a chain stops before a token that may follow it
pub stops : {T N : Type 0} {V : N → Type 0} (lookahead : Lookahead T N V) (n : N) (P : ℕ → (m : N) → List T → Outcome T (V m))
    (here : V n → ℕ → List T → Outcome T (V n)) (p : Production T N V (V n)) → IsLL1Production lookahead n p
    → (r : ℕ) (x : V n) (d : ℕ) (rest : List T) → Next (lookahead.follow n x) rest → go_on lookahead P here p r x d rest ≡ Got x d rest
stops lookahead n P here (Plain g) f r x d rest nx = refl
stops lookahead n P here (Node g) f r x d rest nx = refl
stops lookahead n P here (Chain b step) f r x d [] nx = refl
stops lookahead n P here (Chain b step) f r x d (t ∷ rest) nx = rw (f.7 x t nx) refl

module _ (gr : Grammar) (lookahead : Lookahead gr.Token gr.Name gr.Value) (fits : IsLL1 gr lookahead) where
  pub parse_new : (r : ℕ) (n : gr.Name) (ts : List gr.Token)
      → parse gr lookahead r n New ts
      ≡ produce lookahead (λ w m us. parse gr lookahead w m New us) (λ x d us. parse gr lookahead r n (Past x d) us) (gr.production n) r ts
  parse_new r n ts = parse_step gr lookahead fits r n New ts

  pub parse_past : (r : ℕ) (n : gr.Name) (x : gr.Value n) (d : ℕ) (ts : List gr.Token)
      → parse gr lookahead r n (Past x d) ts
      ≡ go_on lookahead (λ w m us. parse gr lookahead w m New us) (λ y e us. parse gr lookahead r n (Past y e) us) (gr.production n) r x d ts
  parse_past r n x d ts = parse_step gr lookahead fits r n (Past x d) ts

  -- what was read is given, where what follows may follow
  hit_from : (q r : ℕ) (n : gr.Name) (u : List gr.Token) (x : gr.Value n) (rest : List gr.Token) → Next (lookahead.follow n x) rest
      → Reaches q r (λ d. parse gr lookahead r n (Past x d) rest) (parse gr lookahead r n New (u ++ rest)) → Hits q r x rest (parse gr lookahead r n New (u ++ rest))
  hit_from q r n u x rest nx (inl (d, l, e)) =
      inl (
        d,
        l,
        e ∙ parse_past r n x d rest
            ∙ stops lookahead n (λ w m us. parse gr lookahead w m New us) (λ y c us. parse gr lookahead r n (Past y c) us) (gr.production n) (fits n).1 r x d rest nx,
      )
  hit_from q r n u x rest nx (inr h) = inr h

  -- the same where a chain may go on: the parser comes to stand behind what was read
  pub reach : (j q r : ℕ) (n : gr.Name) (u : List gr.Token) (x : gr.Value n) (rest : List gr.Token) → Reads gr j q n u x
      → Next (λ t. lookahead.follow n x t || goes_on lookahead (gr.production n) x t) rest
      → Reaches q r (λ d. parse gr lookahead r n (Past x d) rest) (parse gr lookahead r n New (u ++ rest))
  reach zero q r n u x rest h nx = absurd h
  reach (suc j) q r n u x rest h nx =
      whole_hit lookahead (λ w m us y. Reads gr j w m us y) n (λ w us y. Reads gr j w n us y)
      (λ w m y. reads_empty gr lookahead fits j w m y) (λ w m t ts y. reads_begins gr lookahead fits j w m t ts y)
      (λ w m us. parse gr lookahead w m New us) (λ w y d us. parse gr lookahead w n (Past y d) us)
      (λ v w m us y back s nxt. hit_from v w m us y back nxt (reach j v w m us y back s
      (next_map (lookahead.follow m y) (λ t. lookahead.follow m y t || goes_on lookahead (gr.production m) y t)
      (λ t e. or_left (lookahead.follow m y t) (goes_on lookahead (gr.production m) y t) e) back nxt)))
      (gr.production n) (fits n).1 (λ w us. parse_new w n us) (λ w y d us. parse_past w n y d us)
      (λ v w us y back s nxt. reach j v w n us y back s nxt)
      q r u x rest h nx

  pub hit : (j q r : ℕ) (n : gr.Name) (u : List gr.Token) (x : gr.Value n) (rest : List gr.Token) → Reads gr j q n u x
      → Next (lookahead.follow n x) rest → Hits q r x rest (parse gr lookahead r n New (u ++ rest))
  hit j q r n u x rest h nx =
      hit_from q r n u x rest nx (reach j q r n u x rest h
      (next_map (lookahead.follow n x) (λ t. lookahead.follow n x t || goes_on lookahead (gr.production n) x t)
      (λ t e. or_left (lookahead.follow n x t) (goes_on lookahead (gr.production n) x t) e) rest nx))
