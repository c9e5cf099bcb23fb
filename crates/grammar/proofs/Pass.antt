-- Nothing viable is longer: the parser stops not before the end of what is an unfinished reading; or it
-- stopped for the depth, and had less room than the reading takes.
use Rattle.std.proofs.Common.{◌≡◌, ℕ, zero, suc, ◌≤◌, ◌<◌, max, Bool, true, false, cond, ◌||◌, leb, List, [], ◌∷◌, ◌++◌, length, Some, ◌⊎◌, inl, inr, refl, sym, ap, ◌∙◌, subst, le_refl, append_assoc, append-nil, leb-false, arith}
use Rattle.grammar.specs.Parts.{Parts, Return, Take, Call, Either, Production, Plain, Node, Chain, Grammar}
use Rattle.grammar.specs.Reading.{PartsBegun, BegunBy, Reads, Begun}
use Rattle.grammar.specs.Parser.{Lookahead, Outcome, Bad, New, Past, begins, run, after, deepen, one_more, produce, go_on, parse}
use Rattle.grammar.specs.LL1.{Decided, IsLL1Production, IsLL1, goes_on}
use Rattle.grammar.proofs.Lists.{or_right, not_true}
use Rattle.grammar.proofs.Up.{Reader, Beginner, reads_begun}
use Rattle.grammar.proofs.First.{parts_first, reads_empty, reads_begins, begun_begins}
use Rattle.grammar.proofs.Short.{left, left_deepen, left_one_more, after_short, run_short, parse_short}
use Rattle.grammar.proofs.Hit.{Next, Stopped, Hits, Reaches, parse_new, parse_past, reach, hit}

-- it came to the end of what was begun, or stopped for the depth
abbrev pub Passes : {T A : Type 0} → ℕ → ℕ → List T → Outcome T A → Type 0
Passes q r rest o = (left o ≤ length rest) ⊎ Stopped q r o

passes_deepen : {T A : Type 0} (q r d : ℕ) (rest : List T) (o : Outcome T A) → Passes q r rest o → Passes q r rest (deepen d o)
passes_deepen q r d rest o (inl l) = inl (subst (λ k. k ≤ length rest) (sym (left_deepen d o)) l)
passes_deepen q r d rest o (inr (l, s, e)) = inr (l, s, ap (λ p. deepen d p) e)

passes_one_more : {T A : Type 0} (q r : ℕ) (rest : List T) (o : Outcome T A) → Passes q r rest o → Passes (suc q) (suc r) rest (one_more o)
passes_one_more q r rest o (inl l) = inl (subst (λ k. k ≤ length rest) (sym (left_one_more o)) l)
passes_one_more q r rest o (inr (l, s, e)) = let less : suc r < suc q = omega arith in inr (less, s, ap (λ p. one_more p) e)

passes_after : {T A B : Type 0} (q r : ℕ) (rest : List T) (next : A → ℕ → List T → Outcome T B)
    → ((x : A) (d : ℕ) (us : List T) → left (next x d us) ≤ length us)
    → (o : Outcome T A) → Passes q r rest o → Passes q r rest (after next o)
passes_after q r rest next short o (inl l) = inl (after_short next short (length rest) o l)
passes_after q r rest next short o (inr (l, s, e)) = inr (l, s, ap (λ p. after next p) e)

module _ {T N : Type 0} {V : N → Type 0} (lookahead : Lookahead T N V) (R : Reader T N V) (B : Beginner T N)
    (em : (n : N) (x : V n) → R n [] x → lookahead.nullable n ≡ Some x)
    (fr : (n : N) (t : T) (ts : List T) (x : V n) → R n (t ∷ ts) x → lookahead.first n t ≡ true)
    (fb : (n : N) (t : T) (ts : List T) → B n (t ∷ ts) → lookahead.first n t ≡ true)
    (rb : (n : N) (ts : List T) (x : V n) → R n ts x → B n ts)
    (q r : ℕ) (P : (n : N) → List T → Outcome T (V n))
    (short : (n : N) (us : List T) → left (P n us) ≤ length us)
    (hit : (n : N) (u : List T) (x : V n) (rest : List T) → R n u x → Next (lookahead.follow n x) rest → Hits q r x rest (P n (u ++ rest)))
    (pass : (n : N) (u rest : List T) → B n u → Passes q r rest (P n (u ++ rest))) where
  pub first_of_begun : {A : Type 0} (g : Parts T N V A) (t : T) (ts : List T) → PartsBegun R B g (t ∷ ts) → begins lookahead g t ≡ true
  first_of_begun g t ts h = parts_first lookahead R B em fr fb g t ts h

  pub parts_pass : {A : Type 0} (follows : A → T → Bool) (g : Parts T N V A) → Decided lookahead follows g
      → (u rest : List T) → PartsBegun R B g u → Passes q r rest (run lookahead P g (u ++ rest))
  parts_pass follows (Return y) d u rest h =
      let e : u ++ rest ≡ rest = rw h refl in let l = ap length e in inl (omega arith)
  parts_pass follows (Take p k) d [] rest h = inl (run_short lookahead P short (Take p k) rest)
  parts_pass follows (Take p k) d (t ∷ u) rest h = rw h.0 (parts_pass follows (k t) (d t h.0) u rest h.1)
  parts_pass follows (Call n k) d u rest (inl b) =
      passes_after q r rest (λ a e us. deepen e (run lookahead P (k a) us))
      (λ a e us. subst (λ l. l ≤ length us) (sym (left_deepen e (run lookahead P (k a) us))) (run_short lookahead P short (k a) us))
      (P n (u ++ rest)) (pass n u rest b)
  parts_pass follows (Call n k) d u rest (inr (v, w, a, e, s, h)) =
      behind w e h (parts_pass follows (k a) (d a).2 w rest h)
    where
      go : (w : List T) (o : Outcome T (V n)) → Hits q r a (w ++ rest) o → Passes q r rest (run lookahead P (k a) (w ++ rest))
          → Passes q r rest (after (λ c depth left. deepen depth (run lookahead P (k c) left)) o)
      go w o (inl (f, l, g)) rec =
          subst (λ p. Passes q r rest (after (λ c depth left. deepen depth (run lookahead P (k c) left)) p)) (sym g)
          (passes_deepen q r f rest (run lookahead P (k a) (w ++ rest)) rec)
      go w o (inr (l, b, g)) rec = inr (l, b, ap (λ p. after (λ c depth left. deepen depth (run lookahead P (k c) left)) p) g)

      behind : (w : List T) → u ≡ v ++ w → PartsBegun R B (k a) w → Passes q r rest (run lookahead P (k a) (w ++ rest))
          → Passes q r rest (run lookahead P (Call n k) (u ++ rest))
      behind [] e h rec =
          let same : v ≡ u = sym (e ∙ append-nil v) in
          let b : B n u = rb n u a (subst (λ us. R n us a) same s) in
          passes_after q r rest (λ c f us. deepen f (run lookahead P (k c) us))
          (λ c f us. subst (λ l. l ≤ length us) (sym (left_deepen f (run lookahead P (k c) us))) (run_short lookahead P short (k c) us))
          (P n (u ++ rest)) (pass n u rest b)
      behind (t ∷ w) e h rec =
          subst (λ us. Passes q r rest (run lookahead P (Call n k) us)) (sym (ap (λ us. us ++ rest) e ∙ append_assoc v (t ∷ w) rest))
          (go (t ∷ w) (P n (v ++ ((t ∷ w) ++ rest))) (hit n v a ((t ∷ w) ++ rest) s ((d a).0 t (first_of_begun (k a) t w h))) rec)
  parts_pass follows (Either g h) d [] rest (inl s) = inl (run_short lookahead P short (Either g h) rest)
  parts_pass follows (Either g h) d [] rest (inr s) = inl (run_short lookahead P short (Either g h) rest)
  parts_pass follows (Either g h) d (t ∷ u) rest (inl s) = rw (first_of_begun g t u s) (parts_pass follows g d.3 (t ∷ u) rest s)
  parts_pass follows (Either g h) d (t ∷ u) rest (inr s) =
      let e = first_of_begun h t u s in
      let not_one : begins lookahead g t ≡ false = not_true (begins lookahead g t) (λ b. let f = d.1 t b in let clash : ⊥ = cc in clash) in
      rw not_one (parts_pass follows h d.4 (t ∷ u) rest s)

-- one production, which reads S and has begun F at a lesser height
module _ {T N : Type 0} {V : N → Type 0} (lookahead : Lookahead T N V) (R : ℕ → Reader T N V) (B : ℕ → Beginner T N) (n : N)
    (S : ℕ → List T → V n → Type 0) (F : ℕ → List T → Type 0)
    (em : (w : ℕ) (m : N) (x : V m) → R w m [] x → lookahead.nullable m ≡ Some x)
    (fr : (w : ℕ) (m : N) (t : T) (ts : List T) (x : V m) → R w m (t ∷ ts) x → lookahead.first m t ≡ true)
    (fb : (w : ℕ) (m : N) (t : T) (ts : List T) → B w m (t ∷ ts) → lookahead.first m t ≡ true)
    (rb : (w : ℕ) (m : N) (ts : List T) (x : V m) → R w m ts x → B w m ts)
    (sf : (w : ℕ) (ts : List T) (x : V n) → S w ts x → F w ts)
    (P : ℕ → (m : N) → List T → Outcome T (V m)) (here : ℕ → V n → ℕ → List T → Outcome T (V n))
    (short : (w : ℕ) (m : N) (us : List T) → left (P w m us) ≤ length us)
    (here_short : (w : ℕ) (x : V n) (d : ℕ) (us : List T) → left (here w x d us) ≤ length us)
    (hit : (q r : ℕ) (m : N) (u : List T) (x : V m) (rest : List T) → R q m u x → Next (lookahead.follow m x) rest → Hits q r x rest (P r m (u ++ rest)))
    (pass : (q r : ℕ) (m : N) (u rest : List T) → B q m u → Passes q r rest (P r m (u ++ rest))) where
  parts_at : (q r : ℕ) (follows : V n → T → Bool) (g : Parts T N V (V n)) → Decided lookahead follows g
      → (u rest : List T) → PartsBegun (R q) (B q) g u → Passes q r rest (run lookahead (P r) g (u ++ rest))
  parts_at q r follows g d u rest h =
      parts_pass lookahead (R q) (B q) (em q) (fr q) (fb q) (rb q) q r (P r) (short r) (λ m v x us. hit q r m v x us) (λ m v us. pass q r m v us)
      follows g d u rest h

  first_at : (q : ℕ) (g : Parts T N V (V n)) (t : T) (ts : List T) → PartsBegun (R q) (B q) g (t ∷ ts) → begins lookahead g t ≡ true
  first_at q g t ts h = parts_first lookahead (R q) (B q) (em q) (fr q) (fb q) g t ts h

  step_pass : (b : Parts T N V (V n)) (step : V n → Parts T N V (V n)) → IsLL1Production lookahead n (Chain b step)
      → (q r d : ℕ) → d ≤ q → (y : V n) (t : T) (v rest : List T) → PartsBegun (R q) (B q) (step y) (t ∷ v)
      → Passes (suc q) r rest (go_on lookahead P (here r) (Chain b step) r y d ((t ∷ v) ++ rest))
  step_pass b step f q zero d l y t v rest h =
      let e = first_at q (step y) t v h in
      let less : 0 < suc q = omega arith in
      inr (less, (t ∷ v) ++ rest, rw e refl)
  step_pass b step f q (suc r) d l y t v rest h =
      rw (first_at q (step y) t v h)
      (go (leb d r) refl (parts_at q r (λ z c. lookahead.follow n z c || begins lookahead (step z) c) (step y) (f.6 y) (t ∷ v) rest h))
    where
      raised : (o : Outcome T (V n)) → Passes q r rest o → Passes (suc q) (suc r) rest o
      raised o (inl m) = inl m
      raised o (inr (m, s, e)) = let less : suc r < suc q = omega arith in inr (less, s, e)

      go : (w : Bool) → leb d r ≡ w → Passes q r rest (run lookahead (P r) (step y) ((t ∷ v) ++ rest))
          → Passes (suc q) (suc r) rest
          (cond w (after (λ z deeper left. here (suc r) z (suc (max d deeper)) left) (run lookahead (P r) (step y) ((t ∷ v) ++ rest)))
          (Bad true ((t ∷ v) ++ rest)))
      go true k h =
          passes_after (suc q) (suc r) rest (λ z deeper left. here (suc r) z (suc (max d deeper)) left)
          (λ z e us. here_short (suc r) z (suc (max d e)) us) (run lookahead (P r) (step y) ((t ∷ v) ++ rest))
          (raised (run lookahead (P r) (step y) ((t ∷ v) ++ rest)) h)
      go false k h = let m = leb-false d r k in let less : suc r < suc q = omega arith in inr (less, (t ∷ v) ++ rest, refl)

  node_pass : (g : Parts T N V (V n)) → IsLL1Production lookahead n (Node g)
      → (q r : ℕ) (u rest : List T) → PartsBegun (R q) (B q) g u → Passes (suc q) r rest (produce lookahead P (here r) (Node g) r (u ++ rest))
  node_pass g f q zero [] rest h = inl (le_refl (length rest))
  node_pass g f q zero (t ∷ u) rest h =
      let less : 0 < suc q = omega arith in inr (less, (t ∷ u) ++ rest, ap (λ b. Bad b ((t ∷ u) ++ rest)) (first_at q g t u h))
  node_pass g f q (suc r) u rest h =
      passes_one_more q r rest (run lookahead (P r) g (u ++ rest)) (parts_at q r (lookahead.follow n) g f.4 u rest h)

  passes_by : (q r : ℕ) (rest : List T) (o o' : Outcome T (V n)) → o ≡ o' → Passes q r rest o' → Passes q r rest o
  passes_by q r rest o o' e h = subst (λ p. Passes q r rest p) (sym e) h

  start_pass : (b : Parts T N V (V n)) (step : V n → Parts T N V (V n)) → IsLL1Production lookahead n (Chain b step)
      → (q r : ℕ) (u rest : List T) → PartsBegun (R q) (B q) b u → Passes q r rest (produce lookahead P (here r) (Chain b step) r (u ++ rest))
  start_pass b step f q r u rest h =
      passes_after q r rest (here r) (here_short r) (run lookahead (P r) b (u ++ rest))
      (parts_at q r (λ z t. lookahead.follow n z t || begins lookahead (step z) t) b f.3 u rest h)

  pub whole_pass : (p : Production T N V (V n)) → IsLL1Production lookahead n p
      → ((r : ℕ) (ts : List T) → P r n ts ≡ produce lookahead P (here r) p r ts)
      → ((r : ℕ) (x : V n) (d : ℕ) (ts : List T) → here r x d ts ≡ go_on lookahead P (here r) p r x d ts)
      → ((q r : ℕ) (u : List T) (y : V n) (rest : List T) → S q u y → Next (λ t. lookahead.follow n y t || goes_on lookahead p y t) rest
      → Reaches q r (λ d. here r y d rest) (P r n (u ++ rest)))
      → ((q r : ℕ) (u rest : List T) → F q u → Passes q r rest (P r n (u ++ rest)))
      → (q r : ℕ) (u rest : List T) → BegunBy R S B p q u → Passes q r rest (P r n (u ++ rest))
  whole_pass (Plain g) f new past self own q r u rest h =
      passes_by q r rest (P r n (u ++ rest)) (run lookahead (P r) g (u ++ rest)) (new r (u ++ rest)) (parts_at q r (lookahead.follow n) g f.3 u rest h)
  whole_pass (Node g) f new past self own zero r u rest h = absurd h
  whole_pass (Node g) f new past self own (suc q) r u rest h =
      passes_by (suc q) r rest (P r n (u ++ rest)) (produce lookahead P (here r) (Node g) r (u ++ rest)) (new r (u ++ rest)) (node_pass g f q r u rest h)
  whole_pass (Chain b step) f new past self own zero r u rest h =
      passes_by zero r rest (P r n (u ++ rest)) (produce lookahead P (here r) (Chain b step) r (u ++ rest)) (new r (u ++ rest))
      (start_pass b step f zero r u rest h)
  whole_pass (Chain b step) f new past self own (suc q) r u rest (inl h) =
      passes_by (suc q) r rest (P r n (u ++ rest)) (produce lookahead P (here r) (Chain b step) r (u ++ rest)) (new r (u ++ rest))
      (start_pass b step f (suc q) r u rest h)
  whole_pass (Chain b step) f new past self own (suc q) r u rest (inr (w, v, y, e, s, h)) = behind v e h
    where
      go : (t : T) (v : List T) → PartsBegun (R q) (B q) (step y) (t ∷ v)
          → Reaches q r (λ d. here r y d ((t ∷ v) ++ rest)) (P r n (w ++ ((t ∷ v) ++ rest))) → Passes (suc q) r rest (P r n (w ++ ((t ∷ v) ++ rest)))
      go t v h (inl (d, l, g)) =
          passes_by (suc q) r rest (P r n (w ++ ((t ∷ v) ++ rest))) (go_on lookahead P (here r) (Chain b step) r y d ((t ∷ v) ++ rest))
          (g ∙ past r y d ((t ∷ v) ++ rest)) (step_pass b step f q r d l y t v rest h)
      go t v h (inr (l, b, g)) = let less : r < suc q = omega arith in inr (less, b, g)

      raised : Passes q r rest (P r n (u ++ rest)) → Passes (suc q) r rest (P r n (u ++ rest))
      raised (inl l) = inl l
      raised (inr (l, b, g)) = let less : r < suc q = omega arith in inr (less, b, g)

      behind : (v : List T) → u ≡ w ++ v → PartsBegun (R q) (B q) (step y) v → Passes (suc q) r rest (P r n (u ++ rest))
      behind [] e h =
          let same : w ≡ u = sym (e ∙ append-nil w) in raised (own q r u rest (sf q u y (subst (λ us. S q us y) same s)))
      behind (t ∷ v) e h =
          subst (λ us. Passes (suc q) r rest (P r n us)) (sym (ap (λ us. us ++ rest) e ∙ append_assoc w (t ∷ v) rest))
          (go t v h (self q r w y ((t ∷ v) ++ rest) s
          (or_right (lookahead.follow n y t) (begins lookahead (step y) t) (first_at q (step y) t v h))))

module _ (gr : Grammar) (lookahead : Lookahead gr.Token gr.Name gr.Value) (fits : IsLL1 gr lookahead) where
  pub pass : (j q r : ℕ) (n : gr.Name) (u rest : List gr.Token) → Begun gr j q n u → Passes q r rest (parse gr lookahead r n New (u ++ rest))
  pass zero q r n u rest h =
      let e : u ++ rest ≡ rest = rw h refl in
      inl (subst (λ us. left (parse gr lookahead r n New us) ≤ length rest) (sym e) (parse_short gr lookahead r n New rest))
  pass (suc j) q r n u rest (inl h) =
      let e : u ++ rest ≡ rest = rw h refl in
      inl (subst (λ us. left (parse gr lookahead r n New us) ≤ length rest) (sym e) (parse_short gr lookahead r n New rest))
  pass (suc j) q r n u rest (inr h) =
      whole_pass lookahead (λ w m us y. Reads gr j w m us y) (λ w m us. Begun gr j w m us) n (λ w us y. Reads gr j w n us y) (λ w us. Begun gr j w n us)
      (λ w m y. reads_empty gr lookahead fits j w m y) (λ w m t ts y. reads_begins gr lookahead fits j w m t ts y)
      (λ w m t ts. begun_begins gr lookahead fits j w m t ts)
      (λ w m us y. reads_begun gr j w m us y) (λ w us y. reads_begun gr j w n us y)
      (λ w m us. parse gr lookahead w m New us) (λ w y d us. parse gr lookahead w n (Past y d) us)
      (λ w m us. parse_short gr lookahead w m New us) (λ w y d us. parse_short gr lookahead w n (Past y d) us)
      (λ v w m us y back s nxt. hit gr lookahead fits j v w m us y back s nxt)
      (λ v w m us back b. pass j v w m us back b)
      (gr.production n) (fits n).1 (λ w us. parse_new gr lookahead fits w n us) (λ w y d us. parse_past gr lookahead fits w n y d us)
      (λ v w us y back s nxt. reach gr lookahead fits j v w n us y back s nxt)
      (λ v w us back b. pass j v w n us back b)
      q r u rest h
