-- What is read from no token, and which token begins what a name reads, are what the lookahead say, both ways.
use Rattle.std.proofs.Common.{◌≡◌, ℕ, zero, suc, ◌≤◌, ◌<◌, max, Bool, true, ◌||◌, List, [], ◌∷◌, ◌++◌, Option, Some, None, ◌⊎◌, inl, inr, refl, sym, ap, ◌∙◌, subst, le_refl, arith}
use Rattle.grammar.specs.Parts.{Parts, Return, Take, Call, Either, Production, Plain, Node, Chain, Grammar}
use Rattle.grammar.specs.Reading.{PartsRead, PartsBegun, WholeRead, BegunBy, Reads, Begun, IsRead, IsViable}
use Rattle.grammar.specs.Parser.{Lookahead, nothing, begins, holds, or_else, and_then}
use Rattle.grammar.specs.LL1.{Decided, Ranked, IsLL1Production, IsLL1}
use Rattle.grammar.proofs.Lists.{front_nil, back_nil, or_left, or_right, or_cases}
use Rattle.grammar.proofs.Up.{Reader, Beginner, parts_read_up, parts_begun_up, parts_begun_nil, reads_begun}
use Rattle.grammar.proofs.Closed.{chain_read, chain_begun, is_read_up, is_viable_up, read_intro, begun_intro, viable_nil}

module _ {T N : Type 0} {V : N → Type 0} (lookahead : Lookahead T N V) where
  pub parts_empty : {A : Type 0} (R : Reader T N V) → ((n : N) (x : V n) → R n [] x → lookahead.nullable n ≡ Some x)
      → (follows : A → T → Bool) (g : Parts T N V A) (x : A) → Decided lookahead follows g → PartsRead R g [] x → nothing lookahead g ≡ Some x
  parts_empty R em follows (Return y) x d h = ap Some h.1
  parts_empty R em follows (Take p k) x d h = absurd h
  parts_empty R em follows (Call n k) x d (u, v, a, e, r, h) =
      let none : lookahead.nullable n ≡ Some a = em n a (subst (λ w. R n w a) (front_nil u v (sym e)) r) in
      let rest : PartsRead R (k a) [] x = subst (λ w. PartsRead R (k a) w x) (back_nil u v (sym e)) h in
      rw none (parts_empty R em follows (k a) x (d a).2 rest)
  parts_empty R em follows (Either g h) x d (inl l) = let e = parts_empty R em follows g x d.3 l in let no_one = d.0 in cc
  parts_empty R em follows (Either g h) x d (inr l) = rw d.0 (parts_empty R em follows h x d.4 l)

  pub parts_first : {A : Type 0} (R : Reader T N V) (B : Beginner T N)
      → ((n : N) (x : V n) → R n [] x → lookahead.nullable n ≡ Some x)
      → ((n : N) (t : T) (ts : List T) (x : V n) → R n (t ∷ ts) x → lookahead.first n t ≡ true)
      → ((n : N) (t : T) (ts : List T) → B n (t ∷ ts) → lookahead.first n t ≡ true)
      → (g : Parts T N V A) (t : T) (ts : List T) → PartsBegun R B g (t ∷ ts) → begins lookahead g t ≡ true
  parts_first R B em fr fb (Return y) t ts h = cc
  parts_first R B em fr fb (Take p k) t ts h = h.0
  parts_first R B em fr fb (Call n k) t ts (inl b) = or_left (lookahead.first n t) (holds (λ a. begins lookahead (k a) t) (lookahead.nullable n)) (fb n t ts b)
  parts_first R B em fr fb (Call n k) t ts (inr (u, v, a, e, r, h)) =
      go u r e (λ s ss begun. parts_first R B em fr fb (k a) s ss begun)
    where
      go : (w : List T) → R n w a → t ∷ ts ≡ w ++ v
          → ((s : T) (ss : List T) → PartsBegun R B (k a) (s ∷ ss) → begins lookahead (k a) s ≡ true)
          → (lookahead.first n t || holds (λ b. begins lookahead (k b) t) (lookahead.nullable n)) ≡ true
      go [] s f rec =
          let none : lookahead.nullable n ≡ Some a = em n a s in
          let begun : PartsBegun R B (k a) (t ∷ ts) = subst (λ w. PartsBegun R B (k a) w) (sym f) h in
          or_right (lookahead.first n t) (holds (λ b. begins lookahead (k b) t) (lookahead.nullable n)) (rw none (rec t ts begun))
      go (c ∷ w) s f rec =
          let same : c ≡ t = cc in
          or_left (lookahead.first n t) (holds (λ b. begins lookahead (k b) t) (lookahead.nullable n))
          (subst (λ b. lookahead.first n b ≡ true) same (fr n c w a s))
  parts_first R B em fr fb (Either g h) t ts (inl l) = or_left (begins lookahead g t) (begins lookahead h t) (parts_first R B em fr fb g t ts l)
  parts_first R B em fr fb (Either g h) t ts (inr l) = or_right (begins lookahead g t) (begins lookahead h t) (parts_first R B em fr fb h t ts l)

  pub whole_empty : (R : ℕ → Reader T N V) (n : N) (S : ℕ → List T → V n → Type 0)
      → ((r : ℕ) (m : N) (x : V m) → R r m [] x → lookahead.nullable m ≡ Some x)
      → (p : Production T N V (V n)) (r : ℕ) (x : V n) → IsLL1Production lookahead n p → WholeRead R S p r [] x → lookahead.nullable n ≡ Some x
  whole_empty R n S em (Plain g) r x f h = f.1 ∙ parts_empty (R r) (em r) (lookahead.follow n) g x f.3 h
  whole_empty R n S em (Node g) zero x f h = absurd h
  whole_empty R n S em (Node g) (suc r) x f h =
      let e = parts_empty (R r) (em r) (lookahead.follow n) g x f.4 h in let none = f.2 in cc
  whole_empty R n S em (Chain b step) zero x f h =
      f.1 ∙ parts_empty (R zero) (em zero) (λ x t. lookahead.follow n x t || begins lookahead (step x) t) b x f.3 h
  whole_empty R n S em (Chain b step) (suc r) x f (inl h) =
      f.1 ∙ parts_empty (R (suc r)) (em (suc r)) (λ x t. lookahead.follow n x t || begins lookahead (step x) t) b x f.3 h
  whole_empty R n S em (Chain b step) (suc r) x f (inr (u, v, y, e, s, h)) =
      let rest : PartsRead (R r) (step y) [] x = subst (λ w. PartsRead (R r) (step y) w x) (back_nil u v (sym e)) h in
      let some = parts_empty (R r) (em r) (λ x t. lookahead.follow n x t || begins lookahead (step x) t) (step y) x (f.6 y) rest in
      let none = f.4 y in cc

  pub begun_first : (R : ℕ → Reader T N V) (n : N) (S : ℕ → List T → V n → Type 0) (B : ℕ → Beginner T N)
      → ((r : ℕ) (m : N) (x : V m) → R r m [] x → lookahead.nullable m ≡ Some x)
      → ((r : ℕ) (x : V n) → S r [] x → lookahead.nullable n ≡ Some x)
      → ((r : ℕ) (m : N) (t : T) (ts : List T) (x : V m) → R r m (t ∷ ts) x → lookahead.first m t ≡ true)
      → ((r : ℕ) (t : T) (ts : List T) (x : V n) → S r (t ∷ ts) x → lookahead.first n t ≡ true)
      → ((r : ℕ) (m : N) (t : T) (ts : List T) → B r m (t ∷ ts) → lookahead.first m t ≡ true)
      → (p : Production T N V (V n)) (r : ℕ) (t : T) (ts : List T) → IsLL1Production lookahead n p
      → BegunBy R S B p r (t ∷ ts) → lookahead.first n t ≡ true
  begun_first R n S B em ems fr frs fb (Plain g) r t ts f h = f.0 t ∙ parts_first (R r) (B r) (em r) (fr r) (fb r) g t ts h
  begun_first R n S B em ems fr frs fb (Node g) zero t ts f h = absurd h
  begun_first R n S B em ems fr frs fb (Node g) (suc r) t ts f h = f.0 t ∙ parts_first (R r) (B r) (em r) (fr r) (fb r) g t ts h
  begun_first R n S B em ems fr frs fb (Chain b step) zero t ts f h =
      f.0 t ∙ or_left (begins lookahead b t) (holds (λ x. begins lookahead (step x) t) (nothing lookahead b))
      (parts_first (R zero) (B zero) (em zero) (fr zero) (fb zero) b t ts h)
  begun_first R n S B em ems fr frs fb (Chain b step) (suc r) t ts f (inl h) =
      f.0 t ∙ or_left (begins lookahead b t) (holds (λ x. begins lookahead (step x) t) (nothing lookahead b))
      (parts_first (R (suc r)) (B (suc r)) (em (suc r)) (fr (suc r)) (fb (suc r)) b t ts h)
  begun_first R n S B em ems fr frs fb (Chain b step) (suc r) t ts f (inr (u, v, y, e, s, h)) = go u s e
    where
      go : (w : List T) → S r w y → t ∷ ts ≡ w ++ v → lookahead.first n t ≡ true
      go [] q g =
          let none : nothing lookahead b ≡ Some y = sym f.1 ∙ ems r y q in
          let begun : PartsBegun (R r) (B r) (step y) (t ∷ ts) = subst (λ w. PartsBegun (R r) (B r) (step y) w) (sym g) h in
          f.0 t ∙ or_right (begins lookahead b t) (holds (λ x. begins lookahead (step x) t) (nothing lookahead b))
          (rw none (parts_first (R r) (B r) (em r) (fr r) (fb r) (step y) t ts begun))
      go (c ∷ w) q g =
          let same : c ≡ t = cc in subst (λ b. lookahead.first n b ≡ true) same (frs r c w y q)

  -- the other way round, from the rank of what is called at the front
  parts_nothing : {A : Type 0} (R : ℕ → Reader T N V) → ((r s : ℕ) (n : N) (ts : List T) (x : V n) → r ≤ s → R r n ts x → R s n ts x)
      → (rank : ℕ) → ((n : N) → lookahead.rank n < rank → (x : V n) → lookahead.nullable n ≡ Some x → (r : ℕ) × R r n [] x)
      → (g : Parts T N V A) → Ranked lookahead rank g → (x : A) → nothing lookahead g ≡ Some x → (r : ℕ) × PartsRead (R r) g [] x
  parts_nothing R up rank em (Return y) k x e = let same : y ≡ x = cc in (zero, (refl, same))
  parts_nothing R up rank em (Take p rest) k x e = let clash : ⊥ = cc in absurd clash
  parts_nothing {A} R up rank em (Call n rest) k x e = go (lookahead.nullable n) refl e (λ a l. parts_nothing R up rank em (rest a) l x)
    where
      go : (o : Option (V n)) → lookahead.nullable n ≡ o → and_then o (λ a. nothing lookahead (rest a)) ≡ Some x
          → ((a : V n) → Ranked lookahead rank (rest a) → nothing lookahead (rest a) ≡ Some x → (r : ℕ) × PartsRead (R r) (rest a) [] x)
          → (r : ℕ) × PartsRead (R r) (Call n rest) [] x
      go None q f rec = let clash : ⊥ = cc in absurd clash
      go (Some a) q f rec =
          let one = em n k.0 a q in
          let two = rec a (k.1 a q) f in
          let l : one.0 ≤ max one.0 two.0 = omega arith in
          let m : two.0 ≤ max one.0 two.0 = omega arith in (
            max one.0 two.0,
            (
              [],
              [],
              a,
              refl,
              up one.0 (max one.0 two.0) n [] a l one.1,
              parts_read_up (R two.0) (R (max one.0 two.0)) (λ i us y. up two.0 (max one.0 two.0) i us y m) (rest a) [] x two.1,
            ),
          )
  parts_nothing {A} R up rank em (Either g h) k x e =
      go (nothing lookahead g) refl e (parts_nothing R up rank em g k.0 x) (parts_nothing R up rank em h k.1 x)
    where
      go : (o : Option A) → nothing lookahead g ≡ o → or_else o (nothing lookahead h) ≡ Some x
          → (nothing lookahead g ≡ Some x → (r : ℕ) × PartsRead (R r) g [] x) → (nothing lookahead h ≡ Some x → (r : ℕ) × PartsRead (R r) h [] x)
          → (r : ℕ) × PartsRead (R r) (Either g h) [] x
      go None q f one two = let a = two f in (a.0, inr a.1)
      go (Some y) q f one two = let a = one (q ∙ f) in (a.0, inl a.1)

  parts_begins : {A : Type 0} (R : ℕ → Reader T N V) (B : ℕ → Beginner T N)
      → ((r s : ℕ) (n : N) (ts : List T) (x : V n) → r ≤ s → R r n ts x → R s n ts x)
      → ((r s : ℕ) (n : N) (ts : List T) → r ≤ s → B r n ts → B s n ts)
      → ((r : ℕ) (n : N) → B r n [])
      → (rank : ℕ) → ((n : N) → lookahead.rank n < rank → (x : V n) → lookahead.nullable n ≡ Some x → (r : ℕ) × R r n [] x)
      → (t : T) → ((n : N) → lookahead.rank n < rank → lookahead.first n t ≡ true → (r : ℕ) × B r n (t ∷ []))
      → (g : Parts T N V A) → Ranked lookahead rank g → begins lookahead g t ≡ true → (r : ℕ) × PartsBegun (R r) (B r) g (t ∷ [])
  parts_begins R B up upb nil rank em t fi (Return y) k e = let clash : ⊥ = cc in absurd clash
  parts_begins R B up upb nil rank em t fi (Take p rest) k e = (zero, (e, parts_begun_nil (R zero) (B zero) (nil zero) (rest t)))
  parts_begins R B up upb nil rank em t fi (Call n rest) k e =
      by_call (or_cases (lookahead.first n t) (holds (λ a. begins lookahead (rest a) t) (lookahead.nullable n)) e)
      (λ a l q. parts_begins R B up upb nil rank em t fi (rest a) l q)
    where
      go : (o : Option (V n)) → lookahead.nullable n ≡ o → holds (λ a. begins lookahead (rest a) t) o ≡ true
          → ((a : V n) → Ranked lookahead rank (rest a) → begins lookahead (rest a) t ≡ true → (r : ℕ) × PartsBegun (R r) (B r) (rest a) (t ∷ []))
          → (r : ℕ) × PartsBegun (R r) (B r) (Call n rest) (t ∷ [])
      go None q f rec = let clash : ⊥ = cc in absurd clash
      go (Some a) q f rec =
          let one = em n k.0 a q in
          let two = rec a (k.1 a q) f in
          let l : one.0 ≤ max one.0 two.0 = omega arith in
          let m : two.0 ≤ max one.0 two.0 = omega arith in (
            max one.0 two.0,
            inr (
              [],
              t ∷ [],
              a,
              refl,
              up one.0 (max one.0 two.0) n [] a l one.1,
              parts_begun_up (R two.0) (R (max one.0 two.0)) (B two.0) (B (max one.0 two.0))
                  (λ i us y. up two.0 (max one.0 two.0) i us y m) (λ i us. upb two.0 (max one.0 two.0) i us m) (rest a) (t ∷ []) two.1,
            ),
          )

      by_call : (lookahead.first n t ≡ true) ⊎ (holds (λ a. begins lookahead (rest a) t) (lookahead.nullable n) ≡ true)
          → ((a : V n) → Ranked lookahead rank (rest a) → begins lookahead (rest a) t ≡ true → (r : ℕ) × PartsBegun (R r) (B r) (rest a) (t ∷ []))
          → (r : ℕ) × PartsBegun (R r) (B r) (Call n rest) (t ∷ [])
      by_call (inl q) rec = let f = fi n k.0 q in (f.0, inl f.1)
      by_call (inr q) rec = go (lookahead.nullable n) refl q rec
  parts_begins R B up upb nil rank em t fi (Either g h) k e =
      go (or_cases (begins lookahead g t) (begins lookahead h t) e)
      (λ q. parts_begins R B up upb nil rank em t fi g k.0 q) (λ q. parts_begins R B up upb nil rank em t fi h k.1 q)
    where
      go : (begins lookahead g t ≡ true) ⊎ (begins lookahead h t ≡ true)
          → (begins lookahead g t ≡ true → (r : ℕ) × PartsBegun (R r) (B r) g (t ∷ []))
          → (begins lookahead h t ≡ true → (r : ℕ) × PartsBegun (R r) (B r) h (t ∷ []))
          → (r : ℕ) × PartsBegun (R r) (B r) (Either g h) (t ∷ [])
      go (inl q) one two = let f = one q in (f.0, inl f.1)
      go (inr q) one two = let f = two q in (f.0, inr f.1)

  nothing_at : (R : ℕ → Reader T N V) (n : N) (S : ℕ → List T → V n → Type 0)
      → ((r s : ℕ) (m : N) (ts : List T) (x : V m) → r ≤ s → R r m ts x → R s m ts x)
      → ((m : N) → lookahead.rank m < lookahead.rank n → (x : V m) → lookahead.nullable m ≡ Some x → (r : ℕ) × R r m [] x)
      → (p : Production T N V (V n)) → IsLL1Production lookahead n p → (x : V n) → lookahead.nullable n ≡ Some x → (r : ℕ) × WholeRead R S p r [] x
  nothing_at R n S up em (Plain g) f x e = parts_nothing R up (lookahead.rank n) em g f.2 x (sym f.1 ∙ e)
  nothing_at R n S up em (Node g) f x e = let none = f.1 in let clash : ⊥ = cc in absurd clash
  nothing_at R n S up em (Chain b step) f x e =
      let h = parts_nothing R up (lookahead.rank n) em b f.2 x (sym f.1 ∙ e) in (h.0, chain_read R S b step h.0 [] x h.1)

  begins_at : (R : ℕ → Reader T N V) (n : N) (S : ℕ → List T → V n → Type 0) (B : ℕ → Beginner T N)
      → ((r s : ℕ) (m : N) (ts : List T) (x : V m) → r ≤ s → R r m ts x → R s m ts x)
      → ((r s : ℕ) (ts : List T) (x : V n) → r ≤ s → S r ts x → S s ts x)
      → ((r s : ℕ) (m : N) (ts : List T) → r ≤ s → B r m ts → B s m ts)
      → ((r : ℕ) (m : N) → B r m [])
      → ((m : N) → lookahead.rank m < lookahead.rank n → (x : V m) → lookahead.nullable m ≡ Some x → (r : ℕ) × R r m [] x)
      → (t : T) → ((m : N) → lookahead.rank m < lookahead.rank n → lookahead.first m t ≡ true → (r : ℕ) × B r m (t ∷ []))
      → (p : Production T N V (V n)) → ((r : ℕ) (x : V n) → WholeRead R S p r [] x → S r [] x) → IsLL1Production lookahead n p
      → lookahead.first n t ≡ true → (r : ℕ) × BegunBy R S B p r (t ∷ [])
  begins_at R n S B up ups upb nil em t fi (Plain g) intro f e =
      parts_begins R B up upb nil (lookahead.rank n) em t fi g f.2 (sym (f.0 t) ∙ e)
  begins_at R n S B up ups upb nil em t fi (Node g) intro f e =
      let h = parts_begins R B up upb nil (lookahead.rank n) em t fi g f.3 (sym (f.0 t) ∙ e) in (suc h.0, h.1)
  begins_at R n S B up ups upb nil em t fi (Chain b step) intro f e =
      either (or_cases (begins lookahead b t) (holds (λ x. begins lookahead (step x) t) (nothing lookahead b)) (sym (f.0 t) ∙ e))
    where
      go : (o : Option (V n)) → nothing lookahead b ≡ o → holds (λ x. begins lookahead (step x) t) o ≡ true
          → (r : ℕ) × BegunBy R S B (Chain b step) r (t ∷ [])
      go None q g = let clash : ⊥ = cc in absurd clash
      go (Some y) q g =
          let one = parts_nothing R up (lookahead.rank n) em b f.2 y q in
          let two = parts_begins R B up upb nil (lookahead.rank n) em t fi (step y) (f.5 y) g in
          let l : one.0 ≤ max one.0 two.0 = omega arith in
          let m : two.0 ≤ max one.0 two.0 = omega arith in (
            suc (max one.0 two.0),
            inr (
              [],
              t ∷ [],
              y,
              refl,
              ups one.0 (max one.0 two.0) [] y l (intro one.0 y (chain_read R S b step one.0 [] y one.1)),
              parts_begun_up (R two.0) (R (max one.0 two.0)) (B two.0) (B (max one.0 two.0))
                  (λ i us z. up two.0 (max one.0 two.0) i us z m) (λ i us. upb two.0 (max one.0 two.0) i us m) (step y) (t ∷ []) two.1,
            ),
          )

      either : (begins lookahead b t ≡ true) ⊎ (holds (λ x. begins lookahead (step x) t) (nothing lookahead b) ≡ true)
          → (r : ℕ) × BegunBy R S B (Chain b step) r (t ∷ [])
      either (inl q) =
          let h = parts_begins R B up upb nil (lookahead.rank n) em t fi b f.2 q in (h.0, chain_begun R S B b step h.0 (t ∷ []) h.1)
      either (inr q) = go (nothing lookahead b) refl q

module _ (gr : Grammar) (lookahead : Lookahead gr.Token gr.Name gr.Value) (fits : IsLL1 gr lookahead) where
  pub reads_empty : (j r : ℕ) (n : gr.Name) (x : gr.Value n) → Reads gr j r n [] x → lookahead.nullable n ≡ Some x
  reads_empty zero r n x h = absurd h
  reads_empty (suc j) r n x h =
      whole_empty lookahead (λ w m us y. Reads gr j w m us y) n (λ w us y. Reads gr j w n us y)
      (λ w m y. reads_empty j w m y) (gr.production n) r x (fits n).1 h

  pub begun_begins : (j r : ℕ) (n : gr.Name) (t : gr.Token) (ts : List gr.Token) → Begun gr j r n (t ∷ ts) → lookahead.first n t ≡ true
  begun_begins zero r n t ts h = cc
  begun_begins (suc j) r n t ts (inl h) = cc
  begun_begins (suc j) r n t ts (inr h) =
      begun_first lookahead (λ w m us y. Reads gr j w m us y) n (λ w us y. Reads gr j w n us y) (λ w m us. Begun gr j w m us)
      (λ w m y. reads_empty j w m y) (λ w y. reads_empty j w n y)
      (λ w m c us y q. begun_begins j w m c us (reads_begun gr j w m (c ∷ us) y q))
      (λ w c us y q. begun_begins j w n c us (reads_begun gr j w n (c ∷ us) y q))
      (λ w m c us q. begun_begins j w m c us q)
      (gr.production n) r t ts (fits n).1 h

  pub reads_begins : (j r : ℕ) (n : gr.Name) (t : gr.Token) (ts : List gr.Token) (x : gr.Value n)
      → Reads gr j r n (t ∷ ts) x → lookahead.first n t ≡ true
  reads_begins j r n t ts x h = begun_begins j r n t ts (reads_begun gr j r n (t ∷ ts) x h)

  pub empty_within : (k : ℕ) (n : gr.Name) → lookahead.rank n < k → (x : gr.Value n) → lookahead.nullable n ≡ Some x → (r : ℕ) × IsRead gr r n [] x
  empty_within zero n l x e = absurd (omega arith)
  empty_within (suc k) n l x e =
      let f = nothing_at lookahead (λ w m us y. IsRead gr w m us y) n (λ w us y. IsRead gr w n us y)
      (λ v w m us y. is_read_up gr v w m us y)
      (λ m q. empty_within k m (let le : lookahead.rank m < k = omega arith in le))
      (gr.production n) (fits n).1 x e in
      (f.0, read_intro gr n f.0 [] x f.1)

  pub first_within : (k : ℕ) (n : gr.Name) → lookahead.rank n < k → (t : gr.Token) → lookahead.first n t ≡ true → (r : ℕ) × IsViable gr r n (t ∷ [])
  first_within zero n l t e = absurd (omega arith)
  first_within (suc k) n l t e =
      let f = begins_at lookahead (λ w m us y. IsRead gr w m us y) n (λ w us y. IsRead gr w n us y) (λ w m us. IsViable gr w m us)
      (λ v w m us y. is_read_up gr v w m us y) (λ v w us y. is_read_up gr v w n us y)
      (λ v w m us. is_viable_up gr v w m us) (λ w m. viable_nil gr w m)
      (λ m q. empty_within k m (let le : lookahead.rank m < k = omega arith in le)) t
      (λ m q. first_within k m (let le : lookahead.rank m < k = omega arith in le) t)
      (gr.production n) (λ w y. read_intro gr n w [] y) (fits n).1 e in
      (f.0, begun_intro gr n f.0 (t ∷ []) f.1)

  -- what the lookahead let be empty is read from no token, at some depth
  pub empty_read : (n : gr.Name) (x : gr.Value n) → lookahead.nullable n ≡ Some x → (r : ℕ) × IsRead gr r n [] x
  empty_read n x e = empty_within (suc (lookahead.rank n)) n (le_refl (suc (lookahead.rank n))) x e

  -- what the lookahead let begin a reading does so, at some depth
  pub first_viable : (n : gr.Name) (t : gr.Token) → lookahead.first n t ≡ true → (r : ℕ) × IsViable gr r n (t ∷ [])
  first_viable n t e = first_within (suc (lookahead.rank n)) n (le_refl (suc (lookahead.rank n))) t e

  -- the same of the parts of a production, which may call any name at their front
  pub parts_viable : {A : Type 0} (rank : ℕ) (g : Parts gr.Token gr.Name gr.Value A) → Ranked lookahead rank g
      → (t : gr.Token) → begins lookahead g t ≡ true
      → (r : ℕ) × PartsBegun (λ m us y. IsRead gr r m us y) (λ m us. IsViable gr r m us) g (t ∷ [])
  parts_viable rank g k t e =
      parts_begins lookahead (λ w m us y. IsRead gr w m us y) (λ w m us. IsViable gr w m us)
      (λ v w m us y. is_read_up gr v w m us y) (λ v w m us. is_viable_up gr v w m us) (λ w m. viable_nil gr w m)
      rank (λ m q. empty_read m) t (λ m q. first_viable m t) g k e
