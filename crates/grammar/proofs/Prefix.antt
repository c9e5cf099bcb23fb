-- What begins an unfinished reading is an unfinished reading.
use Rattle.std.proofs.Common.{◌≡◌, ℕ, zero, suc, ◌≤◌, List, [], ◌∷◌, ◌++◌, ◌⊎◌, inl, inr, subst, arith}
use Rattle.grammar.specs.Parts.{Parts, Return, Take, Call, Either, Production, Plain, Node, Chain, Grammar}
use Rattle.grammar.specs.Reading.{PartsBegun, BegunBy, Reads, Begun, IsViable}
use Rattle.grammar.proofs.Lists.{split_append, front_nil}
use Rattle.grammar.proofs.Up.{Reader, Beginner, reads_begun, begun_up}

module _ {T N : Type 0} {V : N → Type 0} where
  parts_prefix : {A : Type 0} (R : Reader T N V) (B : Beginner T N) → ((n : N) (u : List T) (x : V n) → R n u x → B n u)
      → ((n : N) (c d : List T) → B n (c ++ d) → B n c)
      → (g : Parts T N V A) (c d : List T) → PartsBegun R B g (c ++ d) → PartsBegun R B g c
  parts_prefix R B rb pre (Return y) c d h = front_nil c d h
  parts_prefix R B rb pre (Take p k) [] d h = tt
  parts_prefix R B rb pre (Take p k) (t ∷ c) d h = (h.0, parts_prefix R B rb pre (k t) c d h.1)
  parts_prefix R B rb pre (Call n k) c d (inl b) = inl (pre n c d b)
  parts_prefix R B rb pre (Call n k) c d (inr (u, v, a, e, r, h)) =
      go (split_append c d u v e) (λ w f. parts_prefix R B rb pre (k a) w d f)
    where
      go : ((w : List T) × (u ≡ c ++ w) × (d ≡ w ++ v)) ⊎ ((w : List T) × (c ≡ u ++ w) × (v ≡ w ++ d))
          → ((w : List T) → PartsBegun R B (k a) (w ++ d) → PartsBegun R B (k a) w) → PartsBegun R B (Call n k) c
      go (inl (w, p, q)) rec = inl (pre n c w (subst (λ us. B n us) p (rb n u a r)))
      go (inr (w, p, q)) rec = inr (u, w, a, p, r, rec w (subst (λ us. PartsBegun R B (k a) us) q h))
  parts_prefix R B rb pre (Either g h) c d (inl s) = inl (parts_prefix R B rb pre g c d s)
  parts_prefix R B rb pre (Either g h) c d (inr s) = inr (parts_prefix R B rb pre h c d s)

  -- C is what is begun, F what is begun of what stands left in a chain
  begun_prefix : {A : Type 0} (R : ℕ → Reader T N V) (S : ℕ → List T → A → Type 0) (B : ℕ → Beginner T N)
      → ((r : ℕ) (n : N) (u : List T) (x : V n) → R r n u x → B r n u)
      → ((r : ℕ) (n : N) (c d : List T) → B r n (c ++ d) → B r n c)
      → (F C : ℕ → List T → Type 0) → ((r : ℕ) (u : List T) (x : A) → S r u x → F r u) → ((r : ℕ) (c d : List T) → F r (c ++ d) → C (suc r) c)
      → (p : Production T N V A) → ((r : ℕ) (c : List T) → BegunBy R S B p r c → C r c)
      → (r : ℕ) (c d : List T) → BegunBy R S B p r (c ++ d) → C r c
  begun_prefix R S B rb pre F C sf fc (Plain g) intro r c d h = intro r c (parts_prefix (R r) (B r) (rb r) (pre r) g c d h)
  begun_prefix R S B rb pre F C sf fc (Node g) intro zero c d h = absurd h
  begun_prefix R S B rb pre F C sf fc (Node g) intro (suc r) c d h = intro (suc r) c (parts_prefix (R r) (B r) (rb r) (pre r) g c d h)
  begun_prefix R S B rb pre F C sf fc (Chain b step) intro zero c d h =
      intro zero c (parts_prefix (R zero) (B zero) (rb zero) (pre zero) b c d h)
  begun_prefix R S B rb pre F C sf fc (Chain b step) intro (suc r) c d (inl h) =
      intro (suc r) c (inl (parts_prefix (R (suc r)) (B (suc r)) (rb (suc r)) (pre (suc r)) b c d h))
  begun_prefix R S B rb pre F C sf fc (Chain b step) intro (suc r) c d (inr (u, v, y, e, s, h)) =
      go (split_append c d u v e)
    where
      go : ((w : List T) × (u ≡ c ++ w) × (d ≡ w ++ v)) ⊎ ((w : List T) × (c ≡ u ++ w) × (v ≡ w ++ d)) → C (suc r) c
      go (inl (w, p, q)) = fc r c w (subst (λ us. F r us) p (sf r u y s))
      go (inr (w, p, q)) =
          intro (suc r) c (inr (
            u,
            w,
            y,
            p,
            s,
            parts_prefix (R r) (B r) (rb r) (pre r) (step y) w d (subst (λ us. PartsBegun (R r) (B r) (step y) us) q h),
          ))

module _ (gr : Grammar) where
  pub begun_pre : (j r : ℕ) (n : gr.Name) (c d : List gr.Token) → Begun gr j r n (c ++ d) → Begun gr j r n c
  begun_pre zero r n c d h = front_nil c d h
  begun_pre (suc j) r n c d (inl h) = inl (front_nil c d h)
  begun_pre (suc j) r n c d (inr h) =
      begun_prefix (λ w m us y. Reads gr j w m us y) (λ w us y. Reads gr j w n us y) (λ w m us. Begun gr j w m us)
      (λ w m us y q. reads_begun gr j w m us y q) (λ w m a b q. begun_pre j w m a b q)
      (λ w us. Begun gr j w n us) (λ w us. Begun gr (suc j) w n us) (λ w us y q. reads_begun gr j w n us y q)
      (λ w a b q. begun_up gr j (suc j) w (suc w) n a (let l : j ≤ suc j = omega arith in l) (let m : w ≤ suc w = omega arith in m) (begun_pre j w n a b q))
      (gr.production n) (λ w us q. inr q) r c d h

  pub viable_prefix : (r : ℕ) (n : gr.Name) (c d : List gr.Token) → IsViable gr r n (c ++ d) → IsViable gr r n c
  viable_prefix r n c d h = (h.0, begun_pre h.0 r n c d h.1)
