-- The relations without their heights: what the parts of a production read makes a reading by its name.
use Rattle.std.proofs.Common.{ℕ, zero, suc, ◌≤◌, max, List, [], ◌∷◌, inl, inr, refl, le_refl, arith}
use Rattle.grammar.specs.Parts.{Parts, Return, Take, Call, Either, Production, Plain, Node, Chain, Grammar}
use Rattle.grammar.specs.Reading.{PartsRead, PartsBegun, WholeRead, BegunBy, Reads, Begun, IsRead, IsViable}
use Rattle.grammar.proofs.Up.{Reader, Beginner, parts_read_up, parts_begun_up, reads_up, begun_up, reads_begun}

module _ {T N : Type 0} {V : N → Type 0} where
  gather_read : {A : Type 0} (R : ℕ → Reader T N V)
      → ((i j : ℕ) (n : N) (ts : List T) (x : V n) → i ≤ j → R i n ts x → R j n ts x)
      → (g : Parts T N V A) (ts : List T) (x : A)
      → PartsRead (λ n us y. (j : ℕ) × R j n us y) g ts x → (j : ℕ) × PartsRead (R j) g ts x
  gather_read R up (Return y) ts x h = (zero, h)
  gather_read R up (Take p k) [] x h = absurd h
  gather_read R up (Take p k) (t ∷ ts) x h = let f = gather_read R up (k t) ts x h.1 in (f.0, (h.0, f.1))
  gather_read R up (Call n k) ts x (u, v, a, e, r, h) =
      let f = gather_read R up (k a) v x h in
      let one : r.0 ≤ max r.0 f.0 = omega arith in
      let other : f.0 ≤ max r.0 f.0 = omega arith in (
        max r.0 f.0,
        (
          u,
          v,
          a,
          e,
          up r.0 (max r.0 f.0) n u a one r.1,
          parts_read_up (R f.0) (R (max r.0 f.0)) (λ m us y. up f.0 (max r.0 f.0) m us y other) (k a) v x f.1,
        ),
      )
  gather_read R up (Either g h) ts x (inl l) = let f = gather_read R up g ts x l in (f.0, inl f.1)
  gather_read R up (Either g h) ts x (inr l) = let f = gather_read R up h ts x l in (f.0, inr f.1)

  gather_begun : {A : Type 0} (R : ℕ → Reader T N V) (B : ℕ → Beginner T N)
      → ((i j : ℕ) (n : N) (ts : List T) (x : V n) → i ≤ j → R i n ts x → R j n ts x)
      → ((i j : ℕ) (n : N) (ts : List T) → i ≤ j → B i n ts → B j n ts)
      → (g : Parts T N V A) (ts : List T)
      → PartsBegun (λ n us y. (j : ℕ) × R j n us y) (λ n us. (j : ℕ) × B j n us) g ts → (j : ℕ) × PartsBegun (R j) (B j) g ts
  gather_begun R B up upb (Return y) ts h = (zero, h)
  gather_begun R B up upb (Take p k) [] h = (zero, tt)
  gather_begun R B up upb (Take p k) (t ∷ ts) h = let f = gather_begun R B up upb (k t) ts h.1 in (f.0, (h.0, f.1))
  gather_begun R B up upb (Call n k) ts (inl b) = (b.0, inl b.1)
  gather_begun R B up upb (Call n k) ts (inr (u, v, a, e, r, h)) =
      let f = gather_begun R B up upb (k a) v h in
      let one : r.0 ≤ max r.0 f.0 = omega arith in
      let other : f.0 ≤ max r.0 f.0 = omega arith in (
        max r.0 f.0,
        inr (
          u,
          v,
          a,
          e,
          up r.0 (max r.0 f.0) n u a one r.1,
          parts_begun_up (R f.0) (R (max r.0 f.0)) (B f.0) (B (max r.0 f.0)) (λ m us y. up f.0 (max r.0 f.0) m us y other)
              (λ m us. upb f.0 (max r.0 f.0) m us other) (k a) v f.1,
        ),
      )
  gather_begun R B up upb (Either g h) ts (inl l) = let f = gather_begun R B up upb g ts l in (f.0, inl f.1)
  gather_begun R B up upb (Either g h) ts (inr l) = let f = gather_begun R B up upb h ts l in (f.0, inr f.1)

  gather_whole : {A : Type 0} (R : ℕ → ℕ → Reader T N V) (S : ℕ → ℕ → List T → A → Type 0)
      → ((i j r : ℕ) (n : N) (ts : List T) (x : V n) → i ≤ j → R i r n ts x → R j r n ts x)
      → ((i j r : ℕ) (ts : List T) (x : A) → i ≤ j → S i r ts x → S j r ts x)
      → (p : Production T N V A) (r : ℕ) (ts : List T) (x : A)
      → WholeRead (λ w n us y. (j : ℕ) × R j w n us y) (λ w us y. (j : ℕ) × S j w us y) p r ts x
      → (j : ℕ) × WholeRead (R j) (S j) p r ts x
  gather_whole R S up ups (Plain g) r ts x h = gather_read (λ j. R j r) (λ i j n us y. up i j r n us y) g ts x h
  gather_whole R S up ups (Node g) zero ts x h = absurd h
  gather_whole R S up ups (Node g) (suc r) ts x h = gather_read (λ j. R j r) (λ i j n us y. up i j r n us y) g ts x h
  gather_whole R S up ups (Chain b step) zero ts x h = gather_read (λ j. R j zero) (λ i j n us y. up i j zero n us y) b ts x h
  gather_whole R S up ups (Chain b step) (suc r) ts x (inl h) =
      let f = gather_read (λ j. R j (suc r)) (λ i j n us y. up i j (suc r) n us y) b ts x h in (f.0, inl f.1)
  gather_whole R S up ups (Chain b step) (suc r) ts x (inr (u, v, y, e, s, h)) =
      let f = gather_read (λ j. R j r) (λ i j n us z. up i j r n us z) (step y) v x h in
      let one : s.0 ≤ max s.0 f.0 = omega arith in
      let other : f.0 ≤ max s.0 f.0 = omega arith in (
        max s.0 f.0,
        inr (
          u,
          v,
          y,
          e,
          ups s.0 (max s.0 f.0) r u y one s.1,
          parts_read_up (R f.0 r) (R (max s.0 f.0) r) (λ m us z. up f.0 (max s.0 f.0) r m us z other) (step y) v x f.1,
        ),
      )

  gather_begun_by : {A : Type 0} (R : ℕ → ℕ → Reader T N V) (S : ℕ → ℕ → List T → A → Type 0) (B : ℕ → ℕ → Beginner T N)
      → ((i j r : ℕ) (n : N) (ts : List T) (x : V n) → i ≤ j → R i r n ts x → R j r n ts x)
      → ((i j r : ℕ) (ts : List T) (x : A) → i ≤ j → S i r ts x → S j r ts x)
      → ((i j r : ℕ) (n : N) (ts : List T) → i ≤ j → B i r n ts → B j r n ts)
      → (p : Production T N V A) (r : ℕ) (ts : List T)
      → BegunBy (λ w n us y. (j : ℕ) × R j w n us y) (λ w us y. (j : ℕ) × S j w us y) (λ w n us. (j : ℕ) × B j w n us) p r ts
      → (j : ℕ) × BegunBy (R j) (S j) (B j) p r ts
  gather_begun_by R S B up ups upb (Plain g) r ts h =
      gather_begun (λ j. R j r) (λ j. B j r) (λ i j n us y. up i j r n us y) (λ i j n us. upb i j r n us) g ts h
  gather_begun_by R S B up ups upb (Node g) zero ts h = absurd h
  gather_begun_by R S B up ups upb (Node g) (suc r) ts h =
      gather_begun (λ j. R j r) (λ j. B j r) (λ i j n us y. up i j r n us y) (λ i j n us. upb i j r n us) g ts h
  gather_begun_by R S B up ups upb (Chain b step) zero ts h =
      gather_begun (λ j. R j zero) (λ j. B j zero) (λ i j n us y. up i j zero n us y) (λ i j n us. upb i j zero n us) b ts h
  gather_begun_by R S B up ups upb (Chain b step) (suc r) ts (inl h) =
      let f = gather_begun (λ j. R j (suc r)) (λ j. B j (suc r)) (λ i j n us y. up i j (suc r) n us y) (λ i j n us. upb i j (suc r) n us) b ts h in
      (f.0, inl f.1)
  gather_begun_by R S B up ups upb (Chain b step) (suc r) ts (inr (u, v, y, e, s, h)) =
      let f = gather_begun (λ j. R j r) (λ j. B j r) (λ i j n us z. up i j r n us z) (λ i j n us. upb i j r n us) (step y) v h in
      let one : s.0 ≤ max s.0 f.0 = omega arith in
      let other : f.0 ≤ max s.0 f.0 = omega arith in (
        max s.0 f.0,
        inr (
          u,
          v,
          y,
          e,
          ups s.0 (max s.0 f.0) r u y one s.1,
          parts_begun_up (R f.0 r) (R (max s.0 f.0) r) (B f.0 r) (B (max s.0 f.0) r) (λ m us z. up f.0 (max s.0 f.0) r m us z other)
              (λ m us. upb f.0 (max s.0 f.0) r m us other) (step y) v f.1,
        ),
      )

  -- the beginning of a chain alone, in any room
  pub chain_read : {A : Type 0} (R : ℕ → Reader T N V) (S : ℕ → List T → A → Type 0) (b : Parts T N V A) (step : A → Parts T N V A)
      (r : ℕ) (ts : List T) (x : A) → PartsRead (R r) b ts x → WholeRead R S (Chain b step) r ts x
  chain_read R S b step zero ts x h = h
  chain_read R S b step (suc r) ts x h = inl h

  pub chain_begun : {A : Type 0} (R : ℕ → Reader T N V) (S : ℕ → List T → A → Type 0) (B : ℕ → Beginner T N)
      (b : Parts T N V A) (step : A → Parts T N V A) (r : ℕ) (ts : List T) → PartsBegun (R r) (B r) b ts → BegunBy R S B (Chain b step) r ts
  chain_begun R S B b step zero ts h = h
  chain_begun R S B b step (suc r) ts h = inl h

module _ (gr : Grammar) where
  pub is_read_up : (r s : ℕ) (n : gr.Name) (ts : List gr.Token) (x : gr.Value n) → r ≤ s → IsRead gr r n ts x → IsRead gr s n ts x
  is_read_up r s n ts x l h = (h.0, reads_up gr h.0 h.0 r s n ts x (le_refl h.0) l h.1)

  pub is_viable_up : (r s : ℕ) (n : gr.Name) (ts : List gr.Token) → r ≤ s → IsViable gr r n ts → IsViable gr s n ts
  is_viable_up r s n ts l h = (h.0, begun_up gr h.0 h.0 r s n ts (le_refl h.0) l h.1)

  pub viable_nil : (r : ℕ) (n : gr.Name) → IsViable gr r n []
  viable_nil r n = (zero, refl)

  pub read_viable : (r : ℕ) (n : gr.Name) (ts : List gr.Token) (x : gr.Value n) → IsRead gr r n ts x → IsViable gr r n ts
  read_viable r n ts x h = (h.0, reads_begun gr h.0 r n ts x h.1)

  pub read_intro : (n : gr.Name) (r : ℕ) (ts : List gr.Token) (x : gr.Value n)
      → WholeRead (λ w m us y. IsRead gr w m us y) (λ w us y. IsRead gr w n us y) (gr.production n) r ts x → IsRead gr r n ts x
  read_intro n r ts x h =
      let f = gather_whole (λ j w m us y. Reads gr j w m us y) (λ j w us y. Reads gr j w n us y)
      (λ i j w m us y l g. reads_up gr i j w w m us y l (le_refl w) g) (λ i j w us y l g. reads_up gr i j w w n us y l (le_refl w) g)
      (gr.production n) r ts x h in
      (suc f.0, f.1)

  pub begun_intro : (n : gr.Name) (r : ℕ) (ts : List gr.Token)
      → BegunBy (λ w m us y. IsRead gr w m us y) (λ w us y. IsRead gr w n us y) (λ w m us. IsViable gr w m us) (gr.production n) r ts
      → IsViable gr r n ts
  begun_intro n r ts h =
      let f = gather_begun_by (λ j w m us y. Reads gr j w m us y) (λ j w us y. Reads gr j w n us y) (λ j w m us. Begun gr j w m us)
      (λ i j w m us y l g. reads_up gr i j w w m us y l (le_refl w) g) (λ i j w us y l g. reads_up gr i j w w n us y l (le_refl w) g)
      (λ i j w m us l g. begun_up gr i j w w m us l (le_refl w) g)
      (gr.production n) r ts h in
      (suc f.0, inr f.1)
