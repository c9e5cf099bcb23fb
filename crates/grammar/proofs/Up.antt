-- Whatever is read within a room is read within a greater one, and a whole reading is an unfinished one.
use Rattle.std.proofs.Common.{ℕ, zero, suc, ◌≤◌, List, [], ◌∷◌, inl, inr, refl, arith}
use Rattle.grammar.specs.Parts.{Parts, Return, Take, Call, Either, Production, Plain, Node, Chain, Grammar}
use Rattle.grammar.specs.Reading.{PartsRead, PartsBegun, WholeRead, BegunBy, Reads, Begun}

-- what names read, what they have begun to read, and what one production reads
abbrev pub Reader : (T N : Type 0) → (N → Type 0) → Type 1
Reader T N V = (n : N) → List T → V n → Type 0

abbrev pub Beginner : (T N : Type 0) → Type 1
Beginner T N = (n : N) → List T → Type 0

module _ {T N : Type 0} {V : N → Type 0} where
  pub parts_read_up : {A : Type 0} (R S : Reader T N V) → ((n : N) (ts : List T) (x : V n) → R n ts x → S n ts x)
      → (g : Parts T N V A) (ts : List T) (x : A) → PartsRead R g ts x → PartsRead S g ts x
  parts_read_up R S up (Return y) ts x h = h
  parts_read_up R S up (Take p k) [] x h = h
  parts_read_up R S up (Take p k) (t ∷ ts) x h = (h.0, parts_read_up R S up (k t) ts x h.1)
  parts_read_up R S up (Call n k) ts x (u, v, a, e, r, h) = (u, v, a, e, up n u a r, parts_read_up R S up (k a) v x h)
  parts_read_up R S up (Either g h) ts x (inl l) = inl (parts_read_up R S up g ts x l)
  parts_read_up R S up (Either g h) ts x (inr l) = inr (parts_read_up R S up h ts x l)

  pub parts_begun_up : {A : Type 0} (R S : Reader T N V) (B C : Beginner T N)
      → ((n : N) (ts : List T) (x : V n) → R n ts x → S n ts x)
      → ((n : N) (ts : List T) → B n ts → C n ts)
      → (g : Parts T N V A) (ts : List T) → PartsBegun R B g ts → PartsBegun S C g ts
  parts_begun_up R S B C up upb (Return y) ts h = h
  parts_begun_up R S B C up upb (Take p k) [] h = tt
  parts_begun_up R S B C up upb (Take p k) (t ∷ ts) h = (h.0, parts_begun_up R S B C up upb (k t) ts h.1)
  parts_begun_up R S B C up upb (Call n k) ts (inl b) = inl (upb n ts b)
  parts_begun_up R S B C up upb (Call n k) ts (inr (u, v, a, e, r, h)) =
      inr (u, v, a, e, up n u a r, parts_begun_up R S B C up upb (k a) v h)
  parts_begun_up R S B C up upb (Either g h) ts (inl l) = inl (parts_begun_up R S B C up upb g ts l)
  parts_begun_up R S B C up upb (Either g h) ts (inr l) = inr (parts_begun_up R S B C up upb h ts l)

  -- a whole reading of parts is an unfinished one
  pub parts_read_begun : {A : Type 0} (R : Reader T N V) (B : Beginner T N)
      → (g : Parts T N V A) (ts : List T) (x : A) → PartsRead R g ts x → PartsBegun R B g ts
  parts_read_begun R B (Return y) ts x h = h.0
  parts_read_begun R B (Take p k) [] x h = tt
  parts_read_begun R B (Take p k) (t ∷ ts) x h = (h.0, parts_read_begun R B (k t) ts x h.1)
  parts_read_begun R B (Call n k) ts x (u, v, a, e, r, h) = inr (u, v, a, e, r, parts_read_begun R B (k a) v x h)
  parts_read_begun R B (Either g h) ts x (inl l) = inl (parts_read_begun R B g ts x l)
  parts_read_begun R B (Either g h) ts x (inr l) = inr (parts_read_begun R B h ts x l)

  -- nothing is an unfinished reading
  pub parts_begun_nil : {A : Type 0} (R : Reader T N V) (B : Beginner T N) → ((n : N) → B n []) → (g : Parts T N V A) → PartsBegun R B g []
  parts_begun_nil R B nil (Return y) = refl
  parts_begun_nil R B nil (Take p k) = tt
  parts_begun_nil R B nil (Call n k) = inl (nil n)
  parts_begun_nil R B nil (Either g h) = inl (parts_begun_nil R B nil g)

  pub whole_up : {A : Type 0} (R R' : ℕ → Reader T N V) (S S' : ℕ → List T → A → Type 0)
      → ((r s : ℕ) (n : N) (ts : List T) (x : V n) → r ≤ s → R r n ts x → R' s n ts x)
      → ((r s : ℕ) (ts : List T) (x : A) → r ≤ s → S r ts x → S' s ts x)
      → (p : Production T N V A) (r s : ℕ) (ts : List T) (x : A) → r ≤ s → WholeRead R S p r ts x → WholeRead R' S' p s ts x
  whole_up R R' S S' up ups (Plain g) r s ts x l h = parts_read_up (R r) (R' s) (λ n us y. up r s n us y l) g ts x h
  whole_up R R' S S' up ups (Node g) zero s ts x l h = absurd h
  whole_up R R' S S' up ups (Node g) (suc r) zero ts x l h = absurd (omega arith)
  whole_up R R' S S' up ups (Node g) (suc r) (suc s) ts x l h =
      let le : r ≤ s = omega arith in parts_read_up (R r) (R' s) (λ n us y. up r s n us y le) g ts x h
  whole_up R R' S S' up ups (Chain b step) zero zero ts x l h =
      parts_read_up (R zero) (R' zero) (λ n us y. up zero zero n us y l) b ts x h
  whole_up R R' S S' up ups (Chain b step) zero (suc s) ts x l h =
      inl (parts_read_up (R zero) (R' (suc s)) (λ n us y. up zero (suc s) n us y l) b ts x h)
  whole_up R R' S S' up ups (Chain b step) (suc r) zero ts x l h = absurd (omega arith)
  whole_up R R' S S' up ups (Chain b step) (suc r) (suc s) ts x l (inl h) =
      inl (parts_read_up (R (suc r)) (R' (suc s)) (λ n us y. up (suc r) (suc s) n us y l) b ts x h)
  whole_up R R' S S' up ups (Chain b step) (suc r) (suc s) ts x l (inr (u, v, y, e, hs, h)) =
      let le : r ≤ s = omega arith in
      inr (u, v, y, e, ups r s u y le hs, parts_read_up (R r) (R' s) (λ n us z. up r s n us z le) (step y) v x h)

  pub begun_by_up : {A : Type 0} (R R' : ℕ → Reader T N V) (S S' : ℕ → List T → A → Type 0) (B B' : ℕ → Beginner T N)
      → ((r s : ℕ) (n : N) (ts : List T) (x : V n) → r ≤ s → R r n ts x → R' s n ts x)
      → ((r s : ℕ) (ts : List T) (x : A) → r ≤ s → S r ts x → S' s ts x)
      → ((r s : ℕ) (n : N) (ts : List T) → r ≤ s → B r n ts → B' s n ts)
      → (p : Production T N V A) (r s : ℕ) (ts : List T) → r ≤ s → BegunBy R S B p r ts → BegunBy R' S' B' p s ts
  begun_by_up R R' S S' B B' up ups upb (Plain g) r s ts l h =
      parts_begun_up (R r) (R' s) (B r) (B' s) (λ n us y. up r s n us y l) (λ n us. upb r s n us l) g ts h
  begun_by_up R R' S S' B B' up ups upb (Node g) zero s ts l h = absurd h
  begun_by_up R R' S S' B B' up ups upb (Node g) (suc r) zero ts l h = absurd (omega arith)
  begun_by_up R R' S S' B B' up ups upb (Node g) (suc r) (suc s) ts l h =
      let le : r ≤ s = omega arith in
      parts_begun_up (R r) (R' s) (B r) (B' s) (λ n us y. up r s n us y le) (λ n us. upb r s n us le) g ts h
  begun_by_up R R' S S' B B' up ups upb (Chain b step) zero zero ts l h =
      parts_begun_up (R zero) (R' zero) (B zero) (B' zero) (λ n us y. up zero zero n us y l) (λ n us. upb zero zero n us l) b ts h
  begun_by_up R R' S S' B B' up ups upb (Chain b step) zero (suc s) ts l h =
      inl (parts_begun_up (R zero) (R' (suc s)) (B zero) (B' (suc s)) (λ n us y. up zero (suc s) n us y l) (λ n us. upb zero (suc s) n us l) b ts h)
  begun_by_up R R' S S' B B' up ups upb (Chain b step) (suc r) zero ts l h = absurd (omega arith)
  begun_by_up R R' S S' B B' up ups upb (Chain b step) (suc r) (suc s) ts l (inl h) =
      inl (parts_begun_up (R (suc r)) (R' (suc s)) (B (suc r)) (B' (suc s)) (λ n us y. up (suc r) (suc s) n us y l)
      (λ n us. upb (suc r) (suc s) n us l) b ts h)
  begun_by_up R R' S S' B B' up ups upb (Chain b step) (suc r) (suc s) ts l (inr (u, v, y, e, hs, h)) =
      let le : r ≤ s = omega arith in
      inr (
        u,
        v,
        y,
        e,
        ups r s u y le hs,
        parts_begun_up (R r) (R' s) (B r) (B' s) (λ n us z. up r s n us z le) (λ n us. upb r s n us le) (step y) v h,
      )

  pub whole_begun : {A : Type 0} (R : ℕ → Reader T N V) (S : ℕ → List T → A → Type 0) (B : ℕ → Beginner T N)
      → (p : Production T N V A) (r : ℕ) (ts : List T) (x : A) → WholeRead R S p r ts x → BegunBy R S B p r ts
  whole_begun R S B (Plain g) r ts x h = parts_read_begun (R r) (B r) g ts x h
  whole_begun R S B (Node g) zero ts x h = absurd h
  whole_begun R S B (Node g) (suc r) ts x h = parts_read_begun (R r) (B r) g ts x h
  whole_begun R S B (Chain b step) zero ts x h = parts_read_begun (R zero) (B zero) b ts x h
  whole_begun R S B (Chain b step) (suc r) ts x (inl h) = inl (parts_read_begun (R (suc r)) (B (suc r)) b ts x h)
  whole_begun R S B (Chain b step) (suc r) ts x (inr (u, v, y, e, hs, h)) =
      inr (u, v, y, e, hs, parts_read_begun (R r) (B r) (step y) v x h)

module _ (gr : Grammar) where
  pub reads_up : (j i r s : ℕ) (n : gr.Name) (ts : List gr.Token) (x : gr.Value n) → j ≤ i → r ≤ s → Reads gr j r n ts x → Reads gr i s n ts x
  reads_up zero i r s n ts x l m h = absurd h
  reads_up (suc j) zero r s n ts x l m h = absurd (omega arith)
  reads_up (suc j) (suc i) r s n ts x l m h =
      let le : j ≤ i = omega arith in
      whole_up (λ w k us y. Reads gr j w k us y) (λ w k us y. Reads gr i w k us y)
      (λ w us y. Reads gr j w n us y) (λ w us y. Reads gr i w n us y)
      (λ v w k us y. reads_up j i v w k us y le) (λ v w us y. reads_up j i v w n us y le)
      (gr.production n) r s ts x m h

  pub begun_up : (j i r s : ℕ) (n : gr.Name) (ts : List gr.Token) → j ≤ i → r ≤ s → Begun gr j r n ts → Begun gr i s n ts
  begun_up zero zero r s n ts l m h = h
  begun_up zero (suc i) r s n ts l m h = inl h
  begun_up (suc j) zero r s n ts l m h = absurd (omega arith)
  begun_up (suc j) (suc i) r s n ts l m (inl h) = inl h
  begun_up (suc j) (suc i) r s n ts l m (inr h) =
      let le : j ≤ i = omega arith in
      inr (begun_by_up (λ w k us y. Reads gr j w k us y) (λ w k us y. Reads gr i w k us y)
      (λ w us y. Reads gr j w n us y) (λ w us y. Reads gr i w n us y)
      (λ w k us. Begun gr j w k us) (λ w k us. Begun gr i w k us)
      (λ v w k us y. reads_up j i v w k us y le) (λ v w us y. reads_up j i v w n us y le)
      (λ v w k us. begun_up j i v w k us le)
      (gr.production n) r s ts m h)

  pub reads_begun : (j r : ℕ) (n : gr.Name) (ts : List gr.Token) (x : gr.Value n) → Reads gr j r n ts x → Begun gr j r n ts
  reads_begun zero r n ts x h = absurd h
  reads_begun (suc j) r n ts x h =
      inr (whole_begun (λ w k us y. Reads gr j w k us y) (λ w us y. Reads gr j w n us y) (λ w k us. Begun gr j w k us)
      (gr.production n) r ts x h)
