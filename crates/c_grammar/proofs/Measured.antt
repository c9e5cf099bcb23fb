-- What is read within a room is no deeper than the room, and within any room that it fits in it is read too. This
-- holds of every grammar with a measure of what its names read, if each production measures as its parts do.
use Rattle.std.proofs.Common.{◌≡◌, ℕ, zero, suc, ◌+◌, ◌≤◌, max, List, [], ◌∷◌, inl, inr, arith}
use Rattle.grammar.specs.Parts.{Parts, Return, Take, Call, Either, Production, Plain, Node, Chain, Grammar}
use Rattle.grammar.specs.Reading.{PartsRead, WholeRead, Reads}

-- what names read
abbrev pub Reader : (T N : Type 0) → (N → Type 0) → Type 1
Reader T N V = (n : N) → List T → V n → Type 0

-- what is this deep was read within a room, and is read within another where it fits
abbrev pub IsWithin : ℕ → ℕ → ℕ → Type 0 → Type 0
IsWithin depth room other There = (depth ≤ room) × (depth ≤ other → There)

-- `measure` is how deep a value is, and `Fine` are the names whose arguments hold nothing deep
module _ {T N : Type 0} {V : N → Type 0} (measure : (n : N) → V n → ℕ) (Fine : N → Type 0) where
  -- Each value is as deep as what was called, `deep` so far, with `end` for the node around it.
  abbrev pub PartsMeasured : {A : Type 0} → (ℕ → ℕ) → (A → ℕ) → ℕ → Parts T N V A → Type 0
  PartsMeasured end depth deep (Return x) = depth x ≡ end deep
  PartsMeasured end depth deep (Take test rest) = (t : T) → PartsMeasured end depth deep (rest t)
  PartsMeasured end depth deep (Call n rest) = Fine n × ((a : V n) → PartsMeasured end depth (max deep (measure n a)) (rest a))
  PartsMeasured end depth deep (Either one other) = PartsMeasured end depth deep one × PartsMeasured end depth deep other

  -- a chain's step stands round what was read before it
  abbrev pub ProductionMeasured : {A : Type 0} → (A → ℕ) → Production T N V A → Type 0
  ProductionMeasured depth (Plain parts) = PartsMeasured (λ d. d) depth 0 parts
  ProductionMeasured depth (Node parts) = PartsMeasured (λ d. d + 1) depth 0 parts
  ProductionMeasured {A} depth (Chain start step) =
      PartsMeasured (λ d. d) depth 0 start × ((y : A) → PartsMeasured (λ d. d + 1) depth (depth y) (step y))

  -- The parts read a value of some depth, that of a node's inside: no less than `deep`, no more than the room, and
  -- enough room for them wherever it fits.
  pub parts_within : {A : Type 0} (R S : Reader T N V) (r s : ℕ)
      → ((n : N) (ts : List T) (x : V n) → Fine n → R n ts x → IsWithin (measure n x) r s (S n ts x))
      → (end : ℕ → ℕ) (depth : A → ℕ) (deep : ℕ) (g : Parts T N V A) → PartsMeasured end depth deep g
      → (ts : List T) (x : A) → PartsRead R g ts x
      → (whole : ℕ) × (depth x ≡ end whole) × (deep ≤ whole) × (deep ≤ r → whole ≤ r) × (whole ≤ s → PartsRead S g ts x)
  parts_within R S r s known end depth deep (Return y) m ts x h =
      (deep, rw h.1 at m, omega arith, (λ l. l), (λ l. h))
  parts_within R S r s known end depth deep (Take p k) m [] x h = absurd h
  parts_within R S r s known end depth deep (Take p k) m (t ∷ ts) x h =
      let (w, e, l, below, read) = parts_within R S r s known end depth deep (k t) (m t) ts x h.1 in
      (w, e, l, below, (λ fits. (h.0, read fits)))
  parts_within R S r s known end depth deep (Call n k) m ts x (u, v, a, e, c, h) =
      called (known n u a m.0 c) (parts_within R S r s known end depth (max deep (measure n a)) (k a) (m.1 a) v x h)
    where
      called : IsWithin (measure n a) r s (S n u a)
          → ((w : ℕ) × (depth x ≡ end w) × (max deep (measure n a) ≤ w) × (max deep (measure n a) ≤ r → w ≤ r) × (w ≤ s → PartsRead S (k a) v x))
          → (w : ℕ) × (depth x ≡ end w) × (deep ≤ w) × (deep ≤ r → w ≤ r) × (w ≤ s → PartsRead S (Call n k) ts x)
      called (le, there) (w, f, l, below, read) =
          (w, f, omega arith, (λ b. below (omega arith)), (λ fits. (u, v, a, e, there (omega arith), read fits)))
  parts_within R S r s known end depth deep (Either g h) m ts x (inl one) =
      let (w, e, l, below, read) = parts_within R S r s known end depth deep g m.0 ts x one in
      (w, e, l, below, (λ fits. inl (read fits)))
  parts_within R S r s known end depth deep (Either g h) m ts x (inr other) =
      let (w, e, l, below, read) = parts_within R S r s known end depth deep h m.1 ts x other in
      (w, e, l, below, (λ fits. inr (read fits)))

  -- the same of a production, by its cases
  pub whole_within : {A : Type 0} (R : ℕ → Reader T N V) (S : ℕ → List T → A → Type 0) (depth : A → ℕ)
      → ((r s : ℕ) (n : N) (ts : List T) (x : V n) → Fine n → R r n ts x → IsWithin (measure n x) r s (R s n ts x))
      → ((r s : ℕ) (ts : List T) (x : A) → S r ts x → IsWithin (depth x) r s (S s ts x))
      → (p : Production T N V A) → ProductionMeasured depth p
      → (r s : ℕ) (ts : List T) (x : A) → WholeRead R S p r ts x → IsWithin (depth x) r s (WholeRead R S p s ts x)
  whole_within R S depth known own (Plain g) m r s ts x h =
      let (w, e, l, below, read) = parts_within (R r) (R s) r s (known r s) (λ d. d) depth 0 g m ts x h in
      let le : w ≤ r = below (omega arith) in
      (omega arith, (λ fits. read (omega arith)))
  whole_within R S depth known own (Node g) m zero s ts x h = absurd h
  whole_within R S depth known own (Node g) m (suc r) zero ts x h =
      let (w, e, l, below, read) = parts_within (R r) (R r) r r (known r r) (λ d. d + 1) depth 0 g m ts x h in
      let le : w ≤ r = below (omega arith) in
      (omega arith, (λ fits. absurd (omega arith)))
  whole_within R S depth known own (Node g) m (suc r) (suc s) ts x h =
      let (w, e, l, below, read) = parts_within (R r) (R s) r s (known r s) (λ d. d + 1) depth 0 g m ts x h in
      let le : w ≤ r = below (omega arith) in
      (omega arith, (λ fits. read (omega arith)))
  whole_within R S depth known own (Chain b step) m zero zero ts x h =
      let (w, e, l, below, read) = parts_within (R zero) (R zero) zero zero (known zero zero) (λ d. d) depth 0 b m.0 ts x h in
      let le : w ≤ zero = below (omega arith) in
      (omega arith, (λ fits. read (omega arith)))
  whole_within R S depth known own (Chain b step) m zero (suc s) ts x h =
      let (w, e, l, below, read) = parts_within (R zero) (R (suc s)) zero (suc s) (known zero (suc s)) (λ d. d) depth 0 b m.0 ts x h in
      let le : w ≤ zero = below (omega arith) in
      (omega arith, (λ fits. inl (read (omega arith))))
  whole_within R S depth known own (Chain b step) m (suc r) zero ts x (inl h) =
      let (w, e, l, below, read) = parts_within (R (suc r)) (R zero) (suc r) zero (known (suc r) zero) (λ d. d) depth 0 b m.0 ts x h in
      let le : w ≤ suc r = below (omega arith) in
      (omega arith, (λ fits. read (omega arith)))
  whole_within R S depth known own (Chain b step) m (suc r) (suc s) ts x (inl h) =
      let (w, e, l, below, read) = parts_within (R (suc r)) (R (suc s)) (suc r) (suc s) (known (suc r) (suc s)) (λ d. d) depth 0 b m.0 ts x h in
      let le : w ≤ suc r = below (omega arith) in
      (omega arith, (λ fits. inl (read (omega arith))))
  whole_within R S depth known own (Chain b step) m (suc r) zero ts x (inr (u, v, y, f, c, h)) =
      let (w, e, l, below, read) = parts_within (R r) (R r) r r (known r r) (λ d. d + 1) depth (depth y) (step y) (m.1 y) v x h in
      let first : depth y ≤ r = (own r r u y c).0 in
      let le : w ≤ r = below first in
      (omega arith, (λ fits. absurd (omega arith)))
  whole_within R S depth known own (Chain b step) m (suc r) (suc s) ts x (inr (u, v, y, f, c, h)) =
      let (w, e, l, below, read) = parts_within (R r) (R s) r s (known r s) (λ d. d + 1) depth (depth y) (step y) (m.1 y) v x h in
      let first : depth y ≤ r = (own r s u y c).0 in
      let le : w ≤ r = below first in
      (omega arith, (λ fits. inr (u, v, y, f, (own r s u y c).1 (omega arith), read (omega arith))))

module _ (gr : Grammar) (measure : (n : gr.Name) → gr.Value n → ℕ) (Fine : gr.Name → Type 0) where
  -- each production measures as its parts do
  abbrev pub IsMeasured : Type 0
  IsMeasured = (n : gr.Name) → Fine n → ProductionMeasured measure Fine (measure n) (gr.production n)

  -- the same of what a name reads, by the height of the reading
  pub reads_within : IsMeasured → (height r s : ℕ) (n : gr.Name) (ts : List gr.Token) (x : gr.Value n) → Fine n
      → Reads gr height r n ts x → IsWithin (measure n x) r s (Reads gr height s n ts x)
  reads_within all zero r s n ts x fine h = absurd h
  reads_within all (suc j) r s n ts x fine h =
      whole_within measure Fine (λ w k us y. Reads gr j w k us y) (λ w us y. Reads gr j w n us y) (measure n)
      (λ v w k us y f. reads_within all j v w k us y f) (λ v w us y. reads_within all j v w n us y fine)
      (gr.production n) (all n fine) r s ts x h
