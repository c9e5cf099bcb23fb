-- What names read stands between the places of their tokens. This holds of every grammar with a relation that says so
-- of what its names read, if each production keeps it as its parts do.
use Rattle.std.proofs.Common.{◌≡◌, refl, subst, ℕ, zero, suc, ◌≤◌, ◌<◌, true, List, [], ◌∷◌, ◌++◌, inl, inr, arith}
use Rattle.grammar.specs.Parts.{Parts, Return, Take, Call, Either, Production, Plain, Node, Chain, Grammar}
use Rattle.grammar.specs.Reading.{PartsRead, WholeRead, Reads}

-- what names read
abbrev Reader : (T N : Type 0) → (N → Type 0) → Type 1
Reader T N V = (n : N) → List T → V n → Type 0

module _ {T : Type 0} (start stop : T → ℕ) where
  -- From a place on, each token has at least one byte and ends at or before the start of the next, and this is where
  -- the last of them ends.
  abbrev pub Rise : ℕ → List T → ℕ → Type 0
  Rise at [] end = at ≡ end
  Rise at (t ∷ ts) end = (at ≤ start t) × (start t < stop t) × Rise (stop t) ts end

  pub rise_up : (at : ℕ) (ts : List T) (end : ℕ) → Rise at ts end → at ≤ end
  rise_up at [] end h = omega (arith, h)
  rise_up at (t ∷ ts) end (above, long, more) = let rest = rise_up (stop t) ts end more in omega (arith, above, long, rest)

  pub rise_split : (at : ℕ) (us vs : List T) (end : ℕ) → Rise at (us ++ vs) end → (middle : ℕ) × Rise at us middle × Rise middle vs end
  rise_split at [] vs end h = (at, refl, h)
  rise_split at (t ∷ us) vs end (above, long, more) =
      let (middle, front, back) = rise_split (stop t) us vs end more in (middle, (above, long, front), back)

-- `Stands` says of what a name reads that it stands from the one place to the other.
module _ {T N : Type 0} {V : N → Type 0} (start stop : T → ℕ) (Stands : (n : N) → ℕ → ℕ → V n → Type 0) where
  -- Of the parts behind a place: their value stands up to their end.
  abbrev pub PartsPlaced : {A : Type 0} → (ℕ → A → Type 0) → ℕ → Parts T N V A → Type 0
  PartsPlaced stands at (Return x) = stands at x
  PartsPlaced stands at (Take test rest) = (t : T) → test t ≡ true → at ≤ start t → start t < stop t → PartsPlaced stands (stop t) (rest t)
  PartsPlaced stands at (Call n rest) = (a : V n) (end : ℕ) → at ≤ end → Stands n at end a → PartsPlaced stands end (rest a)
  PartsPlaced stands at (Either one other) = PartsPlaced stands at one × PartsPlaced stands at other

  -- the same of a production from each place on; a chain's step goes on behind what was read before it
  abbrev pub ProductionPlaced : {A : Type 0} → (ℕ → ℕ → A → Type 0) → Production T N V A → Type 0
  ProductionPlaced stands (Plain parts) = (from : ℕ) → PartsPlaced (stands from) from parts
  ProductionPlaced stands (Node parts) = (from : ℕ) → PartsPlaced (stands from) from parts
  ProductionPlaced {A} stands (Chain begin step) =
      ((from : ℕ) → PartsPlaced (stands from) from begin)
      × ((y : A) (from at : ℕ) → from ≤ at → stands from at y → PartsPlaced (stands from) at (step y))

  -- under a condition of what stands
  pub placed_under : {A : Type 0} (Condition : Type 0) (stands : ℕ → A → Type 0) (at : ℕ) (g : Parts T N V A) → (Condition → PartsPlaced stands at g)
      → PartsPlaced (λ end x. Condition → stands end x) at g
  placed_under Condition stands at (Return x) placed = placed
  placed_under Condition stands at (Take p k) placed = λ t is above long. placed_under Condition stands (stop t) (k t) (λ c. placed c t is above long)
  placed_under Condition stands at (Call n k) placed = λ a end more h. placed_under Condition stands end (k a) (λ c. placed c a end more h)
  placed_under Condition stands at (Either g h) placed =
      (placed_under Condition stands at g (λ c. (placed c).0), placed_under Condition stands at h (λ c. (placed c).1))

  -- where nothing is asked of the value
  pub placed_free : {A : Type 0} (stands : ℕ → A → Type 0) → ((end : ℕ) (x : A) → stands end x) → (at : ℕ) (g : Parts T N V A) → PartsPlaced stands at g
  placed_free stands free at (Return x) = free at x
  placed_free stands free at (Take p k) = λ t is above long. placed_free stands free (stop t) (k t)
  placed_free stands free at (Call n k) = λ a end more h. placed_free stands free end (k a)
  placed_free stands free at (Either g h) = (placed_free stands free at g, placed_free stands free at h)

  pub production_free : {A : Type 0} (stands : ℕ → ℕ → A → Type 0) → ((from end : ℕ) (x : A) → stands from end x) → (p : Production T N V A) → ProductionPlaced stands p
  production_free stands free (Plain g) = λ from. placed_free (stands from) (free from) from g
  production_free stands free (Node g) = λ from. placed_free (stands from) (free from) from g
  production_free stands free (Chain b step) = ((λ from. placed_free (stands from) (free from) from b), (λ y from at far h. placed_free (stands from) (free from) at (step y)))

  parts_placed : {A : Type 0} (R : Reader T N V)
      → ((n : N) (ts : List T) (x : V n) → R n ts x → (at end : ℕ) → Rise start stop at ts end → Stands n at end x)
      → (stands : ℕ → A → Type 0) (at : ℕ) (g : Parts T N V A) → PartsPlaced stands at g
      → (ts : List T) (x : A) → PartsRead R g ts x → (end : ℕ) → Rise start stop at ts end → stands end x
  parts_placed R known stands at (Return y) placed ts x h end rise =
      let ended : at ≡ end = subst (λ l. Rise start stop at l end) h.0 rise in
      subst (λ z. stands end z) h.1 (subst (λ e. stands e y) ended placed)
  parts_placed R known stands at (Take p k) placed [] x h end rise = absurd h
  parts_placed R known stands at (Take p k) placed (t ∷ ts) x h end rise =
      parts_placed R known stands (stop t) (k t) (placed t h.0 rise.0 rise.1) ts x h.1 end rise.2
  parts_placed R known stands at (Call n k) placed ts x (u, v, a, e, c, h) end rise =
      let (middle, front, back) = rise_split start stop at u v end (subst (λ l. Rise start stop at l end) e rise) in
      parts_placed R known stands middle (k a) (placed a middle (rise_up start stop at u middle front) (known n u a c at middle front)) v x h end back
  parts_placed R known stands at (Either g h) placed ts x (inl one) end rise = parts_placed R known stands at g placed.0 ts x one end rise
  parts_placed R known stands at (Either g h) placed ts x (inr other) end rise = parts_placed R known stands at h placed.1 ts x other end rise

  -- the same of a production, by its cases
  whole_placed : {A : Type 0} (R : ℕ → Reader T N V) (S : ℕ → List T → A → Type 0) (stands : ℕ → ℕ → A → Type 0)
      → ((r : ℕ) (n : N) (ts : List T) (x : V n) → R r n ts x → (at end : ℕ) → Rise start stop at ts end → Stands n at end x)
      → ((r : ℕ) (ts : List T) (x : A) → S r ts x → (at end : ℕ) → Rise start stop at ts end → stands at end x)
      → (p : Production T N V A) → ProductionPlaced stands p
      → (r : ℕ) (ts : List T) (x : A) → WholeRead R S p r ts x → (at end : ℕ) → Rise start stop at ts end → stands at end x
  whole_placed R S stands known own (Plain g) placed r ts x h at end rise = parts_placed (R r) (known r) (stands at) at g (placed at) ts x h end rise
  whole_placed R S stands known own (Node g) placed zero ts x h at end rise = absurd h
  whole_placed R S stands known own (Node g) placed (suc r) ts x h at end rise = parts_placed (R r) (known r) (stands at) at g (placed at) ts x h end rise
  whole_placed R S stands known own (Chain b step) placed zero ts x h at end rise = parts_placed (R zero) (known zero) (stands at) at b (placed.0 at) ts x h end rise
  whole_placed R S stands known own (Chain b step) placed (suc r) ts x (inl h) at end rise =
      parts_placed (R (suc r)) (known (suc r)) (stands at) at b (placed.0 at) ts x h end rise
  whole_placed R S stands known own (Chain b step) placed (suc r) ts x (inr (u, v, y, e, c, h)) at end rise =
      let (middle, front, back) = rise_split start stop at u v end (subst (λ l. Rise start stop at l end) e rise) in
      parts_placed (R r) (known r) (stands at) middle (step y) (placed.1 y at middle (rise_up start stop at u middle front) (own r u y c at middle front)) v x h end back

module _ (gr : Grammar) (start stop : gr.Token → ℕ) (Stands : (n : gr.Name) → ℕ → ℕ → gr.Value n → Type 0) where
  -- each production keeps it
  abbrev pub IsPlaced : Type 0
  IsPlaced = (n : gr.Name) → ProductionPlaced start stop Stands (Stands n) (gr.production n)

  -- the same of what a name reads, by the height of the reading
  pub reads_placed : IsPlaced → (height room : ℕ) (n : gr.Name) (ts : List gr.Token) (x : gr.Value n)
      → Reads gr height room n ts x → (at end : ℕ) → Rise start stop at ts end → Stands n at end x
  reads_placed all zero room n ts x h at end rise = absurd h
  reads_placed all (suc j) room n ts x h at end rise =
      whole_placed start stop Stands (λ w k us y. Reads gr j w k us y) (λ w us y. Reads gr j w n us y) (Stands n)
      (λ w k us y f. reads_placed all j w k us y f) (λ w us y f. reads_placed all j w n us y f)
      (gr.production n) (all n) room ts x h at end rise
