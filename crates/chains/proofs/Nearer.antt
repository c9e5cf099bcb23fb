-- A shortest chain begins at a place that can begin one, and following the first such places gives a chain of that length
-- which no other precedes.
use Rattle.std.proofs.Common.{◌≡◌, ℕ, zero, suc, ◌+◌, ◌<◌, ◌≤◌, ◌⊎◌, inl, inr, Bool, true, false, ◌&&◌, List, [], ◌∷◌, length, nat_lt, ◌==◌, arith, ap, sym, refl, eqb-true, ltb-true}
use Rattle.std.proofs.lemmas.Bool.{cases_order}
use Rattle.chains.specs.declared.marks.Mark.{Mark}
use Rattle.chains.specs.declared.marks.Mark.TheVariants.{Passes, Violates, StepsTo}
use Rattle.chains.specs.Look.{target}
use Rattle.chains.specs.Chain.{Leads, IsNoLater, IsShown}
use Rattle.chains.specs.Measures.{Measures}
use Rattle.chains.specs.Follow.{begins, IsNext}
use Rattle.chains.proofs.FirstStep.{Leads-step}

-- the places that are followed from the body of f on, as many as n
abbrev pub follow : (ℕ → ℕ → Mark) → (ℕ → ℕ) → ℕ → ℕ → List ℕ
follow look next zero f = []
follow look next (suc n) f = next f ∷ follow look next n (target (look f (next f)))

pub length-follow : (look : ℕ → ℕ → Mark) (next : ℕ → ℕ) (n f : ℕ) → length (follow look next n f) ≡ n
length-follow look next zero f = refl
length-follow look next (suc n) f = ap suc (length-follow look next n (target (look f (next f))))

-- what the test of a mark says: a violation is alone, and a step goes to a body that is one nearer
abbrev pub Begins : (ℕ → ℕ) → ℕ → Mark → Type 0
Begins distance n Passes = ⊥
Begins distance n Violates = n ≡ 1
Begins distance n (StepsTo g) = (0 < distance g) × (n ≡ suc (distance g))

and-left : (a b : Bool) → (a && b) ≡ true → a ≡ true
and-left true b h = refl
and-left false b h = h

and-right : (a b : Bool) → (a && b) ≡ true → b ≡ true
and-right true b h = h
and-right false b h = let clash : ⊥ = cc in absurd clash

Begins-from_test : (distance : ℕ → ℕ) (n : ℕ) (m : Mark) → begins distance n m ≡ true → Begins distance n m
Begins-from_test distance n Passes test = cc
Begins-from_test distance n Violates test = eqb-true n 1 test
Begins-from_test distance n (StepsTo g) test =
    let more : 1 < n = ltb-true 1 n (and-left (nat_lt 1 n) (distance g + 1 == n) test) in
    let one : distance g + 1 ≡ n = eqb-true (distance g + 1) n (and-right (nat_lt 1 n) (distance g + 1 == n) test) in (omega arith, omega arith)

begins-violation : (distance : ℕ → ℕ) (n : ℕ) (m : Mark) → m ≡ Violates → n ≡ 1 → begins distance n m ≡ true
begins-violation distance n m e one = rw (e, one) refl

begins-step : (distance : ℕ → ℕ) (n g : ℕ) (m : Mark) → m ≡ StepsTo g → 1 < n → distance g + 1 ≡ n → begins distance n m ≡ true
begins-step distance n g m e more one = rw e (grind arith)

module _ (look : ℕ → ℕ → Mark) (distance : ℕ → ℕ) (exact : Measures look distance) where
  -- a shortest chain begins at a place that can begin one
  pub begins-shortest : (f i : ℕ) (places : List ℕ) → Leads look f (i ∷ places) → length (i ∷ places) ≡ distance f → begins distance (distance f) (look f i) ≡ true
  begins-shortest f i [] leads short = begins-violation distance (distance f) (look f i) leads (sym short)
  begins-shortest f i (j ∷ places) (g, step, rest) short =
      let behind : (0 < distance g) × (distance g ≤ length (j ∷ places)) = exact.least g (j ∷ places) rest in
      let shortest = exact.found g behind.0 in
      let through : (0 < distance f) × (distance f ≤ length (i ∷ shortest.0)) = exact.least f (i ∷ shortest.0) (Leads-step look f i g shortest.0 step shortest.1) in
      let size : length shortest.0 ≡ distance g = shortest.2 in
      begins-step distance (distance f) g (look f i) step (omega arith) (omega arith)

  module _ (next : ℕ → ℕ) (nearest : (f : ℕ) → 0 < distance f → IsNext look distance f (next f)) where
    -- a place that can begin a chain of n + 1 places begins one, where chains of n places are known
    follow_from : (n f i : ℕ) (m : Mark) → look f i ≡ m → Begins distance (suc n) m → ((g : ℕ) → 0 < n → distance g ≡ n → Leads look g (follow look next n g)) → Leads look f (i ∷ follow look next n (target m))
    follow_from n f i Passes is test behind = absurd test
    follow_from n f i Violates is test behind = let none : n ≡ 0 = omega (arith, test) in rw none is
    follow_from n f i (StepsTo g) is test behind =
        Leads-step look f i g (follow look next n g) is (behind g (omega (arith, test.0, test.1)) (omega (arith, test.1)))

    -- what is followed is a chain
    Leads-follow : (n f : ℕ) → 0 < n → distance f ≡ n → Leads look f (follow look next n f)
    Leads-follow zero f some e = let clash : ⊥ = omega arith in absurd clash
    Leads-follow (suc n) f some e =
        let test = rw e at (Begins-from_test distance (distance f) (look f (next f)) (nearest f (omega arith)).nearer) in
        follow_from n f (next f) (look f (next f)) refl test (λ g more h. Leads-follow n g more h)

    -- of two chains that begin at one place the rest decides
    follow_behind : (n f j : ℕ) (others : List ℕ) (m : Mark) → look f j ≡ m → Begins distance (suc n) m → Leads look f (j ∷ others) → length others ≡ n → ((g : ℕ) → distance g ≡ n → Leads look g others → IsNoLater (follow look next n g) others) → IsNoLater (follow look next n (target m)) others
    follow_behind n f j others Passes is test leads size behind = absurd test
    follow_behind n f j others Violates is test leads size behind =
        let none : n ≡ 0 = omega (arith, test) in rw none tt
    follow_behind n f j [] (StepsTo g) is test leads size behind = let clash : ⊥ = cc in absurd clash
    follow_behind n f j (k ∷ others) (StepsTo g) is test (h, step, rest) size behind =
        let same : h ≡ g = cc in behind g (omega (arith, test.1)) (rw same at rest)

    -- no chain of that length is earlier
    IsNoLater-follow : (n f : ℕ) (others : List ℕ) → distance f ≡ n → Leads look f others → length others ≡ n → IsNoLater (follow look next n f) others
    IsNoLater-follow zero f others e leads size = tt
    IsNoLater-follow (suc n) f [] e leads size = absurd leads
    IsNoLater-follow (suc n) f (j ∷ others) e leads size =
        let here : IsNext look distance f (next f) = nearest f (omega arith) in
        let test = begins-shortest f j others leads (omega arith) in
        compare n (next f) j f others (cases_order (next f) j) here test (λ same. follow_behind n f j others (look f j) refl (rw e at (Begins-from_test distance (distance f) (look f j) test)) leads (omega arith) (λ g h behind. IsNoLater-follow n g others h behind (omega arith))) where
          compare : (n i j f : ℕ) (others : List ℕ) → (i ≡ j) ⊎ ((i < j) ⊎ (j < i)) → IsNext look distance f i → begins distance (distance f) (look f j) ≡ true → (i ≡ j → IsNoLater (follow look next n (target (look f j))) others) → IsNoLater (i ∷ follow look next n (target (look f i))) (j ∷ others)
          compare n i j f others (inl same) here test behind = inr (same, rw same (behind same))
          compare n i j f others (inr (inl less)) here test behind = inl less
          compare n i j f others (inr (inr more)) here test behind =
              let early = here.earliest j more in let clash : ⊥ = cc in absurd clash

    -- what is followed from a function with a chain is its shown chain
    pub IsShown-follow : (n f : ℕ) → distance f ≡ n → 0 < n → IsShown look f (follow look next n f)
    IsShown-follow n f e some = record {
      leads = Leads-follow n f some e;
      fewest = λ others leads. (let least = exact.least f others leads in omega (arith, least.1, length-follow look next n f));
      first = λ others leads size. IsNoLater-follow n f others e leads (omega (arith, size, length-follow look next n f));
    }
