-- Unions of effects, one declaration after another.
use Rattle.std.proofs.Common.{◌≡◌, ℕ, ◌+◌, ◌<◌, ◌≤◌, Bool, true, false, ◌||◌, List, [], ◌∷◌, length, drop, get_or, refl, sym, ◌∙◌, ap, add-one, arith}
use Rattle.std.proofs.Math.Seq.{drop-cons}
use Rattle.std.proofs.lemmas.List.{drop_all}
use Rattle.eff_types.specs.Effects.{greater, greatest, union, joined, plain}
use Rattle.eff_types.specs.declared.levels.Effects.{Effects}
use Rattle.eff_types.specs.declared.levels.Level.{Level}
use Rattle.eff_types.specs.declared.levels.Level.TheVariants.{Plain, NonAllocating, NonBlocking}

-- equal level and flags: equal effects
same_effects : (e f : Effects) → e.level ≡ f.level → e.no_block_inference ≡ f.no_block_inference → e.no_alloc_inference ≡ f.no_alloc_inference → e ≡ f
same_effects e f level blocks allocs =
    ap (λ l. record e { level = l }) level
    ∙ ap (λ b. record f { no_block_inference = b; no_alloc_inference = e.no_alloc_inference }) blocks
    ∙ ap (λ b. record f { no_alloc_inference = b }) allocs

greater-Plain : (a : Level) → greater a Plain ≡ a
greater-Plain Plain = refl
greater-Plain NonAllocating = refl
greater-Plain NonBlocking = refl

Plain-greater : (a : Level) → greater Plain a ≡ a
Plain-greater Plain = refl
Plain-greater NonAllocating = refl
Plain-greater NonBlocking = refl

greater_assoc : (a b c : Level) → greater a (greater b c) ≡ greater (greater a b) c
greater_assoc Plain b c = Plain-greater (greater b c) ∙ ap (λ x. greater x c) (sym (Plain-greater b))
greater_assoc NonAllocating Plain c = ap (greater NonAllocating) (Plain-greater c)
greater_assoc NonAllocating NonAllocating Plain = refl
greater_assoc NonAllocating NonAllocating NonAllocating = refl
greater_assoc NonAllocating NonAllocating NonBlocking = refl
greater_assoc NonAllocating NonBlocking Plain = refl
greater_assoc NonAllocating NonBlocking NonAllocating = refl
greater_assoc NonAllocating NonBlocking NonBlocking = refl
greater_assoc NonBlocking Plain Plain = refl
greater_assoc NonBlocking Plain NonAllocating = refl
greater_assoc NonBlocking Plain NonBlocking = refl
greater_assoc NonBlocking NonAllocating Plain = refl
greater_assoc NonBlocking NonAllocating NonAllocating = refl
greater_assoc NonBlocking NonAllocating NonBlocking = refl
greater_assoc NonBlocking NonBlocking Plain = refl
greater_assoc NonBlocking NonBlocking NonAllocating = refl
greater_assoc NonBlocking NonBlocking NonBlocking = refl

or_assoc : (a b c : Bool) → (a || (b || c)) ≡ ((a || (b || false)) || c)
or_assoc true b c = refl
or_assoc false true c = refl
or_assoc false false c = refl

or-false : (a : Bool) → (a || false) ≡ a
or-false true = refl
or-false false = refl

-- Two effects may be joined first.
pub union_joined : (a b : Effects) (rest : List Effects) → union (a ∷ b ∷ rest) ≡ union (joined a b ∷ rest)
unfolding union
union_joined a b rest =
    same_effects (union (a ∷ b ∷ rest)) (union (joined a b ∷ rest))
    (greater_assoc a.level b.level _ ∙ ap (λ x. greater (greater a.level x) _) (sym (greater-Plain b.level)))
    (or_assoc a.no_block_inference b.no_block_inference _)
    (or_assoc a.no_alloc_inference b.no_alloc_inference _)

-- of one alone
pub union_one : (e : Effects) → union (e ∷ []) ≡ e
unfolding union
union_one e = same_effects (union (e ∷ [])) e (greater-Plain e.level) (or-false e.no_block_inference) (or-false e.no_alloc_inference)

-- No effects add nothing.
pub union_of_plain : (es : List Effects) → union (plain ∷ es) ≡ union es
unfolding union
union_of_plain es = same_effects (union (plain ∷ es)) (union es) (Plain-greater _) refl refl

-- One more of the effects that are left.
pub union_more : (u : Effects) (more : List Effects) (i : ℕ) (other : Effects) → i < length more →
    union (u ∷ drop i more) ≡ union (joined u (get_or more i other) ∷ drop (i + 1) more)
union_more u more i other below =
    let left : drop i more ≡ get_or more i other ∷ drop (i + 1) more = rw (add-one, drop-cons more i other) refl in
    ap (λ es. union (u ∷ es)) left ∙ union_joined u (get_or more i other) (drop (i + 1) more)

-- None is left.
pub union_end : (u : Effects) (more : List Effects) (i : ℕ) → length more ≤ i → union (u ∷ drop i more) ≡ u
union_end u more i past = ap (λ es. union (u ∷ es)) (drop_all i more past) ∙ union_one u
