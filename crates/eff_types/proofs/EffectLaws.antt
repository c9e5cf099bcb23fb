-- Laws of levels, unions, conflicts and what a conversion adds.
use Rattle.std.proofs.Common.{◌≡◌, ◌≤◌, Bool, true, false, ◌||◌, if◌then◌else◌, List, [], ◌∷◌, ◌++◌, map, Option, Some, None, Result, Ok, Err, refl, sym, ◌∙◌, ap, arith, ◌↔◌}
use Rattle.std.specs.List.{list_any}
use Rattle.eff_types.specs.declared.levels.Level.{Level}
use Rattle.eff_types.specs.declared.levels.Level.TheVariants.{Plain, NonAllocating, NonBlocking}
use Rattle.eff_types.specs.declared.levels.Effects.{Effects}
use Rattle.eff_types.specs.declared.levels.Conflict.{Conflict}
use Rattle.eff_types.specs.Effects.{rank, is_below, greater, greatest, union, joined, forbids, conflict, effects_of, merged, added}
use Rattle.eff_types.specs.Laws.{merged_onto, IsAtMost}

-- Equal level and flags: equal effects.
effects-eq : (e f : Effects) → e.level ≡ f.level → e.no_block_inference ≡ f.no_block_inference → e.no_alloc_inference ≡ f.no_alloc_inference → e ≡ f
effects-eq e f level blocks allocs =
    ap (λ l. record e { level = l }) level
    ∙ ap (λ b. record f { no_block_inference = b; no_alloc_inference = e.no_alloc_inference }) blocks
    ∙ ap (λ b. record f { no_alloc_inference = b }) allocs

greater-Plain : (a : Level) → greater a Plain ≡ a
greater-Plain Plain = refl
greater-Plain NonAllocating = refl
greater-Plain NonBlocking = refl

Plain-greater : (a : Level) → greater Plain a ≡ a
Plain-greater Plain = refl
Plain-greater NonAllocating = refl
Plain-greater NonBlocking = refl

greater-comm : (a b : Level) → greater a b ≡ greater b a
greater-comm Plain Plain = refl
greater-comm NonAllocating NonAllocating = refl
greater-comm NonBlocking NonBlocking = refl
greater-comm _ _ = refl

NonBlocking-greater : (a : Level) → greater NonBlocking a ≡ NonBlocking
NonBlocking-greater Plain = refl
NonBlocking-greater NonAllocating = refl
NonBlocking-greater NonBlocking = refl

greater-assoc : (a b c : Level) → greater (greater a b) c ≡ greater a (greater b c)
greater-assoc Plain b c = ap (λ x. greater x c) (Plain-greater b) ∙ sym (Plain-greater (greater b c))
greater-assoc NonAllocating Plain c = ap (greater NonAllocating) (sym (Plain-greater c))
greater-assoc NonAllocating NonAllocating Plain = refl
greater-assoc NonAllocating NonAllocating NonAllocating = refl
greater-assoc NonAllocating NonAllocating NonBlocking = refl
greater-assoc NonAllocating NonBlocking c = NonBlocking-greater c ∙ ap (greater NonAllocating) (sym (NonBlocking-greater c))
greater-assoc NonBlocking b c =
    ap (λ x. greater x c) (NonBlocking-greater b) ∙ NonBlocking-greater c ∙ sym (NonBlocking-greater (greater b c))

greater-idem : (a : Level) → greater a a ≡ a
greater-idem Plain = refl
greater-idem NonAllocating = refl
greater-idem NonBlocking = refl

greatest-append : (f : Effects → Level) (xs ys : List Effects) →
    greatest (map f (xs ++ ys)) ≡ greater (greatest (map f xs)) (greatest (map f ys))
greatest-append f [] ys = sym (Plain-greater _)
greatest-append f (x ∷ xs) ys = ap (greater (f x)) (greatest-append f xs ys) ∙ sym (greater-assoc (f x) _ _)

or-assoc : (a b c : Bool) → ((a || b) || c) ≡ (a || (b || c))
or-assoc true b c = refl
or-assoc false b c = refl

or-comm : (a b : Bool) → (a || b) ≡ (b || a)
or-comm true true = refl
or-comm true false = refl
or-comm false true = refl
or-comm false false = refl

or-false : (a : Bool) → (a || false) ≡ a
or-false true = refl
or-false false = refl

or-idem : (a : Bool) → (a || a) ≡ a
or-idem true = refl
or-idem false = refl

any-append : (p : Effects → Bool) (xs ys : List Effects) → list_any p (xs ++ ys) ≡ (list_any p xs || list_any p ys)
any-append p [] ys = refl
any-append p (x ∷ xs) ys = ap (λ b. p x || b) (any-append p xs ys) ∙ sym (or-assoc (p x) _ _)

any-two : (p : Effects → Bool) (a b : Effects) → list_any p (a ∷ b ∷ []) ≡ (p a || p b)
any-two p a b = ap (λ x. p a || x) (or-false (p b))

joined-is : (a b : Effects) → joined a b ≡ record {
  level = greater a.level b.level;
  no_block_inference = a.no_block_inference || b.no_block_inference;
  no_alloc_inference = a.no_alloc_inference || b.no_alloc_inference;
}
unfolding union
joined-is a b = effects-eq _ _ (ap (greater a.level) (greater-Plain b.level)) (any-two (λ d. d.no_block_inference) a b) (any-two (λ d. d.no_alloc_inference) a b)

-- The union of more declarations is that of the unions.
pub union-append : (xs ys : List Effects) → union (xs ++ ys) ≡ joined (union xs) (union ys)
unfolding union
union-append xs ys =
    effects-eq _ _ (greatest-append (λ d. d.level) xs ys) (any-append (λ d. d.no_block_inference) xs ys) (any-append (λ d. d.no_alloc_inference) xs ys)
    ∙ sym (joined-is (union xs) (union ys))

pub joined-comm : (a b : Effects) → joined a b ≡ joined b a
joined-comm a b =
    joined-is a b
    ∙ effects-eq _ _ (greater-comm a.level b.level) (or-comm a.no_block_inference b.no_block_inference) (or-comm a.no_alloc_inference b.no_alloc_inference)
    ∙ sym (joined-is b a)

pub joined-assoc : (a b c : Effects) → joined (joined a b) c ≡ joined a (joined b c)
joined-assoc a b c =
    ap (λ e. joined e c) (joined-is a b) ∙ joined-is _ c
    ∙ effects-eq _ _ (greater-assoc a.level b.level c.level) (or-assoc a.no_block_inference b.no_block_inference c.no_block_inference)
    (or-assoc a.no_alloc_inference b.no_alloc_inference c.no_alloc_inference)
    ∙ sym (joined-is a _) ∙ ap (joined a) (sym (joined-is b c))

pub joined-idem : (a : Effects) → joined a a ≡ a
joined-idem a = joined-is a a ∙ effects-eq _ _ (greater-idem a.level) (or-idem a.no_block_inference) (or-idem a.no_alloc_inference)

pub union-one : (e : Effects) → union (e ∷ []) ≡ e
unfolding union
union-one e = effects-eq _ _ (greater-Plain e.level) (or-false e.no_block_inference) (or-false e.no_alloc_inference)

any-false : (xs : List Effects) → list_any (λ d. false) xs ≡ false
any-false [] = refl
any-false (x ∷ xs) = any-false xs

or-swap : (a b c d : Bool) → ((a || b) || (c || d)) ≡ ((a || c) || (b || d))
or-swap true b c d = refl
or-swap false true true d = refl
or-swap false true false d = refl
or-swap false false c d = refl

any-or : (p q : Effects → Bool) (xs : List Effects) → (list_any p xs || list_any q xs) ≡ list_any (λ d. p d || q d) xs
any-or p q [] = refl
any-or p q (x ∷ xs) = or-swap (p x) (list_any p xs) (q x) (list_any q xs) ∙ ap (λ b. (p x || q x) || b) (any-or p q xs)

-- The union forbids what one of the declarations does.
pub forbids-union : (ds : List Effects) (l : Level) → forbids (union ds) l ≡ list_any (λ d. forbids d l) ds
unfolding union
forbids-union ds Plain = sym (any-false ds)
forbids-union ds NonAllocating = refl
forbids-union ds NonBlocking = any-or (λ d. d.no_block_inference) (λ d. d.no_alloc_inference) ds

or-absorb : (a b : Bool) → (a || b) ≡ (b || (a || b))
or-absorb true true = refl
or-absorb true false = refl
or-absorb false true = refl
or-absorb false false = refl

pub forbids-greater : (e : Effects) (a b : Level) → forbids e (greater a b) ≡ (forbids e a || forbids e b)
forbids-greater e Plain b = ap (forbids e) (Plain-greater b)
forbids-greater e NonAllocating Plain = sym (or-false _)
forbids-greater e NonAllocating NonAllocating = sym (or-idem _)
forbids-greater e NonAllocating NonBlocking = or-absorb e.no_block_inference e.no_alloc_inference
forbids-greater e NonBlocking Plain = sym (or-false _)
forbids-greater e NonBlocking NonAllocating =
    or-absorb e.no_block_inference e.no_alloc_inference ∙ or-comm e.no_alloc_inference _
forbids-greater e NonBlocking NonBlocking = sym (or-idem _)

any-greatest : (e : Effects) (xs : List Effects) → list_any (λ d. forbids e d.level) xs ≡ forbids e (greatest (map (λ d. d.level) xs))
any-greatest e [] = refl
any-greatest e (x ∷ xs) = ap (λ b. forbids e x.level || b) (any-greatest e xs) ∙ sym (forbids-greater e x.level _)

conflict-each : (ds xs : List Effects) →
    list_any (λ d. list_any (λ e. forbids e d.level) ds) xs ≡ list_any (λ d. forbids (union ds) d.level) xs
conflict-each ds [] = refl
conflict-each ds (x ∷ xs) =
    ap (λ b. b || list_any (λ d. list_any (λ e. forbids e d.level) ds) xs) (sym (forbids-union ds x.level))
    ∙ ap (λ b. forbids (union ds) x.level || b) (conflict-each ds xs)

-- Declarations conflict exactly where their union forbids its own level.
pub conflict-union : (ds : List Effects) → conflict ds ≡ forbids (union ds) (union ds).level
unfolding conflict union
conflict-union ds = conflict-each ds ds ∙ any-greatest (union ds) ds

-- the outcome by the union alone
checked : Effects → Result Effects Conflict
checked e = if forbids e e.level then Err (record {}) else Ok e

effects_of-checked : (ds : List Effects) → effects_of ds ≡ checked (union ds)
unfolding effects_of checked
effects_of-checked ds = ap (λ b. if b then Err (record {}) else Ok (union ds)) (conflict-union ds)

merged-checked : (a b : Effects) → merged a b ≡ checked (joined a b)
unfolding merged
merged-checked a b = effects_of-checked (a ∷ b ∷ [])

union-more : (ds : List Effects) (e : Effects) → union (ds ++ e ∷ []) ≡ joined (union ds) e
union-more ds e = union-append ds (e ∷ []) ∙ ap (joined (union ds)) (union-one e)

-- What forbids its own level does so with more declarations too.
forbids-joined : (a b : Effects) → forbids a a.level ≡ true → forbids (joined a b) (joined a b).level ≡ true
forbids-joined a b h =
    ap (λ e. forbids (joined a b) e.level) (joined-is a b)
    ∙ forbids-greater (joined a b) a.level b.level
    ∙ ap (λ x. x || forbids (joined a b) b.level)
    (forbids-union (a ∷ b ∷ []) a.level ∙ any-two (λ d. forbids d a.level) a b ∙ ap (λ x. x || forbids b a.level) h)

checked-joined : (u e : Effects) (b : Bool) → forbids u u.level ≡ b →
    checked (joined u e) ≡ merged_onto (if b then Err (record {}) else Ok u) e
unfolding checked
checked-joined u e true h = ap (λ b. if b then Err (record {}) else Ok (joined u e)) (forbids-joined u e h)
checked-joined u e false h = sym (merged-checked u e)

-- Merging declaration after declaration comes to what all of them together come to.
pub effects_of-more : (ds : List Effects) (e : Effects) → effects_of (ds ++ e ∷ []) ≡ merged_onto (effects_of ds) e
unfolding checked
effects_of-more ds e =
    effects_of-checked (ds ++ e ∷ []) ∙ ap checked (union-more ds e)
    ∙ checked-joined (union ds) e (forbids (union ds) (union ds).level) refl
    ∙ ap (λ r. merged_onto r e) (sym (effects_of-checked ds))

raised : Level → Level → Option Level
raised a b = if is_below a b then Some b else None

raised-none : (a b : Level) → (raised a b ≡ None) ↔ IsAtMost b a
unfolding raised
raised-none Plain Plain = (λ h. omega arith, λ h. refl)
raised-none NonAllocating Plain = (λ h. omega arith, λ h. refl)
raised-none NonBlocking Plain = (λ h. omega arith, λ h. refl)
raised-none NonAllocating NonAllocating = (λ h. omega arith, λ h. refl)
raised-none NonBlocking NonAllocating = (λ h. omega arith, λ h. refl)
raised-none NonBlocking NonBlocking = (λ h. omega arith, λ h. refl)
raised-none Plain NonAllocating = (λ h. cc, λ h. absurd (omega arith))
raised-none Plain NonBlocking = (λ h. cc, λ h. absurd (omega arith))
raised-none NonAllocating NonBlocking = (λ h. cc, λ h. absurd (omega arith))

-- Nothing is added exactly where the target's level is at most the source's.
pub added-none : (a b : Effects) → (added a b ≡ None) ↔ IsAtMost b.level a.level
unfolding added raised
added-none a b = raised-none a.level b.level

-- What is added is the target's level.
pub added-some : (a b : Effects) (l : Level) → added a b ≡ Some l → b.level ≡ l
unfolding added
added-some a b l h = is_some (is_below a.level b.level) h
  where
    is_some : (t : Bool) → (if t then Some b.level else None) ≡ Some l → b.level ≡ l
    is_some true e = cc
    is_some false e = cc

-- Conversions that add nothing, one after the other, add nothing together.
pub added-trans : (a b c : Effects) → added a b ≡ None → added b c ≡ None → added a c ≡ None
added-trans a b c p q =
    let first : rank b.level ≤ rank a.level = (added-none a b).0 p in
    let second : rank c.level ≤ rank b.level = (added-none b c).0 q in
    (added-none a c).1 (omega arith)
