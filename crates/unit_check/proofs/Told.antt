-- What was found, as verdicts tell it: each span gives the chain of its warning.
use Rattle.std.proofs.Common.{◌≡◌, ◌∙◌, refl, sym, ap, subst, ℕ, zero, suc, ◌-◌, ◌≤◌, ◌+◌, Bool, false, List, [], ◌∷◌, map, length, take, drop, arith}
use Rattle.std.specs.Prelude.{slice_range, slice_index_or, All}
use Rattle.std.proofs.lemmas.List.{take-map, drop-map, length-map}
use Rattle.chains.specs.Written.{WrittenChains, steps_in}
use Rattle.chains.specs.declared.marks.Mark.{Mark}
use Rattle.chains.specs.declared.marks.Mark.TheVariants.{Passes, Violates, StepsTo}
use Rattle.chains.specs.declared.written.ChainStep as index
use Rattle.chains.specs.declared.written.Span.{Span}
use Rattle.core_unit.specs.declared.tables.FunctionInfo.{FunctionInfo}
use Rattle.core_unit.specs.declared.tables.UnitParts.{UnitParts}
use Rattle.eff_types.specs.declared.levels.Level.{Level}
use Rattle.eff_types.specs.declared.levels.Level.TheVariants.{Plain, NonAllocating, NonBlocking}
use Rattle.unit_check.specs.Findings.{HoldsChain, span_in, steps_for, HoldsFor, AreFound}
use Rattle.unit_check.specs.Kept.{kept_for, chain_in, IsWithin, HasSpans}
use Rattle.unit_check.specs.Lists.{EachPair, Picked}
use Rattle.unit_marks.specs.Marks.{look_for}
use Rattle.unit_check.specs.Verdicts.{Report, AreVerdicts, Verifies, verified_in, IsChainFor, IsChainOf, IsWarned, level_at, positions, step_of, warning_of}
use Rattle.unit_check.specs.declared.findings.Found.{Found}
use Rattle.unit_check.specs.declared.positions.Position.{Position}
use Rattle.unit_check.specs.declared.verdicts.ChainStep.{ChainStep}
use Rattle.unit_check.specs.declared.verdicts.LevelSpan.{LevelSpan}
use Rattle.unit_check.proofs.Picks.{pair_map}

range_map : {A B : Type 0} (f : A → B) (xs : List A) (from to : ℕ) → slice_range (map f xs) from to ≡ map f (slice_range xs from to)
range_map f xs from to = ap (take (to - from)) (drop-map f from xs) ∙ take-map f (to - from) (drop from xs)

range_none : {A : Type 0} (xs : List A) (from to : ℕ) → from ≡ to → slice_range xs from to ≡ []
range_none xs from to e =
    let none : to - from ≡ 0 = omega arith in
    ap (λ (n : ℕ). take n (drop from xs)) none

-- what a span holds, by the places that the steps stand for
told_chain : (functions : List FunctionInfo) (level : Level) (steps : List index.ChainStep) (m : Mark) (s : Span) →
    HoldsChain (look_for functions level) steps m s → IsChainFor functions level m (slice_range (map (step_of functions) steps) s.from s.to)
told_chain functions level steps Passes s h = h
told_chain functions level steps Violates s h = range_none (map (step_of functions) steps) s.from s.to h.0
told_chain functions level steps (StepsTo g) s h = (steps_in steps s, h.spelled, range_map (step_of functions) steps s.from s.to)

kept_is : (functions : List FunctionInfo) (level : Level) (a b : List index.ChainStep) →
    kept_for level (map (step_of functions) a) (map (step_of functions) b) ≡ map (step_of functions) (steps_for level a b)
kept_is functions Plain a b = refl
kept_is functions NonAllocating a b = refl
kept_is functions NonBlocking a b = refl

one_told : (functions : List FunctionInfo) (a b : List index.ChainStep) (p : Position) (s : LevelSpan) → HoldsFor functions a b p s →
    IsChainOf functions p (chain_in (map (step_of functions) a) (map (step_of functions) b) s)
one_told functions a b p s h =
    let same : kept_for s.level (map (step_of functions) a) (map (step_of functions) b) ≡ map (step_of functions) (steps_for (level_at functions p) a b) =
    ap (λ (l : Level). kept_for l (map (step_of functions) a) (map (step_of functions) b)) h.0 ∙ kept_is functions (level_at functions p) a b in
    subst (λ (steps : List ChainStep). IsChainFor functions (level_at functions p) (look_for functions (level_at functions p) p.function p.index) (slice_range steps s.from s.to)) (sym same)
    (told_chain functions (level_at functions p) (steps_for (level_at functions p) a b) (look_for functions (level_at functions p) p.function p.index) (span_in s) h.1)

held_within : (look : ℕ → ℕ → Mark) (steps : List index.ChainStep) (m : Mark) (s : Span) → HoldsChain look steps m s → (s.from ≤ s.to) × (s.to ≤ length steps)
held_within look steps Passes s h = absurd h
held_within look steps Violates s h = (let same : s.from ≡ s.to = h.0 in omega arith, h.1)
held_within look steps (StepsTo g) s h = (h.ordered, h.within)

one_within : (functions : List FunctionInfo) (a b : List index.ChainStep) (p : Position) (s : LevelSpan) → HoldsFor functions a b p s →
    IsWithin (map (step_of functions) a) (map (step_of functions) b) s
one_within functions a b p s h =
    let same : kept_for s.level (map (step_of functions) a) (map (step_of functions) b) ≡ map (step_of functions) (steps_for (level_at functions p) a b) =
    ap (λ (l : Level). kept_for l (map (step_of functions) a) (map (step_of functions) b)) h.0 ∙ kept_is functions (level_at functions p) a b in
    let low : (s.from ≤ s.to) × (s.to ≤ length (steps_for (level_at functions p) a b)) =
    held_within (look_for functions (level_at functions p)) (steps_for (level_at functions p) a b) (look_for functions (level_at functions p) p.function p.index) (span_in s) h.1 in
    let long : length (map (step_of functions) (steps_for (level_at functions p) a b)) ≡ length (steps_for (level_at functions p) a b) = length-map (steps_for (level_at functions p) a b) (step_of functions) in (
      low.0,
      subst (λ (steps : List ChainStep). s.to ≤ length steps) (sym same) (subst (λ (n : ℕ). s.to ≤ n) (sym long) low.1),
    )

all_cons : {B : Type 0} (P : B → Type 0) (y : B) (ys : List B) → P y → All P ys → All P (y ∷ ys)
all_cons P y ys p ps zero d l = p
all_cons P y ys p ps (suc k) d l = ps k d (omega arith)

pairs_right : {A B : Type 0} (R : A → B → Type 0) (P : B → Type 0) (xs : List A) (ys : List B) → ((x : A) (y : B) → R x y → P y) → EachPair R xs ys → All P ys
pairs_right R P [] [] h p = λ k d l. let clash : ⊥ = omega arith in absurd clash
pairs_right R P (x ∷ xs) (y ∷ ys) h p = all_cons P y ys (h x y p.0) (pairs_right R P xs ys h p.1)
pairs_right R P [] (y ∷ ys) h p = absurd p
pairs_right R P (x ∷ xs) [] h p = absurd p

pairs_long : {A B : Type 0} (R : A → B → Type 0) (xs : List A) (ys : List B) → EachPair R xs ys → length ys ≡ length xs
pairs_long R [] [] p = refl
pairs_long R (x ∷ xs) (y ∷ ys) p = ap (λ (n : ℕ). suc n) (pairs_long R xs ys p.1)
pairs_long R [] (y ∷ ys) p = absurd p
pairs_long R (x ∷ xs) [] p = absurd p

module _ (u : UnitParts) (places : List Position) (allocation blocking : WrittenChains) (found : Found) (a b : List ChainStep) (e : a ≡ map (step_of u.functions) allocation.steps)
    (f : b ≡ map (step_of u.functions) blocking.steps) (h : AreFound u.functions places allocation blocking found) where
  pub has_spans : HasSpans found.warnings.items found.spans.items a b
  has_spans = record {
    many = pairs_long (HoldsFor u.functions allocation.steps blocking.steps) h.warned found.spans.items h.held
        ∙ sym (ap length h.warnings ∙ length-map h.warned (λ (p : Position). warning_of (level_at u.functions p) p));
    within = pairs_right (HoldsFor u.functions allocation.steps blocking.steps) (IsWithin a b) h.warned found.spans.items
        (λ p s held. subst (λ (x : List ChainStep). IsWithin x b s) (sym e) (subst (λ (y : List ChainStep). IsWithin (map (step_of u.functions) allocation.steps) y s) (sym f)
        (one_within u.functions allocation.steps blocking.steps p s held))) h.held;
  }

  pub are_verdicts : (nonallocating nonblocking : List Bool) → places ≡ positions u →
      Verifies u.functions NonAllocating (λ g. slice_index_or nonallocating g false) → Verifies u.functions NonBlocking (λ g. slice_index_or nonblocking g false) →
      AreVerdicts u (record { warnings = found.warnings.items; chains = map (chain_in a b) found.spans.items; nonallocating = nonallocating; nonblocking = nonblocking })
  are_verdicts nonallocating nonblocking all one two = record {
    warned = h.warned;
    exact = subst (λ (ps : List Position). Picked (IsWarned u.functions) ps h.warned) all h.exact;
    warnings = h.warnings;
    chains = pair_map (HoldsFor u.functions allocation.steps blocking.steps) (IsChainOf u.functions) (chain_in a b) h.warned found.spans.items
        (λ p s held. subst (λ (x : List ChainStep). IsChainOf u.functions p (chain_in x b s)) (sym e) (subst (λ (y : List ChainStep). IsChainOf u.functions p (chain_in (map (step_of u.functions) allocation.steps) y s)) (sym f)
        (one_told u.functions allocation.steps blocking.steps p s held))) h.held;
    nonallocating = one;
    nonblocking = two;
  }
