-- A unit has one list of warned places, each with one chain; so what is warned of has one status and one text.
use Rattle.std.proofs.Common.{◌≡◌, ℕ, ◌<◌, ◌≤◌, ◌⊎◌, inl, inr, List, [], ◌∷◌, length, map, Option, Some, None, refl, sym, ap, ap₂, subst, ◌∙◌, arith}
use Rattle.chains.specs.Chain.{IsNoLater, IsShown}
use Rattle.chains.specs.Written.{Spells, steps_of}
use Rattle.chains.specs.declared.marks.Mark.{Mark}
use Rattle.chains.specs.declared.marks.Mark.TheVariants.{Passes, Violates, StepsTo}
use Rattle.chains.specs.declared.written.ChainStep as index
use Rattle.core_unit.specs.declared.tables.FunctionInfo.{FunctionInfo}
use Rattle.core_unit.specs.declared.tables.UnitParts.{UnitParts}
use Rattle.eff_types.specs.declared.levels.Level.{Level}
use Rattle.unit_marks.specs.Marks.{look_for}
use Rattle.unit_check.specs.Lists.{Picked, Nothing, Taken, Left, EachPair}
use Rattle.unit_check.specs.Verdicts.{Report, AreVerdicts, IsChainFor, IsChainOf, step_of, level_at, warning_of}
use Rattle.unit_check.specs.declared.verdicts.ChainStep.{ChainStep}
use Rattle.unit_check.specs.declared.verdicts.Warning.{Warning}
use Rattle.rtsan_core.specs.Ladder.{warned_in}
use Rattle.rtsan_core.specs.Outcomes.{Answer, answer_by}
use Rattle.rtsan_core.specs.Runs.{Left as WhatIsLeft, run_text}
use Rattle.rtsan_core.specs.declared.reading.Reading.{Reading}

picked_once : {A : Type 0} (P : A → Type 0) (xs some other : List A) → Picked P xs some → Picked P xs other → some ≡ other
picked_once P _ _ _ Nothing Nothing = refl
picked_once P _ _ _ (Taken x xs some p h) (Taken _ _ other q k) = ap (λ rest. x ∷ rest) (picked_once P xs some other h k)
picked_once P _ _ _ (Taken x xs some p h) (Left _ _ other n k) = absurd (n p)
picked_once P _ _ _ (Left x xs some n h) (Taken _ _ other q k) = absurd (n q)
picked_once P _ _ _ (Left x xs some n h) (Left _ _ other m k) = picked_once P xs some other h k

-- of two lists of places of one length that are both no later, each is the other (`chains` keeps its law on this to itself)
both_no_later : (places others : List ℕ) → length places ≡ length others → IsNoLater places others → IsNoLater others places → places ≡ others
both_no_later [] [] size to back = refl
both_no_later [] (j ∷ others) size to back = absurd back
both_no_later (i ∷ places) [] size to back = absurd to
both_no_later (i ∷ places) (j ∷ others) size to back =
    go to back (λ rest tail. both_no_later places others (omega arith) rest tail)
  where
    go : (i < j) ⊎ ((i ≡ j) × IsNoLater places others) → (j < i) ⊎ ((j ≡ i) × IsNoLater others places) → (IsNoLater places others → IsNoLater others places → places ≡ others) → i ∷ places ≡ j ∷ others
    go (inl less) (inl more) behind = let clash : ⊥ = omega arith in absurd clash
    go (inl less) (inr (same, rest)) behind = let clash : ⊥ = omega arith in absurd clash
    go (inr (same, rest)) (inl more) behind = let clash : ⊥ = omega arith in absurd clash
    go (inr (same, rest)) (inr (other, tail)) behind = ap₂ (λ x xs. x ∷ xs) same (behind rest tail)

one_shown : (look : ℕ → ℕ → Mark) (f : ℕ) (places others : List ℕ) → IsShown look f places → IsShown look f others → places ≡ others
one_shown look f places others shown other =
    let fewer : length places ≤ length others = shown.fewest others other.leads in
    let more : length others ≤ length places = other.fewest places shown.leads in
    both_no_later places others (omega arith) (shown.first others other.leads (omega arith)) (other.first places shown.leads (omega arith))

one_spelling : (look : ℕ → ℕ → Mark) (f : ℕ) (some other : List index.ChainStep) → Spells look f some → Spells look f other → some ≡ other
one_spelling look f some other s t = s.2 ∙ ap (steps_of look f) (one_shown look f s.0 t.0 s.1 t.1) ∙ sym t.2

one_chain : (functions : List FunctionInfo) (level : Level) (mark : Mark) (some other : List ChainStep) → IsChainFor functions level mark some → IsChainFor functions level mark other → some ≡ other
one_chain functions level Passes some other h k = absurd h
one_chain functions level Violates some other h k = h ∙ sym k
one_chain functions level (StepsTo g) some other h k =
    h.2 ∙ ap (map (step_of functions)) (one_spelling (look_for functions level) g h.0 k.0 h.1 k.1) ∙ sym k.2

paired_once : {A B : Type 0} (R : A → B → Type 0) → ((x : A) (y z : B) → R x y → R x z → y ≡ z) → (xs : List A) (some other : List B) → EachPair R xs some → EachPair R xs other → some ≡ other
paired_once R one [] [] [] h k = refl
paired_once R one [] [] (z ∷ other) h k = absurd k
paired_once R one [] (y ∷ some) other h k = absurd h
paired_once R one (x ∷ xs) [] other h k = absurd h
paired_once R one (x ∷ xs) (y ∷ some) [] h k = absurd k
paired_once R one (x ∷ xs) (y ∷ some) (z ∷ other) h k = ap₂ (λ c cs. c ∷ cs) (one x y z h.0 k.0) (paired_once R one xs some other h.1 k.1)

pub record TellAlike (some other : Report) : Type 0 where
  pub warnings : some.warnings ≡ other.warnings
  pub chains : some.chains ≡ other.chains

pub one_check : (u : UnitParts) (some other : Report) → AreVerdicts u some → AreVerdicts u other → TellAlike some other
one_check u some other h k =
    let same : h.warned ≡ k.warned = picked_once _ _ h.warned k.warned h.exact k.exact in
    record {
      warnings = h.warnings ∙ ap (map (λ p. warning_of (level_at u.functions p) p)) same ∙ sym k.warnings;
      chains =
          paired_once (IsChainOf u.functions) (λ p y z a b. one_chain u.functions _ _ y z a b) h.warned some.chains other.chains h.chains
          (subst (λ ps. EachPair (IsChainOf u.functions) ps other.chains) (sym same) k.chains);
    }

abbrev told : (file source : List ℕ) → Reading → Option WhatIsLeft → List Warning → List (List ChainStep) → Answer
told file source read left warnings chains =
    answer_by (warned_in file source read (record { warnings = warnings; chains = chains; nonallocating = []; nonblocking = [] })) left

told_alone : (file source : List ℕ) (read : Reading) (verdicts : Report) (left : Option WhatIsLeft) → answer_by (warned_in file source read verdicts) left ≡ told file source read left verdicts.warnings verdicts.chains
unfolding run_text
told_alone file source read verdicts None = refl
told_alone file source read verdicts (Some left) = refl

-- the answer asks no more of verdicts than their warnings and chains
pub one_warned : (file source : List ℕ) (read : Reading) (some other : Report) (left : Option WhatIsLeft) → AreVerdicts read.unit some → AreVerdicts read.unit other
    → answer_by (warned_in file source read some) left ≡ answer_by (warned_in file source read other) left
one_warned file source read some other left h k =
    let same = one_check read.unit some other h k in
    told_alone file source read some left ∙ ap₂ (told file source read left) same.warnings same.chains ∙ sym (told_alone file source read other left)
