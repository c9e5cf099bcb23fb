-- The spans of written chains, and the list in which they stand.
use Rattle.std.proofs.Common.{◌≡◌, ℕ, ◌-◌, ◌<◌, ◌≤◌, ◌⊎◌, inl, inr, List, [], ◌++◌, length, replicate, take, set, get_or, slice_index, slice_index_or, Option, Some, None, arith, refl, sym, ◌∙◌, ap, length-set, length-append, get_or-set_same, get_or-set_other}
use Rattle.std.proofs.lemmas.Bool.{cases_eq, cases_lt}
use Rattle.std.proofs.lemmas.List.{drop_at, take_all, get_or_past, get_or_default, get_or-replicate, length-replicate}
use Rattle.std.proofs.Math.Seq.{take-append_seam}
use Rattle.chains.specs.declared.marks.Mark.{Mark}
use Rattle.chains.specs.declared.written.ChainStep.{ChainStep}
use Rattle.chains.specs.declared.written.Span.{Span}
use Rattle.chains.specs.Look.{look, CallsBelow}
use Rattle.chains.specs.Chain.{HasChain, IsShown}
use Rattle.chains.specs.Measures.{Measures, distance_in}
use Rattle.chains.specs.Follow.{IsFirstToBegin}
use Rattle.chains.specs.Written.{steps_of, Spells, steps_in, steps_along, HoldsShown, IsWritten}
use Rattle.chains.proofs.Nearer.{follow, IsShown-follow}
use Rattle.chains.proofs.Shown.{one_shown}
use Rattle.chains.proofs.Turns.{dist_inside}
use Rattle.chains.proofs.Growth.{HoldsShown-append}
use Rattle.chains.proofs.Along.{IsNext-first, steps_along-follow}

-- no other steps spell the shown chain
pub steps_only : (look : ℕ → ℕ → Mark) (steps : List ChainStep) (f : ℕ) (span : Span) → HoldsShown look steps f span → (others : List ChainStep) → Spells look f others → others ≡ steps_in steps span
steps_only look steps f span held others (places, shown, is) =
    let spelled = held.spelled in
    let same = one_shown look f places spelled.0 shown spelled.1 in
    is ∙ (ap (steps_of look f) same ∙ sym spelled.2)

-- what is written behind the list stands in a span of its own
HoldsShown-new : (look : ℕ → ℕ → Mark) (steps own : List ChainStep) (f : ℕ) (span : Span) (places : List ℕ) → IsShown look f places → own ≡ steps_of look f places → span.from ≡ length steps → span.to ≡ length (steps ++ own) → HoldsShown look (steps ++ own) f span
HoldsShown-new look steps own f span places shown is from to = record {
  ordered = omega (arith, length-append steps own);
  within = omega arith;
  spelled = (places, shown, here ∙ is);
} where
  here : steps_in (steps ++ own) span ≡ own
  here = rw (drop_at steps own span.from (sym from)) (take_all (span.to - span.from) own (omega (arith, length-append steps own)))

module _ (rows : List (List Mark)) (distances next : List ℕ) (spans : List (Option Span)) (steps : List ChainStep) (written : IsWritten rows distances next spans steps) where
  -- a function with a chain is one of the rows
  pub chain_known : (f : ℕ) → HasChain (look rows) f → f < length rows
  chain_known f (places, leads) =
      let some = written.measured.least f places leads in
      let inside = dist_inside distances f some.0 in
      let size = written.distances_sized in omega arith

  -- the steps along the next places of a function with a chain are its shown chain
  pub steps_along-shown : (f : ℕ) → HasChain (look rows) f → (places : List ℕ) × IsShown (look rows) f places × (steps_along (look rows) (λ g. slice_index next g) (slice_index distances f) f ≡ steps_of (look rows) f places)
  steps_along-shown f (places, leads) =
      let some = written.measured.least f places leads in
      (follow (look rows) (λ g. slice_index next g) (slice_index distances f) f, IsShown-follow (look rows) (distance_in distances) written.measured (λ g. slice_index next g) written.nearest (slice_index distances f) f refl some.0, steps_along-follow (look rows) (λ g. slice_index next g) (slice_index distances f) f)

  module _ (f : ℕ) (chain : HasChain (look rows) f) (span : Span) (new_spans : List (Option Span)) (new_steps : List ChainStep) (steps_are : new_steps ≡ steps ++ steps_along (look rows) (λ g. slice_index next g) (slice_index distances f) f) (from : span.from ≡ length steps) (to : span.to ≡ length new_steps) where
    -- the chain that is written
    pub HoldsShown-written : HoldsShown (look rows) new_steps f span
    HoldsShown-written =
        let shown = steps_along-shown f chain in
        rw steps_are (HoldsShown-new (look rows) steps _ f span shown.0 shown.1 shown.2 from (rw steps_are at to))

    -- with one chain more all stays true
    pub IsWritten-more : new_spans ≡ set spans f (Some span) → IsWritten rows distances next new_spans new_steps
    IsWritten-more spans_are = record {
      calls = written.calls;
      measured = written.measured;
      distances_sized = written.distances_sized;
      next_sized = written.next_sized;
      spans_sized = rw spans_are (length-set _ _ _ ∙ written.spans_sized);
      nearest = written.nearest;
      spanned = λ g other there. spanned g other there (cases_eq g f);
    } where
      known : f < length spans
      known = let inside = chain_known f chain in let size = written.spans_sized in omega arith

      spanned : (g : ℕ) (other : Span) → slice_index_or new_spans g None ≡ Some other → (g ≡ f) ⊎ (g ≡ f → ⊥) → HoldsShown (look rows) new_steps g other
      spanned g other there (inl same) =
          let own : slice_index_or new_spans f None ≡ Some span = rw spans_are (get_or-set_same spans f (Some span) None known) in
          let again : slice_index_or new_spans f None ≡ Some other = rw same at there in
          let equal : span ≡ other = cc (own, again) in
          rw (same, ← equal) HoldsShown-written
      spanned g other there (inr apart) =
          let was : slice_index_or spans g None ≡ Some other = sym (get_or-set_other spans f g (Some span) None apart) ∙ (rw spans_are at there) in
          rw steps_are (HoldsShown-append (look rows) steps _ g other (written.spanned g other was))

-- what follows the writing of a chain, or of its beginning

pub steps_cut : (whole steps : List ChainStep) (from : ℕ) → from ≡ length steps → (more : List ChainStep) × (whole ≡ steps ++ more) → take from whole ≡ steps
steps_cut whole steps from e (more, is) = rw (is, e) (take-append_seam steps more)

-- before any chain is written
pub IsWritten-none : (rows : List (List Mark)) (distances next : List ℕ) (spans : List (Option Span)) (steps : List ChainStep) → CallsBelow (length rows) rows → Measures (look rows) (distance_in distances) → length distances ≡ length rows → length next ≡ length rows → ((f : ℕ) → f < length rows → IsFirstToBegin (distance_in distances) (distance_in distances f) (slice_index_or rows f []) (slice_index next f)) → spans ≡ replicate (length rows) None → IsWritten rows distances next spans steps
IsWritten-none rows distances next spans steps calls exact distances_sized next_sized first blank = record {
  calls = calls;
  measured = exact;
  distances_sized = distances_sized;
  next_sized = next_sized;
  spans_sized = rw blank (length-replicate _ _);
  nearest = λ f some. IsNext-first rows distances f (slice_index next f) exact some (first f (let inside = dist_inside distances f some in omega arith));
  spanned = λ f span there. unspanned f span there (cases_lt f (length rows));
} where
  unspanned : (f : ℕ) (span : Span) → slice_index_or spans f None ≡ Some span → (f < length rows) ⊎ (length rows ≤ f) → HoldsShown (look rows) steps f span
  unspanned f span there (inl below) =
      let none = get_or-replicate {A = Option Span} (length rows) f None None below in
      let some = rw blank at there in let clash : ⊥ = cc (none, some) in absurd clash
  unspanned f span there (inr past) =
      let none = get_or_past spans f None (rw blank (omega (arith, length-replicate {A = Option Span} (length rows) None))) in
      let clash : ⊥ = cc (none, there) in absurd clash

-- a span that was read in the list of spans
pub span_read : (spans : List (Option Span)) (f : ℕ) (read : Option Span) (span : Span) → f < length spans → read ≡ get_or spans f read → read ≡ Some span → slice_index_or spans f None ≡ Some span
span_read spans f read span inside is some = get_or_default spans f None read inside ∙ (sym is ∙ some)
