-- Chains written into one list of steps.
use Rattle.std.specs.Prelude.{◌≡◌, ℕ, zero, suc, ◌<◌, ◌≤◌, List, [], ◌∷◌, ◌++◌, length, Option, Some, None, slice_index, slice_index_or, slice_range}
use Rattle.chains.specs.declared.marks.Mark.{Mark}
use Rattle.chains.specs.declared.written.ChainStep.{ChainStep}
use Rattle.chains.specs.declared.written.Span.{Span}
use Rattle.chains.specs.Look.{look, target, CallsBelow}
use Rattle.chains.specs.Chain.{IsShown}
use Rattle.chains.specs.Measures.{Measures, distance_in}
use Rattle.chains.specs.Follow.{IsNext}

-- the steps of these places from the body of f on: each place with the function in whose body it stands
abbrev pub steps_of : (ℕ → ℕ → Mark) → ℕ → List ℕ → List ChainStep
steps_of look f [] = []
steps_of look f (i ∷ places) = record { function = f; place = i } ∷ steps_of look (target (look f i)) places

-- the steps are those of the shown chain of f
abbrev pub Spells : (ℕ → ℕ → Mark) → ℕ → List ChainStep → Type 0
Spells look f steps = (places : List ℕ) × IsShown look f places × (steps ≡ steps_of look f places)

-- the steps of a span
abbrev pub steps_in : List ChainStep → Span → List ChainStep
steps_in steps span = slice_range steps span.from span.to

-- the shown chain of f stands in this span of the list, and no other steps spell it
pub record HoldsShown (look : ℕ → ℕ → Mark) (steps : List ChainStep) (f : ℕ) (span : Span) : Type 0 where
  pub ordered : span.from ≤ span.to
  pub within : span.to ≤ length steps
  pub spelled : Spells look f (steps_in steps span)

-- what callers see: the marks, the span of each function whose chain is written, and the list of steps
pub record WrittenChains : Type 0 where
  pub rows : List (List Mark)
  pub spans : List (Option Span)
  pub steps : List ChainStep

-- where the chain of f is written, if it is
abbrev pub span_of : WrittenChains → ℕ → Option Span
span_of chains f = slice_index_or chains.spans f None

-- the chain of f is written, in this span
abbrev pub IsSpanOf : WrittenChains → ℕ → Span → Type 0
IsSpanOf chains f span = span_of chains f ≡ Some span

-- nothing that was written changes: the list of steps grows at its end, and each span stays the span of its function
pub record Extends (old new : WrittenChains) : Type 0 where
  pub rows : new.rows ≡ old.rows
  pub steps : (more : List ChainStep) × (new.steps ≡ old.steps ++ more)
  pub spans : (f : ℕ) (span : Span) → IsSpanOf old f span → IsSpanOf new f span

-- the steps from the body of f on, as many as n, each at the next place of its body
abbrev pub steps_along : (ℕ → ℕ → Mark) → (ℕ → ℕ) → ℕ → ℕ → List ChainStep
steps_along look next zero f = []
steps_along look next (suc n) f = record { function = f; place = next f } ∷ steps_along look next n (target (look f (next f)))

-- what the fields keep: exact distances, the next place of each function with a chain, and spans of shown chains
pub record IsWritten (rows : List (List Mark)) (distances next : List ℕ) (spans : List (Option Span)) (steps : List ChainStep) : Type 0 where
  pub calls : CallsBelow (length rows) rows
  pub measured : Measures (look rows) (distance_in distances)
  pub distances_sized : length distances ≡ length rows
  pub next_sized : length next ≡ length rows
  pub spans_sized : length spans ≡ length rows
  pub nearest : (f : ℕ) → 0 < distance_in distances f → IsNext (look rows) (distance_in distances) f (slice_index next f)
  pub spanned : (f : ℕ) (span : Span) → slice_index_or spans f None ≡ Some span → HoldsShown (look rows) steps f span
