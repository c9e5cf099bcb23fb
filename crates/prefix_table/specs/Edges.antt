-- Prefixes of stacks as edges: each goes on from an earlier one by one step.
use Rattle.std.specs.Prelude.{◌≡◌, ℕ, ◌+◌, ◌<◌, ◌≤◌, ◌&&◌, Bool, nat_eq, List, [], ◌∷◌, ◌++◌, fold, take, length, slice_index_or, Option, None, Some}
use Rattle.std.specs.Option.{option_eq}
use Rattle.std.specs.HashMap.{HashMap, get, spare}
use Rattle.std.specs.declared.hash.FoldHasher.{FoldHasher}
use Rattle.std.specs.declared.hash.BuildHasherDefault.{BuildHasherDefault}
use Rattle.ctx_set.specs.declared.steps.StackStep.{StackStep}
use Rattle.prefix_table.specs.declared.table.Edge.{Edge}
use Rattle.reports.specs.Stacks.{is_same_step}
use Rattle.reports.specs.Prefixes.{distinct, room}

abbrev pub is_same_edge : Edge → Edge → Bool
is_same_edge a b = option_eq nat_eq a.parent b.parent && is_same_step a.step b.step

-- the prefix that an edge goes on from: the empty one, or one of these
abbrev pub start_of : List (List StackStep) → Option ℕ → List StackStep
start_of stacks None = []
start_of stacks (Some number) = slice_index_or stacks number []

-- the prefix that an edge makes
abbrev pub made_by : List (List StackStep) → Edge → List StackStep
made_by stacks edge = start_of stacks edge.parent ++ edge.step ∷ []

-- the prefixes that these edges make, each from those before it
abbrev pub stacks_of : List Edge → List (List StackStep)
stacks_of edges = fold (λ stacks edge. stacks ++ made_by stacks edge ∷ []) [] edges

-- it goes on from the empty prefix, or from one of the first n
abbrev pub IsBelow : Option ℕ → ℕ → Type 0
IsBelow None n = Unit {0}
IsBelow (Some number) n = number < n

-- Edges that go on from earlier ones, and whose prefixes differ.
pub record AreEdges (edges : List Edge) : Type 0 where
  pub many : length (stacks_of edges) ≡ length edges
  pub below : (i : ℕ) (d : Edge) → i < length edges → IsBelow (slice_index_or edges i d).parent i
  pub made : (i : ℕ) (d : Edge) → i < length edges → slice_index_or (stacks_of edges) i [] ≡ made_by (stacks_of edges) (slice_index_or edges i d)
  pub apart : (i j : ℕ) → i < length edges → j < length edges → slice_index_or (stacks_of edges) i [] ≡ slice_index_or (stacks_of edges) j [] → i ≡ j

-- The numbers are those of the edges, and there is memory for all that there is room for.
pub record IsTable (numbers : HashMap Edge ℕ (BuildHasherDefault FoldHasher)) (edges : List Edge) (capacity : ℕ) : Type 0 where
  pub lawful : AreEdges edges
  pub numbered : (i : ℕ) (d : Edge) → i < length edges → get is_same_edge numbers (slice_index_or edges i d) ≡ Some i
  pub known : (edge : Edge) (i : ℕ) (d : Edge) → get is_same_edge numbers edge ≡ Some i → (i < length edges) × (slice_index_or edges i d ≡ edge)
  pub few : length edges ≤ room
  pub places : room ≤ length edges + spare numbers
  pub memory : room ≤ capacity
  pub firsts : take room (distinct (stacks_of edges)) ≡ stacks_of edges
