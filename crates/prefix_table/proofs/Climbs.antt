-- From a prefix up to the empty one, edge by edge.
use Rattle.std.proofs.Common.{◌≡◌, ℕ, ◌+◌, ◌<◌, List, [], ◌∷◌, ◌++◌, length, get_or, Option, None, Some, sym, ap, ◌∙◌, subst, arith, append_assoc}
use Rattle.std.specs.Prelude.{reverse}
use Rattle.std.proofs.lemmas.List.{append-nil, reverse-append}
use Rattle.ctx_set.specs.declared.steps.StackStep.{StackStep}
use Rattle.prefix_table.specs.declared.table.Edge.{Edge}
use Rattle.prefix_table.specs.Edges.{start_of, stacks_of, made_by, IsBelow, AreEdges}

-- so many edges lie at and above it at most
abbrev pub height : Option ℕ → ℕ
height None = 0
height (Some number) = number + 1

-- The steps that were met, with the prefix that is left, are the whole.
pub record IsClimbed (stacks : List (List StackStep)) (whole : List StackStep) (rest : Option ℕ) (met : List StackStep) : Type 0 where
  pub below : IsBelow rest (length stacks)
  pub parts : start_of stacks rest ++ reverse met ≡ whole

pub climb_begins : (stacks : List (List StackStep)) (number : ℕ) → number < length stacks → IsClimbed stacks (get_or stacks number []) (Some number) []
climb_begins stacks number low = record { below = low; parts = append-nil (get_or stacks number []) }

module _ (edges : List Edge) (l : AreEdges edges) (whole : List StackStep) (number : ℕ) (met : List StackStep) (edge : Edge) (is : edge ≡ get_or edges number edge) (climbed : IsClimbed (stacks_of edges) whole (Some number) met) where
  within : number < length edges
  within = let many = l.many in let low = climbed.below in omega (arith, many, low)

  pub parent_below : IsBelow edge.parent number
  parent_below = subst (λ (e : Edge). IsBelow e.parent number) (sym is) (l.below number edge within)

  raised : (parent : Option ℕ) → IsBelow parent number → IsBelow parent (length (stacks_of edges))
  raised None low = tt
  raised (Some k) low = let reached = climbed.below in omega (arith, low, reached)

  made : get_or (stacks_of edges) number [] ≡ made_by (stacks_of edges) edge
  made = l.made number edge within ∙ ap (made_by (stacks_of edges)) (sym is)

  pub climb_goes_on : IsClimbed (stacks_of edges) whole edge.parent (met ++ edge.step ∷ [])
  climb_goes_on = record {
    below = raised edge.parent parent_below;
    parts =
        ap (λ more. start_of (stacks_of edges) edge.parent ++ more) (reverse-append met (edge.step ∷ []))
        ∙ sym (append_assoc (start_of (stacks_of edges) edge.parent) (edge.step ∷ []) (reverse met))
        ∙ ap (λ front. front ++ reverse met) (sym made) ∙ climbed.parts;
  }

pub climb_falls : (parent : Option ℕ) (number : ℕ) → IsBelow parent number → height parent < height (Some number)
climb_falls None number low = omega arith
climb_falls (Some k) number low = omega (arith, low)
