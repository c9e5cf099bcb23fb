-- Stacks of calls: when two are the same, and their prefixes, of which a board has room for so many different ones (this project's own rules).
use Rattle.std.specs.Prelude.{ℕ, ◌==◌, ◌&&◌, Bool, not, List, [], ◌∷◌, ◌++◌, map, filter, take}
use Rattle.std.specs.Cmp.Lexicographic.{pointwise}
use Rattle.std.specs.List.{list_any, list_all}
use Rattle.ctx_set.specs.declared.steps.StackStep.{StackStep}

abbrev pub is_same_step : StackStep → StackStep → Bool
is_same_step a b = a.target == b.target && a.site == b.site

abbrev pub is_same : List StackStep → List StackStep → Bool
is_same a b = pointwise is_same_step a b

-- the prefixes of a stack but the empty one, the shortest first
abbrev pub prefixes : List StackStep → List (List StackStep)
prefixes [] = []
prefixes (step ∷ steps) = (step ∷ []) ∷ map (λ prefix. step ∷ prefix) (prefixes steps)

-- each stack once, where it came first
abbrev pub distinct : List (List StackStep) → List (List StackStep)
distinct [] = []
distinct (stack ∷ stacks) = stack ∷ filter (λ other. not (is_same stack other)) (distinct stacks)

-- whether the stack is one of these
abbrev pub has : List (List StackStep) → List StackStep → Bool
has stacks stack = list_any (is_same stack) stacks

abbrev pub room : ℕ
room = 65536

-- A board has room for a stack where each prefix of it is among the first ones that came, those of this stack behind the prefixes that were asked
-- before.
abbrev pub has_room_behind : (asked : List (List StackStep)) → List StackStep → Bool
has_room_behind asked stack = list_all (has (take room (distinct (asked ++ prefixes stack)))) (prefixes stack)
