-- The steps of a stack that stands in proofs alone.
use Rattle.std.specs.Prelude.{List, [], ◌∷◌, ◌++◌}
use Rattle.ctx_set.specs.declared.steps.StackStep.{StackStep}
use Rattle.board_past.specs.declared.walk.Steps.{Steps, Start, Then'}

abbrev pub steps_of : Steps → List StackStep
steps_of Start = []
steps_of (Then' _ before step) = steps_of before ++ step ∷ []
