-- What a life makes a pass hold.
use Rattle.std.specs.Prelude.{List, [], ◌∷◌, ◌++◌}
use Rattle.ctx_set.specs.declared.steps.StackStep.{StackStep}
use Rattle.context_set.specs.Passes as contexts
use Rattle.reports.specs.Passes.{Held, born, reported, makes, joins}
use Rattle.set_board.specs.declared.past.Life.{Life, Blank, Born, Steps', Reports', Makes', Joins'}

-- what the pass holds, and the stack that it goes over
pub record Lived : Type 0 where
  pub held : Held
  pub stack : List StackStep

abbrev pub resting : Held → Lived
resting h = record { held = h; stack = [] }

abbrev pub lived : Life → Lived
lived Blank = resting (born 0)
lived (Born pass) = resting (born (contexts.held_of pass.value).number)
lived (Steps' _ before step) = record { held = (lived before).held; stack = (lived before).stack ++ step ∷ [] }
lived (Reports' _ before answer) = resting (reported (lived before).held (lived before).stack answer)
lived (Makes' _ before pass) = resting (makes (lived before).held (contexts.held_of pass.value).number)
lived (Joins' _ before _ other) = resting (joins (lived before).held (lived other).held)
