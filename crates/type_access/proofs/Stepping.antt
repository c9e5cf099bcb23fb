-- Steps of operands whose type takes one.
use Rattle.std.proofs.Common.{◌≡◌, ℕ, true, false, Result}
use Rattle.core_unit.specs.declared.operators.ArithmeticOperator.{ArithmeticOperator}
use Rattle.core_unit.specs.declared.operators.StepValue.{StepValue}
use Rattle.type_rules.specs.Assignments.{is_stepped, stepped, stepped_as}
use Rattle.type_rules.specs.Operands.{is_whole}
use Rattle.type_rules.specs.Reading.{and_then}
use Rattle.type_rules.specs.Seen.{Seen}
use Rattle.type_rules.specs.declared.found.Found.{Found}
use Rattle.typing_state.specs.Answers.{Gives}
use Rattle.typing_state.specs.declared.stop.Stop.{Stop}

pub step_taken : (place : ℕ) (operator : ArithmeticOperator) (value : StepValue) (f : Found) (s : Seen) (answer : Result Found Stop) →
    is_whole f.kind ≡ false → is_stepped f.kind ≡ true → Gives (stepped_as place operator value f s) answer s → Gives (stepped place operator value f s) answer s
unfolding and_then
step_taken place operator value f s answer whole takes h = rw (whole, takes) h
