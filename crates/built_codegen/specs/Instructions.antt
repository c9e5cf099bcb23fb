-- The instructions of a unit: for each function those of its tasks, one function after another.
use Rattle.std.specs.Prelude.{ℕ, zero, suc, List, [], ◌∷◌, ◌++◌, length, Option, Some, None}
use Rattle.built_unit.specs.Units.{UnitParts}
use Rattle.built_code.specs.declared.code.Instruction.{Instruction}
use Rattle.built_code.specs.declared.code.Instruction.TheVariants.{CheckHalt, EnterFunction, ReachFunction, SetValue, LeaveFunction, FailWith}
use Rattle.built_model.specs.Source.{Task, Call, Check, Begin, Meet, Give, Leaving, Fail, Deliver, Tell, Halting, Finished, tasks_of}

-- the instructions of one task; what a thread does after its first function has none
abbrev pub task_code : Task → List Instruction
task_code (Call function site) = CheckHalt ∷ EnterFunction function site ∷ []
task_code Check = CheckHalt ∷ []
task_code (Begin function site) = EnterFunction function site ∷ []
task_code (Meet function) = ReachFunction function ∷ []
task_code (Give number) = SetValue number ∷ []
task_code Leaving = LeaveFunction ∷ []
task_code (Fail kind) = FailWith kind ∷ []
task_code Deliver = []
task_code Tell = []
task_code (Halting finish) = []
task_code (Finished finish) = []

-- the instructions of tasks, one after another
abbrev pub tasks_code : List Task → List Instruction
tasks_code [] = []
tasks_code (task ∷ k) = task_code task ++ tasks_code k

abbrev pub maybe_code : Option (List Task) → List Instruction
maybe_code None = []
maybe_code (Some tasks) = tasks_code tasks

-- the instructions of a function; none where it has no definition
abbrev pub function_code : UnitParts → ℕ → List Instruction
function_code u function = maybe_code (tasks_of u function)

-- the instructions of so many functions, from the first one on
abbrev pub unit_code : UnitParts → ℕ → List Instruction
unit_code u zero = []
unit_code u (suc n) = unit_code u n ++ function_code u n

abbrev pub entry_at : ℕ → Option (List Task) → Option ℕ
entry_at pc None = None
entry_at pc (Some tasks) = Some pc

-- where the code of so many functions begins
abbrev pub unit_entries : UnitParts → ℕ → List (Option ℕ)
unit_entries u zero = []
unit_entries u (suc n) = unit_entries u n ++ entry_at (length (unit_code u n)) (tasks_of u n) ∷ []
