-- What is noted of a variable of file scope that stands in the table already.
use Rattle.std.specs.Prelude.{ℕ, Bool, List, slice_get, slice_set, Option, Some, None}
use Rattle.core_unit.specs.declared.tables.VariableInfo.{VariableInfo}

abbrev pub variable_set : (internal initialized : Bool) → ℕ → List VariableInfo → Option VariableInfo → List VariableInfo
variable_set internal initialized number variables (Some v) = slice_set variables number (record v { internal = internal; initialized = initialized })
variable_set internal initialized number variables None = variables

-- a further declaration of the variable of this number, where there is one
abbrev pub variable_at : (internal initialized : Bool) → ℕ → List VariableInfo → List VariableInfo
variable_at internal initialized number variables = variable_set internal initialized number variables (slice_get variables number)
