-- What is noted of a function that stands in the table already.
use Rattle.std.specs.Prelude.{ℕ, Bool, List, slice_get, slice_set, Option, Some, None}
use Rattle.eff_types.specs.declared.levels.Effects.{Effects}
use Rattle.core_unit.specs.declared.body.Body.{Body}
use Rattle.core_unit.specs.declared.tables.FunctionInfo.{FunctionInfo}

-- a further declaration
abbrev pub redeclared : Effects → (noreturn internal : Bool) → FunctionInfo → FunctionInfo
redeclared effects noreturn internal f = record f { kind = record f.kind { effects = effects }; noreturn = noreturn; internal = internal }

-- the definition
abbrev pub defined : Body → ℕ → FunctionInfo → FunctionInfo
defined body frame_words f = record f { body = Some body; frame_words = frame_words }

abbrev pub with_set : (FunctionInfo → FunctionInfo) → ℕ → List FunctionInfo → Option FunctionInfo → List FunctionInfo
with_set change number functions (Some f) = slice_set functions number (change f)
with_set change number functions None = functions

-- the function of this number changed, where there is one
abbrev pub changed_at : (FunctionInfo → FunctionInfo) → ℕ → List FunctionInfo → List FunctionInfo
changed_at change number functions = with_set change number functions (slice_get functions number)

-- the effects that it has in the whole unit
abbrev pub settled : Effects → FunctionInfo → FunctionInfo
settled effects f = record f { kind = record f.kind { effects = effects } }

abbrev pub settled_at : Option Effects → ℕ → List FunctionInfo → List FunctionInfo
settled_at (Some effects) number functions = changed_at (settled effects) number functions
settled_at None number functions = functions
