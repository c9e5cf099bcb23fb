-- What remains of the rules of definitions once their parts are read.
use Rattle.std.specs.Prelude.{ℕ, Bool, true, false, List, slice_get, Option, Some, None}
use Rattle.c_tree.specs.declared.statements.BlockItem.{BlockItem}
use Rattle.c_tree.specs.declared.words.Span.{Span}
use Rattle.core_unit.specs.declared.tables.FunctionInfo.{FunctionInfo}
use Rattle.type_declarations.specs.Declared.{named}
use Rattle.type_rules.specs.Declarations.{defined_name, is_defined}
use Rattle.type_rules.specs.Declarators.{made_here}
use Rattle.type_rules.specs.Reading.{Rule, gives, name_number, ◌>>=◌}
use Rattle.type_rules.specs.Statements.{block_items}
use Rattle.type_rules.specs.declared.declarators.Shape.{Shape}
use Rattle.type_rules.specs.declared.names.Entity.{Entity}
use Rattle.type_rules.specs.declared.names.Entity.TheVariants.{Function, Variable}
use Rattle.type_rules.specs.declared.specifiers.Specifiers.{Specifiers}

-- what a definition declares under a name, behind its specifiers and its declarator
unfoldable pub defined_at : Specifiers → Shape → List BlockItem → Span → Rule (Unit {0})
defined_at b d body name = do
  m ← made_here b d name.start
  number ← name_number name
  defined_name (block_items body) (named name number b m None)

abbrev pub defined_under : Specifiers → Shape → List BlockItem → Option Span → Rule (Unit {0})
defined_under b d body None = gives tt
defined_under b d body (Some name) = defined_at b d body name

abbrev pub defined : Specifiers → Shape → List BlockItem → Rule (Unit {0})
defined b d body = defined_under b d body d.name

-- Whether a definition finds its name declared as another kind, or as a function with a body.
abbrev pub function_redefined : List FunctionInfo → Bool → ℕ → Bool
function_redefined functions true number = is_defined (slice_get functions number)
function_redefined functions false number = true

abbrev pub variable_redefined : Bool → Option ℕ → Bool
variable_redefined is_function (Some number) = is_function
variable_redefined is_function None = true

abbrev pub redefined : List FunctionInfo → Bool → Entity → Bool
redefined functions is_function (Function number) = function_redefined functions is_function number
redefined functions is_function (Variable t storage number) = variable_redefined is_function number
redefined functions is_function _ = true
