-- Whether a name that is defined is declared already, by what it means.
use Rattle.std.proofs.Common.{◌≡◌, refl, Bool, true, false, List, Some, None}
use Rattle.core_unit.specs.declared.tables.FunctionInfo.{FunctionInfo}
use Rattle.type_rules.specs.Declarations.{is_redefined}
use Rattle.type_rules.specs.declared.names.Entity.{Entity}
use Rattle.type_rules.specs.declared.names.Entity.TheVariants.{Function, Variable}
use Rattle.type_statements.specs.Defining.{redefined}

pub redefined-form : (functions : List FunctionInfo) (is_function : Bool) (e : Entity) → is_redefined functions is_function (Some e) ≡ redefined functions is_function e
redefined-form functions true (Function number) = refl
redefined-form functions false (Function number) = refl
redefined-form functions true (Variable t storage (Some number)) = refl
redefined-form functions false (Variable t storage (Some number)) = refl
redefined-form functions true (Variable t storage None) = refl
redefined-form functions false (Variable t storage None) = refl
redefined-form functions true e = refl
redefined-form functions false e = refl

pub ruleset redefined_rules = (redefined-form)
