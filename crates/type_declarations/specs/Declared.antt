-- A declared name, with what is made of it, and how it is declared by where it stands.
use Rattle.std.specs.Prelude.{ℕ, Bool, true, false, not, ◌&&◌, ◌||◌, List, [], ◌∷◌, ◌++◌, slice_get, Option, Some, None}
use Rattle.c_tree.specs.declared.declarations.Init.{Init}
use Rattle.c_tree.specs.declared.declarations.InitDeclarator.{InitDeclarator}
use Rattle.c_tree.specs.declared.words.Span.{Span}
use Rattle.core_unit.specs.Typed.{where_in}
use Rattle.core_unit.specs.declared.body.Initializer.{Initializer}
use Rattle.core_unit.specs.declared.body.Stmt.{Stmt}
use Rattle.core_unit.specs.declared.expressions.Storage.{Storage}
use Rattle.core_unit.specs.declared.tables.VariableInfo.{VariableInfo}
use Rattle.eff_types.specs.Types.{same}
use Rattle.eff_types.specs.declared.types.CType.{CType}
use Rattle.type_rules.specs.Declarations.{Named, block_name, file_name, without_statements, init_declarator, file_duration, further_variable, is_mistyped, same_words}
use Rattle.type_rules.specs.Declarators.{faults}
use Rattle.type_rules.specs.InitialValues.{initial_values}
use Rattle.type_rules.specs.Initializers.{static_initializer}
use Rattle.type_rules.specs.Reading.{Rule, changes, declared, fails, gives, text_of, ◌>>=◌, ◌>>◌}
use Rattle.type_rules.specs.Storage.{initially, kept_for}
use Rattle.type_rules.specs.declared.declarators.Made.{Made}
use Rattle.type_rules.specs.declared.names.Entity.{Entity}
use Rattle.type_rules.specs.declared.names.Entity.TheVariants.{Variable}
use Rattle.type_rules.specs.declared.specifiers.Specifiers.{Specifiers}

abbrev pub named : Span → ℕ → Specifiers → Made → Option Init → Named
named name number b m i = record { name = name; number = number; specifiers = b; made = m; init = i }

-- in a block, or at file scope
unfoldable pub name_declared : Bool → Named → Rule (List Stmt)
name_declared true d = block_name d
name_declared false d = without_statements file_name d

-- one declarator more of a declaration, behind what those before it gave
unfoldable pub one_declarator : Bool → Specifiers → InitDeclarator → List Stmt → Rule (List Stmt)
one_declarator in_block b d before = do
  some ← init_declarator b (name_declared in_block) d
  gives (before ++ some)

-- the initializer of an object that is kept as long as the program or a thread runs
abbrev pub statically : CType → Init → Storage → Rule Initializer
statically t i storage = do
  given ← static_initializer t i
  initially storage (initial_values (where_in storage) given)
  gives given

-- where a variable is kept, and its number, if it has one
abbrev pub variable_in : Entity → Option (Storage × Option ℕ)
variable_in (Variable t storage number) = Some (storage, number)
variable_in _ = None

abbrev pub variable_of : Option Entity → Option (Storage × Option ℕ)
variable_of (Some e) = variable_in e
variable_of None = None

-- the variable has this type from now on
abbrev pub typed_again : CType → ℕ → Option (Storage × Option ℕ) → Rule (Unit {0})
typed_again t name (Some (storage, number)) = declared name (Variable t storage number)
typed_again t name None = gives tt

-- where a variable of file scope is kept, and its number, if the name is one
abbrev pub with_number : Storage → Option ℕ → Option (Storage × ℕ)
with_number storage (Some number) = Some (storage, number)
with_number storage None = None

abbrev pub file_place : Entity → Option (Storage × ℕ)
file_place (Variable t storage number) = with_number storage number
file_place _ = None

-- a name that is declared already is declared again, as the variable that it is
abbrev pub declared_again : Span → Specifiers → Made → Bool → CType → Option (Storage × ℕ) → Rule Storage
declared_again name b m initialized t (Some (storage, number)) =
    λ s. further_variable name b m initialized t number storage (slice_get s.variables number) s
declared_again name b m initialized t None = fails 2 name.start

-- what is noted of a variable of file scope that wasn't declared before, which has so many words and this number
unfoldable pub first_noted : Span → ℕ → Specifiers → Made → Bool → CType → (words variable : ℕ) → Rule Storage
first_noted name number b m initialized t words variable = do
  storage ← kept_for (file_duration b) words (Some variable)
  changes (λ u. record u {
    variables = u.variables ++ record {
      name = text_of u.source name;
      kind = t;
      internal = b.is_static;
      thread_local = b.is_thread_local;
      initialized = initialized;
    } ∷ [];
  })
  declared number (Variable m.kind storage (Some variable))
  gives storage

-- the faults of a further declaration of a variable
abbrev pub further_faults : Span → Specifiers → Made → Bool → CType → VariableInfo → Rule (Unit {0})
further_faults name b m initialized t v =
    faults (v.initialized && initialized) (is_mistyped m || not (same v.kind t) || not (same_words v.thread_local b.is_thread_local))
    m.conflicting m.incomplete name.start
