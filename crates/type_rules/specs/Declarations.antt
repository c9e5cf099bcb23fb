-- Declarations (C17 6.7 and 6.9): typedefs, functions and variables of file scope, and block variables.
use Rattle.std.specs.Prelude.{ℕ, Bool, true, false, not, ◌&&◌, ◌||◌, nat_eq, if◌then◌else◌, List, [], ◌∷◌, ◌++◌, length, slice_get, slice_set, is_some, Option, Some, None}
use Rattle.c_tree.specs.declared.declarations.Decl.{Decl}
use Rattle.c_tree.specs.declared.declarations.FunctionDefinition.{FunctionDefinition}
use Rattle.c_tree.specs.declared.declarations.Init.{Init}
use Rattle.c_tree.specs.declared.declarations.InitDeclarator.{InitDeclarator}
use Rattle.c_tree.specs.declared.statements.BlockItem.{BlockItem}
use Rattle.c_tree.specs.declared.words.Span.{Span}
use Rattle.eff_types.specs.Types.{is_function, same}
use Rattle.eff_types.specs.declared.types.CType.{CType}
use Rattle.eff_types.specs.declared.types.FnType.{FnType}
use Rattle.core_unit.specs.Layout.{words_of}
use Rattle.core_unit.specs.Typed.{where_in}
use Rattle.core_unit.specs.Shapes.{function_in, element_of, array_of, is_unsized}
use Rattle.core_unit.specs.declared.body.Initializer.{Initializer}
use Rattle.core_unit.specs.declared.body.Initializer.TheVariants as init
use Rattle.core_unit.specs.declared.body.Stmt.{Stmt}
use Rattle.core_unit.specs.declared.body.Stmt.TheVariants as stmt
use Rattle.core_unit.specs.declared.expressions.Storage.{Storage}
use Rattle.core_unit.specs.declared.tables.FunctionInfo.{FunctionInfo}
use Rattle.core_unit.specs.declared.tables.VariableInfo.{VariableInfo}
use Rattle.type_rules.specs.Declarators.{Shape, Made, Parameter, made_here, faults}
use Rattle.type_rules.specs.Functions.{FunctionDeclaration, function_declared, body_read}
use Rattle.type_rules.specs.InitialValues.{initial_values}
use Rattle.type_rules.specs.Initializers.{automatic_initializer, static_initializer, initial_size, init_place}
use Rattle.type_rules.specs.Reading.{Rule, ◌>>=◌, ◌>>◌, gives, fails, refused, seen, text_of, name_number, meaning_here, declared, changes}
use Rattle.type_rules.specs.Recursion.{specifier, declarator}
use Rattle.type_rules.specs.declared.durations.Duration.{Duration}
use Rattle.type_rules.specs.declared.durations.Duration.TheVariants.{Automatic as IsAutomatic, Static as IsStatic, ThreadLocal as IsThreadLocal}
use Rattle.type_rules.specs.declared.names.Entity.{Entity}
use Rattle.type_rules.specs.declared.names.Entity.TheVariants.{Variable, Function, TypeName}
use Rattle.type_rules.specs.Specifiers.{Specifiers, no_specifiers}
use Rattle.type_rules.specs.Storage.{kept_for, initially}
use Rattle.type_rules.specs.Types.{is_incomplete}
use Rattle.c_tree.specs.declared.expressions.Spec.{Spec}

abbrev pub all_specifiers : List Spec → Specifiers → Rule Specifiers
all_specifiers [] b = gives b
all_specifiers (s ∷ ss) b = do
  next ← specifier s b
  all_specifiers ss next

-- a declared name, with what is made of it
pub record Named : Type 0 where
  pub name : Span
  pub number : ℕ
  pub specifiers : Specifiers
  pub made : Made
  pub init : Option Init

-- A typedef and a function have no initializer, and it isn't read.
abbrev pub no_initializer : Option Init → Rule (Unit {0})
no_initializer None = gives tt
no_initializer (Some i) = fails 9 (init_place i)

-- A name is a typedef name of this type already, or isn't declared here (C17 6.7).
abbrev pub is_other_type : Option Entity → CType → Bool
is_other_type None t = false
is_other_type (Some (TypeName u)) t = not (same u t)
is_other_type (Some e) t = true

-- Typedefs (C17 6.7.8).
unfoldable pub typedef_declared : Named → Option Entity → Rule (Unit {0})
typedef_declared d here = do
  faults (is_other_type here d.made.kind) (d.made.mistyped || d.made.noreturn || d.specifiers.is_thread_local)
      d.made.conflicting (d.made.incomplete || is_unsized d.made.kind) d.name.start
  declared d.number (TypeName d.made.kind)
  no_initializer d.init

-- A function, as one declaration has it.
abbrev pub function_of : Span → ℕ → Specifiers → Made → FnType → Bool → FunctionDeclaration
function_of name number b m f has_body = record {
  name = name;
  number = number;
  made = m;
  kind = f;
  internal = b.is_static;
  has_body = has_body;
  mistyped = m.mistyped || b.is_thread_local;
}

unfoldable pub function_named : Named → FnType → Option Entity → Rule (Unit {0})
function_named d f here = do
  number ← function_declared (function_of d.name d.number d.specifiers d.made f false) here
  no_initializer d.init

-- An array without a size takes it from its initializer.
abbrev pub sized_by : Init → CType → Bool → Rule CType
sized_by i t true = do
  n ← initial_size (element_of t) i
  gives (array_of (element_of t) n)
sized_by i t false = gives t

abbrev pub sized : Option Init → CType → Rule CType
sized None t = gives t
sized (Some i) t = sized_by i t (is_unsized t)

-- Where a variable is kept. At file scope it is static without a word, and in a block automatic.
abbrev pub file_duration : Specifiers → Duration
file_duration b = if b.is_thread_local then IsThreadLocal else IsStatic

abbrev pub block_duration : Specifiers → Duration
block_duration b = if b.is_thread_local then IsThreadLocal else if b.is_static then IsStatic else IsAutomatic

abbrev pub is_mistyped : Made → Bool
is_mistyped m = m.mistyped || m.noreturn

-- The first declaration of a variable of file scope: zero words, until an initializer says otherwise.
abbrev pub first_variable : Span → ℕ → Specifiers → Made → Bool → CType → Rule Storage
first_variable name number b m initialized t = do
  s ← seen
  faults false (is_mistyped m) m.conflicting (m.incomplete || is_incomplete s.structures t) name.start
  storage ← kept_for (file_duration b) (words_of s.structures t) (Some (length s.variables))
  changes (λ u. record u {
    variables = u.variables ++ record {
      name = text_of u.source name;
      kind = t;
      internal = b.is_static;
      thread_local = b.is_thread_local;
      initialized = initialized;
    } ∷ [];
  })
  declared number (Variable m.kind storage (Some (length s.variables)))
  gives storage

abbrev pub same_words : Bool → Bool → Bool
same_words true b = b
same_words false b = not b

-- A further one: of the same type, thread-local where the first is, at most one with an initializer.
abbrev pub further_variable : Span → Specifiers → Made → Bool → CType → ℕ → Storage → Option VariableInfo → Rule Storage
further_variable name b m initialized t number storage None = fails 2 name.start
further_variable name b m initialized t number storage (Some v) = do
  faults (v.initialized && initialized) (is_mistyped m || not (same v.kind t) || not (same_words v.thread_local b.is_thread_local))
      m.conflicting m.incomplete name.start
  changes (λ s. record s {
    variables = slice_set s.variables number (record v { internal = v.internal || b.is_static; initialized = v.initialized || initialized });
  })
  gives storage

abbrev pub file_variable : Span → ℕ → Specifiers → Made → Bool → CType → Option Entity → Rule Storage
file_variable name own b m initialized t None = first_variable name own b m initialized t
file_variable name own b m initialized t (Some (Variable u storage (Some number))) = do
  s ← seen
  further_variable name b m initialized t number storage (slice_get s.variables number)
file_variable name own b m initialized t (Some e) = fails 2 name.start

-- What an object of static storage holds at first is constant.
abbrev pub statically : Option Init → CType → Storage → Rule (Unit {0})
statically None t storage = gives tt
statically (Some i) t storage = do
  given ← static_initializer t i
  initially storage (initial_values (where_in storage) given)

-- An array without a size has it behind its initializer, and is incomplete before (C17 6.7.9).
abbrev pub with_size : CType → ℕ → Option Entity → Rule (Unit {0})
with_size t name (Some (Variable u storage number)) = declared name (Variable t storage number)
with_size t name _ = gives tt

abbrev pub array_completed : ℕ → CType → Bool → Rule (Unit {0})
array_completed number t true = do
  here ← meaning_here number
  with_size t number here
array_completed number t false = gives tt

unfoldable pub variable_named : Named → Option Entity → Rule (Unit {0})
variable_named d here = do
  t ← sized d.init d.made.kind
  storage ← file_variable d.name d.number d.specifiers d.made (is_some d.init) t here
  statically d.init t storage
  array_completed d.number t (is_unsized d.made.kind)

-- A name of file scope is a typedef name, a function or a variable.
abbrev pub name_declared : Named → Option FnType → Option Entity → Rule (Unit {0})
name_declared d (Some f) here = function_named d f here
name_declared d None here = variable_named d here

abbrev pub file_name : Named → Rule (Unit {0})
file_name d = do
  here ← meaning_here d.number
  if d.specifiers.is_typedef then typedef_declared d here else name_declared d (function_in d.made.kind) here

-- what stands behind the specifiers, up to an initializer
abbrev pub named_at : Specifiers → Shape → Option Init → (Named → Rule (List Stmt)) → Option Span → Rule (List Stmt)
named_at b d i next None = gives []
named_at b d i next (Some name) = do
  m ← made_here b d name.start
  number ← name_number name
  next (record { name = name; number = number; specifiers = b; made = m; init = i })

abbrev pub named_by : Specifiers → Shape → Option Init → (Named → Rule (List Stmt)) → Rule (List Stmt)
named_by b d i next = named_at b d i next d.name

unfoldable pub init_declarator : Specifiers → (Named → Rule (List Stmt)) → InitDeclarator → Rule (List Stmt)
init_declarator b next d = do
  shape ← declarator d.declarator
  named_by b shape d.init next

-- Attributes and `_Noreturn` belong to a declared function.
abbrev pub is_attributed : Specifiers → Bool
is_attributed b = b.is_noreturn || not (nat_eq (length b.attributes) 0)

abbrev pub init_declarators : Specifiers → (Named → Rule (List Stmt)) → List InitDeclarator → Rule (List Stmt)
init_declarators b next [] = gives []
init_declarators b next (d ∷ ds) = do
  here ← init_declarator b next d
  others ← init_declarators b next ds
  gives (here ++ others)

abbrev pub is_bare : List InitDeclarator → Bool
is_bare [] = true
is_bare (d ∷ ds) = false

-- A declaration: each declarator is read, with its initializer, before the next one.
unfoldable pub declaration : (Named → Rule (List Stmt)) → Decl → Rule (List Stmt)
declaration next d = do
  b ← all_specifiers d.specs no_specifiers
  refused (is_bare d.declarators && is_attributed b) 3 d.place
  init_declarators b next d.declarators

abbrev pub without_statements : (Named → Rule (Unit {0})) → Named → Rule (List Stmt)
without_statements next d = next d >> gives []

unfoldable pub file_declaration : Decl → Rule (Unit {0})
file_declaration d = declaration (without_statements file_name) d >> gives tt

-- Block variables (C17 6.7, 6.8.2): one of a name in each block.
abbrev pub block_initializer : Duration → CType → Option Init → Storage → ℕ → Rule Initializer
block_initializer duration t None storage words = gives (init.Absent words)
block_initializer IsAutomatic t (Some i) storage words = automatic_initializer t i
block_initializer duration t (Some i) storage words = do
  given ← static_initializer t i
  initially storage (initial_values (where_in storage) given)
  gives given

-- how many words it has, where it may be declared
abbrev pub block_words : Span → ℕ → Made → CType → Rule ℕ
block_words name number m t = do
  here ← meaning_here number
  s ← seen
  faults (is_some here) (is_mistyped m || is_function t) m.conflicting (m.incomplete || is_incomplete s.structures t) name.start
  gives (words_of s.structures t)

abbrev pub block_kept : ℕ → Duration → CType → ℕ → Rule Storage
block_kept number duration t words = do
  storage ← kept_for duration words None
  declared number (Variable t storage None)
  gives storage

-- `unsized`: the array has no size in its declarator
abbrev pub block_initialized : ℕ → Duration → Bool → CType → Option Init → Storage → ℕ → Rule Initializer
block_initialized number duration unsized t init storage words = do
  i ← block_initializer duration t init storage words
  array_completed number t unsized
  gives i

unfoldable pub block_name : Named → Rule (List Stmt)
block_name d = do
  t ← sized d.init d.made.kind
  words ← block_words d.name d.number d.made t
  storage ← block_kept d.number (block_duration d.specifiers) d.made.kind words
  i ← block_initialized d.number (block_duration d.specifiers) (is_unsized d.made.kind) t d.init storage words
  gives (stmt.Variable (record { place = d.name.start; storage = storage; kind = t; initializer = i }) ∷ [])

unfoldable pub block_declaration : Decl → Rule (List Stmt)
block_declaration d = declaration block_name d

abbrev pub is_defined : Option FunctionInfo → Bool
is_defined (Some f) = is_some f.body
is_defined None = false

-- The name of a definition that isn't one is declared here already, as another kind of name or as a function with a body.
abbrev pub is_redefined : List FunctionInfo → Bool → Option Entity → Bool
is_redefined functions is_function None = false
is_redefined functions true (Some (Function number)) = is_defined (slice_get functions number)
is_redefined functions false (Some (Variable t storage (Some number))) = false
is_redefined functions is_function (Some e) = true

-- what makes no function
abbrev pub not_defined : Span → Bool → Option Entity → Rule (Unit {0})
not_defined name is_function here = do
  s ← seen
  refused (is_redefined s.functions is_function here) 2 name.start
  fails 3 name.start

abbrev pub defined_as : Named → Option FnType → Option (List Parameter) → Rule (List Stmt) → Option Entity → Rule (Unit {0})
defined_as d (Some f) (Some ps) block here = do
  number ← function_declared (function_of d.name d.number d.specifiers d.made f true) here
  body_read number f ps block
defined_as d f _ block here = not_defined d.name (is_some f) here

abbrev pub typedef_defined : Span → Made → Option Entity → Rule (Unit {0})
typedef_defined name m here = do
  refused (is_other_type here m.kind) 2 name.start
  fails 3 name.start

-- A definition (C17 6.9.1): without `typedef`, and its declarator makes the name a function by a parameter list of its own.
abbrev pub definition_named : Named → Option FnType → Option (List Parameter) → Rule (List Stmt) → Option Entity → Rule (Unit {0})
definition_named d f ps block here = if d.specifiers.is_typedef then typedef_defined d.name d.made here else defined_as d f ps block here

unfoldable pub defined_name : Rule (List Stmt) → Named → Rule (Unit {0})
defined_name block d = do
  here ← meaning_here d.number
  definition_named d (function_in d.made.kind) d.made.parameters block here

unfoldable pub definition : (List BlockItem → Rule (List Stmt)) → FunctionDefinition → Rule (Unit {0})
definition block f = do
  b ← all_specifiers f.specs no_specifiers
  shape ← declarator f.declarator
  named_by b shape None (without_statements (defined_name (block f.body)))
  gives tt
