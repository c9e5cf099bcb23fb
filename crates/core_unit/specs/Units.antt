-- What is always true of a unit.
use Rattle.std.specs.Prelude.{◌≡◌, ℕ, ◌+◌, ◌-◌, ◌<◌, ◌≤◌, ◌^◌, Bool, true, false, ◌||◌, if◌then◌else◌, nat_lt, nat_eq, List, [], ◌∷◌, flat_map, length, slice_get, Option, Some, None, All}
use Rattle.std.specs.List.{list_any}
use Rattle.std.specs.Option.{option_map}
use Rattle.eff_types.specs.Effects.{forbids}
use Rattle.eff_types.specs.Laws.{IsAtMost}
use Rattle.eff_types.specs.Types.{is_void}
use Rattle.eff_types.specs.declared.levels.Level.{Level}
use Rattle.eff_types.specs.declared.types.CType.{CType}
use Rattle.core_unit.specs.Layout.{LaidOut, words_of, frame_of, opening_of}
use Rattle.core_unit.specs.Library.{rows}
use Rattle.core_unit.specs.Places.{places, Spot, Calls, Callee, Named, Row}
use Rattle.core_unit.specs.Shapes.{is_scalar}
use Rattle.core_unit.specs.Structures.{IsWithin, IsSized, AreRanked}
use Rattle.core_unit.specs.Typed.{Tables, ListIsTyped}
use Rattle.core_unit.specs.Words.{PacksTo}
use Rattle.core_unit.specs.declared.body.Body.{Body}
use Rattle.core_unit.specs.declared.tables.FunctionInfo.{FunctionInfo}
use Rattle.core_unit.specs.declared.tables.Object.{Object}
use Rattle.core_unit.specs.declared.tables.SiteInfo.{SiteInfo}
use Rattle.core_unit.specs.declared.tables.StructInfo.{StructInfo}
use Rattle.core_unit.specs.declared.tables.UnitParts.{UnitParts}
use Rattle.core_unit.specs.declared.tables.VariableInfo.{VariableInfo}
use Rattle.core_unit.specs.declared.words.Word.{Word}
use Rattle.core_unit.specs.declared.words.Word.TheVariants as word

-- the target numbers: functions of the unit below 4,096, and library rows from there on
abbrev pub row_target : ℕ → ℕ
row_target row = 4096 + row

-- what the trees of a function are read with
abbrev pub tables_of : UnitParts → FunctionInfo → Body → Tables
tables_of u f body = record {
  functions = u.functions;
  structures = u.structures;
  statics = u.statics;
  thread_locals = u.thread_locals;
  frame = frame_of u.structures f.kind.params body;
}

-- The body of a function is typed, and its frame holds its parameters and automatic variables, one behind the other.
pub record IsDefinition (u : UnitParts) (f : FunctionInfo) (body : Body) : Type 0 where
  pub typed : ListIsTyped (tables_of u f body) f.kind.result false body.items
  pub frame : LaidOut 0 (frame_of u.structures f.kind.params body) f.frame_words
  pub small : f.frame_words ≤ 4096

abbrev pub IsBody : UnitParts → FunctionInfo → Option Body → Type 0
IsBody u f None = f.frame_words ≡ 0
IsBody u f (Some body) = IsDefinition u f body

-- A parameter is a scalar (this project's own rule).
pub record IsParameter (structures : List StructInfo) (t : CType) : Type 0 where
  pub scalar : is_scalar t ≡ true
  pub within : IsWithin (length structures) t

-- A function takes few scalars and gives a scalar or nothing. It has a level that its flags allow, and a body that is typed.
pub record IsFunction (u : UnitParts) (f : FunctionInfo) : Type 0 where
  pub few : length f.kind.params ≤ 16
  pub params : All (IsParameter u.structures) f.kind.params
  pub result : is_scalar f.kind.result || is_void f.kind.result ≡ true
  pub within : IsWithin (length u.structures) f.kind.result
  pub allowed : (level : Level) → IsAtMost level f.kind.effects.level → forbids f.kind.effects level ≡ false
  pub body : IsBody u f f.body

abbrev pub body_in : List FunctionInfo → ℕ → Option Body
body_in functions number = of (slice_get functions number)
  where
    of : Option FunctionInfo → Option Body
    of (Some f) = f.body
    of None = None

-- a call: the number of its site, and what the table says of it
pub record SiteOf : Type 0 where
  pub number : ℕ
  pub info : SiteInfo

abbrev pub direct_target : Callee → Option ℕ
direct_target (Named f) = Some f
direct_target (Row row) = Some (row_target row)
direct_target _ = None

abbrev pub site_of : ℕ → Spot → List SiteOf
site_of function (Calls at number callee) =
    record { number = number; info = record { function = function; place = at; direct = direct_target callee } } ∷ []
site_of function _ = []

abbrev pub body_sites : ℕ → Option Body → List SiteOf
body_sites function (Some body) = flat_map (site_of function) (places body)
body_sites function None = []

-- the calls of all bodies, definition after definition, in order of place
abbrev pub calls_of : UnitParts → List SiteOf
calls_of u = flat_map (λ function. body_sites function (body_in u.functions function)) u.definitions

-- The calls have the numbers from the first on, and stand in the table in this order.
abbrev pub AreNumbered : ℕ → List SiteOf → List SiteInfo → Type 0
AreNumbered first [] [] = Unit {0}
AreNumbered first (call ∷ calls) (site ∷ sites) = (call.number ≡ first) × (site ≡ call.info) × AreNumbered (first + 1) calls sites
AreNumbered first _ _ = ⊥

-- no number twice
abbrev pub IsApart : List ℕ → Type 0
IsApart [] = Unit {0}
IsApart (n ∷ ns) = (list_any (nat_eq n) ns ≡ false) × IsApart ns

abbrev pub HasBody : Option Body → Type 0
HasBody (Some body) = Unit {0}
HasBody None = ⊥

-- The definitions are the functions with a body, each once.
pub record AreDefinitions (functions : List FunctionInfo) (definitions : List ℕ) : Type 0 where
  pub apart : IsApart definitions
  pub bodies : All (λ function. HasBody (body_in functions function)) definitions
  pub all : (function : ℕ) → HasBody (body_in functions function) → list_any (nat_eq function) definitions ≡ true

-- An object that is a variable of file scope has the words of its type, and is thread-local where the variable is.
pub record IsVariableObject (u : UnitParts) (thread_local : Bool) (words number : ℕ) : Type 0 where
  pub info : VariableInfo
  pub known : slice_get u.variables number ≡ Some info
  pub kept : info.thread_local ≡ thread_local
  pub long : words ≡ words_of u.structures info.kind

abbrev pub IsOfUnit : UnitParts → Bool → Object → Type 0
IsOfUnit u thread_local o = of o.variable
  where
    of : Option ℕ → Type 0
    of (Some number) = IsVariableObject u thread_local o.words number
    of None = Unit {0}

-- the variables of file scope that the objects are
abbrev pub variables_of : List Object → List ℕ
variables_of objects = flat_map (λ o. of o.variable) objects
  where
    of : Option ℕ → List ℕ
    of (Some number) = number ∷ []
    of None = []

-- Each variable of file scope is an object.
abbrev pub IsAmongObjects : List Object → ℕ → Type 0
IsAmongObjects objects number = (index : ℕ) × (o : Object) × (slice_get objects index ≡ Some o) × (o.variable ≡ Some number)

abbrev pub objects_for : UnitParts → Bool → List Object
objects_for u true = u.thread_locals
objects_for u false = u.statics

-- What a word holds at first: a number, null, the address of an object of static storage, or a function, at the level of the type of the
-- object, which may be above that of the function.
abbrev pub IsInitialValue : UnitParts → Word → Type 0
IsInitialValue u word.Zero = Unit {0}
IsInitialValue u (word.Number bits) = Unit {0}
IsInitialValue u (word.DataPointer address) = address ≤ length u.static_words
IsInitialValue u (word.FunctionPointer function level) = function < length u.functions
IsInitialValue u _ = ⊥

abbrev pub IsInitialWord : UnitParts → ℕ → Type 0
IsInitialWord u raw = (value : Word) × PacksTo value raw × IsInitialValue u value

-- What is always true of a unit. It is within the limits; it is typed, so that each node has its type, and a function's name in a body has at
-- most the function's level; its call sites stand definition after definition, those of a definition in order of place; its definitions in
-- order of definition; its objects one behind the other.
pub record IsUnit (u : UnitParts) : Type 0 where
  pub few_functions : length u.functions ≤ 4096
  pub few_sites : length u.sites < 2 ^ 20
  pub few_words : length u.static_words ≤ 524288
  pub few_thread_words : length u.thread_words ≤ 1024
  pub few_variables : length u.variables < 2 ^ 32
  pub few_structures : length u.structures < 2 ^ 32
  pub functions : All (IsFunction u) u.functions
  pub definitions : AreDefinitions u.functions u.definitions
  pub sites : AreNumbered 1 (calls_of u) u.sites
  pub structures : All (IsSized u.structures) u.structures
  pub ranked : AreRanked u.structures
  pub statics : LaidOut 1 u.statics (1 + length u.static_words)
  pub thread_locals : LaidOut 0 u.thread_locals (length u.thread_words)
  pub static_objects : All (IsOfUnit u false) u.statics
  pub thread_objects : All (IsOfUnit u true) u.thread_locals
  pub static_variables : IsApart (variables_of u.statics)
  pub thread_variables : IsApart (variables_of u.thread_locals)
  pub variable_types : All (λ v. IsWithin (length u.structures) v.kind) u.variables
  pub variables : (number : ℕ) (info : VariableInfo) → slice_get u.variables number ≡ Some info → IsAmongObjects (objects_for u info.thread_local) number
  pub static_values : All (IsInitialWord u) u.static_words
  pub thread_values : All (IsInitialWord u) u.thread_words

-- what memory holds at first
abbrev pub opening : UnitParts → List ℕ
opening u = opening_of u.static_words u.thread_words

-- a function of the unit, or a library row
abbrev pub IsTarget : UnitParts → ℕ → Type 0
IsTarget u target = (target < 4096 + length rows) × (target < 4096 → target < length u.functions)

abbrev pub target_name : UnitParts → ℕ → Option (List ℕ)
target_name u target =
    if nat_lt target 4096 then option_map (λ f. f.name) (slice_get u.functions target) else option_map (λ r. r.name) (slice_get rows (target - 4096))
