-- What the typing has seen of a unit, up to a place of it. The code keeps each part of it: what grows does so at its end, and what is searched are
-- scopes.
use Rattle.std.specs.Prelude.{ℕ, List}
use Rattle.scopes.specs.Scope.{Scope}
use Rattle.eff_types.specs.declared.levels.Effects.{Effects}
use Rattle.eff_types.specs.declared.types.CType.{CType}
use Rattle.core_unit.specs.declared.tables.FunctionInfo.{FunctionInfo}
use Rattle.core_unit.specs.declared.tables.Object.{Object}
use Rattle.core_unit.specs.declared.tables.StructInfo.{StructInfo}
use Rattle.core_unit.specs.declared.tables.VariableInfo.{VariableInfo}
use Rattle.type_rules.specs.declared.names.Entity.{Entity}
use Rattle.type_rules.specs.declared.names.Tag.{Tag}
use Rattle.type_rules.specs.declared.notes.Initial.{Initial}
use Rattle.type_rules.specs.declared.notes.TypeWarning.{TypeWarning}

pub record Seen : Type 0 where
  -- the bytes of the source
  pub source : List ℕ
  -- the numbers of the functions that have the level `NonBlocking` in each declaration
  pub marks : List ℕ
  -- the effects that each function has in the whole unit, where they are known
  pub whole : List Effects
  -- the spellings met so far: the number of a name is its place here
  pub names : List (List ℕ)
  -- what the ordinary names mean, the innermost scope first; the outermost one has the reserved names, and file scope stands next to it
  pub scopes : List (Scope Entity)
  -- what the tags mean, all in one scope
  pub tags : List (Scope Tag)
  -- in order of first declaration, with their effects so far
  pub functions : List FunctionInfo
  -- the numbers of the functions that were defined, in this order
  pub definitions : List ℕ
  -- those of file scope, in order of first declaration
  pub variables : List VariableInfo
  pub structures : List StructInfo
  -- beside each structure its words modulo 2^32, as `sizeof` tells them; 0 where it is incomplete
  pub sizes : List ℕ
  -- the objects of static storage and the thread-local ones, in order of appearance, with how many words they have together
  pub statics : List Object
  pub static_words : ℕ
  pub thread_locals : List Object
  pub thread_words : ℕ
  -- what they hold at first; a later one of a word counts
  pub static_values : List Initial
  pub thread_values : List Initial
  -- the number of the next call site
  pub sites : ℕ
  -- of the function that is being read: the words of its frame so far, and the type of its result
  pub frame : ℕ
  pub result : CType
  -- in the order of reading
  pub warnings : List TypeWarning
