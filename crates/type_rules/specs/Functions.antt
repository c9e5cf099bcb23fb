-- Functions of a unit: their declarations, their effects and their definitions (C17 6.7, 6.9.1; Clang's manual 'Function Effect Analysis').
use Rattle.std.specs.Prelude.{ℕ, ◌+◌, Bool, false, not, ◌&&◌, ◌||◌, nat_eq, if◌then◌else◌, List, [], ◌∷◌, ◌++◌, length, slice_get, slice_set, is_some, Option, Some, None}
use Rattle.std.specs.List.{list_any}
use Rattle.c_tree.specs.declared.words.Span.{Span}
use Rattle.eff_types.specs.Effects.{added, conflict, union}
use Rattle.eff_types.specs.Types.{same_outside}
use Rattle.eff_types.specs.declared.levels.Effects.{Effects}
use Rattle.eff_types.specs.declared.levels.Level.TheVariants as level
use Rattle.eff_types.specs.declared.types.CType.{CType, Void}
use Rattle.eff_types.specs.declared.types.CType.TheVariants as a_type
use Rattle.eff_types.specs.declared.types.FnType.{FnType}
use Rattle.core_unit.specs.declared.body.Stmt.{Stmt}
use Rattle.core_unit.specs.declared.expressions.Storage.TheVariants.{Automatic}
use Rattle.core_unit.specs.declared.tables.FunctionInfo.{FunctionInfo}
use Rattle.type_rules.specs.Declarators.{Parameter, faults}
use Rattle.type_rules.specs.Reading.{Rule, Good, ◌>>=◌, ◌>>◌, gives, fails, seen, scoped, declared, warned, text_of, changes}
pub use Rattle.type_rules.specs.declared.declarators.FunctionDeclaration.{FunctionDeclaration}
use Rattle.type_rules.specs.declared.names.Entity.{Entity}
use Rattle.type_rules.specs.declared.names.Entity.TheVariants.{Variable, Function}
use Rattle.type_rules.specs.declared.notes.TypeWarning.TheVariants.{Redeclaration}

-- The effects of a function's name: those of the whole unit, where they are known, and else those of the declarations before.
abbrev pub effects_at : Option Effects → FnType → FnType
effects_at (Some e) f = record f { effects = e }
effects_at None f = f

abbrev pub kind_at : List Effects → ℕ → Option FunctionInfo → CType
kind_at whole number (Some f) = a_type.Function (effects_at (slice_get whole number) f.kind)
kind_at whole number None = Void

-- the type of the name of a function
unfoldable pub function_type : ℕ → Rule CType
function_type number = λ s. Good (kind_at s.whole number (slice_get s.functions number)) s

-- A marked function has the level `NonBlocking` in each of its declarations.
abbrev pub marked : List ℕ → ℕ → Effects → Effects
marked marks number e = if list_any (nat_eq number) marks then record e { level = level.NonBlocking } else e

abbrev pub marked_type : List ℕ → ℕ → FnType → FnType
marked_type marks number f = record f { effects = marked marks number f.effects }

-- The first declaration of a function: the next number is its own.
abbrev pub function_added : FunctionDeclaration → List ℕ → Rule (Unit {0})
function_added d text = changes (λ s. record s {
  functions = s.functions ++ record {
    name = text;
    kind = marked_type s.marks (length s.functions) d.kind;
    noreturn = d.made.noreturn;
    internal = d.internal;
    place = d.name.start;
    body = None;
    frame_words = 0;
  } ∷ [];
})

abbrev pub first_declaration : FunctionDeclaration → Rule ℕ
first_declaration d = do
  s ← seen
  faults false d.mistyped (d.made.conflicting || conflict (marked s.marks (length s.functions) d.kind.effects ∷ [])) d.made.incomplete d.name.start
  function_added d (text_of s.source d.name)
  declared d.number (Function (length s.functions))
  gives (length s.functions)

abbrev pub function_set : ℕ → FunctionInfo → Rule (Unit {0})
function_set number f = changes (λ s. record s { functions = slice_set s.functions number f })

-- A further declaration: of the same type up to outer effects, at most one with a body. The effects come together, and a level below
-- that of the declarations before is warned of with theirs.
abbrev pub further_declaration : FunctionDeclaration → List ℕ → ℕ → Option FunctionInfo → Rule ℕ
further_declaration d marks number None = fails 2 d.name.start
further_declaration d marks number (Some f) =
    let e = marked marks number d.kind.effects in do
      faults (is_some f.body && d.has_body) (d.mistyped || not (same_outside (a_type.Function f.kind) (a_type.Function d.kind)))
          (d.made.conflicting || conflict (f.kind.effects ∷ e ∷ [])) d.made.incomplete d.name.start
      warned (added e f.kind.effects) (Redeclaration d.name.start)
      function_set number (record f {
        kind = record f.kind { effects = union (f.kind.effects ∷ e ∷ []) };
        noreturn = f.noreturn || d.made.noreturn;
        internal = f.internal || d.internal;
      })
      gives number

-- A declaration of a function at file scope: its number. A name of another kind there is a redefinition.
abbrev pub function_declared : FunctionDeclaration → Option Entity → Rule ℕ
function_declared d None = first_declaration d
function_declared d (Some (Function number)) = do
  s ← seen
  further_declaration d s.marks number (slice_get s.functions number)
function_declared d (Some e) = fails 2 d.name.start

abbrev pub declared_at : ℕ → Option ℕ → CType → Rule (Unit {0})
declared_at offset (Some name) t = declared name (Variable t (Automatic offset) None)
declared_at offset None t = gives tt

-- The parameters stand in the scope of the outermost block, each with one word of the frame.
abbrev pub parameters_declared : ℕ → List Parameter → Rule (Unit {0})
parameters_declared offset [] = gives tt
parameters_declared offset (p ∷ ps) = declared_at offset p.name p.kind >> parameters_declared (offset + 1) ps

abbrev pub body_begun : FnType → Rule (Unit {0})
body_begun kind = changes (λ s. record s { frame = length kind.params; result = kind.result })

-- what stands in the scope of a body before its block
abbrev pub body_opened : FnType → List Parameter → Rule (Unit {0})
body_opened kind parameters = parameters_declared 0 parameters >> body_begun kind

abbrev pub with_body : Option FunctionInfo → ℕ → List Stmt → ℕ → Rule (Unit {0})
with_body (Some f) number items frame = function_set number (record f { body = Some (record { items = items }); frame_words = frame })
with_body None number items frame = gives tt

abbrev pub function_defined : ℕ → List Stmt → Rule (Unit {0})
function_defined number items = do
  s ← seen
  with_body (slice_get s.functions number) number items s.frame
  changes (λ t. record t { definitions = t.definitions ++ number ∷ [] })

-- the body of a function: its parameters and its outermost block have one scope (C17 6.2.1)
unfoldable pub body_read : ℕ → FnType → List Parameter → Rule (List Stmt) → Rule (Unit {0})
body_read number kind parameters block = do
  items ← scoped (body_opened kind parameters >> block)
  function_defined number items
