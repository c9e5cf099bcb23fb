-- What code that is appended makes true of all code that begins with it.
use Rattle.std.specs.Prelude.{◌≡◌, ℕ, ◌+◌, Bool, Option, Some, None, List, [], ◌∷◌, ◌++◌, length}
use Rattle.core_unit.specs.Stores.{stores, Stored}
use Rattle.core_unit.specs.declared.body.Body.{Body}
use Rattle.core_unit.specs.declared.body.Initializer.{Initializer}
use Rattle.core_unit.specs.declared.body.Stmt.{Stmt}
use Rattle.core_unit.specs.declared.expressions.Expr.{Expr}
use Rattle.core_unit.specs.declared.expressions.Place.{Place}
use Rattle.core_unit.specs.declared.tables.FunctionInfo.{FunctionInfo}
use Rattle.core_unit.specs.declared.tables.UnitParts.{UnitParts}
use Rattle.eff_types.specs.declared.types.CType.{CType}
use Rattle.mcode.specs.Machine.{Program}
use Rattle.mcode.specs.declared.code.Entry.{Entry}
use Rattle.mcode.specs.declared.code.Instruction.{Instruction}
use Rattle.c_codegen.specs.declared.draft.Draft.{Draft}
use Rattle.c_codegen.specs.Entries.{entry_at}
use Rattle.c_codegen.specs.Lies.{One, PlaceLies, Lies, ListedLie, Filled, TestLies, OptionalLies, Stands, ListStands, Binds, Meets, FunctionLies}
use Rattle.c_codegen.specs.Sizes.{size, place_size, arguments_size, initializer_size, listed_size, statement_size, list_size, test_size, optional_size, meets_size, body_size}

-- a list begins with another one
abbrev pub IsBefore : {A : Type 0} → List A → List A → Type 0
IsBefore {A} front whole = (rest : List A) × (front ++ rest ≡ whole)

-- code that begins with the draft
pub record Begins (d : Draft) (c : Program) : Type 0 where
  pub instructions : IsBefore d.instructions c.instructions
  pub texts : IsBefore d.texts c.texts

-- So many instructions were appended, and this is true of all code that begins so.
pub record Emits (old new : Draft) (count : ℕ) (P : Program → Type 0) : Type 0 where
  pub instructions : IsBefore old.instructions new.instructions
  pub texts : IsBefore old.texts new.texts
  pub long : length new.instructions ≡ length old.instructions + count
  pub holds : (c : Program) → Begins new c → P c

-- where the next instruction comes to stand
abbrev pub here : Draft → ℕ
here d = length d.instructions

-- one instruction
unfoldable pub EmitsOne : (old new : Draft) → Instruction → Type 0
EmitsOne old new i = Emits old new 1 (λ c. One c i (here old) (here new))

-- the code of trees
unfoldable pub EmitsPlace : UnitParts → (old new : Draft) → Place → Type 0
EmitsPlace u old new p = Emits old new (place_size p) (λ c. PlaceLies u c p (here old) (here new))

unfoldable pub EmitsValue : UnitParts → (old new : Draft) → Expr → Type 0
EmitsValue u old new e = Emits old new (size e) (λ c. Lies u c e (here old) (here new))

unfoldable pub EmitsArguments : UnitParts → (old new : Draft) → List Expr → Type 0
EmitsArguments u old new es = Emits old new (arguments_size es) (λ c. ListedLie u c es (here old) (here new))

unfoldable pub EmitsStatement : UnitParts → (old new : Draft) → Stmt → (out back : ℕ) → Type 0
EmitsStatement u old new item out back = Emits old new (statement_size item) (λ c. Stands u c item out back (here old) (here new))

unfoldable pub EmitsStatements : UnitParts → (old new : Draft) → List Stmt → (out back : ℕ) → Type 0
EmitsStatements u old new items out back = Emits old new (list_size items) (λ c. ListStands u c items out back (here old) (here new))

-- what initializers store, one after another
abbrev pub listed_stores : List Initializer → List Stored
listed_stores [] = []
listed_stores (i ∷ is) = stores i ++ listed_stores is

-- Of the words of a block variable these come from an offset on: wherever the others are stored behind them, all are.
abbrev pub FillsFrom : UnitParts → Program → (offset : ℕ) → List Stored → (from to : ℕ) → Type 0
FillsFrom u c offset stored from to =
    (others : List Stored) (end : ℕ) → Filled u c (offset + length stored) others to end → Filled u c offset (stored ++ others) from end

unfoldable pub EmitsInitializer : UnitParts → (old new : Draft) → (offset : ℕ) → Initializer → Type 0
EmitsInitializer u old new offset i = Emits old new (initializer_size i) (λ c. FillsFrom u c offset (stores i) (here old) (here new))

unfoldable pub EmitsInitializers : UnitParts → (old new : Draft) → (offset : ℕ) → List Initializer → Type 0
EmitsInitializers u old new offset is = Emits old new (listed_size is) (λ c. FillsFrom u c offset (listed_stores is) (here old) (here new))

-- the condition of a `for`, which ends the loop at this place, and what ends each turn
unfoldable pub EmitsTest : UnitParts → (old new : Draft) → Option Expr → (end : ℕ) → Type 0
EmitsTest u old new test end = Emits old new (test_size test) (λ c. (decision : ℕ) × TestLies u c test decision end (here old) (here new))

unfoldable pub EmitsOptional : UnitParts → (old new : Draft) → Option Expr → Type 0
EmitsOptional u old new e = Emits old new (optional_size e) (λ c. OptionalLies u c e (here old) (here new))

-- of parameters of these types so many were stored, and those that are left follow
unfoldable pub EmitsBinds : (old new : Draft) → (count : ℕ) → (ts left : List CType) → Type 0
EmitsBinds old new count ts left = Emits old new count (λ c. (to : ℕ) → Binds c count left (here new) to → Binds c 0 ts (here old) to)

unfoldable pub EmitsMeets : (old new : Draft) → Bool → (function : ℕ) → Type 0
EmitsMeets old new blocks function = Emits old new (meets_size blocks) (λ c. Meets c blocks function (here old) (here new))

unfoldable pub EmitsFunction : UnitParts → (old new : Draft) → (function : ℕ) → FunctionInfo → Body → Type 0
EmitsFunction u old new function f body = Emits old new (body_size f body) (λ c. FunctionLies u c function f body (here old) (here new))

-- What is appended for a function, and what is known of it: none where it isn't defined.
abbrev pub AddsFunction : UnitParts → (function : ℕ) → FunctionInfo → Option Body → (old new : Draft) → (entries more : List (Option Entry)) → Type 0
AddsFunction u function f (Some body) old new entries more = EmitsFunction u old new function f body × (more ≡ entries ++ Some (entry_at u (here old) f) ∷ [])
AddsFunction u function f None old new entries more = (new ≡ old) × (more ≡ entries ++ None ∷ [])
