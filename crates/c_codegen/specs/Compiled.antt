-- When code is compiled from a unit (this project's own rules).
use Rattle.std.specs.Prelude.{◌≡◌, ℕ, length, Option, Some, None, slice_get}
use Rattle.core_unit.specs.declared.body.Body.{Body}
use Rattle.core_unit.specs.declared.tables.FunctionInfo.{FunctionInfo}
use Rattle.core_unit.specs.declared.tables.UnitParts.{UnitParts}
use Rattle.machine_code.specs.Codes.{GoesOn}
use Rattle.mcode.specs.Machine.{Program, entry_of}
use Rattle.mcode.specs.declared.code.Entry.{Entry}
use Rattle.mcode.specs.declared.code.Instruction.{Instruction}
use Rattle.c_codegen.specs.Entries.{entry_at}
use Rattle.c_codegen.specs.Lies.{Is, FunctionLies}

-- a function is known where it is defined: its entry, and its instructions from the place on that the entry tells
pub record IsKnown (u : UnitParts) (c : Program) (function : ℕ) (f : FunctionInfo) (body : Body) (entry : Option Entry) : Type 0 where
  pub place : ℕ
  pub end : ℕ
  pub known : entry ≡ Some (entry_at u place f)
  pub lies : FunctionLies u c function f body place end

abbrev pub KnowsBody : UnitParts → Program → (function : ℕ) → FunctionInfo → Option Body → Option Entry → Type 0
KnowsBody u c function f (Some body) entry = IsKnown u c function f body entry
KnowsBody u c function f None entry = entry ≡ None

abbrev pub Knows : UnitParts → Program → (function : ℕ) → Option FunctionInfo → Option Entry → Type 0
Knows u c function (Some f) entry = KnowsBody u c function f f.body entry
Knows u c function None entry = entry ≡ None

-- The code of each function stands at its entry, and jumps go on or back to loads of the halt word.
pub record Compiled (u : UnitParts) (c : Program) : Type 0 where
  pub statics : c.static_words ≡ length u.static_words
  pub functions : (function : ℕ) → Knows u c function (slice_get u.functions function) (entry_of c function)
  pub jumps : (at : ℕ) (i : Instruction) → Is c at i → GoesOn c.instructions at i
