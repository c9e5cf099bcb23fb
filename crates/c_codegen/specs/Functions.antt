-- What is appended for the functions of a unit, one after another.
use Rattle.std.specs.Prelude.{◌≡◌, ℕ, zero, suc, List, Option, Some, None, slice_get}
use Rattle.core_unit.specs.declared.tables.FunctionInfo.{FunctionInfo}
use Rattle.core_unit.specs.declared.tables.UnitParts.{UnitParts}
use Rattle.mcode.specs.declared.code.Entry.{Entry}
use Rattle.c_codegen.specs.declared.draft.Draft.{Draft}
use Rattle.c_codegen.specs.Emits.{AddsFunction}

-- for the function of a number, which there is
abbrev pub AddsListed : UnitParts → (number : ℕ) → Option FunctionInfo → (old new : Draft) → (entries more : List (Option Entry)) → Type 0
AddsListed u number (Some f) old new entries more = AddsFunction u number f f.body old new entries more
AddsListed u number None old new entries more = ⊥

-- for so many functions, from the first one on
unfoldable pub AddsFunctions : UnitParts → (count : ℕ) → (old new : Draft) → (entries more : List (Option Entry)) → Type 0
AddsFunctions u zero old new entries more = (new ≡ old) × (more ≡ entries)
AddsFunctions u (suc count) old new entries more =
    (d : Draft) × (known : List (Option Entry)) × AddsFunctions u count old d entries known
    × AddsListed u count (slice_get u.functions count) d new known more
