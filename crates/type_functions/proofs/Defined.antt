-- What the state keeps of a definition is what the rule notes.
use Rattle.std.proofs.Common.{◌≡◌, ℕ, List, Option, Some, None, refl}
use Rattle.std.specs.Prelude.{slice_get}
use Rattle.core_unit.specs.declared.body.Stmt.{Stmt}
use Rattle.core_unit.specs.declared.tables.FunctionInfo.{FunctionInfo}
use Rattle.type_rules.specs.Functions.{with_body}
use Rattle.type_rules.specs.Reading.{Good}
use Rattle.type_rules.specs.Seen.{Seen}
use Rattle.typing_state.specs.Functions.{changed_at, with_set, defined}

pub with_body_is : (s : Seen) (number frame : ℕ) (items : List Stmt) →
    with_body (slice_get s.functions number) number items frame s ≡ Good tt (record s { functions = changed_at (defined (record { items = items }) frame) number s.functions })
with_body_is s number frame items = of (slice_get s.functions number)
  where
    of : (f : Option FunctionInfo) →
        with_body f number items frame s ≡ Good tt (record s { functions = with_set (defined (record { items = items }) frame) number s.functions f })
    of (Some f) = refl
    of None = refl
