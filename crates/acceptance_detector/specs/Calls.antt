-- The unit of a small source whose functions call one another, the last one the second, and that the first:
--   void LOW(void) [[clang::blocking]] { }
--   void f(void) [[clang::nonblocking]] { LOW(); }
--   void ROOT(void) { f(); }
use Rattle.std.specs.Prelude.{ℕ, true, false, List, [], ◌∷◌, Some, codes}
use Rattle.eff_types.specs.Effects.{plain}
use Rattle.eff_types.specs.declared.levels.Effects.{Effects}
use Rattle.eff_types.specs.declared.levels.Level.TheVariants.{Plain, NonBlocking}
use Rattle.eff_types.specs.declared.types.CType.{Void}
use Rattle.eff_types.specs.declared.types.CType.TheVariants.{Function}
use Rattle.eff_types.specs.declared.types.FnType.{FnType}
use Rattle.core_unit.specs.declared.body.Stmt.{Stmt}
use Rattle.core_unit.specs.declared.body.Stmt.TheVariants as stmt
use Rattle.core_unit.specs.declared.expressions.Expr.TheVariants as expr
use Rattle.core_unit.specs.declared.tables.FunctionInfo.{FunctionInfo}
use Rattle.core_unit.specs.declared.tables.SiteInfo.{SiteInfo}
use Rattle.core_unit.specs.declared.tables.UnitParts.{UnitParts}

abbrev pub blocking : Effects
blocking = record { level = Plain; no_block_inference = true; no_alloc_inference = false }

abbrev pub nonblocking : Effects
nonblocking = record { level = NonBlocking; no_block_inference = false; no_alloc_inference = false }

-- `void (void)`
abbrev pub bare : Effects → FnType
bare effects = record { result = Void; params = []; effects = effects }

-- a call of the function with this number, as a statement
abbrev pub calls : (place site number : ℕ) → Effects → Stmt
calls place site number effects = stmt.Expression (expr.Call place site (expr.Function number (Function (bare effects))) [])

abbrev pub function : List ℕ → Effects → List Stmt → FunctionInfo
function name effects items = record {
  name = name;
  kind = bare effects;
  noreturn = false;
  internal = false;
  place = 0;
  body = Some (record { items = items });
  frame_words = 0;
}

abbrev pub functions : (low root : List ℕ) (inner outer : ℕ) → List FunctionInfo
functions low root inner outer =
    function low blocking []
    ∷ function (codes "f") nonblocking (calls inner 1 0 blocking ∷ [])
    ∷ function root plain (calls outer 2 1 nonblocking ∷ [])
    ∷ []

abbrev pub sites : (inner outer : ℕ) → List SiteInfo
sites inner outer = record { function = 1; place = inner; direct = Some 0 } ∷ record { function = 2; place = outer; direct = Some 1 } ∷ []

-- the names of the first and the last function, and the places of the calls
abbrev pub calling : (low root : List ℕ) (inner outer : ℕ) → UnitParts
calling low root inner outer = record {
  functions = functions low root inner outer;
  definitions = 0 ∷ 1 ∷ 2 ∷ [];
  sites = sites inner outer;
  variables = [];
  structures = [];
  statics = [];
  thread_locals = [];
  static_words = [];
  thread_words = [];
}
