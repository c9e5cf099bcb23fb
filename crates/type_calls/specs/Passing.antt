-- Arguments, one by one (C17 6.5.2.2).
use Rattle.std.specs.Prelude.{List, [], ◌∷◌, ◌++◌}
use Rattle.eff_types.specs.declared.types.CType.{CType}
use Rattle.core_unit.specs.declared.expressions.Expr.{Expr}
use Rattle.type_rules.specs.Conversions.{converted}
use Rattle.type_rules.specs.Reading.{Rule, gives, ◌>>=◌}
use Rattle.type_rules.specs.declared.found.Operand.{Operand}

-- one in the type of its parameter, behind those before it
abbrev pub passed_behind : List Expr → CType → Operand → Rule (List Expr)
passed_behind before t o = do
  v ← converted t o
  gives (before ++ v.node ∷ [])
