-- Calls (C17 6.5.2.2), and how their sites are numbered.
use Rattle.std.specs.Prelude.{ℕ, ◌+◌, not, ◌==◌, if◌then◌else◌, List, [], ◌∷◌, length, Option, Some, None}
use Rattle.eff_types.specs.Types.{is_function}
use Rattle.eff_types.specs.declared.types.CType.{CType}
use Rattle.eff_types.specs.declared.types.FnType.{FnType}
use Rattle.c_tree.specs.declared.expressions.Expr as tree
use Rattle.c_tree.specs.declared.expressions.Expr.{Row_of-Expr, end_of-Expr, more_of-Expr}
use Rattle.core_unit.specs.Typing.{called_as}
use Rattle.core_unit.specs.declared.expressions.Expr.{Expr}
use Rattle.core_unit.specs.declared.expressions.Expr.TheVariants as expr
use Rattle.type_rules.specs.Conversions.{converted}
use Rattle.type_rules.specs.declared.found.Found.{Found}
use Rattle.type_rules.specs.declared.found.Form.{Form}
use Rattle.type_rules.specs.declared.found.Form.TheVariants.{Lvalue, Value}
use Rattle.type_rules.specs.declared.found.Operand.{Operand}
use Rattle.type_rules.specs.Operands.{operand_of, as_value, found_value, is_whole}
use Rattle.type_rules.specs.Reading.{Rule, gives, fails, refused, ◌>>=◌, ◌>>◌}

-- The calls at whose first token an expression begins. Sites are numbered in the order of the first tokens of the calls, and of two calls that
-- begin at one token the inner one comes first (this project's own rule). So the calls at the beginning of an expression have the next numbers,
-- before all others in it.
unfoldable pub spine : tree.Expr → ℕ
spine (tree.Call' _ _ (more_of-Expr callee end_of-Expr) _ arguments) = spine callee + 1
spine (tree.Index' _ _ (more_of-Expr a end_of-Expr) _ i) = spine a
spine (tree.Access' _ _ (more_of-Expr e end_of-Expr) operator name) = spine e
spine (tree.Step' _ _ (more_of-Expr e end_of-Expr) operator) = spine e
spine (tree.Binary' _ _ (more_of-Expr a end_of-Expr) operator at _ b) = spine a
spine (tree.Conditional' _ _ (more_of-Expr c end_of-Expr) _ a _ b) = spine c
spine (tree.Assignment' _ _ (more_of-Expr a end_of-Expr) operator at _ b) = spine a
spine _ = 0

-- an expression that begins where none around it does: the next numbers are those of the calls at its beginning
unfoldable pub fresh : ℕ → (ℕ → Rule Found) → Rule Found
fresh calls expression = λ s. expression s.sites (record s { sites = s.sites + calls })

-- A function that is called stays one (C17 6.5.2.2; that no pointer is made of it is this project's own rule).
unfoldable pub callee_in : ℕ → CType → Form → Found → Operand
callee_in place kind (Value node) f = if is_function kind then operand_of place kind node else as_value f
callee_in place kind (Lvalue object) f = as_value f

abbrev pub as_callee : Found → Rule Operand
as_callee f = do
  refused (is_whole f.kind) 3 f.place
  gives (callee_in f.place f.kind f.form f)

unfoldable pub callee : Rule Found → Rule Operand
callee expression = do
  f ← expression
  as_callee f

-- the arguments, each in the type of its parameter, from the left
unfoldable pub passed : List CType → List Operand → Rule (List Expr)
passed (t ∷ ts) (o ∷ os) = do
  v ← converted t o
  vs ← passed ts os
  gives (v.node ∷ vs)
passed _ _ = gives []

-- All arguments are typed; then it is asked whether a function is called, how many arguments it takes, and of each its conversion.
abbrev pub called_by : ℕ → ℕ → Expr → List Operand → Option FnType → Rule Found
called_by place site function given (Some t) = do
  refused (not (length t.params == length given)) 5 place
  arguments ← passed t.params given
  gives (found_value place t.result (expr.Call place site function arguments))
called_by place site function given None = fails 3 place

abbrev pub called : ℕ → ℕ → Operand → List Operand → Rule Found
called place site f given = called_by place site f.node given (called_as f.node f.kind)

unfoldable pub call : ℕ → ℕ → Rule Found → Rule (List Operand) → Rule Found
call place site function arguments = do
  f ← callee function
  given ← arguments
  called place site f given
