-- Where the code of a tree stands: from a place of the instructions to the place behind it. Jumps go on, but for those of loops, which go back to
-- the load of the halt word that a turn begins with. So this tells the instructions of each form (this project's own rules).
use Rattle.std.specs.Prelude.{◌≡◌, ℕ, zero, suc, ◌+◌, ◌^◌, ◌≤◌, Bool, true, false, List, [], ◌∷◌, length, Option, Some, None, slice_get, slice_index}
use Rattle.arithmetic.specs.Operations.{operation_of_update}
use Rattle.arithmetic.specs.Values.{number}
use Rattle.core_unit.specs.Library.{row_type}
use Rattle.core_unit.specs.Places.{callee, Callee, Named, Row, Through}
use Rattle.core_unit.specs.Shapes.{callee_of, level_of}
use Rattle.core_unit.specs.Stores.{stores, Stored, Value as StoredValue, Byte, Zero as StoredZero, Undefined as StoredUndefined}
use Rattle.core_unit.specs.Typing.{type_of, place_type}
use Rattle.core_unit.specs.Words.{packed}
use Rattle.core_unit.specs.declared.body.Body.{Body}
use Rattle.core_unit.specs.declared.body.Initializer.{Initializer}
use Rattle.core_unit.specs.declared.body.LoopKind.TheVariants as loop_kind
use Rattle.core_unit.specs.declared.body.Stmt as stmt
use Rattle.core_unit.specs.declared.body.Stmt.{Stmt, Row_of-Stmt, end_of-Stmt, more_of-Stmt}
use Rattle.core_unit.specs.declared.expressions.Expr as expr
use Rattle.core_unit.specs.declared.expressions.Expr.{Expr, Row_of-Expr, end_of-Expr, more_of-Expr, end_of-Place, more_of-Place}
use Rattle.core_unit.specs.declared.expressions.Place as place
use Rattle.core_unit.specs.declared.expressions.Place.{Place}
use Rattle.core_unit.specs.declared.expressions.Storage.{Storage}
use Rattle.core_unit.specs.declared.expressions.Storage.TheVariants.{Automatic, Static, ThreadLocal}
use Rattle.core_unit.specs.declared.operators.BinaryOperator.TheVariants as binary
use Rattle.core_unit.specs.declared.operators.LogicalOperator.{LogicalOperator}
use Rattle.core_unit.specs.declared.operators.LogicalOperator.TheVariants as logical
use Rattle.core_unit.specs.declared.operators.Sign.TheVariants.{Signed}
use Rattle.core_unit.specs.declared.tables.FunctionInfo.{FunctionInfo}
use Rattle.core_unit.specs.declared.tables.UnitParts.{UnitParts}
use Rattle.core_unit.specs.declared.words.Word.TheVariants as word
use Rattle.eff_types.specs.declared.types.CType.{CType}
use Rattle.mcode.specs.Machine.{Program}
use Rattle.mcode.specs.declared.code.Instruction.{Instruction}
use Rattle.mcode.specs.declared.code.Instruction.TheVariants.{SetValue, SetLocal, SetThreadLocal, HoldValue, LoadAs, StoreAs, Change, Apply, Advance, StoreStep, Shift, Truth, GoTo, GoIfZero, GoIfNotZero, Fill, FillText, Put, Guard, CheckHalt, EnterFunction, EnterThrough, ReachFunction, Bind, Forget, CallRow, FallOff, LeaveFunction}
use Rattle.src_model.specs.Rules.{binary_operation, update_operation}
use Rattle.src_model.specs.Source.{count_of}
use Rattle.c_codegen.specs.Entries.{served}

-- the instruction at a place
abbrev pub Is : Program → (at : ℕ) → Instruction → Type 0
Is c at i = slice_get c.instructions at ≡ Some i

-- one instruction
abbrev pub One : Program → Instruction → (from to : ℕ) → Type 0
One c i from to = Is c from i × (suc from ≡ to)

-- Expressions.

-- the address of a variable
abbrev pub address_of : Storage → Instruction
address_of (Automatic offset) = SetLocal offset
address_of (Static address) = SetValue (word.DataPointer address)
address_of (ThreadLocal offset) = SetThreadLocal offset

-- where `&&` and `||` go on without their right operand
abbrev pub decides : LogicalOperator → (place : ℕ) → Instruction
decides logical.And place = GoIfZero place
decides logical.Or place = GoIfNotZero place

-- what `&&` and `||` do behind their left operand, where the right one stands so
abbrev pub Also : Program → LogicalOperator → (right : ℕ → ℕ → Type 0) → (from to : ℕ) → Type 0
Also c operator right from to = (truth : ℕ) × Is c from (decides operator truth) × right (suc from) truth × One c Truth truth to

-- one of two, by the value before them
abbrev pub Picks : Program → (a b : ℕ → ℕ → Type 0) → (from to : ℕ) → Type 0
Picks c a b from to = (over : ℕ) × Is c from (GoIfZero (suc over)) × a (suc from) over × Is c over (GoTo to) × b (suc over) to

-- how many arguments a call through a pointer of this type has
abbrev pub arguments_of : CType → ℕ
arguments_of t = count_of (callee_of t)

-- A call, where its callee and its arguments stand so.
abbrev pub Calls : Program → Callee → CType → (site : ℕ) → (called arguments : ℕ → ℕ → Type 0) → (from to : ℕ) → Type 0
Calls c (Named function) t site called arguments from to =
    (a b : ℕ) × arguments from a × One c CheckHalt a b × One c (EnterFunction function site) b to
Calls c (Row row) t site called arguments from to =
    (a b : ℕ) × arguments from a × One c CheckHalt a b × One c (CallRow row site (count_of (row_type row))) b to
Calls c (Through signature) t site called arguments from to =
    (p q a g h : ℕ) × called from p × One c HoldValue p q × arguments q a × One c (Guard (arguments_of t)) a g × One c CheckHalt g h
    × One c (EnterThrough (arguments_of t) site) h to

unfoldable mutual
  pub PlaceLies : UnitParts → Program → Place → (from to : ℕ) → Type 0
  PlaceLies u c (place.Variable at storage t) from to = One c (address_of storage) from to
  PlaceLies u c (place.Text at words) from to = One c (SetValue (word.DataPointer at)) from to
  PlaceLies u c (place.Indirection' _ (more_of-Expr e end_of-Expr) t) from to = Lies u c e from to
  PlaceLies u c (place.Arrow' _ (more_of-Expr e end_of-Expr) structure) from to = Lies u c e from to
  PlaceLies u c (place.Element' _ (more_of-Expr a end_of-Expr) _ (more_of-Expr b end_of-Expr) side words t) from to =
      (p q r : ℕ) × Lies u c a from p × One c HoldValue p q × Lies u c b q r × One c (Apply (binary_operation (binary.PointerPlus side words) a b)) r to
  PlaceLies u c (place.Member' _ (more_of-Place o end_of-Place) offset t) from to = (p : ℕ) × PlaceLies u c o from p × One c (Shift offset) p to

  pub Lies : UnitParts → Program → Expr → (from to : ℕ) → Type 0
  Lies u c (expr.Number sign bits) from to = One c (SetValue (number bits)) from to
  Lies u c expr.Null from to = One c (SetValue word.Zero) from to
  Lies u c (expr.Sizeof words) from to = One c (SetValue (number words)) from to
  Lies u c (expr.Function function t) from to = One c (SetValue (word.FunctionPointer function (level_of t))) from to
  Lies u c (expr.LibraryFunction row) from to = One c (SetValue word.Zero) from to
  Lies u c (expr.TargetFunction' _ (more_of-Expr e end_of-Expr)) from to = Lies u c e from to
  Lies u c (expr.FunctionPointer' _ (more_of-Expr e end_of-Expr)) from to = Lies u c e from to
  Lies u c (expr.ArrayPointer' _ (more_of-Place o end_of-Place)) from to = PlaceLies u c o from to
  Lies u c (expr.AddressOf' _ (more_of-Place o end_of-Place)) from to = PlaceLies u c o from to
  Lies u c (expr.Load' _ (more_of-Place o end_of-Place)) from to = (p : ℕ) × PlaceLies u c o from p × One c (LoadAs (served u (place_type o))) p to
  Lies u c (expr.Assign' _ (more_of-Place o end_of-Place) _ (more_of-Expr e end_of-Expr)) from to =
      (p q r : ℕ) × PlaceLies u c o from p × One c HoldValue p q × Lies u c e q r × One c (StoreAs (level_of (place_type o))) r to
  Lies u c (expr.Compound' _ (more_of-Place o end_of-Place) how _ (more_of-Expr e end_of-Expr)) from to =
      (p q r s t v : ℕ) × PlaceLies u c o from p × One c HoldValue p q × One c (LoadAs (served u (place_type o))) q r × One c HoldValue r s
      × Lies u c e s t × One c (Apply (update_operation how e)) t v × One c (StoreAs (level_of (place_type o))) v to
  Lies u c (expr.Step' _ (more_of-Place o end_of-Place) how which) from to =
      (p q r s t : ℕ) × PlaceLies u c o from p × One c HoldValue p q × One c (LoadAs (served u (place_type o))) q r × One c HoldValue r s
      × One c (Advance (operation_of_update how Signed)) s t × One c (StoreStep (level_of (place_type o)) which) t to
  Lies u c (expr.Unary' operator _ (more_of-Expr e end_of-Expr)) from to = (p : ℕ) × Lies u c e from p × One c (Change operator) p to
  Lies u c (expr.Binary' operator _ (more_of-Expr a end_of-Expr) _ (more_of-Expr b end_of-Expr)) from to =
      (p q r : ℕ) × Lies u c a from p × One c HoldValue p q × Lies u c b q r × One c (Apply (binary_operation operator a b)) r to
  Lies u c (expr.Logical' operator _ (more_of-Expr a end_of-Expr) _ (more_of-Expr b end_of-Expr)) from to =
      (p : ℕ) × Lies u c a from p × Also c operator (Lies u c b) p to
  Lies u c (expr.Conditional' _ (more_of-Expr t end_of-Expr) _ (more_of-Expr a end_of-Expr) _ (more_of-Expr b end_of-Expr)) from to =
      (p : ℕ) × Lies u c t from p × Picks c (Lies u c a) (Lies u c b) p to
  Lies u c (expr.Comma' _ (more_of-Expr a end_of-Expr) _ (more_of-Expr b end_of-Expr)) from to = (p : ℕ) × Lies u c a from p × Lies u c b p to
  Lies u c (expr.Call' at site _ (more_of-Expr e end_of-Expr) _ es) from to = Calls c (callee e) (type_of e) site (Lies u c e) (ArgumentsLie u c es) from to
  Lies u c (expr.Convert' why t _ (more_of-Expr e end_of-Expr)) from to = Lies u c e from to
  Lies u c (expr.Discard' _ (more_of-Expr e end_of-Expr)) from to = Lies u c e from to

  -- each argument is held
  pub ArgumentsLie : {n : _} → UnitParts → Program → Row_of-Expr n → (from to : ℕ) → Type 0
  ArgumentsLie u c end_of-Expr from to = from ≡ to
  ArgumentsLie u c (more_of-Expr e es) from to = (p q : ℕ) × Lies u c e from p × One c HoldValue p q × ArgumentsLie u c es q to

-- the same of a list
abbrev pub ListedLie : UnitParts → Program → List Expr → (from to : ℕ) → Type 0
ListedLie u c [] from to = from ≡ to
ListedLie u c (e ∷ es) from to = (p q : ℕ) × Lies u c e from p × One c HoldValue p q × ListedLie u c es q to

-- Block variables.

-- the word that is stored where no expression gives it
abbrev pub word_stored : Stored → Option ℕ
word_stored (StoredValue e) = None
word_stored (Byte byte) = Some (packed (number byte))
word_stored StoredZero = Some (packed word.Zero)
word_stored StoredUndefined = Some (packed word.Undefined)

-- of what is stored, the first so many words are this one, and then come the others
abbrev pub IsRun : (word : ℕ) → (count : ℕ) → (stored others : List Stored) → Type 0
IsRun word zero stored others = stored ≡ others
IsRun word (suc count) [] others = ⊥
IsRun word (suc count) (item ∷ stored) others = (word_stored item ≡ Some word) × IsRun word count stored others

-- They are these characters of the texts.
abbrev pub IsText : (texts : List ℕ) → (at count : ℕ) → (stored others : List Stored) → Type 0
IsText texts at zero stored others = stored ≡ others
IsText texts at (suc count) [] others = ⊥
IsText texts at (suc count) (item ∷ stored) others = (item ≡ Byte (slice_index texts at)) × IsText texts (suc at) count stored others

-- characters begin at most here, so that their places can be told
abbrev pub text_limit : ℕ
text_limit = 2 ^ 31

-- The words of a block variable are stored from an offset of the frame on: values one by one, equal words and characters together.
pub data Filled (u : UnitParts) (c : Program) : (offset : ℕ) → List Stored → (from to : ℕ) → Type 0 where
  nothing : (offset at : ℕ) → Filled u c offset [] at at
  value : (offset : ℕ) (e : Expr) (stored : List Stored) (from p q to : ℕ) → Lies u c e from p → One c (Put offset (level_of (type_of e))) p q
      → Filled u c (suc offset) stored q to → Filled u c offset (StoredValue e ∷ stored) from to
  words : (offset word count : ℕ) (stored others : List Stored) (from p to : ℕ) → One c (Fill offset word count) from p → IsRun word count stored others
      → Filled u c (offset + count) others p to → Filled u c offset stored from to
  characters : (offset at count : ℕ) (stored others : List Stored) (from p to : ℕ) → at ≤ text_limit → One c (FillText offset at count) from p → IsText c.texts at count stored others
      → Filled u c (offset + count) others p to → Filled u c offset stored from to

abbrev pub VariableLies : UnitParts → Program → Storage → Initializer → (from to : ℕ) → Type 0
VariableLies u c (Automatic offset) initializer from to = Filled u c offset (stores initializer) from to
VariableLies u c _ initializer from to = from ≡ to

-- Statements. A `break` in them goes to the place `out`, and a `continue` to the place `back`.

-- where a statement stands: by `out`, `back`, and from where to where
abbrev pub Standing : Type 1
Standing = (out back from to : ℕ) → Type 0

-- what stands behind the condition of `if`
abbrev pub Branches : {n : _} → Program → (item : ℕ → ℕ → Type 0) → Row_of-Stmt n → (other : ℕ → ℕ → Type 0) → (from to : ℕ) → Type 0
Branches c item end_of-Stmt other from to = Is c from (GoIfZero to) × item (suc from) to
Branches c item (more_of-Stmt s ss) other from to = Picks c item other from to

-- Loops: where a turn begins, where its condition decides, where its body ends, and what is behind.
abbrev pub WhileLies : Program → (test : ℕ → ℕ → Type 0) → (body : Standing) → (top decision back out : ℕ) → Type 0
WhileLies c test body top decision back out =
    Is c top CheckHalt × test (suc top) decision × Is c decision (GoIfZero out) × body out back (suc decision) back × One c (GoTo top) back out

abbrev pub DoLies : Program → (test : ℕ → ℕ → Type 0) → (body : Standing) → (top decision back out : ℕ) → Type 0
DoLies c test body top decision back out =
    Is c top CheckHalt × body out back (suc top) back × test back decision × One c (GoIfNotZero top) decision out

abbrev pub TestLies : UnitParts → Program → Option Expr → (decision out from to : ℕ) → Type 0
TestLies u c None decision out from to = from ≡ to
TestLies u c (Some e) decision out from to = Lies u c e from decision × One c (GoIfZero out) decision to

abbrev pub OptionalLies : UnitParts → Program → Option Expr → (from to : ℕ) → Type 0
OptionalLies u c None from to = from ≡ to
OptionalLies u c (Some e) from to = Lies u c e from to

abbrev pub ForLies : UnitParts → Program → (test step : Option Expr) → (body : Standing) → (top decision back out : ℕ) → Type 0
ForLies u c test step body top decision back out =
    (begin last : ℕ) × Is c top CheckHalt × TestLies u c test decision out (suc top) begin × body out back begin back × OptionalLies u c step back last
    × One c (GoTo top) last out

unfoldable mutual
  pub Stands : UnitParts → Program → Stmt → Standing
  Stands u c (stmt.Block' _ items) out back from to = AllStand u c items out back from to
  Stands u c (stmt.Variable v) out back from to = VariableLies u c v.storage v.initializer from to
  Stands u c stmt.Empty out back from to = from ≡ to
  Stands u c (stmt.Expression e) out back from to = Lies u c e from to
  Stands u c (stmt.If' e _ (more_of-Stmt item end_of-Stmt) _ other) out back from to =
      (p : ℕ) × Lies u c e from p × Branches c (Stands u c item out back) other (AllStand u c other out back) p to
  Stands u c (stmt.Loop' loop_kind.While e _ (more_of-Stmt body end_of-Stmt)) out back from to =
      (decision again : ℕ) × WhileLies c (Lies u c e) (Stands u c body) from decision again to
  Stands u c (stmt.Loop' loop_kind.DoWhile e _ (more_of-Stmt body end_of-Stmt)) out back from to =
      (decision again : ℕ) × DoLies c (Lies u c e) (Stands u c body) from decision again to
  Stands u c (stmt.For' _ start test step _ (more_of-Stmt body end_of-Stmt)) out back from to =
      (top decision again : ℕ) × AllStand u c start out back from top × ForLies u c test step (Stands u c body) top decision again to
  Stands u c stmt.Break out back from to = One c (GoTo out) from to
  Stands u c stmt.Continue out back from to = One c (GoTo back) from to
  Stands u c (stmt.Return (Some e)) out back from to = (p : ℕ) × Lies u c e from p × One c LeaveFunction p to
  Stands u c (stmt.Return None) out back from to = (p : ℕ) × One c (SetValue word.Zero) from p × One c LeaveFunction p to

  pub AllStand : {n : _} → UnitParts → Program → Row_of-Stmt n → Standing
  AllStand u c end_of-Stmt out back from to = from ≡ to
  AllStand u c (more_of-Stmt item items) out back from to = (p : ℕ) × Stands u c item out back from p × AllStand u c items out back p to

-- the same of a list
abbrev pub ListStands : UnitParts → Program → List Stmt → Standing
ListStands u c [] out back from to = from ≡ to
ListStands u c (item ∷ items) out back from to = (p : ℕ) × Stands u c item out back from p × ListStands u c items out back p to

-- Functions.

-- parameters of these types are stored, from this offset of the frame on
abbrev pub Binds : Program → (offset : ℕ) → List CType → (from to : ℕ) → Type 0
Binds c offset [] from to = from ≡ to
Binds c offset (t ∷ ts) from to = (p : ℕ) × One c (Bind offset (length ts) (level_of t)) from p × Binds c (suc offset) ts p to

-- a blocking function is reached when it was entered
abbrev pub Meets : Program → Bool → (function : ℕ) → (from to : ℕ) → Type 0
Meets c true function from to = One c (ReachFunction function) from to
Meets c false function from to = from ≡ to

-- the code of a function: its parameters, its body, and the end of that
abbrev pub FunctionLies : UnitParts → Program → (function : ℕ) → FunctionInfo → Body → (from to : ℕ) → Type 0
FunctionLies u c function f body from to =
    (p q r end leave : ℕ) × Meets c f.kind.effects.no_block_inference function from p × Binds c 0 f.kind.params p q × One c (Forget (length f.kind.params)) q r
    × ListStands u c body.items end end r end × One c FallOff end leave × One c LeaveFunction leave to
