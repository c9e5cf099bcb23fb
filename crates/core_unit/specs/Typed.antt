-- What is true of each expression, statement and initializer of a unit: it is typed (C17 6.5, 6.7.9 and 6.8), its numbers are in range, and
-- each conversion is a node.
use Rattle.std.specs.Prelude.{◌≡◌, ℕ, ◌+◌, ◌<◌, ◌^◌, Bool, true, false, not, ◌&&◌, ◌||◌, nat_eq, List, [], ◌∷◌, length, take, replicate, slice_get, Option, Some, None, All}
use Rattle.eff_types.specs.Laws.{IsAtMost}
use Rattle.eff_types.specs.Types.{is_number, is_void, is_function, is_function_pointer, is_data_pointer, is_void_pointer, same, same_outside}
use Rattle.eff_types.specs.declared.types.CType.{CType, Void, Char, Mutex, Struct, Array', end_of-CType, more_of-CType}
use Rattle.eff_types.specs.declared.types.FnType.{FnType}
use Rattle.core_unit.specs.Layout.{words_of, members_words}
use Rattle.core_unit.specs.Library.{row_types}
use Rattle.core_unit.specs.Shapes.{function_in, target_of, array_of, is_array, is_unsized, is_pointer, is_scalar, is_promoted, is_object_pointer, is_aggregate, pointer_to, number_type, sign_of}
use Rattle.core_unit.specs.Stores.{stores}
use Rattle.core_unit.specs.Structures.{IsWithin, member_types}
use Rattle.core_unit.specs.Typing.{type_of, place_type, called_as, on_side}
use Rattle.core_unit.specs.declared.body.Braces.{Braces}
use Rattle.core_unit.specs.declared.body.Braces.TheVariants.{Bare, Braced}
use Rattle.core_unit.specs.declared.body.Initializer as init
use Rattle.core_unit.specs.declared.body.Initializer.{Initializer, Row_of-Initializer, end_of-Initializer, more_of-Initializer}
use Rattle.core_unit.specs.declared.body.LocalVariable.{LocalVariable}
use Rattle.core_unit.specs.declared.body.Stmt as stmt
use Rattle.core_unit.specs.declared.body.Stmt.{Stmt, Row_of-Stmt, end_of-Stmt, more_of-Stmt}
use Rattle.core_unit.specs.declared.expressions.Expr as expr
use Rattle.core_unit.specs.declared.expressions.Expr.{Expr, Row_of-Expr, end_of-Expr, more_of-Expr, Row_of-Place, end_of-Place, more_of-Place}
use Rattle.core_unit.specs.declared.expressions.Place as place
use Rattle.core_unit.specs.declared.expressions.Place.{Place}
use Rattle.core_unit.specs.declared.expressions.Storage.{Storage}
use Rattle.core_unit.specs.declared.expressions.Storage.TheVariants.{Automatic, Static, ThreadLocal}
use Rattle.core_unit.specs.declared.operators.ArithmeticOperator.{ArithmeticOperator}
use Rattle.core_unit.specs.declared.operators.ArithmeticOperator.TheVariants.{Add, Subtract, LeftShift, RightShift}
use Rattle.core_unit.specs.declared.operators.BinaryOperator.{BinaryOperator}
use Rattle.core_unit.specs.declared.operators.BinaryOperator.TheVariants as binary
use Rattle.core_unit.specs.declared.operators.Cause.{Cause}
use Rattle.core_unit.specs.declared.operators.Cause.TheVariants as cause
use Rattle.core_unit.specs.declared.operators.Comparands.{Comparands}
use Rattle.core_unit.specs.declared.operators.Comparands.TheVariants as comparands
use Rattle.core_unit.specs.declared.operators.ComparisonOperator.{ComparisonOperator}
use Rattle.core_unit.specs.declared.operators.ComparisonOperator.TheVariants.{Equal, NotEqual}
use Rattle.core_unit.specs.declared.operators.PointerSide.{PointerSide}
use Rattle.core_unit.specs.declared.operators.Sign.{Sign}
use Rattle.core_unit.specs.declared.operators.Sign.TheVariants.{Signed, Unsigned as Without}
use Rattle.core_unit.specs.declared.operators.UnaryOperator.{UnaryOperator}
use Rattle.core_unit.specs.declared.operators.UnaryOperator.TheVariants as unary
use Rattle.core_unit.specs.declared.operators.Update.{Update}
use Rattle.core_unit.specs.declared.operators.Update.TheVariants as update
use Rattle.core_unit.specs.declared.tables.FunctionInfo.{FunctionInfo}
use Rattle.core_unit.specs.declared.tables.MemberInfo.{MemberInfo}
use Rattle.core_unit.specs.declared.tables.Object.{Object}
use Rattle.core_unit.specs.declared.tables.StructInfo.{StructInfo}

-- what the trees of one function are read with
pub record Tables : Type 0 where
  pub functions : List FunctionInfo
  pub structures : List StructInfo
  pub statics : List Object
  pub thread_locals : List Object
  pub frame : List Object

-- An object stands there, with so many words, at least one.
pub record IsObject (objects : List Object) (at words : ℕ) : Type 0 where
  pub index : ℕ
  pub object : Object
  pub known : slice_get objects index ≡ Some object
  pub begins : object.at ≡ at
  pub long : object.words ≡ words
  pub some : 0 < words

abbrev pub objects_of : Tables → Storage → List Object
objects_of u (Automatic offset) = u.frame
objects_of u (Static address) = u.statics
objects_of u (ThreadLocal offset) = u.thread_locals

abbrev pub where_in : Storage → ℕ
where_in (Automatic offset) = offset
where_in (Static address) = address
where_in (ThreadLocal offset) = offset

-- A variable of this type is kept there, in an object of its words. The type speaks of structures of the table. An array that has no size yet,
-- as inside its own initializer, is kept in the object that it is to have (C17 6.7.9).
pub record IsKept (u : Tables) (storage : Storage) (t : CType) : Type 0 where
  pub within : IsWithin (length u.structures) t
  pub words : ℕ
  pub there : IsObject (objects_of u storage) (where_in storage) words
  pub long : is_unsized t ≡ false → words ≡ words_of u.structures t

-- The name of a function with this static type: the function's own type, but that the level of the name is at most the function's, and that its
-- flags are free.
pub record IsNamed (functions : List FunctionInfo) (f : ℕ) (t : CType) : Type 0 where
  pub info : FunctionInfo
  pub static : FnType
  pub known : slice_get functions f ≡ Some info
  pub function : function_in t ≡ Some static
  pub result : static.result ≡ info.kind.result
  pub params : static.params ≡ info.kind.params
  pub level : IsAtMost static.effects.level info.kind.effects.level

-- A structure of this type has a member of the type at the offset.
pub record IsMember (structures : List StructInfo) (whole : CType) (offset : ℕ) (t : CType) : Type 0 where
  pub number : ℕ
  pub info : StructInfo
  pub members : List MemberInfo
  pub index : ℕ
  pub member : MemberInfo
  pub structure : whole ≡ Struct number
  pub known : slice_get structures number ≡ Some info
  pub complete : info.members ≡ Some members
  pub there : slice_get members index ≡ Some member
  pub kind : member.kind ≡ t
  pub after : offset ≡ members_words structures (take index members)

abbrev pub are_numbers : CType → CType → Bool
are_numbers from to = is_number from && is_number to

abbrev pub are_data_pointers : CType → CType → Bool
are_data_pointers from to = is_data_pointer from && is_data_pointer to

-- pointers to functions of one type up to outer effects
abbrev pub are_function_pointers : CType → CType → Bool
are_function_pointers from to = is_function_pointer from && is_function_pointer to && same_outside from to

-- A value of one scalar type takes another one (C17 6.3 and 6.5.4): without a cast a different one, and of two data pointers one points to `void`.
-- A null pointer constant is a conversion of its own where no other gives the pointer: from a number, or to a pointer to a function. All this
-- stays true where structures of several units become one; what a single file may convert is told exactly by its typing.
abbrev pub is_conversion : Cause → CType → CType → Bool
is_conversion cause.Implicit from to =
    (are_numbers from to || are_function_pointers from to || (are_data_pointers from to && (is_void_pointer from || is_void_pointer to)))
    && not (same from to)
is_conversion cause.Cast from to = are_numbers from to || are_function_pointers from to || are_data_pointers from to
is_conversion cause.Null from to = (is_number from && is_pointer to) || (is_void_pointer from && is_function_pointer to)

abbrev pub is_shift : ArithmeticOperator → Bool
is_shift LeftShift = true
is_shift RightShift = true
is_shift _ = false

-- the operands of arithmetic in this sign; the count of a shift has any promoted type (C17 6.5.7)
abbrev pub IsOperandPair : Bool → Sign → CType → CType → Type 0
IsOperandPair true sign t u = (t ≡ number_type sign) × (is_promoted u ≡ true)
IsOperandPair false sign t u = (t ≡ number_type sign) × (u ≡ number_type sign)

-- A pointer to an object of this many words, at least one.
abbrev pub PointsOver : List StructInfo → CType → ℕ → Type 0
PointsOver structures pointer words = (is_object_pointer pointer ≡ true) × (words ≡ words_of structures (target_of pointer)) × (0 < words)

-- A pointer moves over objects of this many words, by a number.
abbrev pub IsMoved : List StructInfo → CType → CType → ℕ → Type 0
IsMoved structures pointer number words = PointsOver structures pointer words × (is_promoted number ≡ true)

abbrev pub other_side : {A : Type 0} → PointerSide → A → A → A
other_side side a b = on_side side b a

abbrev pub is_equality : ComparisonOperator → Bool
is_equality Equal = true
is_equality NotEqual = true
is_equality _ = false

-- What is compared (C17 6.5.8 and 6.5.9): numbers of one sign, data pointers of one type, or, for equality, pointers to functions of one type up
-- to outer effects.
abbrev pub IsCompared : ComparisonOperator → Comparands → CType → CType → Type 0
IsCompared operator (comparands.Numbers sign) t u = (t ≡ number_type sign) × (u ≡ number_type sign)
IsCompared operator comparands.DataPointers t u = (is_data_pointer t ≡ true) × (t ≡ u)
IsCompared operator comparands.FunctionPointers t u =
    (is_equality operator ≡ true) × (is_function_pointer t ≡ true) × (is_function_pointer u ≡ true) × (same_outside t u ≡ true)

-- An operator fits the types of its operands (C17 6.5.5 to 6.5.12).
abbrev pub IsBinary : List StructInfo → BinaryOperator → CType → CType → Type 0
IsBinary structures (binary.Arithmetic operator sign) t u = IsOperandPair (is_shift operator) sign t u
IsBinary structures (binary.PointerPlus side words) t u = IsMoved structures (on_side side t u) (other_side side t u) words
IsBinary structures (binary.PointerMinus words) t u = IsMoved structures t u words
IsBinary structures (binary.Difference words) t u = PointsOver structures t words × (t ≡ u)
IsBinary structures (binary.Compare operator what) t u = IsCompared operator what t u

-- the scalars that `!`, `&&` and `||` ask: promoted numbers and pointers
abbrev pub is_asked : CType → Bool
is_asked t = is_promoted t || is_pointer t

abbrev pub IsUnary : UnaryOperator → CType → Type 0
IsUnary (unary.Plus sign) t = t ≡ number_type sign
IsUnary (unary.Minus sign) t = t ≡ number_type sign
IsUnary (unary.Complement sign) t = t ≡ number_type sign
IsUnary unary.Not t = is_asked t ≡ true

-- the sign that two promoted numbers have in common (C17 6.3.1.8)
abbrev pub common : Sign → Sign → Sign
common Without _ = Without
common Signed sign = sign

-- An operation on the old value of a place of this type, in this sign: for a shift it is the sign of the value.
abbrev pub IsUpdatePair : Bool → Sign → CType → CType → Type 0
IsUpdatePair true sign t u = (sign ≡ sign_of t) × (is_promoted u ≡ true)
IsUpdatePair false sign t u = (common (sign_of t) sign ≡ sign) × (u ≡ number_type sign)

-- A compound assignment with an operand that has its type already (C17 6.5.16.2).
abbrev pub IsUpdate : List StructInfo → Update → CType → CType → Type 0
IsUpdate structures (update.Arithmetic operator sign) t u =
    (is_number t ≡ true) × IsUpdatePair (is_shift operator) sign t u
IsUpdate structures (update.Forward words) t u = IsMoved structures t u words
IsUpdate structures (update.Backward words) t u = IsMoved structures t u words

abbrev pub is_step : ArithmeticOperator → Bool
is_step Add = true
is_step Subtract = true
is_step _ = false

-- `++` and `--` (C17 6.5.2.4 and 6.5.3.1): of a number in its own sign, of a pointer by one object.
abbrev pub IsStep : List StructInfo → Update → CType → Type 0
IsStep structures (update.Arithmetic operator sign) t = (is_step operator ≡ true) × (is_number t ≡ true) × (sign ≡ sign_of t)
IsStep structures (update.Forward words) t = PointsOver structures t words
IsStep structures (update.Backward words) t = PointsOver structures t words

-- what a function is called with
abbrev pub IsCalled : Option FnType → (List CType → Type 0) → Type 0
IsCalled (Some f) arguments = arguments f.params
IsCalled None arguments = ⊥

-- The callee of a call: the name of a library function, which stands nowhere else, or an expression.
abbrev pub IsCallee : Expr → Type 0 → Type 0
IsCallee (expr.LibraryFunction row) typed = row < length row_types
IsCallee _ typed = typed

-- what `->` points at, which stands in a member alone
abbrev pub is_arrow : Place → Bool
is_arrow (place.Arrow' _ _ _) = true
is_arrow _ = false

-- A value or nothing: a function that is used as a value has become a pointer (C17 6.3.2.1).
abbrev pub is_value : CType → Bool
is_value t = not (is_function t)

unfoldable mutual
  pub IsTypedPlace : Tables → Place → Type 0
  IsTypedPlace u (place.Variable at storage t) = IsKept u storage t
  IsTypedPlace u (place.Text at words) = IsObject u.statics at words
  IsTypedPlace u (place.Indirection' _ (more_of-Expr e end_of-Expr) t) =
      IsTyped u e × (is_object_pointer (type_of e) ≡ true) × (t ≡ target_of (type_of e))
  IsTypedPlace u (place.Arrow' _ (more_of-Expr e end_of-Expr) k) = IsTyped u e × (type_of e ≡ pointer_to (Struct k))
  IsTypedPlace u (place.Element' _ (more_of-Expr a end_of-Expr) _ (more_of-Expr b end_of-Expr) side words t) =
      IsTyped u a × IsTyped u b × IsMoved u.structures (on_side side (type_of a) (type_of b)) (other_side side (type_of a) (type_of b)) words
      × (t ≡ target_of (on_side side (type_of a) (type_of b)))
  IsTypedPlace u (place.Member' _ (more_of-Place p end_of-Place) offset t) = IsTypedPlace u p × IsMember u.structures (place_type p) offset t

  pub IsTyped : Tables → Expr → Type 0
  IsTyped u (expr.Number sign bits) = bits < 2 ^ 32
  IsTyped u expr.Null = Unit {0}
  IsTyped u (expr.Sizeof words) = words < 2 ^ 32
  IsTyped u (expr.Function f t) = IsNamed u.functions f t
  IsTyped u (expr.LibraryFunction row) = ⊥
  IsTyped u (expr.TargetFunction' _ (more_of-Expr e end_of-Expr)) = IsTyped u e × (is_function_pointer (type_of e) ≡ true)
  IsTyped u (expr.FunctionPointer' _ (more_of-Expr e end_of-Expr)) = IsTyped u e × (is_function (type_of e) ≡ true)
  IsTyped u (expr.ArrayPointer' _ (more_of-Place p end_of-Place)) = IsTypedPlace u p × (is_array (place_type p) ≡ true)
  IsTyped u (expr.AddressOf' _ (more_of-Place p end_of-Place)) = IsTypedPlace u p × (is_arrow p ≡ false)
  IsTyped u (expr.Load' _ (more_of-Place p end_of-Place)) = IsTypedPlace u p × (is_scalar (place_type p) ≡ true)
  IsTyped u (expr.Assign' _ (more_of-Place p end_of-Place) _ (more_of-Expr e end_of-Expr)) =
      IsTypedPlace u p × (is_scalar (place_type p) ≡ true) × IsTyped u e × (type_of e ≡ place_type p)
  IsTyped u (expr.Compound' _ (more_of-Place p end_of-Place) how _ (more_of-Expr e end_of-Expr)) =
      IsTypedPlace u p × IsTyped u e × IsUpdate u.structures how (place_type p) (type_of e)
  IsTyped u (expr.Step' _ (more_of-Place p end_of-Place) how value) = IsTypedPlace u p × IsStep u.structures how (place_type p)
  IsTyped u (expr.Unary' operator _ (more_of-Expr e end_of-Expr)) = IsTyped u e × IsUnary operator (type_of e)
  IsTyped u (expr.Binary' operator _ (more_of-Expr a end_of-Expr) _ (more_of-Expr b end_of-Expr)) =
      IsTyped u a × IsTyped u b × IsBinary u.structures operator (type_of a) (type_of b)
  IsTyped u (expr.Logical' operator _ (more_of-Expr a end_of-Expr) _ (more_of-Expr b end_of-Expr)) =
      IsTyped u a × IsTyped u b × (is_asked (type_of a) ≡ true) × (is_asked (type_of b) ≡ true)
  IsTyped u (expr.Conditional' _ (more_of-Expr c end_of-Expr) _ (more_of-Expr a end_of-Expr) _ (more_of-Expr b end_of-Expr)) =
      IsTyped u c × (is_scalar (type_of c) ≡ true) × IsTyped u a × IsTyped u b × (type_of a ≡ type_of b) × (is_value (type_of a) ≡ true)
  IsTyped u (expr.Comma' _ (more_of-Expr a end_of-Expr) _ (more_of-Expr b end_of-Expr)) =
      IsTyped u a × IsTyped u b × (is_value (type_of a) ≡ true) × (is_value (type_of b) ≡ true)
  IsTyped u (expr.Call' at site _ (more_of-Expr c end_of-Expr) _ arguments) =
      IsCallee c (IsTyped u c) × IsCalled (called_as c (type_of c)) (λ params. AreTyped u arguments params)
  IsTyped u (expr.Convert' why t _ (more_of-Expr e end_of-Expr)) =
      IsTyped u e × IsWithin (length u.structures) t × (is_conversion why (type_of e) t ≡ true)
  IsTyped u (expr.Discard' _ (more_of-Expr e end_of-Expr)) = IsTyped u e × (is_value (type_of e) ≡ true)

  -- as many as there are types, each of its type
  pub AreTyped : {n : _} → Tables → Row_of-Expr n → List CType → Type 0
  AreTyped u end_of-Expr [] = Unit {0}
  AreTyped u (more_of-Expr e es) (t ∷ ts) = IsTyped u e × (type_of e ≡ t) × AreTyped u es ts
  AreTyped u end_of-Expr (t ∷ ts) = ⊥
  AreTyped u (more_of-Expr e es) [] = ⊥

-- the types of the elements or members of an object
abbrev pub part_types : List StructInfo → CType → List CType
part_types structures (Array' _ (more_of-CType t end_of-CType) n) = replicate n t
part_types structures (Struct k) = member_types (slice_get structures k)
part_types structures _ = []

-- the number 0
abbrev pub is_zero : Expr → Bool
is_zero (expr.Number sign bits) = nat_eq bits 0
is_zero _ = false

-- `{0}`, which is no braced value but zeroes the object
abbrev pub is_zeroing : Braces → Expr → Bool
is_zeroing Bare e = false
is_zeroing Braced e = is_zero e

abbrev pub is_absent : Initializer → Bool
is_absent (init.Absent words) = true
is_absent _ = false

-- a list with something in it, and not 0 alone, which zeroes the object
abbrev pub is_listed : {n : _} → Row_of-Initializer n → Bool
is_listed end_of-Initializer = false
is_listed (more_of-Initializer (init.Value Bare e) end_of-Initializer) = not (is_zero e)
is_listed (more_of-Initializer i is) = true

-- An initializer of an object of this type (C17 6.7.9): it stores each word of the object.
unfoldable mutual
  pub IsInitializer : Tables → CType → Initializer → Type 0
  IsInitializer u t (init.Absent words) = words ≡ words_of u.structures t
  IsInitializer u t (init.Value braces e) = IsTyped u e × (type_of e ≡ t) × (is_scalar t ≡ true) × (is_zeroing braces e ≡ false)
  IsInitializer u t (init.List' s inits zeros) =
      (is_aggregate t ≡ true) × (is_listed inits ≡ true) × AreInitializers u (part_types u.structures t) inits
      × (length (stores (init.List' s inits zeros)) ≡ words_of u.structures t)
  IsInitializer u t (init.Text bytes zeros) = (t ≡ array_of Char (length bytes + zeros)) × All (λ byte. byte < 256) bytes
  IsInitializer u t (init.Zeros words) = words ≡ words_of u.structures t
  IsInitializer u t init.Mutex = t ≡ Mutex

  -- those of the first members
  pub AreInitializers : {n : _} → Tables → List CType → Row_of-Initializer n → Type 0
  AreInitializers u ts end_of-Initializer = Unit {0}
  AreInitializers u (t ∷ ts) (more_of-Initializer i is) = IsInitializer u t i × (is_absent i ≡ false) × AreInitializers u ts is
  AreInitializers u [] (more_of-Initializer i is) = ⊥

abbrev pub IsTypedVariable : Tables → LocalVariable → Type 0
IsTypedVariable u v = IsKept u v.storage v.kind × IsInitializer u v.kind v.initializer

-- an expression that is evaluated
abbrev pub IsEvaluated : Tables → Expr → Type 0
IsEvaluated u e = IsTyped u e × (is_value (type_of e) ≡ true)

-- a condition
abbrev pub IsCondition : Tables → Expr → Type 0
IsCondition u e = IsTyped u e × (is_scalar (type_of e) ≡ true)

abbrev pub IsOptional : (Expr → Type 0) → Option Expr → Type 0
IsOptional P None = Unit {0}
IsOptional P (Some e) = P e

-- `return` in a function with this result: with a value of the type, or without one where it is `void` (C17 6.8.6.4)
abbrev pub IsReturn : Tables → CType → Option Expr → Type 0
IsReturn u result None = result ≡ Void
IsReturn u result (Some e) = IsTyped u e × (type_of e ≡ result) × (is_void result ≡ false)

abbrev pub is_variable : Stmt → Bool
is_variable (stmt.Variable v) = true
is_variable _ = false

-- what may stand behind `else`
abbrev pub IsAtMostOne : {n : _} → Row_of-Stmt n → Type 0
IsAtMostOne end_of-Stmt = Unit {0}
IsAtMostOne (more_of-Stmt s end_of-Stmt) = Unit {0}
IsAtMostOne (more_of-Stmt s (more_of-Stmt t ss)) = ⊥

unfoldable pub AreVariables : {n : _} → Row_of-Stmt n → Type 0
AreVariables end_of-Stmt = Unit {0}
AreVariables (more_of-Stmt s ss) = (is_variable s ≡ true) × AreVariables ss

-- what a `for` begins with: one expression, or declared variables
abbrev pub IsStart : {n : _} → Row_of-Stmt n → Type 0
IsStart (more_of-Stmt (stmt.Expression e) end_of-Stmt) = Unit {0}
IsStart ss = AreVariables ss

-- A statement of a function with this result. `looped`: it stands inside a loop, where `break` and `continue` may stand (C17 6.8.6).
unfoldable mutual
  pub IsTypedStmt : Tables → CType → Bool → Stmt → Type 0
  IsTypedStmt u r looped (stmt.Block' _ items) = AreTypedStmts u r looped items
  IsTypedStmt u r looped (stmt.Variable v) = IsTypedVariable u v
  IsTypedStmt u r looped stmt.Empty = Unit {0}
  IsTypedStmt u r looped (stmt.Expression e) = IsEvaluated u e
  IsTypedStmt u r looped (stmt.If' c _ (more_of-Stmt s end_of-Stmt) _ other) = IsCondition u c × IsTypedStmt u r looped s × AreTypedStmts u r looped other × IsAtMostOne other
  IsTypedStmt u r looped (stmt.Loop' kind c _ (more_of-Stmt s end_of-Stmt)) = IsCondition u c × IsTypedStmt u r true s
  IsTypedStmt u r looped (stmt.For' _ start test step _ (more_of-Stmt s end_of-Stmt)) =
      AreTypedStmts u r false start × IsStart start × IsOptional (IsCondition u) test × IsOptional (IsEvaluated u) step × IsTypedStmt u r true s
  IsTypedStmt u r looped stmt.Break = looped ≡ true
  IsTypedStmt u r looped stmt.Continue = looped ≡ true
  IsTypedStmt u r looped (stmt.Return e) = IsReturn u r e

  pub AreTypedStmts : {n : _} → Tables → CType → Bool → Row_of-Stmt n → Type 0
  AreTypedStmts u r looped end_of-Stmt = Unit {0}
  AreTypedStmts u r looped (more_of-Stmt s ss) = IsTypedStmt u r looped s × AreTypedStmts u r looped ss

abbrev pub ListIsTyped : Tables → CType → Bool → List Stmt → Type 0
ListIsTyped u r looped [] = Unit {0}
ListIsTyped u r looped (s ∷ ss) = IsTypedStmt u r looped s × ListIsTyped u r looped ss
