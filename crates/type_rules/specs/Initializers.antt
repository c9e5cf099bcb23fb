-- Initializers (C17 6.7.9), by the type of the object. What no initializer names is zero. `fixed`: the object is static or thread-local, and its
-- initializer is known before the program runs.
use Rattle.std.specs.Prelude.{ℕ, ◌+◌, ◌-◌, Bool, true, false, not, ◌||◌, if◌then◌else◌, nat_eq, nat_lt, List, [], ◌∷◌, ◌++◌, map, length, sum, slice_get, Option, Some, None, Result, Err}
use Rattle.std.specs.Option.{option_map}
use Rattle.eff_types.specs.Conversion.{conversion}
use Rattle.eff_types.specs.declared.conversions.Conversion.{Conversion}
use Rattle.eff_types.specs.declared.conversions.Mismatch.{Mismatch}
use Rattle.eff_types.specs.declared.conversions.Mismatch.TheVariants as mismatch
use Rattle.eff_types.specs.declared.types.CType.{CType, Char, Mutex, Struct, Array', end_of-CType, more_of-CType}
use Rattle.c_tree.specs.declared.declarations.Init as written
use Rattle.c_tree.specs.declared.declarations.Init.{Init, Row_of-Init, end_of-Init, more_of-Init}
use Rattle.c_tree.specs.declared.expressions.Expr as tree
use Rattle.c_tree.specs.declared.words.Span.{Span}
use Rattle.core_unit.specs.Layout.{words_of}
use Rattle.core_unit.specs.Shapes.{is_array, is_scalar, is_aggregate}
use Rattle.core_unit.specs.Typed.{is_zero}
use Rattle.core_unit.specs.declared.body.Braces.TheVariants.{Bare, Braced}
use Rattle.core_unit.specs.declared.body.Initializer.{Initializer}
use Rattle.core_unit.specs.declared.body.Initializer.TheVariants as init
use Rattle.core_unit.specs.declared.expressions.Expr as expr
use Rattle.core_unit.specs.declared.expressions.Expr.{Expr, Row_of-Place, end_of-Place, more_of-Place}
use Rattle.core_unit.specs.declared.expressions.Place as place
use Rattle.core_unit.specs.declared.expressions.Place.{Place}
use Rattle.core_unit.specs.declared.expressions.Storage.TheVariants.{Static}
use Rattle.core_unit.specs.declared.tables.MemberInfo.{MemberInfo}
use Rattle.core_unit.specs.declared.tables.StructInfo.{StructInfo}
use Rattle.type_rules.specs.Access.{known_members}
use Rattle.type_rules.specs.Constants.{is_known, is_null_constant, worth}
use Rattle.type_rules.specs.Conversions.{converted}
use Rattle.type_rules.specs.declared.found.Found.{Found}
use Rattle.type_rules.specs.declared.found.Form.{Form}
use Rattle.type_rules.specs.declared.found.Form.TheVariants.{Lvalue, Value}
use Rattle.type_rules.specs.InitialValues.{initializer_words}
use Rattle.type_rules.specs.Literals.{number_in, text_in}
use Rattle.type_rules.specs.declared.found.Operand.{Operand}
use Rattle.type_rules.specs.Operands.{as_value, is_whole}
use Rattle.type_rules.specs.Primaries.{name, string_object, first_place}
use Rattle.type_rules.specs.Reading.{Rule, Good, Bad, gives, fails, refused, seen, name_number, meaning, ◌>>=◌, ◌>>◌}
use Rattle.type_rules.specs.Recursion.{expression}
use Rattle.type_rules.specs.declared.names.Entity.{Entity}
use Rattle.type_rules.specs.declared.names.Entity.TheVariants.{MutexInitializer}

-- What is known before the program runs (C17 6.6, narrowed by this project's own rule): constant numbers, null, the names of functions and of
-- static arrays, string literals, and `&` of a static variable; parentheses may stand around them, and no cast.
abbrev pub is_fixed_object : Place → Bool
is_fixed_object (place.Text at words) = true
is_fixed_object (place.Variable at (Static address) t) = is_array t
is_fixed_object _ = false

abbrev pub is_static_variable : Place → Bool
is_static_variable (place.Variable at (Static address) t) = true
is_static_variable _ = false

abbrev pub is_fixed_value : Expr → Bool
is_fixed_value (expr.Function number t) = true
is_fixed_value (expr.AddressOf' _ (more_of-Place p end_of-Place)) = is_static_variable p
is_fixed_value e = is_known (worth e)

abbrev pub is_fixed : Form → Bool
is_fixed (Lvalue object) = is_fixed_object object
is_fixed (Value e) = is_fixed_value e

abbrev pub is_mismatch : Result Conversion Mismatch → Bool
is_mismatch (Err mismatch.Mismatch) = true
is_mismatch _ = false

abbrev pub mismatches : CType → Operand → Bool
mismatches t o = is_mismatch (conversion o.kind t (is_null_constant o) false)

-- a scalar, of a value that converts to its type
unfoldable pub scalar : Bool → CType → Rule Found → Rule Operand
scalar fixed t read = do
  f ← read
  refused (is_whole f.kind || mismatches t (as_value f)) 3 f.place
  refused (if fixed then not (is_fixed f.form) else false) 7 f.place
  converted t (as_value f)

-- A `char` array takes a string that isn't in parentheses; the zero byte is left out where there is room for the others alone.
unfoldable pub text_fits : ℕ → ℕ → List ℕ → Rule Initializer
text_fits place size bytes = do
  address ← string_object bytes
  refused (nat_lt size (length bytes)) 9 place
  gives (init.Text bytes (size - length bytes))

abbrev pub by_text : ℕ → List Span → Rule Initializer
by_text size strings = λ s. text_fits (first_place strings) size (text_in s.source strings) s

-- Another expression isn't the initializer of an array, a structure or a mutex; it is read first. Where what it gives isn't fixed either, that is
-- the lower number; a structure or a mutex is 9 in any case.
abbrev pub is_unfixed : Bool → Found → Bool
is_unfixed true f = not (is_whole f.kind || is_fixed f.form)
is_unfixed false f = false

abbrev pub by_other : Bool → Rule Found → Rule Initializer
by_other fixed read = do
  f ← read
  refused (is_unfixed fixed f) 7 f.place
  fails 9 f.place

abbrev pub mutex_named : Bool → Span → Option Entity → Rule Initializer
mutex_named fixed at (Some MutexInitializer) = gives init.Mutex
mutex_named fixed at _ = by_other fixed (name false at)

unfoldable pub by_name : Bool → Span → Rule Initializer
by_name fixed at = do
  number ← name_number at
  entity ← meaning number
  mutex_named fixed at entity

abbrev pub object_by : Bool → CType → tree.Expr → Rule Initializer
object_by fixed (Array' _ (more_of-CType Char end_of-CType) size) (tree.Text strings) = by_text size strings
object_by fixed Mutex (tree.Name at) = by_name fixed at
object_by fixed t e = by_other fixed (expression e)

abbrev pub scalar_by : Bool → CType → Rule Found → Rule Initializer
scalar_by fixed t read = do
  v ← scalar fixed t read
  gives (init.Value Bare v.node)

unfoldable pub by_expression : Bool → CType → tree.Expr → Rule Initializer
by_expression fixed t e = if is_scalar t then scalar_by fixed t (expression e) else object_by fixed t e

-- `{0}`, which zeroes any object: one number of value 0
abbrev pub is_zero_literal : List ℕ → tree.Expr → Bool
is_zero_literal source (tree.Number at) = nat_eq (number_in source at).bits 0
is_zero_literal source _ = false

abbrev pub is_zeroing : {n : _} → Row_of-Init n → List ℕ → Bool
is_zeroing (more_of-Init (written.Value e) end_of-Init) source = is_zero_literal source e
is_zeroing _ source = false

-- A scalar in braces: one expression. The typed tree says `{0}` of each braced number 0.
abbrev pub braced_node : Expr → Initializer
braced_node e = if is_zero e then init.Zeros 1 else init.Value Braced e

abbrev pub braced : {n : _} → Bool → ℕ → CType → Row_of-Init n → Rule Initializer
braced fixed place t (more_of-Init (written.Value e) end_of-Init) = do
  v ← scalar fixed t (expression e)
  gives (braced_node v.node)
braced fixed place t (more_of-Init (written.Value e) (more_of-Init i is)) = do
  v ← scalar fixed t (expression e)
  fails 9 place
braced fixed place t _ = fails 9 place

abbrev pub member_kind : Option (List MemberInfo) → ℕ → Option CType
member_kind (Some members) index = option_map (λ m. m.kind) (slice_get members index)
member_kind None index = None

-- the type of an element or a member of an object
abbrev pub part_type : List StructInfo → CType → ℕ → Option CType
part_type structures (Array' _ (more_of-CType t end_of-CType) n) index = if nat_lt index n then Some t else None
part_type structures (Struct number) index = member_kind (known_members (slice_get structures number)) index
part_type structures _ index = None

abbrev pub part_as : ℕ → (CType → Rule Initializer) → (Initializer → Rule Initializer) → Option CType → Rule Initializer
part_as place read rest (Some t) = do
  i ← read t
  rest i
part_as place read rest None = fails 9 place

-- the next part of an object, of which the list begins at `place`, and then the rest
unfoldable pub part : ℕ → CType → ℕ → (CType → Rule Initializer) → (Initializer → Rule Initializer) → Rule Initializer
part place t index read rest = do
  s ← seen
  part_as place read rest (part_type s.structures t index)

-- those of the first parts, and zero words for the others; one number 0 alone is `{0}` in the typed tree
abbrev pub listed : ℕ → List Initializer → Initializer
listed words (init.Value Bare e ∷ []) = if is_zero e then init.Zeros words else init.List (init.Value Bare e ∷ []) (words - 1)
listed words given = init.List given (words - sum (map initializer_words given))

unfoldable pub finished : CType → List Initializer → Rule Initializer
finished t given = do
  s ← seen
  gives (listed (words_of s.structures t) given)

-- A list: `{0}` for any object, one expression for a scalar, the parts in order for an array or a structure, and nothing else for a mutex. It has
-- something in it, which the grammar asks already.
unfoldable pub by_list : ℕ → CType → Bool → (List ℕ → Bool) → Rule Initializer → Rule Initializer → Rule Initializer
by_list place t is_empty zeroing scalar_read parts_read = λ s.
    if is_empty then Bad 9 place
    else if zeroing s.source then Good (init.Zeros (words_of s.structures t)) s
    else if is_scalar t then scalar_read s
    else if is_aggregate t then parts_read s
    else Bad 9 place

-- how many stand in a list
unfoldable pub count : {n : _} → Row_of-Init n → ℕ
count end_of-Init = 0
count (more_of-Init i is) = count is + 1

unfoldable mutual
  pub initialized : Bool → CType → Init → Rule Initializer
  initialized fixed t (written.Value e) = by_expression fixed t e
  initialized fixed t (written.List' place _ inits) =
      by_list place t (nat_eq (count inits) 0) (is_zeroing inits) (braced fixed place t inits) (parts fixed place t 0 [] inits)

  -- from the part of this number on, behind those that were read
  pub parts : {n : _} → Bool → ℕ → CType → ℕ → List Initializer → Row_of-Init n → Rule Initializer
  parts fixed place t index given end_of-Init = finished t given
  parts fixed place t index given (more_of-Init i is) =
      part place t index (λ u. initialized fixed u i) (λ x. parts fixed place t (index + 1) (given ++ x ∷ []) is)

abbrev pub automatic_initializer : CType → Init → Rule Initializer
automatic_initializer t i = initialized false t i

abbrev pub static_initializer : CType → Init → Rule Initializer
static_initializer t i = initialized true t i

-- How many elements an initializer gives an array without a size (C17 6.7.9): those of its list, or the bytes of its string and the zero byte. It
-- is told by the form of the initializer alone, so the array is declared, and has its words, before the initializer is read.
abbrev pub text_size : CType → List ℕ → tree.Expr → ℕ
text_size Char source (tree.Text strings) = length (text_in source strings) + 1
text_size t source e = 1

abbrev pub size_told : CType → List ℕ → Init → ℕ
size_told t source (written.List' place _ inits) = count inits
size_told t source (written.Value e) = text_size t source e

unfoldable pub initial_size : CType → Init → Rule ℕ
initial_size t i = λ s. Good (size_told t s.source i) s

-- the first token of an expression
abbrev pub expression_place : tree.Expr → ℕ
expression_place (tree.Name at) = at.start
expression_place (tree.Number at) = at.start
expression_place (tree.Character at) = at.start
expression_place (tree.Text strings) = first_place strings
expression_place (tree.Parenthesised' place _ _) = place
expression_place (tree.Index' place _ _ _ _) = place
expression_place (tree.Call' place _ _ _ _) = place
expression_place (tree.Access' place _ _ _ _) = place
expression_place (tree.Step' place _ _ _) = place
expression_place (tree.Unary' place _ _ _) = place
expression_place (tree.SizeofType' place _ _) = place
expression_place (tree.Cast' place _ _ _ _) = place
expression_place (tree.Binary' place _ _ _ _ _ _) = place
expression_place (tree.Conditional' place _ _ _ _ _ _) = place
expression_place (tree.Assignment' place _ _ _ _ _ _) = place

abbrev pub init_place : Init → ℕ
init_place (written.Value e) = expression_place e
init_place (written.List' place _ inits) = place
