-- What remains of the rules of initializers once their parts are read.
use Rattle.std.specs.Prelude.{ℕ, ◌+◌, ◌-◌, ◌==◌, Bool, true, false, if◌then◌else◌, List, [], ◌∷◌, ◌++◌, map, sum, length, Option, Some, None}
use Rattle.c_tree.specs.declared.declarations.Init as written
use Rattle.c_tree.specs.declared.declarations.Init.{Init}
use Rattle.c_tree.specs.declared.expressions.Expr as tree
use Rattle.c_tree.specs.declared.words.Span.{Span}
use Rattle.core_unit.specs.Typed.{is_zero}
use Rattle.core_unit.specs.declared.body.Braces.TheVariants.{Bare}
use Rattle.core_unit.specs.declared.body.Initializer.{Initializer}
use Rattle.core_unit.specs.declared.body.Initializer.TheVariants as init
use Rattle.core_unit.specs.declared.expressions.Storage.{Storage}
use Rattle.core_unit.specs.declared.expressions.Storage.TheVariants.{Static}
use Rattle.eff_types.specs.declared.types.CType.{CType, Char, Mutex, Array', end_of-CType, more_of-CType}
use Rattle.type_rules.specs.InitialValues.{initializer_words}
use Rattle.type_rules.specs.Initializers.{initialized, finished, part, by_list, scalar, braced_node, by_text, by_name, by_other, is_zero_literal}
use Rattle.type_rules.specs.Literals.{text_in}
use Rattle.type_rules.specs.declared.names.Entity.{Entity}
use Rattle.type_rules.specs.declared.names.Entity.TheVariants.{MutexInitializer}
use Rattle.type_rules.specs.Reading.{Rule, gives, fails, ◌>>=◌}
use Rattle.type_rules.specs.Recursion.{expression}

-- the size of an array of `char`
abbrev pub char_array : CType → Option ℕ
char_array (Array' _ (more_of-CType Char end_of-CType) size) = Some size
char_array _ = None

-- a string, as the initializer of such an array or of another object
abbrev pub text_by : Bool → Option ℕ → tree.Expr → List Span → Rule Initializer
text_by fixed (Some size) e strings = by_text size strings
text_by fixed None e strings = by_other fixed (expression e)

-- one part more of a list
unfoldable pub one_part : Bool → ℕ → CType → ℕ → Init → Rule Initializer
one_part fixed place t index i = part place t index (λ u. initialized fixed u i) (λ x. gives x)

-- the parts from this number on, behind those that were read
unfoldable pub part_list : Bool → ℕ → CType → ℕ → List Initializer → List Init → Rule (List Initializer)
part_list fixed place t index given [] = gives given
part_list fixed place t index given (i ∷ is) = one_part fixed place t index i >>= (λ x. part_list fixed place t (index + 1) (given ++ x ∷ []) is)

-- `{0}`
abbrev pub is_zero_init : List ℕ → Init → Bool
is_zero_init source (written.Value e) = is_zero_literal source e
is_zero_init source _ = false

abbrev pub is_zero_list : List ℕ → List Init → Bool
is_zero_list source (i ∷ []) = is_zero_init source i
is_zero_list source _ = false

-- one number 0 alone
abbrev pub is_bare_zero : Initializer → Bool
is_bare_zero (init.Value Bare e) = is_zero e
is_bare_zero _ = false

abbrev pub is_zero_alone : List Initializer → Bool
is_zero_alone (i ∷ []) = is_bare_zero i
is_zero_alone _ = false

abbrev pub is_static : Storage → Bool
is_static (Static address) = true
is_static _ = false

abbrev pub is_mutex : CType → Bool
is_mutex Mutex = true
is_mutex _ = false

-- a name, as the initializer of a mutex or of another object
abbrev pub name_by : Bool → Bool → tree.Expr → Span → Rule Initializer
name_by fixed true e at = by_name fixed at
name_by fixed false e at = by_other fixed (expression e)

abbrev pub is_mutex_constant : Option Entity → Bool
is_mutex_constant (Some MutexInitializer) = true
is_mutex_constant _ = false

-- an expression for another object than a scalar
abbrev pub object_of : Bool → Option ℕ → Bool → tree.Expr → Rule Initializer
object_of fixed size mutex (tree.Text strings) = text_by fixed size (tree.Text strings) strings
object_of fixed size mutex (tree.Name at) = name_by fixed mutex (tree.Name at) at
object_of fixed size mutex e = by_other fixed (expression e)

-- what is made of the parts that were read, where the object has so many words
unfoldable pub listed_as : ℕ → List Initializer → Initializer
listed_as words given = if is_zero_alone given then init.Zeros words else init.List given (words - sum (map initializer_words given))

-- a scalar in braces, by its first initializer, and whether that stands alone
abbrev pub braced_first : Bool → ℕ → CType → Init → Bool → Rule Initializer
braced_first fixed place t (written.Value e) true = do
  v ← scalar fixed t (expression e)
  gives (braced_node v.node)
braced_first fixed place t (written.Value e) false = do
  v ← scalar fixed t (expression e)
  fails 9 place
braced_first fixed place t _ alone = fails 9 place

abbrev pub is_empty : List Init → Bool
is_empty is = length is == 0

abbrev pub braced_list : Bool → ℕ → CType → List Init → Rule Initializer
braced_list fixed place t [] = fails 9 place
braced_list fixed place t (i ∷ is) = braced_first fixed place t i (is_empty is)

-- the parts of an array or a structure, and zero words for the others
unfoldable pub parts_by : Bool → ℕ → CType → List Init → Rule Initializer
parts_by fixed place t inits = part_list fixed place t 0 [] inits >>= finished t

unfoldable pub list_by : Bool → ℕ → CType → List Init → Rule Initializer
list_by fixed place t inits = by_list place t (is_empty inits) (λ source. is_zero_list source inits) (braced_list fixed place t inits) (parts_by fixed place t inits)

-- how many elements an expression gives an array of `char`
abbrev pub string_size : List ℕ → tree.Expr → ℕ
string_size source (tree.Text strings) = length (text_in source strings) + 1
string_size source e = 1
