-- Initializers add no level but where a conversion is warned of, and what they say of static words holds functions at levels that these have.
use Rattle.std.proofs.Common.{◌≡◌, ℕ, Bool, true, false, List, [], ◌∷◌, length, Option, Some, None}
use Rattle.std.specs.Prelude.{not, ◌||◌, ◌+◌, ◌-◌, ◌++◌, if◌then◌else◌, nat_eq, nat_lt}
use denote.Hole.Carrier.{hidden}
use Rattle.eff_types.specs.declared.types.CType.{CType, Char, Mutex, Array', end_of-CType, more_of-CType}
use Rattle.c_tree.specs.declared.declarations.Init as written
use Rattle.c_tree.specs.declared.declarations.Init.{Init, Row_of-Init, end_of-Init, more_of-Init}
use Rattle.c_tree.specs.declared.expressions.Expr as tree
use Rattle.c_tree.specs.declared.words.Span.{Span}
use Rattle.core_unit.specs.Layout.{words_of}
use Rattle.core_unit.specs.Levels.{InitializerKeeps, InitializersKeep}
use Rattle.core_unit.specs.Shapes.{is_scalar, is_aggregate}
use Rattle.core_unit.specs.Typed.{is_zero}
use Rattle.core_unit.specs.declared.body.Braces.{Braces}
use Rattle.core_unit.specs.declared.body.Braces.TheVariants.{Bare, Braced}
use Rattle.core_unit.specs.declared.body.Initializer as form
use Rattle.core_unit.specs.declared.body.Initializer.{Initializer}
use Rattle.core_unit.specs.declared.body.Initializer.TheBlock.{hidden-the_row-Initializer-0, shape-the_row-Initializer-0}
use Rattle.core_unit.specs.declared.body.Initializer.TheVariants as init
use Rattle.core_unit.specs.declared.expressions.Expr.{Expr}
use Rattle.core_unit.specs.declared.tables.FunctionInfo.{FunctionInfo}
use Rattle.scopes.specs.Scope.{found}
use Rattle.type_rules.specs.InitialValues.{initializer_words, initial_values, all_initial_values}
use Rattle.type_rules.specs.Initializers.{is_fixed, mismatches, scalar, text_fits, is_unfixed, by_other, mutex_named, by_name, object_by, by_expression, is_zeroing, braced_node, braced, part_type, part_as, part, listed, finished, by_list, count, initialized, parts}
use Rattle.type_rules.specs.Literals.{text_in}
use Rattle.type_rules.specs.Operands.{as_value, is_whole}
use Rattle.type_rules.specs.Primaries.{name, string_object, first_place}
use Rattle.type_rules.specs.Reading.{Read, Good, and_then, name_number}
use Rattle.type_rules.specs.Recursion.{expression}
use Rattle.type_rules.specs.Seen.{Seen}
use Rattle.type_rules.specs.declared.found.Found.{Found}
use Rattle.type_rules.specs.declared.names.Entity.{Entity}
use Rattle.type_rules.specs.declared.names.Entity.TheVariants.{Variable, Function, TypeName, Enumerator, Library, NullPointer, MutexInitializer}
use Rattle.type_laws.proofs.Each.{Each, each_joined, each_more}
use Rattle.type_laws.proofs.Quiet.{IsLevelled, AreLevelled, Always, Quiet, Quietly, then_quiet, gives_quiet, fails_quiet, refused_quiet, if_quiet, either_quiet, anyway, under_quiet}
use Rattle.type_laws.proofs.QuietCalls.{name_number_quiet, names_quiet, string_quiet, text_levelled}
use Rattle.type_laws.proofs.QuietConversions.{InType, converted_quiet}
use Rattle.type_laws.proofs.QuietNodes.{Used}
use Rattle.type_laws.proofs.QuietOperands.{QuietFound, value_quiet}
use Rattle.type_laws.proofs.QuietSpecifiers.{steady}
use Rattle.type_laws.proofs.QuietTrees.{expression_quiet}
use Rattle.type_laws.proofs.QuietWords.{expression_levelled}

-- an initializer that adds no level, and whose words hold none that isn't there
abbrev pub QuietInitial : Initializer → List FunctionInfo → Type 0
QuietInitial i u = InitializerKeeps i × ((at : ℕ) → AreLevelled u (initial_values at i))

abbrev AreQuiet : List Initializer → List FunctionInfo → Type 0
AreQuiet given u = Each (λ i. QuietInitial i u) given

initial-Value : (u : List FunctionInfo) (t : CType) (braces : Braces) (e : Expr) → is_scalar t ≡ true → Used u t e → QuietInitial (init.Value braces e) u
unfolding InitializerKeeps initial_values hidden hidden-the_row-Initializer-0 shape-the_row-Initializer-0
initial-Value u t braces e scalar h = (h.node.keeps, λ at. expression_levelled u t e at scalar h)

pub initial-Zeros : (u : List FunctionInfo) (words : ℕ) → QuietInitial (init.Zeros words) u
unfolding InitializerKeeps initial_values hidden hidden-the_row-Initializer-0 shape-the_row-Initializer-0
initial-Zeros u words = (tt, λ at. tt)

pub initial-Absent : (u : List FunctionInfo) (words : ℕ) → QuietInitial (init.Absent words) u
unfolding InitializerKeeps initial_values hidden hidden-the_row-Initializer-0 shape-the_row-Initializer-0
initial-Absent u words = (tt, λ at. tt)

initial-Mutex : (u : List FunctionInfo) → QuietInitial init.Mutex u
unfolding InitializerKeeps initial_values hidden hidden-the_row-Initializer-0 shape-the_row-Initializer-0
initial-Mutex u = (tt, λ at. tt)

initial-Text : (u : List FunctionInfo) (bytes : List ℕ) (zeros : ℕ) → QuietInitial (init.Text bytes zeros) u
unfolding InitializerKeeps initial_values hidden hidden-the_row-Initializer-0 shape-the_row-Initializer-0
initial-Text u bytes zeros = (tt, λ at. text_levelled u at bytes)

rows_keep : (u : List FunctionInfo) (given : List Initializer) → AreQuiet given u → InitializersKeep (hidden-the_row-Initializer-0 given)
unfolding InitializerKeeps hidden hidden-the_row-Initializer-0 shape-the_row-Initializer-0
rows_keep u [] h = tt
rows_keep u (i ∷ is) h = (h.0.0, rows_keep u is h.1)

rows_levelled : (u : List FunctionInfo) (at : ℕ) (given : List Initializer) → AreQuiet given u → AreLevelled u (all_initial_values at (hidden-the_row-Initializer-0 given))
unfolding initial_values hidden hidden-the_row-Initializer-0 shape-the_row-Initializer-0
rows_levelled u at [] h = tt
rows_levelled u at (i ∷ is) h =
    each_joined (λ x. IsLevelled u x.word) (initial_values at i) _ (h.0.1 at) (rows_levelled u (at + initializer_words i) is h.1)

initial-List : (u : List FunctionInfo) (given : List Initializer) (zeros : ℕ) → AreQuiet given u → QuietInitial (init.List given zeros) u
unfolding InitializerKeeps initial_values hidden hidden-the_row-Initializer-0 shape-the_row-Initializer-0
initial-List u given zeros h = (rows_keep u given h, λ at. rows_levelled u at given h)

scalar_quiet : (fixed : Bool) (t : CType) (read : Seen → Read Found) → Quietly QuietFound read → Quietly (InType t) (scalar fixed t read)
unfolding scalar
scalar_quiet fixed t read keeps s =
    then_quiet s (read s) _ (keeps s) (λ f v.
    refused_quiet v (is_whole f.kind || mismatches t (as_value f)) 3 f.place _ (λ a.
    refused_quiet v (if fixed then not (is_fixed f.form) else false) 7 f.place _ (λ b.
    converted_quiet _ v t (as_value f) (λ u p. value_quiet u f p.1))))

text_quiet : (place size : ℕ) (bytes : List ℕ) → Quietly QuietInitial (text_fits place size bytes)
unfolding text_fits
text_quiet place size bytes s =
    then_quiet s (string_object bytes s) _ (string_quiet Always s bytes) (λ address v.
    refused_quiet v (nat_lt size (length bytes)) 9 place _ (λ e.
    gives_quiet v (init.Text bytes (size - length bytes)) (λ u ends p. initial-Text u bytes (size - length bytes))))

-- what is read and refused
other_quiet : (fixed : Bool) (read : Seen → Read Found) → Quietly QuietFound read → Quietly QuietInitial (by_other fixed read)
other_quiet fixed read keeps s =
    then_quiet s (read s) _ (keeps s) (λ f v. refused_quiet v (is_unfixed fixed f) 7 f.place _ (λ e. fails_quiet v 9 f.place))

mutex_quiet : (fixed : Bool) (at : Span) (e : Option Entity) → Quietly QuietInitial (mutex_named fixed at e)
mutex_quiet fixed at (Some MutexInitializer) s = gives_quiet s init.Mutex (λ u ends p. initial-Mutex u)
mutex_quiet fixed at None s = other_quiet fixed (name false at) (names_quiet false at) s
mutex_quiet fixed at (Some (Variable t storage n)) s = other_quiet fixed (name false at) (names_quiet false at) s
mutex_quiet fixed at (Some (Function n)) s = other_quiet fixed (name false at) (names_quiet false at) s
mutex_quiet fixed at (Some (TypeName t)) s = other_quiet fixed (name false at) (names_quiet false at) s
mutex_quiet fixed at (Some (Enumerator bits)) s = other_quiet fixed (name false at) (names_quiet false at) s
mutex_quiet fixed at (Some (Library row)) s = other_quiet fixed (name false at) (names_quiet false at) s
mutex_quiet fixed at (Some NullPointer) s = other_quiet fixed (name false at) (names_quiet false at) s

by_name_quiet : (fixed : Bool) (at : Span) → Quietly QuietInitial (by_name fixed at)
unfolding by_name
by_name_quiet fixed at s =
    then_quiet s (name_number at s) _ (name_number_quiet Always s at) (λ number t.
    then_quiet t (Good (found t.scopes number) t) _ (steady t (found t.scopes number)) (λ e v. anyway v _ (mutex_quiet fixed at e v)))

object_quiet : (fixed : Bool) (t : CType) (e : tree.Expr) → Quietly QuietInitial (object_by fixed t e)
object_quiet fixed (Array' p (more_of-CType Char end_of-CType) size) (tree.Text strings) s = text_quiet (first_place strings) size (text_in s.source strings) s
object_quiet fixed Mutex (tree.Name at) s = by_name_quiet fixed at s
object_quiet fixed t e s = other_quiet fixed (expression e) (expression_quiet e) s

by_expression_quiet : (fixed : Bool) (t : CType) (e : tree.Expr) → Quietly QuietInitial (by_expression fixed t e)
unfolding by_expression
by_expression_quiet fixed t e s =
    either_quiet s (is_scalar t) _ _ (λ is.
    then_quiet s (scalar fixed t (expression e) s) _ (scalar_quiet fixed t (expression e) (expression_quiet e) s) (λ v w.
    gives_quiet w (init.Value Bare v.node) (λ u ends p. initial-Value u t Bare v.node is p.1)))
    (λ is. object_quiet fixed t e s)

-- a scalar in braces
braced_node_quiet : (u : List FunctionInfo) (t : CType) (e : Expr) → is_scalar t ≡ true → Used u t e → QuietInitial (braced_node e) u
braced_node_quiet u t e is h = of (is_zero e)
  where
    of : (zeroes : Bool) → QuietInitial (if zeroes then init.Zeros 1 else init.Value Braced e) u
    of true = initial-Zeros u 1
    of false = initial-Value u t Braced e is h

braced_quiet : {n : _} (fixed : Bool) (place : ℕ) (t : CType) (inits : Row_of-Init n) (s : Seen) → is_scalar t ≡ true → Quiet Always QuietInitial s (braced fixed place t inits s)
braced_quiet fixed place t (more_of-Init (written.Value e) end_of-Init) s is =
    then_quiet s (scalar fixed t (expression e) s) _ (scalar_quiet fixed t (expression e) (expression_quiet e) s) (λ v w.
    gives_quiet w (braced_node v.node) (λ u ends p. braced_node_quiet u t v.node is p.1))
braced_quiet fixed place t (more_of-Init (written.Value e) (more_of-Init i is')) s is =
    then_quiet s (scalar fixed t (expression e) s) _ (scalar_quiet fixed t (expression e) (expression_quiet e) s) (λ v w. fails_quiet w 9 place)
braced_quiet fixed place t end_of-Init s is = fails_quiet s 9 place
braced_quiet fixed place t (more_of-Init (written.List' p z inits) rest) s is = fails_quiet s 9 place

listed_quiet : (u : List FunctionInfo) (words : ℕ) (given : List Initializer) → AreQuiet given u → QuietInitial (listed words given) u
listed_quiet u words (form.Value Bare e ∷ []) h = of (is_zero e)
  where
    of : (zeroes : Bool) → QuietInitial (if zeroes then init.Zeros words else init.List (form.Value Bare e ∷ []) (words - 1)) u
    of true = initial-Zeros u words
    of false = initial-List u (form.Value Bare e ∷ []) (words - 1) h
listed_quiet u words given h = initial-List u given _ h

finished_quiet : (t : CType) (given : List Initializer) (s : Seen) → Quiet (AreQuiet given) QuietInitial s (finished t given s)
unfolding finished and_then
finished_quiet t given s = gives_quiet s (listed (words_of s.structures t) given) (λ u ends p. listed_quiet u (words_of s.structures t) given p)

module _ (place : ℕ) (given : List Initializer) (read : CType → Seen → Read Initializer) (rest : Initializer → Seen → Read Initializer) (s : Seen)
    (read_quiet : (x : CType) → Quiet Always QuietInitial s (read x s))
    (rest_quiet : (y : Initializer) (v : Seen) → Quiet (AreQuiet (given ++ y ∷ [])) QuietInitial v (rest y v)) where
  as_quiet : (found : Option CType) → Quiet (AreQuiet given) QuietInitial s (part_as place read rest found s)
  as_quiet None = fails_quiet s 9 place
  as_quiet (Some x) =
      then_quiet s (read x s) _ (anyway s (read x s) (read_quiet x)) (λ y v.
      under_quiet _ v (rest y v) (λ u p. each_more (λ i. QuietInitial i u) given y p.0 p.1) (rest_quiet y v))

  one_quiet : (t : CType) (index : ℕ) → Quiet (AreQuiet given) QuietInitial s (part place t index read rest s)
  unfolding part and_then
  one_quiet t index = as_quiet (part_type s.structures t index)

list_quiet : (place : ℕ) (t : CType) (is_empty : Bool) (zeroing : List ℕ → Bool) (scalar_read parts_read : Seen → Read Initializer) (s : Seen)
    → (is_scalar t ≡ true → Quiet Always QuietInitial s (scalar_read s)) → Quiet Always QuietInitial s (parts_read s)
    → Quiet Always QuietInitial s (by_list place t is_empty zeroing scalar_read parts_read s)
unfolding by_list
list_quiet place t is_empty zeroing scalar_read parts_read s first second =
    if_quiet s is_empty _ _ (λ a. fails_quiet s 9 place) (λ a.
    if_quiet s (zeroing s.source) _ _ (λ b. gives_quiet s (init.Zeros (words_of s.structures t)) (λ u ends p. initial-Zeros u (words_of s.structures t))) (λ b.
    if_quiet s (is_scalar t) _ _ first (λ c.
    if_quiet s (is_aggregate t) _ _ (λ d. second) (λ d. fails_quiet s 9 place))))

mutual
  unfolding initialized and_then

  pub initialized_quiet : (i : Init) (fixed : Bool) (t : CType) → Quietly QuietInitial (initialized fixed t i)
  initialized_quiet (written.Value e) fixed t s = by_expression_quiet fixed t e s
  initialized_quiet (written.List' place _ inits) fixed t s =
      list_quiet place t (nat_eq (count inits) 0) (is_zeroing inits) (braced fixed place t inits) (parts fixed place t 0 [] inits) s
      (braced_quiet fixed place t inits s) (under_quiet Always s _ (λ u p. tt) (parts_quiet inits fixed place t 0 [] s))

  parts_quiet : {n : _} (is : Row_of-Init n) (fixed : Bool) (place : ℕ) (t : CType) (index : ℕ) (given : List Initializer) (s : Seen)
      → Quiet (AreQuiet given) QuietInitial s (parts fixed place t index given is s)
  parts_quiet end_of-Init fixed place t index given s = finished_quiet t given s
  parts_quiet (more_of-Init i is) fixed place t index given s =
      one_quiet place given (λ x. initialized fixed x i) (λ y. parts fixed place t (index + 1) (given ++ y ∷ []) is) s
      (λ x. initialized_quiet i fixed x s) (λ y v. parts_quiet is fixed place t (index + 1) (given ++ y ∷ []) v) t index
