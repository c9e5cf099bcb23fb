-- Objects by a single expression, form by form.
use Rattle.std.proofs.Common.{◌≡◌, refl, ap, ℕ, Bool, List, [], ◌∷◌, length, Some, None, arith}
use Rattle.std.specs.Prelude.{if◌then◌else◌}
use denote.Hole.Carrier.{hidden}
use Rattle.c_tree.specs.declared.declarations.Init.{Init}
use Rattle.c_tree.specs.declared.declarations.Init.TheBlock.{hidden-the_row-Init-0, shape-the_row-Init-0}
use Rattle.c_tree.specs.declared.declarations.Init.TheVariants as written
use Rattle.c_tree.specs.declared.expressions.Expr as tree
use Rattle.c_tree.specs.declared.expressions.Expr.{Expr}
use Rattle.eff_types.specs.declared.types.CType.{CType, Char, Mutex, Array', end_of-CType, more_of-CType}
use Rattle.eff_types.specs.declared.types.CType.TheBlock.{hidden-the_row-CType-0, shape-the_row-CType-0}
use Rattle.eff_types.specs.declared.types.CType.TheVariants as ctype
use Rattle.type_initializers.specs.Parts.{char_array, is_mutex, object_of, string_size}
use Rattle.type_rules.specs.Initializers.{object_by, count, initial_size, text_size}
use Rattle.type_rules.specs.Operands.{is_char}
use Rattle.type_rules.specs.Reading.{Good}
use Rattle.type_rules.specs.Seen.{Seen}

pub object-form : (fixed : Bool) (t : CType) (e : Expr) (s : Seen) → object_by fixed t e s ≡ object_of fixed (char_array t) (is_mutex t) e s
object-form fixed (Array' _ (more_of-CType Char end_of-CType) size) (tree.Text strings) s = refl
object-form fixed (Array' _ (more_of-CType Char end_of-CType) size) (tree.Name at) s = refl
object-form fixed (Array' _ (more_of-CType Char end_of-CType) size) e s = refl
object-form fixed Mutex (tree.Text strings) s = refl
object-form fixed Mutex (tree.Name at) s = refl
object-form fixed Mutex e s = refl
object-form fixed t (tree.Text strings) s = refl
object-form fixed t (tree.Name at) s = refl
object-form fixed t e s = refl

char_of : (t : CType) (n : ℕ) → char_array (Array' _ (more_of-CType t end_of-CType) n) ≡ (if is_char t then Some n else None)
char_of Char n = refl
char_of t n = refl

pub char-Array : (t : CType) (n : ℕ) → char_array (ctype.Array t n) ≡ (if is_char t then Some n else None)
unfolding hidden hidden-the_row-CType-0 shape-the_row-CType-0
char-Array t n = char_of t n

pub count_row : (is : List Init) → count (hidden-the_row-Init-0 is) ≡ length is
unfolding count hidden hidden-the_row-Init-0 shape-the_row-Init-0
count_row [] = refl
count_row (i ∷ is) = let more = count_row is in omega arith

pub size-List : (t : CType) (p : ℕ) (is : List Init) (s : Seen) → initial_size t (written.List p is) s ≡ Good (length is) s
unfolding initial_size hidden hidden-the_row-Init-0 shape-the_row-Init-0
size-List t p is s = ap (λ n. Good n s) (count_row is)

pub size-Init : (t : CType) (e : Expr) (s : Seen) → initial_size t (written.Value e) s ≡ Good (text_size t s.source e) s
unfolding initial_size
size-Init t e s = refl

pub size-Value : (t : CType) (source : List ℕ) (e : Expr) → text_size t source e ≡ (if is_char t then string_size source e else 1)
size-Value Char source (tree.Text strings) = refl
size-Value t source e = refl

pub ruleset object_rules = (object-form)

pub ruleset char_rules = (char-Array)

pub ruleset size_rules = (size-List, size-Init)

pub ruleset text_rules = (size-Value)
