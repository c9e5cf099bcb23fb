-- What the words of static and thread-local objects hold at first, by the initializer (C17 6.7.9): those that aren't zero.
use Rattle.std.specs.Prelude.{ℕ, ◌+◌, if◌then◌else◌, List, [], ◌∷◌, ◌++◌, length}
use Rattle.arithmetic.specs.Values.{is_true}
use Rattle.eff_types.specs.Types.{target_effects}
use Rattle.eff_types.specs.declared.levels.Level.{Level}
use Rattle.core_unit.specs.Typing.{type_of}
use Rattle.core_unit.specs.declared.body.Initializer as init
use Rattle.core_unit.specs.declared.body.Initializer.{Initializer, Row_of-Initializer, end_of-Initializer, more_of-Initializer}
use Rattle.core_unit.specs.declared.expressions.Expr as expr
use Rattle.core_unit.specs.declared.expressions.Expr.{Expr, Row_of-Expr, end_of-Expr, more_of-Expr, Row_of-Place, end_of-Place, more_of-Place}
use Rattle.core_unit.specs.declared.expressions.Place as place
use Rattle.core_unit.specs.declared.expressions.Place.{Place}
use Rattle.core_unit.specs.declared.expressions.Storage.TheVariants.{Static}
use Rattle.core_unit.specs.declared.words.Word.{Word}
use Rattle.core_unit.specs.declared.words.Word.TheVariants as word
use Rattle.type_rules.specs.Constants.{worth}
use Rattle.type_rules.specs.Literals.{text_initially}
use Rattle.type_rules.specs.declared.found.Worth.{Worth}
use Rattle.type_rules.specs.declared.found.Worth.TheVariants.{Known}
use Rattle.type_rules.specs.declared.notes.Initial.{Initial}

-- the address of an object of static storage
abbrev pub object_word : Place → Word
object_word (place.Variable at (Static address) t) = word.DataPointer address
object_word (place.Text at words) = word.DataPointer at
object_word _ = word.Zero

-- a function, at the level of the type of the object; an address, converted or not
unfoldable pub pointer_word : Level → Expr → Word
pointer_word level (expr.Function number t) = word.FunctionPointer number level
pointer_word level (expr.FunctionPointer' _ (more_of-Expr e end_of-Expr)) = pointer_word level e
pointer_word level (expr.ArrayPointer' _ (more_of-Place p end_of-Place)) = object_word p
pointer_word level (expr.AddressOf' _ (more_of-Place p end_of-Place)) = object_word p
pointer_word level (expr.Convert' why to _ (more_of-Expr e end_of-Expr)) = pointer_word level e
pointer_word level _ = word.Zero

abbrev pub word_worth : Worth → Expr → Word
word_worth (Known value) e = value
word_worth _ e = pointer_word (target_effects (type_of e)).level e

unfoldable pub initial_word : Expr → Word
initial_word e = word_worth (worth e) e

-- how many words the object has
unfoldable mutual
  pub initializer_words : Initializer → ℕ
  initializer_words (init.Absent words) = words
  initializer_words (init.Value _ e) = 1
  initializer_words (init.List' _ inits zeros) = initializers_words inits + zeros
  initializer_words (init.Text bytes zeros) = length bytes + zeros
  initializer_words (init.Zeros words) = words
  initializer_words init.Mutex = 1

  pub initializers_words : {n : _} → Row_of-Initializer n → ℕ
  initializers_words end_of-Initializer = 0
  initializers_words (more_of-Initializer i is) = initializer_words i + initializers_words is

abbrev pub unless_zero : ℕ → Word → List Initial
unless_zero at value = if is_true value then record { at = at; word = value } ∷ [] else []

-- from its address, or from its offset, on
unfoldable mutual
  pub initial_values : ℕ → Initializer → List Initial
  initial_values at (init.Value _ e) = unless_zero at (initial_word e)
  initial_values at (init.List' _ inits zeros) = all_initial_values at inits
  initial_values at (init.Text bytes zeros) = text_initially at bytes
  initial_values at _ = []

  pub all_initial_values : {n : _} → ℕ → Row_of-Initializer n → List Initial
  all_initial_values at end_of-Initializer = []
  all_initial_values at (more_of-Initializer i is) = initial_values at i ++ all_initial_values (at + initializer_words i) is
