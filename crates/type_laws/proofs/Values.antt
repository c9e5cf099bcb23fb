-- What a typed initializer notes of its words is a value by the tables.
use Rattle.std.proofs.Common.{ℕ, zero, suc, ◌<◌, ◌+◌, Bool, true, false, List, [], ◌∷◌, All, arith}
use Rattle.std.specs.Prelude.{if◌then◌else◌}
use Rattle.arithmetic.specs.Values.{is_true}
use Rattle.eff_types.specs.declared.levels.Level.{Level}
use Rattle.eff_types.specs.Types.{target_effects}
use Rattle.eff_types.specs.declared.types.CType.{CType}
use Rattle.core_unit.specs.Typed.{Tables, IsTyped, IsTypedPlace, IsInitializer, AreInitializers, part_types}
use Rattle.core_unit.specs.Typing.{type_of}
use Rattle.core_unit.specs.declared.body.Initializer as init
use Rattle.core_unit.specs.declared.body.Initializer.{Initializer, Row_of-Initializer, end_of-Initializer, more_of-Initializer}
use Rattle.core_unit.specs.declared.expressions.Expr as expr
use Rattle.core_unit.specs.declared.expressions.Expr.{Expr, end_of-Expr, more_of-Expr, end_of-Place, more_of-Place}
use Rattle.core_unit.specs.declared.expressions.Place as place
use Rattle.core_unit.specs.declared.expressions.Place.{Place}
use Rattle.core_unit.specs.declared.expressions.Storage.TheVariants.{Automatic, Static, ThreadLocal}
use Rattle.core_unit.specs.declared.words.Word.{Word}
use Rattle.core_unit.specs.declared.words.Word.TheVariants as word
use Rattle.type_rules.specs.Constants.{worth}
use Rattle.type_rules.specs.InitialValues.{object_word, pointer_word, word_worth, initial_word, initializer_words, unless_zero, initial_values, all_initial_values}
use Rattle.type_rules.specs.declared.found.Worth.{Worth}
use Rattle.type_rules.specs.declared.found.Worth.TheVariants.{Known, Trapped, Varying}
use Rattle.type_laws.proofs.Each.{Each, each_joined}
use Rattle.type_laws.proofs.Valued.{IsNumeral, IsValue, Valued, text_valued}
use Rattle.type_laws.proofs.Worths.{IsSmall, worth_small}

object_valued : (u : Tables) (p : Place) → IsTypedPlace u p → IsValue u (object_word p)
unfolding IsTyped
object_valued u (place.Variable at (Static address) t) h = (h.words, h.there)
object_valued u (place.Variable at (Automatic offset) t) h = tt
object_valued u (place.Variable at (ThreadLocal offset) t) h = tt
object_valued u (place.Text at words) h = (words, h)
object_valued u (place.Indirection' _ e t) h = tt
object_valued u (place.Arrow' _ e k) h = tt
object_valued u (place.Element' _ a _ b side words t) h = tt
object_valued u (place.Member' _ p offset t) h = tt

pointer_valued : (u : Tables) (level : Level) (e : Expr) → IsTyped u e → IsValue u (pointer_word level e)
unfolding IsTyped pointer_word
pointer_valued u level (expr.Function number t) h = (h.info, h.known)
pointer_valued u level (expr.FunctionPointer' _ (more_of-Expr e end_of-Expr)) h = pointer_valued u level e h.0
pointer_valued u level (expr.ArrayPointer' _ (more_of-Place p end_of-Place)) h = object_valued u p h.0
pointer_valued u level (expr.AddressOf' _ (more_of-Place p end_of-Place)) h = object_valued u p h.0
pointer_valued u level (expr.Convert' why to _ (more_of-Expr e end_of-Expr)) h = pointer_valued u level e h.0
pointer_valued u level e h = tt

numeral_valued : (u : Tables) (value : Word) → IsNumeral value → IsValue u value
numeral_valued u word.Zero h = tt
numeral_valued u (word.Number bits) h = h
numeral_valued u value h = absurd h

worth_valued : (u : Tables) (w : Worth) (e : Expr) → IsSmall w → IsTyped u e → IsValue u (word_worth w e)
worth_valued u (Known value) e small h = numeral_valued u value small
worth_valued u Trapped e small h = pointer_valued u (target_effects (type_of e)).level e h
worth_valued u Varying e small h = pointer_valued u (target_effects (type_of e)).level e h

word_valued : (u : Tables) (at : ℕ) (value : Word) → IsValue u value → Valued u (unless_zero at value)
word_valued u at value h = of (is_true value)
  where
    of : (test : Bool) → Valued u (if test then record { at = at; word = value } ∷ [] else [])
    of true = (h, tt)
    of false = tt

expression_valued : (u : Tables) (at : ℕ) (e : Expr) → IsTyped u e → Valued u (unless_zero at (initial_word e))
unfolding initial_word
expression_valued u at e h = word_valued u at (word_worth (worth e) e) (worth_valued u (worth e) e (worth_small u e h) h)

pub each_of_all : {A : Type 0} (P : A → Type 0) (xs : List A) → All P xs → Each P xs
each_of_all P [] all = tt
each_of_all P (x ∷ xs) all = (all zero x (omega arith), each_of_all P xs (λ k d below. all (suc k) d (omega arith)))

mutual
  unfolding IsInitializer initial_values

  pub initializer_valued : (u : Tables) (t : CType) (at : ℕ) (i : Initializer) → IsInitializer u t i → Valued u (initial_values at i)
  initializer_valued u t at (init.Value _ e) h = expression_valued u at e h.0
  initializer_valued u t at (init.List' s inits zeros) h = initializers_valued u (part_types u.structures t) at inits h.2
  initializer_valued u t at (init.Text bytes zeros) h = text_valued u at bytes (each_of_all (λ byte. byte < 256) bytes h.1)
  initializer_valued u t at (init.Absent words) h = tt
  initializer_valued u t at (init.Zeros words) h = tt
  initializer_valued u t at init.Mutex h = tt

  initializers_valued : {n : _} (u : Tables) (ts : List CType) (at : ℕ) (is : Row_of-Initializer n) → AreInitializers u ts is → Valued u (all_initial_values at is)
  initializers_valued u ts at end_of-Initializer h = tt
  initializers_valued u (t ∷ ts) at (more_of-Initializer i is) h =
      each_joined (λ x. IsValue u x.word) (initial_values at i) (all_initial_values (at + initializer_words i) is) (initializer_valued u t at i h.0)
      (initializers_valued u ts (at + initializer_words i) is h.2)
  initializers_valued u [] at (more_of-Initializer i is) h = absurd h
