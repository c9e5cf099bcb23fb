-- Names, constants and strings (C17 6.5.1).
use Rattle.std.specs.Prelude.{ℕ, ◌+◌, Bool, true, false, List, [], ◌∷◌, ◌++◌, length, Option, Some, None}
use Rattle.eff_types.specs.declared.types.CType.{Void, Char, Int}
use Rattle.c_tree.specs.declared.words.Span.{Span}
use Rattle.core_unit.specs.Shapes.{pointer_to, array_of, number_type}
use Rattle.core_unit.specs.declared.expressions.Expr.TheVariants as expr
use Rattle.core_unit.specs.declared.expressions.Place.TheVariants as object
use Rattle.core_unit.specs.declared.operators.Sign.TheVariants.{Signed}
use Rattle.type_rules.specs.declared.found.Found.{Found}
use Rattle.type_rules.specs.Functions.{function_type}
use Rattle.type_rules.specs.Literals.{Literal, number_in, character_in, text_in, text_initially}
use Rattle.type_rules.specs.Operands.{found_object, found_value}
use Rattle.type_rules.specs.Reading.{Rule, Good, gives, fails, name_number, meaning, ◌>>=◌, ◌>>◌}
use Rattle.type_rules.specs.declared.names.Entity.{Entity}
use Rattle.type_rules.specs.declared.notes.Initial.{Initial}
use Rattle.type_rules.specs.declared.names.Entity.TheVariants.{Variable, Function, TypeName, Enumerator, Library, NullPointer, MutexInitializer}
use Rattle.type_rules.specs.Storage.{allot_static}

-- What a name stands for. `called`: it is what a call calls, parentheses aside; a library function is nothing else (this project's own rule), and
-- `PTHREAD_MUTEX_INITIALIZER` is no expression.
abbrev pub named : Bool → ℕ → Option Entity → Rule Found
named called at None = fails 1 at
named called at (Some (Variable t storage number)) = gives (found_object at t (object.Variable at storage t))
named called at (Some (Function number)) = do
  t ← function_type number
  gives (found_value at t (expr.Function number t))
named called at (Some (TypeName t)) = fails 1 at
named called at (Some (Enumerator bits)) = gives (found_value at Int (expr.Number Signed bits))
named true at (Some (Library row)) = gives (found_value at Void (expr.LibraryFunction row))
named false at (Some (Library row)) = fails 11 at
named called at (Some NullPointer) = gives (found_value at (pointer_to Void) expr.Null)
named called at (Some MutexInitializer) = fails 9 at

unfoldable pub name : Bool → Span → Rule Found
name called at = do
  number ← name_number at
  entity ← meaning number
  named called at.start entity

abbrev pub literal_found : ℕ → Literal → Found
literal_found at l = found_value at (number_type l.sign) (expr.Number l.sign l.bits)

unfoldable pub number : Span → Rule Found
number at = λ s. Good (literal_found at.start (number_in s.source at)) s

unfoldable pub character : Span → Rule Found
character at = λ s. Good (found_value at.start Int (expr.Number Signed (character_in s.source at))) s

-- what words of static storage hold at first
unfoldable pub holds_initially : List Initial → Rule (Unit {0})
holds_initially values = λ s. Good tt (record s { static_values = s.static_values ++ values })

-- A string literal is an object of static storage: its bytes and a zero byte, one word each (C17 6.4.5; the words are this project's own rule).
unfoldable pub string_object : List ℕ → Rule ℕ
string_object bytes = do
  address ← allot_static (length bytes + 1) None
  holds_initially (text_initially address bytes)
  gives address

abbrev pub first_place : List Span → ℕ
first_place [] = 0
first_place (at ∷ rest) = at.start

unfoldable pub text_found : ℕ → List ℕ → Rule Found
text_found at bytes = do
  address ← string_object bytes
  gives (found_object at (array_of Char (length bytes + 1)) (object.Text address (length bytes + 1)))

unfoldable pub text : List Span → Rule Found
text strings = λ s. text_found (first_place strings) (text_in s.source strings) s

-- The first token of an expression in parentheses is the `(`.
unfoldable pub parenthesised : ℕ → Rule Found → Rule Found
parenthesised place expression = do
  f ← expression
  gives (record f { place = place })
