-- What the typing has noted once the first values of an object are.
use Rattle.std.specs.Prelude.{ℕ, ◌+◌, ◌++◌, List, nat_eq, if◌then◌else◌, [], ◌∷◌}
use Rattle.core_unit.specs.Typing.{type_of}
use Rattle.core_unit.specs.declared.body.Initializer.{Initializer}
use Rattle.core_unit.specs.declared.expressions.Expr.{Expr}
use Rattle.core_unit.specs.declared.expressions.Storage.{Storage}
use Rattle.core_unit.specs.declared.expressions.Storage.TheVariants.{Automatic, Static, ThreadLocal}
use Rattle.core_unit.specs.declared.words.Word.{Word}
use Rattle.core_unit.specs.declared.words.Word.TheVariants as word
use Rattle.eff_types.specs.Types.{own_effects, target_effects}
use Rattle.type_rules.specs.InitialValues.{pointer_word, initial_values, initializer_words}
use Rattle.type_rules.specs.Seen.{Seen}
use Rattle.type_rules.specs.declared.notes.Initial.{Initial}

-- an automatic object holds nothing before its declaration is reached
abbrev pub held : Storage → List Initial → Seen → Seen
held (Automatic offset) values s = s
held (Static address) values s = record s { static_values = s.static_values ++ values }
held (ThreadLocal offset) values s = record s { thread_values = s.thread_values ++ values }

-- the address or the function that an expression is, as the first word of an object of its type
abbrev pub pointer_initially : Expr → Word
pointer_initially e = pointer_word (target_effects (type_of e)).level e

-- a function, as the first word of an object of a pointer to its type
abbrev pub function_initially : Expr → Word
function_initially e = pointer_word (own_effects (type_of e)).level e

abbrev pub byte_word : ℕ → Word
byte_word byte = if nat_eq byte 0 then word.Zero else word.Number byte

-- what the parts of a list hold at first, from a place on
unfoldable pub values_from : ℕ → List Initializer → List Initial
values_from at [] = []
values_from at (i ∷ is) = initial_values at i ++ values_from (at + initializer_words i) is
