-- The words that a list without bytes holds.
use Rattle.std.specs.Prelude.{ℕ, List, [], ◌∷◌, ◌++◌}
use Rattle.thread_run.specs.declared.given.Row.{Row, Start, Then'}

abbrev pub words_in : Row → List ℕ
words_in Start = []
words_in (Then' _ before word) = words_in before ++ word ∷ []
