-- What declarators read, in the words of the code.
use Rattle.std.specs.Prelude.{ℕ, List, Option, Some, None}
use denote.Bor.{Bor}

-- the text of a name, where there is one
abbrev pub text_of : Option (Bor (List ℕ)) → Option (List ℕ)
text_of None = None
text_of (Some name) = Some name.now
