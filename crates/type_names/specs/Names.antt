-- What is known of the declared names.
use Rattle.std.specs.Prelude.{◌≡◌, ℕ, Bool, List, [], ◌∷◌, Option, None, Some, map, reverse, if◌then◌else◌}
use Rattle.std.specs.Str.{bytes_eq}
use Rattle.std.specs.HashMap.{HashMap, get_by}
use denote.Ref.{Bor}
use Rattle.c_grammar.specs.Rules.{Declared}
use Rattle.type_names.specs.declared.Declaration.{Declaration}

-- The last declaration of the text: whether it is as a typedef name. None where there is none.
abbrev pub kind_of : List Declared → List ℕ → Option Bool
kind_of [] text = None
kind_of (latest ∷ before) text = if bytes_eq latest.name text then Some latest.is_type else kind_of before text

-- what the map holds at the text
abbrev pub kind_in : {S : Type 0} → HashMap (Bor (List ℕ)) Bool S → List ℕ → Option Bool
kind_in kinds text = get_by (λ name. bytes_eq text name.now) kinds

abbrev pub declared : Declaration → Declared
declared d = record { name = d.name.now; is_type = d.is_type }

-- the declarations of a log, the latest first
abbrev pub declarations : List Declaration → List Declared
declarations log = map declared (reverse log)

-- Each declaration, the latest first, knows what its name was before it.
abbrev pub RemembersFrom : List Declaration → Type 0
RemembersFrom [] = Unit {0}
RemembersFrom (latest ∷ before) = (latest.before ≡ kind_of (map declared before) latest.name.now) × RemembersFrom before

-- The map holds what each name is now, and the log what it was before.
pub record Keeps {S : Type 0} (kinds : HashMap (Bor (List ℕ)) Bool S) (log : List Declaration) : Type 0 where
  pub current : (text : List ℕ) → kind_in kinds text ≡ kind_of (declarations log) text
  pub remembers : RemembersFrom (reverse log)
