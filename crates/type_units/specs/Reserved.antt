-- The reserved names as they are declared one after the other: the code's own words.
use Rattle.std.specs.Prelude.{ℕ, ◌+◌, List, [], ◌∷◌, map, codes}
use Rattle.eff_types.specs.declared.levels.Effects.{Effects}
use Rattle.eff_types.specs.declared.types.CType.{Unsigned, Mutex}
use Rattle.scopes.specs.Number.{number_of, noted}
use Rattle.scopes.specs.Scope.{declare}
use Rattle.type_rules.specs.Seen.{Seen}
use Rattle.type_rules.specs.Units.{reserved, reserved_scope, unread}
use Rattle.type_rules.specs.declared.names.Entity.{Entity}
use Rattle.type_rules.specs.declared.names.Entity.TheVariants.{TypeName, Library, NullPointer, MutexInitializer}
use Rattle.type_units.specs.declared.opening.Known.{Known}

abbrev pub with_name : List ℕ × Entity → Known → Known
with_name (name, entity) known = record {
  names = noted known.names name;
  scopes = declare known.scopes (number_of known.names name) entity;
}

abbrev pub with_names : List (List ℕ × Entity) → Known → Known
with_names [] known = known
with_names (name ∷ names) known = with_names names (with_name name known)

-- the functions of the library by their rows, from this row on
abbrev pub library_names : ℕ → List (List ℕ) → List (List ℕ × Entity)
library_names row [] = []
library_names row (name ∷ names) = (name, Library row) ∷ library_names (row + 1) names

-- the reserved names that are no functions
abbrev pub reserved_types : List (List ℕ × Entity)
reserved_types =
    (codes "NULL", NullPointer) ∷ (codes "size_t", TypeName Unsigned) ∷ (codes "pthread_t", TypeName Unsigned)
    ∷ (codes "pthread_mutex_t", TypeName Mutex) ∷ (codes "PTHREAD_MUTEX_INITIALIZER", MutexInitializer) ∷ []

-- all of them, in a scope of their own
unfoldable pub known : Known
known = record { names = map (λ r. r.0) reserved; scopes = reserved_scope ∷ [] }

-- what is known before the first declaration, by these
unfoldable pub opened : List ℕ → List ℕ → List Effects → Seen
opened source marks whole = unread source marks whole known.names ([] ∷ known.scopes) ([] ∷ [])
