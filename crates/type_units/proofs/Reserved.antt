-- The names that are declared one after the other are the reserved names.
use Rattle.std.proofs.Common.{◌≡◌, ◌∙◌, refl, sym, ap, ℕ, List, [], ◌∷◌, map}
use Rattle.core_unit.specs.Library.{rows, seen}
use Rattle.core_unit.specs.declared.rows.LibRow.{LibRow}
use Rattle.type_units.specs.Reserved.{with_names, library_names, reserved_types, known}
use Rattle.type_units.specs.declared.opening.Known.{Known}

abbrev pub nothing : Known
nothing = record { names = []; scopes = [] ∷ [] }

-- by computation
all_names : with_names (library_names 0 (map (λ r. r.name) rows)) (with_names reserved_types nothing) ≡ known
unfolding known
all_names = refl

pub reserved_names : (library : List LibRow) → map seen library ≡ rows →
    with_names (library_names 0 (map (λ row. row.name.now) library)) (with_names reserved_types nothing) ≡ known
reserved_names library is =
    ap (λ names. with_names (library_names 0 names) (with_names reserved_types nothing)) (names_are library ∙ ap (map (λ r. r.name)) is) ∙ all_names
  where
    names_are : (library : List LibRow) → map (λ row. row.name.now) library ≡ map (λ r. r.name) (map seen library)
    names_are [] = refl
    names_are (r ∷ rs) = ap (λ names. r.name.now ∷ names) (names_are rs)
