-- The whole is what was declared, and then the rows that remain.
use Rattle.std.proofs.Common.{◌≡◌, drop, map}
use Rattle.type_units.specs.Reserved.{with_names, library_names}
use Rattle.type_units.proofs.opening.Known.add_library.Given as goal

abbrev pub invariant-each : goal.invariant-each
invariant-each l =
    with_names (library_names 0 (map (λ row. row.name.now) l.rows)) l.initial.self
    ≡ with_names (library_names l.number (map (λ row. row.name.now) (drop l.row-index l.rows))) l.self
