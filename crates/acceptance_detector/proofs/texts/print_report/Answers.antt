-- Both calls stand in the source.
use Rattle.std.proofs.Common.{All, length, ◌≤◌, sym, subst, arith}
use Rattle.core_unit.specs.declared.tables.UnitParts.{UnitParts}
use Rattle.acceptance_detector.proofs.Lawful.{sites_within}
use Rattle.acceptance_detector.proofs.texts.print_report.Goals as goal

pub write_reports-requires-clause-within : goal.write_reports-requires-clause-within
write_reports-requires-clause-within c =
    let n = length c.args.row.now.source.now in
    let P : UnitParts → Type 0 = λ u. All (λ site. site.place ≤ n) u.sites in
    subst P (sym c.in_ok-unit.ensures) (sites_within c.args.row.now.inner c.args.row.now.outer n (omega arith) (omega arith))
