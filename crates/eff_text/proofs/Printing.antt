-- The lines of the warnings, one after the other, and that the warnings of a unit can be printed.
use Rattle.std.proofs.Common.{◌≡◌, ℕ, ◌+◌, ◌≤◌, ◌<◌, zero, suc, List, [], ◌∷◌, length, map, take, get_or, All, IsSomeAnd, slice_get, ap, ◌∙◌, arith}
use Rattle.std.specs.List.Sorted.{IsStrictlyIncreasing}
use Rattle.std.proofs.lemmas.List.{get_or-map, length-map}
use Rattle.std.proofs.lemmas.List.Elements.{All-contains, Contains-get_or}
use Rattle.built_unit.specs.declared.units.FunctionInfo.{FunctionInfo}
use Rattle.built_unit.specs.declared.units.SiteInfo.{SiteInfo}
use Rattle.built_unit.specs.Units.{UnitParts}
use Rattle.c_text.specs.declared.place.LineCursor.{LineCursor}
use Rattle.c_text.specs.Place.{LineColumn, IsAt, line_column}
use Rattle.rt_base.specs.Outside.{SinkState, TakesAll, FailsWithin}
use Rattle.rt_base.proofs.Pieces.{takes_next, fails_next}
use Rattle.eff_check.specs.declared.ViolationKind.{ViolationKind}
use Rattle.eff_check.specs.declared.ViolationKind.TheVariants.{Calls}
use Rattle.eff_check.specs.declared.Warning.{Warning}
use Rattle.eff_check.specs.Violations.{AreWarnings, IsWarned, IsViolation}
use Rattle.eff_types.specs.declared.levels.Level.{Level}
use Rattle.eff_text.specs.WarningText.{line_at, warning_line, warnings_text, IsNamed, ArePrintable}
use Rattle.c_text.specs.declared.limits.TheConstants.{SOURCE_LIMIT}

-- the line from a cursor at the place of the warning
line_of_cursor : (file source : List ℕ) (unit : UnitParts) (w : Warning) (cursor : LineCursor) → IsAt source cursor → cursor.place ≡ w.place → line_at file (record { line = cursor.line; column = cursor.column }) unit w.level w.kind ≡ warning_line file source unit w
unfolding warning_line
line_of_cursor file source unit w cursor at here =
    ap (λ (p : LineColumn). line_at file p unit w.level w.kind) (at ∙ ap (line_column source) here)

-- after the line of one warning more
pub takes_line : (file source : List ℕ) (unit : UnitParts) (ws : List Warning) (i : ℕ) (d : Warning) (cursor : LineCursor) (old between new : SinkState) → i < length ws → IsAt source cursor → cursor.place ≡ (get_or ws i d).place → TakesAll (warnings_text file source unit (take i ws)) old between → TakesAll (line_at file (record { line = cursor.line; column = cursor.column }) unit (get_or ws i d).level (get_or ws i d).kind) between new → TakesAll (warnings_text file source unit (take (i + 1) ws)) old new
takes_line file source unit ws i d cursor old between new within at here a b =
    let e : line_at file (record { line = cursor.line; column = cursor.column }) unit (get_or ws i d).level (get_or ws i d).kind ≡ warning_line file source unit (get_or ws i d) =
    line_of_cursor file source unit (get_or ws i d) cursor at here in
    let line : TakesAll (warning_line file source unit (get_or ws i d)) between new = rw e at b in
    takes_next (warning_line file source unit) ws i d old between new within a line

-- after a fault within the line of a warning
pub fails_line : (file source : List ℕ) (unit : UnitParts) (ws : List Warning) (i : ℕ) (d : Warning) (cursor : LineCursor) (old between new : SinkState) → i < length ws → IsAt source cursor → cursor.place ≡ (get_or ws i d).place → TakesAll (warnings_text file source unit (take i ws)) old between → FailsWithin (line_at file (record { line = cursor.line; column = cursor.column }) unit (get_or ws i d).level (get_or ws i d).kind) between new → FailsWithin (warnings_text file source unit ws) old new
fails_line file source unit ws i d cursor old between new within at here a b =
    let e : line_at file (record { line = cursor.line; column = cursor.column }) unit (get_or ws i d).level (get_or ws i d).kind ≡ warning_line file source unit (get_or ws i d) =
    line_of_cursor file source unit (get_or ws i d) cursor at here in
    let line : FailsWithin (warning_line file source unit (get_or ws i d)) between new = rw e at b in
    fails_next (warning_line file source unit) ws i d old between new within a line

-- the next warning stands behind this one
pub place_before_next : (ws : List Warning) (i : ℕ) (d e : Warning) → IsStrictlyIncreasing (map (λ w. w.place) ws) → i + 1 < length ws → (get_or ws i d).place ≤ (get_or ws (i + 1) e).place
place_before_next ws i d e rises within =
    let place : Warning → ℕ = λ w. w.place in
    let here : get_or (map place ws) i 0 ≡ (get_or ws i d).place = get_or-map place ws i d 0 (omega arith) in
    let next : get_or (map place ws) (i + 1) 0 ≡ (get_or ws (i + 1) e).place = get_or-map place ws (i + 1) e 0 within in
    let long : i + 1 < length (map place ws) = rw length-map within in
    let below : get_or (map place ws) i 0 < get_or (map place ws) (i + 1) 0 = rises i long in
    omega arith

-- a number at which a list has an element is below its length
in_range : (functions : List FunctionInfo) (n : ℕ) (P : FunctionInfo → Type 0) → IsSomeAnd (slice_get functions n) P → n < length functions
in_range [] n P h = elim h [ ]
in_range (f ∷ fs) zero P h = omega arith
in_range (f ∷ fs) (suc n) P h = omega (arith, in_range fs n P h)

named_kind : (unit : UnitParts) (level : Level) (site : SiteInfo) (kind : ViolationKind) → IsViolation unit.functions level site kind → IsNamed unit kind
named_kind unit level site (Calls callee) h = in_range unit.functions callee _ h.1

-- the warnings of a unit can be printed over a source in which its calls stand
pub ArePrintable-from_warnings : (source : List ℕ) (unit : UnitParts) (ws : List Warning) → AreWarnings unit ws → length source ≤ SOURCE_LIMIT → All (λ site. site.place ≤ length source) unit.sites → ArePrintable source unit ws
ArePrintable-from_warnings source unit ws h short stand = record {
  short = short;
  within = λ k d l.
      let w : Warning = get_or ws k d in
      let due : IsWarned unit w = (h.exact w).0 (Contains-get_or ws k d l) in
      let stands : due.violates.site.place ≤ length source =
      All-contains (λ (site : SiteInfo). site.place ≤ length source) unit.sites due.violates.site stand due.violates.stands in
      let placed : due.violates.site.place ≡ w.place = due.violates.placed in
      omega arith;
  ordered = h.ordered;
  named = λ k d l.
      let w : Warning = get_or ws k d in
      let due : IsWarned unit w = (h.exact w).0 (Contains-get_or ws k d l) in
      named_kind unit w.level due.violates.site w.kind due.violates.violates;
}
