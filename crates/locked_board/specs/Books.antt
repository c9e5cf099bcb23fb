-- The book of a board: the pass of a plain board that makes every report.
use Rattle.std.specs.Prelude.{◌≡◌, true}
use Rattle.reports.specs.Passes.{born}
use Rattle.plain_board.specs.Passes.{PlainParts, PassIsFair}

-- a first pass that can report, and has made and joined no other
pub record IsBook (p : PlainParts) : Type 0 where
  pub fair : PassIsFair p
  pub reports : p.reports ≡ true
  pub alone : p.held ≡ record (born 0) { own = p.held.own }
