-- A first pass of a board that was never split.
use Rattle.std.specs.Prelude.{◌≡◌, true, []}
use Rattle.plain_board.specs.Passes.{PlainParts, PassIsFair}

pub record IsLone (p : PlainParts) : Type 0 where
  pub reports : p.reports ≡ true
  pub fair : PassIsFair p
  pub first : p.held.number ≡ 0
  pub none_made : p.held.made ≡ []
  pub none_joined : p.held.joined ≡ []
