-- A set and its passes, as contracts name them.
use Rattle.std.specs.Prelude.{◌≡◌, ◌<◌, ℕ}
use Rattle.atomic_table.specs.Seated.{TableId}
use Rattle.context_set.specs.declared.keys.Ask.{Ask}
use Rattle.context_set.specs.declared.table.CtxSet.{CtxSet}
use Rattle.context_set.specs.declared.table.CtxPass.{CtxPass}
use Rattle.context_set.specs.declared.view.CtxView.{CtxView}
use Rattle.context_set.specs.Paths.{IsStep}
use Rattle.context_set.specs.Held.{KnowsParent, Held}
use Rattle.context_set.specs.Keys.{number_of, key_of, place}
use Rattle.context_set.specs.Steps.{IsBefore, IsSeat}

-- which set it is: the table that it lies in, and how many slots it has
pub record SetPlace : Type 0 where
  pub table : TableId
  pub slots : ℕ

abbrev pub place_of : CtxSet → SetPlace
place_of s = record { table = s.table.shared.table_id; slots = s.slots }

-- what a pass means
abbrev pub held_of : CtxPass → Held
held_of p = p.seat.me.0.held

-- the pass is one of this set
abbrev pub IsPassOf : SetPlace → CtxPass → Type 0
IsPassOf at p = (p.seat.table_id ≡ at.table) × IsSeat at.slots p.seat.me

-- a path is looked for at the slot that stands next in its order
pub record IsAsked (n : ℕ) (v : CtxView) (ask : Ask) (at tried : ℕ) : Type 0 where
  pub small : IsStep ask.step
  pub knows : KnowsParent v.held ask.parent
  pub key : ask.key ≡ key_of (number_of ask.parent) ask.step
  pub before : IsBefore v ask.key tried
  pub here : at ≡ place n ask.key tried
  pub within : at < n
