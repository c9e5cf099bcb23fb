-- What the initializer of a block variable stores when its declaration is reached, word by word in order (C17 6.7.9; that the words are stored
-- one by one is this project's own rule). Words that no initializer names are zero.
use Rattle.std.specs.Prelude.{ℕ, List, [], ◌∷◌, ◌++◌, map, replicate}
use Rattle.core_unit.specs.declared.body.Initializer as init
use Rattle.core_unit.specs.declared.body.Initializer.{Initializer, Row_of-Initializer, end_of-Initializer, more_of-Initializer}
use Rattle.core_unit.specs.declared.expressions.Expr.{Expr}

pub data Stored : Type 0 where
  Value : Expr → Stored
  Byte : ℕ → Stored
  Zero : Stored
  Undefined : Stored

unfoldable mutual
  pub stores : Initializer → List Stored
  stores (init.Absent words) = replicate words Undefined
  stores (init.Value _ e) = Value e ∷ []
  stores (init.List' _ inits zeros) = all_stores inits ++ replicate zeros Zero
  stores (init.Text bytes zeros) = map Byte bytes ++ replicate zeros Zero
  stores (init.Zeros words) = replicate words Zero
  stores init.Mutex = Zero ∷ []

  pub all_stores : {n : _} → Row_of-Initializer n → List Stored
  all_stores end_of-Initializer = []
  all_stores (more_of-Initializer i is) = stores i ++ all_stores is
