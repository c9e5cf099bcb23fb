-- The seats of a locked board's passes.
use Rattle.std.proofs.Common.{◌≡◌, ◌∷◌, [], sym}
use Rattle.atomic_table.specs.Seated.{TableId}

-- the table of a pass is that of its board
pub same_table : (a b : TableId) → b ∷ [] ≡ a ∷ [] → a ≡ b
same_table a b same = let is : b ≡ a = cc in sym is
