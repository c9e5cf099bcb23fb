-- The parts of a tree that stands in order in its source are a unit.
use Rattle.std.proofs.Common.{ℕ, ◌<◌, ◌≤◌, ◌-◌, ◌^◌, List, length, All, arith}
use Rattle.c_tree.specs.declared.statements.Tree.{Tree}
use Rattle.core_unit.specs.Units.{IsUnit}
use Rattle.type_units.specs.Answers.{AreTyped}
use Rattle.type_units.specs.declared.ending.TypedParts.{TypedParts}
use Rattle.tree_order.specs.Stands.{StandsInOrder}
use Rattle.type_laws.proofs.NumberedUnits.{in_order_units_are_units}
use Rattle.type_rules.specs.Units.{outcome}

pub lawful : (source marks : List ℕ) (tree : Tree) (typed : TypedParts) → All (λ byte. byte < 256) source → StandsInOrder tree → AreTyped (outcome source marks tree) typed
    → length typed.parts.structures ≤ 2 ^ 32 - 1 → IsUnit typed.parts
lawful source marks tree typed bytes stands told few =
    in_order_units_are_units source marks tree typed.parts told.noted bytes stands told.parts (omega (arith, few))
