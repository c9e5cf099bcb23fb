-- What the scopes further inside don't declare means what those around them say.
use Rattle.std.proofs.Common.{◌≡◌, ◌≤◌, length, take}
use Rattle.scopes.specs.Scope.{found, scopes_of}
use Rattle.scopes.proofs.stack.Scopes.get.Given as goal

abbrev pub invariant-each : goal.invariant-each
invariant-each g l =
    (l.left ≤ length l.self-inside.maps.items) ×
    (found (scopes_of l.self-inside.maps.items) l.name ≡ found (scopes_of (take l.left l.self-inside.maps.items)) l.name)

abbrev pub decreases-each : goal.decreases-each
decreases-each g l = l.left
