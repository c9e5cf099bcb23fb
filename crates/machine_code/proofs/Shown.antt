-- An entry shows the same event wherever the function goes back to.
use Rattle.std.proofs.Common.{◌≡◌, refl, ℕ, Bool, true, false, Option, Some, None, if◌then◌else◌}
use Rattle.mcode.specs.Machine.{Machine, has_room, enters}
use Rattle.mcode.specs.Steps.{Step, asked}
use Rattle.mcode.specs.declared.code.Entry.{Entry}

alike_if : (room : Bool) (x y other : Step Machine) → asked x ≡ asked y → asked (if room then x else other) ≡ asked (if room then y else other)
alike_if true x y other e = e
alike_if false x y other e = refl

pub enters_alike : (t : Machine) (function site back more : ℕ) (found : Option Entry) →
    asked (enters t function site 0 0 found) ≡ asked (enters t function site back more found)
enters_alike t function site back more None = refl
enters_alike t function site back more (Some entry) = alike_if (has_room t entry) _ _ _ refl
