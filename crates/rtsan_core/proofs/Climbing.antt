-- What is known of a rung is known of a ladder that begins with it.
use Rattle.std.proofs.Common.{◌≡◌, ap, subst, refl}
use Rattle.rtsan_core.specs.Causes.{Cause}
use Rattle.rtsan_core.specs.Rungs.{Rung, Stops, GoesOn, Then, Stopped, WentOn}
use Rattle.rtsan_core.specs.Found.{Gives, Is}

stop_only : {U V B : Type 0} (seen : Rung V → B) (first : Rung U → Type 0) (next : U → Rung V → Type 0) (cause : Cause) → Is first (Stops cause) → (other : Rung V) → Then first next other → seen other ≡ seen (Stops cause)
stop_only seen first next cause h other (Stopped c s e) =
    let same = h.only (Stops c) s in
    let q : c ≡ cause = cc in
    ap seen (rw q at e)
stop_only seen first next cause h other (WentOn value s n) =
    let same = h.only (GoesOn value) s in
    let clash : ⊥ = cc in
    absurd clash

-- where the first rung stops, the ladder stops there
pub climb_stop : {U V B : Type 0} (seen : Rung V → B) (first : Rung U → Type 0) (next : U → Rung V → Type 0) (cause : Cause) → Is first (Stops cause) → Gives seen (Then first next) (Stops cause)
climb_stop seen first next cause h =
    record { is = Stopped cause h.is refl; only = stop_only seen first next cause h }

goes_only : {U V B : Type 0} (seen : Rung V → B) (first : Rung U → Type 0) (next : U → Rung V → Type 0) (value : U) (end : Rung V) → Is first (GoesOn value) → Gives seen (next value) end → (other : Rung V) → Then first next other → seen other ≡ seen end
goes_only seen first next value end h g other (Stopped c s e) =
    let same = h.only (Stops c) s in
    let clash : ⊥ = cc in
    absurd clash
goes_only seen first next value end h g other (WentOn v s n) =
    let same = h.only (GoesOn v) s in
    let q : v ≡ value = cc in
    g.only other (subst (λ v. next v other) q n)

-- where the first rung goes on, the ladder ends where the rest of it does
pub climb : {U V B : Type 0} (seen : Rung V → B) (first : Rung U → Type 0) (next : U → Rung V → Type 0) (value : U) (end : Rung V) → Is first (GoesOn value) → Gives seen (next value) end → Gives seen (Then first next) end
climb seen first next value end h g =
    record { is = WentOn value h.is g.is; only = goes_only seen first next value end h g }
