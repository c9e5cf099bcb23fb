-- The rungs of a `step` before its run: the form of the unit, and the options.
use Rattle.std.proofs.Common.{Bool, true, false, ◌≡◌, ◌⊎◌, inl, inr, List, ℕ, None, refl, ap}
use Rattle.built_form.specs.Built.{IsOfForm}
use Rattle.built_unit.specs.Units.{UnitParts}
use Rattle.c_text.specs.declared.Token.{Token}
use Rattle.command.specs.declared.command.Command.{Command}
use Rattle.rt_base.specs.Outside.{SinkState}
use Rattle.rtsan_core.specs.declared.reading.Reading.{Reading}
use Rattle.rtsan_core.specs.declared.status.Outcome.{Outcome}
use Rattle.rtsan_core.specs.declared.status.Status.{Status}
use Rattle.rtsan_core.specs.Causes.{NotBuilt, OutOfMemory}
use Rattle.rtsan_core.specs.Rungs.{Rung, Stops, GoesOn, Then}
use Rattle.rtsan_core.specs.Served.{HasDefaults}
use Rattle.rtsan_core.specs.Ladder.{Findings, IsForm, IsPlain, RunLadder, PlainLadder, StepLadder}
use Rattle.rtsan_core.specs.Outcomes.{IsPrinted, answer_of, answer_at}
use Rattle.rtsan_core.specs.Found.{Gives, Is, IsOnlyOutcome}
use Rattle.rtsan_core.proofs.Climbing.{climb, climb_stop}
use Rattle.rtsan_core.proofs.Jobs.{stop_told}

-- where a rung goes on, the outcome of the rest is that of the ladder
pub climb_told : {U : Type 0} (first : Rung U → Type 0) (next : U → Rung Findings → Type 0) (value : U) (outcome : Outcome) (old new : SinkState) → Is first (GoesOn value) → IsOnlyOutcome (next value) outcome old new → IsOnlyOutcome (Then first next) outcome old new
climb_told first next value outcome old new h o =
    record { end = o.end; reached = by o.reached; left = o.left; printed = o.printed }
  where
    by : Gives answer_at (next value) o.end ⊎ (o.end ≡ Stops OutOfMemory) → Gives answer_at (Then first next) o.end ⊎ (o.end ≡ Stops OutOfMemory)
    by (inl g) = inl (climb answer_at first next value o.end h g)
    by (inr e) = inr e

other_only : (source : List ℕ) (tokens : List Token) → ((unit : UnitParts) → IsOfForm source tokens unit → ⊥) → (other : Rung UnitParts) → IsForm source tokens other → other ≡ Stops NotBuilt
other_only source tokens none (Stops c) h = ap Stops h.1
other_only source tokens none (GoesOn unit) h = absurd (none unit h)

built_only : (source : List ℕ) (tokens : List Token) (unit : UnitParts) → IsOfForm source tokens unit → ((other : UnitParts) → IsOfForm source tokens other → other ≡ unit) → (other : Rung UnitParts) → IsForm source tokens other → other ≡ GoesOn unit
built_only source tokens unit formed only (Stops c) h = absurd (h.0 unit formed)
built_only source tokens unit formed only (GoesOn other) h = ap GoesOn (only other h)

-- a `step` of a unit of another form stops
pub other_told : (command : Command) (source : List ℕ) (read : Reading) (outcome : Outcome) (status : Status) (old new : SinkState) → ((unit : UnitParts) → IsOfForm source read.tokens unit → ⊥) → IsPrinted (answer_of NotBuilt) status old new → outcome.status ≡ status → outcome.finished ≡ None → IsOnlyOutcome (StepLadder command source read) outcome old new
other_told command source read outcome status old new none p s f =
    stop_told (StepLadder command source read) NotBuilt outcome status old new
    (inl (climb_stop answer_at (IsForm source read.tokens) _ NotBuilt (record { is = (none, refl); only = other_only source read.tokens none }))) p s f

-- one of the form goes on
pub formed_told : (command : Command) (source : List ℕ) (read : Reading) (unit : UnitParts) (outcome : Outcome) (old new : SinkState) → IsOfForm source read.tokens unit → ((other : UnitParts) → IsOfForm source read.tokens other → other ≡ unit) → IsOnlyOutcome (PlainLadder command source read unit) outcome old new → IsOnlyOutcome (StepLadder command source read) outcome old new
formed_told command source read unit outcome old new formed only o =
    climb_told (IsForm source read.tokens) _ unit outcome old new (record { is = formed; only = built_only source read.tokens unit formed only }) o

-- a test that answered no
pub not_plain : (command : Command) → (HasDefaults command → ◌≡◌ {A = Bool} false true) → HasDefaults command → ⊥
not_plain command test plain =
    let told : ◌≡◌ {A = Bool} false true = test plain in
    let clash : ⊥ = cc in clash

options_only : (command : Command) → (HasDefaults command → ⊥) → (other : Rung (Unit {0})) → IsPlain command other → other ≡ Stops NotBuilt
options_only command options (Stops cause) h = ap Stops h.1
options_only command options (GoesOn u) h = absurd (options h)

-- a `step` with other options stops
pub options_told : (command : Command) (source : List ℕ) (read : Reading) (unit : UnitParts) (outcome : Outcome) (status : Status) (old new : SinkState) → (HasDefaults command → ⊥) → IsPrinted (answer_of NotBuilt) status old new → outcome.status ≡ status → outcome.finished ≡ None → IsOnlyOutcome (PlainLadder command source read unit) outcome old new
options_told command source read unit outcome status old new options p s f =
    stop_told (PlainLadder command source read unit) NotBuilt outcome status old new
    (inl (climb_stop answer_at (IsPlain command) _ NotBuilt (record { is = (options, refl); only = options_only command options }))) p s f

plain_only : (command : Command) → HasDefaults command → (other : Rung (Unit {0})) → IsPlain command other → other ≡ GoesOn tt
plain_only command plain (Stops cause) h = absurd (h.0 plain)
plain_only command plain (GoesOn u) h = refl

-- a `step` with the defaults is run
pub plain_told : (command : Command) (source : List ℕ) (read : Reading) (unit : UnitParts) (outcome : Outcome) (old new : SinkState) → HasDefaults command → IsOnlyOutcome (RunLadder command.file source read unit) outcome old new → IsOnlyOutcome (PlainLadder command source read unit) outcome old new
plain_told command source read unit outcome old new plain o =
    climb_told (IsPlain command) _ tt outcome old new (record { is = plain; only = plain_only command plain }) o
