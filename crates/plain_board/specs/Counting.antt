-- One report more: what is held of its prefixes, what is counted, and what is answered.
use Rattle.std.specs.Prelude.{◌≡◌, ℕ, ◌+◌, ◌-◌, ◌<◌, ◌≤◌, ◌^◌, ◌==◌, min, if◌then◌else◌, List, [], ◌++◌, take, length, slice_index, slice_index_or, slice_set}
use Rattle.ctx_set.specs.declared.steps.StackStep.{StackStep}
use Rattle.reports.specs.declared.board.Noted.{Noted}
use Rattle.reports.specs.declared.board.Noted.TheVariants.{First, Again, Full}
use Rattle.reports.specs.Prefixes.{prefixes, distinct, room}

-- the prefixes that are held once those of a stack were asked for
abbrev pub held_after : List (List StackStep) → List StackStep → List (List StackStep)
held_after held stack = take room (distinct (held ++ prefixes stack))

-- a count of 64 bits once more; it stays at its last value
abbrev pub one_more : ℕ → ℕ
one_more count = min (count + 1) (2 ^ 64 - 1)

-- what is answered at a count
abbrev pub answer_at : ℕ → Noted
answer_at count = if count == 0 then First else Again

-- the stack is held with this number, and counted there
pub record CountsAt (number : ℕ) (before : List ℕ) (stack : List StackStep) (held : List (List StackStep)) (after : List ℕ) (answer : Noted) : Type 0 where
  pub within : number < length held
  pub here : slice_index_or held number [] ≡ stack
  pub counts : after ≡ slice_set before number (one_more (slice_index before number))
  pub answered : answer ≡ answer_at (slice_index before number)

-- the stack is counted, or refused and counted nowhere
abbrev pub IsNoted : List ℕ → List StackStep → List (List StackStep) → List ℕ → Noted → Type 0
IsNoted before stack held after Full = after ≡ before
IsNoted before stack held after First = (number : ℕ) × CountsAt number before stack held after First
IsNoted before stack held after Again = (number : ℕ) × CountsAt number before stack held after Again

-- the prefixes that were counted are no longer than a stack may be
abbrev pub AreShort : List (List StackStep) → List ℕ → Type 0
AreShort held counts = (i : ℕ) → i < length held → 0 < slice_index counts i → length (slice_index_or held i []) ≤ 257
