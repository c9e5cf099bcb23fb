-- What a pass to a board holds, and what its lists are together.
use Rattle.std.specs.Prelude.{◌≡◌, ◌≢◌, ◌⊎◌, ℕ, List, [], ◌∷◌, ◌++◌, flat_map, Contains, All}
use Rattle.atomic_table.specs.Seated.{TableId}
use Rattle.ctx_set.specs.declared.steps.StackStep.{StackStep}
use Rattle.reports.specs.declared.board.Noted.{Noted}

-- a stack that was reported, and what was answered
pub record Report : Type 0 where
  pub stack : List StackStep
  pub answer : Noted

-- a pass was joined: its number and its own list
pub record Joined : Type 0 where
  pub number : ℕ
  pub reports : List Report

-- what a pass holds: its number, its own list, the numbers of the passes that it or what was joined into it made, and the joined lists
pub record Held : Type 0 where
  pub number : ℕ
  pub own : List Report
  pub made : List ℕ
  pub joined : List Joined

abbrev pub born : ℕ → Held
born n = record { number = n; own = []; made = []; joined = [] }

abbrev pub report_of : List StackStep → Noted → Report
report_of stack answer = record { stack = stack; answer = answer }

abbrev pub reported : Held → List StackStep → Noted → Held
reported h stack answer = record h { own = h.own ++ report_of stack answer ∷ [] }

abbrev pub makes : Held → ℕ → Held
makes h n = record h { made = h.made ++ n ∷ [] }

abbrev pub list_of : Held → Joined
list_of h = record { number = h.number; reports = h.own }

abbrev pub joins : Held → Held → Held
joins h other = record h { made = h.made ++ other.made; joined = h.joined ++ list_of other ∷ other.joined }

-- the reports of all lists
abbrev pub all_reports : Held → List Report
all_reports h = h.own ++ flat_map (λ j. j.reports) h.joined

-- the pass holds the list of this number: its own or a joined one
abbrev pub HasNumber : Held → ℕ → Type 0
HasNumber h n = (n ≡ h.number) ⊎ ((j : Joined) × Contains h.joined j × (n ≡ j.number))

-- The pass has joined all that it made, and is owed to none. Every pass but the first, which has number 0, is made by a split, and its
-- number stands among the made ones of one pass alone; so a pass that is owed to none and holds all the lists that it made is the first.
pub record IsWhole (h : Held) : Type 0 where
  pub first : h.number ≡ 0
  pub others : (j : Joined) → Contains h.joined j → j.number ≢ 0
  pub joined_all : (n : ℕ) → Contains h.made n → HasNumber h n

-- and none of the passes that it joined has reported
pub record IsAlone (h : Held) : Type 0 where
  pub whole : IsWhole h
  pub silent : All (λ j. j.reports ≡ []) h.joined

-- Which board it is: the tables of words that it lies in, if it lies in any.
pub record BoardPlace : Type 0 where
  pub tables : List TableId
