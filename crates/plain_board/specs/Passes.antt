-- What a pass keeps, and what is so of all its lists.
use Rattle.std.specs.Prelude.{◌≡◌, ◌≢◌, ℕ, ◌-◌, ◌<◌, ◌≤◌, ◌^◌, min, Bool, true, false, Option, None, Some, List, [], take, length, slice_index, slice_index_or, Contains}
use Rattle.std.specs.List.{list_all}
use Rattle.ctx_set.specs.declared.steps.StackStep.{StackStep}
use Rattle.reports.specs.declared.board.Noted.TheVariants.{Full}
use Rattle.reports.specs.Counts.{counted, firsts, AreFair}
use Rattle.reports.specs.Passes.{Report, Joined, Held, report_of, all_reports, IsWhole}
use Rattle.reports.specs.Prefixes.{prefixes, distinct, asked, has, room}
use Rattle.plain_board.specs.declared.counts.Counts.{Counts}

-- What the prefixes and their counts tell of the reports on a list: the first different prefixes that were asked, each with how many
-- reports counted it, as far as 64 bits tell that.
pub record Keeps (reports : List Report) (held : List (List StackStep)) (counts : List ℕ) : Type 0 where
  pub firsts_asked : held ≡ take room (distinct (asked reports))
  pub many : length counts ≡ room
  pub counts_are : (i : ℕ) → i < length held → slice_index counts i ≡ min (counted (slice_index_or held i []) reports) (2 ^ 64 - 1)
  pub none : (i : ℕ) → length held ≤ i → slice_index counts i ≡ 0
  pub short : (stack : List StackStep) → 0 < counted stack reports → (0 < length stack) × (length stack ≤ 257)
  pub roomy : (stack : List StackStep) → 0 < counted stack reports → list_all (has held) (prefixes stack) ≡ true
  pub refused : (stack : List StackStep) → Contains reports (report_of stack Full) → list_all (has held) (prefixes stack) ≡ false
  pub one_first : (stack : List StackStep) → 0 < counted stack reports → firsts stack reports ≡ 1

-- the first pass keeps its own list; the others report nothing
abbrev pub Tells : Option Counts → Held → Type 0
Tells (Some counts) h = (h.number ≡ 0) × Keeps h.own counts.prefixes counts.counts.items
Tells None h = (h.number ≢ 0) × (h.own ≡ [])

pub record IsPass (counts : Option Counts) (h : Held) : Type 0 where
  pub tells : Tells counts h
  pub silent : (j : Joined) → Contains h.joined j → j.number ≢ 0 → j.reports ≡ []

-- a pass, as contracts see it: what it holds, and whether it can report
pub record PlainParts : Type 0 where
  pub held : Held
  pub reports : Bool

-- the answers in all lists of the pass are fair, if it is whole
pub record PassIsFair (p : PlainParts) : Type 0 where
  pub tells : IsWhole p.held → AreFair (all_reports p.held)
