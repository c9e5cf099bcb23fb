-- How often stacks were counted, and what the answers of a board are together.
use Rattle.std.specs.Prelude.{◌≡◌, ℕ, ◌+◌, ◌<◌, ◌^◌, ◌&&◌, Bool, true, false, List, length, count_by, Contains}
use Rattle.ctx_set.specs.declared.steps.StackStep.{StackStep}
use Rattle.reports.specs.declared.board.Noted.{Noted}
use Rattle.reports.specs.declared.board.Noted.TheVariants.{First, Again, Full}
use Rattle.reports.specs.Stacks.{is_same}
use Rattle.reports.specs.Passes.{Report, report_of}
use Rattle.reports.specs.Prefixes.{asked, distinct, room}

abbrev pub is_first : Noted → Bool
is_first First = true
is_first Again = false
is_first Full = false

abbrev pub is_counted : Noted → Bool
is_counted First = true
is_counted Again = true
is_counted Full = false

-- how many of the reports have this stack and were counted
abbrev pub counted : List StackStep → List Report → ℕ
counted stack reports = count_by (λ report. is_same report.stack stack && is_counted report.answer) reports

-- how many of them were answered First
abbrev pub firsts : List StackStep → List Report → ℕ
firsts stack reports = count_by (λ report. is_same report.stack stack && is_first report.answer) reports

-- What the answers to all reports of a board are together. While they are fewer than 2^64, a stack that was counted was answered First once.
-- A stack that was refused was never counted, before or after. Where one was refused, there were more prefixes than the board has room for.
pub record AreFair (reports : List Report) : Type 0 where
  pub one_first : length reports < 2 ^ 64 → (stack : List StackStep) → 0 < counted stack reports → firsts stack reports ≡ 1
  pub apart : (stack : List StackStep) → Contains reports (report_of stack Full) → counted stack reports ≡ 0
  pub full : (stack : List StackStep) → Contains reports (report_of stack Full) → room < length (distinct (asked reports))
