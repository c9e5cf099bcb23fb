-- The answers that a first pass gave are fair.
use Rattle.std.proofs.Common.{◌≡◌, ◌<◌, ◌≤◌, ℕ, zero, suc, true, false, List, [], ◌∷◌, ◌++◌, length, get_or, sym, ap, ◌∙◌, inl, inr, arith}
use Rattle.std.specs.Prelude.{Contains}
use Rattle.std.specs.List.{list_all}
use Rattle.std.proofs.lemmas.Bool.{cases_lt}
use Rattle.std.proofs.lemmas.List.{take_all}
use Rattle.ctx_set.specs.declared.steps.StackStep.{StackStep}
use Rattle.reports.specs.declared.board.Noted.TheVariants.{Full}
use Rattle.reports.specs.Counts.{counted, AreFair}
use Rattle.reports.specs.Passes.{Report, report_of}
use Rattle.reports.specs.Prefixes.{prefixes, distinct, asked, has, room}
use Rattle.prefix_table.proofs.Firsts.{has_distinct}
use Rattle.plain_board.specs.Passes.{Keeps}
use Rattle.plain_board.proofs.Lists.{has_left, has_right, all_pass, all_itself}

-- the prefixes of a report's stack were asked
asked_all : (reports : List Report) (r : Report) (i : ℕ) → i < length reports → get_or reports i r ≡ r → list_all (has (asked reports)) (prefixes r.stack) ≡ true
asked_all [] r i within is = absurd (omega arith)
asked_all (q ∷ rs) r zero within is =
    ap (λ (p : Report). list_all (has (prefixes q.stack ++ asked rs)) (prefixes p.stack)) (sym is)
    ∙ all_pass (has (prefixes q.stack)) (has (prefixes q.stack ++ asked rs)) (λ p e. has_left (prefixes q.stack) (asked rs) p e) (prefixes q.stack) (all_itself (prefixes q.stack))
asked_all (q ∷ rs) r (suc i) within is =
    all_pass (has (asked rs)) (has (prefixes q.stack ++ asked rs)) (λ p e. has_right (prefixes q.stack) (asked rs) p e) (prefixes r.stack) (asked_all rs r i (omega arith) is)

module _ (reports : List Report) (held : List (List StackStep)) (counts : List ℕ) (keeps : Keeps reports held counts) where
  pub full_then : (stack : List StackStep) → Contains reports (report_of stack Full) → room < length (distinct (asked reports))
  full_then stack there = elim (cases_lt room (length (distinct (asked reports)))) [ inl more ↦ more | inr few ↦ absurd (clash few) ]
    where
      clash : length (distinct (asked reports)) ≤ room → ⊥
      clash few =
          let all_held : held ≡ distinct (asked reports) = keeps.firsts_asked ∙ take_all room (distinct (asked reports)) few in
          let were : list_all (has (asked reports)) (prefixes stack) ≡ true = asked_all reports (report_of stack Full) there.0 there.1 there.2 in
          let are : list_all (has (distinct (asked reports))) (prefixes stack) ≡ true = all_pass (has (asked reports)) (has (distinct (asked reports))) (λ p e. has_distinct (asked reports) p ∙ e) (prefixes stack) were in
          let both_ways : true ≡ false = sym are ∙ ap (λ (h : List (List StackStep)). list_all (has h) (prefixes stack)) (sym all_held) ∙ keeps.refused stack there in
          let no : ⊥ = cc in no

  apart_then : (stack : List StackStep) → Contains reports (report_of stack Full) → counted stack reports ≡ 0
  apart_then stack there = elim (cases_lt 0 (counted stack reports)) [ inl some ↦ absurd (clash some) | inr none ↦ omega (arith, none) ]
    where
      clash : 0 < counted stack reports → ⊥
      clash some =
          let both_ways : true ≡ false = sym (keeps.roomy stack some) ∙ keeps.refused stack there in
          let no : ⊥ = cc in no

  pub fair_own : AreFair reports
  fair_own = record { one_first = λ few stack some. keeps.one_first stack some; apart = apart_then; full = full_then }
