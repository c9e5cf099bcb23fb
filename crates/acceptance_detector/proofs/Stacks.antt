-- Stacks of equal steps, and passes that were never split.
use Rattle.std.proofs.Common.{◌≡◌, ◌<◌, ℕ, List, [], ◌++◌, sym, subst, ap, ◌∙◌, arith}
use Rattle.std.specs.Prelude.{◌^◌, Contains}
use Rattle.std.specs.List.{flat_map}
use Rattle.std.proofs.lemmas.List.{append-nil}
use Rattle.reports.specs.Stacks.{IsStep}
use Rattle.reports.specs.Passes.{Joined, IsWhole, all_reports}
use Rattle.plain_board.specs.Passes.{PlainParts}
use Rattle.acceptance_detector.specs.Lone.{IsLone}

pub step_is_one : (site : ℕ) → site < 2 ^ 20 → IsStep record { target = 1; site = site }
step_is_one site low = record { function = omega arith; call = low }

pub lone_is_whole : (p : PlainParts) → IsLone p → IsWhole p.held
lone_is_whole p lone = record {
  first = lone.first;
  others = λ j there. absurd (subst (λ (js : List Joined). Contains js j → ⊥) (sym lone.none_joined) (λ (c : Contains [] j). let low = c.1 in omega (arith, low)) there);
  joined_all = λ n there. absurd (subst (λ (ns : List ℕ). Contains ns n → ⊥) (sym lone.none_made) (λ (c : Contains [] n). let low = c.1 in omega (arith, low)) there);
}

pub lone_reports : (p : PlainParts) → IsLone p → all_reports p.held ≡ p.held.own
lone_reports p lone = ap (λ (js : List Joined). p.held.own ++ flat_map (λ (j : Joined). j.reports) js) lone.none_joined ∙ append-nil p.held.own
