-- What a pass keeps through its calls, and that its lists are fair once it is whole.
use Rattle.std.proofs.Common.{◌≡◌, ◌≢◌, ◌<◌, ◌≤◌, ℕ, zero, suc, Option, None, Some, List, [], ◌∷◌, ◌++◌, length, get_or, refl, sym, ap, ◌∙◌, subst, ⊎_elim, arith}
use Rattle.std.specs.Prelude.{Contains, All, ◌^◌}
use Rattle.std.specs.List.{flat_map, list_all}
use Rattle.std.proofs.lemmas.List.{append-nil, length-take}
use Rattle.std.proofs.lemmas.List.Elements.{Contains-append_cases}
use Rattle.ctx_set.specs.declared.steps.StackStep.{StackStep}
use Rattle.reports.specs.declared.board.Noted.{Noted}
use Rattle.reports.specs.declared.stacks.StackCount.{StackCount}
use Rattle.reports.specs.Stacks.{IsStack}
use Rattle.reports.specs.Counts.{is_counted, AreFair}
use Rattle.reports.specs.Passes.{Report, Joined, Held, born, reported, makes, joins, list_of, all_reports, IsWhole}
use Rattle.reports.specs.Prefixes.{prefixes, distinct, asked, has, has_room, room}
use Rattle.stack_counts.specs.Totals.{AreCounts}
use Rattle.plain_board.specs.declared.counts.Counts.{Counts}
use Rattle.plain_board.specs.Counting.{held_after, IsNoted, AreShort}
use Rattle.plain_board.specs.Gathered.{IsGathered}
use Rattle.plain_board.specs.Passes.{Keeps, Tells, IsPass}
use Rattle.plain_board.proofs.Held.{next_firsts}
use Rattle.plain_board.proofs.Fair.{fair_own}
use Rattle.plain_board.proofs.Keeping.{kept}
use Rattle.plain_board.proofs.Gathering.{short_held, gathered_counts}

-- nothing is kept of an empty list
pub keeps_none : (counts : List ℕ) → length counts ≡ room → All (λ count. count ≡ 0) counts → Keeps [] [] counts
keeps_none counts many zeros = record {
  firsts_asked = refl;
  many = many;
  counts_are = λ i within. absurd (let no : ⊥ = omega arith in no);
  none = λ i high. zero_at counts i zeros;
  short = λ stack some. absurd (let no : ⊥ = omega arith in no);
  roomy = λ stack some. absurd (let no : ⊥ = omega arith in no);
  refused = λ stack there. absurd (let low = there.1 in let no : ⊥ = omega (arith, low) in no);
  one_first = λ stack some. absurd (let no : ⊥ = omega arith in no);
}
  where
    zero_at : (counts : List ℕ) (i : ℕ) → All (λ count. count ≡ 0) counts → get_or counts i 0 ≡ 0
    zero_at [] i zeros = refl
    zero_at (x ∷ xs) zero zeros = zeros 0 0 (omega arith)
    zero_at (x ∷ xs) (suc i) zeros = zero_at xs i (λ k d within. zeros (suc k) d (omega arith))

pub pass_first : (c : Counts) → c.prefixes ≡ [] → (length c.counts.items ≡ room) × All (λ count. count ≡ 0) c.counts.items → IsPass (Some c) (born 0)
pass_first c none zeros = record {
  tells = (refl, subst (λ (held : List (List StackStep)). Keeps [] held c.counts.items) (sym none) (keeps_none c.counts.items zeros.0 zeros.1));
  silent = λ j there later. absurd (let low = there.1 in let no : ⊥ = omega (arith, low) in no);
}

pub pass_born : (n : ℕ) → n ≢ 0 → IsPass None (born n)
pass_born n later = record { tells = (later, refl); silent = λ j there other. absurd (let low = there.1 in let no : ⊥ = omega (arith, low) in no) }

pub pass_makes : (counts : Option Counts) (h : Held) (n : ℕ) → IsPass counts h → IsPass counts (makes h n)
pass_makes (Some c) h n p = record { tells = p.tells; silent = p.silent }
pass_makes None h n p = record { tells = p.tells; silent = p.silent }

-- a pass that isn't the first has reported nothing
silent_own : (counts : Option Counts) (h : Held) → IsPass counts h → h.number ≢ 0 → h.own ≡ []
silent_own (Some c) h p later = absurd (later p.tells.0)
silent_own None h p later = p.tells.1

pub pass_joins : (counts others : Option Counts) (h other : Held) → IsPass counts h → IsPass others other → IsPass counts (joins h other)
pass_joins counts others h other p q = record { tells = tells_of counts p.tells; silent = silent_of }
  where
    tells_of : (c : Option Counts) → Tells c h → Tells c (joins h other)
    tells_of (Some c) t = t
    tells_of None t = t

    joined_of : (j : Joined) → Contains (list_of other ∷ other.joined) j → j.number ≢ 0 → j.reports ≡ []
    joined_of j (zero, within, is) later =
        let later' : other.number ≢ 0 = subst (λ (i : Joined). i.number ≢ 0) (sym is) later in
        subst (λ (i : Joined). i.reports ≡ []) is (silent_own others other q later')
    joined_of j (suc k, within, is) later = q.silent j (k, omega arith, is) later

    silent_of : (j : Joined) → Contains (h.joined ++ list_of other ∷ other.joined) j → j.number ≢ 0 → j.reports ≡ []
    silent_of j there later =
        ⊎_elim
        (λ (here : Contains h.joined j). p.silent j here later)
        (λ (new : Contains (list_of other ∷ other.joined) j). joined_of j new later)
        (Contains-append_cases h.joined (list_of other ∷ other.joined) j there)

-- the lists of a whole pass are its own one alone
no_reports : (js : List Joined) → ((j : Joined) → Contains js j → j.reports ≡ []) → flat_map (λ (j : Joined). j.reports) js ≡ []
no_reports [] none = refl
no_reports (j ∷ js) none =
    let here : j.reports ≡ [] = none j (0, omega arith, refl) in
    let rest = no_reports js (λ i there. none i (suc there.0, (let low = there.1 in omega (arith, low)), there.2)) in
    rw here rest

pub own_alone : (counts : Option Counts) (h : Held) → IsPass counts h → IsWhole h → all_reports h ≡ h.own
own_alone counts h p whole =
    ap (λ (more : List Report). h.own ++ more) (no_reports h.joined (λ j there. p.silent j there (whole.others j there))) ∙ append-nil h.own

fair_of : (counts : Option Counts) (h : Held) → IsPass counts h → IsWhole h → AreFair h.own
fair_of (Some c) h p whole = fair_own h.own c.prefixes c.counts.items p.tells.1
fair_of None h p whole = absurd (p.tells.0 whole.first)

pub pass_fair : (counts : Option Counts) (h : Held) → IsPass counts h → IsWhole h → AreFair (all_reports h)
pass_fair counts h p whole = subst AreFair (sym (own_alone counts h p whole)) (fair_of counts h p whole)

-- the first pass has the table
pub has_table : (counts : Option Counts) (h : Held) → IsPass counts h → IsWhole h → counts ≡ None → ⊥
has_table (Some c) h p whole e = cc
has_table None h p whole e = p.tells.0 whole.first

-- a report more
module _ (c after : Counts) (h : Held) (p : IsPass (Some c) h) (stack : List StackStep) (is : IsStack stack) (entry : after.prefixes ≡ held_after c.prefixes stack) (answer : Noted) (told : is_counted answer ≡ list_all (has after.prefixes) (prefixes stack)) where
  pub pass_reports : IsNoted c.counts.items stack after.prefixes after.counts.items answer → IsPass (Some after) (reported h stack answer)
  pass_reports noted = record {
    tells = (p.tells.0, kept h.own c.prefixes c.counts.items p.tells.1 stack (is.some, is.few) after.prefixes entry after.counts.items answer told noted);
    silent = p.silent;
  }

  pub pass_exact : is_counted answer ≡ has_room h.own stack
  pass_exact = told ∙ ap (λ (held : List (List StackStep)). list_all (has held) (prefixes stack)) (next_firsts h.own c.prefixes c.counts.items p.tells.1 stack after.prefixes entry)

-- what is gathered of a whole pass is the counts of all its reports
module _ (c : Counts) (h : Held) (p : IsPass (Some c) h) (whole : IsWhole h) (few : length (all_reports h) < 2 ^ 64) where
  own_few : length h.own < 2 ^ 64
  own_few = let same = ap length (own_alone (Some c) h p whole) in omega (arith, same, few)

  pub pass_short : AreShort c.prefixes c.counts.items
  pass_short = short_held h.own c.prefixes c.counts.items p.tells.1 own_few

  pub pass_counts : (list : List StackCount) → IsGathered c.prefixes c.counts.items (length c.prefixes) list → AreCounts (all_reports h) list
  pass_counts list gathered = subst (λ (reports : List Report). AreCounts reports list) (sym (own_alone (Some c) h p whole)) (gathered_counts h.own c.prefixes c.counts.items p.tells.1 own_few list gathered)

pub pass_room : (c : Counts) (h : Held) → IsPass (Some c) h → length c.prefixes ≤ length c.counts.items
pass_room c h p =
    let k = p.tells.1 in
    let many = k.many in
    let long = ap length k.firsts_asked ∙ length-take room (distinct (asked h.own)) in
    omega (arith, many, long)
