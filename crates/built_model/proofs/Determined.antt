-- The source thread is deterministic.
use Rattle.std.proofs.Common.{◌≡◌, ℕ, zero, suc, ◌<◌, Bool, true, false, List, [], ◌∷◌, Option, Some, None, refl, sym, ◌∙◌, arith, length, nat_lt}
use Rattle.built_unit.specs.Units.{UnitParts}
use Rattle.built_code.specs.declared.events.Ask.{Ask}
use Rattle.built_code.specs.Steps.{Step, Quiet, Makes, Ends, is_quiet, settle, unless_quiet, asked}
use Rattle.built_model.specs.Source.{Task, Call, Check, Begin, Meet, Give, Leaving, Fail, Deliver, Tell, Halting, Finished, State, frame_limit, tasks_of, begins, acts, step, turns, settles, after}
use Rattle.built_model.specs.Laws.{IsInTable, IsRun, IsDeterministic}

turns_some : (k : List Task) → 0 < turns k
turns_some [] = omega arith
turns_some (task ∷ k) = omega arith

-- a step that isn't quiet is the next one
at_once : (u : UnitParts) (n : ℕ) (s : State) → 0 < n → is_quiet (step u s) ≡ false → is_quiet (settle (step u) n s) ≡ false
at_once u zero s some q = absurd (omega arith)
at_once u (suc n) s some q = stop (settle (step u) n) (step u s) q
  where
    stop : (go : State → Step State) (made : Step State) → is_quiet made ≡ false → is_quiet (unless_quiet go made) ≡ false
    stop go (Quiet s) q = cc
    stop go (Makes event after) q = refl
    stop go (Ends finish) q = refl

begin_loud : (u : UnitParts) (n : ℕ) (room : Bool) (s : State) (function site : ℕ) (body : Option (List Task)) (k : List Task) → 0 < n → is_quiet (unless_quiet (settle (step u) n) (begins room s function site body k)) ≡ false
begin_loud u n true s function site None k some = at_once u n _ some refl
begin_loud u n true s function site (Some body) k some = refl
begin_loud u n false s function site body k some = at_once u n _ some refl

loud : (u : UnitParts) (k : List Task) (s : State) → is_quiet (settle (step u) (turns k) (record s { todo = k })) ≡ false
loud u [] s = refl
loud u (Call function site ∷ k) s = at_once u (turns k) (record s { todo = Check ∷ Begin function site ∷ k }) (turns_some k) refl
loud u (Check ∷ k) s = refl
loud u (Begin function site ∷ k) s =
    begin_loud u (turns k) (nat_lt (length s.frames) frame_limit) (record s { todo = Begin function site ∷ k }) function site (tasks_of u function) k (turns_some k)
loud u (Meet function ∷ k) s = refl
loud u (Give number ∷ k) s = loud u k (record s { value = number })
loud u (Leaving ∷ k) s = refl
loud u (Fail kind ∷ k) s = refl
loud u (Deliver ∷ k) s = refl
loud u (Tell ∷ k) s = refl
loud u (Halting finish ∷ k) s = refl
loud u (Finished finish ∷ k) s = refl

-- each state comes to an event or to its finish
pub settles_loud : (u : UnitParts) (s : State) → is_quiet (settles u s) ≡ false
settles_loud u s = loud u s.todo s

-- what a step of one of 64 threads shows is in the table
abbrev Low : Step State → Type 0
Low (Quiet s) = s.number < 64
Low (Makes event after) = IsInTable event
Low (Ends finish) = Unit {0}

begin_low : (room : Bool) (s : State) (function site : ℕ) (body : Option (List Task)) (k : List Task) → s.number < 64 → Low (begins room s function site body k)
begin_low true s function site None k low = low
begin_low true s function site (Some body) k low = tt
begin_low false s function site body k low = low

acts_low : (u : UnitParts) (todo : List Task) (s : State) → s.number < 64 → Low (acts u todo s)
acts_low u [] s low = tt
acts_low u (Call function site ∷ k) s low = low
acts_low u (Check ∷ k) s low = omega arith
acts_low u (Begin function site ∷ k) s low =
    begin_low (nat_lt (length s.frames) frame_limit) s function site (tasks_of u function) k low
acts_low u (Meet function ∷ k) s low = tt
acts_low u (Give number ∷ k) s low = low
acts_low u (Leaving ∷ k) s low = tt
acts_low u (Fail kind ∷ k) s low = tt
acts_low u (Deliver ∷ k) s low = omega arith
acts_low u (Tell ∷ k) s low = omega arith
acts_low u (Halting finish ∷ k) s low = omega arith
acts_low u (Finished finish ∷ k) s low = tt

unless_low : (go : State → Step State) → ((s : State) → s.number < 64 → Low (go s)) → (made : Step State) → Low made → Low (unless_quiet go made)
unless_low go on (Quiet s) low = on s low
unless_low go on (Makes event after) low = low
unless_low go on (Ends finish) low = low

settle_low : (u : UnitParts) (n : ℕ) (s : State) → s.number < 64 → Low (settle (step u) n s)
settle_low u zero s low = low
settle_low u (suc n) s low = unless_low (settle (step u) n) (settle_low u n) (step u s) (acts_low u s.todo s low)

asked_low : (made : Step State) → Low made → IsInTable (asked made)
asked_low (Quiet s) low = tt
asked_low (Makes event after) low = low
asked_low (Ends finish) low = tt

same_run : (u : UnitParts) (s : State) (answers : List ℕ) (events others : List Ask) → IsRun u s events answers → IsRun u s others answers → events ≡ others
same_run u s [] [] [] a b = refl
same_run u s [] [] (other ∷ others) a b = absurd b
same_run u s [] (event ∷ events) others a b = absurd a
same_run u s (word ∷ words) [] others a b = absurd a
same_run u s (word ∷ words) (event ∷ events) [] a b = absurd b
same_run u s (word ∷ words) (event ∷ events) (other ∷ others) a b =
    let e : event ≡ other = sym a.0 ∙ b.0 in
    let rest : events ≡ others = same_run u (after u s word) words events others a.2 b.2 in
    cc

pub is_deterministic : (u : UnitParts) → IsDeterministic u
is_deterministic u = record {
  decided = settles_loud u;
  in_table = λ s low. asked_low (settles u s) (settle_low u (turns s.todo) s low);
  same = same_run u;
}
