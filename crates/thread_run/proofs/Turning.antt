-- What a slice answers where it stops: before an event, or behind one.
use Rattle.std.proofs.Common.{◌≡◌, refl, sym, ap, ◌∙◌, subst, arith, ℕ, suc, ◌+◌, ◌<◌, ◌≤◌, Bool, true, false, length, Option, Some, None, is_some}
use Rattle.mcode.specs.declared.events.Ask.{Ask}
use Rattle.reports.specs.Passes.{Held as BoardHeld}
use Rattle.thread_run.proofs.Growing.{IsSliced, open_here, went_more, tried_some}
use Rattle.thread_run.specs.Slices.{IsMade, WentOn, IsTurn, has_tried, made_since}
use Rattle.thread_run.specs.Threads.{Progress, end_of, next_event, is_creation, is_last_a_try}
use Rattle.thread_run.specs.declared.turn.Turn.TheVariants.{Tried}
use Rattle.word_mem.specs.Held.{Held as WordsHeld}

none_of : {X : Type 0} (o : Option X) → is_some o ≡ false → o ≡ None
none_of None e = refl
none_of (Some x) e = cc

-- a thread that hasn't ended has no ending
pub going_on : (p : Progress) → is_some (end_of p) ≡ false → end_of p ≡ None
going_on p e = none_of (end_of p) e

module _ (exact : Bool) (events made : ℕ) (old p : Progress) (h hp : WordsHeld) (l lp : ℕ) (b bp : BoardHeld) (s : IsSliced exact events made old p h hp l lp b bp) where
  -- fewer than it is to make, where these aren't all
  pub less_here : (made ≡ events → ⊥) → made < events
  less_here apart = omega (arith, s.few, apart)

  module _ (less : made < events) (ask : Ask) (q : Progress) (hq : WordsHeld) (lq : ℕ) (bq : BoardHeld) (m : IsMade exact ask p q hp hq lp lq bp bq) where
    -- one event more was made
    pub went_one : WentOn exact old q h hq l lq b bq
    went_one = went_more exact ask old p q h hp hq l lp lq b bp bq s.went (open_here p s.going) m

    one_many : made_since old q ≡ made + 1
    one_many = let longer : length q.trace ≡ suc (length p.trace) = ap (λ (x : Progress). length x.trace) m.made in omega (arith, longer, s.count)

    pub one_few : made_since old q ≤ events
    one_few = let same = one_many in omega (arith, same, less)

    pub turns_tried : end_of q ≡ None → is_last_a_try q.world q.begin q.trace ≡ true → is_creation (next_event q) ≡ false → IsTurn Tried events (made_since old q) q
    turns_tried going tried parted = (going, subst (λ n. has_tried q n ≡ true) (sym one_many) (tried_some made (is_last_a_try q.world q.begin q.trace) ∙ tried), parted)
