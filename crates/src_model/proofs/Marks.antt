-- The ending of a thread tells whether the board refused its last event; so a thread of a run is told by its start, its trace and its ending.
use Rattle.std.proofs.Common.{◌≡◌, refl, sym, ap, ◌∙◌, ℕ, Bool, true, false, ◌||◌, List, length, Some, None, nat_le, nat_lt, if◌then◌else◌}
use Rattle.mcode.specs.declared.events.Ask.{Ask}
use Rattle.mcode.specs.declared.events.Ask.TheVariants.{Over}
use Rattle.mcode.specs.declared.events.Finish.{Finish}
use Rattle.mcode.specs.declared.events.Finish.TheVariants as finish
use Rattle.src_model.specs.Runs.{Setting, Start, Thread, end_by, is_ending, ending, ending_after, is_full, ended, next_after, tries_after, IsThreadRun}
use Rattle.src_model.specs.declared.runs.End.{End}
use Rattle.src_model.specs.declared.runs.End.TheVariants.{Stopped, Waiting, Full}
use Rattle.src_model.specs.declared.runs.Made.{Made}
use Rattle.src_model.specs.declared.runs.Options.{Options}

not_full : (f : Finish) → is_full (end_by f) ≡ false
not_full finish.Returned = refl
not_full (finish.Exited status) = refl
not_full (finish.Trapped kind) = refl
not_full finish.Halted = refl

other_if : (waits goes : Bool) (end : End) → (if waits then Some Waiting else if goes then None else Some Stopped) ≡ Some end → is_full end ≡ false
other_if true goes end e = let same : Waiting ≡ end = cc in ap is_full (sym same)
other_if false true end e = let clash : ⊥ = cc in absurd clash
other_if false false end e = let same : Stopped ≡ end = cc in ap is_full (sym same)

other_ending : (options : Options) (event : Ask) (made tries : ℕ) (end : End) → ending options event made tries ≡ Some end → is_full end ≡ false
other_ending options (Over f) made tries end e = let same : end_by f ≡ end = cc in ap is_full (sym same) ∙ not_full f
other_ending options event made tries end e = other_if (nat_le options.wait_limit tries) (is_ending event || nat_lt made options.events) end e

mark_by : (w : Setting) (begin : Start) (trace : List Made) (b : Bool) (end : End) → ending_after w begin b trace ≡ Some end → b ≡ is_full end
mark_by w begin trace true end e = let same : Full ≡ end = cc in ap is_full same
mark_by w begin trace false end e = sym (other_ending w.options (next_after w begin trace) (length trace) (tries_after w begin trace) end e)

pub mark_is_full : (w : Setting) (t : Thread) → IsThreadRun w t → t.refused ≡ is_full t.end
mark_is_full w t run = mark_by w t.begin t.trace t.refused t.end run.ends

pub is_ended : (w : Setting) (t : Thread) → IsThreadRun w t → t ≡ ended t.begin t.trace t.end
is_ended w t run = ap (λ (b : Bool). record t { refused = b }) (mark_is_full w t run)
