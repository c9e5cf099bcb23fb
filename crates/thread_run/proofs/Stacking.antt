-- The stack of a report can be counted: it has a step at least and 257 at most, each of a function and a call site that there can be.
use Rattle.std.proofs.Common.{◌≡◌, refl, sym, ap, subst, arith, ℕ, suc, ◌-◌, ◌<◌, ◌≤◌, ◌==◌, Bool, true, false, not, nat_lt, ◌&&◌, if◌then◌else◌, List, [], ◌∷◌, ◌++◌, length, reverse, Option, Some, None, All, slice_get}
use Rattle.std.proofs.lemmas.List.Elements.{All-append, All-cons, All-head, All-nil, All-tail}
use Rattle.std.proofs.lemmas.List.{length-reverse, reverse-append}
use Rattle.std.proofs.lemmas.Bool.{ltb-true, ltb-false}
use Rattle.std.proofs.lemmas.Option.{slice_get_within}
use Rattle.std.specs.Option.{option_map_or}
use Rattle.core_unit.specs.Library.{Row, rows}
use Rattle.core_unit.specs.declared.tables.UnitParts.{UnitParts}
use Rattle.ctx_set.specs.declared.steps.StackStep.{StackStep}
use Rattle.mcode.specs.declared.events.Ask.{Ask}
use Rattle.mcode.specs.declared.events.Ask.TheVariants.{Load, Store, Exchange, FetchAdd, FetchSub, Enter, Leave, Reach, Create, Out, Trap, Over}
use Rattle.mcode.specs.declared.thread.Caller.{Caller}
use Rattle.reports.specs.Stacks.{IsStep, IsStack}
use Rattle.rt_ctx.specs.Places.{is_row, is_blocking, is_real_time, is_detected, stack_at}
use Rattle.rt_ctx.specs.Suppressing.{is_suppressed}
use Rattle.suppress.specs.declared.suppressions.Suppression.{Suppression}
use Rattle.thread_run.proofs.Machines.{IsLow}
use Rattle.thread_run.specs.Detecting.{Seen, depth_of, IsCounted, is_report_at, stack_for}

left_true : (a b : Bool) → (a && b) ≡ true → a ≡ true
left_true true b h = refl
left_true false b h = h

right_true : (a b : Bool) → (a && b) ≡ true → b ≡ true
right_true true b h = h
right_true false b h = cc

all_two : (P : StackStep → Type 0) (xs : List StackStep) (x : StackStep) → All P xs → P x → All P (xs ++ x ∷ [])
all_two P xs x h p = All-append P xs (x ∷ []) h (All-cons P x [] p (All-nil P))

one_longer : (xs : List StackStep) (x : StackStep) → length (xs ++ x ∷ []) ≡ suc (length xs)
one_longer [] x = refl
one_longer (y ∷ ys) x = ap suc (one_longer ys x)

row_within : (found : Option Row) (n : ℕ) → slice_get rows n ≡ found → option_map_or (λ r. r.intercepted) found false ≡ true → n < 15
row_within (Some row) n e h = let within = slice_get_within rows n row e in omega (arith, within)
row_within None n e h = cc

row_low : (u : UnitParts) (target : ℕ) (low : Bool) → nat_lt target 4096 ≡ low → is_blocking u target ≡ true → not low ≡ true → target < 8192
row_low u target true e h r = cc
row_low u target false e h r =
    let within : target - 4096 < 15 = row_within (slice_get rows (target - 4096)) (target - 4096) refl (subst (λ b. (if b then option_map_or (λ f. f.kind.effects.no_block_inference) (slice_get u.functions target) false else option_map_or (λ r. r.intercepted) (slice_get rows (target - 4096)) false) ≡ true) e h) in
    let high : 4096 ≤ target = ltb-false target 4096 e in
    omega (arith, within, high)

some_frame : (u : UnitParts) (frames : List StackStep) → 0 < depth_of u frames → 0 < length frames
some_frame u [] h = h
some_frame u (step ∷ frames) h = omega arith

stack_if : (row : Bool) (frames : List StackStep) (step : StackStep) → 0 < length frames → length frames ≤ 256 → All IsStep (reverse frames) → (row ≡ true → IsStep step) → IsStack (if row then reverse frames ++ step ∷ [] else reverse frames)
stack_if true frames step some few steps low =
    let n = length-reverse frames in
    let m = one_longer (reverse frames) step in
    record {
      some = omega (arith, n, m);
      few = omega (arith, n, m, few);
      steps = all_two IsStep (reverse frames) step steps (low refl);
    }
stack_if false frames step some few steps low =
    let n = length-reverse frames in
    record {
      some = omega (arith, n, some);
      few = omega (arith, n, few);
      steps = steps;
    }

all_reverse : (xs : List StackStep) → All IsStep xs → All IsStep (reverse xs)
all_reverse [] h = h
all_reverse (x ∷ xs) h = subst (All IsStep) (sym (reverse-append (x ∷ []) xs)) (all_two IsStep (reverse xs) x (all_reverse xs (All-tail IsStep x xs h)) (All-head IsStep x xs h))

pub stack_fits : (u : UnitParts) (entries : List Suppression) (seen : Seen) (callers : List Caller) (event : Ask) → IsLow callers event → All IsStep seen.frames → length seen.frames ≤ 256 → IsCounted u seen → is_report_at u entries seen event ≡ true → IsStack (stack_for seen event)
stack_fits u entries seen callers (Reach target site) low steps few counted h =
    let detected : is_detected u seen.context target ≡ true = left_true (is_detected u seen.context target) (not (is_suppressed u entries (stack_at seen.frames target site) target)) h in
    let reach : (is_blocking u target && is_real_time seen.context) ≡ true = left_true (is_blocking u target && is_real_time seen.context) (seen.context.disabled == 0) detected in
    let blocking : is_blocking u target ≡ true = left_true (is_blocking u target) (is_real_time seen.context) reach in
    let real_time : is_real_time seen.context ≡ true = right_true (is_blocking u target) (is_real_time seen.context) reach in
    let deep : 0 < seen.context.depth = ltb-true 0 seen.context.depth real_time in
    stack_if (is_row target) seen.frames (record { target = target; site = site })
    (some_frame u seen.frames (omega (arith, deep, counted))) few (all_reverse seen.frames steps)
    (λ r. record { function = row_low u target (nat_lt target 4096) refl blocking r; call = low })
stack_fits u entries seen callers (Enter function site) low steps few counted h = cc
stack_fits u entries seen callers Leave low steps few counted h = cc
stack_fits u entries seen callers (Load at) low steps few counted h = cc
stack_fits u entries seen callers (Store at word) low steps few counted h = cc
stack_fits u entries seen callers (Exchange at old new) low steps few counted h = cc
stack_fits u entries seen callers (FetchAdd at n) low steps few counted h = cc
stack_fits u entries seen callers (FetchSub at n) low steps few counted h = cc
stack_fits u entries seen callers (Create function argument) low steps few counted h = cc
stack_fits u entries seen callers (Out byte) low steps few counted h = cc
stack_fits u entries seen callers (Trap kind) low steps few counted h = cc
stack_fits u entries seen callers (Over finish) low steps few counted h = cc
