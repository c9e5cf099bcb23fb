-- What is kept along a trace goes on by each event as the folds of the trace do.
use Rattle.std.proofs.Common.{◌≡◌, refl, sym, ap, ◌∙◌, arith, ℕ, zero, suc, ◌+◌, ◌-◌, ◌<◌, ◌≤◌, Bool, true, false, not, nat_lt, nat_eq, ◌&&◌, if◌then◌else◌, List, [], ◌∷◌, ◌++◌, length, drop, take}
use Rattle.std.proofs.lemmas.Bool.{ltb-true, ltb-false}
use Rattle.core_unit.specs.Units.{row_target}
use Rattle.ctx_set.specs.declared.steps.StackStep.{StackStep}
use Rattle.mcode.specs.declared.events.Ask.{Ask}
use Rattle.mcode.specs.declared.events.Ask.TheVariants.{Load, Store, Exchange, FetchAdd, FetchSub, Enter, Leave, Reach, Create, Out, Trap, Over}
use Rattle.rt_ctx.specs.Frames.{Act, Disables, Enables, frames, disabled}
use Rattle.src_model.specs.Outputs.{bytes_of, output_room, output, dropped}
use Rattle.src_model.specs.Runs.{Setting, is_report_place, report_stacks}
use Rattle.src_model.specs.Traces.{with_act, acts_of, disable_row, enable_row, stack_of_event}
use Rattle.src_model.specs.declared.runs.Made.{Made}
use Rattle.thread_run.specs.Detecting.{framed, disabled_by, is_report, is_refused}
use Rattle.thread_run.specs.UnderWay.{one_if}
use Rattle.thread_run.specs.Writing.{Written, written}
use Rattle.thread_run.specs.declared.judged.Judged.{Judged}
use Rattle.thread_run.specs.declared.judged.Judged.TheVariants.{Passed, Suppressed, Reported, Refused}

reach_frames : (a b : Bool) (acts : List Act) → frames (if a then Disables ∷ acts else if b then Enables ∷ acts else acts) ≡ frames acts
reach_frames true b acts = refl
reach_frames false true acts = refl
reach_frames false false acts = refl

reach_disabled : (a b : Bool) (acts : List Act) → disabled (if a then Disables ∷ acts else if b then Enables ∷ acts else acts) ≡ (if a then disabled acts + 1 else if b then disabled acts - 1 else disabled acts)
reach_disabled true b acts = refl
reach_disabled false true acts = refl
reach_disabled false false acts = refl

pub frames_follow : (event : Ask) (acts : List Act) → frames (with_act event acts) ≡ framed event (frames acts)
frames_follow (Enter function site) acts = refl
frames_follow Leave acts = refl
frames_follow (Reach target site) acts = reach_frames (nat_eq target (row_target disable_row)) (nat_eq target (row_target enable_row)) acts
frames_follow (Load at) acts = refl
frames_follow (Store at word) acts = refl
frames_follow (Exchange at old new) acts = refl
frames_follow (FetchAdd at n) acts = refl
frames_follow (FetchSub at n) acts = refl
frames_follow (Create function argument) acts = refl
frames_follow (Out byte) acts = refl
frames_follow (Trap kind) acts = refl
frames_follow (Over finish) acts = refl

pub disabled_follow : (event : Ask) (acts : List Act) → disabled (with_act event acts) ≡ disabled_by event (disabled acts)
disabled_follow (Enter function site) acts = refl
disabled_follow Leave acts = refl
disabled_follow (Reach target site) acts = reach_disabled (nat_eq target (row_target disable_row)) (nat_eq target (row_target enable_row)) acts
disabled_follow (Load at) acts = refl
disabled_follow (Store at word) acts = refl
disabled_follow (Exchange at old new) acts = refl
disabled_follow (FetchAdd at n) acts = refl
disabled_follow (FetchSub at n) acts = refl
disabled_follow (Create function argument) acts = refl
disabled_follow (Out byte) acts = refl
disabled_follow (Trap kind) acts = refl
disabled_follow (Over finish) acts = refl

disabled_bool : (a b : Bool) (d n : ℕ) → d ≤ n → (if a then d + 1 else if b then d - 1 else d) ≤ suc n
disabled_bool true b d n h = omega (arith, h)
disabled_bool false true d n h = omega (arith, h)
disabled_bool false false d n h = omega (arith, h)

-- it was disabled no more often than there were events
pub disabled_few : (trace : List Made) → disabled (acts_of trace) ≤ length trace
disabled_few [] = omega arith
disabled_few (made ∷ before) = go made.ask (disabled_few before)
  where
    go : (event : Ask) → disabled (acts_of before) ≤ length before → disabled (with_act event (acts_of before)) ≤ suc (length before)
    go event h = rw (disabled_follow event (acts_of before)) (by_event event (disabled (acts_of before)) (length before) h)
      where
        by_event : (event : Ask) (d n : ℕ) → d ≤ n → disabled_by event d ≤ suc n
        by_event (Reach target site) d n h = disabled_bool (nat_eq target (row_target disable_row)) (nat_eq target (row_target enable_row)) d n h
        by_event (Enter function site) d n h = omega (arith, h)
        by_event Leave d n h = omega (arith, h)
        by_event (Load at) d n h = omega (arith, h)
        by_event (Store at word) d n h = omega (arith, h)
        by_event (Exchange at old new) d n h = omega (arith, h)
        by_event (FetchAdd at m) d n h = omega (arith, h)
        by_event (FetchSub at m) d n h = omega (arith, h)
        by_event (Create function argument) d n h = omega (arith, h)
        by_event (Out byte) d n h = omega (arith, h)
        by_event (Trap kind) d n h = omega (arith, h)
        by_event (Over finish) d n h = omega (arith, h)

more_counted : (judged : Judged) (report : Bool) (stack : List StackStep) (stacks : List (List StackStep)) → is_report judged ≡ report →
    length stacks + one_if (is_report judged && not (is_refused judged)) ≡ length (if is_refused judged then drop 1 (if report then stack ∷ stacks else stacks) else (if report then stack ∷ stacks else stacks))
more_counted Passed false stack stacks e = omega arith
more_counted Suppressed false stack stacks e = omega arith
more_counted Reported true stack stacks e = omega arith
more_counted Refused true stack stacks e = omega arith
more_counted Passed true stack stacks e = cc
more_counted Suppressed true stack stacks e = cc
more_counted Reported false stack stacks e = cc
more_counted Refused false stack stacks e = cc

pub reports_follow : (w : Setting) (before : List Made) (event : Ask) (word : ℕ) (judged : Judged) (count : ℕ) → count ≡ length (report_stacks w before) → is_report judged ≡ is_report_place w before event →
    count + one_if (is_report judged && not (is_refused judged)) ≡ length (if is_refused judged then drop 1 (report_stacks w (record { ask = event; word = word } ∷ before)) else report_stacks w (record { ask = event; word = word } ∷ before))
reports_follow w before event word judged count e r =
    ap (λ n. n + one_if (is_report judged && not (is_refused judged))) e ∙ more_counted judged (is_report_place w before event) (stack_of_event before event) (report_stacks w before) r

pub suppressed_follow : (suppressed place : Bool) (count : ℕ) → suppressed ≡ place → count + one_if suppressed ≡ (if place then 1 + count else count)
suppressed_follow true true count e = omega arith
suppressed_follow false false count e = omega arith
suppressed_follow true false count e = cc
suppressed_follow false true count e = cc

no_more : {X : Type 0} (xs : List X) → xs ++ [] ≡ xs
no_more [] = refl
no_more (x ∷ xs) = ap (λ ys. x ∷ ys) (no_more xs)

take_none : (n : ℕ) → take {A = ℕ} n [] ≡ []
take_none zero = refl
take_none (suc n) = refl

take_below : (n : ℕ) (xs : List ℕ) (x : ℕ) → length (take n xs) < n → take n (xs ++ x ∷ []) ≡ take n xs ++ x ∷ []
take_below zero xs x h = let clash : ⊥ = omega (arith, h) in absurd clash
take_below (suc n) [] x h = ap (λ zs. x ∷ zs) (take_none n)
take_below (suc n) (y ∷ ys) x h = ap (λ zs. y ∷ zs) (take_below n ys x (omega (arith, h)))

take_full : (n : ℕ) (xs : List ℕ) (x : ℕ) → n ≤ length (take n xs) → take n (xs ++ x ∷ []) ≡ take n xs
take_full zero xs x h = refl
take_full (suc n) [] x h = let clash : ⊥ = omega (arith, h) in absurd clash
take_full (suc n) (y ∷ ys) x h = ap (λ zs. y ∷ zs) (take_full n ys x (omega (arith, h)))

left_below : (n : ℕ) (xs : List ℕ) (x : ℕ) → length (take n xs) < n → length xs < n
left_below zero xs x h = let clash : ⊥ = omega (arith, h) in absurd clash
left_below (suc n) [] x h = omega arith
left_below (suc n) (y ∷ ys) x h = let less = left_below n ys x (omega (arith, h)) in omega (arith, less)

left_full : (n : ℕ) (xs : List ℕ) (x : ℕ) → n ≤ length (take n xs) → n ≤ length xs
left_full zero xs x h = omega arith
left_full (suc n) [] x h = h
left_full (suc n) (y ∷ ys) x h = let more = left_full n ys x (omega (arith, h)) in omega (arith, more)

one_longer : (xs : List ℕ) (x : ℕ) → length (xs ++ x ∷ []) ≡ suc (length xs)
one_longer [] x = refl
one_longer (y ∷ ys) x = ap suc (one_longer ys x)

byte_room : (n : ℕ) (bytes : List ℕ) (byte : ℕ) (room : Bool) → nat_lt (length (take n bytes)) n ≡ room →
    ◌≡◌ {A = Written} (if room then record { kept = take n bytes ++ byte ∷ []; dropped = length bytes - n } else record { kept = take n bytes; dropped = length bytes - n + 1 })
    (record { kept = take n (bytes ++ byte ∷ []); dropped = length (bytes ++ byte ∷ []) - n })
byte_room n bytes byte true e =
    let low : length (take n bytes) < n = ltb-true (length (take n bytes)) n e in
    let less = left_below n bytes byte low in
    let count : length bytes - n ≡ length (bytes ++ byte ∷ []) - n = omega (arith, less, one_longer bytes byte) in
    rw (take_below n bytes byte low, count) refl
byte_room n bytes byte false e =
    let high : n ≤ length (take n bytes) = ltb-false (length (take n bytes)) n e in
    let more = left_full n bytes byte high in
    let count : length bytes - n + 1 ≡ length (bytes ++ byte ∷ []) - n = omega (arith, more, one_longer bytes byte) in
    rw (take_full n bytes byte high, count) refl

-- what is kept of the bytes
abbrev of_bytes : List ℕ → Written
of_bytes bytes = record { kept = take output_room bytes; dropped = length bytes - output_room }

pub output_follow : (event : Ask) (before : List Made) (word : ℕ) → ◌≡◌ {A = Written} (written event (record { kept = output before; dropped = dropped before })) (record { kept = output (record { ask = event; word = word } ∷ before); dropped = dropped (record { ask = event; word = word } ∷ before) })
output_follow (Out byte) before word = byte_room output_room (bytes_of before) byte (nat_lt (length (take output_room (bytes_of before))) output_room) refl
output_follow (Load at) before word = ap of_bytes (sym (no_more (bytes_of before)))
output_follow (Store at stored) before word = ap of_bytes (sym (no_more (bytes_of before)))
output_follow (Exchange at old new) before word = ap of_bytes (sym (no_more (bytes_of before)))
output_follow (FetchAdd at n) before word = ap of_bytes (sym (no_more (bytes_of before)))
output_follow (FetchSub at n) before word = ap of_bytes (sym (no_more (bytes_of before)))
output_follow (Enter function site) before word = ap of_bytes (sym (no_more (bytes_of before)))
output_follow Leave before word = ap of_bytes (sym (no_more (bytes_of before)))
output_follow (Reach target site) before word = ap of_bytes (sym (no_more (bytes_of before)))
output_follow (Create function argument) before word = ap of_bytes (sym (no_more (bytes_of before)))
output_follow (Trap kind) before word = ap of_bytes (sym (no_more (bytes_of before)))
output_follow (Over finish) before word = ap of_bytes (sym (no_more (bytes_of before)))
