-- What is counted along a trace is no more than its events.
use Rattle.std.proofs.Common.{◌≡◌, arith, ℕ, suc, ◌+◌, ◌≤◌, Bool, true, false, nat_eq, if◌then◌else◌, List, [], ◌∷◌, ◌++◌, length}
use Rattle.mcode.specs.Memory.{halt}
use Rattle.mcode.specs.declared.events.Ask.{Ask}
use Rattle.mcode.specs.declared.events.Ask.TheVariants.{Load, Store, Exchange, FetchAdd, FetchSub, Enter, Leave, Reach, Create, Out, Trap, Over}
use Rattle.mcode.specs.declared.events.Turned.{Turned}
use Rattle.mcode.specs.declared.events.Turned.TheVariants.{Went, FailedTry}
use Rattle.src_model.specs.Outputs.{byte_of, bytes_of, dropped}
use Rattle.src_model.specs.Runs.{Setting, Start, is_report_place, is_suppressed_place, report_stacks, tries_with, tries_after, state_after}
use Rattle.src_model.specs.Source.{turned}
use Rattle.src_model.specs.Totals.{suppressed_in}
use Rattle.src_model.specs.Traces.{stack_of_event}
use Rattle.src_model.specs.declared.runs.Made.{Made}

more_if : {X : Type 0} (b : Bool) (x : X) (xs : List X) (n : ℕ) → length xs ≤ n → length (if b then x ∷ xs else xs) ≤ suc n
more_if true x xs n h = omega (arith, h)
more_if false x xs n h = omega (arith, h)

pub reports_few : (w : Setting) (trace : List Made) → length (report_stacks w trace) ≤ length trace
reports_few w [] = omega arith
reports_few w (made ∷ before) = more_if (is_report_place w before made.ask) (stack_of_event before made.ask) (report_stacks w before) (length before) (reports_few w before)

one_if_more : (b : Bool) (m n : ℕ) → m ≤ n → (if b then 1 + m else m) ≤ suc n
one_if_more true m n h = omega (arith, h)
one_if_more false m n h = omega (arith, h)

pub suppressed_few : (w : Setting) (trace : List Made) → suppressed_in w trace ≤ length trace
suppressed_few w [] = omega arith
suppressed_few w (made ∷ before) = one_if_more (is_suppressed_place w before made.ask) (suppressed_in w before) (length before) (suppressed_few w before)

long : (xs ys : List ℕ) → length (xs ++ ys) ≡ length xs + length ys
long [] ys = omega arith
long (x ∷ xs) ys = let rest = long xs ys in omega (arith, rest)

one_byte : (ask : Ask) → length (byte_of ask) ≤ 1
one_byte (Load at) = omega arith
one_byte (Store at stored) = omega arith
one_byte (Exchange at old new) = omega arith
one_byte (FetchAdd at n) = omega arith
one_byte (FetchSub at n) = omega arith
one_byte (Enter function site) = omega arith
one_byte Leave = omega arith
one_byte (Reach target site) = omega arith
one_byte (Create function argument) = omega arith
one_byte (Out byte) = omega arith
one_byte (Trap kind) = omega arith
one_byte (Over finish) = omega arith

bytes_few : (trace : List Made) → length (bytes_of trace) ≤ length trace
bytes_few [] = omega arith
bytes_few (made ∷ before) =
    let before_few = bytes_few before in
    let one = one_byte made.ask in
    let both = long (bytes_of before) (byte_of made.ask) in
    omega (arith, before_few, one, both)

pub dropped_few : (trace : List Made) → dropped trace ≤ length trace
dropped_few trace = let few = bytes_few trace in omega (arith, few)

try_if : (b : Bool) (n : ℕ) → (if b then n else 0) ≤ suc n
try_if true n = omega arith
try_if false n = omega arith

try_few : (turned : Turned) (ask : Ask) (n : ℕ) → tries_with turned ask n ≤ suc n
try_few FailedTry ask n = omega arith
try_few Went (Load at) n = try_if (nat_eq at halt) n
try_few Went (Store at stored) n = omega arith
try_few Went (Exchange at old new) n = omega arith
try_few Went (FetchAdd at m) n = omega arith
try_few Went (FetchSub at m) n = omega arith
try_few Went (Enter function site) n = omega arith
try_few Went Leave n = omega arith
try_few Went (Reach target site) n = omega arith
try_few Went (Create function argument) n = omega arith
try_few Went (Out byte) n = omega arith
try_few Went (Trap kind) n = omega arith
try_few Went (Over finish) n = omega arith

pub tries_few : (w : Setting) (begin : Start) (trace : List Made) → tries_after w begin trace ≤ length trace
tries_few w begin [] = omega arith
tries_few w begin (made ∷ before) =
    let few = tries_few w begin before in
    let one = try_few (turned w.unit (state_after w begin before) made.word) made.ask (tries_after w begin before) in
    omega (arith, few, one)
