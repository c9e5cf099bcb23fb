-- The plain machine, tried on code that is written down by hand.
use Rattle.std.proofs.Common.{◌≡◌, refl, codes, ℕ, zero, suc, ◌+◌, ◌*◌, ◌^◌, Bool, true, false, List, [], ◌∷◌, ◌++◌, Option, Some, nat_eq, if◌then◌else◌, pos}
use Rattle.arithmetic.specs.declared.operations.Operation.TheVariants.{Arithmetic}
use Rattle.arithmetic.specs.declared.traps.TrapKind.{TrapKind}
use Rattle.arithmetic.specs.declared.traps.TrapKind.TheVariants.{BadWord, NullCall, StackOverflow, NoreturnReturned, NoValue}
use Rattle.core_unit.specs.Words.{packed}
use Rattle.core_unit.specs.declared.operators.ArithmeticOperator.TheVariants.{Add, Remainder}
use Rattle.core_unit.specs.declared.operators.Sign.TheVariants.{Signed}
use Rattle.core_unit.specs.declared.words.Word.TheVariants.{Zero, Number, DataPointer, FunctionPointer}
use Rattle.eff_types.specs.declared.levels.Level.TheVariants.{Plain, NonBlocking}
use Rattle.mcode.specs.Machine.{Program, Machine, machine_next, machine_after, machine_turned, machine_start, machine_cut}
use Rattle.mcode.specs.Words.{unpacked}
use Rattle.mcode.specs.declared.code.Entry.{Entry}
use Rattle.mcode.specs.declared.code.Instruction.{Instruction}
use Rattle.mcode.specs.declared.code.Instruction.TheVariants as i
use Rattle.mcode.specs.declared.code.Served.TheVariants as served
use Rattle.mcode.specs.declared.events.Ask.{Ask}
use Rattle.mcode.specs.declared.events.Ask.TheVariants.{Load, Store, Exchange, Enter, Leave, Reach, Trap, Over}
use Rattle.mcode.specs.declared.events.Finish.TheVariants.{Returned, Exited, Trapped, Halted}
use Rattle.mcode.specs.declared.events.Turned.TheVariants.{Went, FailedTry}
use Rattle.mcode.specs.declared.stages.Stage.TheVariants.{TryLock}
use Rattle.mcode.specs.declared.thread.Mode.TheVariants.{Calling}

-- a word that was stored, the latest first; the others are 0
pub record Cell : Type 0 where
  pub at : ℕ
  pub word : ℕ

abbrev word_at : List Cell → ℕ → ℕ
word_at [] at = 0
word_at (cell ∷ cells) at = if nat_eq cell.at at then cell.word else word_at cells at

abbrev answer_of : List Cell → Ask → ℕ
answer_of cells (Load at) = word_at cells at
answer_of cells (Exchange at old new) = word_at cells at
answer_of cells _ = 0

abbrev cells_after : List Cell → Ask → List Cell
cells_after cells (Store at word) = record { at = at; word = word } ∷ cells
cells_after cells (Exchange at old new) = if nat_eq (word_at cells at) old then record { at = at; word = new } ∷ cells else cells
cells_after cells _ = cells

abbrev along : Program → (Machine → Ask → List Ask) → Machine → List Ask
along c go t = go t (machine_next c t)

-- the events of a thread, at most so many, and its finish
abbrev follow : Program → ℕ → List Cell → Machine → Ask → List Ask
follow c zero cells t event = []
follow c (suc n) cells t (Over finish) = Over finish ∷ []
follow c (suc n) cells t event = event ∷ along c (follow c n (cells_after cells event)) (machine_after c t (answer_of cells event))

abbrev events : ℕ → Program → (function : ℕ) → List Ask
events most c function = along c (follow c most []) (machine_start 0 function [])

abbrev entry : (place frame signature : ℕ) → Option Entry
entry place frame signature =
    Some (record { place = place; frame_words = frame; signature = signature; noreturn = false; falls = false; gives_number = true; result_level = Plain })

abbrev program : List (Option Entry) → List Instruction → Program
program entries instructions = record { instructions = instructions; texts = codes "hi"; entries = entries; entry = 0; static_words = 8 }

-- int f0(int x) { return x + 1; }
abbrev code_of_f0 : List Instruction
code_of_f0 =
    i.Bind 0 0 Plain ∷ i.Forget 1 ∷ i.SetLocal 0 ∷ i.LoadAs served.Number ∷ i.HoldValue ∷ i.SetValue (Number 1) ∷ i.Apply (Arithmetic Add Signed)
    ∷ i.LeaveFunction ∷ i.FallOff ∷ i.LeaveFunction ∷ []

-- int main(void) { int s = 0; s = s + f0(0) % 100; return s % 256; }
abbrev code_of_main : List Instruction
code_of_main =
    i.Forget 0 ∷ i.SetValue Zero ∷ i.Put 0 Plain
    ∷ i.SetLocal 0 ∷ i.HoldValue ∷ i.SetLocal 0 ∷ i.LoadAs served.Number ∷ i.HoldValue ∷ i.SetValue Zero ∷ i.HoldValue ∷ i.CheckHalt ∷ i.EnterFunction 0 1
    ∷ i.HoldValue ∷ i.SetValue (Number 100) ∷ i.Apply (Arithmetic Remainder Signed) ∷ i.Apply (Arithmetic Add Signed) ∷ i.StoreAs Plain
    ∷ i.SetLocal 0 ∷ i.LoadAs served.Number ∷ i.HoldValue ∷ i.SetValue (Number 256) ∷ i.Apply (Arithmetic Remainder Signed) ∷ i.LeaveFunction
    ∷ i.FallOff ∷ i.LeaveFunction ∷ []

-- Its thirteen events.
generated_events : events 20 (program (entry 0 1 0 ∷ entry 10 1 1 ∷ []) (code_of_f0 ++ code_of_main)) 1
    ≡ Load (2 ^ 20) ∷ Enter 1 0 ∷ Store 1033 0 ∷ Load 1033 ∷ Load (2 ^ 20) ∷ Enter 0 1 ∷ Store 1034 0 ∷ Load 1034 ∷ Leave ∷ Store 1033 (packed (Number 1))
    ∷ Load 1033 ∷ Leave ∷ Store (2 ^ 20) 1 ∷ Over (Exited (pos 1)) ∷ []
unfolding packed unpacked
generated_events = refl

-- int main(void) { while (1) ; }
endless_events : events 6 (program (entry 0 0 0 ∷ []) (i.Forget 0 ∷ i.CheckHalt ∷ i.SetValue (Number 1) ∷ i.GoIfZero 5 ∷ i.GoTo 1 ∷ i.FallOff ∷ [])) 0
    ≡ Load (2 ^ 20) ∷ Enter 0 0 ∷ Load (2 ^ 20) ∷ Load (2 ^ 20) ∷ Load (2 ^ 20) ∷ Load (2 ^ 20) ∷ []
unfolding packed unpacked
endless_events = refl

-- A pointer to a function is stored at the level of a plain type, and loaded at a nonblocking one, or at its own and called.
abbrev through : Instruction → Program
through load = program (entry 0 1 0 ∷ entry 10 0 1 ∷ [])
    (i.Forget 0 ∷ i.SetValue (FunctionPointer 1 Plain) ∷ i.Put 0 Plain ∷ i.SetLocal 0 ∷ load ∷ i.HoldValue ∷ i.Guard 0 ∷ i.CheckHalt ∷ i.EnterThrough 0 1
    ∷ i.LeaveFunction ∷ i.Forget 0 ∷ i.SetValue (Number 3) ∷ i.LeaveFunction ∷ [])

called_through : events 20 (through (i.LoadAs (served.FunctionPointer 1 Plain))) 0
    ≡ Load (2 ^ 20) ∷ Enter 0 0 ∷ Store 1033 (4 * 2 ^ 60 + 1) ∷ Load 1033 ∷ Load (2 ^ 20) ∷ Enter 1 1 ∷ Leave ∷ Leave ∷ Store (2 ^ 20) 1 ∷ Over (Exited (pos 3)) ∷ []
unfolding packed unpacked
called_through = refl

level_in_a_word : events 20 (through (i.LoadAs (served.FunctionPointer 1 NonBlocking))) 0
    ≡ Load (2 ^ 20) ∷ Enter 0 0 ∷ Store 1033 (4 * 2 ^ 60 + 1) ∷ Load 1033 ∷ Trap BadWord ∷ Store (2 ^ 20) 1 ∷ Over (Trapped BadWord) ∷ []
unfolding packed unpacked
level_in_a_word = refl

-- char s[4] = "hi"; is a text and zeros.
text_events : events 20 (program (entry 0 4 0 ∷ []) (i.Forget 0 ∷ i.FillText 0 0 2 ∷ i.Fill 2 0 2 ∷ i.FillText 0 1 0 ∷ i.SetValue Zero ∷ i.LeaveFunction ∷ [])) 0
    ≡ Load (2 ^ 20) ∷ Enter 0 0 ∷ Store 1033 (packed (Number 104)) ∷ Store 1034 (packed (Number 105)) ∷ Store 1035 0 ∷ Store 1036 0 ∷ Leave
    ∷ Store (2 ^ 20) 1 ∷ Over (Exited (pos 0)) ∷ []
unfolding packed unpacked
text_events = refl

-- The mutex at address 1 is locked twice; and words are filled.
locked_events : events 13 (program (entry 0 3 0 ∷ []) (i.Forget 0 ∷ i.Fill 0 7 3 ∷ i.SetValue (DataPointer 1) ∷ i.HoldValue ∷ i.CheckHalt ∷ i.CallRow 5 1 1
    ∷ i.SetValue (DataPointer 1) ∷ i.HoldValue ∷ i.CheckHalt ∷ i.CallRow 5 2 1 ∷ [])) 0
    ≡ Load (2 ^ 20) ∷ Enter 0 0 ∷ Store 1033 7 ∷ Store 1034 7 ∷ Store 1035 7 ∷ Load (2 ^ 20) ∷ Reach 4101 1 ∷ Exchange 1 0 (5 * 2 ^ 60)
    ∷ Load (2 ^ 20) ∷ Reach 4101 2 ∷ Exchange 1 0 (5 * 2 ^ 60) ∷ Load (2 ^ 20) ∷ Exchange 1 0 (5 * 2 ^ 60) ∷ []
unfolding packed unpacked
locked_events = refl

-- void *w(void *p) { return p; } in thread 1, which tells its result and that it has returned
abbrev entry_as : (falls noreturn gives_number : Bool) → Option Entry
entry_as falls noreturn gives_number =
    Some (record { place = 0; frame_words = 1; signature = 0; noreturn = noreturn; falls = falls; gives_number = gives_number; result_level = Plain })

abbrev events_in : (number : ℕ) → Program → List ℕ → List Ask
events_in number c arguments = along c (follow c 20 []) (machine_start number 0 arguments)

delivered_events :
    events_in 1 (program (entry_as false false false ∷ []) (i.Bind 0 0 Plain ∷ i.Forget 1 ∷ i.SetLocal 0 ∷ i.LoadAs served.DataPointer ∷ i.LeaveFunction ∷ []))
    ((3 * 2 ^ 60 + 7) ∷ [])
    ≡ Load (2 ^ 20) ∷ Enter 0 0 ∷ Store 6153 (3 * 2 ^ 60 + 7) ∷ Load 6153 ∷ Leave ∷ Store (2 ^ 20 + 129) (3 * 2 ^ 60 + 7) ∷ Store (2 ^ 20 + 65) 1
    ∷ Over Returned ∷ []
unfolding packed unpacked
delivered_events = refl

-- what a body may end with: void f(void) { }, int f(void) { }, and the first one where it is marked _Noreturn
abbrev ended : Option Entry → List Ask
ended info = events_in 0 (program (info ∷ []) (i.Forget 0 ∷ i.FallOff ∷ i.LeaveFunction ∷ [])) []

abbrev trapped_after : TrapKind → List Ask → List Ask
trapped_after kind asks = Load (2 ^ 20) ∷ Enter 0 0 ∷ asks ++ Trap kind ∷ Store (2 ^ 20) 1 ∷ Over (Trapped kind) ∷ []

end_of_a_body : ended (entry_as true false false) ≡ Load (2 ^ 20) ∷ Enter 0 0 ∷ Leave ∷ Store (2 ^ 20) 1 ∷ Over (Exited (pos 0)) ∷ []
unfolding packed unpacked
end_of_a_body = refl

end_without_a_value : ended (entry_as false false true) ≡ trapped_after NoValue []
unfolding packed unpacked
end_without_a_value = refl

end_of_a_noreturn : ended (entry_as true true false) ≡ trapped_after NoreturnReturned []
unfolding packed unpacked
end_of_a_noreturn = refl

-- a blocking function; a null callee; a frame of 97 words behind one of 4,000
reached_event : events_in 0 (program (entry_as false false true ∷ []) (i.ReachFunction 0 ∷ i.Forget 0 ∷ i.SetValue Zero ∷ i.LeaveFunction ∷ [])) []
    ≡ Load (2 ^ 20) ∷ Enter 0 0 ∷ Reach 0 0 ∷ Leave ∷ Store (2 ^ 20) 1 ∷ Over (Exited (pos 0)) ∷ []
unfolding packed unpacked
reached_event = refl

null_callee : events_in 0 (program (entry_as false false true ∷ []) (i.Forget 0 ∷ i.SetValue Zero ∷ i.HoldValue ∷ i.Guard 0 ∷ [])) [] ≡ trapped_after NullCall []
unfolding packed unpacked
null_callee = refl

no_room : events 20 (program (entry 0 4000 0 ∷ entry 3 97 0 ∷ []) (i.Forget 0 ∷ i.CheckHalt ∷ i.EnterFunction 1 1 ∷ i.Forget 0 ∷ [])) 0
    ≡ trapped_after StackOverflow (Load (2 ^ 20) ∷ [])
unfolding packed unpacked
no_room = refl

-- A thread that is cut short stores 1 at the halt word, wherever it is.
abbrev endless : Program
endless = program (entry 0 0 0 ∷ []) (i.Forget 0 ∷ i.CheckHalt ∷ i.SetValue (Number 1) ∷ i.GoIfZero 5 ∷ i.GoTo 1 ∷ i.FallOff ∷ [])

abbrev shown : Machine → List Ask
shown t = machine_next endless t ∷ machine_next endless (machine_after endless t 0) ∷ []

cut_events : shown (machine_cut (machine_start 0 0 [])) ++ shown (machine_cut (machine_after endless (machine_after endless (machine_start 0 0 []) 0) 0))
    ≡ Store (2 ^ 20) 1 ∷ Over Halted ∷ Store (2 ^ 20) 1 ∷ Over Halted ∷ []
unfolding packed unpacked
cut_events = refl

-- A try that finds the mutex held failed, and one that finds it free didn't.
abbrev trying : Machine
trying = record (machine_start 0 0 []) { mode = Calling (TryLock 1) }

tried : machine_turned endless trying (5 * 2 ^ 60) ∷ machine_turned endless trying 0 ∷ [] ≡ FailedTry ∷ Went ∷ []
unfolding packed unpacked
tried = refl
