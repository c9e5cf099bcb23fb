-- The printed text of a thread: how it ended, and what it wrote (this project's own texts).
use Rattle.std.specs.Prelude.{ℕ, ◌-◌, ◌==◌, if◌then◌else◌, List, [], ◌∷◌, ◌++◌, length, slice_index, codes, decimal}
use Rattle.std.specs.Fmt.{signed_decimal}
use Rattle.std.specs.List.{concat}
use Rattle.arithmetic.specs.declared.traps.TrapKind.{TrapKind}
use Rattle.arithmetic.specs.declared.traps.TrapKind.TheVariants.{NullAccess, BadAccess, BadPointer, BadWord, Overflow, Division, Shift, NullCall, StackOverflow, BadFree, BadUnlock, NoreturnReturned, NoValue, Abort}
use Rattle.src_model.specs.declared.runs.End.{End}
use Rattle.src_model.specs.declared.runs.End.TheVariants.{Returned, Exited, Trapped, Halted, Stopped, Waiting, Full}
use Rattle.src_model.specs.declared.runs.Options.{Options}

-- the printed names of the kinds of traps
abbrev pub trap_name : TrapKind → List ℕ
trap_name NullAccess = codes "null-access"
trap_name BadAccess = codes "bad-access"
trap_name BadPointer = codes "bad-pointer"
trap_name BadWord = codes "bad-word"
trap_name Overflow = codes "overflow"
trap_name Division = codes "division"
trap_name Shift = codes "shift"
trap_name NullCall = codes "null-call"
trap_name StackOverflow = codes "stack-overflow"
trap_name BadFree = codes "bad-free"
trap_name BadUnlock = codes "bad-unlock"
trap_name NoreturnReturned = codes "noreturn-returned"
trap_name NoValue = codes "no-value"
trap_name Abort = codes "abort"

-- how a thread ended, in words; the limits are those of the options
abbrev pub end_text : Options → End → List ℕ
end_text options Returned = codes "returned"
end_text options (Exited number) = codes "exited " ++ signed_decimal number
end_text options (Trapped kind) = codes "trapped " ++ trap_name kind
end_text options Halted = codes "halted"
end_text options Stopped = codes "stopped after " ++ decimal options.events ++ codes " events"
end_text options Waiting = codes "waiting after " ++ decimal options.wait_limit ++ codes " tries"
end_text options Full = codes "full"

-- the line of its ending
unfoldable pub ending_line : Options → ℕ → End → List ℕ
ending_line options number end = concat (codes "thread " ∷ decimal number ∷ codes ": " ∷ end_text options end ∷ codes "\n" ∷ [])

-- the line in front of what it wrote: how many bytes of it were kept
unfoldable pub output_line : ℕ → ℕ → List ℕ
output_line number kept = concat (codes "thread " ∷ decimal number ∷ codes " output " ∷ decimal kept ∷ codes "\n" ∷ [])

-- what ends a text that has bytes, so that it ends with an end of line
abbrev pub line_end : List ℕ → List ℕ
line_end bytes = if slice_index bytes (length bytes - 1) == 10 then [] else codes "\n"

-- what was kept, with the line in front of it
abbrev pub kept_text : ℕ → List ℕ → List ℕ
kept_text number output = output_line number (length output) ++ output ++ line_end output

-- the line behind it, where later bytes were dropped
unfoldable pub dropped_line : ℕ → ℕ → List ℕ
dropped_line number dropped = concat (codes "thread " ∷ decimal number ∷ codes " dropped " ∷ decimal dropped ∷ codes "\n" ∷ [])

abbrev pub dropped_text : ℕ → ℕ → List ℕ
dropped_text number dropped = if dropped == 0 then [] else dropped_line number dropped

-- what the thread wrote; nothing where nothing was kept
abbrev pub output_text : ℕ → List ℕ → ℕ → List ℕ
output_text number [] dropped = []
output_text number (byte ∷ bytes) dropped = kept_text number (byte ∷ bytes) ++ dropped_text number dropped

-- the text of a thread
abbrev pub thread_text : Options → ℕ → End → List ℕ → ℕ → List ℕ
thread_text options number end output dropped = ending_line options number end ++ output_text number output dropped
