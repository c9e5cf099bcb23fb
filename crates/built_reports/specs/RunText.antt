-- The printed text of a run (this project's own texts; the kinds of errors are those of Clang's manual 'RealtimeSanitizer').
use Rattle.std.specs.Prelude.{ℕ, ◌+◌, ◌-◌, List, [], ◌∷◌, ◌++◌, reverse, codes, decimal, slice_get}
use Rattle.std.specs.Fmt.{signed_decimal}
use Rattle.std.specs.List.{concat, flat_map}
use Rattle.std.specs.Option.{option_map_or}
use Rattle.c_text.specs.Place.{LineColumn, line_column}
use Rattle.built_unit.specs.Units.{UnitParts}
use Rattle.ctx_set.specs.declared.steps.StackStep.{StackStep}
use Rattle.built_code.specs.declared.events.TrapKind.{TrapKind}
use Rattle.built_code.specs.declared.events.TrapKind.TheVariants.{NullAccess, BadAccess, BadPointer, BadWord, Overflow, Division, Shift, NullCall, StackOverflow, BadFree, BadUnlock, NoreturnReturned, NoValue, Abort}
use Rattle.built_model.specs.declared.runs.End.{End}
use Rattle.built_model.specs.declared.runs.End.TheVariants.{Returned, Exited, Trapped, Halted, Stopped, Waiting, Full}
use Rattle.built_model.specs.Run.{event_limit, wait_limit}
use Rattle.eff_text.specs.WarningText.{function_name}
use Rattle.built_reports.specs.declared.stacks.StackCount.{StackCount}

-- the place of a call, by the number of its site, which counts from 1
abbrev pub place_of : UnitParts → ℕ → ℕ
place_of unit site = option_map_or (λ info. info.place) (slice_get unit.sites (site - 1)) 0

-- the first two lines of a report: its kind, the reached function, and how many reports had this stack; and then the
-- reached function as the innermost of the stack
unfoldable pub head_lines : List ℕ → List ℕ → List ℕ
head_lines name count =
    concat
    (codes "error: blocking-call: '" ∷ name ∷ codes "' called in a real-time context, count " ∷ count ∷ codes "\n"
    ∷ codes "  #0 " ∷ name ∷ codes "\n" ∷ [])

-- the line of a function further down, with the place of the call in it
unfoldable pub caller_line : List ℕ → List ℕ → List ℕ → List ℕ → List ℕ
caller_line index name line column =
    concat (codes "  #" ∷ index ∷ codes " " ∷ name ∷ codes " " ∷ line ∷ codes ":" ∷ column ∷ codes "\n" ∷ [])

abbrev pub caller_at : ℕ → List ℕ → LineColumn → List ℕ
caller_at index name at = caller_line (decimal index) name (decimal at.line) (decimal at.column)

-- the lines of the functions below one that was entered from this site, innermost first
abbrev pub callers_text : List ℕ → UnitParts → (index site : ℕ) → List StackStep → List ℕ
callers_text source unit index site [] = []
callers_text source unit index site (step ∷ steps) =
    caller_at index (function_name unit step.target) (line_column source (place_of unit site))
    ++ callers_text source unit (index + 1) step.site steps

-- the report with so many of a stack whose innermost step stands first
abbrev pub stack_text : List ℕ → UnitParts → ℕ → List StackStep → List ℕ
stack_text source unit count [] = []
stack_text source unit count (step ∷ steps) =
    head_lines (function_name unit step.target) (decimal count) ++ callers_text source unit 1 step.site steps

abbrev pub report_text : List ℕ → UnitParts → StackCount → List ℕ
report_text source unit c = stack_text source unit c.count (reverse c.stack)

-- the reports of these stacks, one after another
abbrev pub reports_text : List ℕ → UnitParts → List StackCount → List ℕ
reports_text source unit stacks = flat_map (report_text source unit) stacks

-- the printed names of the kinds of traps
abbrev pub trap_name : TrapKind → List ℕ
trap_name NullAccess = codes "null-access"
trap_name BadAccess = codes "bad-access"
trap_name BadPointer = codes "bad-pointer"
trap_name BadWord = codes "bad-word"
trap_name Overflow = codes "overflow"
trap_name Division = codes "division"
trap_name Shift = codes "shift"
trap_name NullCall = codes "null-call"
trap_name StackOverflow = codes "stack-overflow"
trap_name BadFree = codes "bad-free"
trap_name BadUnlock = codes "bad-unlock"
trap_name NoreturnReturned = codes "noreturn-returned"
trap_name NoValue = codes "no-value"
trap_name Abort = codes "abort"

-- how a thread ended, in words
abbrev pub end_text : End → List ℕ
end_text Returned = codes "returned"
end_text (Exited number) = codes "exited " ++ signed_decimal number
end_text (Trapped kind) = codes "trapped " ++ trap_name kind
end_text Halted = codes "halted"
end_text Stopped = codes "stopped after " ++ decimal event_limit ++ codes " events"
end_text Waiting = codes "waiting after " ++ decimal wait_limit ++ codes " tries"
end_text Full = codes "full"

-- the line of a thread
abbrev pub thread_line : ℕ → End → List ℕ
thread_line number end = concat (codes "thread " ∷ decimal number ∷ codes ": " ∷ end_text end ∷ codes "\n" ∷ [])
