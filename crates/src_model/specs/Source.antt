-- The source thread: one C thread of a unit, as what remains to be done (C17 6.5 and 6.8). Its events, the frames on a stack of words and the
-- traps in place of what C leaves undefined are this project's own. One rule a line.
use Rattle.std.specs.Prelude.{ℕ, suc, ◌+◌, Bool, true, false, ◌&&◌, ◌||◌, nat_eq, nat_lt, nat_le, codes, if◌then◌else◌, List, [], ◌∷◌, length, drop, map, reverse, Option, Some, None, Result, Ok, Err, ℤ, pos, slice_get}
use Rattle.std.specs.Str.{bytes_eq}
use Rattle.arithmetic.specs.Numbers.{value_of}
use Rattle.arithmetic.specs.Operators.{truth}
use Rattle.arithmetic.specs.Values.{applied, applied_to, member_of, is_true, number, bits_in}
use Rattle.arithmetic.specs.declared.traps.TrapKind.{TrapKind}
use Rattle.arithmetic.specs.declared.traps.TrapKind.TheVariants.{BadWord, NullCall, StackOverflow, NoreturnReturned, NoValue}
use Rattle.core_unit.specs.Library.{row_type}
use Rattle.core_unit.specs.Shapes.{callee_of, result_of as value_type_of}
use Rattle.core_unit.specs.Stores.{Stored, Value as StoredValue, Byte, Zero as StoredZero, Undefined as StoredUndefined}
use Rattle.core_unit.specs.Typing.{type_of}
use Rattle.core_unit.specs.Units.{row_target}
use Rattle.core_unit.specs.Words.{packed}
use Rattle.core_unit.specs.declared.body.Body.{Body}
use Rattle.core_unit.specs.declared.expressions.Expr.{Expr}
use Rattle.core_unit.specs.declared.operators.LogicalOperator.{LogicalOperator}
use Rattle.core_unit.specs.declared.operators.LogicalOperator.TheVariants as logical
use Rattle.core_unit.specs.declared.operators.Sign.TheVariants.{Signed}
use Rattle.core_unit.specs.declared.tables.FunctionInfo.{FunctionInfo}
use Rattle.core_unit.specs.declared.tables.UnitParts.{UnitParts}
use Rattle.core_unit.specs.declared.words.Word.{Word}
use Rattle.core_unit.specs.declared.words.Word.TheVariants.{Zero, Undefined, Number, DataPointer, FunctionPointer}
use Rattle.eff_types.specs.Types.{is_number, is_void}
use Rattle.eff_types.specs.declared.types.CType.{CType}
use Rattle.eff_types.specs.declared.types.FnType.{FnType}
pub use Rattle.mcode.specs.Machine.{value_of_step}
use Rattle.mcode.specs.Memory.{halt, done_of, result_of, frame_limit, stack_words, held_limit}
use Rattle.mcode.specs.Stages.{Staged, Onto, Again as Retries, Gives, Traps, Exits, Halts, held_at, call_begins, stage_asks, stage_after, turned_to}
use Rattle.mcode.specs.Steps.{Step, Quiet, Makes, Ends, asks, does, settle, asked, answered, turned_by}
use Rattle.mcode.specs.Words.{unpacked, accessed, loaded, written, argument}
use Rattle.mcode.specs.declared.events.Ask.{Ask}
use Rattle.mcode.specs.declared.events.Ask.TheVariants.{Load, Store, Enter, Leave, Reach, Trap}
use Rattle.mcode.specs.declared.events.Finish.TheVariants.{Returned, Exited, Trapped, Halted}
use Rattle.mcode.specs.declared.events.Turned.{Turned}
use Rattle.src_model.specs.Rules.{before, goes, gives, failing, fails, value_step, address_step, statement_step, local_address, all_tasks, list_tasks, optional_tasks}
use Rattle.src_model.specs.Tasks.{Part, Value, Address, Hold, LoadAs, StoreAs, Retype, Change, Apply, Advance, StoreStep, Shift, Also, Truth, Pick, Branch, Fill, Put, Guard, Check, Begin, BeginThrough, Meet, Bind, Forget, Arrive, In, Loop, While, DoWhile, For, Task, Now, Do, Turn, Decide, Again, Fall, Leaving, Stop, Deliver, Tell, Fail, Halting, Finished, Frame, State}
use Rattle.src_model.specs.Weights.{weight}

-- a value that was found, or a trap
abbrev pub finds : State → Result Word TrapKind → List Task → Step State
finds s (Ok value) k = gives s value k
finds s (Err kind) k = fails s kind

-- the same, where the latest value is held no longer
abbrev pub finds_of_held : State → Result Word TrapKind → List Task → Step State
finds_of_held s (Ok value) k = Quiet (record s { todo = k; value = value; held = drop 1 s.held })
finds_of_held s (Err kind) k = fails s kind

-- an access at the address that was found
abbrev pub accesses_at : State → Result ℕ TrapKind → (ℕ → Step State) → Step State
accesses_at s (Ok at) go = go at
accesses_at s (Err kind) go = fails s kind

-- an access through a pointer to an object: no object is at address 0, and none from the halt word on
abbrev pub accesses : State → Word → (ℕ → Step State) → Step State
accesses s pointer go = accesses_at s (accessed pointer) go

-- the word that was loaded serves the type of the load, or the thread is trapped
abbrev pub serve : State → Option Word → List Task → State
serve s (Some value) k = record s { todo = k; value = value }
serve s None k = failing s BadWord

-- a halt word that isn't 0 ends the thread
abbrev pub checked : State → ℕ → List Task → State
checked s word k = record s { todo = if nat_eq word 0 then k else Finished Halted ∷ [] }

-- a value becomes held where it isn't the 1,025th
abbrev pub holds : State → List Task → Step State
holds s k = if nat_lt (length s.held) held_limit then Quiet (record s { todo = k; held = s.value ∷ s.held }) else fails s StackOverflow

-- what `&&` and `||` do after their left operand: it decides, or the right one does (C17 6.5.13, 6.5.14)
abbrev pub also_step : LogicalOperator → Expr → Bool → List Task → State → Step State
also_step logical.And e true k s = goes s (before (Value e ∷ Truth ∷ []) k)
also_step logical.And e false k s = gives s Zero k
also_step logical.Or e true k s = gives s (Number 1) k
also_step logical.Or e false k s = goes s (before (Value e ∷ Truth ∷ []) k)

-- a word is stored at an offset of the frame
abbrev pub puts : UnitParts → State → (offset : ℕ) → Word → List Task → Step State
puts u s offset value k = accesses s (DataPointer (local_address u s offset)) (λ at. does (Store at (packed value)) (record s { todo = k }))

-- the words of a block variable, the first one now
abbrev pub fill_step : UnitParts → (offset : ℕ) → List Stored → List Task → State → Step State
fill_step u offset [] k s = goes s k
fill_step u offset (StoredValue e ∷ stored) k s = goes s (before (Value e ∷ Put offset (type_of e) ∷ Fill (suc offset) stored ∷ []) k)
fill_step u offset (Byte byte ∷ stored) k s = puts u s offset (number byte) (Now (Fill (suc offset) stored) ∷ k)
fill_step u offset (StoredZero ∷ stored) k s = puts u s offset Zero (Now (Fill (suc offset) stored) ∷ k)
fill_step u offset (StoredUndefined ∷ stored) k s = puts u s offset Undefined (Now (Fill (suc offset) stored) ∷ k)

-- how many arguments a call by this function type has
abbrev pub count_of : Option FnType → ℕ
count_of (Some f) = length f.params
count_of None = 0

-- Each parameter is stored, the first one first; its argument is the latest held but so many.
abbrev pub binds : (offset : ℕ) → List CType → List Task → List Task
binds offset [] k = k
binds offset (t ∷ ts) k = Now (Bind offset (length ts) t) ∷ binds (suc offset) ts k

-- a blocking function is reached when it was entered
abbrev pub meets : Bool → (function site : ℕ) → List Task → List Task
meets true function site k = Now (Meet function site) ∷ k
meets false function site k = k

-- What is to be done in a function: it is reached, if it is blocking; its parameters are stored, and then so many values are held no longer; its
-- body.
abbrev pub function_tasks : (function site : ℕ) → FunctionInfo → Body → (held : ℕ) → List Task
function_tasks function site info body held =
    meets info.kind.effects.no_block_inference function site
    (binds 0 info.kind.params (Now (Forget held) ∷ list_tasks body.items (Fall info.kind.result ∷ [])))

-- the thread in a function that it entered
abbrev pub entered : State → (function site : ℕ) → FunctionInfo → Body → (held : ℕ) → List Task → State
entered s function site info body held k = record s {
  todo = function_tasks function site info body held;
  frames = record { function = function; site = site; back = k; base = s.base } ∷ s.frames;
  base = s.top;
  top = s.top + info.frame_words;
}

-- a frame has room where fewer than 256 stand, and where its words fit onto the stack
abbrev pub has_room : State → FunctionInfo → Bool
has_room s info = nat_lt (length s.frames) frame_limit && nat_le (s.top + info.frame_words) stack_words

-- a function with this body is entered, where its frame has room; so many more values than its arguments are held for it
abbrev pub enters_body : State → (function site : ℕ) → FunctionInfo → Option Body → (more : ℕ) → List Task → Step State
enters_body s function site info None more k = fails s NullCall
enters_body s function site info (Some body) more k =
    if has_room s info then does (Enter function site) (entered s function site info body (length info.kind.params + more) k)
    else fails s StackOverflow

abbrev pub enters : State → (function site : ℕ) → Option FunctionInfo → (more : ℕ) → List Task → Step State
enters s function site None more k = fails s NullCall
enters s function site (Some info) more k = enters_body s function site info info.body more k

-- the function that a pointer points to is entered
abbrev pub enters_through : UnitParts → State → Word → (site : ℕ) → List Task → Step State
enters_through u s (FunctionPointer function level) site k = enters s function site (slice_get u.functions function) 1 k
enters_through u s _ site k = fails s NullCall

-- how a library call goes on, whose value is of this type, which soundness alone reads
abbrev pub staged : State → (result : CType) → Staged → List Task → State
staged s result (Onto stage) k = record s { todo = Now (In stage result) ∷ k }
staged s result (Retries stage) k = record s { todo = Now (In stage result) ∷ k }
staged s result (Gives value) k = record s { todo = k; value = value }
staged s result (Traps kind) k = failing s kind
staged s result (Exits bits) k = record s { todo = Halting (Exited (value_of Signed bits)) ∷ [] }
staged s result Halts k = record s { todo = Finished Halted ∷ [] }

-- a library function that was reached takes its arguments
abbrev pub arrived : State → (row : ℕ) → List Task → State
arrived s row k = staged (record s { held = drop (count_of (row_type row)) s.held }) (value_type_of (row_type row)) (call_begins row s.held) k

-- What a part does, and then what remains.
abbrev pub part_step : UnitParts → Part → List Task → State → Step State
part_step u (Value e) k s = value_step e k s
part_step u (Address p) k s = address_step u p k s
part_step u Hold k s = holds s k
part_step u (LoadAs t) k s = accesses s s.value (λ at. asks (Load at) (λ word. serve s (loaded u t word) k))
part_step u (StoreAs t) k s = accesses s (held_at s.held 0) (λ at. does (Store at (packed (written t s.value))) (record s { todo = k; held = drop 1 s.held }))
part_step u (Retype from to) k s = goes s k
part_step u (Change operator) k s = finds s (applied_to operator s.value) k
part_step u (Apply operation t) k s = finds_of_held s (applied operation (held_at s.held 0) s.value) k
part_step u (Advance operation t) k s = finds s (applied operation (held_at s.held 0) (Number 1)) k
part_step u (StoreStep t which) k s =
    accesses s (held_at s.held 1) (λ at. does (Store at (packed (written t s.value)))
    (record s { todo = k; value = value_of_step which s.value (held_at s.held 0); held = drop 2 s.held }))
part_step u (Shift offset t) k s = finds s (member_of offset s.value) k
part_step u (Also operator e) k s = also_step operator e (is_true s.value) k s
part_step u Truth k s = gives s (number (truth (is_true s.value))) k
part_step u (Pick a b) k s = goes s (Now (Value (if is_true s.value then a else b)) ∷ k)
part_step u (Branch item other) k s = goes s (if is_true s.value then Do item ∷ k else all_tasks other k)
part_step u (Fill offset stored) k s = fill_step u offset stored k s
part_step u (Put offset t) k s = puts u s offset (written t s.value) k
part_step u (Guard t) k s = if is_true (held_at s.held (count_of (callee_of t))) then goes s k else fails s NullCall
part_step u Check k s = asks (Load halt) (λ word. checked s word k)
part_step u (Begin function site) k s = enters s function site (slice_get u.functions function) 0 k
part_step u (BeginThrough t site) k s = enters_through u s (held_at s.held (count_of (callee_of t))) site k
part_step u (Meet function site) k s = does (Reach function site) (record s { todo = k })
part_step u (Bind offset back t) k s = puts u s offset (written t (held_at s.held back)) k
part_step u (Forget count) k s = Quiet (record s { todo = k; held = drop count s.held })
part_step u (Arrive row site) k s = does (Reach (row_target row) site) (arrived s row k)
part_step u (In stage result) k s =
    Makes (stage_asks s.number stage) (λ word. staged s result (stage_after s.number stage word) k) (λ word. turned_to (stage_after s.number stage word))

-- A loop (C17 6.8.5): a turn begins with a load of the halt word, before the test where that comes first.
abbrev pub turn_tasks : Loop → List Task → List Task
turn_tasks (While c body) k = Now (Value c) ∷ Decide (While c body) ∷ k
turn_tasks (DoWhile c body) k = Do body ∷ Again (DoWhile c body) ∷ k
turn_tasks (For (Some c) step body) k = Now (Value c) ∷ Decide (For (Some c) step body) ∷ k
turn_tasks (For None step body) k = Do body ∷ Again (For None step body) ∷ k

-- the condition of a loop holds
abbrev pub decided_tasks : Loop → List Task → List Task
decided_tasks (While c body) k = Do body ∷ Again (While c body) ∷ k
decided_tasks (DoWhile c body) k = Turn (DoWhile c body) ∷ k
decided_tasks (For test step body) k = Do body ∷ Again (For test step body) ∷ k

-- what comes between the body and the next turn
abbrev pub again_tasks : Loop → List Task → List Task
again_tasks (While c body) k = Turn (While c body) ∷ k
again_tasks (DoWhile c body) k = Now (Value c) ∷ Decide (DoWhile c body) ∷ k
again_tasks (For test step body) k = optional_tasks step (Turn (For test step body) ∷ k)

-- the function that the thread is in
abbrev pub info_on_top : UnitParts → List Frame → Option FunctionInfo
info_on_top u [] = None
info_on_top u (frame ∷ frames) = slice_get u.functions frame.function

abbrev pub is_main : FunctionInfo → Bool
is_main info = bytes_eq info.name (codes "main")

-- The end of a body is reached: of `main` it returns 0 (C17 5.1.2.2.3), of a `void` function it returns; another function has no value then.
abbrev pub falls : Bool → State → Step State
falls true s = gives s Zero (Leaving ∷ [])
falls false s = fails s NoValue

abbrev pub is_main_in : Option FunctionInfo → Bool
is_main_in (Some info) = is_main info
is_main_in None = false

-- A function that is marked `_Noreturn` doesn't return (C17 6.7.4).
abbrev pub is_noreturn_in : Option FunctionInfo → Bool
is_noreturn_in (Some info) = info.noreturn
is_noreturn_in None = false

-- the latest function is left, and its caller goes on
abbrev pub leaves : State → List Frame → State
leaves s [] = record s { todo = [] }
leaves s (frame ∷ frames) = record s { todo = frame.back; frames = frames; base = frame.base; top = s.base }

-- the type of its result
abbrev pub result_in : Option FunctionInfo → CType
result_in (Some info) = info.kind.result
result_in None = CType.Void

-- the status that a thread exits with, by the result of its first function; 0 where that is no number
abbrev pub status_of : CType → Word → ℤ
status_of t value = if is_number t then value_of Signed (bits_in value) else pos 0

-- the first function was left: thread 0 exits, another thread returns
abbrev pub stop_tasks : State → CType → List Task
stop_tasks s t = if nat_eq s.number 0 then Halting (Exited (status_of t s.value)) ∷ [] else Deliver t ∷ []

-- What a task does, and then what remains.
abbrev pub task_step : UnitParts → Task → List Task → State → Step State
task_step u (Now part) k s = part_step u part k s
task_step u (Do item) k s = statement_step item k s
task_step u (Turn loop) k s = asks (Load halt) (λ word. checked s word (turn_tasks loop k))
task_step u (Decide loop) k s = goes s (if is_true s.value then decided_tasks loop k else k)
task_step u (Again loop) k s = goes s (again_tasks loop k)
task_step u (Fall result) k s = falls (is_void result || is_main_in (info_on_top u s.frames)) s
task_step u Leaving k s = if is_noreturn_in (info_on_top u s.frames) then fails s NoreturnReturned else does Leave (leaves s s.frames)
task_step u (Stop function) k s = goes s (stop_tasks s (result_in (slice_get u.functions function)))
task_step u (Deliver t) k s = does (Store (result_of s.number) (packed (written t s.value))) (record s { todo = Tell ∷ [] })
task_step u Tell k s = does (Store (done_of s.number) 1) (record s { todo = Finished Returned ∷ [] })
task_step u (Fail kind) k s = does (Trap kind) (record s { todo = Halting (Trapped kind) ∷ [] })
task_step u (Halting finish) k s = does (Store halt 1) (record s { todo = Finished finish ∷ [] })
task_step u (Finished finish) k s = Ends finish

-- what remains is begun; something always remains until a thread is finished
abbrev pub steps : UnitParts → List Task → State → Step State
steps u [] s = Ends Halted
steps u (task ∷ k) s = task_step u task k s

-- one step of a thread
abbrev pub step : UnitParts → State → Step State
step u s = steps u s.todo s

-- the next step that isn't quiet
abbrev pub settles : UnitParts → State → Step State
settles u s = settle (step u) (suc (weight s.todo)) s

-- the next event of a thread, or its finish
abbrev pub next : UnitParts → State → Ask
next u s = asked (settles u s)

-- the thread after that event, answered by this word
abbrev pub after : UnitParts → State → ℕ → State
after u s word = answered (settles u s) s word

-- whether that event was then a failed try
abbrev pub turned : UnitParts → State → ℕ → Turned
turned u s word = turned_by (settles u s) word

-- The thread of this number at its start, with the words that its first function is called with: it loads the halt word and enters the function
-- from site 0.
abbrev pub start : (number function : ℕ) → (arguments : List ℕ) → State
start thread function arguments = record {
  number = thread;
  todo = before (Check ∷ Begin function 0 ∷ []) (Stop function ∷ []);
  value = Zero;
  held = reverse (map (λ word. argument (unpacked word)) arguments);
  frames = [];
  base = 0;
  top = 0;
}

-- a thread that is cut short: the store of halt is the one event left
abbrev pub cut : State → State
cut s = record s { todo = Halting Halted ∷ [] }
