-- The events of a thread stay in the table of words; and an ending that has begun is over with the second event.
use Rattle.std.proofs.Common.{◌≡◌, refl, ℕ, zero, suc, ◌+◌, ◌-◌, ◌*◌, ◌^◌, ◌<◌, Bool, true, false, ◌||◌, List, [], ◌∷◌, length, drop, Option, Some, None, Result, Ok, Err, arith, nat_eq, nat_lt, nat_le, if◌then◌else◌, slice_get}
use Rattle.std.proofs.lemmas.Bool.Decides.{nat_tests}
use Rattle.arithmetic.specs.Values.{applied, applied_to, member_of, is_true, bits_in, number}
use Rattle.arithmetic.specs.declared.traps.TrapKind.{TrapKind}
use Rattle.arithmetic.specs.declared.traps.TrapKind.TheVariants.{BadAccess, BadFree, BadUnlock, NullCall, StackOverflow, NoreturnReturned}
use Rattle.core_unit.specs.Library.{row_type}
use Rattle.core_unit.specs.Shapes.{callee_of, result_of}
use Rattle.core_unit.specs.Words.{packed}
use Rattle.core_unit.specs.Places.{callee, Callee, Named, Row, Through}
use Rattle.core_unit.specs.Stores.{Stored, Value as StoredValue, Byte, Zero as StoredZero, Undefined as StoredUndefined}
use Rattle.core_unit.specs.Typing.{type_of}
use Rattle.core_unit.specs.declared.body.Body.{Body}
use Rattle.core_unit.specs.declared.body.Initializer.{Initializer}
use Rattle.core_unit.specs.declared.body.LoopKind.TheVariants as loop_kind
use Rattle.core_unit.specs.declared.body.Stmt as stmt
use Rattle.core_unit.specs.declared.body.Stmt.{Stmt, Row_of-Stmt, end_of-Stmt, more_of-Stmt}
use Rattle.core_unit.specs.declared.expressions.Expr as expr
use Rattle.core_unit.specs.declared.expressions.Expr.{Expr, Row_of-Expr, end_of-Expr, more_of-Expr, end_of-Place, more_of-Place}
use Rattle.core_unit.specs.declared.expressions.Place as place
use Rattle.core_unit.specs.declared.expressions.Place.{Place}
use Rattle.core_unit.specs.declared.expressions.Storage.{Storage}
use Rattle.core_unit.specs.declared.expressions.Storage.TheVariants.{Automatic, Static, ThreadLocal}
use Rattle.core_unit.specs.declared.operators.LogicalOperator.{LogicalOperator}
use Rattle.core_unit.specs.declared.operators.LogicalOperator.TheVariants as logical
use Rattle.core_unit.specs.declared.tables.FunctionInfo.{FunctionInfo}
use Rattle.core_unit.specs.declared.tables.UnitParts.{UnitParts}
use Rattle.core_unit.specs.declared.words.Word.{Word}
use Rattle.core_unit.specs.declared.words.Word.TheVariants.{Zero, Undefined, DataPointer, FunctionPointer, Mutex, Live, Number}
use Rattle.eff_types.specs.Types.{is_void}
use Rattle.eff_types.specs.declared.types.CType.{CType}
use Rattle.mcode.specs.Memory.{halt, held_limit, IsInTable}
use Rattle.mcode.specs.Stages.{Staged, Onto, Again as Retries, Gives, Traps, Exits, Halts, held_at, at_found, through, takes_block, frees, creates, gives_absolute, row_begins, begins_by, call_begins, stage_asks, stage_after, frees_block, joined, locked, read_text}
use Rattle.mcode.specs.Steps.{Step, Quiet, Makes, Ends, is_event, asks, does, asked, answered, settle, unless_quiet}
use Rattle.mcode.specs.Words.{unpacked, loaded, written}
use Rattle.mcode.specs.declared.events.Ask.{Ask}
use Rattle.mcode.specs.declared.events.Ask.TheVariants.{Load, Store, Enter, Leave}
use Rattle.mcode.specs.declared.events.Finish.{Finish}
use Rattle.mcode.specs.declared.events.Finish.TheVariants.{Exited, Halted}
use Rattle.mcode.specs.declared.stages.Stage.{Stage}
use Rattle.mcode.specs.declared.stages.Stage.TheVariants.{TakeBlock, ReturnBlock, MarkLive, ReadHeader, MarkFreed, CreateThread, TellThread, TryJoin, AwaitJoin, ReadResult, WriteResult, TryLock, AwaitLock, Unlock, ReadText, WriteText, EndText, WriteByte}
use Rattle.src_model.specs.Laws.{Comes, begins, goes_on, halts}
use Rattle.src_model.specs.Rules.{before, goes, fails, arguments, call_tasks, value_step, address_step, statement_step, all_tasks, list_tasks, optional_tasks, variable_tasks, behind_loop, end_of_body, local_address}
use Rattle.src_model.specs.Runs.{is_ending}
use Rattle.src_model.specs.Source.{accesses_at, accesses, puts, value_of_step, count_of, is_main_in, info_on_top, is_noreturn_in, finds, finds_of_held, serve, checked, also_step, fill_step, binds, meets, function_tasks, entered, enters, enters_body, enters_through, staged, has_room, leaves, status_of, result_in, falls, turn_tasks, decided_tasks, again_tasks, part_step, task_step, steps, step, settles, next, after, start}
use Rattle.src_model.specs.Tasks.{Part, Value, Address, Hold, LoadAs, StoreAs, Retype, Change, Apply, Advance, StoreStep, Shift, Also, Truth, Pick, Branch, Fill, Put, Guard, Check, Begin, BeginThrough, Meet, Bind, Forget, Arrive, In, Loop, While, DoWhile, For, Task, Now, Do, Turn, Decide, Again, Fall, Leaving, Stop, Deliver, Tell, Fail, Halting, Finished, Frame, State}
use Rattle.src_model.specs.Weights.{weight}

-- the addresses and threads of a stage are those of the table
abbrev pub LowStage : Stage → Type 0
LowStage (MarkLive at words) = at < halt
LowStage (ReadHeader at) = at < halt
LowStage (MarkFreed at words) = at < halt
LowStage (TellThread at child) = at < halt
LowStage (TryJoin child to) = child < 64
LowStage (AwaitJoin child to) = child < 64
LowStage (ReadResult child to) = child < 64
LowStage (WriteResult at word) = at < halt
LowStage (TryLock at) = at < halt
LowStage (AwaitLock at) = at < halt
LowStage (Unlock at) = at < halt
LowStage (ReadText at) = at < halt
LowStage _ = Unit {0}

abbrev LowPart : Part → Type 0
LowPart (In stage result) = LowStage stage
LowPart _ = Unit {0}

abbrev LowTask : Task → Type 0
LowTask (Now part) = LowPart part
LowTask _ = Unit {0}

abbrev AreLow : List Task → Type 0
AreLow [] = Unit {0}
AreLow (task ∷ k) = LowTask task × AreLow k

abbrev FramesLow : List Frame → Type 0
FramesLow [] = Unit {0}
FramesLow (frame ∷ frames) = AreLow frame.back × FramesLow frames

-- so are those of a thread, of which there are 64
abbrev pub IsLow : State → Type 0
IsLow s = (s.number < 64) × AreLow s.todo × FramesLow s.frames

-- what remains is an ending: a store at most, or nothing
abbrev pub IsClosing : List Task → Type 0
IsClosing (Halting finish ∷ k) = Unit {0}
IsClosing (Tell ∷ k) = Unit {0}
IsClosing (Finished finish ∷ k) = Unit {0}
IsClosing _ = ⊥

-- where an event begins an ending, this is all that remains
abbrev Closes : Ask → List Task → Type 0
Closes event k = is_ending event ≡ true → IsClosing k

abbrev StaysLow : Step State → Type 0
StaysLow (Quiet s) = IsLow s
StaysLow (Makes event after turned) = IsInTable event × ((word : ℕ) → IsLow (after word) × Closes event (after word).todo)
StaysLow (Ends finish) = Unit {0}

-- the events of objects begin none
not_ending : (at : ℕ) (k : List Task) → at < halt → nat_le halt at ≡ true → IsClosing k
not_ending at k low e = absurd (grind (arith, nat_tests))

no_end : (k : List Task) → false ≡ true → IsClosing k
no_end k e = let clash : ⊥ = cc in absurd clash

-- one of two steps
chosen : (b : Bool) (x y : Step State) → StaysLow x → StaysLow y → StaysLow (if b then x else y)
chosen true x y p q = p
chosen false x y p q = q

-- Stages.

abbrev LowStaged : Staged → Type 0
LowStaged (Onto stage) = LowStage stage
LowStaged (Retries stage) = LowStage stage
LowStaged _ = Unit {0}

staged_if : (b : Bool) (x y : Staged) → LowStaged x → LowStaged y → LowStaged (if b then x else y)
staged_if true x y p q = p
staged_if false x y p q = q

below : (at n : ℕ) → nat_lt at n ≡ true → at < n
below at n e = grind (arith, nat_tests)

below_if : (at : ℕ) (b : Bool) (go : ℕ → Staged) → nat_lt at halt ≡ b → (at < halt → LowStaged (go at)) → LowStaged (at_found (if b then Ok at else Err BadAccess) go)
below_if at true go e on = on (below at halt e)
below_if at false go e on = tt

through_low : (pointer : Word) (go : ℕ → Staged) → ((at : ℕ) → at < halt → LowStaged (go at)) → LowStaged (through pointer go)
through_low Zero go on = tt
through_low (DataPointer at) go on = below_if at (nat_lt at halt) go refl (on at)
through_low _ go on = tt

header_if : (at : ℕ) (b : Bool) → nat_lt at halt ≡ b → LowStaged (if b then Onto (ReadHeader at) else Traps BadAccess)
header_if at true e = below at halt e
header_if at false e = tt

frees_low : (pointer : Word) → LowStaged (frees pointer)
frees_low Zero = tt
frees_low (DataPointer at) = header_if (at - 1) (nat_lt (at - 1) halt) refl
frees_low _ = tt

creates_low : (to function argument : Word) → LowStaged (creates to function argument)
creates_low to (FunctionPointer function level) argument = tt
creates_low to _ argument = tt

joins_if : (thread : ℕ) (to : Word) (b : Bool) → nat_lt thread 64 ≡ b → LowStaged (if b then Onto (TryJoin thread to) else Gives (Number 3))
joins_if thread to true e = below thread 64 e
joins_if thread to false e = tt

absolute_low : (found : Result ℕ TrapKind) → LowStaged (gives_absolute found)
absolute_low (Ok bits) = tt
absolute_low (Err kind) = tt

abbrev AllBegin : List (List Word → Staged) → Type 0
AllBegin [] = Unit {0}
AllBegin (first ∷ others) = ((held : List Word) → LowStaged (first held)) × AllBegin others

begin_at : (table : List (List Word → Staged)) → AllBegin table → (row : ℕ) (held : List Word) → LowStaged (begins_by (slice_get table row) held)
begin_at [] all row held = tt
begin_at (first ∷ others) all zero held = all.0 held
begin_at (first ∷ others) all (suc row) held = begin_at others all.1 row held

takes_low : (words : ℕ) → LowStaged (takes_block words)
takes_low words = staged_if (nat_lt words (2 ^ 32)) (Onto (TakeBlock words)) (Gives Zero) tt tt

all_begin : AllBegin row_begins
all_begin = (
  (λ held. takes_low (bits_in (held_at held 0))),
  (
    (λ held. takes_low (bits_in (held_at held 1) * bits_in (held_at held 0))),
    (
      (λ held. frees_low (held_at held 0)),
      (
        (λ held. creates_low (held_at held 3) (held_at held 1) (held_at held 0)),
        (
          (λ held. joins_if (bits_in (held_at held 1)) (held_at held 0) (nat_lt (bits_in (held_at held 1)) 64) refl),
          (
            (λ held. through_low (held_at held 0) (λ at. Onto (TryLock at)) (λ at low. low)),
            (
              (λ held. through_low (held_at held 0) (λ at. Onto (Unlock at)) (λ at low. low)),
              (
                (λ held. tt),
                (
                  (λ held. through_low (held_at held 0) (λ at. Onto (ReadText at)) (λ at low. low)),
                  (
                    (λ held. tt),
                    (
                      (λ held. absolute_low _),
                      (
                        (λ held. tt),
                        (
                          (λ held. tt),
                          (
                            (λ held. tt),
                            (
                              (λ held. tt),
                              tt,
                            ),
                          ),
                        ),
                      ),
                    ),
                  ),
                ),
              ),
            ),
          ),
        ),
      ),
    ),
  ),
)

calls_low : (row : ℕ) (held : List Word) → LowStaged (call_begins row held)
calls_low row held = begin_at row_begins all_begin row held

stage_in_table : (thread : ℕ) (stage : Stage) → LowStage stage → IsInTable (stage_asks thread stage)
stage_in_table thread (TakeBlock words) low = omega arith
stage_in_table thread (ReturnBlock words) low = omega arith
stage_in_table thread (MarkLive at words) low = omega (arith, low)
stage_in_table thread (ReadHeader at) low = omega (arith, low)
stage_in_table thread (MarkFreed at words) low = omega (arith, low)
stage_in_table thread (CreateThread to function argument) low = tt
stage_in_table thread (TellThread at child) low = omega (arith, low)
stage_in_table thread (TryJoin child to) low = omega (arith, low)
stage_in_table thread (AwaitJoin child to) low = omega arith
stage_in_table thread (ReadResult child to) low = omega (arith, low)
stage_in_table thread (WriteResult at word) low = omega (arith, low)
stage_in_table thread (TryLock at) low = omega (arith, low)
stage_in_table thread (AwaitLock at) low = omega arith
stage_in_table thread (Unlock at) low = omega (arith, low)
stage_in_table thread (ReadText at) low = omega (arith, low)
stage_in_table thread (WriteText at byte) low = tt
stage_in_table thread EndText low = tt
stage_in_table thread (WriteByte byte) low = tt

-- no event of a stage begins an ending
stage_opens : (thread : ℕ) (stage : Stage) → LowStage stage → (k : List Task) → Closes (stage_asks thread stage) k
stage_opens thread (TakeBlock words) low k = no_end k
stage_opens thread (ReturnBlock words) low k = no_end k
stage_opens thread (MarkLive at words) low k = not_ending at k low
stage_opens thread (ReadHeader at) low k = no_end k
stage_opens thread (MarkFreed at words) low k = no_end k
stage_opens thread (CreateThread to function argument) low k = no_end k
stage_opens thread (TellThread at child) low k = not_ending at k low
stage_opens thread (TryJoin child to) low k = no_end k
stage_opens thread (AwaitJoin child to) low k = no_end k
stage_opens thread (ReadResult child to) low k = no_end k
stage_opens thread (WriteResult at word) low k = not_ending at k low
stage_opens thread (TryLock at) low k = no_end k
stage_opens thread (AwaitLock at) low k = no_end k
stage_opens thread (Unlock at) low k = no_end k
stage_opens thread (ReadText at) low k = no_end k
stage_opens thread (WriteText at byte) low k = no_end k
stage_opens thread EndText low k = no_end k
stage_opens thread (WriteByte byte) low k = no_end k

took_if : (at words : ℕ) (b : Bool) → nat_lt (2 ^ 20) (at + words + 1) ≡ b → LowStaged (if b then Onto (ReturnBlock words) else Onto (MarkLive at words))
took_if at words true e = tt
took_if at words false e = grind (arith, nat_tests)

frees_block_low : (at : ℕ) (found : Option Word) → at < halt → LowStaged (frees_block at found)
frees_block_low at (Some (Live words)) low = low
frees_block_low at _ low = tt

joined_low : (child : ℕ) (to : Word) → child < 64 → LowStaged (joined child to)
joined_low child Zero low = tt
joined_low child _ low = low

locked_low : (at : ℕ) (found : Option Word) → at < halt → LowStaged (locked at found)
locked_low at (Some Zero) low = tt
locked_low at (Some (Mutex holder)) low = low
locked_low at _ low = tt

read_text_low : (at : ℕ) (found : Option Word) → LowStaged (read_text at found)
read_text_low at (Some Zero) = tt
read_text_low at (Some (Number bits)) = tt
read_text_low at _ = tt

next_text : (at : ℕ) (b : Bool) → nat_lt (at + 1) halt ≡ b → LowStaged (if b then Onto (ReadText (at + 1)) else Traps BadAccess)
next_text at true e = below (at + 1) halt e
next_text at false e = tt

stage_low : (thread : ℕ) (stage : Stage) (answer : ℕ) → LowStage stage → LowStaged (stage_after thread stage answer)
stage_low thread (TakeBlock words) answer low = took_if answer words (nat_lt (2 ^ 20) (answer + words + 1)) refl
stage_low thread (ReturnBlock words) answer low = tt
stage_low thread (MarkLive at words) answer low = tt
stage_low thread (ReadHeader at) answer low = frees_block_low at (unpacked answer) low
stage_low thread (MarkFreed at words) answer low = staged_if (nat_eq answer (packed (Live words))) (Gives Zero) (Traps BadFree) tt tt
stage_low thread (CreateThread to function argument) answer low =
    staged_if (nat_eq answer 0) (Gives (Number 11)) (through to (λ at. Onto (TellThread at answer))) tt (through_low to (λ at. Onto (TellThread at answer)) (λ at low. low))
stage_low thread (TellThread at child) answer low = tt
stage_low thread (TryJoin child to) answer low = staged_if (nat_eq answer 0) (Retries (AwaitJoin child to)) (joined child to) low (joined_low child to low)
stage_low thread (AwaitJoin child to) answer low = staged_if (nat_eq answer 0) (Onto (TryJoin child to)) Halts low tt
stage_low thread (ReadResult child to) answer low = through_low to (λ at. Onto (WriteResult at answer)) (λ at low. low)
stage_low thread (WriteResult at word) answer low = tt
stage_low thread (TryLock at) answer low = locked_low at (unpacked answer) low
stage_low thread (AwaitLock at) answer low = staged_if (nat_eq answer 0) (Onto (TryLock at)) Halts low tt
stage_low thread (Unlock at) answer low = staged_if (nat_eq answer (packed (Mutex thread))) (Gives Zero) (Traps BadUnlock) tt tt
stage_low thread (ReadText at) answer low = read_text_low at (unpacked answer)
stage_low thread (WriteText at byte) answer low = next_text at (nat_lt (at + 1) halt) refl
stage_low thread EndText answer low = tt
stage_low thread (WriteByte byte) answer low = tt

-- What remains.

arguments_low : {n : _} (es : Row_of-Expr n) (k : List Task) → AreLow k → AreLow (arguments es k)
arguments_low end_of-Expr k low = low
arguments_low (more_of-Expr e es) k low = (tt, (tt, arguments_low es k low))

call_low : {n : _} (called : Callee) (c : Expr) (site : ℕ) (es : Row_of-Expr n) (k : List Task) → AreLow k → AreLow (call_tasks called c site es k)
call_low (Named function) c site es k low = arguments_low es (before (Check ∷ Begin function site ∷ []) k) (tt, (tt, low))
call_low (Row row) c site es k low = arguments_low es (before (Check ∷ Arrive row site ∷ []) k) (tt, (tt, low))
call_low (Through signature) c site es k low =
    (tt, (tt, arguments_low es (before (Guard (type_of c) ∷ Check ∷ BeginThrough (type_of c) site ∷ []) k) (tt, (tt, (tt, low)))))

all_low : {n : _} (items : Row_of-Stmt n) (k : List Task) → AreLow k → AreLow (all_tasks items k)
all_low end_of-Stmt k low = low
all_low (more_of-Stmt item items) k low = (tt, all_low items k low)

list_low : (items : List Stmt) (k : List Task) → AreLow k → AreLow (list_tasks items k)
list_low [] k low = low
list_low (item ∷ items) k low = (tt, list_low items k low)

optional_low : (e : Option Expr) (k : List Task) → AreLow k → AreLow (optional_tasks e k)
optional_low None k low = low
optional_low (Some e) k low = (tt, low)

variable_low : (storage : Storage) (initializer : Initializer) (k : List Task) → AreLow k → AreLow (variable_tasks storage initializer k)
variable_low (Automatic offset) initializer k low = (tt, low)
variable_low (Static address) initializer k low = low
variable_low (ThreadLocal offset) initializer k low = low

behind_low : (k : List Task) → AreLow k → AreLow (behind_loop k)
behind_low [] low = tt
behind_low (Do item ∷ k) low = behind_low k low.1
behind_low (Turn loop ∷ k) low = behind_low k low.1
behind_low (Again loop ∷ k) low = low.1
behind_low (Fall result ∷ k) low = low
behind_low (task ∷ k) low = tt

end_low : (k : List Task) → AreLow k → AreLow (end_of_body k)
end_low [] low = tt
end_low (Do item ∷ k) low = end_low k low.1
end_low (Turn loop ∷ k) low = end_low k low.1
end_low (Again loop ∷ k) low = low
end_low (Fall result ∷ k) low = low
end_low (task ∷ k) low = tt

binds_low : (offset : ℕ) (ts : List CType) (k : List Task) → AreLow k → AreLow (binds offset ts k)
binds_low offset [] k low = low
binds_low offset (t ∷ ts) k low = (tt, binds_low (suc offset) ts k low)

meets_low : (b : Bool) (function site : ℕ) (k : List Task) → AreLow k → AreLow (meets b function site k)
meets_low true function site k low = (tt, low)
meets_low false function site k low = low

function_low : (function site : ℕ) (info : FunctionInfo) (body : Body) (held : ℕ) → AreLow (function_tasks function site info body held)
function_low function site info body held =
    let items = list_low body.items (Fall info.kind.result ∷ []) (tt, tt) in
    let rest = binds_low 0 info.kind.params (Now (Forget held) ∷ list_tasks body.items (Fall info.kind.result ∷ [])) (tt, items) in
    meets_low info.kind.effects.no_block_inference function site (binds 0 info.kind.params (Now (Forget held) ∷ list_tasks body.items (Fall info.kind.result ∷ []))) rest

if_low : (b : Bool) (x y : List Task) → AreLow x → AreLow y → AreLow (if b then x else y)
if_low true x y p q = p
if_low false x y p q = q

-- Expressions, places and statements.

value_low : (e : Expr) (k : List Task) (s : State) → AreLow k → IsLow s → StaysLow (value_step e k s)
value_low (expr.Number sign bits) k s h low = (low.0, h, low.2)
value_low expr.Null k s h low = (low.0, h, low.2)
value_low (expr.Sizeof words) k s h low = (low.0, h, low.2)
value_low (expr.Function function t) k s h low = (low.0, h, low.2)
value_low (expr.LibraryFunction row) k s h low = (low.0, h, low.2)
value_low (expr.TargetFunction' _ (more_of-Expr e end_of-Expr)) k s h low = (low.0, (tt, (tt, h)), low.2)
value_low (expr.FunctionPointer' _ (more_of-Expr e end_of-Expr)) k s h low = (low.0, (tt, (tt, h)), low.2)
value_low (expr.ArrayPointer' _ (more_of-Place p end_of-Place)) k s h low = (low.0, (tt, (tt, h)), low.2)
value_low (expr.AddressOf' _ (more_of-Place p end_of-Place)) k s h low = (low.0, (tt, h), low.2)
value_low (expr.Load' _ (more_of-Place p end_of-Place)) k s h low = (low.0, (tt, (tt, h)), low.2)
value_low (expr.Assign' _ (more_of-Place p end_of-Place) _ (more_of-Expr e end_of-Expr)) k s h low = (low.0, (tt, (tt, (tt, (tt, h)))), low.2)
value_low (expr.Compound' _ (more_of-Place p end_of-Place) how _ (more_of-Expr e end_of-Expr)) k s h low =
    (low.0, (tt, (tt, (tt, (tt, (tt, (tt, (tt, h))))))), low.2)
value_low (expr.Step' _ (more_of-Place p end_of-Place) how which) k s h low = (low.0, (tt, (tt, (tt, (tt, (tt, (tt, h)))))), low.2)
value_low (expr.Unary' operator _ (more_of-Expr e end_of-Expr)) k s h low = (low.0, (tt, (tt, h)), low.2)
value_low (expr.Binary' operator _ (more_of-Expr a end_of-Expr) _ (more_of-Expr b end_of-Expr)) k s h low = (low.0, (tt, (tt, (tt, (tt, h)))), low.2)
value_low (expr.Logical' operator _ (more_of-Expr a end_of-Expr) _ (more_of-Expr b end_of-Expr)) k s h low = (low.0, (tt, (tt, h)), low.2)
value_low (expr.Conditional' _ (more_of-Expr c end_of-Expr) _ (more_of-Expr a end_of-Expr) _ (more_of-Expr b end_of-Expr)) k s h low = (low.0, (tt, (tt, h)), low.2)
value_low (expr.Comma' _ (more_of-Expr a end_of-Expr) _ (more_of-Expr b end_of-Expr)) k s h low = (low.0, (tt, (tt, h)), low.2)
value_low (expr.Call' at site _ (more_of-Expr c end_of-Expr) _ es) k s h low = (low.0, call_low (callee c) c site es k h, low.2)
value_low (expr.Convert' why t _ (more_of-Expr e end_of-Expr)) k s h low = (low.0, (tt, (tt, h)), low.2)
value_low (expr.Discard' _ (more_of-Expr e end_of-Expr)) k s h low = (low.0, (tt, (tt, h)), low.2)

address_low : (u : UnitParts) (p : Place) (k : List Task) (s : State) → AreLow k → IsLow s → StaysLow (address_step u p k s)
address_low u (place.Variable at storage t) k s h low = (low.0, h, low.2)
address_low u (place.Text at words) k s h low = (low.0, h, low.2)
address_low u (place.Indirection' _ (more_of-Expr e end_of-Expr) t) k s h low = (low.0, (tt, h), low.2)
address_low u (place.Arrow' _ (more_of-Expr e end_of-Expr) structure) k s h low = (low.0, (tt, h), low.2)
address_low u (place.Element' _ (more_of-Expr a end_of-Expr) _ (more_of-Expr b end_of-Expr) side words t) k s h low = (low.0, (tt, (tt, (tt, (tt, h)))), low.2)
address_low u (place.Member' _ (more_of-Place p end_of-Place) offset t) k s h low = (low.0, (tt, (tt, h)), low.2)

statement_low : (item : Stmt) (k : List Task) (s : State) → AreLow k → IsLow s → StaysLow (statement_step item k s)
statement_low (stmt.Block' _ items) k s h low = (low.0, all_low items k h, low.2)
statement_low (stmt.Variable v) k s h low = (low.0, variable_low v.storage v.initializer k h, low.2)
statement_low stmt.Empty k s h low = (low.0, h, low.2)
statement_low (stmt.Expression e) k s h low = (low.0, (tt, h), low.2)
statement_low (stmt.If' c _ (more_of-Stmt item end_of-Stmt) _ other) k s h low = (low.0, (tt, (tt, h)), low.2)
statement_low (stmt.Loop' loop_kind.While c _ (more_of-Stmt body end_of-Stmt)) k s h low = (low.0, (tt, h), low.2)
statement_low (stmt.Loop' loop_kind.DoWhile c _ (more_of-Stmt body end_of-Stmt)) k s h low = (low.0, (tt, h), low.2)
statement_low (stmt.For' _ start test step _ (more_of-Stmt body end_of-Stmt)) k s h low = (low.0, all_low start (Turn (For test step body) ∷ k) (tt, h), low.2)
statement_low stmt.Break k s h low = (low.0, behind_low k h, low.2)
statement_low stmt.Continue k s h low = (low.0, end_low k h, low.2)
statement_low (stmt.Return (Some e)) k s h low = (low.0, (tt, (tt, tt)), low.2)
statement_low (stmt.Return None) k s h low = (low.0, (tt, tt), low.2)

-- Parts.

-- what is trapped
trapped : (s : State) (kind : TrapKind) → IsLow s → IsLow (record s { todo = Fail kind ∷ [] })
trapped s kind low = (low.0, (tt, tt), low.2)

found_if : (s : State) (at : ℕ) (b : Bool) (go : ℕ → Step State) → nat_lt at halt ≡ b → IsLow s → (at < halt → StaysLow (go at)) → StaysLow (accesses_at s (if b then Ok at else Err BadAccess) go)
found_if s at true go e low on = on (below at halt e)
found_if s at false go e low on = trapped s BadAccess low

access_low : (s : State) (pointer : Word) (go : ℕ → Step State) → IsLow s → ((at : ℕ) → at < halt → StaysLow (go at)) → StaysLow (accesses s pointer go)
access_low s Zero go low on = (low.0, (tt, tt), low.2)
access_low s (DataPointer at) go low on = found_if s at (nat_lt at halt) go refl low (on at)
access_low s _ go low on = (low.0, (tt, tt), low.2)

finds_low : (s : State) (found : Result Word TrapKind) (k : List Task) → AreLow k → IsLow s → StaysLow (finds s found k)
finds_low s (Ok value) k h low = (low.0, h, low.2)
finds_low s (Err kind) k h low = (low.0, (tt, tt), low.2)

held_low : (s : State) (found : Result Word TrapKind) (k : List Task) → AreLow k → IsLow s → StaysLow (finds_of_held s found k)
held_low s (Ok value) k h low = (low.0, h, low.2)
held_low s (Err kind) k h low = (low.0, (tt, tt), low.2)

serve_low : (s : State) (found : Option Word) (k : List Task) → AreLow k → IsLow s → IsLow (serve s found k)
serve_low s (Some value) k h low = (low.0, h, low.2)
serve_low s None k h low = (low.0, (tt, tt), low.2)

checked_low : (s : State) (word : ℕ) (k : List Task) → AreLow k → IsLow s → IsLow (checked s word k)
checked_low s word k h low = (low.0, if_low (nat_eq word 0) k (Finished Halted ∷ []) h (tt, tt), low.2)

also_low : (operator : LogicalOperator) (e : Expr) (b : Bool) (k : List Task) (s : State) → AreLow k → IsLow s → StaysLow (also_step operator e b k s)
also_low logical.And e true k s h low = (low.0, (tt, (tt, h)), low.2)
also_low logical.And e false k s h low = (low.0, h, low.2)
also_low logical.Or e true k s h low = (low.0, h, low.2)
also_low logical.Or e false k s h low = (low.0, (tt, (tt, h)), low.2)

-- a store, and on
stores_low : (s t : State) (pointer : Word) (word : ℕ) → IsLow s → IsLow t → StaysLow (accesses s pointer (λ at. does (Store at word) t))
stores_low s t pointer word low on = access_low s pointer (λ at. does (Store at word) t) low (λ at below_halt. (omega (arith, below_halt), λ _. (on, not_ending at t.todo below_halt)))

puts_low : (u : UnitParts) (s : State) (offset : ℕ) (value : Word) (k : List Task) → AreLow k → IsLow s → StaysLow (puts u s offset value k)
puts_low u s offset value k h low = stores_low s (record s { todo = k }) (DataPointer (local_address u s offset)) (packed value) low (low.0, h, low.2)

fill_low : (u : UnitParts) (offset : ℕ) (stored : List Stored) (k : List Task) (s : State) → AreLow k → IsLow s → StaysLow (fill_step u offset stored k s)
fill_low u offset [] k s h low = (low.0, h, low.2)
fill_low u offset (StoredValue e ∷ stored) k s h low = (low.0, (tt, (tt, (tt, h))), low.2)
fill_low u offset (Byte byte ∷ stored) k s h low = puts_low u s offset (number byte) (Now (Fill (suc offset) stored) ∷ k) (tt, h) low
fill_low u offset (StoredZero ∷ stored) k s h low = puts_low u s offset Zero (Now (Fill (suc offset) stored) ∷ k) (tt, h) low
fill_low u offset (StoredUndefined ∷ stored) k s h low = puts_low u s offset Undefined (Now (Fill (suc offset) stored) ∷ k) (tt, h) low

entered_low : (s : State) (function site : ℕ) (info : FunctionInfo) (body : Body) (held : ℕ) (k : List Task) → AreLow k → IsLow s → IsLow (entered s function site info body held k)
entered_low s function site info body held k h low = (low.0, function_low function site info body held, (h, low.2))

body_low : (s : State) (function site : ℕ) (info : FunctionInfo) (body : Option Body) (more : ℕ) (k : List Task) → AreLow k → IsLow s → StaysLow (enters_body s function site info body more k)
body_low s function site info None more k h low = (low.0, (tt, tt), low.2)
body_low s function site info (Some body) more k h low =
    chosen (has_room s info) (does (Enter function site) (entered s function site info body (length info.kind.params + more) k)) (fails s StackOverflow)
    (tt, λ _. (entered_low s function site info body (length info.kind.params + more) k h low, no_end _)) (low.0, (tt, tt), low.2)

enters_low : (s : State) (function site : ℕ) (info : Option FunctionInfo) (more : ℕ) (k : List Task) → AreLow k → IsLow s → StaysLow (enters s function site info more k)
enters_low s function site None more k h low = (low.0, (tt, tt), low.2)
enters_low s function site (Some info) more k h low = body_low s function site info info.body more k h low

enters_through_low : (u : UnitParts) (s : State) (called : Word) (site : ℕ) (k : List Task) → AreLow k → IsLow s → StaysLow (enters_through u s called site k)
enters_through_low u s (FunctionPointer function level) site k h low = enters_low s function site (slice_get u.functions function) 1 k h low
enters_through_low u s _ site k h low = (low.0, (tt, tt), low.2)

staged_low : (s : State) (result : CType) (onward : Staged) (k : List Task) → LowStaged onward → AreLow k → IsLow s → IsLow (staged s result onward k)
staged_low s result (Onto stage) k l h low = (low.0, (l, h), low.2)
staged_low s result (Retries stage) k l h low = (low.0, (l, h), low.2)
staged_low s result (Gives value) k l h low = (low.0, h, low.2)
staged_low s result (Traps kind) k l h low = (low.0, (tt, tt), low.2)
staged_low s result (Exits bits) k l h low = (low.0, (tt, tt), low.2)
staged_low s result Halts k l h low = (low.0, (tt, tt), low.2)

part_low : (u : UnitParts) (part : Part) (k : List Task) (s : State) → LowPart part → AreLow k → IsLow s → StaysLow (part_step u part k s)
part_low u (Value e) k s l h low = value_low e k s h low
part_low u (Address p) k s l h low = address_low u p k s h low
part_low u Hold k s l h low =
    chosen (nat_lt (length s.held) held_limit) (Quiet (record s { todo = k; held = s.value ∷ s.held })) (fails s StackOverflow)
    (low.0, h, low.2) (low.0, (tt, tt), low.2)
part_low u (LoadAs t) k s l h low =
    access_low s s.value (λ at. asks (Load at) (λ word. serve s (loaded u t word) k)) low
    (λ at below_halt. (omega (arith, below_halt), λ word. (serve_low s (loaded u t word) k h low, no_end _)))
part_low u (StoreAs t) k s l h low =
    stores_low s (record s { todo = k; held = drop 1 s.held }) (held_at s.held 0) (packed (written t s.value)) low (low.0, h, low.2)
part_low u (Retype from to) k s l h low = (low.0, h, low.2)
part_low u (Change operator) k s l h low = finds_low s (applied_to operator s.value) k h low
part_low u (Apply operation t) k s l h low = held_low s (applied operation (held_at s.held 0) s.value) k h low
part_low u (Advance operation t) k s l h low = finds_low s (applied operation (held_at s.held 0) (Number 1)) k h low
part_low u (StoreStep t which) k s l h low =
    stores_low s (record s { todo = k; value = value_of_step which s.value (held_at s.held 0); held = drop 2 s.held })
    (held_at s.held 1) (packed (written t s.value)) low (low.0, h, low.2)
part_low u (Shift offset t) k s l h low = finds_low s (member_of offset s.value) k h low
part_low u (Also operator e) k s l h low = also_low operator e (is_true s.value) k s h low
part_low u Truth k s l h low = (low.0, h, low.2)
part_low u (Pick a b) k s l h low = (low.0, (tt, h), low.2)
part_low u (Branch item other) k s l h low = (low.0, if_low (is_true s.value) (Do item ∷ k) (all_tasks other k) (tt, h) (all_low other k h), low.2)
part_low u (Fill offset stored) k s l h low = fill_low u offset stored k s h low
part_low u (Put offset t) k s l h low = puts_low u s offset (written t s.value) k h low
part_low u (Guard t) k s l h low =
    chosen (is_true (held_at s.held (count_of (callee_of t)))) (goes s k) (fails s NullCall) (low.0, h, low.2) (low.0, (tt, tt), low.2)
part_low u Check k s l h low = (omega arith, λ word. (checked_low s word k h low, no_end _))
part_low u (Begin function site) k s l h low = enters_low s function site (slice_get u.functions function) 0 k h low
part_low u (BeginThrough t site) k s l h low = enters_through_low u s (held_at s.held (count_of (callee_of t))) site k h low
part_low u (Meet function site) k s l h low = (tt, λ word. ((low.0, h, low.2), no_end _))
part_low u (Bind offset back t) k s l h low = puts_low u s offset (written t (held_at s.held back)) k h low
part_low u (Forget count) k s l h low = (low.0, h, low.2)
part_low u (Arrive row site) k s l h low = (
  tt,
  λ word. (
    staged_low (record s { held = drop (count_of (row_type row)) s.held }) (result_of (row_type row)) (call_begins row s.held) k
        (calls_low row s.held) h (low.0, low.1, low.2),
    no_end _,
  ),
)
part_low u (In stage result) k s l h low = (
  stage_in_table s.number stage l,
  λ word. (staged_low s result (stage_after s.number stage word) k (stage_low s.number stage word l) h low, stage_opens s.number stage l _),
)

-- Tasks.

turn_low : (loop : Loop) (k : List Task) → AreLow k → AreLow (turn_tasks loop k)
turn_low (While c body) k h = (tt, (tt, h))
turn_low (DoWhile c body) k h = (tt, (tt, h))
turn_low (For (Some c) step body) k h = (tt, (tt, h))
turn_low (For None step body) k h = (tt, (tt, h))

decided_low : (loop : Loop) (k : List Task) → AreLow k → AreLow (decided_tasks loop k)
decided_low (While c body) k h = (tt, (tt, h))
decided_low (DoWhile c body) k h = (tt, h)
decided_low (For test step body) k h = (tt, (tt, h))

again_low : (loop : Loop) (k : List Task) → AreLow k → AreLow (again_tasks loop k)
again_low (While c body) k h = (tt, h)
again_low (DoWhile c body) k h = (tt, (tt, h))
again_low (For test step body) k h = optional_low step (Turn (For test step body) ∷ k) (tt, h)

falls_low : (b : Bool) (s : State) → IsLow s → StaysLow (falls b s)
falls_low true s low = (low.0, (tt, tt), low.2)
falls_low false s low = (low.0, (tt, tt), low.2)

leaves_low : (s : State) (frames : List Frame) → FramesLow frames → IsLow s → IsLow (leaves s frames)
leaves_low s [] fs low = (low.0, tt, low.2)
leaves_low s (frame ∷ frames) fs low = (low.0, fs.0, fs.1)

stop_low : (b : Bool) (finish : Finish) (t : CType) → AreLow (if b then Halting finish ∷ [] else Deliver t ∷ [])
stop_low true finish t = (tt, tt)
stop_low false finish t = (tt, tt)

task_low : (u : UnitParts) (task : Task) (k : List Task) (s : State) → LowTask task → AreLow k → IsLow s → StaysLow (task_step u task k s)
task_low u (Now part) k s l h low = part_low u part k s l h low
task_low u (Do item) k s l h low = statement_low item k s h low
task_low u (Turn loop) k s l h low = (omega arith, λ word. (checked_low s word (turn_tasks loop k) (turn_low loop k h) low, no_end _))
task_low u (Decide loop) k s l h low = (low.0, if_low (is_true s.value) (decided_tasks loop k) k (decided_low loop k h) h, low.2)
task_low u (Again loop) k s l h low = (low.0, again_low loop k h, low.2)
task_low u (Fall result) k s l h low = falls_low (is_void result || is_main_in (info_on_top u s.frames)) s low
task_low u Leaving k s l h low =
    chosen (is_noreturn_in (info_on_top u s.frames)) (fails s NoreturnReturned) (does Leave (leaves s s.frames))
    (low.0, (tt, tt), low.2) (tt, λ word. (leaves_low s s.frames low.2 low, no_end _))
task_low u (Stop function) k s l h low =
    let t = result_in (slice_get u.functions function) in (low.0, stop_low (nat_eq s.number 0) (Exited (status_of t s.value)) t, low.2)
task_low u (Deliver t) k s l h low = let small = low.0 in (omega (arith, small), λ word. ((low.0, (tt, tt), low.2), λ e. tt))
task_low u Tell k s l h low = let small = low.0 in (omega (arith, small), λ word. ((low.0, (tt, tt), low.2), λ e. tt))
task_low u (Fail kind) k s l h low = (tt, λ word. ((low.0, (tt, tt), low.2), λ e. tt))
task_low u (Halting finish) k s l h low = (omega arith, λ word. ((low.0, (tt, tt), low.2), λ e. tt))
task_low u (Finished finish) k s l h low = tt

steps_low : (u : UnitParts) (todo : List Task) (s : State) → AreLow todo → IsLow s → StaysLow (steps u todo s)
steps_low u [] s h low = tt
steps_low u (task ∷ k) s h low = task_low u task k s h.0 h.1 low

settle_from : (go : State → Step State) → ((s : State) → IsLow s → StaysLow (go s)) → (made : Step State) → StaysLow made → StaysLow (unless_quiet go made)
settle_from go on (Quiet s) low = on s low
settle_from go on (Makes event after turned) low = low
settle_from go on (Ends finish) low = low

settle_low : (u : UnitParts) (n : ℕ) (s : State) → IsLow s → StaysLow (settle (step u) n s)
settle_low u zero s low = low
settle_low u (suc n) s low = settle_from (settle (step u) n) (settle_low u n) (step u s) (steps_low u s.todo s low.1 low)

asked_low : (made : Step State) → StaysLow made → IsInTable (asked made)
asked_low (Quiet s) low = tt
asked_low (Makes event after turned) low = low.0
asked_low (Ends finish) low = tt

answered_low : (made : Step State) (s : State) (word : ℕ) → StaysLow made → IsLow s → IsLow (answered made s word)
answered_low (Quiet t) s word made low = made
answered_low (Makes event after turned) s word made low = (made.1 word).0
answered_low (Ends finish) s word made low = low

pub next_low : (u : UnitParts) (s : State) → IsLow s → IsInTable (next u s)
next_low u s low = asked_low (settles u s) (settle_low u (suc (weight s.todo)) s low)

after_low : (u : UnitParts) (s : State) (word : ℕ) → IsLow s → IsLow (after u s word)
after_low u s word low = answered_low (settles u s) s word (settle_low u (suc (weight s.todo)) s low) low

pub comes_low : (u : UnitParts) (s : State) → Comes u s → IsLow s
comes_low u _ (begins number function arguments few) = (few, (tt, (tt, (tt, tt))), tt)
comes_low u _ (goes_on s word before) = after_low u s word (comes_low u s before)
comes_low u _ (halts s before) = let low = comes_low u s before in (low.0, (tt, tt), low.2)

-- Where the next event begins an ending, nothing but the rest of that remains.

closes_by : (made : Step State) (s : State) (word : ℕ) → StaysLow made → is_event (asked made) ≡ true → is_ending (asked made) ≡ true → IsClosing (answered made s word).todo
closes_by (Quiet t) s word low event e = let clash : ⊥ = cc in absurd clash
closes_by (Makes event after turned) s word low some e = (low.1 word).1 e
closes_by (Ends finish) s word low event e = let clash : ⊥ = cc in absurd clash

pub closes : (u : UnitParts) (s : State) (word : ℕ) → IsLow s → is_event (next u s) ≡ true → is_ending (next u s) ≡ true → IsClosing (after u s word).todo
closes u s word low event e = closes_by (settles u s) s word (settle_low u (suc (weight s.todo)) s low) event e

-- and then one event more at most.
abbrev pub IsClosed : List Task → Type 0
IsClosed (Finished finish ∷ k) = Unit {0}
IsClosed _ = ⊥

closing_step : (u : UnitParts) (todo : List Task) (s : State) (go : State → Step State) (word : ℕ) → IsClosing todo → is_event (asked (unless_quiet go (steps u todo s))) ≡ true → IsClosed (answered (unless_quiet go (steps u todo s)) s word).todo
closing_step u [] s go word closing event = absurd closing
closing_step u (Halting finish ∷ k) s go word closing event = tt
closing_step u (Tell ∷ k) s go word closing event = tt
closing_step u (Finished finish ∷ k) s go word closing event = let clash : ⊥ = cc in absurd clash
closing_step u (task ∷ k) s go word closing event = absurd closing

pub closed_after : (u : UnitParts) (s : State) (word : ℕ) → IsClosing s.todo → is_event (next u s) ≡ true → IsClosed (after u s word).todo
closed_after u s word closing event = closing_step u s.todo s (settle (step u) (weight s.todo)) word closing event

closed_step : (u : UnitParts) (todo : List Task) (s : State) (go : State → Step State) → IsClosed todo → is_event (asked (unless_quiet go (steps u todo s))) ≡ false
closed_step u [] s go closed = absurd closed
closed_step u (Finished finish ∷ k) s go closed = refl
closed_step u (task ∷ k) s go closed = absurd closed

pub closed_next : (u : UnitParts) (s : State) → IsClosed s.todo → is_event (next u s) ≡ false
closed_next u s closed = closed_step u s.todo s (settle (step u) (weight s.todo)) closed
