-- Quiet steps come to an end: each lowers the weight of what remains. And a step that makes an event ignores the word beside it unless that answers.
use Rattle.std.proofs.Common.{◌≡◌, refl, ap, ℕ, zero, suc, ◌+◌, ◌*◌, ◌<◌, ◌≤◌, Bool, true, false, ◌||◌, List, [], ◌∷◌, length, drop, Option, Some, None, Result, Ok, Err, arith, nat_eq, nat_lt, if◌then◌else◌, slice_get}
use Rattle.arithmetic.specs.Values.{applied, applied_to, member_of, is_true, number}
use Rattle.arithmetic.specs.declared.traps.TrapKind.{TrapKind}
use Rattle.arithmetic.specs.declared.traps.TrapKind.TheVariants.{NullCall, StackOverflow, NoreturnReturned}
use Rattle.core_unit.specs.Places.{callee, Callee, Named, Row, Through}
use Rattle.core_unit.specs.Shapes.{callee_of}
use Rattle.core_unit.specs.Stores.{Stored, stores, Value as StoredValue, Byte, Zero as StoredZero, Undefined as StoredUndefined}
use Rattle.core_unit.specs.Typing.{type_of}
use Rattle.core_unit.specs.declared.body.Body.{Body}
use Rattle.core_unit.specs.declared.body.Initializer.{Initializer}
use Rattle.core_unit.specs.declared.body.LoopKind.TheVariants as loop_kind
use Rattle.core_unit.specs.declared.body.Stmt as stmt
use Rattle.core_unit.specs.declared.body.Stmt.{Stmt, Row_of-Stmt, end_of-Stmt, more_of-Stmt}
use Rattle.core_unit.specs.declared.expressions.Expr as expr
use Rattle.core_unit.specs.declared.expressions.Expr.{Expr, Row_of-Expr, end_of-Expr, more_of-Expr, end_of-Place, more_of-Place}
use Rattle.core_unit.specs.declared.expressions.Place as place
use Rattle.core_unit.specs.declared.expressions.Place.{Place}
use Rattle.core_unit.specs.declared.expressions.Storage.{Storage}
use Rattle.core_unit.specs.declared.expressions.Storage.TheVariants.{Automatic, Static, ThreadLocal}
use Rattle.core_unit.specs.declared.operators.LogicalOperator.{LogicalOperator}
use Rattle.core_unit.specs.declared.operators.LogicalOperator.TheVariants as logical
use Rattle.core_unit.specs.declared.tables.FunctionInfo.{FunctionInfo}
use Rattle.core_unit.specs.declared.tables.UnitParts.{UnitParts}
use Rattle.core_unit.specs.declared.words.Word.{Word}
use Rattle.core_unit.specs.declared.words.Word.TheVariants.{Zero, Undefined, Number, DataPointer, FunctionPointer}
use Rattle.core_unit.specs.Words.{packed}
use Rattle.eff_types.specs.Types.{is_void}
use Rattle.eff_types.specs.declared.types.CType.{CType}
use Rattle.mcode.specs.Memory.{held_limit}
use Rattle.mcode.specs.Stages.{held_at, turned_to}
use Rattle.mcode.specs.Words.{accessed, loaded, written}
use Rattle.mcode.specs.declared.events.Ask.TheVariants.{Load, Store, Enter, Leave}
use Rattle.mcode.specs.declared.events.Finish.{Finish}
use Rattle.mcode.specs.declared.events.Finish.TheVariants.{Exited}
use Rattle.mcode.specs.Steps.{Step, Quiet, Makes, Ends, is_answered, asks, does, is_quiet, settle, unless_quiet}
use Rattle.mcode.proofs.Unanswered.{IsIgnored, Ignores, same_answered, stage_ignores}
use Rattle.src_model.specs.Rules.{before, goes, fails, local_address, arguments, call_tasks, value_step, address_step, statement_step, all_tasks, optional_tasks, variable_tasks, behind_loop, end_of_body}
use Rattle.src_model.specs.Source.{accesses_at, puts, serve, value_of_step, finds, finds_of_held, also_step, fill_step, entered, leaves, is_main_in, enters, enters_body, enters_through, count_of, has_room, info_on_top, is_noreturn_in, stop_tasks, status_of, result_in, staged, falls, decided_tasks, again_tasks, part_step, task_step, steps, step, settles, next, after, turned}
use Rattle.src_model.specs.Tasks.{Part, Value, Address, Hold, LoadAs, StoreAs, Retype, Change, Apply, Advance, StoreStep, Shift, Also, Truth, Pick, Branch, Fill, Put, Guard, Check, Begin, BeginThrough, Meet, Bind, Forget, Arrive, In, Loop, While, DoWhile, For, Task, Now, Do, Turn, Decide, Again, Fall, Leaving, Stop, Deliver, Tell, Fail, Halting, Finished, State}
use Rattle.src_model.specs.Weights.{measure, place_measure, measures, optional_measure, stored_measure, statement_measure, statement_measures, part_weight, task_weight, again_weight, decide_weight, weight}

-- where a step is quiet, what remains weighs less than this; where it makes an event that nothing answers, the word beside that is ignored
abbrev pub Lowers : ℕ → Step State → Type 0
Lowers n (Quiet s) = weight s.todo < n
Lowers n (Makes event after turned) = IsIgnored event after turned
Lowers n (Ends finish) = Unit {0}

-- one of two steps
chosen : (b : Bool) (n : ℕ) (x y : Step State) → Lowers n x → Lowers n y → Lowers n (if b then x else y)
chosen true n x y p q = p
chosen false n x y p q = q

-- Expressions and places.

arguments_weight : {n : _} (es : Row_of-Expr n) (k : List Task) → weight (arguments es k) ≤ 8 * measures es + weight k
unfolding measure
arguments_weight end_of-Expr k = omega arith
arguments_weight (more_of-Expr e es) k = let rest = arguments_weight es k in omega (arith, rest)

call_weight : {n : _} (called : Callee) (c : Expr) (site : ℕ) (es : Row_of-Expr n) (k : List Task) → weight (call_tasks called c site es k) < 8 * (1 + measure c + measures es) + weight k
call_weight (Named function) c site es k = let rest = arguments_weight es (before (Check ∷ Begin function site ∷ []) k) in omega (arith, rest)
call_weight (Row row) c site es k = let rest = arguments_weight es (before (Check ∷ Arrive row site ∷ []) k) in omega (arith, rest)
call_weight (Through signature) c site es k =
    let rest = arguments_weight es (before (Guard (type_of c) ∷ Check ∷ BeginThrough (type_of c) site ∷ []) k) in omega (arith, rest)

value_lowers : (e : Expr) (k : List Task) (s : State) → Lowers (8 * measure e + weight k) (value_step e k s)
unfolding measure
value_lowers (expr.Number sign bits) k s = omega arith
value_lowers expr.Null k s = omega arith
value_lowers (expr.Sizeof words) k s = omega arith
value_lowers (expr.Function function t) k s = omega arith
value_lowers (expr.LibraryFunction row) k s = omega arith
value_lowers (expr.TargetFunction' _ (more_of-Expr e end_of-Expr)) k s = omega arith
value_lowers (expr.FunctionPointer' _ (more_of-Expr e end_of-Expr)) k s = omega arith
value_lowers (expr.ArrayPointer' _ (more_of-Place p end_of-Place)) k s = omega arith
value_lowers (expr.AddressOf' _ (more_of-Place p end_of-Place)) k s = omega arith
value_lowers (expr.Load' _ (more_of-Place p end_of-Place)) k s = omega arith
value_lowers (expr.Assign' _ (more_of-Place p end_of-Place) _ (more_of-Expr e end_of-Expr)) k s = omega arith
value_lowers (expr.Compound' _ (more_of-Place p end_of-Place) how _ (more_of-Expr e end_of-Expr)) k s = omega arith
value_lowers (expr.Step' _ (more_of-Place p end_of-Place) how which) k s = omega arith
value_lowers (expr.Unary' operator _ (more_of-Expr e end_of-Expr)) k s = omega arith
value_lowers (expr.Binary' operator _ (more_of-Expr a end_of-Expr) _ (more_of-Expr b end_of-Expr)) k s = omega arith
value_lowers (expr.Logical' operator _ (more_of-Expr a end_of-Expr) _ (more_of-Expr b end_of-Expr)) k s = omega arith
value_lowers (expr.Conditional' _ (more_of-Expr c end_of-Expr) _ (more_of-Expr a end_of-Expr) _ (more_of-Expr b end_of-Expr)) k s = omega arith
value_lowers (expr.Comma' _ (more_of-Expr a end_of-Expr) _ (more_of-Expr b end_of-Expr)) k s = omega arith
value_lowers (expr.Call' at site _ (more_of-Expr c end_of-Expr) _ es) k s = call_weight (callee c) c site es k
value_lowers (expr.Convert' why t _ (more_of-Expr e end_of-Expr)) k s = omega arith
value_lowers (expr.Discard' _ (more_of-Expr e end_of-Expr)) k s = omega arith

address_lowers : (u : UnitParts) (p : Place) (k : List Task) (s : State) → Lowers (8 * place_measure p + weight k) (address_step u p k s)
unfolding measure
address_lowers u (place.Variable at storage t) k s = omega arith
address_lowers u (place.Text at words) k s = omega arith
address_lowers u (place.Indirection' _ (more_of-Expr e end_of-Expr) t) k s = omega arith
address_lowers u (place.Arrow' _ (more_of-Expr e end_of-Expr) structure) k s = omega arith
address_lowers u (place.Element' _ (more_of-Expr a end_of-Expr) _ (more_of-Expr b end_of-Expr) side words t) k s = omega arith
address_lowers u (place.Member' _ (more_of-Place p end_of-Place) offset t) k s = omega arith

-- Statements.

all_weight : {n : _} (items : Row_of-Stmt n) (k : List Task) → weight (all_tasks items k) ≤ 8 * statement_measures items + weight k
unfolding statement_measure
all_weight end_of-Stmt k = omega arith
all_weight (more_of-Stmt item items) k = let rest = all_weight items k in omega (arith, rest)

optional_weight : (e : Option Expr) (k : List Task) → weight (optional_tasks e k) ≤ 8 * optional_measure e + weight k
optional_weight None k = omega arith
optional_weight (Some e) k = omega arith

variable_weight : (storage : Storage) (initializer : Initializer) (k : List Task) → weight (variable_tasks storage initializer k) < 8 * (1 + stored_measure (stores initializer)) + weight k
variable_weight (Automatic offset) initializer k = omega arith
variable_weight (Static address) initializer k = omega arith
variable_weight (ThreadLocal offset) initializer k = omega arith

behind_weight : (k : List Task) → weight (behind_loop k) ≤ weight k
behind_weight [] = omega arith
behind_weight (Do item ∷ k) = let rest = behind_weight k in omega (arith, rest)
behind_weight (Turn loop ∷ k) = let rest = behind_weight k in omega (arith, rest)
behind_weight (Again loop ∷ k) = omega arith
behind_weight (Fall result ∷ k) = omega arith
behind_weight (task ∷ k) = omega arith

end_weight : (k : List Task) → weight (end_of_body k) ≤ weight k
end_weight [] = omega arith
end_weight (Do item ∷ k) = let rest = end_weight k in omega (arith, rest)
end_weight (Turn loop ∷ k) = let rest = end_weight k in omega (arith, rest)
end_weight (Again loop ∷ k) = omega arith
end_weight (Fall result ∷ k) = omega arith
end_weight (task ∷ k) = omega arith

statement_lowers : (item : Stmt) (k : List Task) (s : State) → Lowers (8 * statement_measure item + weight k) (statement_step item k s)
unfolding statement_measure
statement_lowers (stmt.Block' _ items) k s = let rest = all_weight items k in omega (arith, rest)
statement_lowers (stmt.Variable v) k s = variable_weight v.storage v.initializer k
statement_lowers stmt.Empty k s = omega arith
statement_lowers (stmt.Expression e) k s = omega arith
statement_lowers (stmt.If' c _ (more_of-Stmt item end_of-Stmt) _ other) k s = omega arith
statement_lowers (stmt.Loop' loop_kind.While c _ (more_of-Stmt body end_of-Stmt)) k s = omega arith
statement_lowers (stmt.Loop' loop_kind.DoWhile c _ (more_of-Stmt body end_of-Stmt)) k s = omega arith
statement_lowers (stmt.For' _ start test step _ (more_of-Stmt body end_of-Stmt)) k s =
    let rest = all_weight start (Turn (For test step body) ∷ k) in omega (arith, rest)
statement_lowers stmt.Break k s = let rest = behind_weight k in omega (arith, rest)
statement_lowers stmt.Continue k s = let rest = end_weight k in omega (arith, rest)
statement_lowers (stmt.Return (Some e)) k s = omega arith
statement_lowers (stmt.Return None) k s = omega arith

-- Parts.

access_lowers : (n : ℕ) (s : State) (found : Result ℕ TrapKind) (go : ℕ → Step State) → 0 < n → ((at : ℕ) → Lowers n (go at)) → Lowers n (accesses_at s found go)
access_lowers n s (Ok at) go some on = on at
access_lowers n s (Err kind) go some on = some

finds_lowers : (n : ℕ) (s : State) (found : Result Word TrapKind) (k : List Task) → weight k < n → Lowers n (finds s found k)
finds_lowers n s (Ok value) k less = less
finds_lowers n s (Err kind) k less = omega (arith, less)

held_lowers : (n : ℕ) (s : State) (found : Result Word TrapKind) (k : List Task) → weight k < n → Lowers n (finds_of_held s found k)
held_lowers n s (Ok value) k less = less
held_lowers n s (Err kind) k less = omega (arith, less)

also_lowers : (operator : LogicalOperator) (e : Expr) (b : Bool) (k : List Task) (s : State) → Lowers (2 + 8 * measure e + weight k) (also_step operator e b k s)
also_lowers logical.And e true k s = omega arith
also_lowers logical.And e false k s = omega arith
also_lowers logical.Or e true k s = omega arith
also_lowers logical.Or e false k s = omega arith

pick_weight : (b : Bool) (x y : Expr) → measure (if b then x else y) ≤ measure x + measure y
pick_weight true x y = omega arith
pick_weight false x y = omega arith

branch_weight : {n : _} (b : Bool) (item : Stmt) (other : Row_of-Stmt n) (k : List Task) → weight (if b then Do item ∷ k else all_tasks other k) < 1 + 8 * (statement_measure item + statement_measures other) + weight k
branch_weight true item other k = omega arith
branch_weight false item other k = let rest = all_weight other k in omega (arith, rest)

puts_lower : (n : ℕ) (u : UnitParts) (s : State) (offset : ℕ) (value : Word) (k : List Task) → 0 < n → Lowers n (puts u s offset value k)
puts_lower n u s offset value k some =
    access_lowers n s (accessed (DataPointer (local_address u s offset))) (λ at. does (Store at (packed value)) (record s { todo = k })) some (λ at e a b. (refl, refl))

fill_lowers : (u : UnitParts) (offset : ℕ) (stored : List Stored) (k : List Task) (s : State) → Lowers (8 * stored_measure stored + weight k) (fill_step u offset stored k s)
fill_lowers u offset [] k s = omega arith
fill_lowers u offset (StoredValue e ∷ stored) k s = omega arith
fill_lowers u offset (Byte byte ∷ stored) k s = puts_lower (8 * (1 + stored_measure stored) + weight k) u s offset (number byte) (Now (Fill (suc offset) stored) ∷ k) (omega arith)
fill_lowers u offset (StoredZero ∷ stored) k s = puts_lower (8 * (1 + stored_measure stored) + weight k) u s offset Zero (Now (Fill (suc offset) stored) ∷ k) (omega arith)
fill_lowers u offset (StoredUndefined ∷ stored) k s = puts_lower (8 * (1 + stored_measure stored) + weight k) u s offset Undefined (Now (Fill (suc offset) stored) ∷ k) (omega arith)

body_lowers : (n : ℕ) (s : State) (function site : ℕ) (info : FunctionInfo) (body : Option Body) (more : ℕ) (k : List Task) → 0 < n → Lowers n (enters_body s function site info body more k)
body_lowers n s function site info None more k some = some
body_lowers n s function site info (Some body) more k some =
    chosen (has_room s info) n (does (Enter function site) (entered s function site info body (length info.kind.params + more) k)) (fails s StackOverflow) (λ e a b. (refl, refl)) some

enters_lowers : (n : ℕ) (s : State) (function site : ℕ) (info : Option FunctionInfo) (more : ℕ) (k : List Task) → 0 < n → Lowers n (enters s function site info more k)
enters_lowers n s function site None more k some = some
enters_lowers n s function site (Some info) more k some = body_lowers n s function site info info.body more k some

through_lowers : (n : ℕ) (u : UnitParts) (s : State) (called : Word) (site : ℕ) (k : List Task) → 0 < n → Lowers n (enters_through u s called site k)
through_lowers n u s (FunctionPointer function level) site k some = enters_lowers n s function site (slice_get u.functions function) 1 k some
through_lowers n u s _ site k some = some

part_lowers : (u : UnitParts) (part : Part) (k : List Task) (s : State) → Lowers (part_weight part + weight k) (part_step u part k s)
part_lowers u (Value e) k s = value_lowers e k s
part_lowers u (Address p) k s = address_lowers u p k s
part_lowers u Hold k s =
    chosen (nat_lt (length s.held) held_limit) (1 + weight k) (Quiet (record s { todo = k; held = s.value ∷ s.held })) (fails s StackOverflow) (omega arith) (omega arith)
part_lowers u (LoadAs t) k s =
    access_lowers (1 + weight k) s (accessed s.value) (λ at. asks (Load at) (λ word. serve s (loaded u t word) k)) (omega arith)
    (λ at e a b. let clash : ⊥ = cc in absurd clash)
part_lowers u (StoreAs t) k s =
    access_lowers (1 + weight k) s (accessed (held_at s.held 0))
    (λ at. does (Store at (packed (written t s.value))) (record s { todo = k; held = drop 1 s.held })) (omega arith) (λ at e a b. (refl, refl))
part_lowers u (Retype from to) k s = omega arith
part_lowers u (Change operator) k s = finds_lowers (1 + weight k) s (applied_to operator s.value) k (omega arith)
part_lowers u (Apply operation t) k s = held_lowers (1 + weight k) s (applied operation (held_at s.held 0) s.value) k (omega arith)
part_lowers u (Advance operation t) k s = finds_lowers (1 + weight k) s (applied operation (held_at s.held 0) (Number 1)) k (omega arith)
part_lowers u (StoreStep t which) k s =
    access_lowers (1 + weight k) s (accessed (held_at s.held 1))
    (λ at. does (Store at (packed (written t s.value)))
    (record s { todo = k; value = value_of_step which s.value (held_at s.held 0); held = drop 2 s.held })) (omega arith) (λ at e a b. (refl, refl))
part_lowers u (Shift offset t) k s = finds_lowers (1 + weight k) s (member_of offset s.value) k (omega arith)
part_lowers u (Also operator e) k s = also_lowers operator e (is_true s.value) k s
part_lowers u Truth k s = omega arith
part_lowers u (Pick a b) k s = let one = pick_weight (is_true s.value) a b in omega (arith, one)
part_lowers u (Branch item other) k s = branch_weight (is_true s.value) item other k
part_lowers u (Fill offset stored) k s = fill_lowers u offset stored k s
part_lowers u (Put offset t) k s = puts_lower (1 + weight k) u s offset (written t s.value) k (omega arith)
part_lowers u (Guard t) k s =
    chosen (is_true (held_at s.held (count_of (callee_of t)))) (1 + weight k) (goes s k) (fails s NullCall) (omega arith) (omega arith)
part_lowers u Check k s = λ e a b. let clash : ⊥ = cc in absurd clash
part_lowers u (Begin function site) k s = enters_lowers (1 + weight k) s function site (slice_get u.functions function) 0 k (omega arith)
part_lowers u (BeginThrough t site) k s = through_lowers (1 + weight k) u s (held_at s.held (count_of (callee_of t))) site k (omega arith)
part_lowers u (Meet function site) k s = λ e a b. (refl, refl)
part_lowers u (Bind offset back t) k s = puts_lower (1 + weight k) u s offset (written t (held_at s.held back)) k (omega arith)
part_lowers u (Forget count) k s = omega arith
part_lowers u (Arrive row site) k s = λ e a b. (refl, refl)
part_lowers u (In stage result) k s = λ e a b.
    let same = stage_ignores s.number stage e a b in (ap (λ onward. staged s result onward k) same, ap turned_to same)

-- Tasks.

decided_weight : (b : Bool) (loop : Loop) (k : List Task) → weight (if b then decided_tasks loop k else k) < decide_weight loop + weight k
decided_weight true (While c body) k = omega arith
decided_weight true (DoWhile c body) k = omega arith
decided_weight true (For test step body) k = omega arith
decided_weight false (While c body) k = omega arith
decided_weight false (DoWhile c body) k = omega arith
decided_weight false (For test step body) k = omega arith

again_lowers : (loop : Loop) (k : List Task) → weight (again_tasks loop k) < again_weight loop + weight k
again_lowers (While c body) k = omega arith
again_lowers (DoWhile c body) k = omega arith
again_lowers (For test step body) k = let rest = optional_weight step (Turn (For test step body) ∷ k) in omega (arith, rest)

falls_lowers : (n : ℕ) (b : Bool) (s : State) → 1 < n → Lowers n (falls b s)
falls_lowers n true s some = some
falls_lowers n false s some = omega (arith, some)

stop_weight : (b : Bool) (finish : Finish) (t : CType) → weight (if b then Halting finish ∷ [] else Deliver t ∷ []) ≤ 1
stop_weight true finish t = omega arith
stop_weight false finish t = omega arith

stop_lowers : (s : State) (t : CType) → weight (stop_tasks s t) ≤ 1
stop_lowers s t = stop_weight (nat_eq s.number 0) (Exited (status_of t s.value)) t

task_lowers : (u : UnitParts) (task : Task) (k : List Task) (s : State) → Lowers (task_weight task + weight k) (task_step u task k s)
task_lowers u (Now part) k s = part_lowers u part k s
task_lowers u (Do item) k s = statement_lowers item k s
task_lowers u (Turn loop) k s = λ e a b. let clash : ⊥ = cc in absurd clash
task_lowers u (Decide loop) k s = decided_weight (is_true s.value) loop k
task_lowers u (Again loop) k s = again_lowers loop k
task_lowers u (Fall result) k s = falls_lowers (2 + weight k) (is_void result || is_main_in (info_on_top u s.frames)) s (omega arith)
task_lowers u Leaving k s =
    chosen (is_noreturn_in (info_on_top u s.frames)) (1 + weight k) (fails s NoreturnReturned) (does Leave (leaves s s.frames)) (omega arith) (λ e a b. (refl, refl))
task_lowers u (Stop function) k s = let few = stop_lowers s (result_in (slice_get u.functions function)) in omega (arith, few)
task_lowers u (Deliver t) k s = λ e a b. (refl, refl)
task_lowers u Tell k s = λ e a b. (refl, refl)
task_lowers u (Fail kind) k s = λ e a b. (refl, refl)
task_lowers u (Halting finish) k s = λ e a b. (refl, refl)
task_lowers u (Finished finish) k s = tt

steps_lower : (u : UnitParts) (todo : List Task) (s : State) → Lowers (weight todo) (steps u todo s)
steps_lower u [] s = tt
steps_lower u (task ∷ k) s = task_lowers u task k s

-- a step, and then as many more as its weight says
loud_from : (u : UnitParts) (n : ℕ) (m : ℕ) (made : Step State) → Lowers m made → ((t : State) → weight t.todo < m → is_quiet (settle (step u) n t) ≡ false) → is_quiet (unless_quiet (settle (step u) n) made) ≡ false
loud_from u n m (Quiet t) low on = on t low
loud_from u n m (Makes event after turned) low on = refl
loud_from u n m (Ends finish) low on = refl

loud : (u : UnitParts) (n : ℕ) (s : State) → weight s.todo ≤ n → is_quiet (settle (step u) (suc n) s) ≡ false
loud u zero s few = loud_from u zero (weight s.todo) (step u s) (steps_lower u s.todo s) (λ t less. absurd (omega (arith, few, less)))
loud u (suc n) s few = loud_from u (suc n) (weight s.todo) (step u s) (steps_lower u s.todo s) (λ t less. loud u n t (omega (arith, few, less)))

-- Each state comes to an event or to its finish.
pub settles_loud : (u : UnitParts) (s : State) → is_quiet (settles u s) ≡ false
settles_loud u s = loud u (weight s.todo) s (omega arith)

-- What a step shows is answered or ignores the word beside it.

ignores_from : (go : State → Step State) → ((s : State) → Ignores (go s)) → (n : ℕ) (made : Step State) → Lowers n made → Ignores (unless_quiet go made)
ignores_from go on n (Quiet s) low = on s
ignores_from go on n (Makes event after turned) low = low
ignores_from go on n (Ends finish) low = tt

settle_ignores : (u : UnitParts) (n : ℕ) (s : State) → Ignores (settle (step u) n s)
settle_ignores u zero s = tt
settle_ignores u (suc n) s = ignores_from (settle (step u) n) (settle_ignores u n) (weight s.todo) (step u s) (steps_lower u s.todo s)

pub ignored : (u : UnitParts) (s : State) (word other : ℕ) → is_answered (next u s) ≡ false → (after u s word ≡ after u s other) × (turned u s word ≡ turned u s other)
ignored u s word other e = same_answered (settles u s) s word other (settle_ignores u (suc (weight s.todo)) s) e
