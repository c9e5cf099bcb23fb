-- Where the code of what remains stands, and when a thread of the code stands where the source thread is.
use Rattle.std.proofs.Common.{◌≡◌, ℕ, suc, ◌+◌, false, ◌||◌, List, [], ◌∷◌, Some, None, if◌then◌else◌, nat_eq, slice_get}
use Rattle.std.specs.Option.{option_map_or}
use Rattle.arithmetic.specs.declared.traps.TrapKind.{TrapKind}
use Rattle.core_unit.specs.Library.{row_type}
use Rattle.core_unit.specs.Shapes.{level_of}
use Rattle.core_unit.specs.Stores.{Stored}
use Rattle.core_unit.specs.declared.tables.FunctionInfo.{FunctionInfo}
use Rattle.core_unit.specs.declared.tables.UnitParts.{UnitParts}
use Rattle.eff_types.specs.Types.{is_void}
use Rattle.eff_types.specs.declared.types.CType.{CType}
use Rattle.mcode.specs.Machine as machine
use Rattle.mcode.specs.Machine.{Program, Machine, entry_of, move, filling, spelling}
use Rattle.mcode.specs.Steps.{Step, Quiet, Makes, Ends}
use Rattle.mcode.specs.declared.code.Instruction.TheVariants as i
use Rattle.mcode.specs.declared.events.Finish.{Finish}
use Rattle.mcode.specs.declared.events.Finish.TheVariants.{Exited}
use Rattle.mcode.specs.declared.stages.Stage.{Stage}
use Rattle.mcode.specs.declared.thread.Caller.{Caller}
use Rattle.mcode.specs.declared.thread.Mode.{Mode}
use Rattle.mcode.specs.declared.thread.Mode.TheVariants.{Starting, Entering, Running, Calling, Failing, Delivering, Telling, Stopping, Done}
use Rattle.src_model.specs.Source.{count_of, is_main_in, result_in}
use Rattle.src_model.specs.Tasks.{Part, Value, Address, Hold, LoadAs, StoreAs, Retype, Change, Apply, Advance, StoreStep, Shift, Also as After_left, Truth, Pick, Branch, Fill, Put, Guard, Check, Begin, BeginThrough, Meet, Bind, Forget, Arrive, In, Loop, While, DoWhile, For, Task, Now, Do, Turn, Decide, Again, Fall, Leaving, Stop, Deliver, Tell, Fail, Halting, Finished, Frame, State}
use Rattle.c_codegen.specs.Entries.{served, entry_at}
use Rattle.c_codegen.specs.Lies.{Is, One, Also, Picks, arguments_of, PlaceLies, Lies, IsRun, IsText, Filled, Branches, WhileLies, DoLies, ForLies, Stands, AllStand}

-- jumps lead from one place to the other
pub data Jumps (c : Program) : (from to : ℕ) → Type 0 where
  here : (p : ℕ) → Jumps c p p
  jump : (p q r : ℕ) → Is c p (i.GoTo q) → Jumps c q r → Jumps c p r

-- so it stands at a place to which jumps lead
abbrev pub After : Program → (ℕ → Type 0) → ℕ → Type 0
After c X p = (q : ℕ) × Jumps c p q × X q

abbrev pub LoopLies : UnitParts → Program → Loop → (top decision back out : ℕ) → Type 0
LoopLies u c (While e body) top decision back out = WhileLies c (Lies u c e) (Stands u c body) top decision back out
LoopLies u c (DoWhile e body) top decision back out = DoLies c (Lies u c e) (Stands u c body) top decision back out
LoopLies u c (For test step body) top decision back out = ForLies u c test step (Stands u c body) top decision back out

abbrev pub HasTest : Loop → Type 0
HasTest (For None step body) = ⊥
HasTest _ = Unit {0}

-- A part, in the function that was entered last, where `break` and `continue` go to such places.
abbrev pub PartLies : UnitParts → Program → Caller → (leaves repeats : ℕ → Type 0) → Part → (from to : ℕ) → Type 0
PartLies u c x leaves repeats (Value e) from to = Lies u c e from to
PartLies u c x leaves repeats (Address p) from to = PlaceLies u c p from to
PartLies u c x leaves repeats Hold from to = One c i.HoldValue from to
PartLies u c x leaves repeats (LoadAs t) from to = One c (i.LoadAs (served u t)) from to
PartLies u c x leaves repeats (StoreAs t) from to = One c (i.StoreAs (level_of t)) from to
PartLies u c x leaves repeats (Retype t v) from to = from ≡ to
PartLies u c x leaves repeats (Change operator) from to = One c (i.Change operator) from to
PartLies u c x leaves repeats (Apply operation t) from to = One c (i.Apply operation) from to
PartLies u c x leaves repeats (Advance operation t) from to = One c (i.Advance operation) from to
PartLies u c x leaves repeats (StoreStep t which) from to = One c (i.StoreStep (level_of t) which) from to
PartLies u c x leaves repeats (Shift offset t) from to = One c (i.Shift offset) from to
PartLies u c x leaves repeats (After_left operator e) from to = Also c operator (Lies u c e) from to
PartLies u c x leaves repeats Truth from to = One c i.Truth from to
PartLies u c x leaves repeats (Pick a b) from to = Picks c (Lies u c a) (Lies u c b) from to
PartLies u c x leaves repeats (Branch item other) from to =
    (out back : ℕ) × Branches c (Stands u c item out back) other (AllStand u c other out back) from to × leaves out × repeats back
PartLies u c x leaves repeats (Fill offset stored) from to = Filled u c offset stored from to
PartLies u c x leaves repeats (Put offset t) from to = One c (i.Put offset (level_of t)) from to
PartLies u c x leaves repeats (Guard t) from to = One c (i.Guard (arguments_of t)) from to
PartLies u c x leaves repeats Check from to = One c i.CheckHalt from to
PartLies u c x leaves repeats (Begin function site) from to = One c (i.EnterFunction function site) from to
PartLies u c x leaves repeats (BeginThrough t site) from to = One c (i.EnterThrough (arguments_of t) site) from to
PartLies u c x leaves repeats (Meet function site) from to = One c (i.ReachFunction function) from to × (site ≡ x.site)
PartLies u c x leaves repeats (Bind offset back t) from to = One c (i.Bind offset back (level_of t)) from to
PartLies u c x leaves repeats (Forget held) from to = (count : ℕ) × One c (i.Forget count) from to × (count + x.more ≡ held)
PartLies u c x leaves repeats (Arrive row site) from to = One c (i.CallRow row site (count_of (row_type row))) from to
PartLies u c x leaves repeats (In stage t) from to = ⊥

-- A task, where `break` and `continue` go to such places, and what remains stands so.
abbrev pub TaskLies : UnitParts → Program → Caller → (leaves repeats rest : ℕ → Type 0) → Task → ℕ → Type 0
TaskLies u c x leaves repeats rest (Now part) p = (r : ℕ) × PartLies u c x leaves repeats part p r × rest r
TaskLies u c x leaves repeats rest (Do item) p = (out back r : ℕ) × Stands u c item out back p r × leaves out × repeats back × rest r
TaskLies u c x leaves repeats rest (Turn loop) p = (decision back out : ℕ) × LoopLies u c loop p decision back out × rest out
TaskLies u c x leaves repeats rest (Decide loop) p = (top back out : ℕ) × HasTest loop × LoopLies u c loop top p back out × rest out
TaskLies u c x leaves repeats rest (Again loop) p = (top decision out : ℕ) × LoopLies u c loop top decision p out × rest out
TaskLies u c x leaves repeats rest (Fall t) p =
    Is c p i.FallOff × Is c (suc p) i.LeaveFunction
    × (option_map_or (λ entry. entry.falls) (entry_of c x.function) false ≡ is_void t || is_main_in (slice_get u.functions x.function))
TaskLies u c x leaves repeats rest Leaving p = Is c p i.LeaveFunction
TaskLies u c x leaves repeats rest _ p = ⊥

-- All that remains, and where `break` and `continue` go to in it.
abbrev mutual
  pub Remains : UnitParts → Program → Caller → List Task → ℕ → Type 0
  Remains u c x [] p = ⊥
  Remains u c x (task ∷ k) p = TaskLies u c x (Leaves u c x k) (Repeats u c x k) (After c (Remains u c x k)) task p

  pub Leaves : UnitParts → Program → Caller → List Task → ℕ → Type 0
  Leaves u c x [] p = ⊥
  Leaves u c x (Do item ∷ k) p = Leaves u c x k p
  Leaves u c x (Turn loop ∷ k) p = Leaves u c x k p
  Leaves u c x (Again loop ∷ k) p = After c (Remains u c x k) p
  Leaves u c x (Fall t ∷ k) p = After c (TaskLies u c x (Leaves u c x k) (Repeats u c x k) (After c (Remains u c x k)) (Fall t)) p
  Leaves u c x (task ∷ k) p = ⊥

  pub Repeats : UnitParts → Program → Caller → List Task → ℕ → Type 0
  Repeats u c x [] p = ⊥
  Repeats u c x (Do item ∷ k) p = Repeats u c x k p
  Repeats u c x (Turn loop ∷ k) p = Repeats u c x k p
  Repeats u c x (Again loop ∷ k) p = After c (TaskLies u c x (Leaves u c x k) (Repeats u c x k) (After c (Remains u c x k)) (Again loop)) p
  Repeats u c x (Fall t ∷ k) p = After c (TaskLies u c x (Leaves u c x k) (Repeats u c x k) (After c (Remains u c x k)) (Fall t)) p
  Repeats u c x (task ∷ k) p = ⊥

-- a function that was entered
pub record Known (u : UnitParts) (c : Program) (function : ℕ) : Type 0 where
  pub info : FunctionInfo
  pub place : ℕ
  pub listed : slice_get u.functions function ≡ Some info
  pub entry : entry_of c function ≡ Some (entry_at u place info)

-- The callers stand for the frames, in the same order.
pub data Called (u : UnitParts) (c : Program) : List Frame → List Caller → Type 0 where
  first : (function site base back more : ℕ) → Known u c function →
      Called u c (record { function = function; site = site; back = Stop function ∷ []; base = base } ∷ [])
      (record { function = function; site = site; back = back; base = base; more = more } ∷ [])
  inner : (function site base back more : ℕ) (todo : List Task) (below : Frame) (frames : List Frame) (x : Caller) (cs : List Caller) → Known u c function →
      After c (Remains u c x todo) back → Called u c (below ∷ frames) (x ∷ cs) →
      Called u c (record { function = function; site = site; back = todo; base = base } ∷ below ∷ frames)
      (record { function = function; site = site; back = back; base = base; more = more } ∷ x ∷ cs)

abbrev pub thread : State → (pc : ℕ) → List Caller → Mode → Machine
thread s pc cs mode = record {
  number = s.number;
  pc = pc;
  value = s.value;
  held = s.held;
  callers = cs;
  base = s.base;
  top = s.top;
  mode = mode;
}

-- what a thread is at whose first function was left
abbrev pub left_at : Program → State → (function : ℕ) → Mode
left_at c s function =
    if nat_eq s.number 0 then Stopping (Exited (machine.status_of (entry_of c function) s.value)) else Delivering function

-- The thread stands where the source thread is.
pub data Stays (u : UnitParts) (c : Program) : State → Machine → Type 0 where
  starts : (s : State) (function pc : ℕ) →
      Stays u c (record s { todo = Now Check ∷ Now (Begin function 0) ∷ Stop function ∷ []; frames = [] }) (thread s pc [] (Starting function))
  goes_in : (s : State) (function pc : ℕ) →
      Stays u c (record s { todo = Now (Begin function 0) ∷ Stop function ∷ []; frames = [] }) (thread s pc [] (Entering function))
  runs : (s : State) (pc : ℕ) (x : Caller) (cs : List Caller) → After c (Remains u c x s.todo) pc → Called u c s.frames (x ∷ cs) →
      Stays u c s (thread s pc (x ∷ cs) Running)
  fills : (s : State) (pc : ℕ) (x : Caller) (cs : List Caller) (offset raw count : ℕ) (stored others : List Stored) (k : List Task) (to : ℕ) →
      IsRun raw count stored others → Filled u c (offset + count) others pc to → After c (Remains u c x k) to → Called u c s.frames (x ∷ cs) →
      Stays u c (record s { todo = Now (Fill offset stored) ∷ k }) (thread s pc (x ∷ cs) (filling offset raw count))
  spells : (s : State) (pc : ℕ) (x : Caller) (cs : List Caller) (offset at count : ℕ) (stored others : List Stored) (k : List Task) (to : ℕ) →
      IsText c.texts at count stored others → Filled u c (offset + count) others pc to → After c (Remains u c x k) to → Called u c s.frames (x ∷ cs) →
      Stays u c (record s { todo = Now (Fill offset stored) ∷ k }) (thread s pc (x ∷ cs) (spelling offset at count))
  calls : (s : State) (pc : ℕ) (x : Caller) (cs : List Caller) (stage : Stage) (t : CType) (k : List Task) → After c (Remains u c x k) pc →
      Called u c s.frames (x ∷ cs) → Stays u c (record s { todo = Now (In stage t) ∷ k }) (thread s pc (x ∷ cs) (Calling stage))
  stops : (s : State) (pc function : ℕ) → Known u c function →
      Stays u c (record s { todo = Stop function ∷ []; frames = [] }) (thread s pc [] (left_at c s function))
  delivers : (s : State) (pc function : ℕ) → Known u c function →
      Stays u c (record s { todo = Deliver (result_in (slice_get u.functions function)) ∷ [] }) (thread s pc [] (Delivering function))
  tells : (s : State) (t : Machine) → Stays u c (record s { todo = Tell ∷ [] }) (record t { number = s.number; mode = Telling })
  fails : (s : State) (t : Machine) (kind : TrapKind) → Stays u c (record s { todo = Fail kind ∷ [] }) (record t { mode = Failing kind })
  halts : (s : State) (t : Machine) (finish : Finish) → Stays u c (record s { todo = Halting finish ∷ [] }) (record t { mode = Stopping finish })
  done : (s : State) (t : Machine) (finish : Finish) → Stays u c (record s { todo = Finished finish ∷ [] }) (record t { mode = Done finish })

-- quiet instructions lead from one thread to the other
pub data Leads (c : Program) : Machine → Machine → Type 0 where
  stay : (t : Machine) → Leads c t t
  lead : (t v w : Machine) → move c t ≡ Quiet v → Leads c v w → Leads c t w

-- the thread does what the source thread does, maybe after quiet instructions
abbrev pub Does : UnitParts → Program → Step State → Machine → Type 0
Does u c (Quiet s) t = (v : Machine) × Leads c t v × Stays u c s v
Does u c (Makes event after turned) t =
    (v : Machine) × Leads c t v × (next : ℕ → Machine) × (move c v ≡ Makes event next turned) × ((word : ℕ) → Stays u c (after word) (next word))
Does u c (Ends finish) t = (v : Machine) × Leads c t v × (move c v ≡ Ends finish)
