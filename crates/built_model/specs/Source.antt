-- The source thread: one C thread of a unit, as what remains to be done (C17, sections 6.5.2.2 and 6.8; the events are
-- this project's own). One rule a line.
use Rattle.std.specs.Prelude.{ℕ, suc, ◌-◌, ◌==◌, Bool, true, false, List, [], ◌∷◌, length, Option, Some, None, slice_get, nat_lt, if◌then◌else◌}
use Rattle.built_unit.specs.declared.units.Body.{Body}
use Rattle.built_unit.specs.declared.units.FunctionInfo.{FunctionInfo}
use Rattle.built_unit.specs.declared.units.SiteInfo.{SiteInfo}
use Rattle.built_unit.specs.Units.{UnitParts}
use Rattle.built_code.specs.declared.events.TrapKind.{TrapKind}
use Rattle.built_code.specs.declared.events.TrapKind.TheVariants.{NullCall, StackOverflow}
use Rattle.built_code.specs.declared.events.Ask.{Ask}
use Rattle.built_code.specs.declared.events.Ask.TheVariants.{Load, Store, Enter, Leave, Reach, Trap}
use Rattle.built_code.specs.declared.events.Finish.{Finish}
use Rattle.built_code.specs.declared.events.Finish.TheVariants.{Returned, Exited, Trapped, Halted}
use Rattle.built_code.specs.Words.{halt, done_of, result_of, number_word, signed_number}
use Rattle.built_code.specs.Steps.{Step, Quiet, Makes, Ends, settle, asked, answered}

-- what remains to be done
pub data Task : Type 0 where
  -- a call statement: the callee's number and the call site
  Call : (function site : ℕ) → Task
  -- load the halt word
  Check : Task
  -- enter a function from a call site
  Begin : (function site : ℕ) → Task
  -- reach a blocking function
  Meet : (function : ℕ) → Task
  -- set the value that the function returns
  Give : (number : ℕ) → Task
  -- leave the function
  Leaving : Task
  -- be trapped
  Fail : TrapKind → Task
  -- store the result of the thread
  Deliver : Task
  -- tell that the thread has returned
  Tell : Task
  -- tell all threads to halt, and be finished then
  Halting : Finish → Task
  -- be finished
  Finished : Finish → Task

-- a function that was entered and not yet left: what remains for its caller, and the site of the call
pub record Suspended : Type 0 where
  pub todo : List Task
  pub site : ℕ

-- a thread: its number, what remains, the value that a function returns, and the functions that it is in, the latest first
pub record State : Type 0 where
  pub number : ℕ
  pub todo : List Task
  pub value : ℕ
  pub frames : List Suspended

-- at most so many functions are entered and not left
abbrev pub frame_limit : ℕ
frame_limit = 256

-- a call statement, by its site; a call that names no function calls through null
abbrev pub named : Option ℕ → ℕ → Task
named None site = Fail NullCall
named (Some function) site = Call function site

abbrev pub direct_of : Option SiteInfo → Option ℕ
direct_of None = None
direct_of (Some site) = site.direct

-- the function that is called at a site, which counts from 1
abbrev pub callee_at : UnitParts → ℕ → Option ℕ
callee_at u site = direct_of (slice_get u.sites (site - 1))

-- the calls of a body in their order, and then what follows them
abbrev pub calls : UnitParts → List ℕ → List Task → List Task
calls u [] k = k
calls u (site ∷ sites) k = named (callee_at u site) site ∷ calls u sites k

-- `return n` sets the value, then comes Leave; at the end of a void function Leave comes alone
abbrev pub return_of : Option ℕ → List Task
return_of None = Leaving ∷ []
return_of (Some number) = Give number ∷ Leaving ∷ []

-- a blocking function is reached when it is entered
abbrev pub meets : Bool → ℕ → List Task → List Task
meets false function k = k
meets true function k = Meet function ∷ k

-- what is to be done in a function with a body
abbrev pub tasks_in : UnitParts → ℕ → FunctionInfo → Body → List Task
tasks_in u function info body =
    meets info.effects.no_block_inference function (calls u body.calls (return_of body.returns))

abbrev pub body_tasks : UnitParts → ℕ → FunctionInfo → Option Body → Option (List Task)
body_tasks u function info None = None
body_tasks u function info (Some body) = Some (tasks_in u function info body)

abbrev pub info_tasks : UnitParts → ℕ → Option FunctionInfo → Option (List Task)
info_tasks u function None = None
info_tasks u function (Some info) = body_tasks u function info info.body

-- what is to be done in a function; none where it has no definition
abbrev pub tasks_of : UnitParts → ℕ → Option (List Task)
tasks_of u function = info_tasks u function (slice_get u.functions function)

-- the thread is trapped next
abbrev pub failing : State → TrapKind → State
failing s kind = record s { todo = Fail kind ∷ [] }

-- a halt word that isn't 0 ends the thread; else it goes on with what remains
abbrev pub checked : State → ℕ → List Task → State
checked s word k = record s { todo = if word == 0 then k else Finished Halted ∷ [] }

-- a function is entered: its body, then what remains
abbrev pub enters : State → (function site : ℕ) → Option (List Task) → List Task → Step State
enters s function site None k = Quiet (failing s NullCall)
enters s function site (Some body) k =
    Makes (Enter function site) (λ _. record s { todo = body; frames = record { todo = k; site = site } ∷ s.frames })

-- a frame needs room
abbrev pub begins : Bool → State → (function site : ℕ) → Option (List Task) → List Task → Step State
begins true s function site body k = enters s function site body k
begins false s function site body k = Quiet (failing s StackOverflow)

-- the site of the call that entered the latest function
abbrev pub site_on_top : List Suspended → ℕ
site_on_top [] = 0
site_on_top (frame ∷ frames) = frame.site

-- what remains when the first function was left: thread 0 exits, another one delivers its result
abbrev pub last_tasks : State → List Task
last_tasks s = if s.number == 0 then Halting (Exited (signed_number s.value)) ∷ [] else Deliver ∷ []

-- the latest function is left, and its caller goes on
abbrev pub leaves : State → List Suspended → State
leaves s [] = record s { todo = last_tasks s }
leaves s (frame ∷ []) = record s { todo = last_tasks s; frames = [] }
leaves s (frame ∷ below ∷ frames) = record s { todo = frame.todo; frames = below ∷ frames }

-- a task, and then what remains
abbrev pub act : UnitParts → Task → List Task → State → Step State
act u (Call function site) k s = Quiet (record s { todo = Check ∷ Begin function site ∷ k })
act u Check k s = Makes (Load halt) (λ word. checked s word k)
act u (Begin function site) k s = begins (nat_lt (length s.frames) frame_limit) s function site (tasks_of u function) k
act u (Meet function) k s = Makes (Reach function (site_on_top s.frames)) (λ _. record s { todo = k })
act u (Give number) k s = Quiet (record s { todo = k; value = number })
act u Leaving k s = Makes Leave (λ _. leaves s s.frames)
act u (Fail kind) k s = Makes (Trap kind) (λ _. record s { todo = Halting (Trapped kind) ∷ [] })
act u Deliver k s = Makes (Store (result_of s.number) (number_word s.value)) (λ _. record s { todo = Tell ∷ [] })
act u Tell k s = Makes (Store (done_of s.number) 1) (λ _. record s { todo = Finished Returned ∷ [] })
act u (Halting finish) k s = Makes (Store halt 1) (λ _. record s { todo = Finished finish ∷ [] })
act u (Finished finish) k s = Ends finish

-- one step of a thread; something always remains until it is finished
abbrev pub acts : UnitParts → List Task → State → Step State
acts u [] s = Ends Halted
acts u (task ∷ k) s = act u task k s

abbrev pub step : UnitParts → State → Step State
step u s = acts u s.todo s

-- at most so many quiet steps come before an event
abbrev pub turns : List Task → ℕ
turns [] = 1
turns (task ∷ k) = suc (turns k)

-- the next step that isn't quiet
abbrev pub settles : UnitParts → State → Step State
settles u s = settle (step u) (turns s.todo) s

-- the next event of a thread, or its finish
abbrev pub next : UnitParts → State → Ask
next u s = asked (settles u s)

-- the thread after that event, answered by this word
abbrev pub after : UnitParts → State → ℕ → State
after u s word = answered (settles u s) s word

-- the thread of this number at its start: it loads the halt word, then its first function is entered
abbrev pub start : (number function : ℕ) → State
start number function =
    record { number = number; todo = Check ∷ Begin function 0 ∷ []; value = 0; frames = [] }

-- a thread that is cut short: the store of halt is the one event left
abbrev pub cut : State → State
cut s = record s { todo = Halting Halted ∷ [] }
