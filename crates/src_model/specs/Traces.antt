-- What a trace says of its thread: its frames and its disabled depth, its places of reports, its word events, the threads that it started (Clang's
-- manual 'RealtimeSanitizer'). A trace has the latest event first.
use Rattle.std.specs.Prelude.{ℕ, Bool, false, ◌||◌, nat_eq, if◌then◌else◌, List, [], ◌∷◌, ◌++◌, length}
use Rattle.core_unit.specs.Units.{row_target}
use Rattle.core_unit.specs.declared.tables.UnitParts.{UnitParts}
use Rattle.ctx_set.specs.declared.steps.StackStep.{StackStep}
use Rattle.mcode.specs.declared.events.Ask.{Ask}
use Rattle.mcode.specs.declared.events.Ask.TheVariants as ask
use Rattle.mcode.specs.declared.events.Ask.TheVariants.{Enter, Leave, Reach, Create}
use Rattle.rt_ctx.specs.Frames.{Act, Enters, Leaves, Disables, Enables, frames, context_of}
use Rattle.rt_ctx.specs.Places.{is_blocking_reach, stack_at}
use Rattle.rt_ctx.specs.declared.context.Context.{Context}
use Rattle.src_model.specs.declared.runs.Made.{Made}
use Rattle.word_mem.specs.declared.event.WordEvent.{WordEvent}
use Rattle.word_mem.specs.declared.event.WordEvent.TheVariants.{Load, Store, Exchange, FetchAdd, FetchSub}

-- the rows of `__rtsan_disable` and `__rtsan_enable`
abbrev pub disable_row : ℕ
disable_row = 11

abbrev pub enable_row : ℕ
enable_row = 12

-- an event, as the context of its thread sees it
abbrev pub with_act : Ask → List Act → List Act
with_act (Enter function site) acts = Enters (record { target = function; site = site }) ∷ acts
with_act Leave acts = Leaves ∷ acts
with_act (Reach target site) acts =
    if nat_eq target (row_target disable_row) then Disables ∷ acts else if nat_eq target (row_target enable_row) then Enables ∷ acts else acts
with_act _ acts = acts

abbrev pub acts_of : List Made → List Act
acts_of [] = []
acts_of (made ∷ before) = with_act made.ask (acts_of before)

-- the functions that the thread is in after a trace, the innermost first
abbrev pub frames_after : List Made → List StackStep
frames_after trace = frames (acts_of trace)

-- the real-time context after a trace
abbrev pub context_after : UnitParts → List Made → Context
context_after u trace = context_of u (acts_of trace)

-- an event that follows a trace is a blocking reach: it reaches what blocks, in a real-time thread
abbrev pub is_blocking_event : UnitParts → List Made → Ask → Bool
is_blocking_event u before (Reach target site) = is_blocking_reach u (context_after u before) target
is_blocking_event u before _ = false

-- the stack of a reach that follows a trace, from the first function on
abbrev pub stack_of_event : List Made → Ask → List StackStep
stack_of_event before (Reach target site) = stack_at (frames_after before) target site
stack_of_event before _ = []

-- the word event that an event is, with the word that answered it
abbrev pub word_event : Ask → (answer : ℕ) → List WordEvent
word_event (ask.Load at) answer = Load at answer ∷ []
word_event (ask.Store at word) answer = Store at word ∷ []
word_event (ask.Exchange at old new) answer = Exchange at old new answer ∷ []
word_event (ask.FetchAdd at n) answer = FetchAdd at n answer ∷ []
word_event (ask.FetchSub at n) answer = FetchSub at n answer ∷ []
word_event _ answer = []

-- the word events of a trace, the first one first
abbrev pub words_of : List Made → List WordEvent
words_of [] = []
words_of (made ∷ before) = words_of before ++ word_event made.ask made.word

-- A thread was started: by which one, its number, its function and the argument, and how many word events its maker had made then.
pub record Creation : Type 0 where
  pub maker : ℕ
  pub child : ℕ
  pub function : ℕ
  pub argument : ℕ
  pub before : ℕ

abbrev pub creation : (maker : ℕ) → List Made → Ask → (answer : ℕ) → List Creation
creation maker before (Create function argument) answer =
    if nat_eq answer 0 then []
    else record { maker = maker; child = answer; function = function; argument = argument; before = length (words_of before) } ∷ []
creation maker before _ answer = []

-- the threads that a thread started
abbrev pub creations : (maker : ℕ) → List Made → List Creation
creations maker [] = []
creations maker (made ∷ before) = creation maker before made.ask made.word ++ creations maker before

abbrev pub is_refused_creation : Ask → (answer : ℕ) → Bool
is_refused_creation (Create function argument) answer = nat_eq answer 0
is_refused_creation _ answer = false

-- whether it could not start one
abbrev pub has_refused_creation : List Made → Bool
has_refused_creation [] = false
has_refused_creation (made ∷ before) = is_refused_creation made.ask made.word || has_refused_creation before
