-- Code in which each function's tasks lie at its entry follows the source thread, event by event.
use Rattle.std.proofs.Common.{◌≡◌, ℕ, zero, suc, ◌+◌, ◌<◌, ◌==◌, Bool, true, false, List, [], ◌∷◌, Option, Some, None, Err, refl, sym, ap, ◌∙◌, subst, arith, length, if◌then◌else◌}
use Rattle.std.specs.Prelude.{slice_get, nat_lt}
use Rattle.built_unit.specs.Units.{UnitParts}
use Rattle.built_code.specs.declared.code.Instruction.{Instruction}
use Rattle.built_code.specs.declared.code.Instruction.TheVariants.{CheckHalt, EnterFunction, ReachFunction, SetValue, LeaveFunction, FailWith}
use Rattle.built_code.specs.declared.events.TrapKind.{TrapKind}
use Rattle.built_code.specs.declared.events.TrapKind.TheVariants.{NullCall, StackOverflow}
use Rattle.built_code.specs.declared.events.Ask.TheVariants.{Reach}
use Rattle.built_code.specs.declared.events.Finish.{Finish}
use Rattle.built_code.specs.declared.events.Finish.TheVariants.{Returned, Exited, Trapped, Halted}
use Rattle.built_code.specs.declared.frames.Frame.{Frame}
use Rattle.built_code.specs.declared.thread.Mode.{Mode}
use Rattle.built_code.specs.declared.thread.Mode.TheVariants.{Starting, Entering, Running, Failing, Giving, Telling, Stopping, Done}
use Rattle.built_code.specs.Words.{signed_number}
use Rattle.built_code.specs.Steps.{Step, Quiet, Makes, Ends, is_quiet, settle, unless_quiet, asked, answered, reached}
use Rattle.built_code.specs.Machine as machine
use Rattle.built_code.specs.Machine.{Program, Machine, move, does, park, entry_of, entry_or_trap, left_by, machine_next, machine_after, started, cut_short}
use Rattle.built_code.proofs.Parking.{rank, rank_low, quiet_falls, park_quiet, park_loud}
use Rattle.built_model.specs.Source.{Task, Call, Check, Begin, Meet, Give, Leaving, Fail, Deliver, Tell, Halting, Finished, State, Suspended, frame_limit, tasks_of, begins, leaves, site_on_top, acts, step, turns, settles, next, after, start, cut}
use Rattle.built_model.specs.Follows.{Behaves, machine_at, source_at}
use Rattle.built_model.proofs.Determined.{settles_loud}

-- this instruction stands at this pc
abbrev pub Is : List Instruction → ℕ → Instruction → Type 0
Is c pc i = slice_get c pc ≡ Some i

-- the code of these tasks stands from this pc on
abbrev pub Lies : List Instruction → List Task → ℕ → Type 0
Lies c [] pc = ⊥
Lies c (Call function site ∷ k) pc =
    Is c pc CheckHalt × Is c (pc + 1) (EnterFunction function site) × Lies c k (pc + 1 + 1)
Lies c (Check ∷ k) pc = Is c pc CheckHalt × Lies c k (pc + 1)
Lies c (Begin function site ∷ k) pc = Is c pc (EnterFunction function site) × Lies c k (pc + 1)
Lies c (Meet function ∷ k) pc = Is c pc (ReachFunction function) × Lies c k (pc + 1)
Lies c (Give number ∷ k) pc = Is c pc (SetValue number) × Lies c k (pc + 1)
Lies c (Leaving ∷ k) pc = Is c pc LeaveFunction
Lies c (Fail kind ∷ k) pc = Is c pc (FailWith kind)
Lies c (Deliver ∷ k) pc = ⊥
Lies c (Tell ∷ k) pc = ⊥
Lies c (Halting finish ∷ k) pc = ⊥
Lies c (Finished finish ∷ k) pc = ⊥

-- a function and its entry: both none, or its tasks lie there
abbrev pub Fits : List Instruction → Option ℕ → Option (List Task) → Type 0
Fits c None None = Unit {0}
Fits c None (Some tasks) = ⊥
Fits c (Some pc) None = ⊥
Fits c (Some pc) (Some tasks) = Lies c tasks pc

-- each function has its entry
pub record Compiled (u : UnitParts) (c : Program) : Type 0 where
  pub fits : (function : ℕ) → Fits c.instructions (entry_of c function) (tasks_of u function)

-- the frames stand for the functions that were entered, in the same order
abbrev Called : List Instruction → List Suspended → List Frame → Type 0
Called c [] [] = Unit {0}
Called c [] (frame ∷ frames) = ⊥
Called c (caller ∷ callers) [] = ⊥
Called c (caller ∷ []) (frame ∷ []) = caller.site ≡ frame.site
Called c (caller ∷ []) (frame ∷ below ∷ frames) = ⊥
Called c (caller ∷ next ∷ callers) (frame ∷ []) = ⊥
Called c (caller ∷ next ∷ callers) (frame ∷ below ∷ frames) =
    (caller.site ≡ frame.site) × Lies c caller.todo frame.back × Called c (next ∷ callers) (below ∷ frames)

abbrev at : State → ℕ → List Frame → Mode → Machine
at s pc frames mode =
    record { number = s.number; pc = pc; value = s.value; frames = frames; mode = mode }

-- the thread stands where the source thread is
data Stays (c : Program) : State → Machine → Type 0 where
  starts : (s : State) (function pc : ℕ) → Stays c (record s { todo = Check ∷ Begin function 0 ∷ []; frames = [] }) (at s pc [] (Starting function))
  goes_in : (s : State) (function pc : ℕ) → Stays c (record s { todo = Begin function 0 ∷ []; frames = [] }) (at s pc [] (Entering function))
  runs : (s : State) (pc : ℕ) (frames : List Frame) → Lies c.instructions s.todo pc → Called c.instructions s.frames frames → Stays c s (at s pc frames Running)
  fails : (s : State) (t : Machine) (kind : TrapKind) → Stays c (record s { todo = Fail kind ∷ [] }) (record t { mode = Failing kind })
  delivers : (s : State) (pc : ℕ) (frames : List Frame) → Stays c (record s { todo = Deliver ∷ [] }) (at s pc frames Giving)
  tells : (s : State) (pc : ℕ) (frames : List Frame) → Stays c (record s { todo = Tell ∷ [] }) (at s pc frames Telling)
  halts : (s : State) (t : Machine) (finish : Finish) → Stays c (record s { todo = Halting finish ∷ [] }) (record t { mode = Stopping finish })
  done : (s : State) (t : Machine) (finish : Finish) → Stays c (record s { todo = Finished finish ∷ [] }) (record t { mode = Done finish })

-- quiet instructions lead from one thread to the other
data Leads (c : Program) : Machine → Machine → Type 0 where
  stay : (t : Machine) → Leads c t t
  lead : (t v w : Machine) → move c t ≡ Quiet v → Leads c v w → Leads c t w

-- the thread does what the source thread does, maybe after quiet instructions
abbrev Does : Program → Step State → Machine → Type 0
Does c (Quiet s) t = (v : Machine) × Leads c t v × Stays c s v
Does c (Makes event after) t =
    (v : Machine) × Leads c t v × (next : ℕ → Machine) × (move c v ≡ Makes event next) × ((word : ℕ) → Stays c (after word) (next word))
Does c (Ends finish) t = (v : Machine) × Leads c t v × (move c v ≡ Ends finish)

called_length : (c : List Instruction) (callers : List Suspended) (frames : List Frame) → Called c callers frames → length callers ≡ length frames
called_length c [] [] b = refl
called_length c [] (frame ∷ frames) b = absurd b
called_length c (caller ∷ callers) [] b = absurd b
called_length c (caller ∷ []) (frame ∷ []) b = refl
called_length c (caller ∷ []) (frame ∷ below ∷ frames) b = absurd b
called_length c (caller ∷ next ∷ callers) (frame ∷ []) b = absurd b
called_length c (caller ∷ next ∷ callers) (frame ∷ below ∷ frames) b =
    ap suc (called_length c (next ∷ callers) (below ∷ frames) b.2)

called_site : (c : List Instruction) (callers : List Suspended) (frames : List Frame) → Called c callers frames → site_on_top callers ≡ machine.site_on_top frames
called_site c [] [] b = refl
called_site c [] (frame ∷ frames) b = absurd b
called_site c (caller ∷ callers) [] b = absurd b
called_site c (caller ∷ []) (frame ∷ []) b = b
called_site c (caller ∷ []) (frame ∷ below ∷ frames) b = absurd b
called_site c (caller ∷ next ∷ callers) (frame ∷ []) b = absurd b
called_site c (caller ∷ next ∷ callers) (frame ∷ below ∷ frames) b = b.0

-- one more call
called_more : (c : List Instruction) (k : List Task) (site back : ℕ) (callers : List Suspended) (frames : List Frame) → Lies c k back → Called c callers frames → Called c (record { todo = k; site = site } ∷ callers) (record { back = back; site = site } ∷ frames)
called_more c k site back [] [] l b = refl
called_more c k site back [] (frame ∷ frames) l b = absurd b
called_more c k site back (caller ∷ callers) [] l b = absurd b
called_more c k site back (caller ∷ callers) (frame ∷ frames) l b = (refl, l, b)

module _ (u : UnitParts) (c : Program) (compiled : Compiled u c) where
  checked_stays : (s : State) (t on : Machine) (k : List Task) (go : Bool) → Stays c (record s { todo = k }) on → Stays c (record s { todo = if go then k else Finished Halted ∷ [] }) (if go then on else record t { mode = Done Halted })
  checked_stays s t on k true h = h
  checked_stays s t on k false h = done s t Halted

  begin_does : (s : State) (pc : ℕ) (frames : List Frame) (mode : Mode) (room : Bool) (function site back : ℕ) (entry : Option ℕ) (body : Option (List Task)) (k : List Task) → Fits c.instructions entry body → move c (at s pc frames mode) ≡ machine.enters (at s pc frames mode) function site back (if room then entry_or_trap entry else Err StackOverflow) → Called c.instructions (record { todo = k; site = site } ∷ s.frames) (record { back = back; site = site } ∷ frames) → Does c (begins room s function site body k) (at s pc frames mode)
  begin_does s pc frames mode false function site back entry body k fit moved called =
      (record (at s pc frames mode) { mode = Failing StackOverflow }, lead _ _ _ moved (stay _), fails s (at s pc frames mode) StackOverflow)
  begin_does s pc frames mode true function site back None None k fit moved called =
      (record (at s pc frames mode) { mode = Failing NullCall }, lead _ _ _ moved (stay _), fails s (at s pc frames mode) NullCall)
  begin_does s pc frames mode true function site back None (Some body) k fit moved called = absurd fit
  begin_does s pc frames mode true function site back (Some entry) None k fit moved called = absurd fit
  begin_does s pc frames mode true function site back (Some entry) (Some body) k fit moved called =
      (at s pc frames mode, stay _, _, moved, λ word. runs (record s { todo = body; frames = record { todo = k; site = site } ∷ s.frames }) entry (record { back = back; site = site } ∷ frames) fit called)

  -- after the first function
  ends_stay : (s : State) (pc : ℕ) (frames : List Frame) (first : Bool) → Stays c (record s { todo = if first then Halting (Exited (signed_number s.value)) ∷ [] else Deliver ∷ [] }) (at s pc frames (if first then Stopping (Exited (signed_number s.value)) else Giving))
  ends_stay s pc frames true = halts s (at s pc frames Giving) (Exited (signed_number s.value))
  ends_stay s pc frames false = delivers s pc frames

  leaves_stays : (s : State) (pc : ℕ) (callers : List Suspended) (frames : List Frame) → Called c.instructions callers frames → Stays c (leaves (record s { frames = callers }) callers) (machine.leaves (at s pc frames Running) frames)
  leaves_stays s pc [] [] b = ends_stay (record s { frames = [] }) pc [] (s.number == 0)
  leaves_stays s pc [] (frame ∷ frames) b = absurd b
  leaves_stays s pc (caller ∷ callers) [] b = absurd b
  leaves_stays s pc (caller ∷ []) (frame ∷ []) b = ends_stay (record s { frames = [] }) pc [] (s.number == 0)
  leaves_stays s pc (caller ∷ []) (frame ∷ below ∷ frames) b = absurd b
  leaves_stays s pc (caller ∷ next ∷ callers) (frame ∷ []) b = absurd b
  leaves_stays s pc (caller ∷ next ∷ callers) (frame ∷ below ∷ frames) b =
      runs (record s { todo = caller.todo; frames = next ∷ callers }) frame.back (below ∷ frames) b.1 b.2

  -- the instruction at the pc is done
  here : (s : State) (pc : ℕ) (frames : List Frame) (i : Instruction) → Is c.instructions pc i → move c (at s pc frames Running) ≡ does c (at s pc frames Running) (Some i)
  here s pc frames i is = ap (does c (at s pc frames Running)) is

  runs_do : (todo : List Task) (s : State) (pc : ℕ) (frames : List Frame) → Lies c.instructions todo pc → Called c.instructions s.frames frames → Does c (acts u todo s) (at s pc frames Running)
  runs_do [] s pc frames l b = absurd l
  runs_do (Call function site ∷ k) s pc frames l b =
      (at s pc frames Running, stay _, runs (record s { todo = Check ∷ Begin function site ∷ k }) pc frames (l.0, (l.1, l.2)) b)
  runs_do (Check ∷ k) s pc frames l b =
      (at s pc frames Running, stay _, _, here s pc frames CheckHalt l.0, λ word. checked_stays s (at s pc frames Running) (at s (pc + 1) frames Running) k (word == 0) (runs (record s { todo = k }) (pc + 1) frames l.1 b))
  runs_do (Begin function site ∷ k) s pc frames l b =
      let moved = here s pc frames (EnterFunction function site) l.0 in
      let count = called_length c.instructions s.frames frames b in
      begin_does s pc frames Running (nat_lt (length s.frames) frame_limit) function site (pc + 1) (entry_of c function) (tasks_of u function) k (compiled.fits function) (moved ∙ ap (λ n. machine.enters (at s pc frames Running) function site (pc + 1) (if nat_lt n frame_limit then entry_or_trap (entry_of c function) else Err StackOverflow)) (sym count)) (called_more c.instructions k site (pc + 1) s.frames frames l.1 b)
  runs_do (Meet function ∷ k) s pc frames l b =
      let same = called_site c.instructions s.frames frames b in
      (at s pc frames Running, stay _, _, here s pc frames (ReachFunction function) l.0 ∙ ap (λ site. Makes (Reach function site) (λ (_ : ℕ). at s (pc + 1) frames Running)) (sym same), λ word. runs (record s { todo = k }) (pc + 1) frames l.1 b)
  runs_do (Give number ∷ k) s pc frames l b =
      (at (record s { value = number }) (pc + 1) frames Running, lead _ _ _ (here s pc frames (SetValue number) l.0) (stay _), runs (record s { todo = k; value = number }) (pc + 1) frames l.1 b)
  runs_do (Leaving ∷ k) s pc frames l b =
      (at s pc frames Running, stay _, _, here s pc frames LeaveFunction l, λ word. leaves_stays s pc s.frames frames b)
  runs_do (Fail kind ∷ k) s pc frames l b =
      (at s pc frames (Failing kind), lead _ _ _ (here s pc frames (FailWith kind) l) (stay _), _, refl, λ word. halts s (at s pc frames (Failing kind)) (Trapped kind))
  runs_do (Deliver ∷ k) s pc frames l b = absurd l
  runs_do (Tell ∷ k) s pc frames l b = absurd l
  runs_do (Halting finish ∷ k) s pc frames l b = absurd l
  runs_do (Finished finish ∷ k) s pc frames l b = absurd l

  -- each step of the source thread is done by the thread
  follows : (s : State) (t : Machine) → Stays c s t → Does c (step u s) t
  follows _ _ (starts s function pc) =
      (at s pc [] (Starting function), stay _, _, refl, λ word. checked_stays (record s { frames = [] }) (at s pc [] (Starting function)) (at s pc [] (Entering function)) (Begin function 0 ∷ []) (word == 0) (goes_in s function pc))
  follows _ _ (goes_in s function pc) =
      begin_does (record s { todo = Begin function 0 ∷ []; frames = [] }) pc [] (Entering function) true function 0 0 (entry_of c function) (tasks_of u function) [] (compiled.fits function) refl refl
  follows _ _ (runs s pc frames l b) = runs_do s.todo s pc frames l b
  follows _ _ (fails s t kind) =
      (record t { mode = Failing kind }, stay _, _, refl, λ word. halts s t (Trapped kind))
  follows _ _ (delivers s pc frames) =
      (at s pc frames Giving, stay _, _, refl, λ word. tells s pc frames)
  follows _ _ (tells s pc frames) =
      (at s pc frames Telling, stay _, _, refl, λ word. done s (at s pc frames Telling) Returned)
  follows _ _ (halts s t finish) =
      (record t { mode = Stopping finish }, stay _, _, refl, λ word. done s t finish)
  follows _ _ (done s t finish) = (record t { mode = Done finish }, stay _, refl)

  leads_then : (t v w : Machine) → Leads c t v → Leads c v w → Leads c t w
  leads_then _ v w (stay t) m = m
  leads_then _ _ w (lead t v x e l) m = lead t v w e (leads_then v x w l m)

  does_then : (made : Step State) (t v : Machine) → Leads c t v → Does c made v → Does c made t
  does_then (Quiet s) t v l d = (d.0, leads_then t v d.0 l d.1, d.2)
  does_then (Makes event after) t v l d = (d.0, leads_then t v d.0 l d.1, d.2, d.3, d.4)
  does_then (Ends finish) t v l d = (d.0, leads_then t v d.0 l d.1, d.2)

  unless_does : (go : State → Step State) → ((s : State) (t : Machine) → Stays c s t → Does c (go s) t) → (made : Step State) (t : Machine) → Does c made t → Does c (unless_quiet go made) t
  unless_does go on (Quiet s) t d = does_then (go s) t d.0 d.1 (on s d.0 d.2)
  unless_does go on (Makes event after) t d = d
  unless_does go on (Ends finish) t d = d

  settle_does : (n : ℕ) (s : State) (t : Machine) → Stays c s t → Does c (settle (step u) n s) t
  settle_does zero s t h = (t, stay t, h)
  settle_does (suc n) s t h = unless_does (settle (step u) n) (settle_does n) (step u s) t (follows s t h)

  -- enough steps lead to a thread that isn't quiet, and there is one
  leads_park : (n : ℕ) (t v : Machine) → Leads c t v → is_quiet (move c v) ≡ false → rank c t < n → park c n t ≡ v
  leads_park n _ _ (stay t) q low = park_loud c n t q
  leads_park zero _ _ (lead t v w e l) q low = absurd (omega arith)
  leads_park (suc n) _ _ (lead t v w e l) q low =
      let quiet : is_quiet (move c t) ≡ true = ap is_quiet e in
      let next : answered (move c t) t 0 ≡ v = ap (λ made. answered made t 0) e in
      let less : rank c v < n = omega (arith, subst (λ x. rank c x < rank c t) next (quiet_falls c t 0 quiet)) in
      park_quiet c n t 0 quiet ∙ ap (park c n) next ∙ leads_park n v w l q less

  abbrev fuel : ℕ
  fuel = length c.instructions + 2

  fuel_enough : (t : Machine) → rank c t < fuel
  fuel_enough t = omega (arith, rank_low c t t.mode)

  -- the thread is parked where the source thread is, maybe after quiet instructions
  abbrev Same : State → Machine → Type 0
  Same s t = (begun : Machine) × Stays c s begun × (park c fuel begun ≡ t)

  abbrev After : Step State → Machine → Machine → Type 0
  After made begun t = (asked (move c t) ≡ asked made) × ((s : State) (word : ℕ) → Stays c s begun → Same (answered made s word) (machine_after c t word))

  settled : (made : Step State) (begun t : Machine) → is_quiet made ≡ false → park c fuel begun ≡ t → Does c made begun → After made begun t
  settled (Quiet s) begun t q e d = cc
  settled (Makes event after) begun t q e d =
      let v = d.0 in
      let loud : is_quiet (move c v) ≡ false = ap is_quiet d.3 in
      let same : v ≡ t = sym (leads_park fuel begun v d.1 loud (fuel_enough begun)) ∙ e in
      let moved : move c t ≡ Makes event d.2 = subst (λ x. move c x ≡ Makes event d.2) same d.3 in
      (ap asked moved, λ s word h. (d.2 word, d.4 word, ap (λ made. park c fuel (answered made t word)) (sym moved)))
  settled (Ends finish) begun t q e d =
      let v = d.0 in
      let loud : is_quiet (move c v) ≡ false = ap is_quiet d.2 in
      let same : v ≡ t = sym (leads_park fuel begun v d.1 loud (fuel_enough begun)) ∙ e in
      let moved : move c t ≡ Ends finish = subst (λ x. move c x ≡ Ends finish) same d.2 in
      let loud_t : is_quiet (move c t) ≡ false = ap is_quiet moved in
      (ap asked moved, λ s word h. (begun, h, e ∙ sym (ap (λ made. park c fuel (answered made t word)) moved ∙ park_loud c fuel t loud_t)))

  after_settled : (s : State) (t : Machine) (x : Same s t) → After (settles u s) x.0 t
  after_settled s t x = settled (settles u s) x.0 t (settles_loud u s) x.2 (settle_does (turns s.todo) s x.0 x.1)

  same_next : (s : State) (t : Machine) → Same s t → machine_next c t ≡ next u s
  same_next s t x = (after_settled s t x).0

  same_after : (s : State) (t : Machine) (word : ℕ) → Same s t → Same (after u s word) (machine_after c t word)
  same_after s t word x = (after_settled s t x).1 s word x.1

  same_reached : (answers : List ℕ) (s : State) (t : Machine) → Same s t → Same (reached (after u) s answers) (reached (machine_after c) t answers)
  same_reached [] s t x = x
  same_reached (word ∷ words) s t x = same_reached words (after u s word) (machine_after c t word) (same_after s t word x)

  same_start : (number function : ℕ) → Same (start number function) (started number function)
  same_start number function =
      (started number function, starts (start number function) function 0, park_loud c fuel (started number function) refl)

  same_cut : (s : State) (t : Machine) → Same (cut s) (cut_short t)
  same_cut s t = (cut_short t, halts s t Halted, park_loud c fuel (cut_short t) refl)

  pub behaves : Behaves u c
  behaves = record {
    follows = λ number function answers. same_next _ _ (same_reached answers _ _ (same_start number function));
    follows_cut = λ number function answers more. same_next _ _ (same_reached more _ _ (same_cut (source_at u number function answers) (machine_at c number function answers)));
  }
