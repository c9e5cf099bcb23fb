-- A thread of compiled code does what the source thread does, event by event.
use Rattle.std.proofs.Common.{◌≡◌, refl, sym, ap, ◌∙◌, subst, ℕ, zero, suc, ◌+◌, ◌<◌, Bool, true, false, List, [], ◌∷◌, Some, length, if◌then◌else◌, nat_eq, arith, slice_get}
use Rattle.core_unit.specs.Stores.{Stored}
use Rattle.core_unit.specs.Words.{packed}
use Rattle.core_unit.specs.declared.tables.UnitParts.{UnitParts}
use Rattle.core_unit.specs.declared.words.Word.{Word}
use Rattle.mcode.specs.Machine as machine
use Rattle.mcode.specs.Machine.{Program, Machine, entry_of, move, park, stays, filling, spelling, machine_next, machine_after, machine_turned, machine_start, machine_cut}
use Rattle.mcode.specs.Memory.{result_of}
use Rattle.mcode.specs.Stages.{stage_after}
use Rattle.mcode.specs.Steps.{Step, Quiet, Makes, Ends, does, is_quiet, settle, unless_quiet, asked, answered, turned_by}
use Rattle.mcode.specs.Words.{written}
use Rattle.mcode.specs.declared.events.Ask.TheVariants.{Store}
use Rattle.mcode.specs.declared.events.Finish.{Finish}
use Rattle.mcode.specs.declared.events.Finish.TheVariants.{Returned, Exited, Trapped, Halted}
use Rattle.mcode.specs.declared.thread.Caller.{Caller}
use Rattle.mcode.specs.declared.thread.Mode.TheVariants.{Starting, Entering, Running, Filling, Spelling, Calling, Failing, Delivering, Telling, Stopping, Done}
use Rattle.src_model.proofs.Quiet.{settles_loud}
use Rattle.src_model.specs.Follows.{Move, Answers, Cuts, Behaves, source_at, machine_at, machine_started}
use Rattle.src_model.specs.Runs.{Start, started}
use Rattle.src_model.specs.Source as source
use Rattle.src_model.specs.Source.{fill_step, result_in, steps, step, settles, next, after, turned, start, cut}
use Rattle.src_model.specs.Tasks.{Fill, Begin, Task, Now, Stop, Deliver, Halting, State}
use Rattle.src_model.specs.Weights.{weight}
use Rattle.c_codegen.specs.Compiled.{Compiled}
use Rattle.c_codegen.specs.Lies.{IsRun, IsText, Filled}
use Rattle.c_codegen.proofs.Moves.{written_is, jumps_lead, does_then, checked_stays, staged_stays, enters_do}
use Rattle.c_codegen.proofs.Parking.{rank, rank_low, quiet_lowers, jump_lands}
use Rattle.c_codegen.proofs.Parts.{run_does, text_does, fill_does}
use Rattle.c_codegen.proofs.Standing.{After, Remains, Known, Called, first, thread, left_at, Stays, starts, goes_in, runs, fills, spells, calls, stops, delivers, tells, fails, halts, done, Leads, stay, lead, Does}
use Rattle.c_codegen.proofs.Executed.{remains_do}

module _ (u : UnitParts) (c : Program) (compiled : Compiled u c) where
  -- a fill goes on
  filling_does : (count : ℕ) (s : State) (pc to : ℕ) (x : Caller) (cs : List Caller) (offset raw : ℕ) (stored others : List Stored) (k : List Task) →
      IsRun raw count stored others → Filled u c (offset + count) others pc to → After c (Remains u c x k) to → Called u c s.frames (x ∷ cs) →
      Does u c (fill_step u offset stored k s) (thread s pc (x ∷ cs) (filling offset raw count))
  filling_does zero s pc to x cs offset raw stored others k is filled a b =
      subst (λ list. Does u c (fill_step u offset list k s) (thread s pc (x ∷ cs) Running)) (sym is)
      (fill_does u c compiled x cs offset others k s pc to (subst (λ n. Filled u c n others pc to) (omega arith) filled) a b)
  filling_does (suc left) s pc to x cs offset raw stored others k is filled a b =
      run_does u c compiled x cs s (thread s pc (x ∷ cs) (Filling offset raw (suc left))) pc to offset raw left stored others k is filled a b (Filling offset raw (suc left)) refl

  spelling_does : (count : ℕ) (s : State) (pc to : ℕ) (x : Caller) (cs : List Caller) (offset from : ℕ) (stored others : List Stored) (k : List Task) →
      IsText c.texts from count stored others → Filled u c (offset + count) others pc to → After c (Remains u c x k) to → Called u c s.frames (x ∷ cs) →
      Does u c (fill_step u offset stored k s) (thread s pc (x ∷ cs) (spelling offset from count))
  spelling_does zero s pc to x cs offset from stored others k is filled a b =
      subst (λ list. Does u c (fill_step u offset list k s) (thread s pc (x ∷ cs) Running)) (sym is)
      (fill_does u c compiled x cs offset others k s pc to (subst (λ n. Filled u c n others pc to) (omega arith) filled) a b)
  spelling_does (suc left) s pc to x cs offset from stored others k is filled a b =
      text_does u c compiled x cs s (thread s pc (x ∷ cs) (Spelling offset from (suc left))) pc to offset from left stored others k is filled a b (Spelling offset from (suc left)) refl

  -- after the first function was left
  stop_stays : (s : State) (pc function : ℕ) → Known u c function → (status : machine.status_of (entry_of c function) s.value ≡ source.status_of (result_in (slice_get u.functions function)) s.value) →
      (b : Bool) →
      Stays u c (record s { todo = if b then Halting (Exited (source.status_of (result_in (slice_get u.functions function)) s.value)) ∷ [] else Deliver (result_in (slice_get u.functions function)) ∷ []; frames = [] })
      (thread s pc [] (if b then Stopping (Exited (machine.status_of (entry_of c function) s.value)) else Delivering function))
  stop_stays s pc function known status true =
      subst (λ n. Stays u c (record s { todo = Halting (Exited (source.status_of (result_in (slice_get u.functions function)) s.value)) ∷ []; frames = [] })
      (thread s pc [] (Stopping (Exited n)))) (sym status) (halts (record s { frames = [] }) (thread s pc [] Telling) _)
  stop_stays s pc function known status false = delivers (record s { frames = [] }) pc function known

  status_is : (function : ℕ) (value : Word) → Known u c function →
      machine.status_of (entry_of c function) value ≡ source.status_of (result_in (slice_get u.functions function)) value
  status_is function value known =
      ap (λ e. machine.status_of e value) known.entry ∙ sym (ap (λ g. source.status_of (result_in g) value) known.listed)

  delivered_is : (function : ℕ) (value : Word) → Known u c function →
      machine.written_at (machine.result_level_of (entry_of c function)) value ≡ written (result_in (slice_get u.functions function)) value
  delivered_is function value known =
      ap (λ e. machine.written_at (machine.result_level_of e) value) known.entry
      ∙ sym (written_is (result_in (Some known.info)) value) ∙ sym (ap (λ g. written (result_in g) value) known.listed)

  first_called : (s : State) (function : ℕ) → Known u c function →
      Called u c (record { function = function; site = 0; back = Stop function ∷ []; base = s.base } ∷ []) (record { function = function; site = 0; back = 0; base = s.base; more = 0 } ∷ [])
  first_called s function known = first function 0 s.base 0 0 known

  -- each step of the source thread is done by the thread
  follows : (s : State) (t : Machine) → Stays u c s t → Does u c (step u s) t
  follows _ _ (starts s function pc) = (
    thread s pc [] (Starting function),
    stay _,
    _,
    refl,
    λ raw. checked_stays u c (record s { frames = [] }) (thread s pc [] (Starting function)) (thread s pc [] (Entering function)) (Now (Begin function 0) ∷ Stop function ∷ []) (nat_eq raw 0)
        (goes_in s function pc),
  )
  follows _ _ (goes_in s function pc) =
      enters_do u c (record s { todo = Now (Begin function 0) ∷ Stop function ∷ []; frames = [] }) pc [] (Entering function) function 0 0 0 (Stop function ∷ [])
      (slice_get u.functions function) (entry_of c function) refl refl (compiled.functions function) refl refl (first_called s function)
  follows _ _ (runs s pc x cs a b) =
      does_then u c (steps u s.todo s) (thread s pc (x ∷ cs) Running) (thread s a.0 (x ∷ cs) Running) (jumps_lead c s (x ∷ cs) pc a.0 a.1)
      (remains_do u c compiled x cs s.todo s a.0 a.2 b)
  follows _ _ (fills s pc x cs offset raw count stored others k to is filled a b) = filling_does count (record s { todo = Now (Fill offset stored) ∷ k }) pc to x cs offset raw stored others k is filled a b
  follows _ _ (spells s pc x cs offset from count stored others k to is filled a b) = spelling_does count (record s { todo = Now (Fill offset stored) ∷ k }) pc to x cs offset from stored others k is filled a b
  follows _ _ (calls s pc x cs stage t k a b) =
      (thread s pc (x ∷ cs) (Calling stage), stay _, _, refl, λ raw. staged_stays u c s pc x cs (Calling stage) t k a b (stage_after s.number stage raw))
  follows _ _ (stops s pc function known) =
      (thread s pc [] (left_at c s function), stay _, stop_stays s pc function known (status_is function s.value known) (nat_eq s.number 0))
  follows _ _ (delivers s pc function known) = (
    thread s pc [] (Delivering function),
    stay _,
    _,
    ap (λ w. does (Store (result_of s.number) (packed w)) (thread s pc [] Telling)) (delivered_is function s.value known),
    λ raw. tells s (thread s pc [] Telling),
  )
  follows _ _ (tells s t) = (record t { number = s.number; mode = Telling }, stay _, _, refl, λ raw. done s (record t { number = s.number; mode = Telling }) Returned)
  follows _ _ (fails s t kind) = (record t { mode = Failing kind }, stay _, _, refl, λ raw. halts s t (Trapped kind))
  follows _ _ (halts s t finish) = (record t { mode = Stopping finish }, stay _, _, refl, λ raw. done s t finish)
  follows _ _ (done s t finish) = (record t { mode = Done finish }, stay _, refl)

  unless_does : (go : State → Step State) → ((s : State) (t : Machine) → Stays u c s t → Does u c (go s) t) → (made : Step State) (t : Machine) → Does u c made t → Does u c (unless_quiet go made) t
  unless_does go on (Quiet s) t d = does_then u c (go s) t d.0 d.1 (on s d.0 d.2)
  unless_does go on (Makes event after turned) t d = d
  unless_does go on (Ends finish) t d = d

  settle_does : (n : ℕ) (s : State) (t : Machine) → Stays u c s t → Does u c (settle (step u) n s) t
  settle_does zero s t h = (t, stay t, h)
  settle_does (suc n) s t h = unless_does (settle (step u) n) (settle_does n) (step u s) t (follows s t h)

  -- Where quiet steps lead to a thread that isn't quiet, it is the one that is parked.
  park_quiet : (n : ℕ) (t v : Machine) → move c t ≡ Quiet v → park c (suc n) t ≡ park c n v
  park_quiet n t v e = ap (stays (park c n) t) e

  park_loud : (n : ℕ) (t : Machine) → is_quiet (move c t) ≡ false → park c n t ≡ t
  park_loud zero t q = refl
  park_loud (suc n) t q = by (move c t) q
    where
      by : (made : Step Machine) → is_quiet made ≡ false → stays (park c n) t made ≡ t
      by (Quiet v) q = let clash : ⊥ = cc in absurd clash
      by (Makes event after turned) q = refl
      by (Ends finish) q = refl

  leads_park : (n : ℕ) (t v : Machine) → Leads c t v → is_quiet (move c v) ≡ false → rank c t < n → park c n t ≡ v
  leads_park n _ _ (stay t) q low = park_loud n t q
  leads_park zero _ _ (lead t v w e l) q low = absurd (omega (arith, low))
  leads_park (suc n) _ _ (lead t v w e l) q low =
      park_quiet n t v e ∙ leads_park n v w l q (let less = quiet_lowers c (λ at x is. jump_lands c at x (compiled.jumps at x is)) t v e in omega (arith, low, less))

  abbrev fuel : ℕ
  fuel = length c.instructions + 2

  fills_low : (pc offset raw count : ℕ) → rank c (record (machine_start 0 0 []) { pc = pc; mode = filling offset raw count }) < fuel
  fills_low pc offset raw zero = let low = rank_low c pc in omega (arith, low)
  fills_low pc offset raw (suc left) = omega arith

  spells_low : (pc offset from count : ℕ) → rank c (record (machine_start 0 0 []) { pc = pc; mode = spelling offset from count }) < fuel
  spells_low pc offset from zero = let low = rank_low c pc in omega (arith, low)
  spells_low pc offset from (suc left) = omega arith

  left_low : (b : Bool) (s : State) (pc function : ℕ) (finish : Finish) → rank c (thread s pc [] (if b then Stopping finish else Delivering function)) < fuel
  left_low true s pc function finish = omega arith
  left_low false s pc function finish = omega arith

  stays_low : (s : State) (t : Machine) → Stays u c s t → rank c t < fuel
  stays_low _ _ (starts s function pc) = omega arith
  stays_low _ _ (goes_in s function pc) = omega arith
  stays_low _ _ (runs s pc x cs a b) = let low = rank_low c pc in omega (arith, low)
  stays_low _ _ (fills s pc x cs offset raw count stored others k to is filled a b) = fills_low pc offset raw count
  stays_low _ _ (spells s pc x cs offset from count stored others k to is filled a b) = spells_low pc offset from count
  stays_low _ _ (calls s pc x cs stage t k a b) = omega arith
  stays_low _ _ (stops s pc function known) = left_low (nat_eq s.number 0) s pc function (Exited (machine.status_of (entry_of c function) s.value))
  stays_low _ _ (delivers s pc function known) = omega arith
  stays_low _ _ (tells s t) = omega arith
  stays_low _ _ (fails s t kind) = omega arith
  stays_low _ _ (halts s t finish) = omega arith
  stays_low _ _ (done s t finish) = omega arith

  -- the thread is parked where the source thread is, maybe after quiet instructions
  abbrev Same : State → Machine → Type 0
  Same s t = (begun : Machine) × Stays u c s begun × (park c fuel begun ≡ t)

  abbrev Alike : Step State → Machine → Machine → Type 0
  Alike made begun t =
      (asked (move c t) ≡ asked made) × ((word : ℕ) → turned_by (move c t) word ≡ turned_by made word)
      × ((s : State) (word : ℕ) → Stays u c s begun → Same (answered made s word) (machine_after c t word))

  settled : (made : Step State) (begun t : Machine) → rank c begun < fuel → is_quiet made ≡ false → park c fuel begun ≡ t → Does u c made begun → Alike made begun t
  settled (Quiet s) begun t low q e d = let clash : ⊥ = cc in absurd clash
  settled (Makes event after turned) begun t low q e d =
      let v = d.0 in
      let loud : is_quiet (move c v) ≡ false = ap is_quiet d.3 in
      let same : v ≡ t = sym (leads_park fuel begun v d.1 loud low) ∙ e in
      let made : move c t ≡ Makes event d.2 turned = subst (λ x. move c x ≡ Makes event d.2 turned) same d.3 in
      (ap asked made, (λ word. ap (λ m. turned_by m word) made), λ s word h. (d.2 word, d.4 word, ap (λ m. park c fuel (answered m t word)) (sym made)))
  settled (Ends finish) begun t low q e d =
      let v = d.0 in
      let loud : is_quiet (move c v) ≡ false = ap is_quiet d.2 in
      let same : v ≡ t = sym (leads_park fuel begun v d.1 loud low) ∙ e in
      let made : move c t ≡ Ends finish = subst (λ x. move c x ≡ Ends finish) same d.2 in
      let loud_t : is_quiet (move c t) ≡ false = ap is_quiet made in (
        ap asked made,
        (λ word. ap (λ m. turned_by m word) made),
        λ s word h. (begun, h, e ∙ sym (ap (λ m. park c fuel (answered m t word)) made ∙ park_loud fuel t loud_t)),
      )

  alike : (s : State) (t : Machine) (p : Same s t) → Alike (settles u s) p.0 t
  alike s t p = settled (settles u s) p.0 t (stays_low s p.0 p.1) (settles_loud u s) p.2 (settle_does (suc (weight s.todo)) s p.0 p.1)

  same_next : (s : State) (t : Machine) → Same s t → machine_next c t ≡ next u s
  same_next s t p = (alike s t p).0

  same_turned : (s : State) (t : Machine) (word : ℕ) → Same s t → machine_turned c t word ≡ turned u s word
  same_turned s t word p = (alike s t p).1 word

  same_after : (s : State) (t : Machine) (word : ℕ) → Same s t → Same (after u s word) (machine_after c t word)
  same_after s t word p = (alike s t p).2 s word p.1

  same_cut : (s : State) (t : Machine) → Same (cut s) (machine_cut t)
  same_cut s t = (machine_cut t, halts s t Halted, park_loud fuel (machine_cut t) refl)

  same_start : (begin : Start) → Same (started begin) (machine_started begin)
  same_start begin =
      (machine_started begin, starts (started begin) begin.function 0, park_loud fuel (machine_started begin) refl)

  same_driven : (begin : Start) (moves : List Move) → Same (source_at u begin moves) (machine_at c begin moves)
  same_driven begin [] = same_start begin
  same_driven begin (Answers word ∷ moves) = same_after (source_at u begin moves) (machine_at c begin moves) word (same_driven begin moves)
  same_driven begin (Cuts ∷ moves) = same_cut (source_at u begin moves) (machine_at c begin moves)

  -- For each number, function, argument words and answers the code's events are the source thread's, one by one; finishes, failed tries and cuts too.
  pub behaves : Behaves u c
  behaves = record {
    events = λ begin moves. same_next (source_at u begin moves) (machine_at c begin moves) (same_driven begin moves);
    tries = λ begin moves word. same_turned (source_at u begin moves) (machine_at c begin moves) word (same_driven begin moves);
  }
