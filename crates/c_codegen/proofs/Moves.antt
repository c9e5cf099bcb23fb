-- Steps that the source thread and the code make alike.
use Rattle.std.proofs.Common.{◌≡◌, refl, sym, ap, ◌∙◌, subst, ℕ, suc, ◌+◌, Bool, true, false, ◌&&◌, ◌||◌, List, [], ◌∷◌, Option, Some, None, Result, Ok, Err, length, if◌then◌else◌, nat_lt, nat_le, slice_get}
use Rattle.std.specs.Option.{option_map_or}
use Rattle.arithmetic.specs.declared.traps.TrapKind.{TrapKind}
use Rattle.arithmetic.specs.declared.traps.TrapKind.TheVariants.{BadWord, NullCall, StackOverflow}
use Rattle.core_unit.specs.Shapes.{level_of}
use Rattle.core_unit.specs.Words.{packed}
use Rattle.core_unit.specs.declared.body.Body.{Body}
use Rattle.core_unit.specs.declared.body.Stmt.{Stmt, Row_of-Stmt, end_of-Stmt, more_of-Stmt}
use Rattle.core_unit.specs.declared.tables.FunctionInfo.{FunctionInfo}
use Rattle.core_unit.specs.declared.tables.UnitParts.{UnitParts}
use Rattle.core_unit.specs.declared.words.Word.{Word}
use Rattle.core_unit.specs.declared.words.Word.TheVariants as word
use Rattle.eff_types.specs.Types.{is_void}
use Rattle.eff_types.specs.declared.types.CType.{CType}
use Rattle.mcode.specs.Machine as machine
use Rattle.mcode.specs.Machine.{Program, Machine, entry_of, move, acts, act}
use Rattle.mcode.specs.Memory.{stack_of, frame_limit, stack_words}
use Rattle.mcode.specs.Stages.{Staged, Onto, Again as Retries, Gives, Traps, Exits, Halts}
use Rattle.mcode.specs.Steps.{Step, Quiet, Makes, Ends, does}
use Rattle.mcode.specs.Words.{accessed, where_served, serves, written}
use Rattle.mcode.specs.declared.code.Entry.{Entry}
use Rattle.mcode.specs.declared.code.Instruction.{Instruction}
use Rattle.mcode.specs.declared.code.Instruction.TheVariants as i
use Rattle.mcode.specs.declared.events.Ask.TheVariants.{Store, Enter}
use Rattle.mcode.specs.declared.events.Finish.TheVariants.{Halted}
use Rattle.mcode.specs.declared.thread.Caller.{Caller}
use Rattle.mcode.specs.declared.thread.Mode.{Mode}
use Rattle.mcode.specs.declared.thread.Mode.TheVariants.{Running, Failing, Done}
use Rattle.src_model.specs.Rules as rules
use Rattle.src_model.specs.Rules.{all_tasks, list_tasks, behind_loop, end_of_body}
use Rattle.src_model.specs.Source as source
use Rattle.src_model.specs.Source.{meets, binds, function_tasks, is_main_in, info_on_top, is_noreturn_in}
use Rattle.src_model.specs.Tasks.{Forget, Task, Now, Do, Turn, Again, Fall, Finished, Frame, State}
use Rattle.c_codegen.specs.Compiled.{Compiled, Knows, KnowsBody}
use Rattle.c_codegen.specs.Entries.{served, entry_at}
use Rattle.c_codegen.specs.Lies.{Is, AllStand, ListStands, Binds, Meets, FunctionLies}
use Rattle.c_codegen.proofs.Served.{stands_for}
use Rattle.c_codegen.proofs.Standing.{Jumps, here, jump, After, Remains, Leaves, Repeats, Known, Called, first, inner, thread, Stays, runs, calls, stops, fails, halts, done, Leads, stay, lead, Does}

pub written_is : (t : CType) (w : Word) → written t w ≡ machine.written_at (level_of t) w
written_is t (word.FunctionPointer function level) = refl
written_is t word.Zero = refl
written_is t word.Undefined = refl
written_is t (word.Number bits) = refl
written_is t (word.DataPointer at) = refl
written_is t (word.Mutex held) = refl
written_is t (word.Live count) = refl
written_is t (word.Freed count) = refl

-- behind an instruction
pub on_next : (c : Program) (X : ℕ → Type 0) (p r : ℕ) → suc p ≡ r → After c X r → After c X (suc p)
on_next c X p r e a = subst (After c X) (sym e) a

pub jumped : (c : Program) (X : ℕ → Type 0) (p q : ℕ) → Is c p (i.GoTo q) → After c X q → After c X p
jumped c X p q is a = (a.0, jump p q a.0 is a.1, a.2)

-- where the callers stand for the frames

pub called_length : (u : UnitParts) (c : Program) (frames : List Frame) (cs : List Caller) → Called u c frames cs → length frames ≡ length cs
called_length u c _ _ (first function site base back more known) = refl
called_length u c _ _ (inner function site base back more todo below frames x cs known a called) = ap suc (called_length u c (below ∷ frames) (x ∷ cs) called)

pub called_known : (u : UnitParts) (c : Program) (frames : List Frame) (x : Caller) (cs : List Caller) → Called u c frames (x ∷ cs) → Known u c x.function
called_known u c _ _ _ (first function site base back more known) = known
called_known u c _ _ _ (inner function site base back more todo below frames x cs known a called) = known

pub called_top : (u : UnitParts) (c : Program) (frames : List Frame) (x : Caller) (cs : List Caller) → Called u c frames (x ∷ cs) → info_on_top u frames ≡ slice_get u.functions x.function
called_top u c _ _ _ (first function site base back more known) = refl
called_top u c _ _ _ (inner function site base back more todo below frames x cs known a called) = refl

pub called_more : (u : UnitParts) (c : Program) (function site base back more : ℕ) (k : List Task) (frames : List Frame) (x : Caller) (cs : List Caller) →
    After c (Remains u c x k) back → Called u c frames (x ∷ cs) → Known u c function →
    Called u c (record { function = function; site = site; back = k; base = base } ∷ frames) (record { function = function; site = site; back = back; base = base; more = more } ∷ x ∷ cs)
called_more u c function site base back more k _ _ _ a (first f s b r m known) new = inner function site base back more k _ _ _ _ new a (first f s b r m known)
called_more u c function site base back more k _ _ _ a (inner f s b r m todo below frames y ds known old called) new =
    inner function site base back more k _ _ _ _ new a (inner f s b r m todo below frames y ds known old called)

-- `break` and `continue`

pub leaves_behind : (u : UnitParts) (c : Program) (x : Caller) (k : List Task) (p : ℕ) → Leaves u c x k p → After c (Remains u c x (behind_loop k)) p
leaves_behind u c x [] p l = absurd l
leaves_behind u c x (Do item ∷ k) p l = leaves_behind u c x k p l
leaves_behind u c x (Turn loop ∷ k) p l = leaves_behind u c x k p l
leaves_behind u c x (Again loop ∷ k) p l = l
leaves_behind u c x (Fall t ∷ k) p l = l
leaves_behind u c x (task ∷ k) p l = absurd l

pub repeats_end : (u : UnitParts) (c : Program) (x : Caller) (k : List Task) (p : ℕ) → Repeats u c x k p → After c (Remains u c x (end_of_body k)) p
repeats_end u c x [] p l = absurd l
repeats_end u c x (Do item ∷ k) p l = repeats_end u c x k p l
repeats_end u c x (Turn loop ∷ k) p l = repeats_end u c x k p l
repeats_end u c x (Again loop ∷ k) p l = l
repeats_end u c x (Fall t ∷ k) p l = l
repeats_end u c x (task ∷ k) p l = absurd l

-- statements one after another

leaves_all : {n : _} (u : UnitParts) (c : Program) (x : Caller) (items : Row_of-Stmt n) (k : List Task) (p : ℕ) → Leaves u c x k p → Leaves u c x (all_tasks items k) p
leaves_all u c x end_of-Stmt k p l = l
leaves_all u c x (more_of-Stmt item items) k p l = leaves_all u c x items k p l

repeats_all : {n : _} (u : UnitParts) (c : Program) (x : Caller) (items : Row_of-Stmt n) (k : List Task) (p : ℕ) → Repeats u c x k p → Repeats u c x (all_tasks items k) p
repeats_all u c x end_of-Stmt k p l = l
repeats_all u c x (more_of-Stmt item items) k p l = repeats_all u c x items k p l

pub all_remain : {n : _} (u : UnitParts) (c : Program) (x : Caller) (items : Row_of-Stmt n) (k : List Task) (out back from to : ℕ) → AllStand u c items out back from to →
    Leaves u c x k out → Repeats u c x k back → After c (Remains u c x k) to → After c (Remains u c x (all_tasks items k)) from
unfolding AllStand
all_remain u c x end_of-Stmt k out back from to l leaves repeats a = subst (After c (Remains u c x k)) (sym l) a
all_remain u c x (more_of-Stmt item items) k out back from to l leaves repeats a = (
  from,
  here from,
  (
    out,
    back,
    l.0,
    l.1,
    leaves_all u c x items k out leaves,
    repeats_all u c x items k back repeats,
    all_remain u c x items k out back l.0 to l.2 leaves repeats a,
  ),
)

leaves_list : (u : UnitParts) (c : Program) (x : Caller) (items : List Stmt) (k : List Task) (p : ℕ) → Leaves u c x k p → Leaves u c x (list_tasks items k) p
leaves_list u c x [] k p l = l
leaves_list u c x (item ∷ items) k p l = leaves_list u c x items k p l

repeats_list : (u : UnitParts) (c : Program) (x : Caller) (items : List Stmt) (k : List Task) (p : ℕ) → Repeats u c x k p → Repeats u c x (list_tasks items k) p
repeats_list u c x [] k p l = l
repeats_list u c x (item ∷ items) k p l = repeats_list u c x items k p l

list_remains : (u : UnitParts) (c : Program) (x : Caller) (items : List Stmt) (k : List Task) (out back from to : ℕ) → ListStands u c items out back from to →
    Leaves u c x k out → Repeats u c x k back → After c (Remains u c x k) to → After c (Remains u c x (list_tasks items k)) from
list_remains u c x [] k out back from to l leaves repeats a = subst (After c (Remains u c x k)) (sym l) a
list_remains u c x (item ∷ items) k out back from to l leaves repeats a = (
  from,
  here from,
  (
    out,
    back,
    l.0,
    l.1,
    leaves_list u c x items k out leaves,
    repeats_list u c x items k back repeats,
    list_remains u c x items k out back l.0 to l.2 leaves repeats a,
  ),
)

-- functions

binds_remain : (u : UnitParts) (c : Program) (x : Caller) (offset : ℕ) (ts : List CType) (k : List Task) (from to : ℕ) → Binds c offset ts from to →
    After c (Remains u c x k) to → After c (Remains u c x (binds offset ts k)) from
binds_remain u c x offset [] k from to l a = subst (After c (Remains u c x k)) (sym l) a
binds_remain u c x offset (t ∷ ts) k from to l a = (from, here from, (l.0, l.1, binds_remain u c x (suc offset) ts k l.0 to l.2 a))

meets_remain : (u : UnitParts) (c : Program) (x : Caller) (b : Bool) (function : ℕ) (k : List Task) (from to : ℕ) → Meets c b function from to →
    After c (Remains u c x k) to → After c (Remains u c x (meets b function x.site k)) from
meets_remain u c x true function k from to l a = (from, here from, (to, (l, refl), a))
meets_remain u c x false function k from to l a = subst (After c (Remains u c x k)) (sym l) a

-- the code of a function, once it was entered
pub function_remains : (u : UnitParts) (c : Program) (x : Caller) (f : FunctionInfo) (body : Body) (place from to : ℕ) → FunctionLies u c x.function f body from to →
    slice_get u.functions x.function ≡ Some f → entry_of c x.function ≡ Some (entry_at u place f) →
    After c (Remains u c x (function_tasks x.function x.site f body (length f.kind.params + x.more))) from
function_remains u c x f body place from to l listed entry =
    let p = l.0 in let q = l.1 in let r = l.2 in let end = l.3 in let leave = l.4 in
    let falls : option_map_or (λ entry. entry.falls) (entry_of c x.function) false ≡ is_void f.kind.result || is_main_in (slice_get u.functions x.function)
    = ap (λ e. option_map_or (λ entry. entry.falls) e false) entry ∙ sym (ap (λ g. is_void f.kind.result || is_main_in g) listed) in
    let left : Is c (suc end) i.LeaveFunction = subst (λ at. Is c at i.LeaveFunction) (sym l.9.1) l.10.0 in
    let fall : After c (Remains u c x (Fall f.kind.result ∷ [])) end = (end, here end, (l.9.0, left, falls)) in
    let items = list_remains u c x body.items (Fall f.kind.result ∷ []) end end r end l.8 fall fall fall in
    let forgets : After c (Remains u c x (Now (Forget (length f.kind.params + x.more)) ∷ list_tasks body.items (Fall f.kind.result ∷ []))) q
    = (q, here q, (r, (length f.kind.params, l.7, refl), items)) in
    meets_remain u c x f.kind.effects.no_block_inference x.function _ from p l.5 (binds_remain u c x 0 f.kind.params _ p q l.6 forgets)

-- what the thread does at a place
pub moved : (c : Program) (s : State) (pc : ℕ) (cs : List Caller) (x : Instruction) → Is c pc x → move c (thread s pc cs Running) ≡ act c (thread s pc cs Running) x
moved c s pc cs x is = ap (acts c (thread s pc cs Running)) is

pub jumps_lead : (c : Program) (s : State) (cs : List Caller) (p q : ℕ) → Jumps c p q → Leads c (thread s p cs Running) (thread s q cs Running)
jumps_lead c s cs _ _ (here p) = stay _
jumps_lead c s cs _ _ (jump p q r is on) = lead _ _ _ (moved c s p cs (i.GoTo q) is) (jumps_lead c s cs q r on)

pub leads_then : (c : Program) (t v w : Machine) → Leads c t v → Leads c v w → Leads c t w
leads_then c _ v w (stay t) m = m
leads_then c _ _ w (lead t v x e l) m = lead t v w e (leads_then c v x w l m)

pub does_then : (u : UnitParts) (c : Program) (made : Step State) (t v : Machine) → Leads c t v → Does u c made v → Does u c made t
does_then u c (Quiet s) t v l d = (d.0, leads_then c t v d.0 l d.1, d.2)
does_then u c (Makes event after turned) t v l d = (d.0, leads_then c t v d.0 l d.1, d.2, d.3, d.4)
does_then u c (Ends finish) t v l d = (d.0, leads_then c t v d.0 l d.1, d.2)

-- one quiet instruction
pub once : (c : Program) (t v : Machine) → move c t ≡ Quiet v → Leads c t v
once c t v e = lead t v v e (stay v)

module _ (u : UnitParts) (c : Program) where
  pub fails_do : (s : State) (t v : Machine) (kind : TrapKind) → move c t ≡ machine.fails v kind → Does u c (rules.fails s kind) t
  fails_do s t v kind e = (record v { mode = Failing kind }, once c _ _ e, fails s v kind)

  -- an access, at the address that a pointer tells
  pub access_does : (s : State) (t v : Machine) (found : Result ℕ TrapKind) (go : ℕ → Step State) (act : ℕ → Step Machine) →
      move c t ≡ machine.accesses_at v found act → ((at : ℕ) → move c t ≡ act at → Does u c (go at) t) → Does u c (source.accesses_at s found go) t
  access_does s t v (Ok at) go act e on = on at e
  access_does s t v (Err kind) go act e on = fails_do s t v kind e

  -- a word is stored at an offset of the frame
  pub puts_do : c.static_words ≡ length u.static_words → (s : State) (t v on : Machine) (offset : ℕ) (value : Word) (raw : ℕ) (k : List Task) →
      move c t ≡ machine.puts c v offset raw on → v.number ≡ s.number → v.base ≡ s.base → packed value ≡ raw → Stays u c (record s { todo = k }) on →
      Does u c (source.puts u s offset value k) t
  puts_do statics s t v on offset value raw k e number base same_word stays =
      let same : machine.local_address c v offset ≡ rules.local_address u s offset
      = ap (λ n. stack_of n v.number + v.base + offset) statics ∙ ap (λ n. stack_of (length u.static_words) n + v.base + offset) number
      ∙ ap (λ n. stack_of (length u.static_words) s.number + n + offset) base in
      access_does s t v (accessed (word.DataPointer (rules.local_address u s offset))) (λ at. does (Store at (packed value)) (record s { todo = k })) (λ at. does (Store at raw) on)
      (e ∙ ap (λ n. machine.accesses_at v (accessed (word.DataPointer n)) (λ at. does (Store at raw) on)) same)
      (λ at made. (t, stay t, _, made ∙ ap (λ raw. does (Store at raw) on) (sym same_word), λ answer. stays))

  -- the loaded word serves the type, or the thread is trapped
  served_stays : (s : State) (t on : Machine) (w : Word) (k : List Task) (b : Bool) → Stays u c (record s { todo = k; value = w }) on →
      Stays u c (source.serve s (if b then Some w else None) k) (if b then on else machine.failing t BadWord)
  served_stays s t on w k true stays = stays
  served_stays s t on w k false stays = fails s t BadWord

  pub serve_stays : Compiled u c → (s : State) (pc : ℕ) (cs : List Caller) (t : CType) (found : Option Word) (k : List Task) →
      ((w : Word) → Stays u c (record s { todo = k; value = w }) (thread (record s { value = w }) (suc pc) cs Running)) →
      Stays u c (source.serve s (where_served u t found) k) (machine.serve c (thread s pc cs Running) (served u t) found)
  serve_stays compiled s pc cs t None k stays = fails s (thread s pc cs Running) BadWord
  serve_stays compiled s pc cs t (Some w) k stays =
      let on = thread (record s { value = w }) (suc pc) cs Running in
      subst (λ b. Stays u c (source.serve s (if serves u t w then Some w else None) k) (if b then on else machine.failing (thread s pc cs Running) BadWord))
      (sym (stands_for u c compiled t w)) (served_stays s (thread s pc cs Running) on w k (serves u t w) (stays w))

  pub checked_stays : (s : State) (t on : Machine) (k : List Task) (go : Bool) → Stays u c (record s { todo = k }) on →
      Stays u c (record s { todo = if go then k else Finished Halted ∷ [] }) (if go then on else record t { mode = Done Halted })
  checked_stays s t on k true h = h
  checked_stays s t on k false h = done s t Halted

  -- how a library call goes on
  pub staged_stays : (s : State) (pc : ℕ) (x : Caller) (cs : List Caller) (m : Mode) (t : CType) (k : List Task) → After c (Remains u c x k) pc → Called u c s.frames (x ∷ cs) →
      (made : Staged) → Stays u c (source.staged s t made k) (machine.staged (thread s pc (x ∷ cs) m) made)
  staged_stays s pc x cs m t k a b (Onto stage) = calls s pc x cs stage t k a b
  staged_stays s pc x cs m t k a b (Retries stage) = calls s pc x cs stage t k a b
  staged_stays s pc x cs m t k a b (Gives value) = runs (record s { todo = k; value = value }) pc x cs a b
  staged_stays s pc x cs m t k a b (Traps kind) = fails s (thread s pc (x ∷ cs) m) kind
  staged_stays s pc x cs m t k a b (Exits bits) = halts s (thread s pc (x ∷ cs) m) _
  staged_stays s pc x cs m t k a b Halts = done s (thread s pc (x ∷ cs) m) Halted

  -- A function is entered.
  room_does : (s : State) (t on : Machine) (function site : ℕ) (made : State) (b : Bool) →
      move c t ≡ (if b then does (Enter function site) on else machine.fails t StackOverflow) → Stays u c made on →
      Does u c (if b then does (Enter function site) made else rules.fails s StackOverflow) t
  room_does s t on function site made true e stays = (t, stay t, _, e, λ word. stays)
  room_does s t on function site made false e stays = fails_do s t t StackOverflow e

  body_does : (s : State) (pc : ℕ) (cs : List Caller) (m : Mode) (function site back more : ℕ) (f : FunctionInfo) (k : List Task) (entry : Option Entry) →
      entry_of c function ≡ entry → slice_get u.functions function ≡ Some f →
      move c (thread s pc cs m) ≡ machine.enters (thread s pc cs m) function site back more entry → length s.frames ≡ length cs →
      (Known u c function → Called u c (record { function = function; site = site; back = k; base = s.base } ∷ s.frames)
      (record { function = function; site = site; back = back; base = s.base; more = more } ∷ cs)) →
      (body : Option Body) → KnowsBody u c function f body entry → Does u c (source.enters_body s function site f body more k) (thread s pc cs m)
  body_does s pc cs m function site back more f k entry known listed e count called None none =
      fails_do s (thread s pc cs m) (thread s pc cs m) NullCall (e ∙ ap (machine.enters (thread s pc cs m) function site back more) none)
  body_does s pc cs m function site back more f k entry known listed e count called (Some body) is =
      let x : Caller = record { function = function; site = site; back = back; base = s.base; more = more } in
      let entered = known ∙ is.known in
      let made = source.entered s function site f body (length f.kind.params + more) k in
      let on = thread made is.place (x ∷ cs) Running in
      room_does s (thread s pc cs m) on function site made (nat_lt (length s.frames) frame_limit && nat_le (s.top + f.frame_words) stack_words)
      (e ∙ ap (machine.enters (thread s pc cs m) function site back more) is.known
      ∙ ap (λ n. if nat_lt n frame_limit && nat_le (s.top + f.frame_words) stack_words then does (Enter function site) on else machine.fails (thread s pc cs m) StackOverflow) (sym count))
      (runs made is.place x cs (function_remains u c x f body is.place is.place is.end is.lies listed entered)
      (called (record { info = f; place = is.place; listed = listed; entry = entered })))

  pub enters_do : (s : State) (pc : ℕ) (cs : List Caller) (m : Mode) (function site back more : ℕ) (k : List Task) (info : Option FunctionInfo) (entry : Option Entry) →
      entry_of c function ≡ entry → slice_get u.functions function ≡ info → Knows u c function info entry →
      move c (thread s pc cs m) ≡ machine.enters (thread s pc cs m) function site back more entry → length s.frames ≡ length cs →
      (Known u c function → Called u c (record { function = function; site = site; back = k; base = s.base } ∷ s.frames)
      (record { function = function; site = site; back = back; base = s.base; more = more } ∷ cs)) →
      Does u c (source.enters s function site info more k) (thread s pc cs m)
  enters_do s pc cs m function site back more k None entry known listed none e count called =
      fails_do s (thread s pc cs m) (thread s pc cs m) NullCall (e ∙ ap (machine.enters (thread s pc cs m) function site back more) none)
  enters_do s pc cs m function site back more k (Some f) entry known listed knows e count called =
      body_does s pc cs m function site back more f k entry known listed e count called f.body knows

  -- A function is left.
  pub leaves_stays : (s : State) (pc : ℕ) (frames : List Frame) (cs : List Caller) → Called u c frames cs →
      Stays u c (source.leaves (record s { frames = frames }) frames) (machine.leaves c (thread s pc cs Running) cs)
  leaves_stays s pc _ _ (first function site base back more known) = stops (record s { base = base; top = s.base }) pc function known
  leaves_stays s pc _ _ (inner function site base back more todo below frames x cs known a called) =
      runs (record s { todo = todo; frames = below ∷ frames; base = base; top = s.base }) back x cs a called
