-- The code of parts does what the source thread does.
use Rattle.std.proofs.Common.{◌≡◌, refl, sym, ap, ◌∙◌, subst, ℕ, zero, suc, ◌+◌, Bool, true, false, List, [], ◌∷◌, Result, Ok, Err, length, drop, if◌then◌else◌, nat_eq, nat_lt, arith, slice_get, slice_index}
use Rattle.arithmetic.specs.Operators.{truth}
use Rattle.arithmetic.specs.Values.{applied, applied_to, member_of, is_true, number}
use Rattle.arithmetic.specs.declared.traps.TrapKind.{TrapKind}
use Rattle.arithmetic.specs.declared.traps.TrapKind.TheVariants.{NullCall, StackOverflow}
use Rattle.core_unit.specs.Library.{row_type}
use Rattle.core_unit.specs.Shapes.{level_of, result_of as value_type_of}
use Rattle.core_unit.specs.Stores.{Stored, Value as StoredValue, Byte, Zero as StoredZero, Undefined as StoredUndefined}
use Rattle.core_unit.specs.Words.{packed}
use Rattle.core_unit.specs.declared.expressions.Expr.{Expr}
use Rattle.core_unit.specs.declared.operators.LogicalOperator.{LogicalOperator}
use Rattle.core_unit.specs.declared.operators.LogicalOperator.TheVariants as logical
use Rattle.core_unit.specs.declared.operators.StepValue.{StepValue}
use Rattle.core_unit.specs.declared.operators.StepValue.TheVariants.{Prefix, Postfix}
use Rattle.core_unit.specs.declared.tables.UnitParts.{UnitParts}
use Rattle.core_unit.specs.declared.words.Word.{Word}
use Rattle.core_unit.specs.declared.words.Word.TheVariants as word
use Rattle.eff_types.specs.declared.types.CType.{CType}
use Rattle.mcode.specs.Machine as machine
use Rattle.mcode.specs.Machine.{Program, Machine, entry_of, move, act, filling, spelling}
use Rattle.mcode.specs.Memory.{held_limit}
use Rattle.mcode.specs.Stages.{held_at, call_begins}
use Rattle.mcode.specs.Steps.{Quiet, asks, does}
use Rattle.mcode.specs.Words.{accessed, unpacked, loaded, written}
use Rattle.mcode.specs.declared.code.Instruction.{Instruction}
use Rattle.mcode.specs.declared.code.Instruction.TheVariants as i
use Rattle.mcode.specs.declared.events.Ask.TheVariants.{Load, Store, Reach}
use Rattle.mcode.specs.declared.thread.Mode.{Mode}
use Rattle.mcode.specs.declared.thread.Caller.{Caller}
use Rattle.mcode.specs.declared.thread.Mode.TheVariants.{Running}
use Rattle.src_model.specs.Rules as rules
use Rattle.src_model.specs.Rules.{before, arguments, call_tasks, value_step, address_step, variable_address}
use Rattle.src_model.specs.Source as source
use Rattle.src_model.specs.Source.{count_of, also_step, fill_step}
use Rattle.src_model.specs.Tasks.{Part, Value, Address, Hold, LoadAs, StoreAs, Retype, Change, Apply, Advance, StoreStep, Shift, Also as After_left, Truth, Pick, Branch, Fill, Put, Guard, Check, Begin, BeginThrough, Meet, Bind, Forget, Arrive, In, Task, Now, Do, State}
use Rattle.c_codegen.specs.Compiled.{Compiled}
use Rattle.c_codegen.specs.Lies.{One, Also, Picks, arguments_of, Lies, IsRun, IsText, Filled, nothing, value, words, characters, Branches, Stands, AllStand}
use Rattle.c_codegen.specs.Entries.{served}
use Rattle.core_unit.specs.declared.body.Stmt.{Stmt, Row_of-Stmt, end_of-Stmt, more_of-Stmt}
use Rattle.c_codegen.proofs.Expressions.{still, sets, goes_to, value_does, address_does}
use Rattle.c_codegen.proofs.Moves.{all_remain, serve_stays, checked_stays, staged_stays, enters_do, written_is, on_next, jumped, moved, does_then, once, fails_do, access_does, puts_do, called_length, called_more}
use Rattle.c_codegen.proofs.Standing.{here, After, PartLies, Remains, Leaves, Repeats, Called, thread, runs, fills, spells, stay, lead, Does}

module _ (u : UnitParts) (c : Program) (compiled : Compiled u c) (x : Caller) (cs : List Caller) where
  abbrev at : State → ℕ → Machine
  at s pc = thread s pc (x ∷ cs) Running

  -- `&&` and `||`
  also_does : (operator : LogicalOperator) (e : Expr) (k : List Task) (s : State) (pc to : ℕ) → Also c operator (Lies u c e) pc to → After c (Remains u c x k) to →
      Called u c s.frames (x ∷ cs) → (b : Bool) → is_true s.value ≡ b → Does u c (also_step operator e b k s) (at s pc)
  also_does logical.And e k s pc to l a b true is =
      goes_to u c x cs s pc (suc pc) _ (i.GoIfZero l.0) l.1 (ap (λ b. machine.goes (at s pc) (if b then suc pc else l.0)) is)
      (suc pc, here _, (l.0, l.2, (l.0, here _, (to, l.3, a)))) b
  also_does logical.And e k s pc to l a b false is = (
    thread (record s { value = word.Zero }) (suc l.0) (x ∷ cs) Running,
    lead _ _ _ (moved c s pc (x ∷ cs) (i.GoIfZero l.0) l.1 ∙ ap (λ b. machine.goes (at s pc) (if b then suc pc else l.0)) is)
        (once c _ _ (moved c s l.0 (x ∷ cs) i.Truth l.3.0 ∙ ap (λ b. machine.gives (at s l.0) (number (truth b))) is)),
    runs (record s { todo = k; value = word.Zero }) (suc l.0) x cs (on_next c (Remains u c x k) l.0 to l.3.1 a) b,
  )
  also_does logical.Or e k s pc to l a b true is = (
    thread (record s { value = word.Number 1 }) (suc l.0) (x ∷ cs) Running,
    lead _ _ _ (moved c s pc (x ∷ cs) (i.GoIfNotZero l.0) l.1 ∙ ap (λ b. machine.goes (at s pc) (if b then l.0 else suc pc)) is)
        (once c _ _ (moved c s l.0 (x ∷ cs) i.Truth l.3.0 ∙ ap (λ b. machine.gives (at s l.0) (number (truth b))) is)),
    runs (record s { todo = k; value = word.Number 1 }) (suc l.0) x cs (on_next c (Remains u c x k) l.0 to l.3.1 a) b,
  )
  also_does logical.Or e k s pc to l a b false is =
      goes_to u c x cs s pc (suc pc) _ (i.GoIfNotZero l.0) l.1 (ap (λ b. machine.goes (at s pc) (if b then l.0 else suc pc)) is)
      (suc pc, here _, (l.0, l.2, (l.0, here _, (to, l.3, a)))) b

  -- `?:`
  picks_do : (y z : Expr) (k : List Task) (s : State) (pc to : ℕ) → Picks c (Lies u c y) (Lies u c z) pc to → After c (Remains u c x k) to →
      Called u c s.frames (x ∷ cs) → (b : Bool) → is_true s.value ≡ b → Does u c (rules.goes s (Now (Value (if b then y else z)) ∷ k)) (at s pc)
  picks_do y z k s pc to l a b true is =
      goes_to u c x cs s pc (suc pc) _ (i.GoIfZero (suc l.0)) l.1 (ap (λ b. machine.goes (at s pc) (if b then suc pc else suc l.0)) is)
      (suc pc, here _, (l.0, l.2, jumped c (Remains u c x k) l.0 to l.3 a)) b
  picks_do y z k s pc to l a b false is =
      goes_to u c x cs s pc (suc l.0) _ (i.GoIfZero (suc l.0)) l.1 (ap (λ b. machine.goes (at s pc) (if b then suc pc else suc l.0)) is)
      (suc l.0, here _, (to, l.4, a)) b

  -- `if`
  branches_do : {n : _} (item : Stmt) (other : Row_of-Stmt n) (k : List Task) (s : State) (out back pc to : ℕ) →
      Branches c (Stands u c item out back) other (AllStand u c other out back) pc to → Leaves u c x k out → Repeats u c x k back → After c (Remains u c x k) to →
      Called u c s.frames (x ∷ cs) → (b : Bool) → is_true s.value ≡ b → Does u c (rules.goes s (if b then Do item ∷ k else rules.all_tasks other k)) (at s pc)
  unfolding AllStand
  branches_do item end_of-Stmt k s out back pc to l leaves repeats a b true is =
      goes_to u c x cs s pc (suc pc) _ (i.GoIfZero to) l.0 (ap (λ b. machine.goes (at s pc) (if b then suc pc else to)) is)
      (suc pc, here _, (out, back, to, l.1, leaves, repeats, a)) b
  branches_do item end_of-Stmt k s out back pc to l leaves repeats a b false is =
      goes_to u c x cs s pc to _ (i.GoIfZero to) l.0 (ap (λ b. machine.goes (at s pc) (if b then suc pc else to)) is) a b
  branches_do item (more_of-Stmt y ys) k s out back pc to l leaves repeats a b true is =
      goes_to u c x cs s pc (suc pc) _ (i.GoIfZero (suc l.0)) l.1 (ap (λ b. machine.goes (at s pc) (if b then suc pc else suc l.0)) is)
      (suc pc, here _, (out, back, l.0, l.2, leaves, repeats, jumped c (Remains u c x k) l.0 to l.3 a)) b
  branches_do item (more_of-Stmt y ys) k s out back pc to l leaves repeats a b false is =
      goes_to u c x cs s pc (suc l.0) _ (i.GoIfZero (suc l.0)) l.1 (ap (λ b. machine.goes (at s pc) (if b then suc pc else suc l.0)) is)
      (all_remain u c x (more_of-Stmt y ys) k out back (suc l.0) to l.4 leaves repeats a) b

  -- a value, or a trap
  finds_do : (s : State) (pc to : ℕ) (k : List Task) (code : Instruction) → One c code pc to → After c (Remains u c x k) to → Called u c s.frames (x ∷ cs) →
      (found : Result Word TrapKind) → act c (at s pc) code ≡ machine.finds (at s pc) found → Does u c (source.finds s found k) (at s pc)
  finds_do s pc to k code l a b (Ok w) e = sets u c x cs s pc to k w code l e a b
  finds_do s pc to k code l a b (Err kind) e = fails_do u c s (at s pc) (at s pc) kind (moved c s pc (x ∷ cs) code l.0 ∙ e)

  finds_of_held_do : (s : State) (pc to : ℕ) (k : List Task) (code : Instruction) → One c code pc to → After c (Remains u c x k) to → Called u c s.frames (x ∷ cs) →
      (found : Result Word TrapKind) → act c (at s pc) code ≡ machine.finds_of_held (at s pc) found → Does u c (source.finds_of_held s found k) (at s pc)
  finds_of_held_do s pc to k code l a b (Ok w) e = (
    thread (record s { value = w; held = drop 1 s.held }) (suc pc) (x ∷ cs) Running,
    once c _ _ (moved c s pc (x ∷ cs) code l.0 ∙ e),
    runs (record s { todo = k; value = w; held = drop 1 s.held }) (suc pc) x cs (on_next c (Remains u c x k) pc to l.1 a) b,
  )
  finds_of_held_do s pc to k code l a b (Err kind) e = fails_do u c s (at s pc) (at s pc) kind (moved c s pc (x ∷ cs) code l.0 ∙ e)

  holds_do : (s : State) (pc to : ℕ) (k : List Task) → One c i.HoldValue pc to → After c (Remains u c x k) to → Called u c s.frames (x ∷ cs) → (b : Bool) →
      act c (at s pc) i.HoldValue ≡ (if b then Quiet (record (at s pc) { pc = suc pc; held = s.value ∷ s.held }) else machine.fails (at s pc) StackOverflow) →
      Does u c (if b then Quiet (record s { todo = k; held = s.value ∷ s.held }) else rules.fails s StackOverflow) (at s pc)
  holds_do s pc to k l a b true e = (
    thread (record s { held = s.value ∷ s.held }) (suc pc) (x ∷ cs) Running,
    once c _ _ (moved c s pc (x ∷ cs) i.HoldValue l.0 ∙ e),
    runs (record s { todo = k; held = s.value ∷ s.held }) (suc pc) x cs (on_next c (Remains u c x k) pc to l.1 a) b,
  )
  holds_do s pc to k l a b false e = fails_do u c s (at s pc) (at s pc) StackOverflow (moved c s pc (x ∷ cs) i.HoldValue l.0 ∙ e)

  guards_do : (s : State) (pc to count : ℕ) (k : List Task) → One c (i.Guard count) pc to → After c (Remains u c x k) to → Called u c s.frames (x ∷ cs) → (b : Bool) →
      act c (at s pc) (i.Guard count) ≡ (if b then machine.goes (at s pc) (suc pc) else machine.fails (at s pc) NullCall) →
      Does u c (if b then rules.goes s k else rules.fails s NullCall) (at s pc)
  guards_do s pc to count k l a b true e = goes_to u c x cs s pc (suc pc) k (i.Guard count) l.0 e (on_next c (Remains u c x k) pc to l.1 a) b
  guards_do s pc to count k l a b false e = fails_do u c s (at s pc) (at s pc) NullCall (moved c s pc (x ∷ cs) (i.Guard count) l.0 ∙ e)

  -- The words of a block variable: the next word of a run is stored.
  pub run_does : (s : State) (t : Machine) (pc to : ℕ) (offset raw left : ℕ) (stored others : List Stored) (k : List Task) →
      IsRun raw (suc left) stored others → Filled u c (offset + suc left) others pc to → After c (Remains u c x k) to → Called u c s.frames (x ∷ cs) →
      (m : Mode) → move c t ≡ machine.fills c (thread s pc (x ∷ cs) m) offset raw (suc left) → Does u c (fill_step u offset stored k s) t
  run_does s t pc to offset raw left [] others k is filled a b m e = absurd is
  run_does s t pc to offset raw left (StoredValue w ∷ stored) others k is filled a b m e = let first = is.0 in let clash : ⊥ = cc in absurd clash
  run_does s t pc to offset raw left (Byte byte ∷ stored) others k is filled a b m e =
      puts_do u c compiled.statics s t (thread s pc (x ∷ cs) m) _ offset (number byte) raw (Now (Fill (suc offset) stored) ∷ k) e refl refl (let first = is.0 in cc)
      (fills s pc x cs (suc offset) raw left stored others k to is.1 (subst (λ n. Filled u c n others pc to) (omega arith) filled) a b)
  run_does s t pc to offset raw left (StoredZero ∷ stored) others k is filled a b m e =
      puts_do u c compiled.statics s t (thread s pc (x ∷ cs) m) _ offset word.Zero raw (Now (Fill (suc offset) stored) ∷ k) e refl refl (let first = is.0 in cc)
      (fills s pc x cs (suc offset) raw left stored others k to is.1 (subst (λ n. Filled u c n others pc to) (omega arith) filled) a b)
  run_does s t pc to offset raw left (StoredUndefined ∷ stored) others k is filled a b m e =
      puts_do u c compiled.statics s t (thread s pc (x ∷ cs) m) _ offset word.Undefined raw (Now (Fill (suc offset) stored) ∷ k) e refl refl (let first = is.0 in cc)
      (fills s pc x cs (suc offset) raw left stored others k to is.1 (subst (λ n. Filled u c n others pc to) (omega arith) filled) a b)

  pub text_does : (s : State) (t : Machine) (pc to : ℕ) (offset from left : ℕ) (stored others : List Stored) (k : List Task) →
      IsText c.texts from (suc left) stored others → Filled u c (offset + suc left) others pc to → After c (Remains u c x k) to → Called u c s.frames (x ∷ cs) →
      (m : Mode) → move c t ≡ machine.spells c (thread s pc (x ∷ cs) m) offset from (suc left) → Does u c (fill_step u offset stored k s) t
  text_does s t pc to offset from left [] others k is filled a b m e = absurd is
  text_does s t pc to offset from left (StoredValue w ∷ stored) others k is filled a b m e = let first = is.0 in let clash : ⊥ = cc in absurd clash
  text_does s t pc to offset from left (StoredZero ∷ stored) others k is filled a b m e = let first = is.0 in let clash : ⊥ = cc in absurd clash
  text_does s t pc to offset from left (StoredUndefined ∷ stored) others k is filled a b m e = let first = is.0 in let clash : ⊥ = cc in absurd clash
  text_does s t pc to offset from left (Byte byte ∷ stored) others k is filled a b m e =
      let same : byte ≡ slice_index c.texts from = (let first = is.0 in cc) in
      puts_do u c compiled.statics s t (thread s pc (x ∷ cs) m) _ offset (number byte) _ (Now (Fill (suc offset) stored) ∷ k) e refl refl (ap (λ n. packed (number n)) same)
      (spells s pc x cs (suc offset) (suc from) left stored others k to is.1 (subst (λ n. Filled u c n others pc to) (omega arith) filled) a b)

  pub fill_does : (offset : ℕ) (stored : List Stored) (k : List Task) (s : State) (pc to : ℕ) → Filled u c offset stored pc to → After c (Remains u c x k) to →
      Called u c s.frames (x ∷ cs) → Does u c (fill_step u offset stored k s) (at s pc)
  fill_does _ _ k s _ _ (nothing offset pc) a b = still u c x cs s pc k a b
  fill_does _ _ k s _ _ (value offset e stored pc p q to l put filled) a b =
      still u c x cs s pc _ (pc, here pc, (p, l, (p, here p, (q, put, (q, here q, (to, filled, a)))))) b
  fill_does _ _ k s _ _ (words offset raw zero stored others pc p to l is filled) a b =
      does_then u c (fill_step u offset stored k s) (at s pc) (at s (suc pc)) (once c _ _ (moved c s pc (x ∷ cs) (i.Fill offset raw 0) l.0))
      (subst (λ v. Does u c (fill_step u offset stored k s) (at s v)) (sym l.1)
      (subst (λ n. Does u c (fill_step u n stored k s) (at s p)) (omega arith)
      (subst (λ list. Does u c (fill_step u (offset + 0) list k s) (at s p)) (sym is) (fill_does (offset + 0) others k s p to filled a b))))
  fill_does _ _ k s _ _ (words offset raw (suc left) stored others pc p to l is filled) a b =
      run_does s (at s pc) (suc pc) to offset raw left stored others k is (subst (λ v. Filled u c (offset + suc left) others v to) (sym l.1) filled) a b Running
      (moved c s pc (x ∷ cs) (i.Fill offset raw (suc left)) l.0)
  fill_does _ _ k s _ _ (characters offset from zero stored others pc p to low l is filled) a b =
      does_then u c (fill_step u offset stored k s) (at s pc) (at s (suc pc)) (once c _ _ (moved c s pc (x ∷ cs) (i.FillText offset from 0) l.0))
      (subst (λ v. Does u c (fill_step u offset stored k s) (at s v)) (sym l.1)
      (subst (λ n. Does u c (fill_step u n stored k s) (at s p)) (omega arith)
      (subst (λ list. Does u c (fill_step u (offset + 0) list k s) (at s p)) (sym is) (fill_does (offset + 0) others k s p to filled a b))))
  fill_does _ _ k s _ _ (characters offset from (suc left) stored others pc p to low l is filled) a b =
      text_does s (at s pc) (suc pc) to offset from left stored others k is (subst (λ v. Filled u c (offset + suc left) others v to) (sym l.1) filled) a b Running
      (moved c s pc (x ∷ cs) (i.FillText offset from (suc left)) l.0)

  -- the value of `++` and `--`
  value_of_step_is : (which : StepValue) (new old : Word) → source.value_of_step which new old ≡ machine.value_of_step which new old
  value_of_step_is Prefix new old = refl
  value_of_step_is Postfix new old = refl

  through_does : (s : State) (pc site : ℕ) (k : List Task) (w : Word) → move c (at s pc) ≡ machine.enters_through c (at s pc) w site →
      After c (Remains u c x k) (suc pc) → Called u c s.frames (x ∷ cs) → Does u c (source.enters_through u s w site k) (at s pc)
  through_does s pc site k (word.FunctionPointer function level) e a b =
      enters_do u c s pc (x ∷ cs) Running function site (suc pc) 1 k (slice_get u.functions function) (entry_of c function) refl refl (compiled.functions function) e
      (called_length u c s.frames (x ∷ cs) b) (called_more u c function site s.base (suc pc) 1 k s.frames x cs a b)
  through_does s pc site k word.Zero e a b = fails_do u c s (at s pc) (at s pc) NullCall e
  through_does s pc site k word.Undefined e a b = fails_do u c s (at s pc) (at s pc) NullCall e
  through_does s pc site k (word.Number bits) e a b = fails_do u c s (at s pc) (at s pc) NullCall e
  through_does s pc site k (word.DataPointer address) e a b = fails_do u c s (at s pc) (at s pc) NullCall e
  through_does s pc site k (word.Mutex holder) e a b = fails_do u c s (at s pc) (at s pc) NullCall e
  through_does s pc site k (word.Live count) e a b = fails_do u c s (at s pc) (at s pc) NullCall e
  through_does s pc site k (word.Freed count) e a b = fails_do u c s (at s pc) (at s pc) NullCall e

  load_does : (t : CType) (k : List Task) (s : State) (pc to : ℕ) → One c (i.LoadAs (served u t)) pc to → After c (Remains u c x k) to → Called u c s.frames (x ∷ cs) →
      Does u c (source.part_step u (LoadAs t) k s) (at s pc)
  load_does t k s pc to l a b =
      access_does u c s (at s pc) (at s pc) (accessed s.value) (λ address. asks (Load address) (λ raw. source.serve s (loaded u t raw) k))
      (λ address. asks (Load address) (λ raw. machine.serve c (at s pc) (served u t) (unpacked raw))) (moved c s pc (x ∷ cs) (i.LoadAs (served u t)) l.0)
      (λ address made. (
        at s pc,
        stay _,
        _,
        made,
        λ raw. serve_stays u c compiled s pc (x ∷ cs) t (unpacked raw) k
            (λ w. runs (record s { todo = k; value = w }) (suc pc) x cs (on_next c (Remains u c x k) pc to l.1 a) b),
      ))

  store_does : (t : CType) (k : List Task) (s : State) (pc to : ℕ) → One c (i.StoreAs (level_of t)) pc to → After c (Remains u c x k) to → Called u c s.frames (x ∷ cs) →
      Does u c (source.part_step u (StoreAs t) k s) (at s pc)
  store_does t k s pc to l a b =
      access_does u c s (at s pc) (at s pc) (accessed (held_at s.held 0)) (λ address. does (Store address (packed (written t s.value))) (record s { todo = k; held = drop 1 s.held }))
      (λ address. does (Store address (packed (machine.written_at (level_of t) s.value))) (record (at s pc) { pc = suc pc; held = drop 1 s.held }))
      (moved c s pc (x ∷ cs) (i.StoreAs (level_of t)) l.0)
      (λ address made. (
        at s pc,
        stay _,
        _,
        made ∙ ap (λ w. does (Store address (packed w)) (record (at s pc) { pc = suc pc; held = drop 1 s.held })) (sym (written_is t s.value)),
        λ raw. runs (record s { todo = k; held = drop 1 s.held }) (suc pc) x cs (on_next c (Remains u c x k) pc to l.1 a) b,
      ))

  store_step_does : (t : CType) (which : StepValue) (k : List Task) (s : State) (pc to : ℕ) → One c (i.StoreStep (level_of t) which) pc to → After c (Remains u c x k) to →
      Called u c s.frames (x ∷ cs) → Does u c (source.part_step u (StoreStep t which) k s) (at s pc)
  store_step_does t which k s pc to l a b =
      let old = held_at s.held 0 in
      let after : Word → Machine = λ w. record (at s pc) { pc = suc pc; value = w; held = drop 2 s.held } in
      access_does u c s (at s pc) (at s pc) (accessed (held_at s.held 1))
      (λ address. does (Store address (packed (written t s.value))) (record s { todo = k; value = source.value_of_step which s.value old; held = drop 2 s.held }))
      (λ address. does (Store address (packed (machine.written_at (level_of t) s.value))) (after (machine.value_of_step which s.value old)))
      (moved c s pc (x ∷ cs) (i.StoreStep (level_of t) which) l.0)
      (λ address made. (
        at s pc,
        stay _,
        _,
        made ∙ ap (λ w. does (Store address (packed w)) (after (machine.value_of_step which s.value old))) (sym (written_is t s.value))
            ∙ ap (λ w. does (Store address (packed (written t s.value))) (after w)) (sym (value_of_step_is which s.value old)),
        λ raw. runs (record s { todo = k; value = source.value_of_step which s.value old; held = drop 2 s.held }) (suc pc) x cs (on_next c (Remains u c x k) pc to l.1 a) b,
      ))

  pub part_does : (part : Part) (k : List Task) (s : State) (pc to : ℕ) → PartLies u c x (Leaves u c x k) (Repeats u c x k) part pc to → After c (Remains u c x k) to →
      Called u c s.frames (x ∷ cs) → Does u c (source.part_step u part k s) (at s pc)
  part_does (Value e) k s pc to l a b = value_does u c x cs e k s pc to l a b
  part_does (Address p) k s pc to l a b = address_does u c x cs compiled.statics p k s pc to l a b
  part_does Hold k s pc to l a b = holds_do s pc to k l a b (nat_lt (length s.held) held_limit) refl
  part_does (LoadAs t) k s pc to l a b = load_does t k s pc to l a b
  part_does (StoreAs t) k s pc to l a b = store_does t k s pc to l a b
  part_does (Retype t v) k s pc to l a b = still u c x cs s pc k (subst (After c (Remains u c x k)) (sym l) a) b
  part_does (Change operator) k s pc to l a b = finds_do s pc to k (i.Change operator) l a b (applied_to operator s.value) refl
  part_does (Apply operation t) k s pc to l a b = finds_of_held_do s pc to k (i.Apply operation) l a b (applied operation (held_at s.held 0) s.value) refl
  part_does (Advance operation t) k s pc to l a b = finds_do s pc to k (i.Advance operation) l a b (applied operation (held_at s.held 0) (word.Number 1)) refl
  part_does (StoreStep t which) k s pc to l a b = store_step_does t which k s pc to l a b
  part_does (Shift offset t) k s pc to l a b = finds_do s pc to k (i.Shift offset) l a b (member_of offset s.value) refl
  part_does (After_left operator e) k s pc to l a b = also_does operator e k s pc to l a b (is_true s.value) refl
  part_does Truth k s pc to l a b = sets u c x cs s pc to k (number (truth (is_true s.value))) i.Truth l refl a b
  part_does (Pick y z) k s pc to l a b = picks_do y z k s pc to l a b (is_true s.value) refl
  part_does (Branch item other) k s pc to l a b = branches_do item other k s l.0 l.1 pc to l.2 l.3 l.4 a b (is_true s.value) refl
  part_does (Fill offset stored) k s pc to l a b = fill_does offset stored k s pc to l a b
  part_does (Put offset t) k s pc to l a b =
      puts_do u c compiled.statics s (at s pc) (at s pc) (record (at s pc) { pc = suc pc }) offset (written t s.value) (packed (machine.written_at (level_of t) s.value)) k
      (moved c s pc (x ∷ cs) (i.Put offset (level_of t)) l.0) refl refl (ap packed (written_is t s.value))
      (runs (record s { todo = k }) (suc pc) x cs (on_next c (Remains u c x k) pc to l.1 a) b)
  part_does (Guard t) k s pc to l a b = guards_do s pc to (arguments_of t) k l a b (is_true (held_at s.held (arguments_of t))) refl
  part_does Check k s pc to l a b = (
    at s pc,
    stay _,
    _,
    moved c s pc (x ∷ cs) i.CheckHalt l.0,
    λ raw. checked_stays u c s (at s pc) (at s (suc pc)) k (nat_eq raw 0)
        (runs (record s { todo = k }) (suc pc) x cs (on_next c (Remains u c x k) pc to l.1 a) b),
  )
  part_does (Begin function site) k s pc to l a b =
      enters_do u c s pc (x ∷ cs) Running function site (suc pc) 0 k (slice_get u.functions function) (entry_of c function) refl refl (compiled.functions function)
      (moved c s pc (x ∷ cs) (i.EnterFunction function site) l.0)
      (called_length u c s.frames (x ∷ cs) b) (called_more u c function site s.base (suc pc) 0 k s.frames x cs (on_next c (Remains u c x k) pc to l.1 a) b)
  part_does (BeginThrough t site) k s pc to l a b =
      through_does s pc site k (held_at s.held (arguments_of t)) (moved c s pc (x ∷ cs) (i.EnterThrough (arguments_of t) site) l.0) (on_next c (Remains u c x k) pc to l.1 a) b
  part_does (Meet function site) k s pc to l a b = (
    at s pc,
    stay _,
    _,
    moved c s pc (x ∷ cs) (i.ReachFunction function) l.0.0 ∙ ap (λ n. does (Reach function n) (at s (suc pc))) (sym l.1),
    λ raw. runs (record s { todo = k }) (suc pc) x cs (on_next c (Remains u c x k) pc to l.0.1 a) b,
  )
  part_does (Bind offset back t) k s pc to l a b =
      let bound = held_at s.held back in
      puts_do u c compiled.statics s (at s pc) (at s pc) (record (at s pc) { pc = suc pc }) offset (written t bound) (packed (machine.written_at (level_of t) bound)) k
      (moved c s pc (x ∷ cs) (i.Bind offset back (level_of t)) l.0) refl refl (ap packed (written_is t bound))
      (runs (record s { todo = k }) (suc pc) x cs (on_next c (Remains u c x k) pc to l.1 a) b)
  part_does (Forget count) k s pc to l a b = (
    thread (record s { held = drop count s.held }) (suc pc) (x ∷ cs) Running,
    once c _ _ (moved c s pc (x ∷ cs) (i.Forget l.0) l.1.0 ∙ ap (λ n. Quiet (record (at s pc) { pc = suc pc; held = drop n s.held })) l.2),
    runs (record s { todo = k; held = drop count s.held }) (suc pc) x cs (on_next c (Remains u c x k) pc to l.1.1 a) b,
  )
  part_does (Arrive row site) k s pc to l a b = (
    at s pc,
    stay _,
    _,
    moved c s pc (x ∷ cs) (i.CallRow row site (count_of (row_type row))) l.0,
    λ raw. staged_stays u c (record s { held = drop (count_of (row_type row)) s.held }) (suc pc) x cs Running (value_type_of (row_type row)) k
        (on_next c (Remains u c x k) pc to l.1 a) b (call_begins row s.held),
  )
  part_does (In stage t) k s pc to l a b = absurd l
