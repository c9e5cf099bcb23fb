-- The code of statements and loops, and a thread as a whole, do what the source thread does.
use Rattle.std.proofs.Common.{◌≡◌, refl, sym, ap, ◌∙◌, subst, ℕ, suc, Bool, true, false, ◌||◌, List, [], ◌∷◌, Option, Some, None, if◌then◌else◌, nat_eq}
use Rattle.std.specs.Option.{option_map_or}
use Rattle.arithmetic.specs.Values.{is_true}
use Rattle.arithmetic.specs.declared.traps.TrapKind.TheVariants.{NoreturnReturned, NoValue}
use Rattle.core_unit.specs.declared.body.Initializer.{Initializer}
use Rattle.core_unit.specs.declared.body.LoopKind.TheVariants as loop_kind
use Rattle.core_unit.specs.declared.body.Stmt as stmt
use Rattle.core_unit.specs.declared.body.Stmt.{Stmt, Row_of-Stmt, end_of-Stmt, more_of-Stmt}
use Rattle.core_unit.specs.declared.expressions.Expr.{Expr}
use Rattle.core_unit.specs.declared.expressions.Storage.{Storage}
use Rattle.core_unit.specs.declared.expressions.Storage.TheVariants.{Automatic, Static, ThreadLocal}
use Rattle.core_unit.specs.declared.tables.UnitParts.{UnitParts}
use Rattle.core_unit.specs.declared.words.Word.TheVariants as word
use Rattle.eff_types.specs.Types.{is_void}
use Rattle.mcode.specs.Machine as machine
use Rattle.mcode.specs.Machine.{Program, Machine, entry_of, entry_on_top, move, act}
use Rattle.mcode.specs.Steps.{does}
use Rattle.mcode.specs.declared.code.Instruction.TheVariants as i
use Rattle.mcode.specs.declared.events.Ask.TheVariants.{Leave}
use Rattle.mcode.specs.declared.thread.Caller.{Caller}
use Rattle.mcode.specs.declared.thread.Mode.TheVariants.{Running}
use Rattle.src_model.specs.Rules as rules
use Rattle.src_model.specs.Rules.{all_tasks, variable_tasks, optional_tasks, statement_step}
use Rattle.src_model.specs.Source.{turn_tasks, decided_tasks, again_tasks, falls, leaves, is_main_in, is_noreturn_in, info_on_top, steps, step}
use Rattle.src_model.specs.Tasks.{Loop, While, DoWhile, For, Task, Now, Do, Turn, Decide, Again, Fall, Leaving, Stop, Deliver, Tell, Fail, Halting, Finished, State}
use Rattle.c_codegen.specs.Compiled.{Compiled}
use Rattle.c_codegen.specs.Lies.{Is, VariableLies, OptionalLies, Stands}
use Rattle.c_codegen.proofs.Expressions.{still, sets, goes_to}
use Rattle.c_codegen.proofs.Moves.{on_next, jumped, moved, once, fails_do, checked_stays, leaves_stays, leaves_behind, repeats_end, all_remain, called_known, called_top}
use Rattle.c_codegen.proofs.Parts.{part_does}
use Rattle.c_codegen.proofs.Standing.{here, After, HasTest, LoopLies, Remains, Leaves, Repeats, Called, thread, runs, stay, Does}

module _ (u : UnitParts) (c : Program) (compiled : Compiled u c) (x : Caller) (cs : List Caller) where
  abbrev at : State → ℕ → Machine
  at s pc = thread s pc (x ∷ cs) Running

  variable_does : (storage : Storage) (initializer : Initializer) (k : List Task) (s : State) (pc to : ℕ) → VariableLies u c storage initializer pc to →
      After c (Remains u c x k) to → Called u c s.frames (x ∷ cs) → Does u c (rules.goes s (variable_tasks storage initializer k)) (at s pc)
  variable_does (Automatic offset) initializer k s pc to l a b = still u c x cs s pc _ (pc, here pc, (to, l, a)) b
  variable_does (Static address) initializer k s pc to l a b = still u c x cs s pc k (subst (After c (Remains u c x k)) (sym l) a) b
  variable_does (ThreadLocal offset) initializer k s pc to l a b = still u c x cs s pc k (subst (After c (Remains u c x k)) (sym l) a) b

  statement_does : (item : Stmt) (k : List Task) (s : State) (out back pc to : ℕ) → Stands u c item out back pc to → Leaves u c x k out → Repeats u c x k back →
      After c (Remains u c x k) to → Called u c s.frames (x ∷ cs) → Does u c (statement_step item k s) (at s pc)
  unfolding Stands
  statement_does (stmt.Block' _ items) k s out back pc to l leaves repeats a b = still u c x cs s pc _ (all_remain u c x items k out back pc to l leaves repeats a) b
  statement_does (stmt.Variable v) k s out back pc to l leaves repeats a b = variable_does v.storage v.initializer k s pc to l a b
  statement_does stmt.Empty k s out back pc to l leaves repeats a b = still u c x cs s pc k (subst (After c (Remains u c x k)) (sym l) a) b
  statement_does (stmt.Expression e) k s out back pc to l leaves repeats a b = still u c x cs s pc _ (pc, here pc, (to, l, a)) b
  statement_does (stmt.If' e _ (more_of-Stmt item end_of-Stmt) _ other) k s out back pc to l leaves repeats a b =
      still u c x cs s pc _ (pc, here pc, (l.0, l.1, (l.0, here _, (to, (out, back, l.2, leaves, repeats), a)))) b
  statement_does (stmt.Loop' loop_kind.While e _ (more_of-Stmt body end_of-Stmt)) k s out back pc to l leaves repeats a b =
      still u c x cs s pc _ (pc, here pc, (l.0, l.1, to, l.2, a)) b
  statement_does (stmt.Loop' loop_kind.DoWhile e _ (more_of-Stmt body end_of-Stmt)) k s out back pc to l leaves repeats a b =
      still u c x cs s pc _ (pc, here pc, (l.0, l.1, to, l.2, a)) b
  statement_does (stmt.For' _ start test step _ (more_of-Stmt body end_of-Stmt)) k s out back pc to l leaves repeats a b =
      still u c x cs s pc _ (all_remain u c x start (Turn (For test step body) ∷ k) out back pc l.0 l.3 leaves repeats (l.0, here _, (l.1, l.2, to, l.4, a))) b
  statement_does stmt.Break k s out back pc to l leaves repeats a b =
      still u c x cs s pc _ (jumped c (Remains u c x (rules.behind_loop k)) pc out l.0 (leaves_behind u c x k out leaves)) b
  statement_does stmt.Continue k s out back pc to l leaves repeats a b =
      still u c x cs s pc _ (jumped c (Remains u c x (rules.end_of_body k)) pc back l.0 (repeats_end u c x k back repeats)) b
  statement_does (stmt.Return (Some e)) k s out back pc to l leaves repeats a b = still u c x cs s pc _ (pc, here pc, (l.0, l.1, (l.0, here _, l.2.0))) b
  statement_does (stmt.Return None) k s out back pc to l leaves repeats a b =
      sets u c x cs s pc l.0 (Leaving ∷ []) word.Zero (i.SetValue word.Zero) l.1 refl (l.0, here _, l.2.0) b

  -- Loops.

  -- a turn begins with a load of the halt word
  turn_checks : (loop : Loop) (top decision back out : ℕ) → LoopLies u c loop top decision back out → Is c top i.CheckHalt
  turn_checks (While e body) top decision back out l = l.0
  turn_checks (DoWhile e body) top decision back out l = l.0
  turn_checks (For test step body) top decision back out l = l.2

  turn_remains : (loop : Loop) (k : List Task) (top decision back out : ℕ) → LoopLies u c loop top decision back out → After c (Remains u c x k) out →
      After c (Remains u c x (turn_tasks loop k)) (suc top)
  turn_remains (While e body) k top decision back out l a =
      (suc top, here _, (decision, l.1, (decision, here _, (top, back, out, tt, l, a))))
  turn_remains (DoWhile e body) k top decision back out l a =
      let again : After c (Remains u c x (Again (DoWhile e body) ∷ k)) back = (back, here _, (top, decision, out, l, a)) in
      (suc top, here _, (out, back, back, l.1, a, again, again))
  turn_remains (For (Some e) step body) k top decision back out l a =
      (suc top, here _, (decision, l.3.0, (decision, here _, (top, back, out, tt, l, a))))
  turn_remains (For None step body) k top decision back out l a =
      let again : After c (Remains u c x (Again (For None step body) ∷ k)) back = (back, here _, (top, decision, out, l, a)) in
      subst (After c (Remains u c x (Do body ∷ Again (For None step body) ∷ k))) (sym l.3) (l.0, here _, (out, back, back, l.4, a, again, again))

  decides_do : (loop : Loop) (k : List Task) (s : State) (top pc back out : ℕ) → HasTest loop → LoopLies u c loop top pc back out → After c (Remains u c x k) out →
      Called u c s.frames (x ∷ cs) → (b : Bool) → is_true s.value ≡ b → Does u c (rules.goes s (if b then decided_tasks loop k else k)) (at s pc)
  decides_do (While e body) k s top pc back out has l a b true is =
      let again : After c (Remains u c x (Again (While e body) ∷ k)) back = (back, here _, (top, pc, out, l, a)) in
      goes_to u c x cs s pc (suc pc) _ (i.GoIfZero out) l.2 (ap (λ b. machine.goes (at s pc) (if b then suc pc else out)) is)
      (suc pc, here _, (out, back, back, l.3, a, again, again)) b
  decides_do (While e body) k s top pc back out has l a b false is =
      goes_to u c x cs s pc out _ (i.GoIfZero out) l.2 (ap (λ b. machine.goes (at s pc) (if b then suc pc else out)) is) a b
  decides_do (DoWhile e body) k s top pc back out has l a b true is =
      goes_to u c x cs s pc top _ (i.GoIfNotZero top) l.3.0 (ap (λ b. machine.goes (at s pc) (if b then top else suc pc)) is)
      (top, here _, (pc, back, out, l, a)) b
  decides_do (DoWhile e body) k s top pc back out has l a b false is =
      goes_to u c x cs s pc (suc pc) _ (i.GoIfNotZero top) l.3.0 (ap (λ b. machine.goes (at s pc) (if b then top else suc pc)) is)
      (on_next c (Remains u c x k) pc out l.3.1 a) b
  decides_do (For (Some e) step body) k s top pc back out has l a b true is =
      let again : After c (Remains u c x (Again (For (Some e) step body) ∷ k)) back = (back, here _, (top, pc, out, l, a)) in
      goes_to u c x cs s pc (suc pc) _ (i.GoIfZero out) l.3.1.0 (ap (λ b. machine.goes (at s pc) (if b then suc pc else out)) is)
      (on_next c (Remains u c x (Do body ∷ Again (For (Some e) step body) ∷ k)) pc l.0 l.3.1.1 (l.0, here _, (out, back, back, l.4, a, again, again))) b
  decides_do (For (Some e) step body) k s top pc back out has l a b false is =
      goes_to u c x cs s pc out _ (i.GoIfZero out) l.3.1.0 (ap (λ b. machine.goes (at s pc) (if b then suc pc else out)) is) a b
  decides_do (For None step body) k s top pc back out has l a b test is = absurd has

  optional_remains : (e : Option Expr) (k : List Task) (from to : ℕ) → OptionalLies u c e from to → After c (Remains u c x k) to → After c (Remains u c x (optional_tasks e k)) from
  optional_remains None k from to l a = subst (After c (Remains u c x k)) (sym l) a
  optional_remains (Some e) k from to l a = (from, here _, (to, l, a))

  again_remains : (loop : Loop) (k : List Task) (top decision back out : ℕ) → LoopLies u c loop top decision back out → After c (Remains u c x k) out →
      After c (Remains u c x (again_tasks loop k)) back
  again_remains (While e body) k top decision back out l a =
      jumped c (Remains u c x (Turn (While e body) ∷ k)) back top l.4.0 (top, here _, (decision, back, out, l, a))
  again_remains (DoWhile e body) k top decision back out l a = (back, here _, (decision, l.2, (decision, here _, (top, back, out, tt, l, a))))
  again_remains (For test step body) k top decision back out l a =
      optional_remains step (Turn (For test step body) ∷ k) back l.1 l.5
      (jumped c (Remains u c x (Turn (For test step body) ∷ k)) l.1 top l.6.0 (top, here _, (decision, back, out, l, a)))

  -- the end of a body is reached
  falls_do : (s : State) (pc : ℕ) → Is c pc i.FallOff → Is c (suc pc) i.LeaveFunction → Called u c s.frames (x ∷ cs) → (b : Bool) →
      act c (at s pc) i.FallOff ≡ (if b then machine.gives (at s pc) word.Zero else machine.fails (at s pc) NoValue) → Does u c (falls b s) (at s pc)
  falls_do s pc is leave b true e = (
    thread (record s { value = word.Zero }) (suc pc) (x ∷ cs) Running,
    once c _ _ (moved c s pc (x ∷ cs) i.FallOff is ∙ e),
    runs (record s { todo = Leaving ∷ []; value = word.Zero }) (suc pc) x cs (suc pc, here _, leave) b,
  )
  falls_do s pc is leave b false e = fails_do u c s (at s pc) (at s pc) NoValue (moved c s pc (x ∷ cs) i.FallOff is ∙ e)

  leaving_does : (s : State) (pc : ℕ) → Is c pc i.LeaveFunction → Called u c s.frames (x ∷ cs) → (b : Bool) →
      act c (at s pc) i.LeaveFunction ≡ (if b then machine.fails (at s pc) NoreturnReturned else does Leave (machine.leaves c (at s pc) (x ∷ cs))) →
      Does u c (if b then rules.fails s NoreturnReturned else does Leave (leaves s s.frames)) (at s pc)
  leaving_does s pc is b true e = fails_do u c s (at s pc) (at s pc) NoreturnReturned (moved c s pc (x ∷ cs) i.LeaveFunction is ∙ e)
  leaving_does s pc is b false e =
      (at s pc, stay _, _, moved c s pc (x ∷ cs) i.LeaveFunction is ∙ e, λ raw. leaves_stays u c s pc s.frames (x ∷ cs) b)

  noreturn_is : (s : State) → Called u c s.frames (x ∷ cs) → option_map_or (λ entry. entry.noreturn) (entry_of c x.function) false ≡ is_noreturn_in (info_on_top u s.frames)
  noreturn_is s b =
      let known = called_known u c s.frames x cs b in
      ap (λ e. option_map_or (λ entry. entry.noreturn) e false) known.entry ∙ sym (ap is_noreturn_in (called_top u c s.frames x cs b ∙ known.listed))

  pub remains_do : (todo : List Task) (s : State) (pc : ℕ) → Remains u c x todo pc → Called u c s.frames (x ∷ cs) → Does u c (steps u todo s) (at s pc)
  remains_do [] s pc l b = absurd l
  remains_do (Now part ∷ k) s pc l b = part_does u c compiled x cs part k s pc l.0 l.1 l.2 b
  remains_do (Do item ∷ k) s pc l b = statement_does item k s l.0 l.1 pc l.2 l.3 l.4 l.5 l.6 b
  remains_do (Turn loop ∷ k) s pc l b = (
    at s pc,
    stay _,
    _,
    moved c s pc (x ∷ cs) i.CheckHalt (turn_checks loop pc l.0 l.1 l.2 l.3),
    λ raw. checked_stays u c s (at s pc) (at s (suc pc)) (turn_tasks loop k) (nat_eq raw 0)
        (runs (record s { todo = turn_tasks loop k }) (suc pc) x cs (turn_remains loop k pc l.0 l.1 l.2 l.3 l.4) b),
  )
  remains_do (Decide loop ∷ k) s pc l b = decides_do loop k s l.0 pc l.1 l.2 l.3 l.4 l.5 b (is_true s.value) refl
  remains_do (Again loop ∷ k) s pc l b = still u c x cs s pc _ (again_remains loop k l.0 l.1 pc l.2 l.3 l.4) b
  remains_do (Fall t ∷ k) s pc l b =
      falls_do s pc l.0 l.1 b (is_void t || is_main_in (info_on_top u s.frames))
      (ap (λ b. if b then machine.gives (at s pc) word.Zero else machine.fails (at s pc) NoValue)
      (l.2 ∙ ap (λ g. is_void t || is_main_in g) (sym (called_top u c s.frames x cs b))))
  remains_do (Leaving ∷ k) s pc l b =
      leaving_does s pc l b (is_noreturn_in (info_on_top u s.frames))
      (ap (λ b. if b then machine.fails (at s pc) NoreturnReturned else does Leave (machine.leaves c (at s pc) (x ∷ cs))) (noreturn_is s b))
  remains_do (Stop function ∷ k) s pc l b = absurd l
  remains_do (Deliver t ∷ k) s pc l b = absurd l
  remains_do (Tell ∷ k) s pc l b = absurd l
  remains_do (Fail kind ∷ k) s pc l b = absurd l
  remains_do (Halting finish ∷ k) s pc l b = absurd l
  remains_do (Finished finish ∷ k) s pc l b = absurd l
