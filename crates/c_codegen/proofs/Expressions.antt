-- The code of expressions, places and parts does what the source thread does.
use Rattle.std.proofs.Common.{◌≡◌, refl, sym, ap, ◌∙◌, subst, ℕ, suc, ◌+◌, List, ◌∷◌, length}
use Rattle.arithmetic.specs.Values.{number}
use Rattle.core_unit.specs.Places.{callee, Callee, Named, Row, Through}
use Rattle.core_unit.specs.Shapes.{level_of}
use Rattle.core_unit.specs.Typing.{type_of}
use Rattle.core_unit.specs.declared.expressions.Expr as expr
use Rattle.core_unit.specs.declared.expressions.Expr.{Expr, Row_of-Expr, end_of-Expr, more_of-Expr, end_of-Place, more_of-Place}
use Rattle.core_unit.specs.declared.expressions.Place as place
use Rattle.core_unit.specs.declared.expressions.Place.{Place}
use Rattle.core_unit.specs.declared.expressions.Storage.TheVariants.{Automatic, Static, ThreadLocal}
use Rattle.core_unit.specs.declared.tables.UnitParts.{UnitParts}
use Rattle.core_unit.specs.declared.words.Word.{Word}
use Rattle.core_unit.specs.declared.words.Word.TheVariants as word
use Rattle.mcode.specs.Machine as machine
use Rattle.mcode.specs.Machine.{Program, Machine, entry_of, move, act, filling, spelling}
use Rattle.mcode.specs.Memory.{stack_of, region_of}
use Rattle.mcode.specs.declared.code.Instruction.{Instruction}
use Rattle.mcode.specs.declared.code.Instruction.TheVariants as i
use Rattle.mcode.specs.declared.thread.Caller.{Caller}
use Rattle.mcode.specs.declared.thread.Mode.TheVariants.{Running}
use Rattle.src_model.specs.Rules as rules
use Rattle.src_model.specs.Rules.{before, arguments, call_tasks, value_step, address_step, variable_address}
use Rattle.src_model.specs.Tasks.{Task, State}
use Rattle.c_codegen.specs.Lies.{Is, One, Calls, PlaceLies, Lies, ArgumentsLie}
use Rattle.c_codegen.proofs.Moves.{on_next, moved, once}
use Rattle.c_codegen.proofs.Standing.{here, After, Remains, Called, thread, runs, stay, Does}

module _ (u : UnitParts) (c : Program) (x : Caller) (cs : List Caller) where
  -- the source thread goes on, and the code needs no instruction
  pub still : (s : State) (pc : ℕ) (k : List Task) → After c (Remains u c x k) pc → Called u c s.frames (x ∷ cs) → Does u c (rules.goes s k) (thread s pc (x ∷ cs) Running)
  still s pc k a b = (thread s pc (x ∷ cs) Running, stay _, runs (record s { todo = k }) pc x cs a b)

  -- an instruction gives a value
  pub sets : (s : State) (pc to : ℕ) (k : List Task) (w : Word) (code : Instruction) → One c code pc to → act c (thread s pc (x ∷ cs) Running) code ≡ machine.gives (thread s pc (x ∷ cs) Running) w →
      After c (Remains u c x k) to → Called u c s.frames (x ∷ cs) → Does u c (rules.gives s w k) (thread s pc (x ∷ cs) Running)
  sets s pc to k w code l e a b = (
    thread (record s { value = w }) (suc pc) (x ∷ cs) Running,
    once c _ _ (moved c s pc (x ∷ cs) code l.0 ∙ e),
    runs (record s { todo = k; value = w }) (suc pc) x cs (on_next c (Remains u c x k) pc to l.1 a) b,
  )

  -- a jump by the value
  pub goes_to : (s : State) (pc place : ℕ) (k : List Task) (code : Instruction) → Is c pc code → act c (thread s pc (x ∷ cs) Running) code ≡ machine.goes (thread s pc (x ∷ cs) Running) place →
      After c (Remains u c x k) place → Called u c s.frames (x ∷ cs) → Does u c (rules.goes s k) (thread s pc (x ∷ cs) Running)
  goes_to s pc place k code is e a b =
      (thread s place (x ∷ cs) Running, once c _ _ (moved c s pc (x ∷ cs) code is ∙ e), runs (record s { todo = k }) place x cs a b)

  arguments_remain : {n : _} (es : Row_of-Expr n) (k : List Task) (from to : ℕ) → ArgumentsLie u c es from to → After c (Remains u c x k) to → After c (Remains u c x (arguments es k)) from
  unfolding Lies
  arguments_remain end_of-Expr k from to l a = subst (After c (Remains u c x k)) (sym l) a
  arguments_remain (more_of-Expr e es) k from to l a =
      (from, here from, (l.0, l.2, (l.0, here _, (l.1, l.3, arguments_remain es k l.1 to l.4 a))))

  call_does : {n : _} (called : Callee) (e : Expr) (site : ℕ) (es : Row_of-Expr n) (k : List Task) (s : State) (pc to : ℕ) →
      Calls c called (type_of e) site (Lies u c e) (ArgumentsLie u c es) pc to → After c (Remains u c x k) to → Called u c s.frames (x ∷ cs) →
      Does u c (rules.goes s (call_tasks called e site es k)) (thread s pc (x ∷ cs) Running)
  call_does (Named function) e site es k s pc to l a b =
      still s pc _ (arguments_remain es _ pc l.0 l.2 (l.0, here _, (l.1, l.3, (l.1, here _, (to, l.4, a))))) b
  call_does (Row row) e site es k s pc to l a b =
      still s pc _ (arguments_remain es _ pc l.0 l.2 (l.0, here _, (l.1, l.3, (l.1, here _, (to, l.4, a))))) b
  call_does (Through signature) e site es k s pc to l a b =
      still s pc _ (
        pc,
        here pc,
        (
          l.0,
          l.5,
          (
            l.0,
            here _,
            (
              l.1,
              l.6,
              arguments_remain es _ l.1 l.2 l.7 (l.2, here _, (l.3, l.8, (l.3, here _, (l.4, l.9, (l.4, here _, (to, l.10, a)))))),
            ),
          ),
        ),
      ) b

  pub value_does : (e : Expr) (k : List Task) (s : State) (pc to : ℕ) → Lies u c e pc to → After c (Remains u c x k) to → Called u c s.frames (x ∷ cs) → Does u c (value_step e k s) (thread s pc (x ∷ cs) Running)
  unfolding Lies
  value_does (expr.Number sign bits) k s pc to l a b = sets s pc to k (number bits) (i.SetValue (number bits)) l refl a b
  value_does expr.Null k s pc to l a b = sets s pc to k word.Zero (i.SetValue word.Zero) l refl a b
  value_does (expr.Sizeof count) k s pc to l a b = sets s pc to k (number count) (i.SetValue (number count)) l refl a b
  value_does (expr.Function function t) k s pc to l a b =
      sets s pc to k (word.FunctionPointer function (level_of t)) (i.SetValue (word.FunctionPointer function (level_of t))) l refl a b
  value_does (expr.LibraryFunction row) k s pc to l a b = sets s pc to k word.Zero (i.SetValue word.Zero) l refl a b
  value_does (expr.TargetFunction' _ (more_of-Expr e end_of-Expr)) k s pc to l a b = still s pc _ (pc, here pc, (to, l, (to, here to, (to, refl, a)))) b
  value_does (expr.FunctionPointer' _ (more_of-Expr e end_of-Expr)) k s pc to l a b = still s pc _ (pc, here pc, (to, l, (to, here to, (to, refl, a)))) b
  value_does (expr.ArrayPointer' _ (more_of-Place p end_of-Place)) k s pc to l a b = still s pc _ (pc, here pc, (to, l, (to, here to, (to, refl, a)))) b
  value_does (expr.AddressOf' _ (more_of-Place p end_of-Place)) k s pc to l a b = still s pc _ (pc, here pc, (to, l, a)) b
  value_does (expr.Load' _ (more_of-Place p end_of-Place)) k s pc to l a b = still s pc _ (pc, here pc, (l.0, l.1, (l.0, here _, (to, l.2, a)))) b
  value_does (expr.Assign' _ (more_of-Place p end_of-Place) _ (more_of-Expr e end_of-Expr)) k s pc to l a b =
      still s pc _ (pc, here pc, (l.0, l.3, (l.0, here _, (l.1, l.4, (l.1, here _, (l.2, l.5, (l.2, here _, (to, l.6, a)))))))) b
  value_does (expr.Compound' _ (more_of-Place p end_of-Place) how _ (more_of-Expr e end_of-Expr)) k s pc to l a b =
      still s pc _ (
        pc,
        here pc,
        (
          l.0,
          l.6,
          (
            l.0,
            here _,
            (
              l.1,
              l.7,
              (
                l.1,
                here _,
                (
                  l.2,
                  l.8,
                  (
                    l.2,
                    here _,
                    (
                      l.3,
                      l.9,
                      (
                        l.3,
                        here _,
                        (
                          l.4,
                          l.10,
                          (l.4, here _, (l.5, l.11, (l.5, here _, (to, l.12, a)))),
                        ),
                      ),
                    ),
                  ),
                ),
              ),
            ),
          ),
        ),
      ) b
  value_does (expr.Step' _ (more_of-Place p end_of-Place) how which) k s pc to l a b =
      still s pc _ (
        pc,
        here pc,
        (
          l.0,
          l.5,
          (
            l.0,
            here _,
            (
              l.1,
              l.6,
              (
                l.1,
                here _,
                (
                  l.2,
                  l.7,
                  (
                    l.2,
                    here _,
                    (
                      l.3,
                      l.8,
                      (
                        l.3,
                        here _,
                        (
                          l.4,
                          l.9,
                          (l.4, here _, (to, l.10, a)),
                        ),
                      ),
                    ),
                  ),
                ),
              ),
            ),
          ),
        ),
      ) b
  value_does (expr.Unary' operator _ (more_of-Expr e end_of-Expr)) k s pc to l a b = still s pc _ (pc, here pc, (l.0, l.1, (l.0, here _, (to, l.2, a)))) b
  value_does (expr.Binary' operator _ (more_of-Expr y end_of-Expr) _ (more_of-Expr z end_of-Expr)) k s pc to l a b =
      still s pc _ (pc, here pc, (l.0, l.3, (l.0, here _, (l.1, l.4, (l.1, here _, (l.2, l.5, (l.2, here _, (to, l.6, a)))))))) b
  value_does (expr.Logical' operator _ (more_of-Expr y end_of-Expr) _ (more_of-Expr z end_of-Expr)) k s pc to l a b =
      still s pc _ (pc, here pc, (l.0, l.1, (l.0, here _, (to, l.2, a)))) b
  value_does (expr.Conditional' _ (more_of-Expr t end_of-Expr) _ (more_of-Expr y end_of-Expr) _ (more_of-Expr z end_of-Expr)) k s pc to l a b =
      still s pc _ (pc, here pc, (l.0, l.1, (l.0, here _, (to, l.2, a)))) b
  value_does (expr.Comma' _ (more_of-Expr y end_of-Expr) _ (more_of-Expr z end_of-Expr)) k s pc to l a b =
      still s pc _ (pc, here pc, (l.0, l.1, (l.0, here _, (to, l.2, a)))) b
  value_does (expr.Call' at site _ (more_of-Expr e end_of-Expr) _ es) k s pc to l a b = call_does (callee e) e site es k s pc to l a b
  value_does (expr.Convert' why t _ (more_of-Expr e end_of-Expr)) k s pc to l a b = still s pc _ (pc, here pc, (to, l, (to, here to, (to, refl, a)))) b
  value_does (expr.Discard' _ (more_of-Expr e end_of-Expr)) k s pc to l a b = still s pc _ (pc, here pc, (to, l, (to, here to, (to, refl, a)))) b

  pub address_does : c.static_words ≡ length u.static_words → (p : Place) (k : List Task) (s : State) (pc to : ℕ) → PlaceLies u c p pc to → After c (Remains u c x k) to →
      Called u c s.frames (x ∷ cs) → Does u c (address_step u p k s) (thread s pc (x ∷ cs) Running)
  unfolding Lies
  address_does statics (place.Variable at (Automatic offset) t) k s pc to l a b =
      sets s pc to k _ (i.SetLocal offset) l (ap (λ n. machine.gives (thread s pc (x ∷ cs) Running) (word.DataPointer (stack_of n s.number + s.base + offset))) statics) a b
  address_does statics (place.Variable at (Static address) t) k s pc to l a b = sets s pc to k _ (i.SetValue (word.DataPointer address)) l refl a b
  address_does statics (place.Variable at (ThreadLocal offset) t) k s pc to l a b =
      sets s pc to k _ (i.SetThreadLocal offset) l (ap (λ n. machine.gives (thread s pc (x ∷ cs) Running) (word.DataPointer (region_of n s.number + offset))) statics) a b
  address_does statics (place.Text at count) k s pc to l a b = sets s pc to k _ (i.SetValue (word.DataPointer at)) l refl a b
  address_does statics (place.Indirection' _ (more_of-Expr e end_of-Expr) t) k s pc to l a b = still s pc _ (pc, here pc, (to, l, a)) b
  address_does statics (place.Arrow' _ (more_of-Expr e end_of-Expr) structure) k s pc to l a b = still s pc _ (pc, here pc, (to, l, a)) b
  address_does statics (place.Element' _ (more_of-Expr y end_of-Expr) _ (more_of-Expr z end_of-Expr) side count t) k s pc to l a b =
      still s pc _ (pc, here pc, (l.0, l.3, (l.0, here _, (l.1, l.4, (l.1, here _, (l.2, l.5, (l.2, here _, (to, l.6, a)))))))) b
  address_does statics (place.Member' _ (more_of-Place p end_of-Place) offset t) k s pc to l a b = still s pc _ (pc, here pc, (l.0, l.1, (l.0, here _, (to, l.2, a)))) b
