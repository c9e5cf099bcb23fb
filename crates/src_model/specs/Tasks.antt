-- What remains to be done by a source thread.
use Rattle.std.specs.Prelude.{ℕ, List, Option}
use Rattle.arithmetic.specs.declared.operations.Operation.{Operation}
use Rattle.arithmetic.specs.declared.traps.TrapKind.{TrapKind}
use Rattle.core_unit.specs.Stores.{Stored}
use Rattle.core_unit.specs.declared.body.Stmt.{Stmt, Row_of-Stmt}
use Rattle.core_unit.specs.declared.expressions.Expr.{Expr}
use Rattle.core_unit.specs.declared.expressions.Place.{Place}
use Rattle.core_unit.specs.declared.operators.LogicalOperator.{LogicalOperator}
use Rattle.core_unit.specs.declared.operators.StepValue.{StepValue}
use Rattle.core_unit.specs.declared.operators.UnaryOperator.{UnaryOperator}
use Rattle.core_unit.specs.declared.words.Word.{Word}
use Rattle.eff_types.specs.declared.types.CType.{CType}
use Rattle.mcode.specs.declared.events.Finish.{Finish}
use Rattle.mcode.specs.declared.stages.Stage.{Stage}

-- A part of a statement or a call. It works on the value that was found last, and on the values that are held, the latest first. Types are the
-- static ones of what a part takes or gives; those in `Retype`, `Apply`, `Advance`, `Shift` and `In` change nothing that a thread does, and are read
-- by soundness alone.
pub data Part : Type 0 where
  -- find the value of an expression
  Value : Expr → Part
  -- find the address of a place
  Address : Place → Part
  Hold : Part
  -- from the address that was found
  LoadAs : CType → Part
  -- of the value, at the address that is held
  StoreAs : CType → Part
  -- the value takes another type and stays as it is
  Retype : (from to : CType) → Part
  Change : UnaryOperator → Part
  -- on the value that is held and the value
  Apply : Operation → (result : CType) → Part
  -- on the old value that is held, and 1
  Advance : Operation → (result : CType) → Part
  -- of the new value, at the address that is held below the old one
  StoreStep : CType → StepValue → Part
  -- a member of the object at the address that was found
  Shift : (offset : ℕ) → (member : CType) → Part
  -- after the left operand of `&&` or `||`
  Also : LogicalOperator → Expr → Part
  -- the value as 0 or 1
  Truth : Part
  -- after the condition of `?:`
  Pick : (a b : Expr) → Part
  -- after the condition of `if`
  Branch : {n : _} → Stmt → Row_of-Stmt n → Part
  -- the words of a block variable, from this offset of the frame on
  Fill : (offset : ℕ) → List Stored → Part
  -- of the value, at an offset of the frame
  Put : (offset : ℕ) → CType → Part
  -- a pointer of this type, held below the arguments, is called next
  Guard : CType → Part
  -- load the halt word
  Check : Part
  Begin : (function site : ℕ) → Part
  BeginThrough : CType → (site : ℕ) → Part
  -- reach a blocking function that was entered
  Meet : (function site : ℕ) → Part
  -- store a parameter, whose argument is so many places below the last one
  Bind : (offset back : ℕ) → CType → Part
  -- so many values are held no longer
  Forget : ℕ → Part
  -- reach a library function
  Arrive : (row site : ℕ) → Part
  -- a stage of a library call, whose value is of this type
  In : Stage → (result : CType) → Part

-- the loops (C17 6.8.5)
pub data Loop : Type 0 where
  While : Expr → Stmt → Loop
  DoWhile : Expr → Stmt → Loop
  For : (test step : Option Expr) → Stmt → Loop

-- What remains. `break` and `continue` pass over the statements before the end of a loop's body; a part never stands before those.
pub data Task : Type 0 where
  Now : Part → Task
  Do : Stmt → Task
  -- a turn of a loop begins
  Turn : Loop → Task
  -- after the condition of a loop
  Decide : Loop → Task
  -- the end of the body of a loop
  Again : Loop → Task
  -- the end of the body of a function with this result
  Fall : CType → Task
  Leaving : Task
  -- the first function of the thread was left
  Stop : (function : ℕ) → Task
  -- store the result of the thread, of this type
  Deliver : CType → Task
  -- tell that the thread has returned
  Tell : Task
  -- be trapped
  Fail : TrapKind → Task
  -- tell all threads to halt, and be finished then
  Halting : Finish → Task
  Finished : Finish → Task

-- A function that was entered and not yet left: what remains for its caller, and where the caller's frame stands on the stack.
pub record Frame : Type 0 where
  pub function : ℕ
  pub site : ℕ
  pub back : List Task
  pub base : ℕ

-- A thread: its number, what remains, the value that was found last, the values that are held, the functions that it is in, where the frame of
-- the latest one stands on the stack, and where the next one would. The latest stands first.
pub record State : Type 0 where
  pub number : ℕ
  pub todo : List Task
  pub value : Word
  pub held : List Word
  pub frames : List Frame
  pub base : ℕ
  pub top : ℕ
