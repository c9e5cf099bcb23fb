-- Assignments and steps, and what is reached through pointers, elements and members, add no level but where a conversion is warned of.
use Rattle.std.proofs.Common.{ℕ, Bool, true, false, List, Option, Some, None}
use Rattle.std.specs.Prelude.{not, ◌&&◌, ◌||◌, if◌then◌else◌, slice_get}
use Rattle.eff_types.specs.Types.{is_number, is_function, is_function_pointer}
use Rattle.eff_types.specs.declared.types.CType.{CType, Unsigned, Struct}
use Rattle.c_tree.specs.declared.expressions.AccessOperator.{AccessOperator}
use Rattle.c_tree.specs.declared.expressions.AccessOperator.TheVariants.{Dot, Arrow}
use Rattle.c_tree.specs.declared.expressions.AssignmentOperator.{AssignmentOperator}
use Rattle.c_tree.specs.declared.expressions.AssignmentOperator.TheVariants as written
use Rattle.c_tree.specs.declared.words.Span.{Span}
use Rattle.core_unit.specs.Levels.{Keeps}
use Rattle.core_unit.specs.Typed.{is_shift}
use Rattle.core_unit.specs.Shapes.{is_scalar, is_object_pointer, target_of, pointer_to}
use Rattle.core_unit.specs.declared.expressions.Expr.{Expr}
use Rattle.core_unit.specs.declared.expressions.Expr.TheVariants as expr
use Rattle.core_unit.specs.declared.expressions.Place.{Place}
use Rattle.core_unit.specs.declared.expressions.Place.TheVariants as object
use Rattle.core_unit.specs.declared.operators.ArithmeticOperator.{ArithmeticOperator}
use Rattle.core_unit.specs.declared.operators.ArithmeticOperator.TheVariants as arithmetic
use Rattle.core_unit.specs.declared.operators.PointerSide.TheVariants.{Left, Right}
use Rattle.core_unit.specs.declared.operators.Sign.{Sign}
use Rattle.core_unit.specs.declared.operators.StepValue.{StepValue}
use Rattle.core_unit.specs.declared.operators.StepValue.TheVariants.{Prefix, Postfix}
use Rattle.core_unit.specs.declared.operators.Update.TheVariants as update
use Rattle.core_unit.specs.declared.tables.FunctionInfo.{FunctionInfo}
use Rattle.core_unit.specs.declared.tables.MemberInfo.{MemberInfo}
use Rattle.core_unit.specs.declared.tables.StructInfo.{StructInfo}
use Rattle.type_rules.specs.Access.{indirection, element_as, element, member_at, index_of, member_of_all, known_members, member, member_of_object, member_of_target, access, address_of, address, unevaluated, size, size_of_expression, size_of_type}
use Rattle.type_rules.specs.Assignments.{plain_assignment, moved_pointer, is_moved, is_pointer_first, moved_by, stride_of, update_sign, update_operand, number_update, pointer_update, compound_assignment, assigned_by, assignment, is_stepped, step_update, stepped_as, step}
use Rattle.type_rules.specs.Conversions.{converted}
use Rattle.type_rules.specs.Operands.{found_value, found_object, promoted, in_sign, operand, lvalue, is_whole}
use Rattle.type_rules.specs.Operators.{pair_of, stride}
use Rattle.type_rules.specs.Reading.{Read, and_then}
use Rattle.type_rules.specs.Seen.{Seen}
use Rattle.type_rules.specs.Types.{is_incomplete}
use Rattle.type_rules.specs.declared.found.Form.{Form}
use Rattle.type_rules.specs.declared.found.Form.TheVariants.{Lvalue, Value}
use Rattle.type_rules.specs.declared.found.Found.{Found}
use Rattle.type_rules.specs.declared.found.Operand.{Operand}
use Rattle.type_rules.specs.declared.found.Pair.{Pair}
use Rattle.type_rules.specs.declared.found.Pair.TheVariants.{Numbers, PointerFirst, PointerSecond, Pointers, Others}
use Rattle.type_laws.proofs.Quiet.{Always, Anything, Quiet, Quietly, then_quiet, gives_quiet, moves_quiet, fails_quiet, refused_quiet, either_quiet}
use Rattle.type_laws.proofs.QuietConversions.{QuietOperand, converted_quiet}
use Rattle.type_laws.proofs.QuietNodes.{Object, object-Indirection, object-Element, object-Member, object-Arrow, node-Assign, node-Compound, node-Step, node-TargetFunction, node-AddressOf, node-FunctionPointer, node-Sizeof}
use Rattle.type_laws.proofs.QuietOperands.{QuietForm, QuietFound, operand_quiet, lvalue_quiet, promoted_quiet, in_sign_quiet}
use Rattle.type_laws.proofs.QuietOperations.{stride_quiet}
use Rattle.type_laws.proofs.Types.{not_refused}

module _ (pre : List FunctionInfo → Type 0) (s : Seen) (left : Found) (o : Operand) (ql : (u : List FunctionInfo) → pre u → QuietFound left u)
    (qo : (u : List FunctionInfo) → pre u → QuietOperand o u) where
  plain_quiet : (place : ℕ) → Quiet pre QuietFound s (plain_assignment place left o s)
  unfolding plain_assignment
  plain_quiet place =
      refused_quiet s (not (is_scalar left.kind)) 3 left.place _ (λ scalar.
      then_quiet s (lvalue left s) _ (lvalue_quiet pre s left ql) (λ target t.
      then_quiet t (converted left.kind o t) _ (converted_quiet _ t left.kind o (λ u p. qo u p.0)) (λ v w.
      gives_quiet w (found_value place left.kind _) (λ u ends p. node-Assign u left.kind target v.node p.0.1 p.1.node.keeps))))

  update_keeps : (u : List FunctionInfo) (operator : ArithmeticOperator) (sign : Sign) → QuietOperand o u → Keeps (update_operand operator sign o).node
  update_keeps u operator sign h = of (is_shift operator)
    where
      of : (test : Bool) → Keeps (if test then promoted o else in_sign sign o).node
      of true = (promoted_quiet o h.node).keeps
      of false = (in_sign_quiet sign o h.node).keeps

  number_quiet : (place : ℕ) (operator : ArithmeticOperator) → Quiet pre QuietFound s (number_update place operator left o s)
  unfolding number_update
  number_quiet place operator =
      then_quiet s (lvalue left s) _ (lvalue_quiet pre s left ql) (λ target t.
      gives_quiet t (found_value place left.kind _) (λ u ends p.
      let sign = update_sign operator left.kind o.kind in
      node-Compound u left.kind target (update.Arithmetic operator sign) (update_operand operator sign o).node p.1 (update_keeps u operator sign (qo u p.0))))

  stride_of_quiet : (pre' : List FunctionInfo → Type 0) (t : Seen) (place : ℕ) (pointer : Option CType) → Quiet pre' Anything t (stride_of place pointer t)
  stride_of_quiet pre' t place (Some pointer) = stride_quiet pre' t place pointer
  stride_of_quiet pre' t place None = fails_quiet t 3 place

  pointer_quiet : (place : ℕ) (operator : ArithmeticOperator) → Quiet pre QuietFound s (pointer_update place operator left o s)
  unfolding pointer_update
  pointer_quiet place operator =
      refused_quiet s (not (is_moved (moved_pointer operator left.kind o.kind (pair_of left.kind o.kind)))) 3 left.place _ (λ moves.
      then_quiet s (lvalue left s) _ (lvalue_quiet pre s left ql) (λ target t.
      then_quiet t (stride_of left.place (moved_pointer operator left.kind o.kind (pair_of left.kind o.kind)) t) _ (stride_of_quiet _ t left.place _) (λ words v.
      refused_quiet v (not (is_pointer_first (pair_of left.kind o.kind))) 11 left.place _ (λ first.
      gives_quiet v (found_value place left.kind _) (λ u ends p.
      node-Compound u left.kind target (moved_by operator words) (promoted o).node p.0.1 (promoted_quiet o (qo u p.0.0).node).keeps)))))

  compound_quiet : (place : ℕ) (operator : ArithmeticOperator) → Quiet pre QuietFound s (compound_assignment place operator left o s)
  unfolding compound_assignment
  compound_quiet place operator =
      either_quiet s (is_number left.kind && is_number o.kind) _ _ (λ e. number_quiet place operator) (λ e. pointer_quiet place operator)

  assigned_quiet : (place : ℕ) (operator : AssignmentOperator) → Quiet pre QuietFound s (assigned_by place operator left o s)
  assigned_quiet place written.Plain = plain_quiet place
  assigned_quiet place written.Multiply = compound_quiet place arithmetic.Multiply
  assigned_quiet place written.Divide = compound_quiet place arithmetic.Divide
  assigned_quiet place written.Remainder = compound_quiet place arithmetic.Remainder
  assigned_quiet place written.Add = compound_quiet place arithmetic.Add
  assigned_quiet place written.Subtract = compound_quiet place arithmetic.Subtract
  assigned_quiet place written.LeftShift = compound_quiet place arithmetic.LeftShift
  assigned_quiet place written.RightShift = compound_quiet place arithmetic.RightShift
  assigned_quiet place written.And = compound_quiet place arithmetic.And
  assigned_quiet place written.ExclusiveOr = compound_quiet place arithmetic.ExclusiveOr
  assigned_quiet place written.Or = compound_quiet place arithmetic.Or

pub assignment_quiet : (place : ℕ) (operator : AssignmentOperator) (left_read right_read : Seen → Read Found) → Quietly QuietFound left_read
    → Quietly QuietFound right_read → Quietly QuietFound (assignment place operator left_read right_read)
unfolding assignment
assignment_quiet place operator left_read right_read first second s =
    then_quiet s (left_read s) _ (first s) (λ left t.
    refused_quiet t (is_whole left.kind) 3 left.place _ (λ whole.
    then_quiet t (operand right_read t) _ (operand_quiet _ t right_read second) (λ o v.
    assigned_quiet _ v left o (λ u p. p.0.1) (λ u p. p.1) place operator)))

step_update_quiet : (pre : List FunctionInfo → Type 0) (s : Seen) (place : ℕ) (operator : ArithmeticOperator) (t : CType)
    → Quiet pre Anything s (step_update place operator t s)
unfolding step_update
step_update_quiet pre s place operator t =
    either_quiet s (is_number t) _ _ (λ e. gives_quiet s _ (λ u ends p. tt)) (λ e.
    then_quiet s (stride place t s) _ (stride_quiet pre s place t) (λ words v. gives_quiet v _ (λ u ends p. tt)))

stepped_as_quiet : (pre : List FunctionInfo → Type 0) (s : Seen) (place : ℕ) (operator : ArithmeticOperator) (v : StepValue) (f : Found)
    → ((u : List FunctionInfo) → pre u → QuietFound f u) → Quiet pre QuietFound s (stepped_as place operator v f s)
stepped_as_quiet pre s place operator Prefix f qf =
    then_quiet s (step_update place operator f.kind s) _ (step_update_quiet pre s place operator f.kind) (λ how t.
    then_quiet t (lvalue f t) _ (lvalue_quiet _ t f (λ u p. qf u p.0)) (λ target v.
    gives_quiet v (found_value place f.kind _) (λ u ends p. node-Step u f.kind target how Prefix p.1)))
stepped_as_quiet pre s place operator Postfix f qf =
    then_quiet s (lvalue f s) _ (lvalue_quiet pre s f qf) (λ target t.
    then_quiet t (step_update place operator f.kind t) _ (step_update_quiet _ t place operator f.kind) (λ how v.
    gives_quiet v (found_value place f.kind _) (λ u ends p. node-Step u f.kind target how Postfix p.0.1)))

pub step_quiet : (place : ℕ) (operator : ArithmeticOperator) (v : StepValue) (expression : Seen → Read Found) → Quietly QuietFound expression
    → Quietly QuietFound (step place operator v expression)
unfolding step
step_quiet place operator v expression keeps s =
    then_quiet s (expression s) _ (keeps s) (λ f t.
    refused_quiet t (is_whole f.kind) 3 f.place _ (λ whole.
    refused_quiet t (not (is_stepped f.kind)) 3 place _ (λ steps.
    stepped_as_quiet _ t place operator v f (λ u p. p.1))))

pub indirection_quiet : (place : ℕ) (expression : Seen → Read Found) → Quietly QuietFound expression → Quietly QuietFound (indirection place expression)
unfolding indirection
indirection_quiet place expression keeps s =
    then_quiet s (operand expression s) _ (operand_quiet Always s expression keeps) (λ o t.
    refused_quiet t (not (is_object_pointer o.kind || is_function_pointer o.kind)) 3 place _ (λ e.
    gives_quiet t _ (λ u ends p. of u o (is_function_pointer o.kind) p.1)))
  where
    of : (u : List FunctionInfo) (o : Operand) (test : Bool) → QuietOperand o u
        → QuietFound (if test then found_value place (target_of o.kind) (expr.TargetFunction o.node) else found_object place (target_of o.kind) (object.Indirection o.node (target_of o.kind))) u
    of u o true h = node-TargetFunction u o.kind o.node h.node
    of u o false h = object-Indirection o.node (target_of o.kind) h.node.keeps

module _ (pre : List FunctionInfo → Type 0) (s : Seen) (a b : Operand) (qa : (u : List FunctionInfo) → pre u → QuietOperand a u)
    (qb : (u : List FunctionInfo) → pre u → QuietOperand b u) where
  element_as_quiet : (place : ℕ) (pair : Pair) → Quiet pre QuietFound s (element_as place a b pair s)
  element_as_quiet place PointerFirst =
      then_quiet s (stride place a.kind s) _ (stride_quiet pre s place a.kind) (λ words t.
      gives_quiet t (found_object place (target_of a.kind) _) (λ u ends p.
      object-Element a.node (promoted b).node Left words (target_of a.kind) (qa u p.0).node.keeps (promoted_quiet b (qb u p.0).node).keeps))
  element_as_quiet place PointerSecond =
      then_quiet s (stride place b.kind s) _ (stride_quiet pre s place b.kind) (λ words t.
      gives_quiet t (found_object place (target_of b.kind) _) (λ u ends p.
      object-Element (promoted a).node b.node Right words (target_of b.kind) (promoted_quiet a (qa u p.0).node).keeps (qb u p.0).node.keeps))
  element_as_quiet place Numbers = fails_quiet s 3 place
  element_as_quiet place Pointers = fails_quiet s 3 place
  element_as_quiet place Others = fails_quiet s 3 place

pub element_quiet : (place : ℕ) (array index : Seen → Read Found) → Quietly QuietFound array → Quietly QuietFound index
    → Quietly QuietFound (element place array index)
unfolding element
element_quiet place array index first second s =
    then_quiet s (operand array s) _ (operand_quiet Always s array first) (λ a t.
    then_quiet t (operand index t) _ (operand_quiet _ t index second) (λ b v.
    element_as_quiet _ v a b (λ u p. p.0.1) (λ u p. p.1) place (pair_of a.kind b.kind)))

module _ (pre : List FunctionInfo → Type 0) (s : Seen) (place : ℕ) (base : Place) (t : CType) (qb : (u : List FunctionInfo) → pre u → Object t base) where
  member_at_quiet : (structures : List StructInfo) (members : List MemberInfo) (index : ℕ) (m : Option MemberInfo) (at : ℕ)
      → Quiet pre QuietFound s (member_at place base structures members index m at s)
  member_at_quiet structures members index (Some m) at =
      gives_quiet s (found_object place m.kind _) (λ u ends p. object-Member base _ m.kind (qb u p).keeps)
  member_at_quiet structures members index None at = fails_quiet s 8 at

  of_all_quiet : (name : Span) (v : Seen) (members : Option (List MemberInfo)) → Quiet pre QuietFound s (member_of_all place base name v members s)
  of_all_quiet name v (Some members) =
      member_at_quiet v.structures members (index_of _ members) (slice_get members (index_of _ members)) name.start
  of_all_quiet name v None = fails_quiet s 10 place

  pub member_quiet : (name : Span) (number : ℕ) → Quiet pre QuietFound s (member place base name number s)
  unfolding member
  member_quiet name number = of_all_quiet name s (known_members (slice_get s.structures number))

of_object_quiet : (pre : List FunctionInfo → Type 0) (s : Seen) (place : ℕ) (name : Span) (kind : CType) (form : Form)
    → ((u : List FunctionInfo) → pre u → QuietForm kind form u) → Quiet pre QuietFound s (member_of_object place name kind form s)
of_object_quiet pre s place name (Struct number) (Lvalue base) h = member_quiet pre s place base (Struct number) h name number
of_object_quiet pre s place name (Struct number) (Value e) h = fails_quiet s 3 place
of_object_quiet pre s place name kind form h = fails_quiet s 3 place

of_target_quiet : (pre : List FunctionInfo → Type 0) (s : Seen) (place : ℕ) (name : Span) (pointer : Expr) (kind : CType)
    → ((u : List FunctionInfo) → pre u → Keeps pointer) → Quiet pre QuietFound s (member_of_target place name pointer kind s)
of_target_quiet pre s place name pointer (Struct number) h =
    member_quiet pre s place (object.Arrow pointer number) (Struct number) (λ u p. object-Arrow pointer number (h u p)) name number
of_target_quiet pre s place name pointer kind h = fails_quiet s 3 place

pub access_quiet : (place : ℕ) (operator : AccessOperator) (name : Span) (expression : Seen → Read Found) → Quietly QuietFound expression
    → Quietly QuietFound (access place operator name expression)
unfolding access
access_quiet place Dot name expression keeps s =
    then_quiet s (expression s) _ (keeps s) (λ f t. of_object_quiet _ t place name f.kind f.form (λ u p. p.1))
access_quiet place Arrow name expression keeps s =
    then_quiet s (operand expression s) _ (operand_quiet Always s expression keeps) (λ o t.
    of_target_quiet _ t place name o.node (target_of o.kind) (λ u p. p.1.node.keeps))

address_of_quiet : (pre : List FunctionInfo → Type 0) (s : Seen) (place at : ℕ) (kind : CType) (form : Form)
    → ((u : List FunctionInfo) → pre u → QuietForm kind form u) → Quiet pre QuietFound s (address_of place at kind form s)
address_of_quiet pre s place at kind (Lvalue base) h = gives_quiet s (found_value place (pointer_to kind) _) (λ u ends p. node-AddressOf u kind base (h u p))
address_of_quiet pre s place at kind (Value node) h =
    refused_quiet s (not (is_function kind)) 6 at _ (λ function.
    gives_quiet s (found_value place (pointer_to kind) _) (λ u ends p. node-FunctionPointer u kind node (not_refused (is_function kind) function) (h u p)))

pub address_quiet : (place : ℕ) (expression : Seen → Read Found) → Quietly QuietFound expression → Quietly QuietFound (address place expression)
unfolding address
address_quiet place expression keeps s = then_quiet s (expression s) _ (keeps s) (λ f t. address_of_quiet _ t place f.place f.kind f.form (λ u p. p.1))

-- `sizeof`
pub unevaluated_quiet : {A : Type 0} (K : A → List FunctionInfo → Type 0) (rule : Seen → Read A) → Quietly K rule → Quietly K (unevaluated rule)
unfolding unevaluated
unevaluated_quiet K rule keeps s =
    then_quiet s (rule s) _ (keeps s) (λ a t. moves_quiet t (record t { sites = s.sites }) a (λ u ends. ends) (λ u kept. kept) (λ u ends p. p.1))

size_quiet : (pre : List FunctionInfo → Type 0) (s : Seen) (place : ℕ) (t : CType) → Quiet pre QuietFound s (size place t s)
unfolding size and_then
size_quiet pre s place t =
    refused_quiet s (is_function t) 3 place _ (λ object.
    refused_quiet s (is_incomplete s.structures t) 10 place _ (λ complete.
    gives_quiet s (found_value place Unsigned _) (λ u ends p. node-Sizeof u _)))

pub size_of_expression_quiet : (place : ℕ) (expression : Seen → Read Found) → Quietly QuietFound expression → Quietly QuietFound (size_of_expression place expression)
unfolding size_of_expression
size_of_expression_quiet place expression keeps s =
    then_quiet s (unevaluated expression s) _ (unevaluated_quiet QuietFound expression keeps s) (λ f t. size_quiet _ t place f.kind)

pub size_of_type_quiet : (place : ℕ) (name : Seen → Read CType) → Quietly Anything name → Quietly QuietFound (size_of_type place name)
unfolding size_of_type
size_of_type_quiet place name keeps s =
    then_quiet s (unevaluated name s) _ (unevaluated_quiet Anything name keeps s) (λ k t. size_quiet _ t place k)
