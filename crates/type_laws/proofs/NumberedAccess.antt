-- Elements, members, addresses, sizes, assignments and steps: the spots of a node are those of its operands, one behind the other.
use Rattle.std.proofs.Common.{◌≡◌, ℕ, Bool, true, false, refl, sym, ◌∙◌, ap, subst, List, [], ◌++◌, take, slice_get, Option, Some, None}
use Rattle.std.specs.Prelude.{not, ◌&&◌, ◌||◌, if◌then◌else◌}
use Rattle.eff_types.specs.Types.{is_number, is_function, is_function_pointer}
use Rattle.eff_types.specs.declared.types.CType.{CType, Unsigned, Struct}
use Rattle.c_tree.specs.declared.expressions.AccessOperator.{AccessOperator}
use Rattle.c_tree.specs.declared.expressions.AccessOperator.TheVariants.{Dot, Arrow}
use Rattle.c_tree.specs.declared.expressions.AssignmentOperator.{AssignmentOperator}
use Rattle.c_tree.specs.declared.expressions.AssignmentOperator.TheVariants as written
use Rattle.c_tree.specs.declared.expressions.StepOperator.{StepOperator}
use Rattle.c_tree.specs.declared.expressions.StepOperator.TheVariants as written_step
use Rattle.c_tree.specs.declared.expressions.UnaryOperator.{UnaryOperator}
use Rattle.c_tree.specs.declared.expressions.UnaryOperator.TheVariants as written_unary
use Rattle.c_tree.specs.declared.words.Span.{Span}
use Rattle.core_unit.proofs.Equations.{place_spots-Indirection, place_spots-Arrow, place_spots-Element, place_spots-Member, spots-TargetFunction, spots-AddressOf, spots-FunctionPointer, spots-Sizeof, spots-Assign, spots-Compound, spots-Step}
use Rattle.core_unit.specs.Layout.{members_words}
use Rattle.core_unit.specs.Places.{Spot, spots, place_spots}
use Rattle.core_unit.specs.Shapes.{target_of, pointer_to, is_scalar, is_object_pointer, sign_of}
use Rattle.core_unit.specs.declared.expressions.Expr.{Expr}
use Rattle.core_unit.specs.declared.expressions.Expr.TheVariants as expr
use Rattle.core_unit.specs.declared.expressions.Place.{Place}
use Rattle.core_unit.specs.declared.expressions.Place.TheVariants as object
use Rattle.core_unit.specs.declared.operators.ArithmeticOperator.{ArithmeticOperator}
use Rattle.core_unit.specs.declared.operators.ArithmeticOperator.TheVariants as arithmetic
use Rattle.core_unit.specs.declared.operators.PointerSide.{PointerSide}
use Rattle.core_unit.specs.declared.operators.PointerSide.TheVariants.{Left, Right}
use Rattle.core_unit.specs.declared.operators.Sign.{Sign}
use Rattle.core_unit.specs.declared.operators.StepValue.{StepValue}
use Rattle.core_unit.specs.declared.operators.StepValue.TheVariants.{Prefix, Postfix}
use Rattle.core_unit.specs.declared.operators.UnaryOperator.TheVariants as unary_operator
use Rattle.core_unit.specs.declared.operators.Update.{Update}
use Rattle.core_unit.specs.declared.operators.Update.TheVariants as update
use Rattle.core_unit.specs.declared.tables.MemberInfo.{MemberInfo}
use Rattle.core_unit.specs.declared.tables.StructInfo.{StructInfo}
use Rattle.type_rules.specs.Access.{indirection, element_as, element, member_at, index_of, member_of_all, known_members, member, member_of_object, member_of_target, access, address_of, address, unevaluated, size, size_of_expression, size_of_type}
use Rattle.type_rules.specs.Assignments.{plain_assignment, moved_pointer, is_moved, is_pointer_first, moved_by, stride_of, update_sign, update_operand, number_update, pointer_update, compound_assignment, assigned_by, assignment, is_stepped, step_update, stepped_as, step}
use Rattle.type_rules.specs.Expressions.{unary, postfix}
use Rattle.type_rules.specs.Conversions.{converted}
use Rattle.type_rules.specs.Operands.{found_object, found_value, operand, promoted, in_sign, is_whole, lvalue_in, lvalue}
use Rattle.type_rules.specs.Operators.{pair_of, stride}
use Rattle.type_rules.specs.Reading.{Read, Good, and_then, text_of}
use Rattle.type_rules.specs.Seen.{Seen}
use Rattle.type_rules.specs.Sizes.{size_of}
use Rattle.type_rules.specs.Types.{is_incomplete}
use Rattle.type_rules.specs.declared.found.Form.{Form}
use Rattle.type_rules.specs.declared.found.Form.TheVariants.{Lvalue, Value}
use Rattle.type_rules.specs.declared.found.Found.{Found}
use Rattle.type_rules.specs.declared.found.Operand.{Operand}
use Rattle.type_rules.specs.declared.found.Pair.{Pair}
use Rattle.type_rules.specs.declared.found.Pair.TheVariants.{Numbers, PointerFirst, PointerSecond, Pointers, Others}
use Rattle.core_unit.specs.Typed.{is_shift}
use Rattle.type_laws.proofs.Numbered.{Reads, IsIdle, none_of, then_reads, gives_reads, fails_reads, refused_reads, reads_as, form_spots, found_spots, operand_spots, value_found, object_found, moved}
use Rattle.type_laws.proofs.NumberedOperators.{ReadsFrom, IsSame, operand_reads, converted_reads, promoted_spots, in_sign_spots, stride_idle, two_spots, signs_read, negation_reads}
use Rattle.type_laws.proofs.Progress.{Progress, progress, Unmoved, same_progress, unmoved_at}
use Rattle.type_laws.proofs.SpotsJoined.{place_joins}

abbrev place_alone : Place → List Spot
place_alone p = place_spots p []

module _ (P : List Spot → Progress → Type 0) where
  -- what a pointer points to
  pointed_reads : (s : Seen) (place : ℕ) (o : Operand) (function : Bool) → P (operand_spots o) (progress s)
      → Reads found_spots P (Good (if function then found_value place (target_of o.kind) (expr.TargetFunction o.node)
      else found_object place (target_of o.kind) (object.Indirection o.node (target_of o.kind))) s)
  pointed_reads s place o true p = value_found s place (target_of o.kind) (expr.TargetFunction o.node) (operand_spots o) (spots-TargetFunction [] o.node) p
  pointed_reads s place o false p =
      object_found s place (target_of o.kind) (object.Indirection o.node (target_of o.kind)) (operand_spots o) (place_spots-Indirection [] o.node (target_of o.kind)) p

  indirection_reads : (place : ℕ) (expression : Seen → Read Found) (s : Seen) → Reads found_spots P (expression s) → Reads found_spots P (indirection place expression s)
  unfolding indirection and_then
  indirection_reads place expression s p =
      then_reads (operand expression s) _ (operand_reads P expression s p) (λ o t x.
      refused_reads t (not (is_object_pointer o.kind || is_function_pointer o.kind)) 3 place _ (λ e. pointed_reads t place o (is_function_pointer o.kind) x))

  address_of_reads : (s : Seen) (place at : ℕ) (kind : CType) (form : Form) → P (form_spots form) (progress s) → Reads found_spots P (address_of place at kind form s)
  unfolding and_then
  address_of_reads s place at kind (Lvalue base) p = value_found s place (pointer_to kind) (expr.AddressOf base) (place_spots base []) (spots-AddressOf [] base) p
  address_of_reads s place at kind (Value node) p =
      refused_reads s (not (is_function kind)) 6 at _ (λ e.
      value_found s place (pointer_to kind) (expr.FunctionPointer node) (spots node []) (spots-FunctionPointer [] node) p)

  address_reads : (place : ℕ) (expression : Seen → Read Found) (s : Seen) → Reads found_spots P (expression s) → Reads found_spots P (address place expression s)
  unfolding address and_then
  address_reads place expression s p = then_reads (expression s) _ p (λ f t x. address_of_reads t place f.place f.kind f.form x)

  -- members
  module _ (place : ℕ) (base : Place) (name : Span) where
    member_at_reads : (s : Seen) (structures : List StructInfo) (members : List MemberInfo) (index : ℕ) (m : Option MemberInfo) (at : ℕ) → P (place_alone base) (progress s)
        → Reads found_spots P (member_at place base structures members index m at s)
    member_at_reads s structures members index (Some m) at p =
        object_found s place m.kind (object.Member base (members_words structures (take index members)) m.kind) (place_alone base)
        (place_spots-Member [] base (members_words structures (take index members)) m.kind) p
    member_at_reads s structures members index None at p = fails_reads 8 at

    of_all_reads : (s : Seen) (members : Option (List MemberInfo)) → P (place_alone base) (progress s) → Reads found_spots P (member_of_all place base name s members s)
    of_all_reads s (Some members) p =
        let index = index_of (text_of s.source name) members in member_at_reads s s.structures members index (slice_get members index) name.start p
    of_all_reads s None p = fails_reads 10 place

    member_reads : (s : Seen) (number : ℕ) → P (place_alone base) (progress s) → Reads found_spots P (member place base name number s)
    unfolding member
    member_reads s number p = of_all_reads s (known_members (slice_get s.structures number)) p

  of_object_reads : (s : Seen) (place : ℕ) (name : Span) (kind : CType) (form : Form) → P (form_spots form) (progress s)
      → Reads found_spots P (member_of_object place name kind form s)
  of_object_reads s place name (Struct number) (Lvalue base) p = member_reads place base name s number p
  of_object_reads s place name kind form p = fails_reads 3 place

  of_target_reads : (s : Seen) (place : ℕ) (name : Span) (pointer : Expr) (kind : CType) → P (spots pointer []) (progress s)
      → Reads found_spots P (member_of_target place name pointer kind s)
  of_target_reads s place name pointer (Struct number) p =
      member_reads place (object.Arrow pointer number) name s number (subst (λ xs. P xs (progress s)) (sym (place_spots-Arrow [] pointer number)) p)
  of_target_reads s place name pointer kind p = fails_reads 3 place

  pub access_reads : (place : ℕ) (operator : AccessOperator) (name : Span) (expression : Seen → Read Found) (s : Seen) → Reads found_spots P (expression s)
      → Reads found_spots P (access place operator name expression s)
  unfolding access and_then
  access_reads place Dot name expression s p = then_reads (expression s) _ p (λ f t x. of_object_reads t place name f.kind f.form x)
  access_reads place Arrow name expression s p =
      then_reads (operand expression s) _ (operand_reads P expression s p) (λ o t x. of_target_reads t place name o.node (target_of o.kind) x)

  -- What isn't evaluated takes no call site.
  size_reads : (s : Seen) (place : ℕ) (t : CType) → P [] (progress s) → Reads found_spots P (size place t s)
  unfolding size and_then
  size_reads s place t p =
      refused_reads s (is_function t) 3 place _ (λ e.
      refused_reads s (is_incomplete s.structures t) 10 place _ (λ f.
      value_found s place Unsigned (expr.Sizeof (size_of s.sizes t)) [] (spots-Sizeof [] (size_of s.sizes t)) p))

unevaluated_idle : {A : Type 0} (f : A → List Spot) (rule : Seen → Read A) (s : Seen) → Reads f (λ xs m. Unmoved (progress s) m) (rule s)
    → IsIdle (progress s) (unevaluated rule s)
unfolding unevaluated and_then
unevaluated_idle f rule s h = then_reads (rule s) _ h (λ a t same. record { holds = same_progress (progress s) (progress (record t { sites = s.sites })) refl (record { functions_are = same.functions_are; definitions_are = same.definitions_are }) })

module _ (P : List Spot → Progress → Type 0) where
  sizes_of_expressions_read : (place : ℕ) (expression : Seen → Read Found) (s : Seen) → P [] (progress s) → Reads found_spots (λ xs m. Unmoved (progress s) m) (expression s)
      → Reads found_spots P (size_of_expression place expression s)
  unfolding size_of_expression and_then
  sizes_of_expressions_read place expression s p same =
      then_reads (unevaluated expression s) _ (unevaluated_idle found_spots expression s same) (λ f t e. size_reads P t place f.kind (moved P [] (progress s) (progress t) e p))

  pub sizes_of_types_read : (place : ℕ) (name : Seen → Read CType) (s : Seen) → P [] (progress s) → IsIdle (progress s) (name s) → Reads found_spots P (size_of_type place name s)
  unfolding size_of_type and_then
  sizes_of_types_read place name s p idle =
      then_reads (unevaluated name s) _
      (unevaluated_idle none_of name s (reads_as (name s) idle (λ kind m e. unmoved_at (progress s) m e))) (λ kind t e.
      size_reads P t place kind (moved P [] (progress s) (progress t) e p))

-- the place that is designated
lvalue_reads : (f : Found) (s : Seen) → Reads place_alone (IsSame (found_spots f) (progress s)) (lvalue f s)
unfolding lvalue
lvalue_reads f s = of f.form refl
  where
    of : (form : Form) → f.form ≡ form → Reads place_alone (IsSame (found_spots f) (progress s)) (lvalue_in f.place form s)
    of (Lvalue p) e = record { holds = (ap form_spots (sym e), refl) }
    of (Value node) e = fails_reads 6 f.place

step_idle : (place : ℕ) (operator : ArithmeticOperator) (t : CType) (s : Seen) → IsIdle (progress s) (step_update place operator t s)
unfolding step_update and_then
step_idle place operator t s = of (is_number t)
  where
    of : (number : Bool) → IsIdle (progress s) (if◌then◌else◌ {A = Seen → Read Update} number (λ u. Good (update.Arithmetic operator (sign_of t)) u)
        (λ u. and_then (stride place t u) (λ words v. Good (moved_by operator words) v)) s)
    of true = record { holds = refl }
    of false = then_reads (stride place t s) _ (stride_idle place t s) (λ words v e. gives_reads v (moved_by operator words) e)

module _ (P : List Spot → Progress → Type 0) where
  step_found : (s : Seen) (place : ℕ) (f : Found) (target : Place) (how : Update) (value : StepValue) → place_alone target ≡ found_spots f → P (found_spots f) (progress s)
      → Reads found_spots P (Good (found_value place f.kind (expr.Step target how value)) s)
  step_found s place f target how value is p =
      value_found s place f.kind (expr.Step target how value) (found_spots f) (spots-Step [] target how value ∙ is) p

  stepped_as_reads : (s : Seen) (place : ℕ) (operator : ArithmeticOperator) (value : StepValue) (f : Found) → P (found_spots f) (progress s)
      → Reads found_spots P (stepped_as place operator value f s)
  unfolding and_then
  stepped_as_reads s place operator Prefix f p =
      then_reads (step_update place operator f.kind s) _ (step_idle place operator f.kind s) (λ how t e.
      then_reads (lvalue f t) _ (lvalue_reads f t) (λ target v x.
      step_found v place f target how Prefix x.0 (moved P (found_spots f) (progress s) (progress v) (x.1 ∙ e) p)))
  stepped_as_reads s place operator Postfix f p =
      then_reads (lvalue f s) _ (lvalue_reads f s) (λ target t x.
      then_reads (step_update place operator f.kind t) _ (step_idle place operator f.kind t) (λ how v e.
      step_found v place f target how Postfix x.0 (moved P (found_spots f) (progress s) (progress v) (e ∙ x.1) p)))

  steps_read : (place : ℕ) (operator : ArithmeticOperator) (value : StepValue) (expression : Seen → Read Found) (s : Seen) → Reads found_spots P (expression s)
      → Reads found_spots P (step place operator value expression s)
  unfolding step and_then
  steps_read place operator value expression s p =
      then_reads (expression s) _ p (λ f t x.
      refused_reads t (is_whole f.kind) 3 f.place _ (λ e.
      refused_reads t (not (is_stepped f.kind)) 3 place _ (λ g. stepped_as_reads t place operator value f x)))

  pub unaries_read : (place : ℕ) (operator : UnaryOperator) (expression : Seen → Read Found) (s : Seen) → P [] (progress s)
      → ((xs : List Spot) (m : Progress) → P xs m → Unmoved (progress s) m) → Reads found_spots P (expression s) → Reads found_spots P (unary place operator expression s)
  unaries_read place written_unary.Increment expression s none stays p = steps_read place arithmetic.Add Prefix expression s p
  unaries_read place written_unary.Decrement expression s none stays p = steps_read place arithmetic.Subtract Prefix expression s p
  unaries_read place written_unary.Address expression s none stays p = address_reads P place expression s p
  unaries_read place written_unary.Indirection expression s none stays p = indirection_reads P place expression s p
  unaries_read place written_unary.Plus expression s none stays p = signs_read P place unary_operator.Plus expression s p
  unaries_read place written_unary.Minus expression s none stays p = signs_read P place unary_operator.Minus expression s p
  unaries_read place written_unary.Complement expression s none stays p = signs_read P place unary_operator.Complement expression s p
  unaries_read place written_unary.Not expression s none stays p = negation_reads P place expression s p
  unaries_read place written_unary.Sizeof expression s none stays p = sizes_of_expressions_read P place expression s none (reads_as (expression s) p (λ f m q. stays (found_spots f) m q))

  pub postfixes_read : (place : ℕ) (operator : StepOperator) (expression : Seen → Read Found) (s : Seen) → Reads found_spots P (expression s)
      → Reads found_spots P (postfix place operator expression s)
  postfixes_read place written_step.Increment expression s p = steps_read place arithmetic.Add Postfix expression s p
  postfixes_read place written_step.Decrement expression s p = steps_read place arithmetic.Subtract Postfix expression s p

-- elements
module _ (P : List Spot → Progress → Type 0) (a b : Operand) where
  element_found : (s : Seen) (place : ℕ) (x y : Operand) (side : PointerSide) (words : ℕ) (t : CType) → operand_spots x ≡ operand_spots a → operand_spots y ≡ operand_spots b
      → P (operand_spots a ++ operand_spots b) (progress s) → Reads found_spots P (Good (found_object place t (object.Element x.node y.node side words t)) s)
  element_found s place x y side words t left right p =
      object_found s place t (object.Element x.node y.node side words t) (operand_spots a ++ operand_spots b)
      (place_spots-Element [] x.node y.node side words t ∙ two_spots x.node y.node (operand_spots a) (operand_spots b) left right) p

  element_as_reads : (s : Seen) (place : ℕ) (pair : Pair) → P (operand_spots a ++ operand_spots b) (progress s) → Reads found_spots P (element_as place a b pair s)
  unfolding and_then
  element_as_reads s place PointerFirst p =
      then_reads (stride place a.kind s) _ (stride_idle place a.kind s) (λ words t e.
      element_found t place a (promoted b) Left words (target_of a.kind) refl (promoted_spots b) (moved P (operand_spots a ++ operand_spots b) (progress s) (progress t) e p))
  element_as_reads s place PointerSecond p =
      then_reads (stride place b.kind s) _ (stride_idle place b.kind s) (λ words t e.
      element_found t place (promoted a) b Right words (target_of b.kind) (promoted_spots a) refl (moved P (operand_spots a ++ operand_spots b) (progress s) (progress t) e p))
  element_as_reads s place Numbers p = fails_reads 3 place
  element_as_reads s place Pointers p = fails_reads 3 place
  element_as_reads s place Others p = fails_reads 3 place

-- assignments
module _ (P : List Spot → Progress → Type 0) (left : Found) (o : Operand) where
  abbrev Here : Seen → Type 0
  Here s = P (found_spots left ++ operand_spots o) (progress s)

  here_moved : (s t : Seen) → (progress t) ≡ (progress s) → Here s → Here t
  here_moved s t e p = moved P (found_spots left ++ operand_spots o) (progress s) (progress t) e p

  stored : (target : Place) (v : Operand) → place_alone target ≡ found_spots left → operand_spots v ≡ operand_spots o
      → place_spots target (spots v.node []) ≡ found_spots left ++ operand_spots o
  stored target v is same = place_joins target (spots v.node []) ∙ (ap (λ zs. zs ++ spots v.node []) is ∙ ap (λ zs. found_spots left ++ zs) same)

  plain_reads : (s : Seen) (place : ℕ) → Here s → Reads found_spots P (plain_assignment place left o s)
  unfolding plain_assignment and_then
  plain_reads s place p =
      refused_reads s (not (is_scalar left.kind)) 3 left.place _ (λ e.
      then_reads (lvalue left s) _ (lvalue_reads left s) (λ target t x.
      then_reads (converted left.kind o t) _ (converted_reads left.kind o t) (λ v w y.
      value_found w place left.kind (expr.Assign target v.node) (found_spots left ++ operand_spots o)
      (spots-Assign [] target v.node ∙ stored target v x.0 y.0) (here_moved s w (y.1 ∙ x.1) p))))

  compound_found : (s : Seen) (place : ℕ) (target : Place) (how : Update) (v : Operand) → place_alone target ≡ found_spots left → operand_spots v ≡ operand_spots o → Here s
      → Reads found_spots P (Good (found_value place left.kind (expr.Compound target how v.node)) s)
  compound_found s place target how v is same p =
      value_found s place left.kind (expr.Compound target how v.node) (found_spots left ++ operand_spots o)
      (spots-Compound [] target how v.node ∙ stored target v is same) p

  update_spots : (operator : ArithmeticOperator) (sign : Sign) → operand_spots (update_operand operator sign o) ≡ operand_spots o
  update_spots operator sign = of (is_shift operator)
    where
      of : (shift : Bool) → operand_spots (if shift then promoted o else in_sign sign o) ≡ operand_spots o
      of true = promoted_spots o
      of false = in_sign_spots sign o

  number_reads : (s : Seen) (place : ℕ) (operator : ArithmeticOperator) → Here s → Reads found_spots P (number_update place operator left o s)
  unfolding number_update and_then
  number_reads s place operator p =
      let sign = update_sign operator left.kind o.kind in
      then_reads (lvalue left s) _ (lvalue_reads left s) (λ target t x.
      compound_found t place target (update.Arithmetic operator sign) (update_operand operator sign o) x.0 (update_spots operator sign) (here_moved s t x.1 p))

  stride_of_idle : (s : Seen) (place : ℕ) (pointer : Option CType) → IsIdle (progress s) (stride_of place pointer s)
  stride_of_idle s place (Some pointer) = stride_idle place pointer s
  stride_of_idle s place None = fails_reads 3 place

  pointer_reads : (s : Seen) (place : ℕ) (operator : ArithmeticOperator) → Here s → Reads found_spots P (pointer_update place operator left o s)
  unfolding pointer_update and_then
  pointer_reads s place operator p =
      let pointer = moved_pointer operator left.kind o.kind (pair_of left.kind o.kind) in
      refused_reads s (not (is_moved pointer)) 3 left.place _ (λ e.
      then_reads (lvalue left s) _ (lvalue_reads left s) (λ target t x.
      then_reads (stride_of left.place pointer t) _ (stride_of_idle t left.place pointer) (λ words v y.
      refused_reads v (not (is_pointer_first (pair_of left.kind o.kind))) 11 left.place _ (λ f.
      compound_found v place target (moved_by operator words) (promoted o) x.0 (promoted_spots o) (here_moved s v (y ∙ x.1) p)))))

  compound_reads : (s : Seen) (place : ℕ) (operator : ArithmeticOperator) → Here s → Reads found_spots P (compound_assignment place operator left o s)
  unfolding compound_assignment
  compound_reads s place operator p = of (is_number left.kind && is_number o.kind)
    where
      of : (numbers : Bool) → Reads found_spots P ((if numbers then number_update place operator left o else pointer_update place operator left o) s)
      of true = number_reads s place operator p
      of false = pointer_reads s place operator p

  assigned_reads : (s : Seen) (place : ℕ) (operator : AssignmentOperator) → Here s → Reads found_spots P (assigned_by place operator left o s)
  assigned_reads s place written.Plain p = plain_reads s place p
  assigned_reads s place written.Multiply p = compound_reads s place arithmetic.Multiply p
  assigned_reads s place written.Divide p = compound_reads s place arithmetic.Divide p
  assigned_reads s place written.Remainder p = compound_reads s place arithmetic.Remainder p
  assigned_reads s place written.Add p = compound_reads s place arithmetic.Add p
  assigned_reads s place written.Subtract p = compound_reads s place arithmetic.Subtract p
  assigned_reads s place written.LeftShift p = compound_reads s place arithmetic.LeftShift p
  assigned_reads s place written.RightShift p = compound_reads s place arithmetic.RightShift p
  assigned_reads s place written.And p = compound_reads s place arithmetic.And p
  assigned_reads s place written.ExclusiveOr p = compound_reads s place arithmetic.ExclusiveOr p
  assigned_reads s place written.Or p = compound_reads s place arithmetic.Or p

module _ (P : List Spot → Progress → Type 0) (Q : Progress → List Spot → Progress → Type 0) (R : List Spot → Progress → Type 0) (joined : (xs ys : List Spot) (m l : Progress) → P xs m → Q m ys l → R (xs ++ ys) l) where
  pub elements_read : (place : ℕ) (array index : Seen → Read Found) (s : Seen) → Reads found_spots P (array s) → ReadsFrom found_spots Q index
      → Reads found_spots R (element place array index s)
  unfolding element and_then
  elements_read place array index s p q =
      then_reads (operand array s) _ (operand_reads P array s p) (λ a t x.
      then_reads (operand index t) _ (operand_reads (Q (progress t)) index t (q t)) (λ b v y.
      element_as_reads R a b v place (pair_of a.kind b.kind) (joined (operand_spots a) (operand_spots b) (progress t) (progress v) x y)))

  pub assignments_read : (place : ℕ) (operator : AssignmentOperator) (left_read right_read : Seen → Read Found) (s : Seen) → Reads found_spots P (left_read s)
      → ReadsFrom found_spots Q right_read → Reads found_spots R (assignment place operator left_read right_read s)
  unfolding assignment and_then
  assignments_read place operator left_read right_read s p q =
      then_reads (left_read s) _ p (λ left t x.
      refused_reads t (is_whole left.kind) 3 left.place _ (λ e.
      then_reads (operand right_read t) _ (operand_reads (Q (progress t)) right_read t (q t)) (λ o v y.
      assigned_reads R left o v place operator (joined (found_spots left) (operand_spots o) (progress t) (progress v) x y))))
