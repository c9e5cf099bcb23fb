-- All rules along the tree keep what was seen: expressions, type names, specifiers, declarators and parameters, each by the rule of its form.
use Rattle.std.proofs.Common.{ℕ, ◌+◌, Bool, true, false, refl, List, [], Option, Some, None, arith}
use Rattle.c_tree.specs.declared.expressions.BinaryOperator.{BinaryOperator}
use Rattle.c_tree.specs.declared.expressions.Declarator as of_declarator
use Rattle.c_tree.specs.declared.expressions.Declarator.{Declarator, Row_of-Declarator, end_of-Declarator, more_of-Declarator, Held-Declarator-Array-2}
use Rattle.c_tree.specs.declared.expressions.Expr as expr
use Rattle.c_tree.specs.declared.expressions.Expr.{Expr, Row_of-Expr, end_of-Expr, more_of-Expr, Row_of-TypeName, end_of-TypeName, more_of-TypeName}
use Rattle.c_tree.specs.declared.expressions.Parameters as params
use Rattle.c_tree.specs.declared.expressions.Parameters.{Parameters, Row_of-Param, end_of-Param, more_of-Param}
use Rattle.c_tree.specs.declared.expressions.Spec as spec
use Rattle.c_tree.specs.declared.expressions.Spec.{Spec, Row_of-Spec, end_of-Spec, more_of-Spec, Row_of-Member, end_of-Member, more_of-Member, Row_of-Enumerator, end_of-Enumerator, more_of-Enumerator}
use Rattle.c_tree.specs.declared.expressions.StepOperator.{StepOperator}
use Rattle.c_tree.specs.declared.expressions.StepOperator.TheVariants as written_step
use Rattle.c_tree.specs.declared.expressions.UnaryOperator.{UnaryOperator}
use Rattle.c_tree.specs.declared.expressions.UnaryOperator.TheVariants as written
use Rattle.core_unit.specs.declared.operators.ArithmeticOperator.TheVariants as arithmetic
use Rattle.core_unit.specs.declared.operators.StepValue.TheVariants.{Prefix, Postfix}
use Rattle.core_unit.specs.declared.operators.UnaryOperator.TheVariants as unary_operator
use Rattle.core_unit.specs.declared.tables.MemberInfo.{MemberInfo}
use Rattle.type_rules.specs.Calls.{spine}
use Rattle.type_rules.specs.Declarators.{bare, parameter, member}
use Rattle.type_rules.specs.declared.declarators.Parameter.{Parameter}
use Rattle.type_rules.specs.Expressions.{unary, postfix}
use Rattle.type_rules.specs.Operands.{operand}
use Rattle.type_rules.specs.Operators.{operation}
use Rattle.type_rules.specs.Primaries.{text}
use Rattle.type_rules.specs.Reading.{Read, and_then}
use Rattle.type_rules.specs.Recursion.{value, arguments, specifiers, specifier, member_lines, members, enumerators, written as written_of, declarator, parameter_list, parameters, expression}
use Rattle.type_rules.specs.Seen.{Seen}
use Rattle.type_rules.specs.Specifiers.{no_specifiers, enumerator}
use Rattle.type_rules.specs.declared.found.Found.{Found}
use Rattle.type_rules.specs.declared.found.Operand.{Operand}
use Rattle.type_rules.specs.declared.specifiers.Specifiers.{Specifiers}
use Rattle.type_laws.proofs.Accessing.{indirection_keeps, element_keeps, address_keeps}
use Rattle.type_laws.proofs.Assigning.{assignment_keeps, steps_keep}
use Rattle.type_laws.proofs.Calling.{AreGiven, AreTypedGiven, argument_keeps, call_keeps, fresh_keeps}
use Rattle.type_laws.proofs.Characters.{character_keeps}
use Rattle.type_laws.proofs.Declarators.{AreParameters, pointers_keep, arrays_keep, functions_keep, parameter_left, type_names_keep, members_keep, specified_stays}
use Rattle.type_laws.proofs.Declared.{AreSpecified, IsShaped}
use Rattle.type_laws.proofs.Left.{Left, Calmly, then_left, gives_left, left_as}
use Rattle.type_laws.proofs.Literals.{literal_keeps, parenthesised_keeps, casts_keep}
use Rattle.type_laws.proofs.Members.{access_keeps}
use Rattle.type_laws.proofs.Naming.{name_keeps}
use Rattle.type_laws.proofs.Operands.{IsFound, IsTypedFound, operand_keeps}
use Rattle.type_laws.proofs.Operations.{on_keeps}
use Rattle.type_laws.proofs.Specifying.{Silent, AreMembers, NextFits, WrittenKeeps, storage_keeps, function_word_keeps, attribute_keeps, type_word_keeps, none_formed, typedef_name_keeps, structure_name_keeps, structure_keeps, enumeration_name_keeps, enumeration_keeps, enumerator_keeps, specified_same}
use Rattle.type_laws.proofs.Steps.{under}
use Rattle.type_laws.proofs.Strings.{found_as, text_keeps, sizes_of_expressions_keep, sizes_of_types_keep}
use Rattle.type_laws.proofs.Tables.{members_stay}
use Rattle.type_laws.proofs.Triples.{Lawful, calm_same, calm_twice, Triple, Keeps, Always, then_keeps, gives_keeps, anyway}
use Rattle.type_laws.proofs.Unaries.{plus_has_sign, minus_has_sign, complement_has_sign, sign_keeps, negation_keeps, choice_keeps, operand_stays}

-- what is no library function may be called too
as_called : (called : Bool) (rule : Seen → Read Found) → Keeps Always IsFound (IsTypedFound false) rule → Keeps Always IsFound (IsTypedFound called) rule
as_called called rule keeps s lawful = found_as called s (rule s) (keeps s lawful)

operations_keep : (place : ℕ) (operator : BinaryOperator) (left right : Seen → Read Found) → Keeps Always IsFound (IsTypedFound false) left
    → Keeps Always IsFound (IsTypedFound false) right → Keeps Always IsFound (IsTypedFound false) (operation place operator left right)
unfolding operation and_then
operations_keep place operator left right left_keeps right_keeps s lawful =
    then_keeps s (operand left s) _ (operand_keeps Always left left_keeps s lawful) (λ a t t_lawful t_stay a_known.
    then_keeps t (operand right t) _ (anyway t _ (operand_keeps Always right right_keeps t t_lawful)) (λ b v v_lawful v_stay b_known.
    on_keeps _ v v_lawful a b (operand_stays a t v v_stay t_lawful.open_are_empty a_known) b_known (λ u p. p.0.1) (λ u p. p.1) place operator))

unaries_keep : (place : ℕ) (operator : UnaryOperator) (expression : Seen → Read Found) → Keeps Always IsFound (IsTypedFound false) expression
    → Keeps Always IsFound (IsTypedFound false) (unary place operator expression)
unaries_keep place written.Increment expression keeps = steps_keep place arithmetic.Add Prefix expression refl keeps
unaries_keep place written.Decrement expression keeps = steps_keep place arithmetic.Subtract Prefix expression refl keeps
unaries_keep place written.Address expression keeps = address_keeps place expression keeps
unaries_keep place written.Indirection expression keeps = indirection_keeps place expression keeps
unaries_keep place written.Plus expression keeps = sign_keeps place unary_operator.Plus expression plus_has_sign keeps
unaries_keep place written.Minus expression keeps = sign_keeps place unary_operator.Minus expression minus_has_sign keeps
unaries_keep place written.Complement expression keeps = sign_keeps place unary_operator.Complement expression complement_has_sign keeps
unaries_keep place written.Not expression keeps = negation_keeps place expression keeps
unaries_keep place written.Sizeof expression keeps = sizes_of_expressions_keep place expression keeps

postfixes_keep : (place : ℕ) (operator : StepOperator) (expression : Seen → Read Found) → Keeps Always IsFound (IsTypedFound false) expression
    → Keeps Always IsFound (IsTypedFound false) (postfix place operator expression)
postfixes_keep place written_step.Increment expression keeps = steps_keep place arithmetic.Add Postfix expression refl keeps
postfixes_keep place written_step.Decrement expression keeps = steps_keep place arithmetic.Subtract Postfix expression refl keeps

mutual
  unfolding value and_then

  pub value_keeps : (called : Bool) (first : ℕ) (e : Expr) → Keeps Always IsFound (IsTypedFound called) (value called first e)
  value_keeps called first (expr.Name at) = name_keeps called at
  value_keeps called first (expr.Number at) = literal_keeps called at
  value_keeps called first (expr.Character at) = character_keeps called at
  value_keeps called first (expr.Text strings) = as_called called (text strings) (text_keeps strings)
  value_keeps called first (expr.Parenthesised' place _ (more_of-Expr e end_of-Expr)) = parenthesised_keeps called place _ (fresh_keeps called (spine e) _ (λ n. value_keeps called n e))
  value_keeps called first (expr.Index' place _ (more_of-Expr a end_of-Expr) _ (more_of-Expr i end_of-Expr)) =
      as_called called _ (element_keeps place _ _ (value_keeps false first a) (fresh_keeps false (spine i) _ (λ n. value_keeps false n i)))
  value_keeps called first (expr.Call' place _ (more_of-Expr f end_of-Expr) _ es) =
      as_called called _ (call_keeps place (first + spine f) _ _ (value_keeps true first f) (λ s lawful. arguments_keep [] es s lawful tt))
  value_keeps called first (expr.Access' place _ (more_of-Expr e end_of-Expr) operator at) = as_called called _ (access_keeps place operator at _ (value_keeps false first e))
  value_keeps called first (expr.Step' place _ (more_of-Expr e end_of-Expr) operator) = as_called called _ (postfixes_keep place operator _ (value_keeps false first e))
  value_keeps called first (expr.Unary' place operator _ (more_of-Expr e end_of-Expr)) =
      as_called called _ (unaries_keep place operator _ (fresh_keeps false (spine e) _ (λ n. value_keeps false n e)))
  value_keeps called first (expr.SizeofType' place _ (more_of-TypeName at _ specs _ (more_of-Declarator d end_of-Declarator) end_of-TypeName)) =
      as_called called _ (sizes_of_types_keep place _ (type_names_keep at _ _ (λ t t_lawful. specifiers_keep specs no_specifiers t t_lawful (none_formed t)) (declarator_keeps d)))
  value_keeps called first (expr.Cast' place _ (more_of-TypeName at _ specs _ (more_of-Declarator d end_of-Declarator) end_of-TypeName) _ (more_of-Expr e end_of-Expr)) =
      as_called called _ (casts_keep place _ _ (type_names_keep at _ _ (λ t t_lawful. specifiers_keep specs no_specifiers t t_lawful (none_formed t)) (declarator_keeps d)) (fresh_keeps false (spine e) _ (λ n. value_keeps false n e)))
  value_keeps called first (expr.Binary' place _ (more_of-Expr a end_of-Expr) operator at _ (more_of-Expr b end_of-Expr)) =
      as_called called _ (operations_keep place operator _ _ (value_keeps false first a) (fresh_keeps false (spine b) _ (λ n. value_keeps false n b)))
  value_keeps called first (expr.Conditional' place _ (more_of-Expr c end_of-Expr) _ (more_of-Expr a end_of-Expr) _ (more_of-Expr b end_of-Expr)) =
      as_called called _ (choice_keeps place _ _ _ (value_keeps false first c) (fresh_keeps false (spine a) _ (λ n. value_keeps false n a))
      (fresh_keeps false (spine b) _ (λ n. value_keeps false n b)))
  value_keeps called first (expr.Assignment' place _ (more_of-Expr a end_of-Expr) operator at _ (more_of-Expr b end_of-Expr)) =
      as_called called _ (assignment_keeps place operator _ _ (value_keeps false first a) (fresh_keeps false (spine b) _ (λ n. value_keeps false n b)))

  arguments_keep : {n : _} (given : List Operand) (es : Row_of-Expr n) (s : Seen) → Lawful s → AreGiven given s
      → Triple (AreTypedGiven given) AreGiven AreTypedGiven s (arguments given es s)
  arguments_keep given end_of-Expr s lawful known = gives_keeps s given lawful known (λ u leads knows p. p)
  arguments_keep given (more_of-Expr e es) s lawful known =
      argument_keeps (AreTypedGiven given) given _ _ (fresh_keeps false (spine e) _ (λ n. value_keeps false n e))
      (λ all asked t t_lawful all_known all_typed. under (AreTypedGiven all) asked t _ (λ u leads p. all_typed u p) (arguments_keep all es t t_lawful all_known)) s lawful known (λ u p. p)

  pub specifiers_keep : {n : _} (specs : Row_of-Spec n) (b : Specifiers) (s : Seen) → Lawful s → AreSpecified b s → Triple Always AreSpecified Silent s (specifiers specs b s)
  specifiers_keep end_of-Spec b s lawful known = gives_keeps s b lawful known (λ u leads knows p. tt)
  specifiers_keep (more_of-Spec x xs) b s lawful known =
      then_keeps s (specifier x b s) _ (specifier_keeps x b s lawful known) (λ next t t_lawful t_stay next_known.
      anyway t _ (specifiers_keep xs next t t_lawful next_known))

  pub specifier_keeps : (x : Spec) (b : Specifiers) (s : Seen) → Lawful s → AreSpecified b s → Triple Always AreSpecified Silent s (specifier x b s)
  specifier_keeps (spec.Storage p word) b s lawful known = storage_keeps word b s lawful known
  specifier_keeps (spec.Function p word) b s lawful known = function_word_keeps word b s lawful known
  specifier_keeps (spec.Qualifier p word) b s lawful known = specified_same s b b lawful known refl
  specifier_keeps (spec.«Type» p word) b s lawful known = type_word_keeps word b s lawful known
  specifier_keeps (spec.TypedefName name) b s lawful known = typedef_name_keeps name b s lawful
  specifier_keeps (spec.Attribute a) b s lawful known = attribute_keeps a b s lawful known
  specifier_keeps (spec.StructName p name) b s lawful known = structure_name_keeps name b s lawful
  specifier_keeps (spec.Struct' p tag _ ms) b s lawful known = structure_keeps p tag _ b (λ t t_lawful. member_lines_keep ms [] t t_lawful tt) s lawful
  specifier_keeps (spec.EnumName p name) b s lawful known = enumeration_name_keeps name b s lawful
  specifier_keeps (spec.Enum' p tag _ constants) b s lawful known = enumeration_keeps tag _ b (λ t t_lawful. enumerators_keep constants (Some 0) t t_lawful (omega arith)) s lawful

  member_lines_keep : {n : _} (ms : Row_of-Member n) (before : List MemberInfo) (s : Seen) → Lawful s → AreMembers before s
      → Triple Always AreMembers Silent s (member_lines ms before s)
  member_lines_keep end_of-Member before s lawful known = gives_keeps s before lawful known (λ u leads knows p. tt)
  member_lines_keep (more_of-Member p _ specs _ ds ms) before s lawful known =
      then_keeps s (specifiers specs no_specifiers s) _ (specifiers_keep specs no_specifiers s lawful (none_formed s)) (λ b t t_lawful t_stay b_known.
      then_keeps t (members ds b before t) _
      (anyway t _ (all_members_keep ds b before t t_lawful b_known (members_stay s.structures t.structures before t_stay lawful.open_are_empty known))) (λ now v v_lawful v_stay now_known.
      anyway v _ (member_lines_keep ms now v v_lawful now_known)))

  all_members_keep : {n : _} (ds : Row_of-Declarator n) (b : Specifiers) (before : List MemberInfo) (s : Seen) → Lawful s → AreSpecified b s → AreMembers before s
      → Triple Always AreMembers Silent s (members ds b before s)
  all_members_keep end_of-Declarator b before s lawful b_known known = gives_keeps s before lawful known (λ u leads knows p. tt)
  all_members_keep (more_of-Declarator d ds) b before s lawful b_known known =
      then_keeps s (member b (declarator d) before s) _ (members_keep b (declarator d) before (declarator_keeps d) s lawful b_known known) (λ now t t_lawful t_stay now_known.
      anyway t _ (all_members_keep ds b now t t_lawful (specified_stays b s t t_stay lawful.open_are_empty b_known) now_known))

  enumerators_keep : {n : _} (es : Row_of-Enumerator n) (next : Option ℕ) (s : Seen) → Lawful s → NextFits next s → Triple Always NextFits Silent s (enumerators es next s)
  enumerators_keep end_of-Enumerator next s lawful fits = gives_keeps s next lawful fits (λ u leads knows p. tt)
  enumerators_keep (more_of-Enumerator name constant es) next s lawful fits =
      then_keeps s (enumerator name (written_of constant) next s) _ (enumerator_keeps name (written_of constant) next (written_keeps constant) s lawful fits) (λ now t t_lawful t_stay now_fits.
      anyway t _ (enumerators_keep es now t t_lawful now_fits))

  written_keeps : (size : Held-Declarator-Array-2) → WrittenKeeps (written_of size)
  written_keeps of_declarator.None' = tt
  written_keeps (of_declarator.Some' _ (more_of-Expr e end_of-Expr)) = fresh_keeps false (spine e) _ (λ n. value_keeps false n e)

  pub declarator_keeps : (d : Declarator) → Keeps Always IsShaped Silent (declarator d)
  declarator_keeps (of_declarator.Name name) s lawful = gives_keeps s (bare (Some name)) lawful tt (λ u leads knows p. tt)
  declarator_keeps of_declarator.Absent s lawful = gives_keeps s (bare None) lawful tt (λ u leads knows p. tt)
  declarator_keeps (of_declarator.Pointer' p qualifiers _ (more_of-Declarator d end_of-Declarator)) s lawful = pointers_keep (declarator d) (declarator_keeps d) s lawful
  declarator_keeps (of_declarator.Parenthesised' p _ (more_of-Declarator d end_of-Declarator)) s lawful = declarator_keeps d s lawful
  declarator_keeps (of_declarator.Array' _ (more_of-Declarator d end_of-Declarator) p size) s lawful =
      arrays_keep (declarator d) (written_of size) (declarator_keeps d) (written_keeps size) s lawful
  declarator_keeps (of_declarator.Function' _ (more_of-Declarator d end_of-Declarator) p ps attributes) s lawful =
      functions_keep (declarator d) (parameter_list ps) attributes (declarator_keeps d) (λ t t_lawful. parameter_list_left ps t t_lawful) s lawful

  parameter_list_left : (ps : Parameters) (s : Seen) → Lawful s → Left (Calmly AreParameters s) s (parameter_list ps s)
  parameter_list_left (params.List' _ ps) s lawful = parameters_left ps [] s lawful tt
  parameter_list_left params.Empty s lawful = gives_left (Calmly AreParameters s) s [] lawful (tt, calm_same s)
  parameter_list_left (params.Void p) s lawful = gives_left (Calmly AreParameters s) s [] lawful (tt, calm_same s)

  parameters_left : {n : _} (ps : Row_of-Param n) (before : List Parameter) (s : Seen) → Lawful s → AreParameters before s
      → Left (Calmly AreParameters s) s (parameters ps before s)
  parameters_left end_of-Param before s lawful known = gives_left (Calmly AreParameters s) s before lawful (known, calm_same s)
  parameters_left (more_of-Param p _ specs _ (more_of-Declarator d end_of-Declarator) ps) before s lawful known =
      then_left s (parameter p (specifiers specs no_specifiers) (declarator d) before s) _
      (parameter_left p (specifiers specs no_specifiers) (declarator d) before (λ t t_lawful. specifiers_keep specs no_specifiers t t_lawful (none_formed t)) (declarator_keeps d) s lawful known) (λ now t h.
      left_as (Calmly AreParameters t) (Calmly AreParameters s) t _ (parameters_left ps now t h.lawful h.known.0) (λ all v g. (g.known.0, calm_twice s t v h.known.1 g.known.1)))

-- an expression that begins where none around it does
pub expression_keeps : (e : Expr) → Keeps Always IsFound (IsTypedFound false) (expression e)
unfolding expression
expression_keeps e = fresh_keeps false (spine e) _ (λ n. value_keeps false n e)
