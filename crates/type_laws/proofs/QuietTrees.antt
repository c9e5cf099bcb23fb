-- All rules along the tree add no level but where a conversion is warned of, each by the rule of its form.
use Rattle.std.proofs.Common.{ℕ, ◌+◌, Bool, true, false, refl, List, [], Option, Some, None}
use Rattle.c_tree.specs.declared.expressions.Declarator as of_declarator
use Rattle.c_tree.specs.declared.expressions.Declarator.{Declarator, Row_of-Declarator, end_of-Declarator, more_of-Declarator, Held-Declarator-Array-2}
use Rattle.c_tree.specs.declared.expressions.Expr as expr
use Rattle.c_tree.specs.declared.expressions.Expr.{Expr, Row_of-Expr, end_of-Expr, more_of-Expr, end_of-TypeName, more_of-TypeName}
use Rattle.c_tree.specs.declared.expressions.Parameters as params
use Rattle.c_tree.specs.declared.expressions.Parameters.{Parameters, Row_of-Param, end_of-Param, more_of-Param}
use Rattle.c_tree.specs.declared.expressions.Spec as spec
use Rattle.c_tree.specs.declared.expressions.Spec.{Spec, Row_of-Spec, end_of-Spec, more_of-Spec, Row_of-Member, end_of-Member, more_of-Member, Row_of-Enumerator, end_of-Enumerator, more_of-Enumerator}
use Rattle.c_tree.specs.declared.expressions.StepOperator.{StepOperator}
use Rattle.c_tree.specs.declared.expressions.StepOperator.TheVariants as written_step
use Rattle.c_tree.specs.declared.expressions.UnaryOperator.{UnaryOperator}
use Rattle.c_tree.specs.declared.expressions.UnaryOperator.TheVariants as written
use Rattle.core_unit.specs.declared.operators.ArithmeticOperator.TheVariants as arithmetic
use Rattle.core_unit.specs.declared.operators.StepValue.TheVariants.{Prefix, Postfix}
use Rattle.core_unit.specs.declared.operators.UnaryOperator.TheVariants as unary_operator
use Rattle.core_unit.specs.declared.tables.MemberInfo.{MemberInfo}
use Rattle.type_rules.specs.Calls.{spine}
use Rattle.type_rules.specs.Declarators.{bare, parameter, member}
use Rattle.type_rules.specs.declared.declarators.Parameter.{Parameter}
use Rattle.type_rules.specs.Expressions.{unary, postfix}
use Rattle.type_rules.specs.Reading.{Read, and_then}
use Rattle.type_rules.specs.Recursion.{value, arguments, specifiers, specifier, member_lines, members, enumerators, written as written_of, declarator, parameter_list, parameters, expression}
use Rattle.type_rules.specs.Seen.{Seen}
use Rattle.type_rules.specs.Specifiers.{no_specifiers, enumerator}
use Rattle.type_rules.specs.declared.found.Found.{Found}
use Rattle.type_rules.specs.declared.found.Operand.{Operand}
use Rattle.type_rules.specs.declared.specifiers.Specifiers.{Specifiers}
use Rattle.type_laws.proofs.Quiet.{Always, Anything, Quiet, Quietly, then_quiet, gives_quiet, anyway, under_quiet}
use Rattle.type_laws.proofs.QuietAccess.{assignment_quiet, step_quiet, indirection_quiet, element_quiet, access_quiet, address_quiet, size_of_expression_quiet, size_of_type_quiet}
use Rattle.type_laws.proofs.QuietCalls.{QuietGiven, call_quiet, argument_quiet, fresh_quiet, names_quiet, numbers_quiet, characters_quiet, texts_quiet, parenthesised_quiet, cast_quiet}
use Rattle.type_laws.proofs.QuietOperands.{QuietFound}
use Rattle.type_laws.proofs.QuietOperations.{operation_quiet, sign_operation_quiet, negation_quiet, choice_quiet}
use Rattle.type_laws.proofs.QuietSpecifiers.{steady, WrittenQuiet, typedef_name_quiet, structure_name_quiet, structure_quiet, enumeration_name_quiet, enumeration_quiet, enumerator_quiet, pointer_part_quiet, array_part_quiet, function_part_quiet, parameter_quiet, type_name_quiet, member_quiet}

unaries_quiet : (place : ℕ) (operator : UnaryOperator) (expression : Seen → Read Found) → Quietly QuietFound expression → Quietly QuietFound (unary place operator expression)
unaries_quiet place written.Increment expression keeps = step_quiet place arithmetic.Add Prefix expression keeps
unaries_quiet place written.Decrement expression keeps = step_quiet place arithmetic.Subtract Prefix expression keeps
unaries_quiet place written.Address expression keeps = address_quiet place expression keeps
unaries_quiet place written.Indirection expression keeps = indirection_quiet place expression keeps
unaries_quiet place written.Plus expression keeps = sign_operation_quiet place unary_operator.Plus expression (λ sign. refl) keeps
unaries_quiet place written.Minus expression keeps = sign_operation_quiet place unary_operator.Minus expression (λ sign. refl) keeps
unaries_quiet place written.Complement expression keeps = sign_operation_quiet place unary_operator.Complement expression (λ sign. refl) keeps
unaries_quiet place written.Not expression keeps = negation_quiet place expression keeps
unaries_quiet place written.Sizeof expression keeps = size_of_expression_quiet place expression keeps

postfixes_quiet : (place : ℕ) (operator : StepOperator) (expression : Seen → Read Found) → Quietly QuietFound expression → Quietly QuietFound (postfix place operator expression)
postfixes_quiet place written_step.Increment expression keeps = step_quiet place arithmetic.Add Postfix expression keeps
postfixes_quiet place written_step.Decrement expression keeps = step_quiet place arithmetic.Subtract Postfix expression keeps

mutual
  unfolding value and_then

  pub value_quiet : (called : Bool) (first : ℕ) (e : Expr) → Quietly QuietFound (value called first e)
  value_quiet called first (expr.Name at) = names_quiet called at
  value_quiet called first (expr.Number at) = numbers_quiet at
  value_quiet called first (expr.Character at) = characters_quiet at
  value_quiet called first (expr.Text strings) = texts_quiet strings
  value_quiet called first (expr.Parenthesised' place _ (more_of-Expr e end_of-Expr)) = parenthesised_quiet place _ (fresh_quiet (spine e) _ (λ n. value_quiet called n e))
  value_quiet called first (expr.Index' place _ (more_of-Expr a end_of-Expr) _ (more_of-Expr i end_of-Expr)) =
      element_quiet place _ _ (value_quiet false first a) (fresh_quiet (spine i) _ (λ n. value_quiet false n i))
  value_quiet called first (expr.Call' place _ (more_of-Expr f end_of-Expr) _ es) =
      call_quiet place (first + spine f) _ _ (value_quiet true first f) (λ s. under_quiet Always s _ (λ u p. tt) (arguments_quiet [] es s))
  value_quiet called first (expr.Access' place _ (more_of-Expr e end_of-Expr) operator at) = access_quiet place operator at _ (value_quiet false first e)
  value_quiet called first (expr.Step' place _ (more_of-Expr e end_of-Expr) operator) = postfixes_quiet place operator _ (value_quiet false first e)
  value_quiet called first (expr.Unary' place operator _ (more_of-Expr e end_of-Expr)) =
      unaries_quiet place operator _ (fresh_quiet (spine e) _ (λ n. value_quiet false n e))
  value_quiet called first (expr.SizeofType' place _ (more_of-TypeName at _ specs _ (more_of-Declarator d end_of-Declarator) end_of-TypeName)) =
      size_of_type_quiet place _ (type_name_quiet at _ _ (specifiers_quiet specs no_specifiers) (declarator_quiet d))
  value_quiet called first (expr.Cast' place _ (more_of-TypeName at _ specs _ (more_of-Declarator d end_of-Declarator) end_of-TypeName) _ (more_of-Expr e end_of-Expr)) =
      cast_quiet place _ _ (type_name_quiet at _ _ (specifiers_quiet specs no_specifiers) (declarator_quiet d)) (fresh_quiet (spine e) _ (λ n. value_quiet false n e))
  value_quiet called first (expr.Binary' place _ (more_of-Expr a end_of-Expr) operator at _ (more_of-Expr b end_of-Expr)) =
      operation_quiet place operator _ _ (value_quiet false first a) (fresh_quiet (spine b) _ (λ n. value_quiet false n b))
  value_quiet called first (expr.Conditional' place _ (more_of-Expr c end_of-Expr) _ (more_of-Expr a end_of-Expr) _ (more_of-Expr b end_of-Expr)) =
      choice_quiet place _ _ _ (value_quiet false first c) (fresh_quiet (spine a) _ (λ n. value_quiet false n a)) (fresh_quiet (spine b) _ (λ n. value_quiet false n b))
  value_quiet called first (expr.Assignment' place _ (more_of-Expr a end_of-Expr) operator at _ (more_of-Expr b end_of-Expr)) =
      assignment_quiet place operator _ _ (value_quiet false first a) (fresh_quiet (spine b) _ (λ n. value_quiet false n b))

  arguments_quiet : {n : _} (given : List Operand) (es : Row_of-Expr n) (s : Seen) → Quiet (QuietGiven given) QuietGiven s (arguments given es s)
  arguments_quiet given end_of-Expr s = gives_quiet s given (λ u ends p. p)
  arguments_quiet given (more_of-Expr e es) s =
      argument_quiet (QuietGiven given) given _ _ (fresh_quiet (spine e) _ (λ n. value_quiet false n e))
      (λ all asked t all_given. under_quiet asked t _ all_given (arguments_quiet all es t)) s (λ u p. p)

  pub specifiers_quiet : {n : _} (specs : Row_of-Spec n) (b : Specifiers) → Quietly Anything (specifiers specs b)
  specifiers_quiet end_of-Spec b s = steady s b
  specifiers_quiet (more_of-Spec x xs) b s =
      then_quiet s (specifier x b s) _ (specifier_quiet x b s) (λ next t. anyway t _ (specifiers_quiet xs next t))

  pub specifier_quiet : (x : Spec) (b : Specifiers) → Quietly Anything (specifier x b)
  specifier_quiet (spec.Storage p word) b s = steady s _
  specifier_quiet (spec.Function p word) b s = steady s _
  specifier_quiet (spec.Qualifier p word) b s = steady s b
  specifier_quiet (spec.«Type» p word) b s = steady s _
  specifier_quiet (spec.TypedefName name) b s = typedef_name_quiet name b s
  specifier_quiet (spec.Attribute a) b s = steady s _
  specifier_quiet (spec.StructName p name) b s = structure_name_quiet name b s
  specifier_quiet (spec.Struct' p tag _ ms) b s = structure_quiet p tag _ b (member_lines_quiet ms []) s
  specifier_quiet (spec.EnumName p name) b s = enumeration_name_quiet name b s
  specifier_quiet (spec.Enum' p tag _ constants) b s = enumeration_quiet tag _ b (enumerators_quiet constants (Some 0)) s

  member_lines_quiet : {n : _} (ms : Row_of-Member n) (before : List MemberInfo) → Quietly Anything (member_lines ms before)
  member_lines_quiet end_of-Member before s = steady s before
  member_lines_quiet (more_of-Member p _ specs _ ds ms) before s =
      then_quiet s (specifiers specs no_specifiers s) _ (specifiers_quiet specs no_specifiers s) (λ b t.
      then_quiet t (members ds b before t) _ (anyway t _ (all_members_quiet ds b before t)) (λ now v.
      anyway v _ (member_lines_quiet ms now v)))

  all_members_quiet : {n : _} (ds : Row_of-Declarator n) (b : Specifiers) (before : List MemberInfo) → Quietly Anything (members ds b before)
  all_members_quiet end_of-Declarator b before s = steady s before
  all_members_quiet (more_of-Declarator d ds) b before s =
      then_quiet s (member b (declarator d) before s) _ (member_quiet b (declarator d) before (declarator_quiet d) s) (λ now t.
      anyway t _ (all_members_quiet ds b now t))

  enumerators_quiet : {n : _} (es : Row_of-Enumerator n) (next : Option ℕ) → Quietly Anything (enumerators es next)
  enumerators_quiet end_of-Enumerator next s = steady s next
  enumerators_quiet (more_of-Enumerator name constant es) next s =
      then_quiet s (enumerator name (written_of constant) next s) _ (enumerator_quiet name (written_of constant) next (written_quiet constant) s) (λ now t.
      anyway t _ (enumerators_quiet es now t))

  written_quiet : (size : Held-Declarator-Array-2) → WrittenQuiet (written_of size)
  written_quiet of_declarator.None' = tt
  written_quiet (of_declarator.Some' _ (more_of-Expr e end_of-Expr)) = fresh_quiet (spine e) _ (λ n. value_quiet false n e)

  pub declarator_quiet : (d : Declarator) → Quietly Anything (declarator d)
  declarator_quiet (of_declarator.Name name) s = steady s (bare (Some name))
  declarator_quiet of_declarator.Absent s = steady s (bare None)
  declarator_quiet (of_declarator.Pointer' p qualifiers _ (more_of-Declarator d end_of-Declarator)) s = pointer_part_quiet (declarator d) (declarator_quiet d) s
  declarator_quiet (of_declarator.Parenthesised' p _ (more_of-Declarator d end_of-Declarator)) s = declarator_quiet d s
  declarator_quiet (of_declarator.Array' _ (more_of-Declarator d end_of-Declarator) p size) s =
      array_part_quiet (declarator d) (written_of size) (declarator_quiet d) (written_quiet size) s
  declarator_quiet (of_declarator.Function' _ (more_of-Declarator d end_of-Declarator) p ps attributes) s =
      function_part_quiet (declarator d) (parameter_list ps) attributes (declarator_quiet d) (parameter_list_quiet ps) s

  parameter_list_quiet : (ps : Parameters) → Quietly Anything (parameter_list ps)
  parameter_list_quiet (params.List' _ ps) s = parameters_quiet ps [] s
  parameter_list_quiet params.Empty s = steady s []
  parameter_list_quiet (params.Void p) s = steady s []

  parameters_quiet : {n : _} (ps : Row_of-Param n) (before : List Parameter) → Quietly Anything (parameters ps before)
  parameters_quiet end_of-Param before s = steady s before
  parameters_quiet (more_of-Param p _ specs _ (more_of-Declarator d end_of-Declarator) ps) before s =
      then_quiet s (parameter p (specifiers specs no_specifiers) (declarator d) before s) _
      (parameter_quiet p (specifiers specs no_specifiers) (declarator d) before (specifiers_quiet specs no_specifiers) (declarator_quiet d) s) (λ now t.
      anyway t _ (parameters_quiet ps now t))

-- an expression that begins where none around it does
pub expression_quiet : (e : Expr) → Quietly QuietFound (expression e)
unfolding expression
expression_quiet e = fresh_quiet (spine e) _ (λ n. value_quiet false n e)
