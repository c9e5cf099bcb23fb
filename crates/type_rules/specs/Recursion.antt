-- How rules are read along the tree: expressions, type names, specifiers, declarators and parameters lead to one another. Each line hands
-- the rules of the parts to the rule of the form, which says in which order they are read.
use Rattle.std.specs.Prelude.{ℕ, ◌+◌, Bool, true, false, List, [], Option, Some, None}
use Rattle.c_tree.specs.declared.expressions.Declarator as of_declarator
use Rattle.c_tree.specs.declared.expressions.Declarator.{Declarator, Row_of-Declarator, end_of-Declarator, more_of-Declarator, Held-Declarator-Array-2}
use Rattle.c_tree.specs.declared.expressions.Expr as expr
use Rattle.c_tree.specs.declared.expressions.Expr.{Expr, Row_of-Expr, end_of-Expr, more_of-Expr, Row_of-TypeName, end_of-TypeName, more_of-TypeName}
use Rattle.c_tree.specs.declared.expressions.Parameters as params
use Rattle.c_tree.specs.declared.expressions.Parameters.{Parameters, Row_of-Param, end_of-Param, more_of-Param}
use Rattle.c_tree.specs.declared.expressions.Spec as spec
use Rattle.c_tree.specs.declared.expressions.Spec.{Spec, Row_of-Spec, end_of-Spec, more_of-Spec, Row_of-Member, end_of-Member, more_of-Member, Row_of-Enumerator, end_of-Enumerator, more_of-Enumerator}
use Rattle.core_unit.specs.declared.tables.MemberInfo.{MemberInfo}
use Rattle.type_rules.specs.Declarators.{Shape, Parameter, bare, pointer_part, array_part, function_part, parameter, member, type_name}
use Rattle.type_rules.specs.Access.{access, element, size_of_type}
use Rattle.type_rules.specs.Assignments.{assignment}
use Rattle.type_rules.specs.Calls.{call, fresh, spine}
use Rattle.type_rules.specs.Conversions.{cast}
use Rattle.type_rules.specs.Expressions.{unary, postfix, with_argument}
use Rattle.type_rules.specs.declared.found.Operand.{Operand}
use Rattle.type_rules.specs.Operators.{operation, choice}
use Rattle.type_rules.specs.Primaries.{name, number, character, text, parenthesised}
use Rattle.type_rules.specs.declared.found.Found.{Found}
use Rattle.type_rules.specs.Reading.{Rule, ◌>>=◌, gives}
use Rattle.type_rules.specs.Specifiers.{Specifiers, no_specifiers, with_storage, with_function_word, with_attribute, with_type_word, typedef_name, structure_name, structure, enumeration_name, enumeration, enumerator}

unfoldable mutual
  -- An expression. `called`: it is what a call calls, parentheses aside. The calls that begin at its first token have their sites from `first` on.
  pub value : Bool → ℕ → Expr → Rule Found
  value called first (expr.Name at) = name called at
  value called first (expr.Number at) = number at
  value called first (expr.Character at) = character at
  value called first (expr.Text strings) = text strings
  value called first (expr.Parenthesised' place _ (more_of-Expr e end_of-Expr)) = parenthesised place (fresh (spine e) (λ n. value called n e))
  value called first (expr.Index' place _ (more_of-Expr a end_of-Expr) _ (more_of-Expr i end_of-Expr)) =
      element place (value false first a) (fresh (spine i) (λ n. value false n i))
  value called first (expr.Call' place _ (more_of-Expr f end_of-Expr) _ es) = call place (first + spine f) (value true first f) (arguments [] es)
  value called first (expr.Access' place _ (more_of-Expr e end_of-Expr) operator at) = access place operator at (value false first e)
  value called first (expr.Step' place _ (more_of-Expr e end_of-Expr) operator) = postfix place operator (value false first e)
  value called first (expr.Unary' place operator _ (more_of-Expr e end_of-Expr)) = unary place operator (fresh (spine e) (λ n. value false n e))
  value called first (expr.SizeofType' place _ (more_of-TypeName at _ specs _ (more_of-Declarator d end_of-Declarator) end_of-TypeName)) =
      size_of_type place (type_name at (specifiers specs no_specifiers) (declarator d))
  value called first (expr.Cast' place _ (more_of-TypeName at _ specs _ (more_of-Declarator d end_of-Declarator) end_of-TypeName) _ (more_of-Expr e end_of-Expr)) =
      cast place (type_name at (specifiers specs no_specifiers) (declarator d)) (fresh (spine e) (λ n. value false n e))
  value called first (expr.Binary' place _ (more_of-Expr a end_of-Expr) operator at _ (more_of-Expr b end_of-Expr)) =
      operation place operator (value false first a) (fresh (spine b) (λ n. value false n b))
  value called first (expr.Conditional' place _ (more_of-Expr c end_of-Expr) _ (more_of-Expr a end_of-Expr) _ (more_of-Expr b end_of-Expr)) =
      choice place (value false first c) (fresh (spine a) (λ n. value false n a)) (fresh (spine b) (λ n. value false n b))
  value called first (expr.Assignment' place _ (more_of-Expr a end_of-Expr) operator at _ (more_of-Expr b end_of-Expr)) =
      assignment place operator (value false first a) (fresh (spine b) (λ n. value false n b))

  -- from the left, behind those that were read
  pub arguments : {n : _} → List Operand → Row_of-Expr n → Rule (List Operand)
  arguments given end_of-Expr = gives given
  arguments given (more_of-Expr e es) = with_argument given (fresh (spine e) (λ n. value false n e)) (λ all. arguments all es)

  -- the specifiers, in order, after those that were read
  pub specifiers : {n : _} → Row_of-Spec n → Specifiers → Rule Specifiers
  specifiers end_of-Spec b = gives b
  specifiers (more_of-Spec s ss) b = do
    next ← specifier s b
    specifiers ss next

  pub specifier : Spec → Specifiers → Rule Specifiers
  specifier (spec.Storage p word) b = gives (with_storage word b)
  specifier (spec.Function p word) b = gives (with_function_word word b)
  specifier (spec.Qualifier p word) b = gives b
  specifier (spec.«Type» p word) b = gives (with_type_word word b)
  specifier (spec.TypedefName name) b = typedef_name name b
  specifier (spec.Attribute a) b = gives (with_attribute a b)
  specifier (spec.StructName p name) b = structure_name name b
  specifier (spec.Struct' p tag _ ms) b = structure p tag (member_lines ms []) b
  specifier (spec.EnumName p name) b = enumeration_name name b
  specifier (spec.Enum' p tag _ constants) b = enumeration tag (enumerators constants (Some 0)) b

  -- the lines of members, behind the members before them
  pub member_lines : {n : _} → Row_of-Member n → List MemberInfo → Rule (List MemberInfo)
  member_lines end_of-Member before = gives before
  member_lines (more_of-Member p _ specs _ ds ms) before = do
    b ← specifiers specs no_specifiers
    now ← members ds b before
    member_lines ms now

  pub members : {n : _} → Row_of-Declarator n → Specifiers → List MemberInfo → Rule (List MemberInfo)
  members end_of-Declarator b before = gives before
  members (more_of-Declarator d ds) b before = do
    now ← member b (declarator d) before
    members ds b now

  -- the enumerators, the first of which has this value where none is written
  pub enumerators : {n : _} → Row_of-Enumerator n → Option ℕ → Rule (Option ℕ)
  enumerators end_of-Enumerator next = gives next
  enumerators (more_of-Enumerator name constant es) next = do
    now ← enumerator name (written constant) next
    enumerators es now

  -- the size of an array or the value of an enumerator, where it is written
  pub written : Held-Declarator-Array-2 → Option (Rule Found)
  written of_declarator.None' = None
  written (of_declarator.Some' _ (more_of-Expr e end_of-Expr)) = Some (fresh (spine e) (λ n. value false n e))

  pub declarator : Declarator → Rule Shape
  declarator (of_declarator.Name name) = gives (bare (Some name))
  declarator of_declarator.Absent = gives (bare None)
  declarator (of_declarator.Pointer' p qualifiers _ (more_of-Declarator d end_of-Declarator)) = pointer_part (declarator d)
  declarator (of_declarator.Parenthesised' p _ (more_of-Declarator d end_of-Declarator)) = declarator d
  declarator (of_declarator.Array' _ (more_of-Declarator d end_of-Declarator) p size) = array_part (declarator d) (written size)
  declarator (of_declarator.Function' _ (more_of-Declarator d end_of-Declarator) p ps attributes) =
      function_part (declarator d) (parameter_list ps) attributes

  pub parameter_list : Parameters → Rule (List Parameter)
  parameter_list (params.List' _ ps) = parameters ps []
  parameter_list _ = gives []

  pub parameters : {n : _} → Row_of-Param n → List Parameter → Rule (List Parameter)
  parameters end_of-Param before = gives before
  parameters (more_of-Param p _ specs _ (more_of-Declarator d end_of-Declarator) ps) before = do
    now ← parameter p (specifiers specs no_specifiers) (declarator d) before
    parameters ps now

-- an expression that begins where none around it does
unfoldable pub expression : Expr → Rule Found
expression e = fresh (spine e) (λ n. value false n e)
