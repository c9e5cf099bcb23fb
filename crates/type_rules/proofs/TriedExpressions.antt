-- The rules of expressions, tried: each row of the operators with right and with wrong operands, each fault, and its place. What is told of an
-- expression is its type and how many nodes it has, or the number and the place of its fault.
use Rattle.std.proofs.Common.{◌≡◌, refl, ℕ, [], ◌∷◌, Result, Ok, Err}
use Prim.Native.String.{String}
use Rattle.eff_types.specs.Effects.{plain}
use Rattle.eff_types.specs.declared.types.CType.{CType, Void, Char, Int, Unsigned, Mutex, Struct}
use Rattle.eff_types.specs.declared.types.CType.TheVariants as a_type
use Rattle.c_tree.specs.declared.expressions.AccessOperator.TheVariants.{Dot, Arrow}
use Rattle.c_tree.specs.declared.expressions.AssignmentOperator.TheVariants as assign
use Rattle.c_tree.specs.declared.expressions.BinaryOperator.TheVariants as binary
use Rattle.c_tree.specs.declared.expressions.Expr.{Expr}
use Rattle.c_tree.specs.declared.expressions.StepOperator.TheVariants as step
use Rattle.c_tree.specs.declared.expressions.UnaryOperator.TheVariants as prefix
use Rattle.c_tree.specs.declared.words.TypeWord.TheVariants as word
use Rattle.core_unit.specs.Shapes.{pointer_to, array_of}
use Rattle.type_rules.specs.Reading.{Read, Good, Bad}
use Rattle.type_rules.specs.declared.found.Found.{Found}
use Rattle.type_rules.specs.declared.found.Form.{Form}
use Rattle.type_rules.specs.declared.found.Form.TheVariants.{Lvalue, Value}
use Rattle.type_rules.proofs.Trees.{nam, num, chr, str, par, idx, call, mem, post, pre, named_type, size_type, cast, bin, choose, asg, at, pointer_with, nonblocking, takes_int, opening}
use Rattle.type_rules.specs.Access.{indirection, element, member, access, address, unevaluated, size, size_of_expression, size_of_type}
use Rattle.type_rules.specs.Assignments.{plain_assignment, number_update, pointer_update, compound_assignment, assignment, step_update, step as step_rule}
use Rattle.type_rules.specs.Calls.{spine, fresh, callee_in, callee, passed, call as call_rule}
use Rattle.type_rules.specs.Constants.{worth, is_null, number_constant}
use Rattle.type_rules.specs.Conversions.{converted, cast as cast_rule}
use Rattle.type_rules.specs.Expressions.{with_argument}
use Rattle.type_rules.specs.Literals.{number_in, character_in, text_in, text_initially}
use Rattle.type_rules.specs.Operands.{as_value, operand, lvalue, promoted, in_sign}
use Rattle.type_rules.specs.Operators.{pair_of, stride, arithmetic_on, shift_on, pointer_in_common, equality_on, logical_on, operation, sign_operation, negation, chosen_type, chosen, alternatives, choice}
use Rattle.type_rules.specs.Primaries.{name, number, character, holds_initially, string_object, text_found, text, parenthesised}
use Rattle.type_rules.specs.Reading.{and_then, name_number, scoped}
use Rattle.type_rules.specs.Recursion.{value, expression}
use Rattle.type_rules.specs.Sizes.{size_of}
use Rattle.type_rules.specs.Declarators.{pointer_part, made, type_name}
use Rattle.type_rules.specs.Types.{outermost_effects, with_effects}
use Rattle.type_rules.specs.Functions.{function_type, body_read}
use Rattle.core_unit.specs.Typing.{type_of}
use Rattle.core_unit.specs.Shapes.{callee_of}
use Rattle.core_unit.specs.Layout.{words_of}
use Rattle.core_unit.specs.Library.{row_type}
use Rattle.core_unit.specs.Nodes.{nodes, place_nodes}
use Rattle.core_unit.specs.Places.{spots}
use Rattle.eff_types.specs.Types.{points_to, same, without_effects, target_effects, without_outer_effects}
use Rattle.eff_types.specs.Conversion.{conversion}
use Rattle.eff_types.specs.Effects.{added, shared, union, conflict}
use denote.Hole.Carrier.{hidden}
use Rattle.core_unit.specs.declared.expressions.Expr.TheBlock.{hidden-the_row-Expr-0, shape-the_row-Expr-0, hidden-the_row-Place-1, shape-the_row-Place-1, hidden-the_row-Expr-2, shape-the_row-Expr-2}
use Rattle.c_tree.specs.declared.expressions.Declarator.TheBlock.{hidden-the_row-Declarator-0 as tree-hidden-the_row-Declarator-0, shape-the_row-Declarator-0 as tree-shape-the_row-Declarator-0, hidden-the_row-Declarator-6 as tree-hidden-the_row-Declarator-6, shape-the_row-Declarator-6 as tree-shape-the_row-Declarator-6, hidden-the_row-Expr-1 as tree-hidden-the_row-Expr-1, shape-the_row-Expr-1 as tree-shape-the_row-Expr-1, hidden-the_row-Expr-2 as tree-hidden-the_row-Expr-2, shape-the_row-Expr-2 as tree-shape-the_row-Expr-2, hidden-the_row-Spec-3 as tree-hidden-the_row-Spec-3, shape-the_row-Spec-3 as tree-shape-the_row-Spec-3, hidden-the_row-TypeName-4 as tree-hidden-the_row-TypeName-4, shape-the_row-TypeName-4 as tree-shape-the_row-TypeName-4}
use Rattle.eff_types.specs.declared.types.CType.TheBlock.{hidden-the_row-CType-0, shape-the_row-CType-0, hidden-the_row-CType-1, shape-the_row-CType-1}

abbrev form_nodes : Form → ℕ
form_nodes (Lvalue object) = place_nodes object
form_nodes (Value e) = nodes e

abbrev told : Read Found → Result (CType × ℕ) (ℕ × ℕ)
told (Good f s) = Ok (f.kind, form_nodes f.form)
told (Bad number place) = Err (number, place)

abbrev found_in : String → Expr → Result (CType × ℕ) (ℕ × ℕ)
found_in source e = told (expression e (opening source))

-- `*`, `/`, `%`, `&`, `^` and `|`
arithmetic_rows :
    found_in "i * j" (bin 0 (nam 0 1) binary.Multiply 2 (nam 4 5))
    ∷ found_in "c * i" (bin 0 (nam 0 1) binary.Multiply 2 (nam 4 5))
    ∷ found_in "c / u" (bin 0 (nam 0 1) binary.Divide 2 (nam 4 5))
    ∷ found_in "i % u" (bin 0 (nam 0 1) binary.Remainder 2 (nam 4 5))
    ∷ found_in "i & j" (bin 0 (nam 0 1) binary.And 2 (nam 4 5))
    ∷ found_in "u ^ c" (bin 0 (nam 0 1) binary.ExclusiveOr 2 (nam 4 5))
    ∷ found_in "i | 1" (bin 0 (nam 0 1) binary.Or 2 (num 4 5))
    ∷ found_in "p * i" (bin 0 (nam 0 1) binary.Multiply 2 (nam 4 5))
    ∷ found_in "i % p" (bin 0 (nam 0 1) binary.Remainder 2 (nam 4 5))
    ∷ found_in "s & i" (bin 0 (nam 0 1) binary.And 2 (nam 4 5))
    ∷ found_in "i & s" (bin 0 (nam 0 1) binary.And 2 (nam 4 5))
    ∷ found_in "1 * x" (bin 0 (num 0 1) binary.Multiply 2 (nam 4 5))
    ∷ found_in "i | l()" (bin 0 (nam 0 1) binary.Or 2 (call 4 (nam 4 5) ([])))
    ∷ []
    ≡ Ok (Int, 3) ∷ Ok (Int, 4) ∷ Ok (Unsigned, 5) ∷ Ok (Unsigned, 4) ∷ Ok (Int, 3) ∷ Ok (Unsigned, 5) ∷ Ok (Int, 3) ∷ Err (3, 0) ∷ Err (3, 0) ∷ Err (3, 0) ∷ Err (3, 4) ∷ Err (3, 4) ∷ Err (3, 0) ∷ []
unfolding indirection element member access address unevaluated size size_of_expression size_of_type plain_assignment number_update pointer_update compound_assignment assignment step_update step_rule spine fresh callee_in callee passed call_rule worth is_null number_constant converted cast_rule with_argument number_in character_in text_in text_initially as_value operand lvalue promoted in_sign pair_of stride arithmetic_on shift_on pointer_in_common equality_on logical_on operation sign_operation negation chosen_type chosen alternatives choice name number character holds_initially string_object text_found text parenthesised and_then name_number scoped value expression size_of pointer_part made type_name outermost_effects with_effects function_type body_read type_of callee_of words_of row_type nodes spots points_to same without_effects target_effects without_outer_effects conversion added shared union conflict hidden hidden-the_row-CType-0 shape-the_row-CType-0 hidden-the_row-CType-1 shape-the_row-CType-1 hidden-the_row-Expr-0 shape-the_row-Expr-0 hidden-the_row-Place-1 shape-the_row-Place-1 hidden-the_row-Expr-2 shape-the_row-Expr-2 tree-hidden-the_row-Declarator-0 tree-shape-the_row-Declarator-0 tree-hidden-the_row-Declarator-6 tree-shape-the_row-Declarator-6 tree-hidden-the_row-Expr-1 tree-shape-the_row-Expr-1 tree-hidden-the_row-Expr-2 tree-shape-the_row-Expr-2 tree-hidden-the_row-Spec-3 tree-shape-the_row-Spec-3 tree-hidden-the_row-TypeName-4 tree-shape-the_row-TypeName-4
arithmetic_rows = refl

-- `<<` and `>>`
shift_rows :
    found_in "c << u" (bin 0 (nam 0 1) binary.LeftShift 2 (nam 5 6))
    ∷ found_in "u >> c" (bin 0 (nam 0 1) binary.RightShift 2 (nam 5 6))
    ∷ found_in "p << 1" (bin 0 (nam 0 1) binary.LeftShift 2 (num 5 6))
    ∷ found_in "1 >> p" (bin 0 (num 0 1) binary.RightShift 2 (nam 5 6))
    ∷ []
    ≡ Ok (Int, 4) ∷ Ok (Unsigned, 4) ∷ Err (3, 0) ∷ Err (3, 0) ∷ []
unfolding indirection element member access address unevaluated size size_of_expression size_of_type plain_assignment number_update pointer_update compound_assignment assignment step_update step_rule spine fresh callee_in callee passed call_rule worth is_null number_constant converted cast_rule with_argument number_in character_in text_in text_initially as_value operand lvalue promoted in_sign pair_of stride arithmetic_on shift_on pointer_in_common equality_on logical_on operation sign_operation negation chosen_type chosen alternatives choice name number character holds_initially string_object text_found text parenthesised and_then name_number scoped value expression size_of pointer_part made type_name outermost_effects with_effects function_type body_read type_of callee_of words_of row_type nodes spots points_to same without_effects target_effects without_outer_effects conversion added shared union conflict hidden hidden-the_row-CType-0 shape-the_row-CType-0 hidden-the_row-CType-1 shape-the_row-CType-1 hidden-the_row-Expr-0 shape-the_row-Expr-0 hidden-the_row-Place-1 shape-the_row-Place-1 hidden-the_row-Expr-2 shape-the_row-Expr-2 tree-hidden-the_row-Declarator-0 tree-shape-the_row-Declarator-0 tree-hidden-the_row-Declarator-6 tree-shape-the_row-Declarator-6 tree-hidden-the_row-Expr-1 tree-shape-the_row-Expr-1 tree-hidden-the_row-Expr-2 tree-shape-the_row-Expr-2 tree-hidden-the_row-Spec-3 tree-shape-the_row-Spec-3 tree-hidden-the_row-TypeName-4 tree-shape-the_row-TypeName-4
shift_rows = refl

-- `+` and `-`
additive_rows :
    found_in "i + u" (bin 0 (nam 0 1) binary.Add 2 (nam 4 5))
    ∷ found_in "p + c" (bin 0 (nam 0 1) binary.Add 2 (nam 4 5))
    ∷ found_in "i + p" (bin 0 (nam 0 1) binary.Add 2 (nam 4 5))
    ∷ found_in "y + 1" (bin 0 (nam 0 1) binary.Add 2 (num 4 5))
    ∷ found_in "z + 1" (bin 0 (nam 0 1) binary.Add 2 (num 4 5))
    ∷ found_in "1 + z" (bin 0 (num 0 1) binary.Add 2 (nam 4 5))
    ∷ found_in "v + 1" (bin 0 (nam 0 1) binary.Add 2 (num 4 5))
    ∷ found_in "p + p" (bin 0 (nam 0 1) binary.Add 2 (nam 4 5))
    ∷ found_in "h + 1" (bin 0 (nam 0 1) binary.Add 2 (num 4 5))
    ∷ found_in "p - 1" (bin 0 (nam 0 1) binary.Subtract 2 (num 4 5))
    ∷ found_in "p - p" (bin 0 (nam 0 1) binary.Subtract 2 (nam 4 5))
    ∷ found_in "y - p" (bin 0 (nam 0 1) binary.Subtract 2 (nam 4 5))
    ∷ found_in "p - q" (bin 0 (nam 0 1) binary.Subtract 2 (nam 4 5))
    ∷ found_in "1 - p" (bin 0 (num 0 1) binary.Subtract 2 (nam 4 5))
    ∷ found_in "v - v" (bin 0 (nam 0 1) binary.Subtract 2 (nam 4 5))
    ∷ found_in "z - z" (bin 0 (nam 0 1) binary.Subtract 2 (nam 4 5))
    ∷ []
    ≡ Ok (Unsigned, 4) ∷ Ok ((pointer_to Int), 4) ∷ Ok ((pointer_to Int), 3) ∷ Ok ((pointer_to Int), 4) ∷ Err (10, 0) ∷ Err (10, 0) ∷ Err (3, 0) ∷ Err (3, 0) ∷ Err (3, 0) ∷ Ok ((pointer_to Int), 3) ∷ Ok (Int, 3) ∷ Ok (Int, 4) ∷ Err (3, 0) ∷ Err (3, 0) ∷ Err (3, 0) ∷ Err (10, 0) ∷ []
unfolding indirection element member access address unevaluated size size_of_expression size_of_type plain_assignment number_update pointer_update compound_assignment assignment step_update step_rule spine fresh callee_in callee passed call_rule worth is_null number_constant converted cast_rule with_argument number_in character_in text_in text_initially as_value operand lvalue promoted in_sign pair_of stride arithmetic_on shift_on pointer_in_common equality_on logical_on operation sign_operation negation chosen_type chosen alternatives choice name number character holds_initially string_object text_found text parenthesised and_then name_number scoped value expression size_of pointer_part made type_name outermost_effects with_effects function_type body_read type_of callee_of words_of row_type nodes spots points_to same without_effects target_effects without_outer_effects conversion added shared union conflict hidden hidden-the_row-CType-0 shape-the_row-CType-0 hidden-the_row-CType-1 shape-the_row-CType-1 hidden-the_row-Expr-0 shape-the_row-Expr-0 hidden-the_row-Place-1 shape-the_row-Place-1 hidden-the_row-Expr-2 shape-the_row-Expr-2 tree-hidden-the_row-Declarator-0 tree-shape-the_row-Declarator-0 tree-hidden-the_row-Declarator-6 tree-shape-the_row-Declarator-6 tree-hidden-the_row-Expr-1 tree-shape-the_row-Expr-1 tree-hidden-the_row-Expr-2 tree-shape-the_row-Expr-2 tree-hidden-the_row-Spec-3 tree-shape-the_row-Spec-3 tree-hidden-the_row-TypeName-4 tree-shape-the_row-TypeName-4
additive_rows = refl

-- `<`, `>`, `<=` and `>=`
ordering_rows :
    found_in "c < u" (bin 0 (nam 0 1) binary.Less 2 (nam 4 5))
    ∷ found_in "p < p" (bin 0 (nam 0 1) binary.Less 2 (nam 4 5))
    ∷ found_in "v <= v" (bin 0 (nam 0 1) binary.LessOrEqual 2 (nam 5 6))
    ∷ found_in "z >= z" (bin 0 (nam 0 1) binary.GreaterOrEqual 2 (nam 5 6))
    ∷ found_in "p > q" (bin 0 (nam 0 1) binary.Greater 2 (nam 4 5))
    ∷ found_in "p >= N" (bin 0 (nam 0 1) binary.GreaterOrEqual 2 (nam 5 6))
    ∷ found_in "p < 0" (bin 0 (nam 0 1) binary.Less 2 (num 4 5))
    ∷ found_in "h < h" (bin 0 (nam 0 1) binary.Less 2 (nam 4 5))
    ∷ found_in "P < Q" (bin 0 (nam 0 1) binary.Less 2 (nam 4 5))
    ∷ []
    ≡ Ok (Int, 5) ∷ Ok (Int, 3) ∷ Ok (Int, 3) ∷ Ok (Int, 3) ∷ Err (3, 0) ∷ Err (3, 0) ∷ Err (3, 0) ∷ Err (3, 0) ∷ Err (3, 0) ∷ []
unfolding indirection element member access address unevaluated size size_of_expression size_of_type plain_assignment number_update pointer_update compound_assignment assignment step_update step_rule spine fresh callee_in callee passed call_rule worth is_null number_constant converted cast_rule with_argument number_in character_in text_in text_initially as_value operand lvalue promoted in_sign pair_of stride arithmetic_on shift_on pointer_in_common equality_on logical_on operation sign_operation negation chosen_type chosen alternatives choice name number character holds_initially string_object text_found text parenthesised and_then name_number scoped value expression size_of pointer_part made type_name outermost_effects with_effects function_type body_read type_of callee_of words_of row_type nodes spots points_to same without_effects target_effects without_outer_effects conversion added shared union conflict hidden hidden-the_row-CType-0 shape-the_row-CType-0 hidden-the_row-CType-1 shape-the_row-CType-1 hidden-the_row-Expr-0 shape-the_row-Expr-0 hidden-the_row-Place-1 shape-the_row-Place-1 hidden-the_row-Expr-2 shape-the_row-Expr-2 tree-hidden-the_row-Declarator-0 tree-shape-the_row-Declarator-0 tree-hidden-the_row-Declarator-6 tree-shape-the_row-Declarator-6 tree-hidden-the_row-Expr-1 tree-shape-the_row-Expr-1 tree-hidden-the_row-Expr-2 tree-shape-the_row-Expr-2 tree-hidden-the_row-Spec-3 tree-shape-the_row-Spec-3 tree-hidden-the_row-TypeName-4 tree-shape-the_row-TypeName-4
ordering_rows = refl

-- `==` and `!=`
equality_rows :
    found_in "i == c" (bin 0 (nam 0 1) binary.Equal 2 (nam 5 6))
    ∷ found_in "p == 0" (bin 0 (nam 0 1) binary.Equal 2 (num 5 6))
    ∷ found_in "0 != p" (bin 0 (num 0 1) binary.NotEqual 2 (nam 5 6))
    ∷ found_in "p == N" (bin 0 (nam 0 1) binary.Equal 2 (nam 5 6))
    ∷ found_in "N == 0" (bin 0 (nam 0 1) binary.Equal 2 (num 5 6))
    ∷ found_in "N == N" (bin 0 (nam 0 1) binary.Equal 2 (nam 5 6))
    ∷ found_in "p == v" (bin 0 (nam 0 1) binary.Equal 2 (nam 5 6))
    ∷ found_in "v != q" (bin 0 (nam 0 1) binary.NotEqual 2 (nam 5 6))
    ∷ found_in "h == k" (bin 0 (nam 0 1) binary.Equal 2 (nam 5 6))
    ∷ found_in "h == N" (bin 0 (nam 0 1) binary.Equal 2 (nam 5 6))
    ∷ found_in "f == g" (bin 0 (nam 0 1) binary.Equal 2 (nam 5 6))
    ∷ found_in "p == o" (bin 0 (nam 0 1) binary.Equal 2 (nam 5 6))
    ∷ found_in "p == q" (bin 0 (nam 0 1) binary.Equal 2 (nam 5 6))
    ∷ found_in "p == i" (bin 0 (nam 0 1) binary.Equal 2 (nam 5 6))
    ∷ found_in "p == e" (bin 0 (nam 0 1) binary.Equal 2 (nam 5 6))
    ∷ found_in "h == v" (bin 0 (nam 0 1) binary.Equal 2 (nam 5 6))
    ∷ found_in "P == Q" (bin 0 (nam 0 1) binary.Equal 2 (nam 5 6))
    ∷ found_in "h == m" (bin 0 (nam 0 1) binary.Equal 2 (nam 5 6))
    ∷ []
    ≡ Ok (Int, 4) ∷ Ok (Int, 4) ∷ Ok (Int, 4) ∷ Ok (Int, 4) ∷ Ok (Int, 4) ∷ Ok (Int, 3) ∷ Ok (Int, 4) ∷ Ok (Int, 4) ∷ Ok (Int, 3) ∷ Ok (Int, 4) ∷ Ok (Int, 5) ∷ Ok (Int, 4) ∷ Err (3, 0) ∷ Err (3, 0) ∷ Err (3, 0) ∷ Err (3, 0) ∷ Err (3, 0) ∷ Err (3, 0) ∷ []
unfolding indirection element member access address unevaluated size size_of_expression size_of_type plain_assignment number_update pointer_update compound_assignment assignment step_update step_rule spine fresh callee_in callee passed call_rule worth is_null number_constant converted cast_rule with_argument number_in character_in text_in text_initially as_value operand lvalue promoted in_sign pair_of stride arithmetic_on shift_on pointer_in_common equality_on logical_on operation sign_operation negation chosen_type chosen alternatives choice name number character holds_initially string_object text_found text parenthesised and_then name_number scoped value expression size_of pointer_part made type_name outermost_effects with_effects function_type body_read type_of callee_of words_of row_type nodes spots points_to same without_effects target_effects without_outer_effects conversion added shared union conflict hidden hidden-the_row-CType-0 shape-the_row-CType-0 hidden-the_row-CType-1 shape-the_row-CType-1 hidden-the_row-Expr-0 shape-the_row-Expr-0 hidden-the_row-Place-1 shape-the_row-Place-1 hidden-the_row-Expr-2 shape-the_row-Expr-2 tree-hidden-the_row-Declarator-0 tree-shape-the_row-Declarator-0 tree-hidden-the_row-Declarator-6 tree-shape-the_row-Declarator-6 tree-hidden-the_row-Expr-1 tree-shape-the_row-Expr-1 tree-hidden-the_row-Expr-2 tree-shape-the_row-Expr-2 tree-hidden-the_row-Spec-3 tree-shape-the_row-Spec-3 tree-hidden-the_row-TypeName-4 tree-shape-the_row-TypeName-4
equality_rows = refl

-- null constants
null_rows :
    found_in "p == (void*)0" (bin 0 (nam 0 1) binary.Equal 2 (cast 5 (named_type 6 word.Void 1) (num 12 13)))
    ∷ found_in "h == (void*)0" (bin 0 (nam 0 1) binary.Equal 2 (cast 5 (named_type 6 word.Void 1) (num 12 13)))
    ∷ found_in "h == 1 - 1" (bin 0 (nam 0 1) binary.Equal 2 (bin 5 (num 5 6) binary.Subtract 7 (num 9 10)))
    ∷ found_in "h == (N)" (bin 0 (nam 0 1) binary.Equal 2 (par 5 (nam 6 7)))
    ∷ found_in "h == (void*)N" (bin 0 (nam 0 1) binary.Equal 2 (cast 5 (named_type 6 word.Void 1) (nam 12 13)))
    ∷ found_in "h == (int*)0" (bin 0 (nam 0 1) binary.Equal 2 (cast 5 (named_type 6 word.Int 1) (num 11 12)))
    ∷ found_in "h == 0 * i" (bin 0 (nam 0 1) binary.Equal 2 (bin 5 (num 5 6) binary.Multiply 7 (nam 9 10)))
    ∷ found_in "h == 1 / 0" (bin 0 (nam 0 1) binary.Equal 2 (bin 5 (num 5 6) binary.Divide 7 (num 9 10)))
    ∷ found_in "h == 1" (bin 0 (nam 0 1) binary.Equal 2 (num 5 6))
    ∷ []
    ≡ Ok (Int, 5) ∷ Ok (Int, 5) ∷ Ok (Int, 6) ∷ Ok (Int, 4) ∷ Err (3, 0) ∷ Err (3, 0) ∷ Err (3, 0) ∷ Err (3, 0) ∷ Err (3, 0) ∷ []
unfolding indirection element member access address unevaluated size size_of_expression size_of_type plain_assignment number_update pointer_update compound_assignment assignment step_update step_rule spine fresh callee_in callee passed call_rule worth is_null number_constant converted cast_rule with_argument number_in character_in text_in text_initially as_value operand lvalue promoted in_sign pair_of stride arithmetic_on shift_on pointer_in_common equality_on logical_on operation sign_operation negation chosen_type chosen alternatives choice name number character holds_initially string_object text_found text parenthesised and_then name_number scoped value expression size_of pointer_part made type_name outermost_effects with_effects function_type body_read type_of callee_of words_of row_type nodes spots points_to same without_effects target_effects without_outer_effects conversion added shared union conflict hidden hidden-the_row-CType-0 shape-the_row-CType-0 hidden-the_row-CType-1 shape-the_row-CType-1 hidden-the_row-Expr-0 shape-the_row-Expr-0 hidden-the_row-Place-1 shape-the_row-Place-1 hidden-the_row-Expr-2 shape-the_row-Expr-2 tree-hidden-the_row-Declarator-0 tree-shape-the_row-Declarator-0 tree-hidden-the_row-Declarator-6 tree-shape-the_row-Declarator-6 tree-hidden-the_row-Expr-1 tree-shape-the_row-Expr-1 tree-hidden-the_row-Expr-2 tree-shape-the_row-Expr-2 tree-hidden-the_row-Spec-3 tree-shape-the_row-Spec-3 tree-hidden-the_row-TypeName-4 tree-shape-the_row-TypeName-4
null_rows = refl

-- `!`, `&&`, `||`, and unary `+`, `-` and `~`
logical_rows :
    found_in "c && p" (bin 0 (nam 0 1) binary.LogicalAnd 2 (nam 5 6))
    ∷ found_in "h || 0" (bin 0 (nam 0 1) binary.LogicalOr 2 (num 5 6))
    ∷ found_in "i || s" (bin 0 (nam 0 1) binary.LogicalOr 2 (nam 5 6))
    ∷ found_in "i && l()" (bin 0 (nam 0 1) binary.LogicalAnd 2 (call 5 (nam 5 6) ([])))
    ∷ found_in "!c" (pre 0 prefix.Not (nam 1 2))
    ∷ found_in "!p" (pre 0 prefix.Not (nam 1 2))
    ∷ found_in "!f" (pre 0 prefix.Not (nam 1 2))
    ∷ found_in "!l()" (pre 0 prefix.Not (call 1 (nam 1 2) ([])))
    ∷ found_in "!s" (pre 0 prefix.Not (nam 1 2))
    ∷ found_in "-c" (pre 0 prefix.Minus (nam 1 2))
    ∷ found_in "+u" (pre 0 prefix.Plus (nam 1 2))
    ∷ found_in "~i" (pre 0 prefix.Complement (nam 1 2))
    ∷ found_in "~p" (pre 0 prefix.Complement (nam 1 2))
    ∷ found_in "-h" (pre 0 prefix.Minus (nam 1 2))
    ∷ []
    ≡ Ok (Int, 4) ∷ Ok (Int, 3) ∷ Err (3, 5) ∷ Err (3, 0) ∷ Ok (Int, 3) ∷ Ok (Int, 2) ∷ Ok (Int, 3) ∷ Err (3, 0) ∷ Err (3, 1) ∷ Ok (Int, 3) ∷ Ok (Unsigned, 2) ∷ Ok (Int, 2) ∷ Err (3, 0) ∷ Err (3, 0) ∷ []
unfolding indirection element member access address unevaluated size size_of_expression size_of_type plain_assignment number_update pointer_update compound_assignment assignment step_update step_rule spine fresh callee_in callee passed call_rule worth is_null number_constant converted cast_rule with_argument number_in character_in text_in text_initially as_value operand lvalue promoted in_sign pair_of stride arithmetic_on shift_on pointer_in_common equality_on logical_on operation sign_operation negation chosen_type chosen alternatives choice name number character holds_initially string_object text_found text parenthesised and_then name_number scoped value expression size_of pointer_part made type_name outermost_effects with_effects function_type body_read type_of callee_of words_of row_type nodes spots points_to same without_effects target_effects without_outer_effects conversion added shared union conflict hidden hidden-the_row-CType-0 shape-the_row-CType-0 hidden-the_row-CType-1 shape-the_row-CType-1 hidden-the_row-Expr-0 shape-the_row-Expr-0 hidden-the_row-Place-1 shape-the_row-Place-1 hidden-the_row-Expr-2 shape-the_row-Expr-2 tree-hidden-the_row-Declarator-0 tree-shape-the_row-Declarator-0 tree-hidden-the_row-Declarator-6 tree-shape-the_row-Declarator-6 tree-hidden-the_row-Expr-1 tree-shape-the_row-Expr-1 tree-hidden-the_row-Expr-2 tree-shape-the_row-Expr-2 tree-hidden-the_row-Spec-3 tree-shape-the_row-Spec-3 tree-hidden-the_row-TypeName-4 tree-shape-the_row-TypeName-4
logical_rows = refl

-- `?:`
conditional_rows :
    found_in "i ? c : c" (choose 0 (nam 0 1) (nam 4 5) (nam 8 9))
    ∷ found_in "i ? c : u" (choose 0 (nam 0 1) (nam 4 5) (nam 8 9))
    ∷ found_in "i ? l() : l()" (choose 0 (nam 0 1) (call 4 (nam 4 5) ([])) (call 10 (nam 10 11) ([])))
    ∷ found_in "i ? p : 0" (choose 0 (nam 0 1) (nam 4 5) (num 8 9))
    ∷ found_in "i ? p : v" (choose 0 (nam 0 1) (nam 4 5) (nam 8 9))
    ∷ found_in "i ? N : p" (choose 0 (nam 0 1) (nam 4 5) (nam 8 9))
    ∷ found_in "i ? 0 : N" (choose 0 (nam 0 1) (num 4 5) (nam 8 9))
    ∷ found_in "c ? p : p" (choose 0 (nam 0 1) (nam 4 5) (nam 8 9))
    ∷ found_in "i ? h : k" (choose 0 (nam 0 1) (nam 4 5) (nam 8 9))
    ∷ found_in "i ? k : h" (choose 0 (nam 0 1) (nam 4 5) (nam 8 9))
    ∷ found_in "i ? k : k" (choose 0 (nam 0 1) (nam 4 5) (nam 8 9))
    ∷ found_in "i ? y : p" (choose 0 (nam 0 1) (nam 4 5) (nam 8 9))
    ∷ found_in "i ? p : q" (choose 0 (nam 0 1) (nam 4 5) (nam 8 9))
    ∷ found_in "i ? p : 1" (choose 0 (nam 0 1) (nam 4 5) (num 8 9))
    ∷ found_in "i ? l() : 1" (choose 0 (nam 0 1) (call 4 (nam 4 5) ([])) (num 10 11))
    ∷ found_in "i ? P : Q" (choose 0 (nam 0 1) (nam 4 5) (nam 8 9))
    ∷ found_in "s ? i : i" (choose 0 (nam 0 1) (nam 4 5) (nam 8 9))
    ∷ found_in "l() ? i : i" (choose 0 (call 0 (nam 0 1) ([])) (nam 6 7) (nam 10 11))
    ∷ found_in "i ? s : s" (choose 0 (nam 0 1) (nam 4 5) (nam 8 9))
    ∷ []
    ≡ Ok (Int, 6) ∷ Ok (Unsigned, 6) ∷ Ok (Void, 6) ∷ Ok ((pointer_to Int), 5) ∷ Ok ((pointer_to Void), 5) ∷ Ok ((pointer_to Int), 5) ∷ Ok ((pointer_to Void), 5) ∷ Ok ((pointer_to Int), 4) ∷ Ok ((pointer_with plain), 5) ∷ Ok ((pointer_with plain), 5) ∷ Ok ((pointer_with nonblocking), 4) ∷ Ok ((pointer_to Int), 5) ∷ Err (3, 0) ∷ Err (3, 0) ∷ Err (3, 0) ∷ Err (3, 0) ∷ Err (3, 0) ∷ Err (3, 0) ∷ Err (3, 4) ∷ []
unfolding indirection element member access address unevaluated size size_of_expression size_of_type plain_assignment number_update pointer_update compound_assignment assignment step_update step_rule spine fresh callee_in callee passed call_rule worth is_null number_constant converted cast_rule with_argument number_in character_in text_in text_initially as_value operand lvalue promoted in_sign pair_of stride arithmetic_on shift_on pointer_in_common equality_on logical_on operation sign_operation negation chosen_type chosen alternatives choice name number character holds_initially string_object text_found text parenthesised and_then name_number scoped value expression size_of pointer_part made type_name outermost_effects with_effects function_type body_read type_of callee_of words_of row_type nodes spots points_to same without_effects target_effects without_outer_effects conversion added shared union conflict hidden hidden-the_row-CType-0 shape-the_row-CType-0 hidden-the_row-CType-1 shape-the_row-CType-1 hidden-the_row-Expr-0 shape-the_row-Expr-0 hidden-the_row-Place-1 shape-the_row-Place-1 hidden-the_row-Expr-2 shape-the_row-Expr-2 tree-hidden-the_row-Declarator-0 tree-shape-the_row-Declarator-0 tree-hidden-the_row-Declarator-6 tree-shape-the_row-Declarator-6 tree-hidden-the_row-Expr-1 tree-shape-the_row-Expr-1 tree-hidden-the_row-Expr-2 tree-shape-the_row-Expr-2 tree-hidden-the_row-Spec-3 tree-shape-the_row-Spec-3 tree-hidden-the_row-TypeName-4 tree-shape-the_row-TypeName-4
conditional_rows = refl

-- `,`
comma_rows :
    found_in "i, p" (bin 0 (nam 0 1) binary.Comma 1 (nam 3 4))
    ∷ found_in "i, y" (bin 0 (nam 0 1) binary.Comma 1 (nam 3 4))
    ∷ found_in "l(), c" (bin 0 (call 0 (nam 0 1) ([])) binary.Comma 3 (nam 5 6))
    ∷ found_in "s, i" (bin 0 (nam 0 1) binary.Comma 1 (nam 3 4))
    ∷ found_in "i, s" (bin 0 (nam 0 1) binary.Comma 1 (nam 3 4))
    ∷ []
    ≡ Ok ((pointer_to Int), 3) ∷ Ok ((pointer_to Int), 4) ∷ Ok (Char, 4) ∷ Err (3, 0) ∷ Err (3, 3) ∷ []
unfolding indirection element member access address unevaluated size size_of_expression size_of_type plain_assignment number_update pointer_update compound_assignment assignment step_update step_rule spine fresh callee_in callee passed call_rule worth is_null number_constant converted cast_rule with_argument number_in character_in text_in text_initially as_value operand lvalue promoted in_sign pair_of stride arithmetic_on shift_on pointer_in_common equality_on logical_on operation sign_operation negation chosen_type chosen alternatives choice name number character holds_initially string_object text_found text parenthesised and_then name_number scoped value expression size_of pointer_part made type_name outermost_effects with_effects function_type body_read type_of callee_of words_of row_type nodes spots points_to same without_effects target_effects without_outer_effects conversion added shared union conflict hidden hidden-the_row-CType-0 shape-the_row-CType-0 hidden-the_row-CType-1 shape-the_row-CType-1 hidden-the_row-Expr-0 shape-the_row-Expr-0 hidden-the_row-Place-1 shape-the_row-Place-1 hidden-the_row-Expr-2 shape-the_row-Expr-2 tree-hidden-the_row-Declarator-0 tree-shape-the_row-Declarator-0 tree-hidden-the_row-Declarator-6 tree-shape-the_row-Declarator-6 tree-hidden-the_row-Expr-1 tree-shape-the_row-Expr-1 tree-hidden-the_row-Expr-2 tree-shape-the_row-Expr-2 tree-hidden-the_row-Spec-3 tree-shape-the_row-Spec-3 tree-hidden-the_row-TypeName-4 tree-shape-the_row-TypeName-4
comma_rows = refl

-- `++` and `--`
step_rows :
    found_in "i++" (post 0 (nam 0 1) step.Increment)
    ∷ found_in "++c" (pre 0 prefix.Increment (nam 2 3))
    ∷ found_in "p--" (post 0 (nam 0 1) step.Decrement)
    ∷ found_in "--u" (pre 0 prefix.Decrement (nam 2 3))
    ∷ found_in "v++" (post 0 (nam 0 1) step.Increment)
    ∷ found_in "z++" (post 0 (nam 0 1) step.Increment)
    ∷ found_in "--z" (pre 0 prefix.Decrement (nam 2 3))
    ∷ found_in "5++" (post 0 (num 0 1) step.Increment)
    ∷ found_in "++5" (pre 0 prefix.Increment (num 2 3))
    ∷ found_in "y++" (post 0 (nam 0 1) step.Increment)
    ∷ found_in "h++" (post 0 (nam 0 1) step.Increment)
    ∷ found_in "++s" (pre 0 prefix.Increment (nam 2 3))
    ∷ found_in "s++" (post 0 (nam 0 1) step.Increment)
    ∷ found_in "++l()" (pre 0 prefix.Increment (call 2 (nam 2 3) ([])))
    ∷ found_in "--(0 ? z : z)" (pre 0 prefix.Decrement (par 2 (choose 3 (num 3 4) (nam 7 8) (nam 11 12))))
    ∷ found_in "(0 ? z : z)--" (post 0 (par 0 (choose 1 (num 1 2) (nam 5 6) (nam 9 10))) step.Decrement)
    ∷ []
    ≡ Ok (Int, 2) ∷ Ok (Char, 2) ∷ Ok ((pointer_to Int), 2) ∷ Ok (Unsigned, 2) ∷ Err (3, 0) ∷ Err (10, 0) ∷ Err (10, 0) ∷ Err (6, 0) ∷ Err (6, 2) ∷ Err (3, 0) ∷ Err (3, 0) ∷ Err (3, 2) ∷ Err (3, 0) ∷ Err (3, 0) ∷ Err (10, 0) ∷ Err (6, 0) ∷ []
unfolding indirection element member access address unevaluated size size_of_expression size_of_type plain_assignment number_update pointer_update compound_assignment assignment step_update step_rule spine fresh callee_in callee passed call_rule worth is_null number_constant converted cast_rule with_argument number_in character_in text_in text_initially as_value operand lvalue promoted in_sign pair_of stride arithmetic_on shift_on pointer_in_common equality_on logical_on operation sign_operation negation chosen_type chosen alternatives choice name number character holds_initially string_object text_found text parenthesised and_then name_number scoped value expression size_of pointer_part made type_name outermost_effects with_effects function_type body_read type_of callee_of words_of row_type nodes spots points_to same without_effects target_effects without_outer_effects conversion added shared union conflict hidden hidden-the_row-CType-0 shape-the_row-CType-0 hidden-the_row-CType-1 shape-the_row-CType-1 hidden-the_row-Expr-0 shape-the_row-Expr-0 hidden-the_row-Place-1 shape-the_row-Place-1 hidden-the_row-Expr-2 shape-the_row-Expr-2 tree-hidden-the_row-Declarator-0 tree-shape-the_row-Declarator-0 tree-hidden-the_row-Declarator-6 tree-shape-the_row-Declarator-6 tree-hidden-the_row-Expr-1 tree-shape-the_row-Expr-1 tree-hidden-the_row-Expr-2 tree-shape-the_row-Expr-2 tree-hidden-the_row-Spec-3 tree-shape-the_row-Spec-3 tree-hidden-the_row-TypeName-4 tree-shape-the_row-TypeName-4
step_rows = refl

-- `=`
assignment_rows :
    found_in "i = c" (asg 0 (nam 0 1) assign.Plain 2 (nam 4 5))
    ∷ found_in "c = i" (asg 0 (nam 0 1) assign.Plain 2 (nam 4 5))
    ∷ found_in "c = u" (asg 0 (nam 0 1) assign.Plain 2 (nam 4 5))
    ∷ found_in "i = j" (asg 0 (nam 0 1) assign.Plain 2 (nam 4 5))
    ∷ found_in "p = v" (asg 0 (nam 0 1) assign.Plain 2 (nam 4 5))
    ∷ found_in "v = p" (asg 0 (nam 0 1) assign.Plain 2 (nam 4 5))
    ∷ found_in "p = 0" (asg 0 (nam 0 1) assign.Plain 2 (num 4 5))
    ∷ found_in "p = N" (asg 0 (nam 0 1) assign.Plain 2 (nam 4 5))
    ∷ found_in "h = 0" (asg 0 (nam 0 1) assign.Plain 2 (num 4 5))
    ∷ found_in "h = g" (asg 0 (nam 0 1) assign.Plain 2 (nam 4 5))
    ∷ found_in "k = f" (asg 0 (nam 0 1) assign.Plain 2 (nam 4 5))
    ∷ found_in "k = h" (asg 0 (nam 0 1) assign.Plain 2 (nam 4 5))
    ∷ found_in "h = f" (asg 0 (nam 0 1) assign.Plain 2 (nam 4 5))
    ∷ found_in "B[0] = 1" (asg 0 (idx 0 (nam 0 1) (num 2 3)) assign.Plain 5 (num 7 8))
    ∷ found_in "s.a = 1" (asg 0 (mem 0 (nam 0 1) Dot 2 3) assign.Plain 4 (num 6 7))
    ∷ found_in "p = q" (asg 0 (nam 0 1) assign.Plain 2 (nam 4 5))
    ∷ found_in "p = i" (asg 0 (nam 0 1) assign.Plain 2 (nam 4 5))
    ∷ found_in "i = p" (asg 0 (nam 0 1) assign.Plain 2 (nam 4 5))
    ∷ found_in "P = Q" (asg 0 (nam 0 1) assign.Plain 2 (nam 4 5))
    ∷ found_in "h = v" (asg 0 (nam 0 1) assign.Plain 2 (nam 4 5))
    ∷ found_in "h = m" (asg 0 (nam 0 1) assign.Plain 2 (nam 4 5))
    ∷ found_in "p = s" (asg 0 (nam 0 1) assign.Plain 2 (nam 4 5))
    ∷ found_in "p = l()" (asg 0 (nam 0 1) assign.Plain 2 (call 4 (nam 4 5) ([])))
    ∷ found_in "s = s" (asg 0 (nam 0 1) assign.Plain 2 (nam 4 5))
    ∷ found_in "x = d" (asg 0 (nam 0 1) assign.Plain 2 (nam 4 5))
    ∷ found_in "5 = i" (asg 0 (num 0 1) assign.Plain 2 (nam 4 5))
    ∷ found_in "f = i" (asg 0 (nam 0 1) assign.Plain 2 (nam 4 5))
    ∷ found_in "y = p" (asg 0 (nam 0 1) assign.Plain 2 (nam 4 5))
    ∷ found_in "y = d" (asg 0 (nam 0 1) assign.Plain 2 (nam 4 5))
    ∷ found_in "(i = 1) = 2" (asg 0 (par 0 (asg 1 (nam 1 2) assign.Plain 3 (num 5 6))) assign.Plain 8 (num 10 11))
    ∷ found_in "5 = q * 1" (asg 0 (num 0 1) assign.Plain 2 (bin 4 (nam 4 5) binary.Multiply 6 (num 8 9)))
    ∷ []
    ≡ Ok (Int, 4) ∷ Ok (Char, 4) ∷ Ok (Char, 4) ∷ Ok (Int, 3) ∷ Ok ((pointer_to Int), 4) ∷ Ok ((pointer_to Void), 4) ∷ Ok ((pointer_to Int), 4) ∷ Ok ((pointer_to Int), 4) ∷ Ok ((pointer_with plain), 4) ∷ Ok ((pointer_with plain), 5) ∷ Ok ((pointer_with nonblocking), 5) ∷ Ok ((pointer_with nonblocking), 4) ∷ Ok ((pointer_with plain), 4) ∷ Ok (Char, 7) ∷ Ok (Int, 4) ∷ Err (3, 4) ∷ Err (11, 4) ∷ Err (11, 4) ∷ Err (11, 4) ∷ Err (11, 4) ∷ Err (11, 4) ∷ Err (3, 4) ∷ Err (3, 4) ∷ Err (3, 0) ∷ Err (3, 0) ∷ Err (6, 0) ∷ Err (3, 0) ∷ Err (3, 0) ∷ Err (1, 4) ∷ Err (6, 0) ∷ Err (3, 4) ∷ []
unfolding indirection element member access address unevaluated size size_of_expression size_of_type plain_assignment number_update pointer_update compound_assignment assignment step_update step_rule spine fresh callee_in callee passed call_rule worth is_null number_constant converted cast_rule with_argument number_in character_in text_in text_initially as_value operand lvalue promoted in_sign pair_of stride arithmetic_on shift_on pointer_in_common equality_on logical_on operation sign_operation negation chosen_type chosen alternatives choice name number character holds_initially string_object text_found text parenthesised and_then name_number scoped value expression size_of pointer_part made type_name outermost_effects with_effects function_type body_read type_of callee_of words_of row_type nodes spots points_to same without_effects target_effects without_outer_effects conversion added shared union conflict hidden hidden-the_row-CType-0 shape-the_row-CType-0 hidden-the_row-CType-1 shape-the_row-CType-1 hidden-the_row-Expr-0 shape-the_row-Expr-0 hidden-the_row-Place-1 shape-the_row-Place-1 hidden-the_row-Expr-2 shape-the_row-Expr-2 tree-hidden-the_row-Declarator-0 tree-shape-the_row-Declarator-0 tree-hidden-the_row-Declarator-6 tree-shape-the_row-Declarator-6 tree-hidden-the_row-Expr-1 tree-shape-the_row-Expr-1 tree-hidden-the_row-Expr-2 tree-shape-the_row-Expr-2 tree-hidden-the_row-Spec-3 tree-shape-the_row-Spec-3 tree-hidden-the_row-TypeName-4 tree-shape-the_row-TypeName-4
assignment_rows = refl

-- assignments with an operator
compound_rows :
    found_in "c += i" (asg 0 (nam 0 1) assign.Add 2 (nam 5 6))
    ∷ found_in "u += c" (asg 0 (nam 0 1) assign.Add 2 (nam 5 6))
    ∷ found_in "c *= u" (asg 0 (nam 0 1) assign.Multiply 2 (nam 5 6))
    ∷ found_in "i <<= u" (asg 0 (nam 0 1) assign.LeftShift 2 (nam 6 7))
    ∷ found_in "c <<= u" (asg 0 (nam 0 1) assign.LeftShift 2 (nam 6 7))
    ∷ found_in "p += c" (asg 0 (nam 0 1) assign.Add 2 (nam 5 6))
    ∷ found_in "p -= 1" (asg 0 (nam 0 1) assign.Subtract 2 (num 5 6))
    ∷ found_in "i += p" (asg 0 (nam 0 1) assign.Add 2 (nam 5 6))
    ∷ found_in "p -= p" (asg 0 (nam 0 1) assign.Subtract 2 (nam 5 6))
    ∷ found_in "v += 1" (asg 0 (nam 0 1) assign.Add 2 (num 5 6))
    ∷ found_in "z += 1" (asg 0 (nam 0 1) assign.Add 2 (num 5 6))
    ∷ found_in "5 += 1" (asg 0 (num 0 1) assign.Add 2 (num 5 6))
    ∷ found_in "5 += p" (asg 0 (num 0 1) assign.Add 2 (nam 5 6))
    ∷ found_in "(0 ? z : z) += 1" (asg 0 (par 0 (choose 1 (num 1 2) (nam 5 6) (nam 9 10))) assign.Add 12 (num 15 16))
    ∷ found_in "1 += z" (asg 0 (num 0 1) assign.Add 2 (nam 5 6))
    ∷ found_in "i += z" (asg 0 (nam 0 1) assign.Add 2 (nam 5 6))
    ∷ found_in "p *= 2" (asg 0 (nam 0 1) assign.Multiply 2 (num 5 6))
    ∷ found_in "p += p" (asg 0 (nam 0 1) assign.Add 2 (nam 5 6))
    ∷ found_in "i -= p" (asg 0 (nam 0 1) assign.Subtract 2 (nam 5 6))
    ∷ found_in "i &= p" (asg 0 (nam 0 1) assign.And 2 (nam 5 6))
    ∷ found_in "h += 1" (asg 0 (nam 0 1) assign.Add 2 (num 5 6))
    ∷ found_in "y += 1" (asg 0 (nam 0 1) assign.Add 2 (num 5 6))
    ∷ found_in "i += s" (asg 0 (nam 0 1) assign.Add 2 (nam 5 6))
    ∷ found_in "s += d" (asg 0 (nam 0 1) assign.Add 2 (nam 5 6))
    ∷ []
    ≡ Ok (Char, 5) ∷ Ok (Unsigned, 5) ∷ Ok (Char, 6) ∷ Ok (Int, 3) ∷ Ok (Char, 5) ∷ Ok ((pointer_to Int), 4) ∷ Ok ((pointer_to Int), 3) ∷ Err (11, 0) ∷ Err (11, 0) ∷ Err (3, 0) ∷ Err (10, 0) ∷ Err (6, 0) ∷ Err (6, 0) ∷ Err (6, 0) ∷ Err (6, 0) ∷ Err (10, 0) ∷ Err (3, 0) ∷ Err (3, 0) ∷ Err (3, 0) ∷ Err (3, 0) ∷ Err (3, 0) ∷ Err (3, 0) ∷ Err (3, 5) ∷ Err (3, 0) ∷ []
unfolding indirection element member access address unevaluated size size_of_expression size_of_type plain_assignment number_update pointer_update compound_assignment assignment step_update step_rule spine fresh callee_in callee passed call_rule worth is_null number_constant converted cast_rule with_argument number_in character_in text_in text_initially as_value operand lvalue promoted in_sign pair_of stride arithmetic_on shift_on pointer_in_common equality_on logical_on operation sign_operation negation chosen_type chosen alternatives choice name number character holds_initially string_object text_found text parenthesised and_then name_number scoped value expression size_of pointer_part made type_name outermost_effects with_effects function_type body_read type_of callee_of words_of row_type nodes spots points_to same without_effects target_effects without_outer_effects conversion added shared union conflict hidden hidden-the_row-CType-0 shape-the_row-CType-0 hidden-the_row-CType-1 shape-the_row-CType-1 hidden-the_row-Expr-0 shape-the_row-Expr-0 hidden-the_row-Place-1 shape-the_row-Place-1 hidden-the_row-Expr-2 shape-the_row-Expr-2 tree-hidden-the_row-Declarator-0 tree-shape-the_row-Declarator-0 tree-hidden-the_row-Declarator-6 tree-shape-the_row-Declarator-6 tree-hidden-the_row-Expr-1 tree-shape-the_row-Expr-1 tree-hidden-the_row-Expr-2 tree-shape-the_row-Expr-2 tree-hidden-the_row-Spec-3 tree-shape-the_row-Spec-3 tree-hidden-the_row-TypeName-4 tree-shape-the_row-TypeName-4
compound_rows = refl

-- `&` and `*`
address_rows :
    found_in "&i" (pre 0 prefix.Address (nam 1 2))
    ∷ found_in "&y" (pre 0 prefix.Address (nam 1 2))
    ∷ found_in "&f" (pre 0 prefix.Address (nam 1 2))
    ∷ found_in "&s" (pre 0 prefix.Address (nam 1 2))
    ∷ found_in "&(i)" (pre 0 prefix.Address (par 1 (nam 2 3)))
    ∷ found_in "&*z" (pre 0 prefix.Address (pre 1 prefix.Indirection (nam 2 3)))
    ∷ found_in "&*h" (pre 0 prefix.Address (pre 1 prefix.Indirection (nam 2 3)))
    ∷ found_in "&y[1]" (pre 0 prefix.Address (idx 1 (nam 1 2) (num 3 4)))
    ∷ found_in "&\"ab\"" (pre 0 prefix.Address (str (at 1 5 ∷ [])))
    ∷ found_in "&5" (pre 0 prefix.Address (num 1 2))
    ∷ found_in "&A" (pre 0 prefix.Address (nam 1 2))
    ∷ found_in "&l()" (pre 0 prefix.Address (call 1 (nam 1 2) ([])))
    ∷ found_in "&(i + 1)" (pre 0 prefix.Address (par 1 (bin 2 (nam 2 3) binary.Add 4 (num 6 7))))
    ∷ found_in "*p" (pre 0 prefix.Indirection (nam 1 2))
    ∷ found_in "*y" (pre 0 prefix.Indirection (nam 1 2))
    ∷ found_in "*h" (pre 0 prefix.Indirection (nam 1 2))
    ∷ found_in "*f" (pre 0 prefix.Indirection (nam 1 2))
    ∷ found_in "*z" (pre 0 prefix.Indirection (nam 1 2))
    ∷ found_in "*r" (pre 0 prefix.Indirection (nam 1 2))
    ∷ found_in "*v" (pre 0 prefix.Indirection (nam 1 2))
    ∷ found_in "*i" (pre 0 prefix.Indirection (nam 1 2))
    ∷ found_in "**p" (pre 0 prefix.Indirection (pre 1 prefix.Indirection (nam 2 3)))
    ∷ found_in "*s" (pre 0 prefix.Indirection (nam 1 2))
    ∷ found_in "*0" (pre 0 prefix.Indirection (num 1 2))
    ∷ []
    ≡ Ok ((pointer_to Int), 2) ∷ Ok ((pointer_to (array_of Int 3)), 2) ∷ Ok ((pointer_with plain), 2) ∷ Ok ((pointer_to (Struct 0)), 2) ∷ Ok ((pointer_to Int), 2) ∷ Ok ((pointer_to (Struct 1)), 3) ∷ Ok ((pointer_with plain), 3) ∷ Ok ((pointer_to Int), 5) ∷ Ok ((pointer_to (array_of Char 3)), 2) ∷ Err (6, 1) ∷ Err (11, 1) ∷ Err (6, 1) ∷ Err (6, 1) ∷ Ok (Int, 2) ∷ Ok (Int, 3) ∷ Ok ((a_type.Function (takes_int Int plain)), 2) ∷ Ok ((a_type.Function (takes_int Int plain)), 3) ∷ Ok ((Struct 1), 2) ∷ Ok ((Struct 0), 2) ∷ Err (3, 0) ∷ Err (3, 0) ∷ Err (3, 0) ∷ Err (3, 1) ∷ Err (3, 0) ∷ []
unfolding indirection element member access address unevaluated size size_of_expression size_of_type plain_assignment number_update pointer_update compound_assignment assignment step_update step_rule spine fresh callee_in callee passed call_rule worth is_null number_constant converted cast_rule with_argument number_in character_in text_in text_initially as_value operand lvalue promoted in_sign pair_of stride arithmetic_on shift_on pointer_in_common equality_on logical_on operation sign_operation negation chosen_type chosen alternatives choice name number character holds_initially string_object text_found text parenthesised and_then name_number scoped value expression size_of pointer_part made type_name outermost_effects with_effects function_type body_read type_of callee_of words_of row_type nodes spots points_to same without_effects target_effects without_outer_effects conversion added shared union conflict hidden hidden-the_row-CType-0 shape-the_row-CType-0 hidden-the_row-CType-1 shape-the_row-CType-1 hidden-the_row-Expr-0 shape-the_row-Expr-0 hidden-the_row-Place-1 shape-the_row-Place-1 hidden-the_row-Expr-2 shape-the_row-Expr-2 tree-hidden-the_row-Declarator-0 tree-shape-the_row-Declarator-0 tree-hidden-the_row-Declarator-6 tree-shape-the_row-Declarator-6 tree-hidden-the_row-Expr-1 tree-shape-the_row-Expr-1 tree-hidden-the_row-Expr-2 tree-shape-the_row-Expr-2 tree-hidden-the_row-Spec-3 tree-shape-the_row-Spec-3 tree-hidden-the_row-TypeName-4 tree-shape-the_row-TypeName-4
address_rows = refl

-- indices and members
access_rows :
    found_in "y[i]" (idx 0 (nam 0 1) (nam 2 3))
    ∷ found_in "p[c]" (idx 0 (nam 0 1) (nam 2 3))
    ∷ found_in "i[p]" (idx 0 (nam 0 1) (nam 2 3))
    ∷ found_in "r[1]" (idx 0 (nam 0 1) (num 2 3))
    ∷ found_in "v[0]" (idx 0 (nam 0 1) (num 2 3))
    ∷ found_in "z[0]" (idx 0 (nam 0 1) (num 2 3))
    ∷ found_in "i[j]" (idx 0 (nam 0 1) (nam 2 3))
    ∷ found_in "p[s]" (idx 0 (nam 0 1) (nam 2 3))
    ∷ found_in "h[0]" (idx 0 (nam 0 1) (num 2 3))
    ∷ found_in "s.a" (mem 0 (nam 0 1) Dot 2 3)
    ∷ found_in "r->b" (mem 0 (nam 0 1) Arrow 3 4)
    ∷ found_in "(s).b" (mem 0 (par 0 (nam 1 2)) Dot 4 5)
    ∷ found_in "(*r).a" (mem 0 (par 0 (pre 1 prefix.Indirection (nam 2 3))) Dot 5 6)
    ∷ found_in "r[2].b" (mem 0 (idx 0 (nam 0 1) (num 2 3)) Dot 5 6)
    ∷ found_in "s.c" (mem 0 (nam 0 1) Dot 2 3)
    ∷ found_in "r->d" (mem 0 (nam 0 1) Arrow 3 4)
    ∷ found_in "(*r).c" (mem 0 (par 0 (pre 1 prefix.Indirection (nam 2 3))) Dot 5 6)
    ∷ found_in "p->a" (mem 0 (nam 0 1) Arrow 3 4)
    ∷ found_in "i.a" (mem 0 (nam 0 1) Dot 2 3)
    ∷ found_in "z->a" (mem 0 (nam 0 1) Arrow 3 4)
    ∷ found_in "(*z).a" (mem 0 (par 0 (pre 1 prefix.Indirection (nam 2 3))) Dot 5 6)
    ∷ found_in "s->a" (mem 0 (nam 0 1) Arrow 3 4)
    ∷ found_in "i->a" (mem 0 (nam 0 1) Arrow 3 4)
    ∷ []
    ≡ Ok (Int, 4) ∷ Ok (Int, 4) ∷ Ok (Int, 3) ∷ Ok ((Struct 0), 3) ∷ Err (3, 0) ∷ Err (10, 0) ∷ Err (3, 0) ∷ Err (3, 2) ∷ Err (3, 0) ∷ Ok (Int, 2) ∷ Ok (Int, 2) ∷ Ok (Int, 2) ∷ Ok (Int, 3) ∷ Ok (Int, 4) ∷ Err (8, 2) ∷ Err (8, 3) ∷ Err (8, 5) ∷ Err (3, 0) ∷ Err (3, 0) ∷ Err (10, 0) ∷ Err (10, 0) ∷ Err (3, 0) ∷ Err (3, 0) ∷ []
unfolding indirection element member access address unevaluated size size_of_expression size_of_type plain_assignment number_update pointer_update compound_assignment assignment step_update step_rule spine fresh callee_in callee passed call_rule worth is_null number_constant converted cast_rule with_argument number_in character_in text_in text_initially as_value operand lvalue promoted in_sign pair_of stride arithmetic_on shift_on pointer_in_common equality_on logical_on operation sign_operation negation chosen_type chosen alternatives choice name number character holds_initially string_object text_found text parenthesised and_then name_number scoped value expression size_of pointer_part made type_name outermost_effects with_effects function_type body_read type_of callee_of words_of row_type nodes spots points_to same without_effects target_effects without_outer_effects conversion added shared union conflict hidden hidden-the_row-CType-0 shape-the_row-CType-0 hidden-the_row-CType-1 shape-the_row-CType-1 hidden-the_row-Expr-0 shape-the_row-Expr-0 hidden-the_row-Place-1 shape-the_row-Place-1 hidden-the_row-Expr-2 shape-the_row-Expr-2 tree-hidden-the_row-Declarator-0 tree-shape-the_row-Declarator-0 tree-hidden-the_row-Declarator-6 tree-shape-the_row-Declarator-6 tree-hidden-the_row-Expr-1 tree-shape-the_row-Expr-1 tree-hidden-the_row-Expr-2 tree-shape-the_row-Expr-2 tree-hidden-the_row-Spec-3 tree-shape-the_row-Spec-3 tree-hidden-the_row-TypeName-4 tree-shape-the_row-TypeName-4
access_rows = refl

-- calls
call_rows :
    found_in "f(1)" (call 0 (nam 0 1) ((num 2 3) ∷ []))
    ∷ found_in "f(c)" (call 0 (nam 0 1) ((nam 2 3) ∷ []))
    ∷ found_in "h(1)" (call 0 (nam 0 1) ((num 2 3) ∷ []))
    ∷ found_in "(*h)(1)" (call 0 (par 0 (pre 1 prefix.Indirection (nam 2 3))) ((num 5 6) ∷ []))
    ∷ found_in "(f)(1)" (call 0 (par 0 (nam 1 2)) ((num 4 5) ∷ []))
    ∷ found_in "((f))(1)" (call 0 (par 0 (par 1 (nam 2 3))) ((num 6 7) ∷ []))
    ∷ found_in "A(c)" (call 0 (nam 0 1) ((nam 2 3) ∷ []))
    ∷ found_in "(A)(1)" (call 0 (par 0 (nam 1 2)) ((num 4 5) ∷ []))
    ∷ found_in "l()" (call 0 (nam 0 1) ([]))
    ∷ found_in "m(1)(2)" (call 0 (call 0 (nam 0 1) ((num 2 3) ∷ [])) ((num 5 6) ∷ []))
    ∷ found_in "f()" (call 0 (nam 0 1) ([]))
    ∷ found_in "f(1, 2)" (call 0 (nam 0 1) ((num 2 3) ∷ (num 5 6) ∷ []))
    ∷ found_in "l(1)" (call 0 (nam 0 1) ((num 2 3) ∷ []))
    ∷ found_in "i(1)" (call 0 (nam 0 1) ((num 2 3) ∷ []))
    ∷ found_in "i(d)" (call 0 (nam 0 1) ((nam 2 3) ∷ []))
    ∷ found_in "s(1)" (call 0 (nam 0 1) ((num 2 3) ∷ []))
    ∷ found_in "A" (nam 0 1)
    ∷ found_in "f(A)" (call 0 (nam 0 1) ((nam 2 3) ∷ []))
    ∷ found_in "f(p)" (call 0 (nam 0 1) ((nam 2 3) ∷ []))
    ∷ found_in "f(s)" (call 0 (nam 0 1) ((nam 2 3) ∷ []))
    ∷ found_in "f(l())" (call 0 (nam 0 1) ((call 2 (nam 2 3) ([])) ∷ []))
    ∷ found_in "f(p, d)" (call 0 (nam 0 1) ((nam 2 3) ∷ (nam 5 6) ∷ []))
    ∷ found_in "f(p, p)" (call 0 (nam 0 1) ((nam 2 3) ∷ (nam 5 6) ∷ []))
    ∷ found_in "(i, A)(1)" (call 0 (par 0 (bin 1 (nam 1 2) binary.Comma 2 (nam 4 5))) ((num 7 8) ∷ []))
    ∷ found_in "A + 1" (bin 0 (nam 0 1) binary.Add 2 (num 4 5))
    ∷ []
    ≡ Ok (Int, 3) ∷ Ok (Int, 4) ∷ Ok (Int, 3) ∷ Ok (Int, 4) ∷ Ok (Int, 3) ∷ Ok (Int, 3) ∷ Ok (Int, 4) ∷ Ok (Int, 3) ∷ Ok (Void, 2) ∷ Ok (Int, 5) ∷ Err (5, 0) ∷ Err (5, 0) ∷ Err (5, 0) ∷ Err (3, 0) ∷ Err (1, 2) ∷ Err (3, 0) ∷ Err (11, 0) ∷ Err (11, 2) ∷ Err (11, 2) ∷ Err (3, 2) ∷ Err (3, 2) ∷ Err (1, 5) ∷ Err (5, 0) ∷ Err (11, 4) ∷ Err (11, 0) ∷ []
unfolding indirection element member access address unevaluated size size_of_expression size_of_type plain_assignment number_update pointer_update compound_assignment assignment step_update step_rule spine fresh callee_in callee passed call_rule worth is_null number_constant converted cast_rule with_argument number_in character_in text_in text_initially as_value operand lvalue promoted in_sign pair_of stride arithmetic_on shift_on pointer_in_common equality_on logical_on operation sign_operation negation chosen_type chosen alternatives choice name number character holds_initially string_object text_found text parenthesised and_then name_number scoped value expression size_of pointer_part made type_name outermost_effects with_effects function_type body_read type_of callee_of words_of row_type nodes spots points_to same without_effects target_effects without_outer_effects conversion added shared union conflict hidden hidden-the_row-CType-0 shape-the_row-CType-0 hidden-the_row-CType-1 shape-the_row-CType-1 hidden-the_row-Expr-0 shape-the_row-Expr-0 hidden-the_row-Place-1 shape-the_row-Place-1 hidden-the_row-Expr-2 shape-the_row-Expr-2 tree-hidden-the_row-Declarator-0 tree-shape-the_row-Declarator-0 tree-hidden-the_row-Declarator-6 tree-shape-the_row-Declarator-6 tree-hidden-the_row-Expr-1 tree-shape-the_row-Expr-1 tree-hidden-the_row-Expr-2 tree-shape-the_row-Expr-2 tree-hidden-the_row-Spec-3 tree-shape-the_row-Spec-3 tree-hidden-the_row-TypeName-4 tree-shape-the_row-TypeName-4
call_rows = refl

-- `sizeof`
size_rows :
    found_in "sizeof i" (pre 0 prefix.Sizeof (nam 7 8))
    ∷ found_in "sizeof(int)" (size_type 0 (named_type 7 word.Int 0))
    ∷ found_in "sizeof y" (pre 0 prefix.Sizeof (nam 7 8))
    ∷ found_in "sizeof s" (pre 0 prefix.Sizeof (nam 7 8))
    ∷ found_in "sizeof x" (pre 0 prefix.Sizeof (nam 7 8))
    ∷ found_in "sizeof \"ab\"" (pre 0 prefix.Sizeof (str (at 7 11 ∷ [])))
    ∷ found_in "sizeof(char*)" (size_type 0 (named_type 7 word.Char 1))
    ∷ found_in "sizeof *z" (pre 0 prefix.Sizeof (pre 7 prefix.Indirection (nam 8 9)))
    ∷ found_in "sizeof l()" (pre 0 prefix.Sizeof (call 7 (nam 7 8) ([])))
    ∷ found_in "sizeof(void)" (size_type 0 (named_type 7 word.Void 0))
    ∷ found_in "sizeof f" (pre 0 prefix.Sizeof (nam 7 8))
    ∷ found_in "sizeof A" (pre 0 prefix.Sizeof (nam 7 8))
    ∷ found_in "sizeof d" (pre 0 prefix.Sizeof (nam 7 8))
    ∷ found_in "sizeof (p * 1)" (pre 0 prefix.Sizeof (par 7 (bin 8 (nam 8 9) binary.Multiply 10 (num 12 13))))
    ∷ []
    ≡ Ok (Unsigned, 1) ∷ Ok (Unsigned, 1) ∷ Ok (Unsigned, 1) ∷ Ok (Unsigned, 1) ∷ Ok (Unsigned, 1) ∷ Ok (Unsigned, 1) ∷ Ok (Unsigned, 1) ∷ Err (10, 0) ∷ Err (10, 0) ∷ Err (10, 0) ∷ Err (3, 0) ∷ Err (11, 7) ∷ Err (1, 7) ∷ Err (3, 8) ∷ []
unfolding indirection element member access address unevaluated size size_of_expression size_of_type plain_assignment number_update pointer_update compound_assignment assignment step_update step_rule spine fresh callee_in callee passed call_rule worth is_null number_constant converted cast_rule with_argument number_in character_in text_in text_initially as_value operand lvalue promoted in_sign pair_of stride arithmetic_on shift_on pointer_in_common equality_on logical_on operation sign_operation negation chosen_type chosen alternatives choice name number character holds_initially string_object text_found text parenthesised and_then name_number scoped value expression size_of pointer_part made type_name outermost_effects with_effects function_type body_read type_of callee_of words_of row_type nodes spots points_to same without_effects target_effects without_outer_effects conversion added shared union conflict hidden hidden-the_row-CType-0 shape-the_row-CType-0 hidden-the_row-CType-1 shape-the_row-CType-1 hidden-the_row-Expr-0 shape-the_row-Expr-0 hidden-the_row-Place-1 shape-the_row-Place-1 hidden-the_row-Expr-2 shape-the_row-Expr-2 tree-hidden-the_row-Declarator-0 tree-shape-the_row-Declarator-0 tree-hidden-the_row-Declarator-6 tree-shape-the_row-Declarator-6 tree-hidden-the_row-Expr-1 tree-shape-the_row-Expr-1 tree-hidden-the_row-Expr-2 tree-shape-the_row-Expr-2 tree-hidden-the_row-Spec-3 tree-shape-the_row-Spec-3 tree-hidden-the_row-TypeName-4 tree-shape-the_row-TypeName-4
size_rows = refl

-- casts
cast_rows :
    found_in "(void)i" (cast 0 (named_type 1 word.Void 0) (nam 6 7))
    ∷ found_in "(void)l()" (cast 0 (named_type 1 word.Void 0) (call 6 (nam 6 7) ([])))
    ∷ found_in "(char)i" (cast 0 (named_type 1 word.Char 0) (nam 6 7))
    ∷ found_in "(int)i" (cast 0 (named_type 1 word.Int 0) (nam 5 6))
    ∷ found_in "(int*)v" (cast 0 (named_type 1 word.Int 1) (nam 6 7))
    ∷ found_in "(int*)0" (cast 0 (named_type 1 word.Int 1) (num 6 7))
    ∷ found_in "(char*)p" (cast 0 (named_type 1 word.Char 1) (nam 7 8))
    ∷ found_in "(void)y" (cast 0 (named_type 1 word.Void 0) (nam 6 7))
    ∷ found_in "(int)p" (cast 0 (named_type 1 word.Int 0) (nam 5 6))
    ∷ found_in "(int*)i" (cast 0 (named_type 1 word.Int 1) (nam 6 7))
    ∷ found_in "(int*)h" (cast 0 (named_type 1 word.Int 1) (nam 6 7))
    ∷ found_in "(int)l()" (cast 0 (named_type 1 word.Int 0) (call 5 (nam 5 6) ([])))
    ∷ found_in "(void*)l()" (cast 0 (named_type 1 word.Void 1) (call 7 (nam 7 8) ([])))
    ∷ found_in "(void)s" (cast 0 (named_type 1 word.Void 0) (nam 6 7))
    ∷ found_in "(int)s" (cast 0 (named_type 1 word.Int 0) (nam 5 6))
    ∷ []
    ≡ Ok (Void, 2) ∷ Ok (Void, 3) ∷ Ok (Char, 2) ∷ Ok (Int, 2) ∷ Ok ((pointer_to Int), 2) ∷ Ok ((pointer_to Int), 2) ∷ Ok ((pointer_to Char), 2) ∷ Ok (Void, 3) ∷ Err (11, 5) ∷ Err (11, 6) ∷ Err (11, 6) ∷ Err (3, 0) ∷ Err (3, 0) ∷ Err (3, 6) ∷ Err (3, 5) ∷ []
unfolding indirection element member access address unevaluated size size_of_expression size_of_type plain_assignment number_update pointer_update compound_assignment assignment step_update step_rule spine fresh callee_in callee passed call_rule worth is_null number_constant converted cast_rule with_argument number_in character_in text_in text_initially as_value operand lvalue promoted in_sign pair_of stride arithmetic_on shift_on pointer_in_common equality_on logical_on operation sign_operation negation chosen_type chosen alternatives choice name number character holds_initially string_object text_found text parenthesised and_then name_number scoped value expression size_of pointer_part made type_name outermost_effects with_effects function_type body_read type_of callee_of words_of row_type nodes spots points_to same without_effects target_effects without_outer_effects conversion added shared union conflict hidden hidden-the_row-CType-0 shape-the_row-CType-0 hidden-the_row-CType-1 shape-the_row-CType-1 hidden-the_row-Expr-0 shape-the_row-Expr-0 hidden-the_row-Place-1 shape-the_row-Place-1 hidden-the_row-Expr-2 shape-the_row-Expr-2 tree-hidden-the_row-Declarator-0 tree-shape-the_row-Declarator-0 tree-hidden-the_row-Declarator-6 tree-shape-the_row-Declarator-6 tree-hidden-the_row-Expr-1 tree-shape-the_row-Expr-1 tree-hidden-the_row-Expr-2 tree-shape-the_row-Expr-2 tree-hidden-the_row-Spec-3 tree-shape-the_row-Spec-3 tree-hidden-the_row-TypeName-4 tree-shape-the_row-TypeName-4
cast_rows = refl

-- names and constants
primary_rows :
    found_in "i" (nam 0 1)
    ∷ found_in "s" (nam 0 1)
    ∷ found_in "x" (nam 0 1)
    ∷ found_in "y" (nam 0 1)
    ∷ found_in "f" (nam 0 1)
    ∷ found_in "e" (nam 0 1)
    ∷ found_in "N" (nam 0 1)
    ∷ found_in "'a'" (chr 0 3)
    ∷ found_in "42u" (num 0 3)
    ∷ found_in "\"a\" \"b\"" (str (at 0 3 ∷ at 4 7 ∷ []))
    ∷ found_in "d" (nam 0 1)
    ∷ found_in "(d)" (par 0 (nam 1 2))
    ∷ found_in "M" (nam 0 1)
    ∷ found_in "(M)" (par 0 (nam 1 2))
    ∷ []
    ≡ Ok (Int, 1) ∷ Ok ((Struct 0), 1) ∷ Ok (Mutex, 1) ∷ Ok ((array_of Int 3), 1) ∷ Ok ((a_type.Function (takes_int Int plain)), 1) ∷ Ok (Int, 1) ∷ Ok ((pointer_to Void), 1) ∷ Ok (Int, 1) ∷ Ok (Unsigned, 1) ∷ Ok ((array_of Char 3), 1) ∷ Err (1, 0) ∷ Err (1, 1) ∷ Err (9, 0) ∷ Err (9, 1) ∷ []
unfolding indirection element member access address unevaluated size size_of_expression size_of_type plain_assignment number_update pointer_update compound_assignment assignment step_update step_rule spine fresh callee_in callee passed call_rule worth is_null number_constant converted cast_rule with_argument number_in character_in text_in text_initially as_value operand lvalue promoted in_sign pair_of stride arithmetic_on shift_on pointer_in_common equality_on logical_on operation sign_operation negation chosen_type chosen alternatives choice name number character holds_initially string_object text_found text parenthesised and_then name_number scoped value expression size_of pointer_part made type_name outermost_effects with_effects function_type body_read type_of callee_of words_of row_type nodes spots points_to same without_effects target_effects without_outer_effects conversion added shared union conflict hidden hidden-the_row-CType-0 shape-the_row-CType-0 hidden-the_row-CType-1 shape-the_row-CType-1 hidden-the_row-Expr-0 shape-the_row-Expr-0 hidden-the_row-Place-1 shape-the_row-Place-1 hidden-the_row-Expr-2 shape-the_row-Expr-2 tree-hidden-the_row-Declarator-0 tree-shape-the_row-Declarator-0 tree-hidden-the_row-Declarator-6 tree-shape-the_row-Declarator-6 tree-hidden-the_row-Expr-1 tree-shape-the_row-Expr-1 tree-hidden-the_row-Expr-2 tree-shape-the_row-Expr-2 tree-hidden-the_row-Spec-3 tree-shape-the_row-Spec-3 tree-hidden-the_row-TypeName-4 tree-shape-the_row-TypeName-4
primary_rows = refl
