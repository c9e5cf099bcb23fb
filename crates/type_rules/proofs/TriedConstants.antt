-- Constant expressions, the numbers of call sites, and warnings of conversions, tried.
use Rattle.std.proofs.Common.{◌≡◌, refl, ℕ, List, [], ◌∷◌, Result, Ok, Err}
use Prim.Native.String.{String}
use Rattle.eff_types.specs.declared.levels.Level.TheVariants as level
use Rattle.c_tree.specs.declared.expressions.AssignmentOperator.TheVariants as assign
use Rattle.c_tree.specs.declared.expressions.BinaryOperator.TheVariants as binary
use Rattle.c_tree.specs.declared.expressions.Expr.{Expr}
use Rattle.c_tree.specs.declared.expressions.UnaryOperator.TheVariants as prefix
use Rattle.c_tree.specs.declared.words.TypeWord.TheVariants as word
use Rattle.type_rules.specs.Reading.{Read, Good, Bad}
use Rattle.core_unit.specs.Places.{place_spots, Spot, Calls}
use Rattle.core_unit.specs.declared.operators.Sign.{Sign}
use Rattle.core_unit.specs.declared.operators.Sign.TheVariants.{Signed, Unsigned as Without}
use Rattle.type_rules.specs.declared.found.Constant.{Constant}
use Rattle.type_rules.specs.declared.notes.TypeWarning.{TypeWarning}
use Rattle.type_rules.specs.declared.notes.TypeWarning.TheVariants as warning
use Rattle.type_rules.specs.declared.found.Found.{Found}
use Rattle.type_rules.specs.declared.found.Form.{Form}
use Rattle.type_rules.specs.declared.found.Form.TheVariants.{Lvalue, Value}
use Rattle.type_rules.proofs.Trees.{nam, num, chr, str, par, idx, call, pre, named_type, size_type, cast, bin, choose, asg, at, opening}
use Rattle.type_rules.specs.Access.{indirection, element, member, access, address, unevaluated, size, size_of_expression, size_of_type}
use Rattle.type_rules.specs.Assignments.{plain_assignment, number_update, pointer_update, compound_assignment, assignment, step_update, step as step_rule}
use Rattle.type_rules.specs.Calls.{spine, fresh, callee_in, callee, passed, call as call_rule}
use Rattle.type_rules.specs.Constants.{worth, is_null, number_constant}
use Rattle.type_rules.specs.Conversions.{converted, cast as cast_rule}
use Rattle.type_rules.specs.Expressions.{with_argument}
use Rattle.type_rules.specs.Literals.{number_in, character_in, text_in, text_initially}
use Rattle.type_rules.specs.Operands.{as_value, operand, lvalue, promoted, in_sign}
use Rattle.type_rules.specs.Operators.{pair_of, stride, arithmetic_on, shift_on, pointer_in_common, equality_on, logical_on, operation, sign_operation, negation, chosen_type, chosen, alternatives, choice}
use Rattle.type_rules.specs.Primaries.{name, number, character, holds_initially, string_object, text_found, text, parenthesised}
use Rattle.type_rules.specs.Reading.{and_then, name_number, scoped}
use Rattle.type_rules.specs.Recursion.{value, expression}
use Rattle.type_rules.specs.Sizes.{size_of}
use Rattle.type_rules.specs.Declarators.{pointer_part, made, type_name}
use Rattle.type_rules.specs.Types.{outermost_effects, with_effects}
use Rattle.type_rules.specs.Functions.{function_type, body_read}
use Rattle.core_unit.specs.Typing.{type_of}
use Rattle.core_unit.specs.Shapes.{callee_of}
use Rattle.core_unit.specs.Layout.{words_of}
use Rattle.core_unit.specs.Library.{row_type}
use Rattle.core_unit.specs.Nodes.{nodes}
use Rattle.core_unit.specs.Places.{spots}
use Rattle.eff_types.specs.Types.{points_to, same, without_effects, target_effects, without_outer_effects}
use Rattle.eff_types.specs.Conversion.{conversion}
use Rattle.eff_types.specs.Effects.{added, shared, union, conflict}
use denote.Hole.Carrier.{hidden}
use Rattle.core_unit.specs.declared.expressions.Expr.TheBlock.{hidden-the_row-Expr-0, shape-the_row-Expr-0, hidden-the_row-Place-1, shape-the_row-Place-1, hidden-the_row-Expr-2, shape-the_row-Expr-2}
use Rattle.c_tree.specs.declared.expressions.Declarator.TheBlock.{hidden-the_row-Declarator-0 as tree-hidden-the_row-Declarator-0, shape-the_row-Declarator-0 as tree-shape-the_row-Declarator-0, hidden-the_row-Declarator-6 as tree-hidden-the_row-Declarator-6, shape-the_row-Declarator-6 as tree-shape-the_row-Declarator-6, hidden-the_row-Expr-1 as tree-hidden-the_row-Expr-1, shape-the_row-Expr-1 as tree-shape-the_row-Expr-1, hidden-the_row-Expr-2 as tree-hidden-the_row-Expr-2, shape-the_row-Expr-2 as tree-shape-the_row-Expr-2, hidden-the_row-Spec-3 as tree-hidden-the_row-Spec-3, shape-the_row-Spec-3 as tree-shape-the_row-Spec-3, hidden-the_row-TypeName-4 as tree-hidden-the_row-TypeName-4, shape-the_row-TypeName-4 as tree-shape-the_row-TypeName-4}
use Rattle.eff_types.specs.declared.types.CType.TheBlock.{hidden-the_row-CType-0, shape-the_row-CType-0, hidden-the_row-CType-1, shape-the_row-CType-1}

abbrev told : Read Constant → Result (Sign × ℕ) (ℕ × ℕ)
told (Good c s) = Ok (c.sign, c.bits)
told (Bad number place) = Err (number, place)

abbrev constant_in : String → Expr → Result (Sign × ℕ) (ℕ × ℕ)
constant_in source e = told (number_constant (expression e) (opening source))

-- the calls in order of evaluation, each with its place and its site
abbrev sites_of : List Spot → List (ℕ × ℕ)
sites_of [] = []
sites_of (Calls place site callee ∷ rest) = (place, site) ∷ sites_of rest
sites_of (_ ∷ rest) = sites_of rest

abbrev form_sites : Form → List (ℕ × ℕ)
form_sites (Lvalue object) = sites_of (place_spots object [])
form_sites (Value e) = sites_of (spots e [])

abbrev told_sites : Read Found → List (ℕ × ℕ)
told_sites (Good f s) = form_sites f.form
told_sites (Bad number place) = []

abbrev sites_in : String → Expr → List (ℕ × ℕ)
sites_in source e = told_sites (expression e (opening source))

abbrev told_warnings : Read Found → List TypeWarning
told_warnings (Good f s) = s.warnings
told_warnings (Bad number place) = []

abbrev warnings_in : String → Expr → List TypeWarning
warnings_in source e = told_warnings (expression e (opening source))

-- constant expressions
constants :
    constant_in "1 + 2" (bin 0 (num 0 1) binary.Add 2 (num 4 5))
    ∷ constant_in "e * 2" (bin 0 (nam 0 1) binary.Multiply 2 (num 4 5))
    ∷ constant_in "-1" (pre 0 prefix.Minus (num 1 2))
    ∷ constant_in "~0u" (pre 0 prefix.Complement (num 1 3))
    ∷ constant_in "4294967295u + 1u" (bin 0 (num 0 11) binary.Add 12 (num 14 16))
    ∷ constant_in "-2147483647 - 1" (bin 0 (pre 0 prefix.Minus (num 1 11)) binary.Subtract 12 (num 14 15))
    ∷ constant_in "-7 / 2" (bin 0 (pre 0 prefix.Minus (num 1 2)) binary.Divide 3 (num 5 6))
    ∷ constant_in "-7 % 2" (bin 0 (pre 0 prefix.Minus (num 1 2)) binary.Remainder 3 (num 5 6))
    ∷ constant_in "-8 >> 1" (bin 0 (pre 0 prefix.Minus (num 1 2)) binary.RightShift 3 (num 6 7))
    ∷ constant_in "1 << 30" (bin 0 (num 0 1) binary.LeftShift 2 (num 5 7))
    ∷ constant_in "1u << 31" (bin 0 (num 0 2) binary.LeftShift 3 (num 6 8))
    ∷ constant_in "-1 < 0" (bin 0 (pre 0 prefix.Minus (num 1 2)) binary.Less 3 (num 5 6))
    ∷ constant_in "-1 < 0u" (bin 0 (pre 0 prefix.Minus (num 1 2)) binary.Less 3 (num 5 7))
    ∷ constant_in "1 ? 2 : 1 / 0" (choose 0 (num 0 1) (num 4 5) (bin 8 (num 8 9) binary.Divide 10 (num 12 13)))
    ∷ constant_in "0 && 1 / 0" (bin 0 (num 0 1) binary.LogicalAnd 2 (bin 5 (num 5 6) binary.Divide 7 (num 9 10)))
    ∷ constant_in "2 || 1 / 0" (bin 0 (num 0 1) binary.LogicalOr 2 (bin 5 (num 5 6) binary.Divide 7 (num 9 10)))
    ∷ constant_in "N == 0" (bin 0 (nam 0 1) binary.Equal 2 (num 5 6))
    ∷ constant_in "!N" (pre 0 prefix.Not (nam 1 2))
    ∷ constant_in "(char)300" (cast 0 (named_type 1 word.Char 0) (num 6 9))
    ∷ constant_in "(unsigned)-1" (cast 0 (named_type 1 word.Unsigned 0) (pre 10 prefix.Minus (num 11 12)))
    ∷ constant_in "sizeof y" (pre 0 prefix.Sizeof (nam 7 8))
    ∷ constant_in "sizeof(int)" (size_type 0 (named_type 7 word.Int 0))
    ∷ constant_in "sizeof *r" (pre 0 prefix.Sizeof (pre 7 prefix.Indirection (nam 8 9)))
    ∷ constant_in "sizeof f(1)" (pre 0 prefix.Sizeof (call 7 (nam 7 8) ((num 9 10) ∷ [])))
    ∷ constant_in "sizeof \"ab\"" (pre 0 prefix.Sizeof (str (at 7 11 ∷ [])))
    ∷ constant_in "'a' + 0" (bin 0 (chr 0 3) binary.Add 4 (num 6 7))
    ∷ constant_in "'\\n'" (chr 0 4)
    ∷ constant_in "0x10" (num 0 4)
    ∷ constant_in "(int*)0 - (int*)0" (bin 0 (cast 0 (named_type 1 word.Int 1) (num 6 7)) binary.Subtract 8 (cast 10 (named_type 11 word.Int 1) (num 16 17)))
    ∷ constant_in "(int*)0 == N" (bin 0 (cast 0 (named_type 1 word.Int 1) (num 6 7)) binary.Equal 8 (nam 11 12))
    ∷ constant_in "((2))" (par 0 (par 1 (num 2 3)))
    ∷ []
    ≡ Ok (Signed, 3) ∷ Ok (Signed, 10) ∷ Ok (Signed, 4294967295) ∷ Ok (Without, 4294967295) ∷ Ok (Without, 0) ∷ Ok (Signed, 2147483648) ∷ Ok (Signed, 4294967293) ∷ Ok (Signed, 4294967295) ∷ Ok (Signed, 4294967292) ∷ Ok (Signed, 1073741824) ∷ Ok (Without, 2147483648) ∷ Ok (Signed, 1) ∷ Ok (Signed, 0) ∷ Ok (Signed, 2) ∷ Ok (Signed, 0) ∷ Ok (Signed, 1) ∷ Ok (Signed, 1) ∷ Ok (Signed, 1) ∷ Ok (Signed, 300) ∷ Ok (Without, 4294967295) ∷ Ok (Without, 3) ∷ Ok (Without, 1) ∷ Ok (Without, 2) ∷ Ok (Without, 1) ∷ Ok (Without, 3) ∷ Ok (Signed, 97) ∷ Ok (Signed, 10) ∷ Ok (Signed, 16) ∷ Ok (Signed, 0) ∷ Ok (Signed, 1) ∷ Ok (Signed, 2) ∷ []
unfolding indirection element member access address unevaluated size size_of_expression size_of_type plain_assignment number_update pointer_update compound_assignment assignment step_update step_rule spine fresh callee_in callee passed call_rule worth is_null number_constant converted cast_rule with_argument number_in character_in text_in text_initially as_value operand lvalue promoted in_sign pair_of stride arithmetic_on shift_on pointer_in_common equality_on logical_on operation sign_operation negation chosen_type chosen alternatives choice name number character holds_initially string_object text_found text parenthesised and_then name_number scoped value expression size_of pointer_part made type_name outermost_effects with_effects function_type body_read type_of callee_of words_of row_type nodes spots points_to same without_effects target_effects without_outer_effects conversion added shared union conflict hidden hidden-the_row-CType-0 shape-the_row-CType-0 hidden-the_row-CType-1 shape-the_row-CType-1 hidden-the_row-Expr-0 shape-the_row-Expr-0 hidden-the_row-Place-1 shape-the_row-Place-1 hidden-the_row-Expr-2 shape-the_row-Expr-2 tree-hidden-the_row-Declarator-0 tree-shape-the_row-Declarator-0 tree-hidden-the_row-Declarator-6 tree-shape-the_row-Declarator-6 tree-hidden-the_row-Expr-1 tree-shape-the_row-Expr-1 tree-hidden-the_row-Expr-2 tree-shape-the_row-Expr-2 tree-hidden-the_row-Spec-3 tree-shape-the_row-Spec-3 tree-hidden-the_row-TypeName-4 tree-shape-the_row-TypeName-4
constants = refl

-- what isn't constant, or traps, and what is no number
refused_constants :
    constant_in "2147483647 + 1" (bin 0 (num 0 10) binary.Add 11 (num 13 14))
    ∷ constant_in "-(-2147483647 - 1)" (pre 0 prefix.Minus (par 1 (bin 2 (pre 2 prefix.Minus (num 3 13)) binary.Subtract 14 (num 16 17))))
    ∷ constant_in "1 / 0" (bin 0 (num 0 1) binary.Divide 2 (num 4 5))
    ∷ constant_in "5 % 0" (bin 0 (num 0 1) binary.Remainder 2 (num 4 5))
    ∷ constant_in "(-2147483647 - 1) / -1" (bin 0 (par 0 (bin 1 (pre 1 prefix.Minus (num 2 12)) binary.Subtract 13 (num 15 16))) binary.Divide 18 (pre 20 prefix.Minus (num 21 22)))
    ∷ constant_in "1 >> 32" (bin 0 (num 0 1) binary.RightShift 2 (num 5 7))
    ∷ constant_in "1 << 31" (bin 0 (num 0 1) binary.LeftShift 2 (num 5 7))
    ∷ constant_in "-1 << 1" (bin 0 (pre 0 prefix.Minus (num 1 2)) binary.LeftShift 3 (num 6 7))
    ∷ constant_in "1 || i" (bin 0 (num 0 1) binary.LogicalOr 2 (nam 5 6))
    ∷ constant_in "1 ? 2 : i" (choose 0 (num 0 1) (num 4 5) (nam 8 9))
    ∷ constant_in "1 / 0 ? 1 : 2" (choose 0 (bin 0 (num 0 1) binary.Divide 2 (num 4 5)) (num 8 9) (num 12 13))
    ∷ constant_in "i" (nam 0 1)
    ∷ constant_in "w" (nam 0 1)
    ∷ constant_in "f(1)" (call 0 (nam 0 1) ((num 2 3) ∷ []))
    ∷ constant_in "1, 2" (bin 0 (num 0 1) binary.Comma 1 (num 3 4))
    ∷ constant_in "i = 1" (asg 0 (nam 0 1) assign.Plain 2 (num 4 5))
    ∷ constant_in "*\"a\"" (pre 0 prefix.Indirection (str (at 1 4 ∷ [])))
    ∷ constant_in "\"a\" == 0" (bin 0 (str (at 0 3 ∷ [])) binary.Equal 4 (num 7 8))
    ∷ constant_in "&i == 0" (bin 0 (pre 0 prefix.Address (nam 1 2)) binary.Equal 3 (num 6 7))
    ∷ constant_in "f == 0" (bin 0 (nam 0 1) binary.Equal 2 (num 5 6))
    ∷ constant_in "y[0]" (idx 0 (nam 0 1) (num 2 3))
    ∷ constant_in "(int*)0 + 1 == 0" (bin 0 (bin 0 (cast 0 (named_type 1 word.Int 1) (num 6 7)) binary.Add 8 (num 10 11)) binary.Equal 12 (num 15 16))
    ∷ constant_in "p" (nam 0 1)
    ∷ constant_in "N" (nam 0 1)
    ∷ constant_in "l()" (call 0 (nam 0 1) ([]))
    ∷ constant_in "s" (nam 0 1)
    ∷ constant_in "1 / 0 + d" (bin 0 (bin 0 (num 0 1) binary.Divide 2 (num 4 5)) binary.Add 6 (nam 8 9))
    ∷ constant_in "i * p" (bin 0 (nam 0 1) binary.Multiply 2 (nam 4 5))
    ∷ []
    ≡ Err (7, 0) ∷ Err (7, 0) ∷ Err (7, 0) ∷ Err (7, 0) ∷ Err (7, 0) ∷ Err (7, 0) ∷ Err (7, 0) ∷ Err (7, 0) ∷ Err (7, 0) ∷ Err (7, 0) ∷ Err (7, 0) ∷ Err (7, 0) ∷ Err (7, 0) ∷ Err (7, 0) ∷ Err (7, 0) ∷ Err (7, 0) ∷ Err (7, 0) ∷ Err (7, 0) ∷ Err (7, 0) ∷ Err (7, 0) ∷ Err (7, 0) ∷ Err (7, 0) ∷ Err (3, 0) ∷ Err (3, 0) ∷ Err (3, 0) ∷ Err (3, 0) ∷ Err (1, 8) ∷ Err (3, 0) ∷ []
unfolding indirection element member access address unevaluated size size_of_expression size_of_type plain_assignment number_update pointer_update compound_assignment assignment step_update step_rule spine fresh callee_in callee passed call_rule worth is_null number_constant converted cast_rule with_argument number_in character_in text_in text_initially as_value operand lvalue promoted in_sign pair_of stride arithmetic_on shift_on pointer_in_common equality_on logical_on operation sign_operation negation chosen_type chosen alternatives choice name number character holds_initially string_object text_found text parenthesised and_then name_number scoped value expression size_of pointer_part made type_name outermost_effects with_effects function_type body_read type_of callee_of words_of row_type nodes spots points_to same without_effects target_effects without_outer_effects conversion added shared union conflict hidden hidden-the_row-CType-0 shape-the_row-CType-0 hidden-the_row-CType-1 shape-the_row-CType-1 hidden-the_row-Expr-0 shape-the_row-Expr-0 hidden-the_row-Place-1 shape-the_row-Place-1 hidden-the_row-Expr-2 shape-the_row-Expr-2 tree-hidden-the_row-Declarator-0 tree-shape-the_row-Declarator-0 tree-hidden-the_row-Declarator-6 tree-shape-the_row-Declarator-6 tree-hidden-the_row-Expr-1 tree-shape-the_row-Expr-1 tree-hidden-the_row-Expr-2 tree-shape-the_row-Expr-2 tree-hidden-the_row-Spec-3 tree-shape-the_row-Spec-3 tree-hidden-the_row-TypeName-4 tree-shape-the_row-TypeName-4
refused_constants = refl

-- sites: in the order of the places of the calls, the inner one first at one place
sites :
    sites_in "f(g(1))" (call 0 (nam 0 1) ((call 2 (nam 2 3) ((num 4 5) ∷ [])) ∷ []))
    ∷ sites_in "m(1)(2)" (call 0 (call 0 (nam 0 1) ((num 2 3) ∷ [])) ((num 5 6) ∷ []))
    ∷ sites_in "f(1) + g(2)" (bin 0 (call 0 (nam 0 1) ((num 2 3) ∷ [])) binary.Add 5 (call 7 (nam 7 8) ((num 9 10) ∷ [])))
    ∷ sites_in "g(f(1)) + f(g(2))" (bin 0 (call 0 (nam 0 1) ((call 2 (nam 2 3) ((num 4 5) ∷ [])) ∷ [])) binary.Add 8 (call 10 (nam 10 11) ((call 12 (nam 12 13) ((num 14 15) ∷ [])) ∷ [])))
    ∷ sites_in "(f)(g(1))" (call 0 (par 0 (nam 1 2)) ((call 4 (nam 4 5) ((num 6 7) ∷ [])) ∷ []))
    ∷ sites_in "m(f(1))(g(2))" (call 0 (call 0 (nam 0 1) ((call 2 (nam 2 3) ((num 4 5) ∷ [])) ∷ [])) ((call 8 (nam 8 9) ((num 10 11) ∷ [])) ∷ []))
    ∷ sites_in "(m(1))(2)" (call 0 (par 0 (call 1 (nam 1 2) ((num 3 4) ∷ []))) ((num 7 8) ∷ []))
    ∷ sites_in "f(sizeof g(1)) + g(2)" (bin 0 (call 0 (nam 0 1) ((pre 2 prefix.Sizeof (call 9 (nam 9 10) ((num 11 12) ∷ []))) ∷ [])) binary.Add 15 (call 17 (nam 17 18) ((num 19 20) ∷ [])))
    ∷ sites_in "-f(1) + g(2)" (bin 0 (pre 0 prefix.Minus (call 1 (nam 1 2) ((num 3 4) ∷ []))) binary.Add 6 (call 8 (nam 8 9) ((num 10 11) ∷ [])))
    ∷ sites_in "y[f(1)] = g(2)" (asg 0 (idx 0 (nam 0 1) (call 2 (nam 2 3) ((num 4 5) ∷ []))) assign.Plain 8 (call 10 (nam 10 11) ((num 12 13) ∷ [])))
    ∷ sites_in "m(1)(2) ? f(1) : g(1)" (choose 0 (call 0 (call 0 (nam 0 1) ((num 2 3) ∷ [])) ((num 5 6) ∷ [])) (call 10 (nam 10 11) ((num 12 13) ∷ [])) (call 17 (nam 17 18) ((num 19 20) ∷ [])))
    ∷ sites_in "f(1), g(2)" (bin 0 (call 0 (nam 0 1) ((num 2 3) ∷ [])) binary.Comma 4 (call 6 (nam 6 7) ((num 8 9) ∷ [])))
    ∷ sites_in "h(m(1)(2))" (call 0 (nam 0 1) ((call 2 (call 2 (nam 2 3) ((num 4 5) ∷ [])) ((num 7 8) ∷ [])) ∷ []))
    ∷ sites_in "*m(1)" (pre 0 prefix.Indirection (call 1 (nam 1 2) ((num 3 4) ∷ [])))
    ∷ sites_in "f((m(1))(2))" (call 0 (nam 0 1) ((call 2 (par 2 (call 3 (nam 3 4) ((num 5 6) ∷ []))) ((num 9 10) ∷ [])) ∷ []))
    ∷ []
    ≡ ((2, 2) ∷ (0, 1) ∷ []) ∷ ((0, 1) ∷ (0, 2) ∷ []) ∷ ((0, 1) ∷ (7, 2) ∷ []) ∷ ((2, 2) ∷ (0, 1) ∷ (12, 4) ∷ (10, 3) ∷ []) ∷ ((4, 2) ∷ (0, 1) ∷ []) ∷ ((2, 3) ∷ (0, 1) ∷ (8, 4) ∷ (0, 2) ∷ []) ∷ ((1, 2) ∷ (0, 1) ∷ []) ∷ ((0, 1) ∷ (17, 2) ∷ []) ∷ ((1, 1) ∷ (8, 2) ∷ []) ∷ ((2, 1) ∷ (10, 2) ∷ []) ∷ ((0, 1) ∷ (0, 2) ∷ (10, 3) ∷ (17, 4) ∷ []) ∷ ((0, 1) ∷ (6, 2) ∷ []) ∷ ((2, 2) ∷ (2, 3) ∷ (0, 1) ∷ []) ∷ ((1, 1) ∷ []) ∷ ((3, 3) ∷ (2, 2) ∷ (0, 1) ∷ []) ∷ []
unfolding indirection element member access address unevaluated size size_of_expression size_of_type plain_assignment number_update pointer_update compound_assignment assignment step_update step_rule spine fresh callee_in callee passed call_rule worth is_null number_constant converted cast_rule with_argument number_in character_in text_in text_initially as_value operand lvalue promoted in_sign pair_of stride arithmetic_on shift_on pointer_in_common equality_on logical_on operation sign_operation negation chosen_type chosen alternatives choice name number character holds_initially string_object text_found text parenthesised and_then name_number scoped value expression size_of pointer_part made type_name outermost_effects with_effects function_type body_read type_of callee_of words_of row_type nodes spots points_to same without_effects target_effects without_outer_effects conversion added shared union conflict hidden hidden-the_row-CType-0 shape-the_row-CType-0 hidden-the_row-CType-1 shape-the_row-CType-1 hidden-the_row-Expr-0 shape-the_row-Expr-0 hidden-the_row-Place-1 shape-the_row-Place-1 hidden-the_row-Expr-2 shape-the_row-Expr-2 tree-hidden-the_row-Declarator-0 tree-shape-the_row-Declarator-0 tree-hidden-the_row-Declarator-6 tree-shape-the_row-Declarator-6 tree-hidden-the_row-Expr-1 tree-shape-the_row-Expr-1 tree-hidden-the_row-Expr-2 tree-shape-the_row-Expr-2 tree-hidden-the_row-Spec-3 tree-shape-the_row-Spec-3 tree-hidden-the_row-TypeName-4 tree-shape-the_row-TypeName-4
sites = refl

-- conversions that add a level
warnings :
    warnings_in "k = f" (asg 0 (nam 0 1) assign.Plain 2 (nam 4 5))
    ∷ warnings_in "k = h" (asg 0 (nam 0 1) assign.Plain 2 (nam 4 5))
    ∷ warnings_in "k = (h)" (asg 0 (nam 0 1) assign.Plain 2 (par 4 (nam 5 6)))
    ∷ warnings_in "k = g" (asg 0 (nam 0 1) assign.Plain 2 (nam 4 5))
    ∷ warnings_in "h = g" (asg 0 (nam 0 1) assign.Plain 2 (nam 4 5))
    ∷ warnings_in "k = 0" (asg 0 (nam 0 1) assign.Plain 2 (num 4 5))
    ∷ warnings_in "k = N" (asg 0 (nam 0 1) assign.Plain 2 (nam 4 5))
    ∷ warnings_in "k = k ? h : k" (asg 0 (nam 0 1) assign.Plain 2 (choose 4 (nam 4 5) (nam 8 9) (nam 12 13)))
    ∷ warnings_in "k == h" (bin 0 (nam 0 1) binary.Equal 2 (nam 5 6))
    ∷ warnings_in "sizeof (k = h)" (pre 0 prefix.Sizeof (par 7 (asg 8 (nam 8 9) assign.Plain 10 (nam 12 13))))
    ∷ warnings_in "k = h, k = f" (bin 0 (asg 0 (nam 0 1) assign.Plain 2 (nam 4 5)) binary.Comma 5 (asg 7 (nam 7 8) assign.Plain 9 (nam 11 12)))
    ∷ warnings_in "*P = *Q" (asg 0 (pre 0 prefix.Indirection (nam 1 2)) assign.Plain 3 (pre 5 prefix.Indirection (nam 6 7)))
    ∷ warnings_in "*Q = *P" (asg 0 (pre 0 prefix.Indirection (nam 1 2)) assign.Plain 3 (pre 5 prefix.Indirection (nam 6 7)))
    ∷ []
    ≡ (warning.Conversion 4 level.NonBlocking ∷ []) ∷ (warning.Conversion 4 level.NonBlocking ∷ []) ∷ (warning.Conversion 4 level.NonBlocking ∷ []) ∷ ([]) ∷ ([]) ∷ ([]) ∷ ([]) ∷ (warning.Conversion 4 level.NonBlocking ∷ []) ∷ ([]) ∷ (warning.Conversion 12 level.NonBlocking ∷ []) ∷ (warning.Conversion 4 level.NonBlocking ∷ warning.Conversion 11 level.NonBlocking ∷ []) ∷ ([]) ∷ (warning.Conversion 5 level.NonBlocking ∷ []) ∷ []
unfolding indirection element member access address unevaluated size size_of_expression size_of_type plain_assignment number_update pointer_update compound_assignment assignment step_update step_rule spine fresh callee_in callee passed call_rule worth is_null number_constant converted cast_rule with_argument number_in character_in text_in text_initially as_value operand lvalue promoted in_sign pair_of stride arithmetic_on shift_on pointer_in_common equality_on logical_on operation sign_operation negation chosen_type chosen alternatives choice name number character holds_initially string_object text_found text parenthesised and_then name_number scoped value expression size_of pointer_part made type_name outermost_effects with_effects function_type body_read type_of callee_of words_of row_type nodes spots points_to same without_effects target_effects without_outer_effects conversion added shared union conflict hidden hidden-the_row-CType-0 shape-the_row-CType-0 hidden-the_row-CType-1 shape-the_row-CType-1 hidden-the_row-Expr-0 shape-the_row-Expr-0 hidden-the_row-Place-1 shape-the_row-Place-1 hidden-the_row-Expr-2 shape-the_row-Expr-2 tree-hidden-the_row-Declarator-0 tree-shape-the_row-Declarator-0 tree-hidden-the_row-Declarator-6 tree-shape-the_row-Declarator-6 tree-hidden-the_row-Expr-1 tree-shape-the_row-Expr-1 tree-hidden-the_row-Expr-2 tree-shape-the_row-Expr-2 tree-hidden-the_row-Spec-3 tree-shape-the_row-Spec-3 tree-hidden-the_row-TypeName-4 tree-shape-the_row-TypeName-4
warnings = refl
