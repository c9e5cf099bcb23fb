-- Initializers, tried.
use Rattle.std.proofs.Common.{◌≡◌, refl, ℕ, true, false, List, [], ◌∷◌, Result, Ok, Err}
use Prim.Native.String.{String}
use Rattle.eff_types.specs.Effects.{plain}
use Rattle.eff_types.specs.declared.types.CType.{CType, Void, Char, Int, Mutex, Struct}
use Rattle.eff_types.specs.declared.levels.Level.TheVariants as level
use Rattle.c_tree.specs.declared.expressions.BinaryOperator.TheVariants as binary
use Rattle.c_tree.specs.declared.expressions.UnaryOperator.TheVariants as prefix
use Rattle.c_tree.specs.declared.declarations.Init.{Init}
use Rattle.c_tree.specs.declared.declarations.Init.TheVariants as init
use Rattle.core_unit.specs.declared.body.Initializer.{Initializer}
use Rattle.core_unit.specs.declared.words.Word.TheVariants as held
use Rattle.type_rules.specs.declared.notes.Initial.{Initial}
use Rattle.c_tree.specs.declared.words.TypeWord.TheVariants as word
use Rattle.core_unit.specs.Shapes.{pointer_to, array_of}
use Rattle.type_rules.specs.Reading.{Read, Good, Bad}
use Rattle.type_rules.proofs.Trees.{nam, num, chr, str, par, idx, call, pre, named_type, cast, bin, at, pointer_with, nonblocking, opening}
use Rattle.type_rules.specs.Access.{indirection, element, member, access, address, unevaluated, size, size_of_expression, size_of_type}
use Rattle.type_rules.specs.Assignments.{plain_assignment, number_update, pointer_update, compound_assignment, assignment, step_update, step as step_rule}
use Rattle.type_rules.specs.Calls.{spine, fresh, callee_in, callee, passed, call as call_rule}
use Rattle.type_rules.specs.Constants.{worth, is_null, number_constant}
use Rattle.type_rules.specs.Conversions.{converted, cast as cast_rule}
use Rattle.type_rules.specs.Expressions.{with_argument}
use Rattle.type_rules.specs.Literals.{number_in, character_in, text_in, text_initially}
use Rattle.type_rules.specs.Operands.{as_value, operand, lvalue, promoted, in_sign}
use Rattle.type_rules.specs.Operators.{pair_of, stride, arithmetic_on, shift_on, pointer_in_common, equality_on, logical_on, operation, sign_operation, negation, chosen_type, chosen, alternatives, choice}
use Rattle.type_rules.specs.Primaries.{name, number, character, holds_initially, string_object, text_found, text, parenthesised}
use Rattle.type_rules.specs.Reading.{and_then, name_number, scoped}
use Rattle.type_rules.specs.Recursion.{value, expression}
use Rattle.type_rules.specs.Sizes.{size_of}
use Rattle.type_rules.specs.Declarators.{pointer_part, made, type_name}
use Rattle.type_rules.specs.Types.{outermost_effects, with_effects}
use Rattle.type_rules.specs.Functions.{function_type, body_read}
use Rattle.type_rules.specs.Initializers.{scalar, text_fits, by_name, by_expression, part, finished, by_list, initialized, count, initial_size}
use Rattle.type_rules.specs.InitialValues.{pointer_word, initial_word, initializer_words, initial_values}
use Rattle.type_rules.specs.Statements.{evaluated, condition, expression_statement, block, selection_of, selection, while_loop, do_loop, for_turns, for_loop, returned, with_items, statement, list_behind, block_items}
use Rattle.core_unit.specs.Typing.{type_of}
use Rattle.core_unit.specs.Shapes.{callee_of}
use Rattle.core_unit.specs.Layout.{words_of}
use Rattle.core_unit.specs.Library.{row_type}
use Rattle.core_unit.specs.Nodes.{nodes, initializer_nodes, stmt_nodes}
use Rattle.core_unit.specs.Places.{spots}
use Rattle.eff_types.specs.Types.{points_to, same, without_effects, target_effects, without_outer_effects}
use Rattle.eff_types.specs.Conversion.{conversion}
use Rattle.eff_types.specs.Effects.{added, shared, union, conflict}
use denote.Hole.Carrier.{hidden}
use Rattle.core_unit.specs.declared.expressions.Expr.TheBlock.{hidden-the_row-Expr-0, shape-the_row-Expr-0, hidden-the_row-Place-1, shape-the_row-Place-1, hidden-the_row-Expr-2, shape-the_row-Expr-2}
use Rattle.c_tree.specs.declared.expressions.Declarator.TheBlock.{hidden-the_row-Declarator-0 as tree-hidden-the_row-Declarator-0, shape-the_row-Declarator-0 as tree-shape-the_row-Declarator-0, hidden-the_row-Declarator-6 as tree-hidden-the_row-Declarator-6, shape-the_row-Declarator-6 as tree-shape-the_row-Declarator-6, hidden-the_row-Expr-1 as tree-hidden-the_row-Expr-1, shape-the_row-Expr-1 as tree-shape-the_row-Expr-1, hidden-the_row-Expr-2 as tree-hidden-the_row-Expr-2, shape-the_row-Expr-2 as tree-shape-the_row-Expr-2, hidden-the_row-Spec-3 as tree-hidden-the_row-Spec-3, shape-the_row-Spec-3 as tree-shape-the_row-Spec-3, hidden-the_row-TypeName-4 as tree-hidden-the_row-TypeName-4, shape-the_row-TypeName-4 as tree-shape-the_row-TypeName-4}
use Rattle.eff_types.specs.declared.types.CType.TheBlock.{hidden-the_row-CType-0, shape-the_row-CType-0, hidden-the_row-CType-1, shape-the_row-CType-1}
use Rattle.core_unit.specs.declared.body.Initializer.TheBlock.{hidden-the_row-Initializer-0, shape-the_row-Initializer-0}
use Rattle.core_unit.specs.declared.body.Stmt.TheBlock.{hidden-the_row-Stmt-0, shape-the_row-Stmt-0, hidden-the_row-Stmt-1, shape-the_row-Stmt-1}
use Rattle.c_tree.specs.declared.declarations.Init.TheBlock.{hidden-the_row-Init-0, shape-the_row-Init-0}
use Rattle.c_tree.specs.declared.statements.BlockItem.TheBlock.{hidden-the_row-BlockItem-1, shape-the_row-BlockItem-1, hidden-the_row-Stmt-0 as tree-hidden-the_row-Stmt-0, shape-the_row-Stmt-0 as tree-shape-the_row-Stmt-0}

-- its nodes and its words
abbrev told : Read Initializer → Result (ℕ × ℕ) (ℕ × ℕ)
told (Good i s) = Ok (initializer_nodes i, initializer_words i)
told (Bad number place) = Err (number, place)

abbrev automatic : CType → String → Init → Result (ℕ × ℕ) (ℕ × ℕ)
automatic t source i = told (initialized false t i (opening source))

-- what the words hold from place 100 on
abbrev told_values : Read Initializer → Result (List Initial) (ℕ × ℕ)
told_values (Good i s) = Ok (initial_values 100 i)
told_values (Bad number place) = Err (number, place)

abbrev fixed : CType → String → Init → Result (List Initial) (ℕ × ℕ)
fixed t source i = told_values (initialized true t i (opening source))

abbrev told_size : Read ℕ → ℕ
told_size (Good n s) = n
told_size (Bad number place) = 0

abbrev size_in : CType → String → Init → ℕ
size_in t source i = told_size (initial_size t i (opening source))

-- scalars
scalars :
    automatic Int "1" (init.Value (num 0 1))
    ∷ automatic Int "c" (init.Value (nam 0 1))
    ∷ automatic Int "{1}" (init.List 0 ((init.Value (num 1 2)) ∷ []))
    ∷ automatic Int "{0}" (init.List 0 ((init.Value (num 1 2)) ∷ []))
    ∷ automatic Int "{'\\0'}" (init.List 0 ((init.Value (chr 1 5)) ∷ []))
    ∷ automatic Int "{o}" (init.List 0 ((init.Value (nam 1 2)) ∷ []))
    ∷ automatic (pointer_to Int) "0" (init.Value (num 0 1))
    ∷ automatic (pointer_to Int) "{0}" (init.List 0 ((init.Value (num 1 2)) ∷ []))
    ∷ automatic (pointer_to Int) "N" (init.Value (nam 0 1))
    ∷ automatic (pointer_to Int) "&w" (init.Value (pre 0 prefix.Address (nam 1 2)))
    ∷ automatic (pointer_to Int) "y" (init.Value (nam 0 1))
    ∷ automatic (pointer_with nonblocking) "f" (init.Value (nam 0 1))
    ∷ automatic (pointer_with nonblocking) "{g}" (init.List 0 ((init.Value (nam 1 2)) ∷ []))
    ∷ automatic Int "{1, 2}" (init.List 0 ((init.Value (num 1 2)) ∷ (init.Value (num 4 5)) ∷ []))
    ∷ automatic Int "{{1}}" (init.List 0 ((init.List 1 ((init.Value (num 2 3)) ∷ [])) ∷ []))
    ∷ automatic Int "{d, 2}" (init.List 0 ((init.Value (nam 1 2)) ∷ (init.Value (num 4 5)) ∷ []))
    ∷ automatic Int "{1, d}" (init.List 0 ((init.Value (num 1 2)) ∷ (init.Value (nam 4 5)) ∷ []))
    ∷ automatic Int "p" (init.Value (nam 0 1))
    ∷ automatic Int "s" (init.Value (nam 0 1))
    ∷ automatic Int "l()" (init.Value (call 0 (nam 0 1) ([])))
    ∷ automatic Int "M" (init.Value (nam 0 1))
    ∷ automatic (pointer_to Int) "q" (init.Value (nam 0 1))
    ∷ automatic Int "{p}" (init.List 0 ((init.Value (nam 1 2)) ∷ []))
    ∷ []
    ≡ Ok (2, 1) ∷ Ok (3, 1) ∷ Ok (3, 1) ∷ Ok (3, 1) ∷ Ok (3, 1) ∷ Ok (3, 1) ∷ Ok (3, 1) ∷ Ok (3, 1) ∷ Ok (3, 1) ∷ Ok (3, 1) ∷ Ok (3, 1) ∷ Ok (4, 1) ∷ Ok (4, 1) ∷ Err (9, 0) ∷ Err (9, 0) ∷ Err (1, 1) ∷ Err (9, 0) ∷ Err (11, 0) ∷ Err (3, 0) ∷ Err (3, 0) ∷ Err (9, 0) ∷ Err (3, 0) ∷ Err (11, 1) ∷ []
unfolding indirection element member access address unevaluated size size_of_expression size_of_type plain_assignment number_update pointer_update compound_assignment assignment step_update step_rule spine fresh callee_in callee passed call_rule worth is_null number_constant converted cast_rule with_argument number_in character_in text_in text_initially as_value operand lvalue promoted in_sign pair_of stride arithmetic_on shift_on pointer_in_common equality_on logical_on operation sign_operation negation chosen_type chosen alternatives choice name number character holds_initially string_object text_found text parenthesised and_then name_number scoped value expression size_of pointer_part made type_name outermost_effects with_effects function_type body_read scalar text_fits by_name by_expression part finished by_list initialized count initial_size pointer_word initial_word initializer_words initial_values evaluated condition expression_statement block selection_of selection while_loop do_loop for_turns for_loop returned with_items statement list_behind block_items type_of callee_of words_of row_type nodes initializer_nodes stmt_nodes spots points_to same without_effects target_effects without_outer_effects conversion added shared union conflict hidden hidden-the_row-CType-0 shape-the_row-CType-0 hidden-the_row-CType-1 shape-the_row-CType-1 hidden-the_row-Expr-0 shape-the_row-Expr-0 hidden-the_row-Place-1 shape-the_row-Place-1 hidden-the_row-Expr-2 shape-the_row-Expr-2 tree-hidden-the_row-Declarator-0 tree-shape-the_row-Declarator-0 tree-hidden-the_row-Declarator-6 tree-shape-the_row-Declarator-6 tree-hidden-the_row-Expr-1 tree-shape-the_row-Expr-1 tree-hidden-the_row-Expr-2 tree-shape-the_row-Expr-2 tree-hidden-the_row-Spec-3 tree-shape-the_row-Spec-3 tree-hidden-the_row-TypeName-4 tree-shape-the_row-TypeName-4 hidden-the_row-Initializer-0 shape-the_row-Initializer-0 hidden-the_row-Stmt-0 shape-the_row-Stmt-0 hidden-the_row-Stmt-1 shape-the_row-Stmt-1 hidden-the_row-Init-0 shape-the_row-Init-0 hidden-the_row-BlockItem-1 shape-the_row-BlockItem-1 tree-hidden-the_row-Stmt-0 tree-shape-the_row-Stmt-0
scalars = refl

-- arrays
arrays :
    automatic (array_of Int 3) "{1, 2}" (init.List 0 ((init.Value (num 1 2)) ∷ (init.Value (num 4 5)) ∷ []))
    ∷ automatic (array_of Int 3) "{1, 2, 3,}" (init.List 0 ((init.Value (num 1 2)) ∷ (init.Value (num 4 5)) ∷ (init.Value (num 7 8)) ∷ []))
    ∷ automatic (array_of Int 3) "{0}" (init.List 0 ((init.Value (num 1 2)) ∷ []))
    ∷ automatic (array_of Int 3) "{00}" (init.List 0 ((init.Value (num 1 3)) ∷ []))
    ∷ automatic (array_of Int 3) "{0u,}" (init.List 0 ((init.Value (num 1 3)) ∷ []))
    ∷ automatic (array_of Int 3) "{'\\0'}" (init.List 0 ((init.Value (chr 1 5)) ∷ []))
    ∷ automatic (array_of Int 3) "{1, {2}}" (init.List 0 ((init.Value (num 1 2)) ∷ (init.List 4 ((init.Value (num 5 6)) ∷ [])) ∷ []))
    ∷ automatic (array_of Int 3) "{{1}}" (init.List 0 ((init.List 1 ((init.Value (num 2 3)) ∷ [])) ∷ []))
    ∷ automatic (array_of (array_of Int 2) 2) "{{1}, {1, 2}}" (init.List 0 ((init.List 1 ((init.Value (num 2 3)) ∷ [])) ∷ (init.List 6 ((init.Value (num 7 8)) ∷ (init.Value (num 10 11)) ∷ [])) ∷ []))
    ∷ automatic (array_of Int 3) "{1, 2, 3, 4}" (init.List 0 ((init.Value (num 1 2)) ∷ (init.Value (num 4 5)) ∷ (init.Value (num 7 8)) ∷ (init.Value (num 10 11)) ∷ []))
    ∷ automatic (array_of Int 3) "{1, 2, 3, d}" (init.List 0 ((init.Value (num 1 2)) ∷ (init.Value (num 4 5)) ∷ (init.Value (num 7 8)) ∷ (init.Value (nam 10 11)) ∷ []))
    ∷ automatic (array_of Int 3) "{d, 2, 3, 4}" (init.List 0 ((init.Value (nam 1 2)) ∷ (init.Value (num 4 5)) ∷ (init.Value (num 7 8)) ∷ (init.Value (num 10 11)) ∷ []))
    ∷ automatic (array_of Int 3) "y" (init.Value (nam 0 1))
    ∷ automatic (array_of Int 3) "d" (init.Value (nam 0 1))
    ∷ automatic (array_of Int 3) "1" (init.Value (num 0 1))
    ∷ automatic (array_of Int 3) "{{1, 2}}" (init.List 0 ((init.List 1 ((init.Value (num 2 3)) ∷ (init.Value (num 5 6)) ∷ [])) ∷ []))
    ∷ automatic (array_of Int 3) "{1, p}" (init.List 0 ((init.Value (num 1 2)) ∷ (init.Value (nam 4 5)) ∷ []))
    ∷ automatic (array_of (array_of Int 2) 2) "{1}" (init.List 0 ((init.Value (num 1 2)) ∷ []))
    ∷ []
    ≡ Ok (5, 3) ∷ Ok (7, 3) ∷ Ok (3, 3) ∷ Ok (3, 3) ∷ Ok (3, 3) ∷ Ok (3, 3) ∷ Ok (6, 3) ∷ Ok (4, 3) ∷ Ok (9, 4) ∷ Err (9, 0) ∷ Err (9, 0) ∷ Err (1, 1) ∷ Err (9, 0) ∷ Err (1, 0) ∷ Err (9, 0) ∷ Err (9, 1) ∷ Err (11, 4) ∷ Err (9, 1) ∷ []
unfolding indirection element member access address unevaluated size size_of_expression size_of_type plain_assignment number_update pointer_update compound_assignment assignment step_update step_rule spine fresh callee_in callee passed call_rule worth is_null number_constant converted cast_rule with_argument number_in character_in text_in text_initially as_value operand lvalue promoted in_sign pair_of stride arithmetic_on shift_on pointer_in_common equality_on logical_on operation sign_operation negation chosen_type chosen alternatives choice name number character holds_initially string_object text_found text parenthesised and_then name_number scoped value expression size_of pointer_part made type_name outermost_effects with_effects function_type body_read scalar text_fits by_name by_expression part finished by_list initialized count initial_size pointer_word initial_word initializer_words initial_values evaluated condition expression_statement block selection_of selection while_loop do_loop for_turns for_loop returned with_items statement list_behind block_items type_of callee_of words_of row_type nodes initializer_nodes stmt_nodes spots points_to same without_effects target_effects without_outer_effects conversion added shared union conflict hidden hidden-the_row-CType-0 shape-the_row-CType-0 hidden-the_row-CType-1 shape-the_row-CType-1 hidden-the_row-Expr-0 shape-the_row-Expr-0 hidden-the_row-Place-1 shape-the_row-Place-1 hidden-the_row-Expr-2 shape-the_row-Expr-2 tree-hidden-the_row-Declarator-0 tree-shape-the_row-Declarator-0 tree-hidden-the_row-Declarator-6 tree-shape-the_row-Declarator-6 tree-hidden-the_row-Expr-1 tree-shape-the_row-Expr-1 tree-hidden-the_row-Expr-2 tree-shape-the_row-Expr-2 tree-hidden-the_row-Spec-3 tree-shape-the_row-Spec-3 tree-hidden-the_row-TypeName-4 tree-shape-the_row-TypeName-4 hidden-the_row-Initializer-0 shape-the_row-Initializer-0 hidden-the_row-Stmt-0 shape-the_row-Stmt-0 hidden-the_row-Stmt-1 shape-the_row-Stmt-1 hidden-the_row-Init-0 shape-the_row-Init-0 hidden-the_row-BlockItem-1 shape-the_row-BlockItem-1 tree-hidden-the_row-Stmt-0 tree-shape-the_row-Stmt-0
arrays = refl

-- strings
strings :
    automatic (array_of Char 4) "\"abc\"" (init.Value (str (at 0 5 ∷ [])))
    ∷ automatic (array_of Char 4) "\"abcd\"" (init.Value (str (at 0 6 ∷ [])))
    ∷ automatic (array_of Char 4) "\"a\"" (init.Value (str (at 0 3 ∷ [])))
    ∷ automatic (array_of Char 4) "\"ab\" \"c\"" (init.Value (str (at 0 4 ∷ at 5 8 ∷ [])))
    ∷ automatic (array_of Char 4) "{'a', 'b'}" (init.List 0 ((init.Value (chr 1 4)) ∷ (init.Value (chr 6 9)) ∷ []))
    ∷ automatic (array_of Char 4) "{0}" (init.List 0 ((init.Value (num 1 2)) ∷ []))
    ∷ automatic (array_of Char 4) "{'\\0'}" (init.List 0 ((init.Value (chr 1 5)) ∷ []))
    ∷ automatic (array_of Char 4) "\"abcde\"" (init.Value (str (at 0 7 ∷ [])))
    ∷ automatic (array_of Char 4) "{\"abc\"}" (init.List 0 ((init.Value (str (at 1 6 ∷ []))) ∷ []))
    ∷ automatic (array_of Char 4) "(\"abc\")" (init.Value (par 0 (str (at 1 6 ∷ []))))
    ∷ automatic (array_of Char 4) "B" (init.Value (nam 0 1))
    ∷ automatic (array_of Int 3) "\"ab\"" (init.Value (str (at 0 4 ∷ [])))
    ∷ []
    ≡ Ok (2, 4) ∷ Ok (2, 4) ∷ Ok (2, 4) ∷ Ok (2, 4) ∷ Ok (7, 4) ∷ Ok (3, 4) ∷ Ok (4, 4) ∷ Err (9, 0) ∷ Err (11, 1) ∷ Err (9, 0) ∷ Err (9, 0) ∷ Err (9, 0) ∷ []
unfolding indirection element member access address unevaluated size size_of_expression size_of_type plain_assignment number_update pointer_update compound_assignment assignment step_update step_rule spine fresh callee_in callee passed call_rule worth is_null number_constant converted cast_rule with_argument number_in character_in text_in text_initially as_value operand lvalue promoted in_sign pair_of stride arithmetic_on shift_on pointer_in_common equality_on logical_on operation sign_operation negation chosen_type chosen alternatives choice name number character holds_initially string_object text_found text parenthesised and_then name_number scoped value expression size_of pointer_part made type_name outermost_effects with_effects function_type body_read scalar text_fits by_name by_expression part finished by_list initialized count initial_size pointer_word initial_word initializer_words initial_values evaluated condition expression_statement block selection_of selection while_loop do_loop for_turns for_loop returned with_items statement list_behind block_items type_of callee_of words_of row_type nodes initializer_nodes stmt_nodes spots points_to same without_effects target_effects without_outer_effects conversion added shared union conflict hidden hidden-the_row-CType-0 shape-the_row-CType-0 hidden-the_row-CType-1 shape-the_row-CType-1 hidden-the_row-Expr-0 shape-the_row-Expr-0 hidden-the_row-Place-1 shape-the_row-Place-1 hidden-the_row-Expr-2 shape-the_row-Expr-2 tree-hidden-the_row-Declarator-0 tree-shape-the_row-Declarator-0 tree-hidden-the_row-Declarator-6 tree-shape-the_row-Declarator-6 tree-hidden-the_row-Expr-1 tree-shape-the_row-Expr-1 tree-hidden-the_row-Expr-2 tree-shape-the_row-Expr-2 tree-hidden-the_row-Spec-3 tree-shape-the_row-Spec-3 tree-hidden-the_row-TypeName-4 tree-shape-the_row-TypeName-4 hidden-the_row-Initializer-0 shape-the_row-Initializer-0 hidden-the_row-Stmt-0 shape-the_row-Stmt-0 hidden-the_row-Stmt-1 shape-the_row-Stmt-1 hidden-the_row-Init-0 shape-the_row-Init-0 hidden-the_row-BlockItem-1 shape-the_row-BlockItem-1 tree-hidden-the_row-Stmt-0 tree-shape-the_row-Stmt-0
strings = refl

-- structures and mutexes
structures :
    automatic (Struct 0) "{1, c}" (init.List 0 ((init.Value (num 1 2)) ∷ (init.Value (nam 4 5)) ∷ []))
    ∷ automatic (Struct 0) "{1}" (init.List 0 ((init.Value (num 1 2)) ∷ []))
    ∷ automatic (Struct 0) "{0}" (init.List 0 ((init.Value (num 1 2)) ∷ []))
    ∷ automatic (array_of (Struct 0) 2) "{{1, 2}, {0}}" (init.List 0 ((init.List 1 ((init.Value (num 2 3)) ∷ (init.Value (num 5 6)) ∷ [])) ∷ (init.List 9 ((init.Value (num 10 11)) ∷ [])) ∷ []))
    ∷ automatic Mutex "M" (init.Value (nam 0 1))
    ∷ automatic Mutex "{0}" (init.List 0 ((init.Value (num 1 2)) ∷ []))
    ∷ automatic (Struct 0) "{1, 2, 3}" (init.List 0 ((init.Value (num 1 2)) ∷ (init.Value (num 4 5)) ∷ (init.Value (num 7 8)) ∷ []))
    ∷ automatic (Struct 0) "s" (init.Value (nam 0 1))
    ∷ automatic (Struct 0) "{s}" (init.List 0 ((init.Value (nam 1 2)) ∷ []))
    ∷ automatic (array_of (Struct 0) 2) "{1}" (init.List 0 ((init.Value (num 1 2)) ∷ []))
    ∷ automatic (array_of (Struct 0) 2) "{{1}, {2}, {3}}" (init.List 0 ((init.List 1 ((init.Value (num 2 3)) ∷ [])) ∷ (init.List 6 ((init.Value (num 7 8)) ∷ [])) ∷ (init.List 11 ((init.Value (num 12 13)) ∷ [])) ∷ []))
    ∷ automatic Mutex "{M}" (init.List 0 ((init.Value (nam 1 2)) ∷ []))
    ∷ automatic Mutex "(M)" (init.Value (par 0 (nam 1 2)))
    ∷ automatic Mutex "x" (init.Value (nam 0 1))
    ∷ automatic Mutex "1" (init.Value (num 0 1))
    ∷ automatic Mutex "{1}" (init.List 0 ((init.Value (num 1 2)) ∷ []))
    ∷ automatic (Struct 0) "M" (init.Value (nam 0 1))
    ∷ []
    ≡ Ok (6, 2) ∷ Ok (3, 2) ∷ Ok (3, 2) ∷ Ok (9, 4) ∷ Ok (2, 1) ∷ Ok (3, 1) ∷ Err (9, 0) ∷ Err (9, 0) ∷ Err (3, 1) ∷ Err (9, 1) ∷ Err (9, 0) ∷ Err (9, 0) ∷ Err (9, 1) ∷ Err (9, 0) ∷ Err (9, 0) ∷ Err (9, 0) ∷ Err (9, 0) ∷ []
unfolding indirection element member access address unevaluated size size_of_expression size_of_type plain_assignment number_update pointer_update compound_assignment assignment step_update step_rule spine fresh callee_in callee passed call_rule worth is_null number_constant converted cast_rule with_argument number_in character_in text_in text_initially as_value operand lvalue promoted in_sign pair_of stride arithmetic_on shift_on pointer_in_common equality_on logical_on operation sign_operation negation chosen_type chosen alternatives choice name number character holds_initially string_object text_found text parenthesised and_then name_number scoped value expression size_of pointer_part made type_name outermost_effects with_effects function_type body_read scalar text_fits by_name by_expression part finished by_list initialized count initial_size pointer_word initial_word initializer_words initial_values evaluated condition expression_statement block selection_of selection while_loop do_loop for_turns for_loop returned with_items statement list_behind block_items type_of callee_of words_of row_type nodes initializer_nodes stmt_nodes spots points_to same without_effects target_effects without_outer_effects conversion added shared union conflict hidden hidden-the_row-CType-0 shape-the_row-CType-0 hidden-the_row-CType-1 shape-the_row-CType-1 hidden-the_row-Expr-0 shape-the_row-Expr-0 hidden-the_row-Place-1 shape-the_row-Place-1 hidden-the_row-Expr-2 shape-the_row-Expr-2 tree-hidden-the_row-Declarator-0 tree-shape-the_row-Declarator-0 tree-hidden-the_row-Declarator-6 tree-shape-the_row-Declarator-6 tree-hidden-the_row-Expr-1 tree-shape-the_row-Expr-1 tree-hidden-the_row-Expr-2 tree-shape-the_row-Expr-2 tree-hidden-the_row-Spec-3 tree-shape-the_row-Spec-3 tree-hidden-the_row-TypeName-4 tree-shape-the_row-TypeName-4 hidden-the_row-Initializer-0 shape-the_row-Initializer-0 hidden-the_row-Stmt-0 shape-the_row-Stmt-0 hidden-the_row-Stmt-1 shape-the_row-Stmt-1 hidden-the_row-Init-0 shape-the_row-Init-0 hidden-the_row-BlockItem-1 shape-the_row-BlockItem-1 tree-hidden-the_row-Stmt-0 tree-shape-the_row-Stmt-0
structures = refl

-- what objects of static storage hold at first
fixed_values :
    fixed Int "1 + 2" (init.Value (bin 0 (num 0 1) binary.Add 2 (num 4 5)))
    ∷ fixed Int "0" (init.Value (num 0 1))
    ∷ fixed Int "-1" (init.Value (pre 0 prefix.Minus (num 1 2)))
    ∷ fixed Char "300" (init.Value (num 0 3))
    ∷ fixed (pointer_to Int) "&w" (init.Value (pre 0 prefix.Address (nam 1 2)))
    ∷ fixed (pointer_to Int) "b" (init.Value (nam 0 1))
    ∷ fixed (pointer_to Int) "(&w)" (init.Value (par 0 (pre 1 prefix.Address (nam 2 3))))
    ∷ fixed (pointer_to Void) "&w" (init.Value (pre 0 prefix.Address (nam 1 2)))
    ∷ fixed (pointer_to Int) "0" (init.Value (num 0 1))
    ∷ fixed (pointer_to Int) "(int*)0" (init.Value (cast 0 (named_type 1 word.Int 1) (num 6 7)))
    ∷ fixed (pointer_to Int) "N" (init.Value (nam 0 1))
    ∷ fixed (pointer_to Char) "\"ab\"" (init.Value (str (at 0 4 ∷ [])))
    ∷ fixed (pointer_to Char) "(\"ab\")" (init.Value (par 0 (str (at 1 5 ∷ []))))
    ∷ fixed (pointer_with plain) "f" (init.Value (nam 0 1))
    ∷ fixed (pointer_with nonblocking) "f" (init.Value (nam 0 1))
    ∷ fixed (pointer_with plain) "g" (init.Value (nam 0 1))
    ∷ fixed (pointer_with plain) "(f)" (init.Value (par 0 (nam 1 2)))
    ∷ fixed (pointer_with plain) "0" (init.Value (num 0 1))
    ∷ fixed (array_of Char 4) "\"ab\"" (init.Value (str (at 0 4 ∷ [])))
    ∷ fixed (array_of Int 3) "{0, 2}" (init.List 0 ((init.Value (num 1 2)) ∷ (init.Value (num 4 5)) ∷ []))
    ∷ fixed (array_of (pointer_to Char) 2) "{\"a\", \"bc\"}" (init.List 0 ((init.Value (str (at 1 4 ∷ []))) ∷ (init.Value (str (at 6 10 ∷ []))) ∷ []))
    ∷ fixed (array_of (Struct 0) 2) "{{0, 2}, {3}}" (init.List 0 ((init.List 1 ((init.Value (num 2 3)) ∷ (init.Value (num 5 6)) ∷ [])) ∷ (init.List 9 ((init.Value (num 10 11)) ∷ [])) ∷ []))
    ∷ fixed Mutex "M" (init.Value (nam 0 1))
    ∷ []
    ≡ Ok (record { at = 100; word = held.Number 3 } ∷ []) ∷ Ok ([]) ∷ Ok (record { at = 100; word = held.Number 4294967295 } ∷ []) ∷ Ok (record { at = 100; word = held.Number 300 } ∷ []) ∷ Ok (record { at = 100; word = held.DataPointer 7 } ∷ []) ∷ Ok (record { at = 100; word = held.DataPointer 20 } ∷ []) ∷ Ok (record { at = 100; word = held.DataPointer 7 } ∷ []) ∷ Ok (record { at = 100; word = held.DataPointer 7 } ∷ []) ∷ Ok ([]) ∷ Ok ([]) ∷ Ok ([]) ∷ Ok (record { at = 100; word = held.DataPointer 31 } ∷ []) ∷ Ok (record { at = 100; word = held.DataPointer 31 } ∷ []) ∷ Ok (record { at = 100; word = held.FunctionPointer 0 level.Plain } ∷ []) ∷ Ok (record { at = 100; word = held.FunctionPointer 0 level.NonBlocking } ∷ []) ∷ Ok (record { at = 100; word = held.FunctionPointer 1 level.Plain } ∷ []) ∷ Ok (record { at = 100; word = held.FunctionPointer 0 level.Plain } ∷ []) ∷ Ok ([]) ∷ Ok (record { at = 100; word = held.Number 97 } ∷ record { at = 101; word = held.Number 98 } ∷ []) ∷ Ok (record { at = 101; word = held.Number 2 } ∷ []) ∷ Ok (record { at = 100; word = held.DataPointer 31 } ∷ record { at = 101; word = held.DataPointer 33 } ∷ []) ∷ Ok (record { at = 101; word = held.Number 2 } ∷ record { at = 102; word = held.Number 3 } ∷ []) ∷ Ok ([]) ∷ []
unfolding indirection element member access address unevaluated size size_of_expression size_of_type plain_assignment number_update pointer_update compound_assignment assignment step_update step_rule spine fresh callee_in callee passed call_rule worth is_null number_constant converted cast_rule with_argument number_in character_in text_in text_initially as_value operand lvalue promoted in_sign pair_of stride arithmetic_on shift_on pointer_in_common equality_on logical_on operation sign_operation negation chosen_type chosen alternatives choice name number character holds_initially string_object text_found text parenthesised and_then name_number scoped value expression size_of pointer_part made type_name outermost_effects with_effects function_type body_read scalar text_fits by_name by_expression part finished by_list initialized count initial_size pointer_word initial_word initializer_words initial_values evaluated condition expression_statement block selection_of selection while_loop do_loop for_turns for_loop returned with_items statement list_behind block_items type_of callee_of words_of row_type nodes initializer_nodes stmt_nodes spots points_to same without_effects target_effects without_outer_effects conversion added shared union conflict hidden hidden-the_row-CType-0 shape-the_row-CType-0 hidden-the_row-CType-1 shape-the_row-CType-1 hidden-the_row-Expr-0 shape-the_row-Expr-0 hidden-the_row-Place-1 shape-the_row-Place-1 hidden-the_row-Expr-2 shape-the_row-Expr-2 tree-hidden-the_row-Declarator-0 tree-shape-the_row-Declarator-0 tree-hidden-the_row-Declarator-6 tree-shape-the_row-Declarator-6 tree-hidden-the_row-Expr-1 tree-shape-the_row-Expr-1 tree-hidden-the_row-Expr-2 tree-shape-the_row-Expr-2 tree-hidden-the_row-Spec-3 tree-shape-the_row-Spec-3 tree-hidden-the_row-TypeName-4 tree-shape-the_row-TypeName-4 hidden-the_row-Initializer-0 shape-the_row-Initializer-0 hidden-the_row-Stmt-0 shape-the_row-Stmt-0 hidden-the_row-Stmt-1 shape-the_row-Stmt-1 hidden-the_row-Init-0 shape-the_row-Init-0 hidden-the_row-BlockItem-1 shape-the_row-BlockItem-1 tree-hidden-the_row-Stmt-0 tree-shape-the_row-Stmt-0
fixed_values = refl

-- what isn't known before the program runs; of the rules that fail the lowest
unfixed :
    fixed Int "i" (init.Value (nam 0 1))
    ∷ fixed Int "w" (init.Value (nam 0 1))
    ∷ fixed Int "1 / 0" (init.Value (bin 0 (num 0 1) binary.Divide 2 (num 4 5)))
    ∷ fixed Int "p" (init.Value (nam 0 1))
    ∷ fixed Int "f(1)" (init.Value (call 0 (nam 0 1) ((num 2 3) ∷ [])))
    ∷ fixed Int "\"a\"" (init.Value (str (at 0 3 ∷ [])))
    ∷ fixed Int "s" (init.Value (nam 0 1))
    ∷ fixed (pointer_to Int) "&i" (init.Value (pre 0 prefix.Address (nam 1 2)))
    ∷ fixed (pointer_to Int) "y" (init.Value (nam 0 1))
    ∷ fixed (pointer_to Int) "&n" (init.Value (pre 0 prefix.Address (nam 1 2)))
    ∷ fixed (pointer_to Int) "&b[1]" (init.Value (pre 0 prefix.Address (idx 1 (nam 1 2) (num 3 4))))
    ∷ fixed (pointer_to Int) "b + 1" (init.Value (bin 0 (nam 0 1) binary.Add 2 (num 4 5)))
    ∷ fixed (pointer_to Int) "(int*)&w" (init.Value (cast 0 (named_type 1 word.Int 1) (pre 6 prefix.Address (nam 7 8))))
    ∷ fixed (pointer_to Int) "\"a\"" (init.Value (str (at 0 3 ∷ [])))
    ∷ fixed (pointer_to Int) "q" (init.Value (nam 0 1))
    ∷ fixed (pointer_with plain) "&f" (init.Value (pre 0 prefix.Address (nam 1 2)))
    ∷ fixed (pointer_with plain) "h" (init.Value (nam 0 1))
    ∷ fixed (pointer_with plain) "m" (init.Value (nam 0 1))
    ∷ fixed (array_of Int 3) "{1, i}" (init.List 0 ((init.Value (num 1 2)) ∷ (init.Value (nam 4 5)) ∷ []))
    ∷ fixed Int "{i, d}" (init.List 0 ((init.Value (nam 1 2)) ∷ (init.Value (nam 4 5)) ∷ []))
    ∷ fixed (pointer_to Char) "&\"ab\"" (init.Value (pre 0 prefix.Address (str (at 1 5 ∷ []))))
    ∷ []
    ≡ Err (7, 0) ∷ Err (7, 0) ∷ Err (7, 0) ∷ Err (7, 0) ∷ Err (7, 0) ∷ Err (11, 0) ∷ Err (3, 0) ∷ Err (7, 0) ∷ Err (7, 0) ∷ Err (7, 0) ∷ Err (7, 0) ∷ Err (7, 0) ∷ Err (7, 0) ∷ Err (3, 0) ∷ Err (3, 0) ∷ Err (7, 0) ∷ Err (7, 0) ∷ Err (11, 0) ∷ Err (7, 4) ∷ Err (7, 1) ∷ Err (3, 0) ∷ []
unfolding indirection element member access address unevaluated size size_of_expression size_of_type plain_assignment number_update pointer_update compound_assignment assignment step_update step_rule spine fresh callee_in callee passed call_rule worth is_null number_constant converted cast_rule with_argument number_in character_in text_in text_initially as_value operand lvalue promoted in_sign pair_of stride arithmetic_on shift_on pointer_in_common equality_on logical_on operation sign_operation negation chosen_type chosen alternatives choice name number character holds_initially string_object text_found text parenthesised and_then name_number scoped value expression size_of pointer_part made type_name outermost_effects with_effects function_type body_read scalar text_fits by_name by_expression part finished by_list initialized count initial_size pointer_word initial_word initializer_words initial_values evaluated condition expression_statement block selection_of selection while_loop do_loop for_turns for_loop returned with_items statement list_behind block_items type_of callee_of words_of row_type nodes initializer_nodes stmt_nodes spots points_to same without_effects target_effects without_outer_effects conversion added shared union conflict hidden hidden-the_row-CType-0 shape-the_row-CType-0 hidden-the_row-CType-1 shape-the_row-CType-1 hidden-the_row-Expr-0 shape-the_row-Expr-0 hidden-the_row-Place-1 shape-the_row-Place-1 hidden-the_row-Expr-2 shape-the_row-Expr-2 tree-hidden-the_row-Declarator-0 tree-shape-the_row-Declarator-0 tree-hidden-the_row-Declarator-6 tree-shape-the_row-Declarator-6 tree-hidden-the_row-Expr-1 tree-shape-the_row-Expr-1 tree-hidden-the_row-Expr-2 tree-shape-the_row-Expr-2 tree-hidden-the_row-Spec-3 tree-shape-the_row-Spec-3 tree-hidden-the_row-TypeName-4 tree-shape-the_row-TypeName-4 hidden-the_row-Initializer-0 shape-the_row-Initializer-0 hidden-the_row-Stmt-0 shape-the_row-Stmt-0 hidden-the_row-Stmt-1 shape-the_row-Stmt-1 hidden-the_row-Init-0 shape-the_row-Init-0 hidden-the_row-BlockItem-1 shape-the_row-BlockItem-1 tree-hidden-the_row-Stmt-0 tree-shape-the_row-Stmt-0
unfixed = refl

-- the size of an array without one
sizes :
    size_in Int "{1, 2}" (init.List 0 ((init.Value (num 1 2)) ∷ (init.Value (num 4 5)) ∷ []))
    ∷ size_in Int "{0}" (init.List 0 ((init.Value (num 1 2)) ∷ []))
    ∷ size_in Char "\"abc\"" (init.Value (str (at 0 5 ∷ [])))
    ∷ size_in Char "{'a', 'b', 'c'}" (init.List 0 ((init.Value (chr 1 4)) ∷ (init.Value (chr 6 9)) ∷ (init.Value (chr 11 14)) ∷ []))
    ∷ size_in (Struct 0) "{{0}, {0}}" (init.List 0 ((init.List 1 ((init.Value (num 2 3)) ∷ [])) ∷ (init.List 6 ((init.Value (num 7 8)) ∷ [])) ∷ []))
    ∷ size_in Int "i" (init.Value (nam 0 1))
    ∷ []
    ≡ 2 ∷ 1 ∷ 4 ∷ 3 ∷ 2 ∷ 1 ∷ []
unfolding indirection element member access address unevaluated size size_of_expression size_of_type plain_assignment number_update pointer_update compound_assignment assignment step_update step_rule spine fresh callee_in callee passed call_rule worth is_null number_constant converted cast_rule with_argument number_in character_in text_in text_initially as_value operand lvalue promoted in_sign pair_of stride arithmetic_on shift_on pointer_in_common equality_on logical_on operation sign_operation negation chosen_type chosen alternatives choice name number character holds_initially string_object text_found text parenthesised and_then name_number scoped value expression size_of pointer_part made type_name outermost_effects with_effects function_type body_read scalar text_fits by_name by_expression part finished by_list initialized count initial_size pointer_word initial_word initializer_words initial_values evaluated condition expression_statement block selection_of selection while_loop do_loop for_turns for_loop returned with_items statement list_behind block_items type_of callee_of words_of row_type nodes initializer_nodes stmt_nodes spots points_to same without_effects target_effects without_outer_effects conversion added shared union conflict hidden hidden-the_row-CType-0 shape-the_row-CType-0 hidden-the_row-CType-1 shape-the_row-CType-1 hidden-the_row-Expr-0 shape-the_row-Expr-0 hidden-the_row-Place-1 shape-the_row-Place-1 hidden-the_row-Expr-2 shape-the_row-Expr-2 tree-hidden-the_row-Declarator-0 tree-shape-the_row-Declarator-0 tree-hidden-the_row-Declarator-6 tree-shape-the_row-Declarator-6 tree-hidden-the_row-Expr-1 tree-shape-the_row-Expr-1 tree-hidden-the_row-Expr-2 tree-shape-the_row-Expr-2 tree-hidden-the_row-Spec-3 tree-shape-the_row-Spec-3 tree-hidden-the_row-TypeName-4 tree-shape-the_row-TypeName-4 hidden-the_row-Initializer-0 shape-the_row-Initializer-0 hidden-the_row-Stmt-0 shape-the_row-Stmt-0 hidden-the_row-Stmt-1 shape-the_row-Stmt-1 hidden-the_row-Init-0 shape-the_row-Init-0 hidden-the_row-BlockItem-1 shape-the_row-BlockItem-1 tree-hidden-the_row-Stmt-0 tree-shape-the_row-Stmt-0
sizes = refl
