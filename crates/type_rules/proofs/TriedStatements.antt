-- Statements, tried.
use Rattle.std.proofs.Common.{◌≡◌, true, refl, ℕ, [], ◌∷◌, Some, None, Result, Ok, Err}
use Prim.Native.String.{String}
use Rattle.eff_types.specs.declared.types.CType.{Void}
use Rattle.c_tree.specs.declared.expressions.AssignmentOperator.TheVariants as assign
use Rattle.c_tree.specs.declared.expressions.BinaryOperator.TheVariants as binary
use Rattle.c_tree.specs.declared.expressions.StepOperator.TheVariants as step
use Rattle.c_tree.specs.declared.statements.BlockItem.TheVariants as item
use Rattle.c_tree.specs.declared.statements.ForStart.TheVariants as start
use Rattle.c_tree.specs.declared.statements.Stmt.{Stmt}
use Rattle.c_tree.specs.declared.statements.Stmt.TheVariants as stmt
use Rattle.core_unit.specs.declared.body.Stmt.{Stmt as Typed}
use Rattle.type_rules.specs.Reading.{Read, Good, Bad}
use Rattle.type_rules.proofs.Trees.{nam, num, call, post, bin, asg, opening}
use Rattle.type_rules.specs.Access.{indirection, element, member, access, address, unevaluated, size, size_of_expression, size_of_type}
use Rattle.type_rules.specs.Assignments.{plain_assignment, number_update, pointer_update, compound_assignment, assignment, step_update, step as step_rule}
use Rattle.type_rules.specs.Calls.{spine, fresh, callee_in, callee, passed, call as call_rule}
use Rattle.type_rules.specs.Constants.{worth, is_null, number_constant}
use Rattle.type_rules.specs.Conversions.{converted, cast as cast_rule}
use Rattle.type_rules.specs.Expressions.{with_argument}
use Rattle.type_rules.specs.Literals.{number_in, character_in, text_in, text_initially}
use Rattle.type_rules.specs.Operands.{as_value, operand, lvalue, promoted, in_sign}
use Rattle.type_rules.specs.Operators.{pair_of, stride, arithmetic_on, shift_on, pointer_in_common, equality_on, logical_on, operation, sign_operation, negation, chosen_type, chosen, alternatives, choice}
use Rattle.type_rules.specs.Primaries.{name, number, character, holds_initially, string_object, text_found, text, parenthesised}
use Rattle.type_rules.specs.Reading.{and_then, name_number, scoped}
use Rattle.type_rules.specs.Recursion.{value, expression}
use Rattle.type_rules.specs.Sizes.{size_of}
use Rattle.type_rules.specs.Declarators.{pointer_part, made, type_name}
use Rattle.type_rules.specs.Types.{outermost_effects, with_effects}
use Rattle.type_rules.specs.Functions.{function_type, body_read}
use Rattle.type_rules.specs.Initializers.{scalar, text_fits, by_name, by_expression, part, finished, by_list, initialized, count, initial_size}
use Rattle.type_rules.specs.InitialValues.{pointer_word, initial_word, initializer_words, initial_values}
use Rattle.type_rules.specs.Statements.{evaluated, condition, expression_statement, block, selection_of, selection, while_loop, do_loop, for_turns, for_loop, returned, with_items, statement, list_behind, block_items}
use Rattle.core_unit.specs.Typing.{type_of}
use Rattle.core_unit.specs.Shapes.{callee_of}
use Rattle.core_unit.specs.Layout.{words_of}
use Rattle.core_unit.specs.Library.{row_type}
use Rattle.core_unit.specs.Nodes.{nodes, initializer_nodes, stmt_nodes}
use Rattle.core_unit.specs.Places.{spots}
use Rattle.eff_types.specs.Types.{points_to, same, without_effects, target_effects, without_outer_effects}
use Rattle.eff_types.specs.Conversion.{conversion}
use Rattle.eff_types.specs.Effects.{added, shared, union, conflict}
use denote.Hole.Carrier.{hidden}
use Rattle.core_unit.specs.declared.expressions.Expr.TheBlock.{hidden-the_row-Expr-0, shape-the_row-Expr-0, hidden-the_row-Place-1, shape-the_row-Place-1, hidden-the_row-Expr-2, shape-the_row-Expr-2}
use Rattle.c_tree.specs.declared.expressions.Declarator.TheBlock.{hidden-the_row-Declarator-0 as tree-hidden-the_row-Declarator-0, shape-the_row-Declarator-0 as tree-shape-the_row-Declarator-0, hidden-the_row-Declarator-6 as tree-hidden-the_row-Declarator-6, shape-the_row-Declarator-6 as tree-shape-the_row-Declarator-6, hidden-the_row-Expr-1 as tree-hidden-the_row-Expr-1, shape-the_row-Expr-1 as tree-shape-the_row-Expr-1, hidden-the_row-Expr-2 as tree-hidden-the_row-Expr-2, shape-the_row-Expr-2 as tree-shape-the_row-Expr-2, hidden-the_row-Spec-3 as tree-hidden-the_row-Spec-3, shape-the_row-Spec-3 as tree-shape-the_row-Spec-3, hidden-the_row-TypeName-4 as tree-hidden-the_row-TypeName-4, shape-the_row-TypeName-4 as tree-shape-the_row-TypeName-4}
use Rattle.eff_types.specs.declared.types.CType.TheBlock.{hidden-the_row-CType-0, shape-the_row-CType-0, hidden-the_row-CType-1, shape-the_row-CType-1}
use Rattle.core_unit.specs.declared.body.Initializer.TheBlock.{hidden-the_row-Initializer-0, shape-the_row-Initializer-0}
use Rattle.core_unit.specs.declared.body.Stmt.TheBlock.{hidden-the_row-Stmt-0, shape-the_row-Stmt-0, hidden-the_row-Stmt-1, shape-the_row-Stmt-1}
use Rattle.c_tree.specs.declared.declarations.Init.TheBlock.{hidden-the_row-Init-0, shape-the_row-Init-0}
use Rattle.c_tree.specs.declared.statements.BlockItem.TheBlock.{hidden-the_row-BlockItem-1, shape-the_row-BlockItem-1, hidden-the_row-Stmt-0 as tree-hidden-the_row-Stmt-0, shape-the_row-Stmt-0 as tree-shape-the_row-Stmt-0}

abbrev told : Read Typed → Result ℕ (ℕ × ℕ)
told (Good t s) = Ok (stmt_nodes t)
told (Bad number place) = Err (number, place)

-- in a function whose result is an `int`, and in one without a result
abbrev read_in : String → Stmt → Result ℕ (ℕ × ℕ)
read_in source t = told (statement true t (opening source))

abbrev read_without_result : String → Stmt → Result ℕ (ℕ × ℕ)
read_without_result source t = told (statement true t (record (opening source) { result = Void }))

-- statements, by their nodes
statements :
    read_in "i = 1;" (stmt.Expression 0 (Some (asg 0 (nam 0 1) assign.Plain 2 (num 4 5))))
    ∷ read_in ";" (stmt.Expression 0 None)
    ∷ read_in "{ i; ; }" (stmt.Block 0 (item.Statement (stmt.Expression 2 (Some (nam 2 3))) ∷ item.Statement (stmt.Expression 5 None) ∷ []))
    ∷ read_in "if (c) i; else ;" (stmt.If 0 (nam 4 5) (stmt.Expression 7 (Some (nam 7 8))) (Some (stmt.Expression 15 None)))
    ∷ read_in "if (i) ;" (stmt.If 0 (nam 4 5) (stmt.Expression 7 None) None)
    ∷ read_in "while (p) i++;" (stmt.While 0 (nam 7 8) (stmt.Expression 10 (Some (post 10 (nam 10 11) step.Increment))))
    ∷ read_in "do ; while (h);" (stmt.DoWhile 0 (stmt.Expression 3 None) (nam 12 13))
    ∷ read_in "for (i = 0; i < 3; i++) ;" (stmt.For 0 (start.Expression (Some (asg 5 (nam 5 6) assign.Plain 7 (num 9 10)))) (Some (bin 12 (nam 12 13) binary.Less 14 (num 16 17))) (Some (post 19 (nam 19 20) step.Increment)) (stmt.Expression 24 None))
    ∷ read_in "for (;;) break;" (stmt.For 0 (start.Expression None) None None (stmt.Break 9))
    ∷ read_in "while (1) { continue; }" (stmt.While 0 (num 7 8) (stmt.Block 10 (item.Statement (stmt.Continue 12) ∷ [])))
    ∷ read_in "return c;" (stmt.Return 0 (Some (nam 7 8)))
    ∷ read_in "return 0;" (stmt.Return 0 (Some (num 7 8)))
    ∷ read_in "y;" (stmt.Expression 0 (Some (nam 0 1)))
    ∷ read_in "f;" (stmt.Expression 0 (Some (nam 0 1)))
    ∷ []
    ≡ Ok 4 ∷ Ok 1 ∷ Ok 4 ∷ Ok 5 ∷ Ok 3 ∷ Ok 5 ∷ Ok 3 ∷ Ok 10 ∷ Ok 2 ∷ Ok 4 ∷ Ok 3 ∷ Ok 2 ∷ Ok 3 ∷ Ok 3 ∷ []
unfolding indirection element member access address unevaluated size size_of_expression size_of_type plain_assignment number_update pointer_update compound_assignment assignment step_update step_rule spine fresh callee_in callee passed call_rule worth is_null number_constant converted cast_rule with_argument number_in character_in text_in text_initially as_value operand lvalue promoted in_sign pair_of stride arithmetic_on shift_on pointer_in_common equality_on logical_on operation sign_operation negation chosen_type chosen alternatives choice name number character holds_initially string_object text_found text parenthesised and_then name_number scoped value expression size_of pointer_part made type_name outermost_effects with_effects function_type body_read scalar text_fits by_name by_expression part finished by_list initialized count initial_size pointer_word initial_word initializer_words initial_values evaluated condition expression_statement block selection_of selection while_loop do_loop for_turns for_loop returned with_items statement list_behind block_items type_of callee_of words_of row_type nodes initializer_nodes stmt_nodes spots points_to same without_effects target_effects without_outer_effects conversion added shared union conflict hidden hidden-the_row-CType-0 shape-the_row-CType-0 hidden-the_row-CType-1 shape-the_row-CType-1 hidden-the_row-Expr-0 shape-the_row-Expr-0 hidden-the_row-Place-1 shape-the_row-Place-1 hidden-the_row-Expr-2 shape-the_row-Expr-2 tree-hidden-the_row-Declarator-0 tree-shape-the_row-Declarator-0 tree-hidden-the_row-Declarator-6 tree-shape-the_row-Declarator-6 tree-hidden-the_row-Expr-1 tree-shape-the_row-Expr-1 tree-hidden-the_row-Expr-2 tree-shape-the_row-Expr-2 tree-hidden-the_row-Spec-3 tree-shape-the_row-Spec-3 tree-hidden-the_row-TypeName-4 tree-shape-the_row-TypeName-4 hidden-the_row-Initializer-0 shape-the_row-Initializer-0 hidden-the_row-Stmt-0 shape-the_row-Stmt-0 hidden-the_row-Stmt-1 shape-the_row-Stmt-1 hidden-the_row-Init-0 shape-the_row-Init-0 hidden-the_row-BlockItem-1 shape-the_row-BlockItem-1 tree-hidden-the_row-Stmt-0 tree-shape-the_row-Stmt-0
statements = refl

-- faults of statements
faults :
    read_in "if (s) ;" (stmt.If 0 (nam 4 5) (stmt.Expression 7 None) None)
    ∷ read_in "if (l()) ;" (stmt.If 0 (call 4 (nam 4 5) ([])) (stmt.Expression 9 None) None)
    ∷ read_in "while (s) d;" (stmt.While 0 (nam 7 8) (stmt.Expression 10 (Some (nam 10 11))))
    ∷ read_in "do d; while (s);" (stmt.DoWhile 0 (stmt.Expression 3 (Some (nam 3 4))) (nam 13 14))
    ∷ read_in "do ; while (l());" (stmt.DoWhile 0 (stmt.Expression 3 None) (call 12 (nam 12 13) ([])))
    ∷ read_in "for (d; s; ) ;" (stmt.For 0 (start.Expression (Some (nam 5 6))) (Some (nam 8 9)) None (stmt.Expression 13 None))
    ∷ read_in "for (;l();) ;" (stmt.For 0 (start.Expression None) (Some (call 6 (nam 6 7) ([]))) None (stmt.Expression 12 None))
    ∷ read_in "for (;;d) s;" (stmt.For 0 (start.Expression None) None (Some (nam 7 8)) (stmt.Expression 10 (Some (nam 10 11))))
    ∷ read_in "for (;;i) s;" (stmt.For 0 (start.Expression None) None (Some (nam 7 8)) (stmt.Expression 10 (Some (nam 10 11))))
    ∷ read_in "return;" (stmt.Return 0 None)
    ∷ read_in "return p;" (stmt.Return 0 (Some (nam 7 8)))
    ∷ read_in "return l();" (stmt.Return 0 (Some (call 7 (nam 7 8) ([]))))
    ∷ read_in "return s;" (stmt.Return 0 (Some (nam 7 8)))
    ∷ read_in "s;" (stmt.Expression 0 (Some (nam 0 1)))
    ∷ read_in "d;" (stmt.Expression 0 (Some (nam 0 1)))
    ∷ read_in "if (i) d; else e;" (stmt.If 0 (nam 4 5) (stmt.Expression 7 (Some (nam 7 8))) (Some (stmt.Expression 15 (Some (nam 15 16)))))
    ∷ read_in "if (i) i; else s;" (stmt.If 0 (nam 4 5) (stmt.Expression 7 (Some (nam 7 8))) (Some (stmt.Expression 15 (Some (nam 15 16)))))
    ∷ read_in "{ i; { d; } }" (stmt.Block 0 (item.Statement (stmt.Expression 2 (Some (nam 2 3))) ∷ item.Statement (stmt.Block 5 (item.Statement (stmt.Expression 7 (Some (nam 7 8))) ∷ [])) ∷ []))
    ∷ []
    ≡ Err (3, 4) ∷ Err (3, 4) ∷ Err (3, 7) ∷ Err (1, 3) ∷ Err (3, 12) ∷ Err (1, 5) ∷ Err (3, 6) ∷ Err (1, 7) ∷ Err (3, 10) ∷ Err (3, 0) ∷ Err (11, 7) ∷ Err (3, 7) ∷ Err (3, 7) ∷ Err (3, 0) ∷ Err (1, 0) ∷ Err (1, 7) ∷ Err (3, 15) ∷ Err (1, 7) ∷ []
unfolding indirection element member access address unevaluated size size_of_expression size_of_type plain_assignment number_update pointer_update compound_assignment assignment step_update step_rule spine fresh callee_in callee passed call_rule worth is_null number_constant converted cast_rule with_argument number_in character_in text_in text_initially as_value operand lvalue promoted in_sign pair_of stride arithmetic_on shift_on pointer_in_common equality_on logical_on operation sign_operation negation chosen_type chosen alternatives choice name number character holds_initially string_object text_found text parenthesised and_then name_number scoped value expression size_of pointer_part made type_name outermost_effects with_effects function_type body_read scalar text_fits by_name by_expression part finished by_list initialized count initial_size pointer_word initial_word initializer_words initial_values evaluated condition expression_statement block selection_of selection while_loop do_loop for_turns for_loop returned with_items statement list_behind block_items type_of callee_of words_of row_type nodes initializer_nodes stmt_nodes spots points_to same without_effects target_effects without_outer_effects conversion added shared union conflict hidden hidden-the_row-CType-0 shape-the_row-CType-0 hidden-the_row-CType-1 shape-the_row-CType-1 hidden-the_row-Expr-0 shape-the_row-Expr-0 hidden-the_row-Place-1 shape-the_row-Place-1 hidden-the_row-Expr-2 shape-the_row-Expr-2 tree-hidden-the_row-Declarator-0 tree-shape-the_row-Declarator-0 tree-hidden-the_row-Declarator-6 tree-shape-the_row-Declarator-6 tree-hidden-the_row-Expr-1 tree-shape-the_row-Expr-1 tree-hidden-the_row-Expr-2 tree-shape-the_row-Expr-2 tree-hidden-the_row-Spec-3 tree-shape-the_row-Spec-3 tree-hidden-the_row-TypeName-4 tree-shape-the_row-TypeName-4 hidden-the_row-Initializer-0 shape-the_row-Initializer-0 hidden-the_row-Stmt-0 shape-the_row-Stmt-0 hidden-the_row-Stmt-1 shape-the_row-Stmt-1 hidden-the_row-Init-0 shape-the_row-Init-0 hidden-the_row-BlockItem-1 shape-the_row-BlockItem-1 tree-hidden-the_row-Stmt-0 tree-shape-the_row-Stmt-0
faults = refl

-- `return` without a result
results :
    read_without_result "return;" (stmt.Return 0 None)
    ∷ read_without_result "return i;" (stmt.Return 0 (Some (nam 7 8)))
    ∷ read_without_result "return l();" (stmt.Return 0 (Some (call 7 (nam 7 8) ([]))))
    ∷ read_without_result "return d;" (stmt.Return 0 (Some (nam 7 8)))
    ∷ read_without_result "return s;" (stmt.Return 0 (Some (nam 7 8)))
    ∷ []
    ≡ Ok 1 ∷ Err (3, 7) ∷ Err (3, 7) ∷ Err (1, 7) ∷ Err (3, 7) ∷ []
unfolding indirection element member access address unevaluated size size_of_expression size_of_type plain_assignment number_update pointer_update compound_assignment assignment step_update step_rule spine fresh callee_in callee passed call_rule worth is_null number_constant converted cast_rule with_argument number_in character_in text_in text_initially as_value operand lvalue promoted in_sign pair_of stride arithmetic_on shift_on pointer_in_common equality_on logical_on operation sign_operation negation chosen_type chosen alternatives choice name number character holds_initially string_object text_found text parenthesised and_then name_number scoped value expression size_of pointer_part made type_name outermost_effects with_effects function_type body_read scalar text_fits by_name by_expression part finished by_list initialized count initial_size pointer_word initial_word initializer_words initial_values evaluated condition expression_statement block selection_of selection while_loop do_loop for_turns for_loop returned with_items statement list_behind block_items type_of callee_of words_of row_type nodes initializer_nodes stmt_nodes spots points_to same without_effects target_effects without_outer_effects conversion added shared union conflict hidden hidden-the_row-CType-0 shape-the_row-CType-0 hidden-the_row-CType-1 shape-the_row-CType-1 hidden-the_row-Expr-0 shape-the_row-Expr-0 hidden-the_row-Place-1 shape-the_row-Place-1 hidden-the_row-Expr-2 shape-the_row-Expr-2 tree-hidden-the_row-Declarator-0 tree-shape-the_row-Declarator-0 tree-hidden-the_row-Declarator-6 tree-shape-the_row-Declarator-6 tree-hidden-the_row-Expr-1 tree-shape-the_row-Expr-1 tree-hidden-the_row-Expr-2 tree-shape-the_row-Expr-2 tree-hidden-the_row-Spec-3 tree-shape-the_row-Spec-3 tree-hidden-the_row-TypeName-4 tree-shape-the_row-TypeName-4 hidden-the_row-Initializer-0 shape-the_row-Initializer-0 hidden-the_row-Stmt-0 shape-the_row-Stmt-0 hidden-the_row-Stmt-1 shape-the_row-Stmt-1 hidden-the_row-Init-0 shape-the_row-Init-0 hidden-the_row-BlockItem-1 shape-the_row-BlockItem-1 tree-hidden-the_row-Stmt-0 tree-shape-the_row-Stmt-0
results = refl
