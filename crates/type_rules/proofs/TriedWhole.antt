-- Whole units, tried.
use Rattle.std.proofs.Common.{◌≡◌, refl, ℕ, List, [], ◌∷◌, Option, Some, None, codes}
use denote.Hole.Carrier.{hidden}
use Rattle.c_tree.specs.declared.declarations.Init.TheBlock.{hidden-the_row-Init-0, shape-the_row-Init-0}
use Rattle.c_tree.specs.declared.declarations.Init.TheVariants as init
use Rattle.c_tree.specs.declared.expressions.AccessOperator.TheVariants as access
use Rattle.c_tree.specs.declared.expressions.AssignmentOperator.TheVariants as assignment
use Rattle.c_tree.specs.declared.expressions.BinaryOperator.TheVariants as binary
use Rattle.c_tree.specs.declared.expressions.Declarator.TheBlock.{hidden-the_row-Declarator-0, shape-the_row-Declarator-0, hidden-the_row-Declarator-6, shape-the_row-Declarator-6, hidden-the_row-Expr-1, shape-the_row-Expr-1, hidden-the_row-Expr-2, shape-the_row-Expr-2, hidden-the_row-Spec-3, shape-the_row-Spec-3, hidden-the_row-TypeName-4, shape-the_row-TypeName-4, hidden-the_row-Param-5, shape-the_row-Param-5, hidden-the_row-Member-7, shape-the_row-Member-7, hidden-the_row-Enumerator-8, shape-the_row-Enumerator-8}
use Rattle.c_tree.specs.declared.expressions.Declarator.TheVariants as of_declarator
use Rattle.c_tree.specs.declared.expressions.Expr.TheVariants as expr
use Rattle.c_tree.specs.declared.expressions.Parameters.TheVariants as params
use Rattle.c_tree.specs.declared.expressions.Spec.TheVariants as spec
use Rattle.c_tree.specs.declared.expressions.StepOperator.TheVariants as step
use Rattle.c_tree.specs.declared.expressions.UnaryOperator.TheVariants as unary
use Rattle.c_tree.specs.declared.statements.BlockItem.TheBlock.{hidden-the_row-BlockItem-1, shape-the_row-BlockItem-1, hidden-the_row-Stmt-0, shape-the_row-Stmt-0}
use Rattle.c_tree.specs.declared.statements.BlockItem.TheVariants as item
use Rattle.c_tree.specs.declared.statements.External.TheVariants as external
use Rattle.c_tree.specs.declared.statements.ForStart.TheVariants as start
use Rattle.c_tree.specs.declared.statements.Stmt.TheVariants as stmt
use Rattle.c_tree.specs.declared.statements.Tree.{Tree}
use Rattle.c_tree.specs.declared.words.AttrSpelling.TheVariants as spelling
use Rattle.c_tree.specs.declared.words.Effect.TheVariants as effect
use Rattle.c_tree.specs.declared.words.Span.{Span}
use Rattle.c_tree.specs.declared.words.StorageWord.TheVariants as storage
use Rattle.c_tree.specs.declared.words.TypeWord.TheVariants as type_word
use Rattle.eff_types.specs.declared.types.CType.TheBlock.{hidden-the_row-CType-0, shape-the_row-CType-0, hidden-the_row-CType-1, shape-the_row-CType-1}
use Rattle.core_unit.specs.declared.expressions.Expr.TheBlock.{hidden-the_row-Expr-0, shape-the_row-Expr-0, hidden-the_row-Place-1, shape-the_row-Place-1, hidden-the_row-Expr-2 as hidden-arguments, shape-the_row-Expr-2 as shape-arguments}
use Rattle.core_unit.specs.declared.body.Initializer.TheBlock.{hidden-the_row-Initializer-0, shape-the_row-Initializer-0}
use Rattle.core_unit.specs.declared.body.Stmt.TheBlock.{hidden-the_row-Stmt-0 as hidden-unit-0, shape-the_row-Stmt-0 as shape-unit-0, hidden-the_row-Stmt-1 as hidden-unit-1, shape-the_row-Stmt-1 as shape-unit-1}
use Rattle.type_rules.specs.Access.{indirection, element, member, access, address, unevaluated, size, size_of_expression, size_of_type}
use Rattle.type_rules.specs.Assignments.{plain_assignment, number_update, pointer_update, compound_assignment, assignment, step_update, step}
use Rattle.type_rules.specs.Calls.{spine, fresh, callee_in, callee, passed, call}
use Rattle.type_rules.specs.Constants.{worth, is_null, number_constant}
use Rattle.type_rules.specs.Conversions.{converted, cast}
use Rattle.type_rules.specs.Declarations.{typedef_declared, function_named, variable_named, init_declarator, declaration, file_declaration, block_name, block_declaration, defined_name, definition}
use Rattle.type_rules.specs.Declarators.{pointer_part, array_part, function_part, made, parameter, type_name, member as member_of_type_rules_declarators}
use Rattle.type_rules.specs.Expressions.{with_argument}
use Rattle.type_rules.specs.Functions.{function_type, body_read}
use Rattle.type_rules.specs.InitialValues.{pointer_word, initial_word, initializer_words, initial_values}
use Rattle.type_rules.specs.Initializers.{scalar, text_fits, by_name, by_expression, part, finished, by_list, count, initial_size, initialized}
use Rattle.type_rules.specs.Literals.{number_in, character_in, text_in, text_initially}
use Rattle.type_rules.specs.Operands.{as_value, operand, lvalue, promoted, in_sign}
use Rattle.type_rules.specs.Operators.{pair_of, stride, arithmetic_on, shift_on, pointer_in_common, equality_on, logical_on, operation, sign_operation, negation, chosen_type, chosen, alternatives, choice}
use Rattle.type_rules.specs.Primaries.{name, number, character, holds_initially, string_object, text_found, text, parenthesised}
use Rattle.type_rules.specs.Reading.{and_then, name_number, scoped, Read, Good, Bad}
use Rattle.type_rules.specs.Recursion.{expression, value}
use Rattle.type_rules.specs.Sizes.{size_of}
use Rattle.type_rules.specs.Specifiers.{typedef_name, tagged_structure, structure_name, structure, tagged_enumeration, enumeration_name, enumeration, enumerator}
use Rattle.type_rules.specs.Statements.{evaluated, condition, expression_statement, block, selection_of, selection, while_loop, do_loop, for_turns, for_loop, returned, with_items, list_behind, block_items, statement}
use Rattle.type_rules.specs.Types.{outermost_effects, with_effects}
use Rattle.type_rules.specs.Units.{typed, parts_of, exceeded, outcome}
use Rattle.eff_types.specs.Comparison.{likeness_of, each_likeness, signature_likeness_of}
use Rattle.eff_types.specs.Conversion.{conversion}
use Rattle.eff_types.specs.Effects.{union, conflict, effects_of, merged, added, shared}
use Rattle.eff_types.specs.Types.{points_to, target_effects, without_outer_effects, same, without_effects}
use Rattle.core_unit.specs.Layout.{words_of, opening_of, automatics}
use Rattle.core_unit.specs.Levels.{PlaceKeeps, InitializerKeeps, StmtKeeps}
use Rattle.core_unit.specs.Library.{row_type}
use Rattle.core_unit.specs.Nodes.{place_nodes, initializer_nodes, stmt_nodes}
use Rattle.core_unit.specs.Places.{places, place_spots, initializer_spots, stmt_spots}
use Rattle.core_unit.specs.Shapes.{callee_of}
use Rattle.core_unit.specs.Stores.{stores}
use Rattle.core_unit.specs.Structures.{structure_in, IsWithin}
use Rattle.core_unit.specs.Typed.{AreVariables, IsTypedPlace, IsInitializer, IsTypedStmt}
use Rattle.core_unit.specs.Typing.{place_type}
use Rattle.core_unit.specs.Words.{packed}

abbrev sp : ℕ → ℕ → Span
sp start end = record { start = start; end = end }

-- the number and the place of the first rule that a tree breaks
abbrev fault : Read (Unit {0}) → Option (ℕ × ℕ)
fault (Good _ s) = None
fault (Bad number place) = Some (number, place)

abbrev first_fault : List ℕ → Tree → Option (ℕ × ℕ)
first_fault source tree = fault (typed source [] tree)

-- enum { A = «here» 0x80000000 };
whole_1 : first_fault (codes "enum { A = 0x80000000 };") (record { externals = (external.Declaration (record { place = 0; specs = (spec.Enum 0 None ((record { name = (sp 7 8); value = (Some (expr.Number (sp 11 21))) }) ∷ []) ∷ []); declarators = [] }) ∷ []) }) ≡ Some (7, 11)
unfolding hidden hidden-the_row-BlockItem-1 hidden-the_row-CType-0 hidden-the_row-CType-1 hidden-the_row-Declarator-0 hidden-the_row-Declarator-6 hidden-the_row-Enumerator-8 hidden-the_row-Expr-0 hidden-the_row-Expr-1 hidden-the_row-Expr-2 hidden-arguments hidden-the_row-Init-0 hidden-the_row-Initializer-0 hidden-the_row-Member-7 hidden-the_row-Param-5 hidden-the_row-Place-1 hidden-the_row-Spec-3 hidden-the_row-Stmt-0 hidden-unit-0 hidden-unit-1 hidden-the_row-TypeName-4 shape-the_row-BlockItem-1 shape-the_row-CType-0 shape-the_row-CType-1 shape-the_row-Declarator-0 shape-the_row-Declarator-6 shape-the_row-Enumerator-8 shape-the_row-Expr-0 shape-the_row-Expr-1 shape-the_row-Expr-2 shape-arguments shape-the_row-Init-0 shape-the_row-Initializer-0 shape-the_row-Member-7 shape-the_row-Param-5 shape-the_row-Place-1 shape-the_row-Spec-3 shape-the_row-Stmt-0 shape-unit-0 shape-unit-1 shape-the_row-TypeName-4 indirection element member access address unevaluated size size_of_expression size_of_type plain_assignment number_update pointer_update compound_assignment assignment step_update step spine fresh callee_in callee passed call worth is_null number_constant converted cast typedef_declared function_named variable_named init_declarator declaration file_declaration block_name block_declaration defined_name definition pointer_part array_part function_part made parameter type_name member_of_type_rules_declarators with_argument function_type body_read pointer_word initial_word initializer_words initial_values scalar text_fits by_name by_expression part finished by_list count initial_size initialized number_in character_in text_in text_initially as_value operand lvalue promoted in_sign pair_of stride arithmetic_on shift_on pointer_in_common equality_on logical_on operation sign_operation negation chosen_type chosen alternatives choice name number character holds_initially string_object text_found text parenthesised and_then name_number scoped expression value size_of typedef_name tagged_structure structure_name structure tagged_enumeration enumeration_name enumeration enumerator evaluated condition expression_statement block selection_of selection while_loop do_loop for_turns for_loop returned with_items list_behind block_items statement outermost_effects with_effects typed parts_of exceeded outcome likeness_of each_likeness signature_likeness_of conversion union conflict effects_of merged added shared points_to target_effects without_outer_effects same without_effects words_of opening_of automatics PlaceKeeps InitializerKeeps StmtKeeps row_type place_nodes initializer_nodes stmt_nodes places place_spots initializer_spots stmt_spots callee_of stores structure_in IsWithin AreVariables IsTypedPlace IsInitializer IsTypedStmt place_type packed
whole_1 = refl

-- enum { A = «here» 2147483647 + 1 };
whole_2 : first_fault (codes "enum { A = 2147483647 + 1 };") (record { externals = (external.Declaration (record { place = 0; specs = (spec.Enum 0 None ((record { name = (sp 7 8); value = (Some (expr.Binary 11 (expr.Number (sp 11 21)) binary.Add 22 (expr.Number (sp 24 25)))) }) ∷ []) ∷ []); declarators = [] }) ∷ []) }) ≡ Some (7, 11)
unfolding hidden hidden-the_row-BlockItem-1 hidden-the_row-CType-0 hidden-the_row-CType-1 hidden-the_row-Declarator-0 hidden-the_row-Declarator-6 hidden-the_row-Enumerator-8 hidden-the_row-Expr-0 hidden-the_row-Expr-1 hidden-the_row-Expr-2 hidden-arguments hidden-the_row-Init-0 hidden-the_row-Initializer-0 hidden-the_row-Member-7 hidden-the_row-Param-5 hidden-the_row-Place-1 hidden-the_row-Spec-3 hidden-the_row-Stmt-0 hidden-unit-0 hidden-unit-1 hidden-the_row-TypeName-4 shape-the_row-BlockItem-1 shape-the_row-CType-0 shape-the_row-CType-1 shape-the_row-Declarator-0 shape-the_row-Declarator-6 shape-the_row-Enumerator-8 shape-the_row-Expr-0 shape-the_row-Expr-1 shape-the_row-Expr-2 shape-arguments shape-the_row-Init-0 shape-the_row-Initializer-0 shape-the_row-Member-7 shape-the_row-Param-5 shape-the_row-Place-1 shape-the_row-Spec-3 shape-the_row-Stmt-0 shape-unit-0 shape-unit-1 shape-the_row-TypeName-4 indirection element member access address unevaluated size size_of_expression size_of_type plain_assignment number_update pointer_update compound_assignment assignment step_update step spine fresh callee_in callee passed call worth is_null number_constant converted cast typedef_declared function_named variable_named init_declarator declaration file_declaration block_name block_declaration defined_name definition pointer_part array_part function_part made parameter type_name member_of_type_rules_declarators with_argument function_type body_read pointer_word initial_word initializer_words initial_values scalar text_fits by_name by_expression part finished by_list count initial_size initialized number_in character_in text_in text_initially as_value operand lvalue promoted in_sign pair_of stride arithmetic_on shift_on pointer_in_common equality_on logical_on operation sign_operation negation chosen_type chosen alternatives choice name number character holds_initially string_object text_found text parenthesised and_then name_number scoped expression value size_of typedef_name tagged_structure structure_name structure tagged_enumeration enumeration_name enumeration enumerator evaluated condition expression_statement block selection_of selection while_loop do_loop for_turns for_loop returned with_items list_behind block_items statement outermost_effects with_effects typed parts_of exceeded outcome likeness_of each_likeness signature_likeness_of conversion union conflict effects_of merged added shared points_to target_effects without_outer_effects same without_effects words_of opening_of automatics PlaceKeeps InitializerKeeps StmtKeeps row_type place_nodes initializer_nodes stmt_nodes places place_spots initializer_spots stmt_spots callee_of stores structure_in IsWithin AreVariables IsTypedPlace IsInitializer IsTypedStmt place_type packed
whole_2 = refl

-- enum { A = -1, B }; int a[B + 1];
whole_3 : first_fault (codes "enum { A = -1, B }; int a[B + 1];") (record { externals = (external.Declaration (record { place = 0; specs = (spec.Enum 0 None ((record { name = (sp 7 8); value = (Some (expr.Unary 11 unary.Minus (expr.Number (sp 12 13)))) }) ∷ (record { name = (sp 15 16); value = None }) ∷ []) ∷ []); declarators = [] }) ∷ external.Declaration (record { place = 20; specs = (spec.Type 20 type_word.Int ∷ []); declarators = ((record { declarator = (of_declarator.Array (of_declarator.Name (sp 24 25)) 25 (Some (expr.Binary 26 (expr.Name (sp 26 27)) binary.Add 28 (expr.Number (sp 30 31))))); init = None }) ∷ []) }) ∷ []) }) ≡ None
unfolding hidden hidden-the_row-BlockItem-1 hidden-the_row-CType-0 hidden-the_row-CType-1 hidden-the_row-Declarator-0 hidden-the_row-Declarator-6 hidden-the_row-Enumerator-8 hidden-the_row-Expr-0 hidden-the_row-Expr-1 hidden-the_row-Expr-2 hidden-arguments hidden-the_row-Init-0 hidden-the_row-Initializer-0 hidden-the_row-Member-7 hidden-the_row-Param-5 hidden-the_row-Place-1 hidden-the_row-Spec-3 hidden-the_row-Stmt-0 hidden-unit-0 hidden-unit-1 hidden-the_row-TypeName-4 shape-the_row-BlockItem-1 shape-the_row-CType-0 shape-the_row-CType-1 shape-the_row-Declarator-0 shape-the_row-Declarator-6 shape-the_row-Enumerator-8 shape-the_row-Expr-0 shape-the_row-Expr-1 shape-the_row-Expr-2 shape-arguments shape-the_row-Init-0 shape-the_row-Initializer-0 shape-the_row-Member-7 shape-the_row-Param-5 shape-the_row-Place-1 shape-the_row-Spec-3 shape-the_row-Stmt-0 shape-unit-0 shape-unit-1 shape-the_row-TypeName-4 indirection element member access address unevaluated size size_of_expression size_of_type plain_assignment number_update pointer_update compound_assignment assignment step_update step spine fresh callee_in callee passed call worth is_null number_constant converted cast typedef_declared function_named variable_named init_declarator declaration file_declaration block_name block_declaration defined_name definition pointer_part array_part function_part made parameter type_name member_of_type_rules_declarators with_argument function_type body_read pointer_word initial_word initializer_words initial_values scalar text_fits by_name by_expression part finished by_list count initial_size initialized number_in character_in text_in text_initially as_value operand lvalue promoted in_sign pair_of stride arithmetic_on shift_on pointer_in_common equality_on logical_on operation sign_operation negation chosen_type chosen alternatives choice name number character holds_initially string_object text_found text parenthesised and_then name_number scoped expression value size_of typedef_name tagged_structure structure_name structure tagged_enumeration enumeration_name enumeration enumerator evaluated condition expression_statement block selection_of selection while_loop do_loop for_turns for_loop returned with_items list_behind block_items statement outermost_effects with_effects typed parts_of exceeded outcome likeness_of each_likeness signature_likeness_of conversion union conflict effects_of merged added shared points_to target_effects without_outer_effects same without_effects words_of opening_of automatics PlaceKeeps InitializerKeeps StmtKeeps row_type place_nodes initializer_nodes stmt_nodes places place_spots initializer_spots stmt_spots callee_of stores structure_in IsWithin AreVariables IsTypedPlace IsInitializer IsTypedStmt place_type packed
whole_3 = refl

-- enum { A = -1, B }; int a[«here» B];
whole_4 : first_fault (codes "enum { A = -1, B }; int a[B];") (record { externals = (external.Declaration (record { place = 0; specs = (spec.Enum 0 None ((record { name = (sp 7 8); value = (Some (expr.Unary 11 unary.Minus (expr.Number (sp 12 13)))) }) ∷ (record { name = (sp 15 16); value = None }) ∷ []) ∷ []); declarators = [] }) ∷ external.Declaration (record { place = 20; specs = (spec.Type 20 type_word.Int ∷ []); declarators = ((record { declarator = (of_declarator.Array (of_declarator.Name (sp 24 25)) 25 (Some (expr.Name (sp 26 27)))); init = None }) ∷ []) }) ∷ []) }) ≡ Some (7, 26)
unfolding hidden hidden-the_row-BlockItem-1 hidden-the_row-CType-0 hidden-the_row-CType-1 hidden-the_row-Declarator-0 hidden-the_row-Declarator-6 hidden-the_row-Enumerator-8 hidden-the_row-Expr-0 hidden-the_row-Expr-1 hidden-the_row-Expr-2 hidden-arguments hidden-the_row-Init-0 hidden-the_row-Initializer-0 hidden-the_row-Member-7 hidden-the_row-Param-5 hidden-the_row-Place-1 hidden-the_row-Spec-3 hidden-the_row-Stmt-0 hidden-unit-0 hidden-unit-1 hidden-the_row-TypeName-4 shape-the_row-BlockItem-1 shape-the_row-CType-0 shape-the_row-CType-1 shape-the_row-Declarator-0 shape-the_row-Declarator-6 shape-the_row-Enumerator-8 shape-the_row-Expr-0 shape-the_row-Expr-1 shape-the_row-Expr-2 shape-arguments shape-the_row-Init-0 shape-the_row-Initializer-0 shape-the_row-Member-7 shape-the_row-Param-5 shape-the_row-Place-1 shape-the_row-Spec-3 shape-the_row-Stmt-0 shape-unit-0 shape-unit-1 shape-the_row-TypeName-4 indirection element member access address unevaluated size size_of_expression size_of_type plain_assignment number_update pointer_update compound_assignment assignment step_update step spine fresh callee_in callee passed call worth is_null number_constant converted cast typedef_declared function_named variable_named init_declarator declaration file_declaration block_name block_declaration defined_name definition pointer_part array_part function_part made parameter type_name member_of_type_rules_declarators with_argument function_type body_read pointer_word initial_word initializer_words initial_values scalar text_fits by_name by_expression part finished by_list count initial_size initialized number_in character_in text_in text_initially as_value operand lvalue promoted in_sign pair_of stride arithmetic_on shift_on pointer_in_common equality_on logical_on operation sign_operation negation chosen_type chosen alternatives choice name number character holds_initially string_object text_found text parenthesised and_then name_number scoped expression value size_of typedef_name tagged_structure structure_name structure tagged_enumeration enumeration_name enumeration enumerator evaluated condition expression_statement block selection_of selection while_loop do_loop for_turns for_loop returned with_items list_behind block_items statement outermost_effects with_effects typed parts_of exceeded outcome likeness_of each_likeness signature_likeness_of conversion union conflict effects_of merged added shared points_to target_effects without_outer_effects same without_effects words_of opening_of automatics PlaceKeeps InitializerKeeps StmtKeeps row_type place_nodes initializer_nodes stmt_nodes places place_spots initializer_spots stmt_spots callee_of stores structure_in IsWithin AreVariables IsTypedPlace IsInitializer IsTypedStmt place_type packed
whole_4 = refl

-- enum { A = -2147483647 - 1, B = 0x7fffffff, C = 'a' };
whole_5 : first_fault (codes "enum { A = -2147483647 - 1, B = 0x7fffffff, C = 'a' };") (record { externals = (external.Declaration (record { place = 0; specs = (spec.Enum 0 None ((record { name = (sp 7 8); value = (Some (expr.Binary 11 (expr.Unary 11 unary.Minus (expr.Number (sp 12 22))) binary.Subtract 23 (expr.Number (sp 25 26)))) }) ∷ (record { name = (sp 28 29); value = (Some (expr.Number (sp 32 42))) }) ∷ (record { name = (sp 44 45); value = (Some (expr.Character (sp 48 51))) }) ∷ []) ∷ []); declarators = [] }) ∷ []) }) ≡ None
unfolding hidden hidden-the_row-BlockItem-1 hidden-the_row-CType-0 hidden-the_row-CType-1 hidden-the_row-Declarator-0 hidden-the_row-Declarator-6 hidden-the_row-Enumerator-8 hidden-the_row-Expr-0 hidden-the_row-Expr-1 hidden-the_row-Expr-2 hidden-arguments hidden-the_row-Init-0 hidden-the_row-Initializer-0 hidden-the_row-Member-7 hidden-the_row-Param-5 hidden-the_row-Place-1 hidden-the_row-Spec-3 hidden-the_row-Stmt-0 hidden-unit-0 hidden-unit-1 hidden-the_row-TypeName-4 shape-the_row-BlockItem-1 shape-the_row-CType-0 shape-the_row-CType-1 shape-the_row-Declarator-0 shape-the_row-Declarator-6 shape-the_row-Enumerator-8 shape-the_row-Expr-0 shape-the_row-Expr-1 shape-the_row-Expr-2 shape-arguments shape-the_row-Init-0 shape-the_row-Initializer-0 shape-the_row-Member-7 shape-the_row-Param-5 shape-the_row-Place-1 shape-the_row-Spec-3 shape-the_row-Stmt-0 shape-unit-0 shape-unit-1 shape-the_row-TypeName-4 indirection element member access address unevaluated size size_of_expression size_of_type plain_assignment number_update pointer_update compound_assignment assignment step_update step spine fresh callee_in callee passed call worth is_null number_constant converted cast typedef_declared function_named variable_named init_declarator declaration file_declaration block_name block_declaration defined_name definition pointer_part array_part function_part made parameter type_name member_of_type_rules_declarators with_argument function_type body_read pointer_word initial_word initializer_words initial_values scalar text_fits by_name by_expression part finished by_list count initial_size initialized number_in character_in text_in text_initially as_value operand lvalue promoted in_sign pair_of stride arithmetic_on shift_on pointer_in_common equality_on logical_on operation sign_operation negation chosen_type chosen alternatives choice name number character holds_initially string_object text_found text parenthesised and_then name_number scoped expression value size_of typedef_name tagged_structure structure_name structure tagged_enumeration enumeration_name enumeration enumerator evaluated condition expression_statement block selection_of selection while_loop do_loop for_turns for_loop returned with_items list_behind block_items statement outermost_effects with_effects typed parts_of exceeded outcome likeness_of each_likeness signature_likeness_of conversion union conflict effects_of merged added shared points_to target_effects without_outer_effects same without_effects words_of opening_of automatics PlaceKeeps InitializerKeeps StmtKeeps row_type place_nodes initializer_nodes stmt_nodes places place_spots initializer_spots stmt_spots callee_of stores structure_in IsWithin AreVariables IsTypedPlace IsInitializer IsTypedStmt place_type packed
whole_5 = refl

-- int n; int a[«here» n];
whole_6 : first_fault (codes "int n; int a[n];") (record { externals = (external.Declaration (record { place = 0; specs = (spec.Type 0 type_word.Int ∷ []); declarators = ((record { declarator = (of_declarator.Name (sp 4 5)); init = None }) ∷ []) }) ∷ external.Declaration (record { place = 7; specs = (spec.Type 7 type_word.Int ∷ []); declarators = ((record { declarator = (of_declarator.Array (of_declarator.Name (sp 11 12)) 12 (Some (expr.Name (sp 13 14)))); init = None }) ∷ []) }) ∷ []) }) ≡ Some (7, 13)
unfolding hidden hidden-the_row-BlockItem-1 hidden-the_row-CType-0 hidden-the_row-CType-1 hidden-the_row-Declarator-0 hidden-the_row-Declarator-6 hidden-the_row-Enumerator-8 hidden-the_row-Expr-0 hidden-the_row-Expr-1 hidden-the_row-Expr-2 hidden-arguments hidden-the_row-Init-0 hidden-the_row-Initializer-0 hidden-the_row-Member-7 hidden-the_row-Param-5 hidden-the_row-Place-1 hidden-the_row-Spec-3 hidden-the_row-Stmt-0 hidden-unit-0 hidden-unit-1 hidden-the_row-TypeName-4 shape-the_row-BlockItem-1 shape-the_row-CType-0 shape-the_row-CType-1 shape-the_row-Declarator-0 shape-the_row-Declarator-6 shape-the_row-Enumerator-8 shape-the_row-Expr-0 shape-the_row-Expr-1 shape-the_row-Expr-2 shape-arguments shape-the_row-Init-0 shape-the_row-Initializer-0 shape-the_row-Member-7 shape-the_row-Param-5 shape-the_row-Place-1 shape-the_row-Spec-3 shape-the_row-Stmt-0 shape-unit-0 shape-unit-1 shape-the_row-TypeName-4 indirection element member access address unevaluated size size_of_expression size_of_type plain_assignment number_update pointer_update compound_assignment assignment step_update step spine fresh callee_in callee passed call worth is_null number_constant converted cast typedef_declared function_named variable_named init_declarator declaration file_declaration block_name block_declaration defined_name definition pointer_part array_part function_part made parameter type_name member_of_type_rules_declarators with_argument function_type body_read pointer_word initial_word initializer_words initial_values scalar text_fits by_name by_expression part finished by_list count initial_size initialized number_in character_in text_in text_initially as_value operand lvalue promoted in_sign pair_of stride arithmetic_on shift_on pointer_in_common equality_on logical_on operation sign_operation negation chosen_type chosen alternatives choice name number character holds_initially string_object text_found text parenthesised and_then name_number scoped expression value size_of typedef_name tagged_structure structure_name structure tagged_enumeration enumeration_name enumeration enumerator evaluated condition expression_statement block selection_of selection while_loop do_loop for_turns for_loop returned with_items list_behind block_items statement outermost_effects with_effects typed parts_of exceeded outcome likeness_of each_likeness signature_likeness_of conversion union conflict effects_of merged added shared points_to target_effects without_outer_effects same without_effects words_of opening_of automatics PlaceKeeps InitializerKeeps StmtKeeps row_type place_nodes initializer_nodes stmt_nodes places place_spots initializer_spots stmt_spots callee_of stores structure_in IsWithin AreVariables IsTypedPlace IsInitializer IsTypedStmt place_type packed
whole_6 = refl

-- char *p; int a[«here» p];
whole_7 : first_fault (codes "char *p; int a[p];") (record { externals = (external.Declaration (record { place = 0; specs = (spec.Type 0 type_word.Char ∷ []); declarators = ((record { declarator = (of_declarator.Pointer 5 [] (of_declarator.Name (sp 6 7))); init = None }) ∷ []) }) ∷ external.Declaration (record { place = 9; specs = (spec.Type 9 type_word.Int ∷ []); declarators = ((record { declarator = (of_declarator.Array (of_declarator.Name (sp 13 14)) 14 (Some (expr.Name (sp 15 16)))); init = None }) ∷ []) }) ∷ []) }) ≡ Some (3, 15)
unfolding hidden hidden-the_row-BlockItem-1 hidden-the_row-CType-0 hidden-the_row-CType-1 hidden-the_row-Declarator-0 hidden-the_row-Declarator-6 hidden-the_row-Enumerator-8 hidden-the_row-Expr-0 hidden-the_row-Expr-1 hidden-the_row-Expr-2 hidden-arguments hidden-the_row-Init-0 hidden-the_row-Initializer-0 hidden-the_row-Member-7 hidden-the_row-Param-5 hidden-the_row-Place-1 hidden-the_row-Spec-3 hidden-the_row-Stmt-0 hidden-unit-0 hidden-unit-1 hidden-the_row-TypeName-4 shape-the_row-BlockItem-1 shape-the_row-CType-0 shape-the_row-CType-1 shape-the_row-Declarator-0 shape-the_row-Declarator-6 shape-the_row-Enumerator-8 shape-the_row-Expr-0 shape-the_row-Expr-1 shape-the_row-Expr-2 shape-arguments shape-the_row-Init-0 shape-the_row-Initializer-0 shape-the_row-Member-7 shape-the_row-Param-5 shape-the_row-Place-1 shape-the_row-Spec-3 shape-the_row-Stmt-0 shape-unit-0 shape-unit-1 shape-the_row-TypeName-4 indirection element member access address unevaluated size size_of_expression size_of_type plain_assignment number_update pointer_update compound_assignment assignment step_update step spine fresh callee_in callee passed call worth is_null number_constant converted cast typedef_declared function_named variable_named init_declarator declaration file_declaration block_name block_declaration defined_name definition pointer_part array_part function_part made parameter type_name member_of_type_rules_declarators with_argument function_type body_read pointer_word initial_word initializer_words initial_values scalar text_fits by_name by_expression part finished by_list count initial_size initialized number_in character_in text_in text_initially as_value operand lvalue promoted in_sign pair_of stride arithmetic_on shift_on pointer_in_common equality_on logical_on operation sign_operation negation chosen_type chosen alternatives choice name number character holds_initially string_object text_found text parenthesised and_then name_number scoped expression value size_of typedef_name tagged_structure structure_name structure tagged_enumeration enumeration_name enumeration enumerator evaluated condition expression_statement block selection_of selection while_loop do_loop for_turns for_loop returned with_items list_behind block_items statement outermost_effects with_effects typed parts_of exceeded outcome likeness_of each_likeness signature_likeness_of conversion union conflict effects_of merged added shared points_to target_effects without_outer_effects same without_effects words_of opening_of automatics PlaceKeeps InitializerKeeps StmtKeeps row_type place_nodes initializer_nodes stmt_nodes places place_spots initializer_spots stmt_spots callee_of stores structure_in IsWithin AreVariables IsTypedPlace IsInitializer IsTypedStmt place_type packed
whole_7 = refl

-- int a[«here» -1];
whole_8 : first_fault (codes "int a[-1];") (record { externals = (external.Declaration (record { place = 0; specs = (spec.Type 0 type_word.Int ∷ []); declarators = ((record { declarator = (of_declarator.Array (of_declarator.Name (sp 4 5)) 5 (Some (expr.Unary 6 unary.Minus (expr.Number (sp 7 8))))); init = None }) ∷ []) }) ∷ []) }) ≡ Some (7, 6)
unfolding hidden hidden-the_row-BlockItem-1 hidden-the_row-CType-0 hidden-the_row-CType-1 hidden-the_row-Declarator-0 hidden-the_row-Declarator-6 hidden-the_row-Enumerator-8 hidden-the_row-Expr-0 hidden-the_row-Expr-1 hidden-the_row-Expr-2 hidden-arguments hidden-the_row-Init-0 hidden-the_row-Initializer-0 hidden-the_row-Member-7 hidden-the_row-Param-5 hidden-the_row-Place-1 hidden-the_row-Spec-3 hidden-the_row-Stmt-0 hidden-unit-0 hidden-unit-1 hidden-the_row-TypeName-4 shape-the_row-BlockItem-1 shape-the_row-CType-0 shape-the_row-CType-1 shape-the_row-Declarator-0 shape-the_row-Declarator-6 shape-the_row-Enumerator-8 shape-the_row-Expr-0 shape-the_row-Expr-1 shape-the_row-Expr-2 shape-arguments shape-the_row-Init-0 shape-the_row-Initializer-0 shape-the_row-Member-7 shape-the_row-Param-5 shape-the_row-Place-1 shape-the_row-Spec-3 shape-the_row-Stmt-0 shape-unit-0 shape-unit-1 shape-the_row-TypeName-4 indirection element member access address unevaluated size size_of_expression size_of_type plain_assignment number_update pointer_update compound_assignment assignment step_update step spine fresh callee_in callee passed call worth is_null number_constant converted cast typedef_declared function_named variable_named init_declarator declaration file_declaration block_name block_declaration defined_name definition pointer_part array_part function_part made parameter type_name member_of_type_rules_declarators with_argument function_type body_read pointer_word initial_word initializer_words initial_values scalar text_fits by_name by_expression part finished by_list count initial_size initialized number_in character_in text_in text_initially as_value operand lvalue promoted in_sign pair_of stride arithmetic_on shift_on pointer_in_common equality_on logical_on operation sign_operation negation chosen_type chosen alternatives choice name number character holds_initially string_object text_found text parenthesised and_then name_number scoped expression value size_of typedef_name tagged_structure structure_name structure tagged_enumeration enumeration_name enumeration enumerator evaluated condition expression_statement block selection_of selection while_loop do_loop for_turns for_loop returned with_items list_behind block_items statement outermost_effects with_effects typed parts_of exceeded outcome likeness_of each_likeness signature_likeness_of conversion union conflict effects_of merged added shared points_to target_effects without_outer_effects same without_effects words_of opening_of automatics PlaceKeeps InitializerKeeps StmtKeeps row_type place_nodes initializer_nodes stmt_nodes places place_spots initializer_spots stmt_spots callee_of stores structure_in IsWithin AreVariables IsTypedPlace IsInitializer IsTypedStmt place_type packed
whole_8 = refl

-- int a[«here» 1/0];
whole_9 : first_fault (codes "int a[1/0];") (record { externals = (external.Declaration (record { place = 0; specs = (spec.Type 0 type_word.Int ∷ []); declarators = ((record { declarator = (of_declarator.Array (of_declarator.Name (sp 4 5)) 5 (Some (expr.Binary 6 (expr.Number (sp 6 7)) binary.Divide 7 (expr.Number (sp 8 9))))); init = None }) ∷ []) }) ∷ []) }) ≡ Some (7, 6)
unfolding hidden hidden-the_row-BlockItem-1 hidden-the_row-CType-0 hidden-the_row-CType-1 hidden-the_row-Declarator-0 hidden-the_row-Declarator-6 hidden-the_row-Enumerator-8 hidden-the_row-Expr-0 hidden-the_row-Expr-1 hidden-the_row-Expr-2 hidden-arguments hidden-the_row-Init-0 hidden-the_row-Initializer-0 hidden-the_row-Member-7 hidden-the_row-Param-5 hidden-the_row-Place-1 hidden-the_row-Spec-3 hidden-the_row-Stmt-0 hidden-unit-0 hidden-unit-1 hidden-the_row-TypeName-4 shape-the_row-BlockItem-1 shape-the_row-CType-0 shape-the_row-CType-1 shape-the_row-Declarator-0 shape-the_row-Declarator-6 shape-the_row-Enumerator-8 shape-the_row-Expr-0 shape-the_row-Expr-1 shape-the_row-Expr-2 shape-arguments shape-the_row-Init-0 shape-the_row-Initializer-0 shape-the_row-Member-7 shape-the_row-Param-5 shape-the_row-Place-1 shape-the_row-Spec-3 shape-the_row-Stmt-0 shape-unit-0 shape-unit-1 shape-the_row-TypeName-4 indirection element member access address unevaluated size size_of_expression size_of_type plain_assignment number_update pointer_update compound_assignment assignment step_update step spine fresh callee_in callee passed call worth is_null number_constant converted cast typedef_declared function_named variable_named init_declarator declaration file_declaration block_name block_declaration defined_name definition pointer_part array_part function_part made parameter type_name member_of_type_rules_declarators with_argument function_type body_read pointer_word initial_word initializer_words initial_values scalar text_fits by_name by_expression part finished by_list count initial_size initialized number_in character_in text_in text_initially as_value operand lvalue promoted in_sign pair_of stride arithmetic_on shift_on pointer_in_common equality_on logical_on operation sign_operation negation chosen_type chosen alternatives choice name number character holds_initially string_object text_found text parenthesised and_then name_number scoped expression value size_of typedef_name tagged_structure structure_name structure tagged_enumeration enumeration_name enumeration enumerator evaluated condition expression_statement block selection_of selection while_loop do_loop for_turns for_loop returned with_items list_behind block_items statement outermost_effects with_effects typed parts_of exceeded outcome likeness_of each_likeness signature_likeness_of conversion union conflict effects_of merged added shared points_to target_effects without_outer_effects same without_effects words_of opening_of automatics PlaceKeeps InitializerKeeps StmtKeeps row_type place_nodes initializer_nodes stmt_nodes places place_spots initializer_spots stmt_spots callee_of stores structure_in IsWithin AreVariables IsTypedPlace IsInitializer IsTypedStmt place_type packed
whole_9 = refl

-- int a[1 || 1/0];
whole_10 : first_fault (codes "int a[1 || 1/0];") (record { externals = (external.Declaration (record { place = 0; specs = (spec.Type 0 type_word.Int ∷ []); declarators = ((record { declarator = (of_declarator.Array (of_declarator.Name (sp 4 5)) 5 (Some (expr.Binary 6 (expr.Number (sp 6 7)) binary.LogicalOr 8 (expr.Binary 11 (expr.Number (sp 11 12)) binary.Divide 12 (expr.Number (sp 13 14)))))); init = None }) ∷ []) }) ∷ []) }) ≡ None
unfolding hidden hidden-the_row-BlockItem-1 hidden-the_row-CType-0 hidden-the_row-CType-1 hidden-the_row-Declarator-0 hidden-the_row-Declarator-6 hidden-the_row-Enumerator-8 hidden-the_row-Expr-0 hidden-the_row-Expr-1 hidden-the_row-Expr-2 hidden-arguments hidden-the_row-Init-0 hidden-the_row-Initializer-0 hidden-the_row-Member-7 hidden-the_row-Param-5 hidden-the_row-Place-1 hidden-the_row-Spec-3 hidden-the_row-Stmt-0 hidden-unit-0 hidden-unit-1 hidden-the_row-TypeName-4 shape-the_row-BlockItem-1 shape-the_row-CType-0 shape-the_row-CType-1 shape-the_row-Declarator-0 shape-the_row-Declarator-6 shape-the_row-Enumerator-8 shape-the_row-Expr-0 shape-the_row-Expr-1 shape-the_row-Expr-2 shape-arguments shape-the_row-Init-0 shape-the_row-Initializer-0 shape-the_row-Member-7 shape-the_row-Param-5 shape-the_row-Place-1 shape-the_row-Spec-3 shape-the_row-Stmt-0 shape-unit-0 shape-unit-1 shape-the_row-TypeName-4 indirection element member access address unevaluated size size_of_expression size_of_type plain_assignment number_update pointer_update compound_assignment assignment step_update step spine fresh callee_in callee passed call worth is_null number_constant converted cast typedef_declared function_named variable_named init_declarator declaration file_declaration block_name block_declaration defined_name definition pointer_part array_part function_part made parameter type_name member_of_type_rules_declarators with_argument function_type body_read pointer_word initial_word initializer_words initial_values scalar text_fits by_name by_expression part finished by_list count initial_size initialized number_in character_in text_in text_initially as_value operand lvalue promoted in_sign pair_of stride arithmetic_on shift_on pointer_in_common equality_on logical_on operation sign_operation negation chosen_type chosen alternatives choice name number character holds_initially string_object text_found text parenthesised and_then name_number scoped expression value size_of typedef_name tagged_structure structure_name structure tagged_enumeration enumeration_name enumeration enumerator evaluated condition expression_statement block selection_of selection while_loop do_loop for_turns for_loop returned with_items list_behind block_items statement outermost_effects with_effects typed parts_of exceeded outcome likeness_of each_likeness signature_likeness_of conversion union conflict effects_of merged added shared points_to target_effects without_outer_effects same without_effects words_of opening_of automatics PlaceKeeps InitializerKeeps StmtKeeps row_type place_nodes initializer_nodes stmt_nodes places place_spots initializer_spots stmt_spots callee_of stores structure_in IsWithin AreVariables IsTypedPlace IsInitializer IsTypedStmt place_type packed
whole_10 = refl

-- void f(int n, int a[«here» n]);
whole_11 : first_fault (codes "void f(int n, int a[n]);") (record { externals = (external.Declaration (record { place = 0; specs = (spec.Type 0 type_word.Void ∷ []); declarators = ((record { declarator = (of_declarator.Function (of_declarator.Name (sp 5 6)) 6 (params.List ((record { place = 7; specs = (spec.Type 7 type_word.Int ∷ []); declarator = (of_declarator.Name (sp 11 12)) }) ∷ (record { place = 14; specs = (spec.Type 14 type_word.Int ∷ []); declarator = (of_declarator.Array (of_declarator.Name (sp 18 19)) 19 (Some (expr.Name (sp 20 21)))) }) ∷ [])) []); init = None }) ∷ []) }) ∷ []) }) ≡ Some (7, 20)
unfolding hidden hidden-the_row-BlockItem-1 hidden-the_row-CType-0 hidden-the_row-CType-1 hidden-the_row-Declarator-0 hidden-the_row-Declarator-6 hidden-the_row-Enumerator-8 hidden-the_row-Expr-0 hidden-the_row-Expr-1 hidden-the_row-Expr-2 hidden-arguments hidden-the_row-Init-0 hidden-the_row-Initializer-0 hidden-the_row-Member-7 hidden-the_row-Param-5 hidden-the_row-Place-1 hidden-the_row-Spec-3 hidden-the_row-Stmt-0 hidden-unit-0 hidden-unit-1 hidden-the_row-TypeName-4 shape-the_row-BlockItem-1 shape-the_row-CType-0 shape-the_row-CType-1 shape-the_row-Declarator-0 shape-the_row-Declarator-6 shape-the_row-Enumerator-8 shape-the_row-Expr-0 shape-the_row-Expr-1 shape-the_row-Expr-2 shape-arguments shape-the_row-Init-0 shape-the_row-Initializer-0 shape-the_row-Member-7 shape-the_row-Param-5 shape-the_row-Place-1 shape-the_row-Spec-3 shape-the_row-Stmt-0 shape-unit-0 shape-unit-1 shape-the_row-TypeName-4 indirection element member access address unevaluated size size_of_expression size_of_type plain_assignment number_update pointer_update compound_assignment assignment step_update step spine fresh callee_in callee passed call worth is_null number_constant converted cast typedef_declared function_named variable_named init_declarator declaration file_declaration block_name block_declaration defined_name definition pointer_part array_part function_part made parameter type_name member_of_type_rules_declarators with_argument function_type body_read pointer_word initial_word initializer_words initial_values scalar text_fits by_name by_expression part finished by_list count initial_size initialized number_in character_in text_in text_initially as_value operand lvalue promoted in_sign pair_of stride arithmetic_on shift_on pointer_in_common equality_on logical_on operation sign_operation negation chosen_type chosen alternatives choice name number character holds_initially string_object text_found text parenthesised and_then name_number scoped expression value size_of typedef_name tagged_structure structure_name structure tagged_enumeration enumeration_name enumeration enumerator evaluated condition expression_statement block selection_of selection while_loop do_loop for_turns for_loop returned with_items list_behind block_items statement outermost_effects with_effects typed parts_of exceeded outcome likeness_of each_likeness signature_likeness_of conversion union conflict effects_of merged added shared points_to target_effects without_outer_effects same without_effects words_of opening_of automatics PlaceKeeps InitializerKeeps StmtKeeps row_type place_nodes initializer_nodes stmt_nodes places place_spots initializer_spots stmt_spots callee_of stores structure_in IsWithin AreVariables IsTypedPlace IsInitializer IsTypedStmt place_type packed
whole_11 = refl

-- enum { N = 3 }; void f(int N, int a[«here» N]);
whole_12 : first_fault (codes "enum { N = 3 }; void f(int N, int a[N]);") (record { externals = (external.Declaration (record { place = 0; specs = (spec.Enum 0 None ((record { name = (sp 7 8); value = (Some (expr.Number (sp 11 12))) }) ∷ []) ∷ []); declarators = [] }) ∷ external.Declaration (record { place = 16; specs = (spec.Type 16 type_word.Void ∷ []); declarators = ((record { declarator = (of_declarator.Function (of_declarator.Name (sp 21 22)) 22 (params.List ((record { place = 23; specs = (spec.Type 23 type_word.Int ∷ []); declarator = (of_declarator.Name (sp 27 28)) }) ∷ (record { place = 30; specs = (spec.Type 30 type_word.Int ∷ []); declarator = (of_declarator.Array (of_declarator.Name (sp 34 35)) 35 (Some (expr.Name (sp 36 37)))) }) ∷ [])) []); init = None }) ∷ []) }) ∷ []) }) ≡ Some (7, 36)
unfolding hidden hidden-the_row-BlockItem-1 hidden-the_row-CType-0 hidden-the_row-CType-1 hidden-the_row-Declarator-0 hidden-the_row-Declarator-6 hidden-the_row-Enumerator-8 hidden-the_row-Expr-0 hidden-the_row-Expr-1 hidden-the_row-Expr-2 hidden-arguments hidden-the_row-Init-0 hidden-the_row-Initializer-0 hidden-the_row-Member-7 hidden-the_row-Param-5 hidden-the_row-Place-1 hidden-the_row-Spec-3 hidden-the_row-Stmt-0 hidden-unit-0 hidden-unit-1 hidden-the_row-TypeName-4 shape-the_row-BlockItem-1 shape-the_row-CType-0 shape-the_row-CType-1 shape-the_row-Declarator-0 shape-the_row-Declarator-6 shape-the_row-Enumerator-8 shape-the_row-Expr-0 shape-the_row-Expr-1 shape-the_row-Expr-2 shape-arguments shape-the_row-Init-0 shape-the_row-Initializer-0 shape-the_row-Member-7 shape-the_row-Param-5 shape-the_row-Place-1 shape-the_row-Spec-3 shape-the_row-Stmt-0 shape-unit-0 shape-unit-1 shape-the_row-TypeName-4 indirection element member access address unevaluated size size_of_expression size_of_type plain_assignment number_update pointer_update compound_assignment assignment step_update step spine fresh callee_in callee passed call worth is_null number_constant converted cast typedef_declared function_named variable_named init_declarator declaration file_declaration block_name block_declaration defined_name definition pointer_part array_part function_part made parameter type_name member_of_type_rules_declarators with_argument function_type body_read pointer_word initial_word initializer_words initial_values scalar text_fits by_name by_expression part finished by_list count initial_size initialized number_in character_in text_in text_initially as_value operand lvalue promoted in_sign pair_of stride arithmetic_on shift_on pointer_in_common equality_on logical_on operation sign_operation negation chosen_type chosen alternatives choice name number character holds_initially string_object text_found text parenthesised and_then name_number scoped expression value size_of typedef_name tagged_structure structure_name structure tagged_enumeration enumeration_name enumeration enumerator evaluated condition expression_statement block selection_of selection while_loop do_loop for_turns for_loop returned with_items list_behind block_items statement outermost_effects with_effects typed parts_of exceeded outcome likeness_of each_likeness signature_likeness_of conversion union conflict effects_of merged added shared points_to target_effects without_outer_effects same without_effects words_of opening_of automatics PlaceKeeps InitializerKeeps StmtKeeps row_type place_nodes initializer_nodes stmt_nodes places place_spots initializer_spots stmt_spots callee_of stores structure_in IsWithin AreVariables IsTypedPlace IsInitializer IsTypedStmt place_type packed
whole_12 = refl

-- typedef int T = «here» 3;
whole_13 : first_fault (codes "typedef int T = 3;") (record { externals = (external.Declaration (record { place = 0; specs = (spec.Storage 0 storage.Typedef ∷ spec.Type 8 type_word.Int ∷ []); declarators = ((record { declarator = (of_declarator.Name (sp 12 13)); init = (Some (init.Value (expr.Number (sp 16 17)))) }) ∷ []) }) ∷ []) }) ≡ Some (9, 16)
unfolding hidden hidden-the_row-BlockItem-1 hidden-the_row-CType-0 hidden-the_row-CType-1 hidden-the_row-Declarator-0 hidden-the_row-Declarator-6 hidden-the_row-Enumerator-8 hidden-the_row-Expr-0 hidden-the_row-Expr-1 hidden-the_row-Expr-2 hidden-arguments hidden-the_row-Init-0 hidden-the_row-Initializer-0 hidden-the_row-Member-7 hidden-the_row-Param-5 hidden-the_row-Place-1 hidden-the_row-Spec-3 hidden-the_row-Stmt-0 hidden-unit-0 hidden-unit-1 hidden-the_row-TypeName-4 shape-the_row-BlockItem-1 shape-the_row-CType-0 shape-the_row-CType-1 shape-the_row-Declarator-0 shape-the_row-Declarator-6 shape-the_row-Enumerator-8 shape-the_row-Expr-0 shape-the_row-Expr-1 shape-the_row-Expr-2 shape-arguments shape-the_row-Init-0 shape-the_row-Initializer-0 shape-the_row-Member-7 shape-the_row-Param-5 shape-the_row-Place-1 shape-the_row-Spec-3 shape-the_row-Stmt-0 shape-unit-0 shape-unit-1 shape-the_row-TypeName-4 indirection element member access address unevaluated size size_of_expression size_of_type plain_assignment number_update pointer_update compound_assignment assignment step_update step spine fresh callee_in callee passed call worth is_null number_constant converted cast typedef_declared function_named variable_named init_declarator declaration file_declaration block_name block_declaration defined_name definition pointer_part array_part function_part made parameter type_name member_of_type_rules_declarators with_argument function_type body_read pointer_word initial_word initializer_words initial_values scalar text_fits by_name by_expression part finished by_list count initial_size initialized number_in character_in text_in text_initially as_value operand lvalue promoted in_sign pair_of stride arithmetic_on shift_on pointer_in_common equality_on logical_on operation sign_operation negation chosen_type chosen alternatives choice name number character holds_initially string_object text_found text parenthesised and_then name_number scoped expression value size_of typedef_name tagged_structure structure_name structure tagged_enumeration enumeration_name enumeration enumerator evaluated condition expression_statement block selection_of selection while_loop do_loop for_turns for_loop returned with_items list_behind block_items statement outermost_effects with_effects typed parts_of exceeded outcome likeness_of each_likeness signature_likeness_of conversion union conflict effects_of merged added shared points_to target_effects without_outer_effects same without_effects words_of opening_of automatics PlaceKeeps InitializerKeeps StmtKeeps row_type place_nodes initializer_nodes stmt_nodes places place_spots initializer_spots stmt_spots callee_of stores structure_in IsWithin AreVariables IsTypedPlace IsInitializer IsTypedStmt place_type packed
whole_13 = refl

-- int f(void) = «here» 3;
whole_14 : first_fault (codes "int f(void) = 3;") (record { externals = (external.Declaration (record { place = 0; specs = (spec.Type 0 type_word.Int ∷ []); declarators = ((record { declarator = (of_declarator.Function (of_declarator.Name (sp 4 5)) 5 (params.Void 6) []); init = (Some (init.Value (expr.Number (sp 14 15)))) }) ∷ []) }) ∷ []) }) ≡ Some (9, 14)
unfolding hidden hidden-the_row-BlockItem-1 hidden-the_row-CType-0 hidden-the_row-CType-1 hidden-the_row-Declarator-0 hidden-the_row-Declarator-6 hidden-the_row-Enumerator-8 hidden-the_row-Expr-0 hidden-the_row-Expr-1 hidden-the_row-Expr-2 hidden-arguments hidden-the_row-Init-0 hidden-the_row-Initializer-0 hidden-the_row-Member-7 hidden-the_row-Param-5 hidden-the_row-Place-1 hidden-the_row-Spec-3 hidden-the_row-Stmt-0 hidden-unit-0 hidden-unit-1 hidden-the_row-TypeName-4 shape-the_row-BlockItem-1 shape-the_row-CType-0 shape-the_row-CType-1 shape-the_row-Declarator-0 shape-the_row-Declarator-6 shape-the_row-Enumerator-8 shape-the_row-Expr-0 shape-the_row-Expr-1 shape-the_row-Expr-2 shape-arguments shape-the_row-Init-0 shape-the_row-Initializer-0 shape-the_row-Member-7 shape-the_row-Param-5 shape-the_row-Place-1 shape-the_row-Spec-3 shape-the_row-Stmt-0 shape-unit-0 shape-unit-1 shape-the_row-TypeName-4 indirection element member access address unevaluated size size_of_expression size_of_type plain_assignment number_update pointer_update compound_assignment assignment step_update step spine fresh callee_in callee passed call worth is_null number_constant converted cast typedef_declared function_named variable_named init_declarator declaration file_declaration block_name block_declaration defined_name definition pointer_part array_part function_part made parameter type_name member_of_type_rules_declarators with_argument function_type body_read pointer_word initial_word initializer_words initial_values scalar text_fits by_name by_expression part finished by_list count initial_size initialized number_in character_in text_in text_initially as_value operand lvalue promoted in_sign pair_of stride arithmetic_on shift_on pointer_in_common equality_on logical_on operation sign_operation negation chosen_type chosen alternatives choice name number character holds_initially string_object text_found text parenthesised and_then name_number scoped expression value size_of typedef_name tagged_structure structure_name structure tagged_enumeration enumeration_name enumeration enumerator evaluated condition expression_statement block selection_of selection while_loop do_loop for_turns for_loop returned with_items list_behind block_items statement outermost_effects with_effects typed parts_of exceeded outcome likeness_of each_likeness signature_likeness_of conversion union conflict effects_of merged added shared points_to target_effects without_outer_effects same without_effects words_of opening_of automatics PlaceKeeps InitializerKeeps StmtKeeps row_type place_nodes initializer_nodes stmt_nodes places place_spots initializer_spots stmt_spots callee_of stores structure_in IsWithin AreVariables IsTypedPlace IsInitializer IsTypedStmt place_type packed
whole_14 = refl

-- int f(void) = «here» { y };
whole_15 : first_fault (codes "int f(void) = { y };") (record { externals = (external.Declaration (record { place = 0; specs = (spec.Type 0 type_word.Int ∷ []); declarators = ((record { declarator = (of_declarator.Function (of_declarator.Name (sp 4 5)) 5 (params.Void 6) []); init = (Some (init.List 14 ((init.Value (expr.Name (sp 16 17))) ∷ []))) }) ∷ []) }) ∷ []) }) ≡ Some (9, 14)
unfolding hidden hidden-the_row-BlockItem-1 hidden-the_row-CType-0 hidden-the_row-CType-1 hidden-the_row-Declarator-0 hidden-the_row-Declarator-6 hidden-the_row-Enumerator-8 hidden-the_row-Expr-0 hidden-the_row-Expr-1 hidden-the_row-Expr-2 hidden-arguments hidden-the_row-Init-0 hidden-the_row-Initializer-0 hidden-the_row-Member-7 hidden-the_row-Param-5 hidden-the_row-Place-1 hidden-the_row-Spec-3 hidden-the_row-Stmt-0 hidden-unit-0 hidden-unit-1 hidden-the_row-TypeName-4 shape-the_row-BlockItem-1 shape-the_row-CType-0 shape-the_row-CType-1 shape-the_row-Declarator-0 shape-the_row-Declarator-6 shape-the_row-Enumerator-8 shape-the_row-Expr-0 shape-the_row-Expr-1 shape-the_row-Expr-2 shape-arguments shape-the_row-Init-0 shape-the_row-Initializer-0 shape-the_row-Member-7 shape-the_row-Param-5 shape-the_row-Place-1 shape-the_row-Spec-3 shape-the_row-Stmt-0 shape-unit-0 shape-unit-1 shape-the_row-TypeName-4 indirection element member access address unevaluated size size_of_expression size_of_type plain_assignment number_update pointer_update compound_assignment assignment step_update step spine fresh callee_in callee passed call worth is_null number_constant converted cast typedef_declared function_named variable_named init_declarator declaration file_declaration block_name block_declaration defined_name definition pointer_part array_part function_part made parameter type_name member_of_type_rules_declarators with_argument function_type body_read pointer_word initial_word initializer_words initial_values scalar text_fits by_name by_expression part finished by_list count initial_size initialized number_in character_in text_in text_initially as_value operand lvalue promoted in_sign pair_of stride arithmetic_on shift_on pointer_in_common equality_on logical_on operation sign_operation negation chosen_type chosen alternatives choice name number character holds_initially string_object text_found text parenthesised and_then name_number scoped expression value size_of typedef_name tagged_structure structure_name structure tagged_enumeration enumeration_name enumeration enumerator evaluated condition expression_statement block selection_of selection while_loop do_loop for_turns for_loop returned with_items list_behind block_items statement outermost_effects with_effects typed parts_of exceeded outcome likeness_of each_likeness signature_likeness_of conversion union conflict effects_of merged added shared points_to target_effects without_outer_effects same without_effects words_of opening_of automatics PlaceKeeps InitializerKeeps StmtKeeps row_type place_nodes initializer_nodes stmt_nodes places place_spots initializer_spots stmt_spots callee_of stores structure_in IsWithin AreVariables IsTypedPlace IsInitializer IsTypedStmt place_type packed
whole_15 = refl

-- int x = 1; int «here» x = 2;
whole_16 : first_fault (codes "int x = 1; int x = 2;") (record { externals = (external.Declaration (record { place = 0; specs = (spec.Type 0 type_word.Int ∷ []); declarators = ((record { declarator = (of_declarator.Name (sp 4 5)); init = (Some (init.Value (expr.Number (sp 8 9)))) }) ∷ []) }) ∷ external.Declaration (record { place = 11; specs = (spec.Type 11 type_word.Int ∷ []); declarators = ((record { declarator = (of_declarator.Name (sp 15 16)); init = (Some (init.Value (expr.Number (sp 19 20)))) }) ∷ []) }) ∷ []) }) ≡ Some (2, 15)
unfolding hidden hidden-the_row-BlockItem-1 hidden-the_row-CType-0 hidden-the_row-CType-1 hidden-the_row-Declarator-0 hidden-the_row-Declarator-6 hidden-the_row-Enumerator-8 hidden-the_row-Expr-0 hidden-the_row-Expr-1 hidden-the_row-Expr-2 hidden-arguments hidden-the_row-Init-0 hidden-the_row-Initializer-0 hidden-the_row-Member-7 hidden-the_row-Param-5 hidden-the_row-Place-1 hidden-the_row-Spec-3 hidden-the_row-Stmt-0 hidden-unit-0 hidden-unit-1 hidden-the_row-TypeName-4 shape-the_row-BlockItem-1 shape-the_row-CType-0 shape-the_row-CType-1 shape-the_row-Declarator-0 shape-the_row-Declarator-6 shape-the_row-Enumerator-8 shape-the_row-Expr-0 shape-the_row-Expr-1 shape-the_row-Expr-2 shape-arguments shape-the_row-Init-0 shape-the_row-Initializer-0 shape-the_row-Member-7 shape-the_row-Param-5 shape-the_row-Place-1 shape-the_row-Spec-3 shape-the_row-Stmt-0 shape-unit-0 shape-unit-1 shape-the_row-TypeName-4 indirection element member access address unevaluated size size_of_expression size_of_type plain_assignment number_update pointer_update compound_assignment assignment step_update step spine fresh callee_in callee passed call worth is_null number_constant converted cast typedef_declared function_named variable_named init_declarator declaration file_declaration block_name block_declaration defined_name definition pointer_part array_part function_part made parameter type_name member_of_type_rules_declarators with_argument function_type body_read pointer_word initial_word initializer_words initial_values scalar text_fits by_name by_expression part finished by_list count initial_size initialized number_in character_in text_in text_initially as_value operand lvalue promoted in_sign pair_of stride arithmetic_on shift_on pointer_in_common equality_on logical_on operation sign_operation negation chosen_type chosen alternatives choice name number character holds_initially string_object text_found text parenthesised and_then name_number scoped expression value size_of typedef_name tagged_structure structure_name structure tagged_enumeration enumeration_name enumeration enumerator evaluated condition expression_statement block selection_of selection while_loop do_loop for_turns for_loop returned with_items list_behind block_items statement outermost_effects with_effects typed parts_of exceeded outcome likeness_of each_likeness signature_likeness_of conversion union conflict effects_of merged added shared points_to target_effects without_outer_effects same without_effects words_of opening_of automatics PlaceKeeps InitializerKeeps StmtKeeps row_type place_nodes initializer_nodes stmt_nodes places place_spots initializer_spots stmt_spots callee_of stores structure_in IsWithin AreVariables IsTypedPlace IsInitializer IsTypedStmt place_type packed
whole_16 = refl

-- int x = 1; int x; extern int x;
whole_17 : first_fault (codes "int x = 1; int x; extern int x;") (record { externals = (external.Declaration (record { place = 0; specs = (spec.Type 0 type_word.Int ∷ []); declarators = ((record { declarator = (of_declarator.Name (sp 4 5)); init = (Some (init.Value (expr.Number (sp 8 9)))) }) ∷ []) }) ∷ external.Declaration (record { place = 11; specs = (spec.Type 11 type_word.Int ∷ []); declarators = ((record { declarator = (of_declarator.Name (sp 15 16)); init = None }) ∷ []) }) ∷ external.Declaration (record { place = 18; specs = (spec.Storage 18 storage.Extern ∷ spec.Type 25 type_word.Int ∷ []); declarators = ((record { declarator = (of_declarator.Name (sp 29 30)); init = None }) ∷ []) }) ∷ []) }) ≡ None
unfolding hidden hidden-the_row-BlockItem-1 hidden-the_row-CType-0 hidden-the_row-CType-1 hidden-the_row-Declarator-0 hidden-the_row-Declarator-6 hidden-the_row-Enumerator-8 hidden-the_row-Expr-0 hidden-the_row-Expr-1 hidden-the_row-Expr-2 hidden-arguments hidden-the_row-Init-0 hidden-the_row-Initializer-0 hidden-the_row-Member-7 hidden-the_row-Param-5 hidden-the_row-Place-1 hidden-the_row-Spec-3 hidden-the_row-Stmt-0 hidden-unit-0 hidden-unit-1 hidden-the_row-TypeName-4 shape-the_row-BlockItem-1 shape-the_row-CType-0 shape-the_row-CType-1 shape-the_row-Declarator-0 shape-the_row-Declarator-6 shape-the_row-Enumerator-8 shape-the_row-Expr-0 shape-the_row-Expr-1 shape-the_row-Expr-2 shape-arguments shape-the_row-Init-0 shape-the_row-Initializer-0 shape-the_row-Member-7 shape-the_row-Param-5 shape-the_row-Place-1 shape-the_row-Spec-3 shape-the_row-Stmt-0 shape-unit-0 shape-unit-1 shape-the_row-TypeName-4 indirection element member access address unevaluated size size_of_expression size_of_type plain_assignment number_update pointer_update compound_assignment assignment step_update step spine fresh callee_in callee passed call worth is_null number_constant converted cast typedef_declared function_named variable_named init_declarator declaration file_declaration block_name block_declaration defined_name definition pointer_part array_part function_part made parameter type_name member_of_type_rules_declarators with_argument function_type body_read pointer_word initial_word initializer_words initial_values scalar text_fits by_name by_expression part finished by_list count initial_size initialized number_in character_in text_in text_initially as_value operand lvalue promoted in_sign pair_of stride arithmetic_on shift_on pointer_in_common equality_on logical_on operation sign_operation negation chosen_type chosen alternatives choice name number character holds_initially string_object text_found text parenthesised and_then name_number scoped expression value size_of typedef_name tagged_structure structure_name structure tagged_enumeration enumeration_name enumeration enumerator evaluated condition expression_statement block selection_of selection while_loop do_loop for_turns for_loop returned with_items list_behind block_items statement outermost_effects with_effects typed parts_of exceeded outcome likeness_of each_likeness signature_likeness_of conversion union conflict effects_of merged added shared points_to target_effects without_outer_effects same without_effects words_of opening_of automatics PlaceKeeps InitializerKeeps StmtKeeps row_type place_nodes initializer_nodes stmt_nodes places place_spots initializer_spots stmt_spots callee_of stores structure_in IsWithin AreVariables IsTypedPlace IsInitializer IsTypedStmt place_type packed
whole_17 = refl

-- int a[] = {1, 2, 3}; int a[3];
whole_18 : first_fault (codes "int a[] = {1, 2, 3}; int a[3];") (record { externals = (external.Declaration (record { place = 0; specs = (spec.Type 0 type_word.Int ∷ []); declarators = ((record { declarator = (of_declarator.Array (of_declarator.Name (sp 4 5)) 5 None); init = (Some (init.List 10 ((init.Value (expr.Number (sp 11 12))) ∷ (init.Value (expr.Number (sp 14 15))) ∷ (init.Value (expr.Number (sp 17 18))) ∷ []))) }) ∷ []) }) ∷ external.Declaration (record { place = 21; specs = (spec.Type 21 type_word.Int ∷ []); declarators = ((record { declarator = (of_declarator.Array (of_declarator.Name (sp 25 26)) 26 (Some (expr.Number (sp 27 28)))); init = None }) ∷ []) }) ∷ []) }) ≡ None
unfolding hidden hidden-the_row-BlockItem-1 hidden-the_row-CType-0 hidden-the_row-CType-1 hidden-the_row-Declarator-0 hidden-the_row-Declarator-6 hidden-the_row-Enumerator-8 hidden-the_row-Expr-0 hidden-the_row-Expr-1 hidden-the_row-Expr-2 hidden-arguments hidden-the_row-Init-0 hidden-the_row-Initializer-0 hidden-the_row-Member-7 hidden-the_row-Param-5 hidden-the_row-Place-1 hidden-the_row-Spec-3 hidden-the_row-Stmt-0 hidden-unit-0 hidden-unit-1 hidden-the_row-TypeName-4 shape-the_row-BlockItem-1 shape-the_row-CType-0 shape-the_row-CType-1 shape-the_row-Declarator-0 shape-the_row-Declarator-6 shape-the_row-Enumerator-8 shape-the_row-Expr-0 shape-the_row-Expr-1 shape-the_row-Expr-2 shape-arguments shape-the_row-Init-0 shape-the_row-Initializer-0 shape-the_row-Member-7 shape-the_row-Param-5 shape-the_row-Place-1 shape-the_row-Spec-3 shape-the_row-Stmt-0 shape-unit-0 shape-unit-1 shape-the_row-TypeName-4 indirection element member access address unevaluated size size_of_expression size_of_type plain_assignment number_update pointer_update compound_assignment assignment step_update step spine fresh callee_in callee passed call worth is_null number_constant converted cast typedef_declared function_named variable_named init_declarator declaration file_declaration block_name block_declaration defined_name definition pointer_part array_part function_part made parameter type_name member_of_type_rules_declarators with_argument function_type body_read pointer_word initial_word initializer_words initial_values scalar text_fits by_name by_expression part finished by_list count initial_size initialized number_in character_in text_in text_initially as_value operand lvalue promoted in_sign pair_of stride arithmetic_on shift_on pointer_in_common equality_on logical_on operation sign_operation negation chosen_type chosen alternatives choice name number character holds_initially string_object text_found text parenthesised and_then name_number scoped expression value size_of typedef_name tagged_structure structure_name structure tagged_enumeration enumeration_name enumeration enumerator evaluated condition expression_statement block selection_of selection while_loop do_loop for_turns for_loop returned with_items list_behind block_items statement outermost_effects with_effects typed parts_of exceeded outcome likeness_of each_likeness signature_likeness_of conversion union conflict effects_of merged added shared points_to target_effects without_outer_effects same without_effects words_of opening_of automatics PlaceKeeps InitializerKeeps StmtKeeps row_type place_nodes initializer_nodes stmt_nodes places place_spots initializer_spots stmt_spots callee_of stores structure_in IsWithin AreVariables IsTypedPlace IsInitializer IsTypedStmt place_type packed
whole_18 = refl

-- char s[] = "ab"; char s[3];
whole_19 : first_fault (codes "char s[] = \"ab\"; char s[3];") (record { externals = (external.Declaration (record { place = 0; specs = (spec.Type 0 type_word.Char ∷ []); declarators = ((record { declarator = (of_declarator.Array (of_declarator.Name (sp 5 6)) 6 None); init = (Some (init.Value (expr.Text ((sp 11 15) ∷ [])))) }) ∷ []) }) ∷ external.Declaration (record { place = 17; specs = (spec.Type 17 type_word.Char ∷ []); declarators = ((record { declarator = (of_declarator.Array (of_declarator.Name (sp 22 23)) 23 (Some (expr.Number (sp 24 25)))); init = None }) ∷ []) }) ∷ []) }) ≡ None
unfolding hidden hidden-the_row-BlockItem-1 hidden-the_row-CType-0 hidden-the_row-CType-1 hidden-the_row-Declarator-0 hidden-the_row-Declarator-6 hidden-the_row-Enumerator-8 hidden-the_row-Expr-0 hidden-the_row-Expr-1 hidden-the_row-Expr-2 hidden-arguments hidden-the_row-Init-0 hidden-the_row-Initializer-0 hidden-the_row-Member-7 hidden-the_row-Param-5 hidden-the_row-Place-1 hidden-the_row-Spec-3 hidden-the_row-Stmt-0 hidden-unit-0 hidden-unit-1 hidden-the_row-TypeName-4 shape-the_row-BlockItem-1 shape-the_row-CType-0 shape-the_row-CType-1 shape-the_row-Declarator-0 shape-the_row-Declarator-6 shape-the_row-Enumerator-8 shape-the_row-Expr-0 shape-the_row-Expr-1 shape-the_row-Expr-2 shape-arguments shape-the_row-Init-0 shape-the_row-Initializer-0 shape-the_row-Member-7 shape-the_row-Param-5 shape-the_row-Place-1 shape-the_row-Spec-3 shape-the_row-Stmt-0 shape-unit-0 shape-unit-1 shape-the_row-TypeName-4 indirection element member access address unevaluated size size_of_expression size_of_type plain_assignment number_update pointer_update compound_assignment assignment step_update step spine fresh callee_in callee passed call worth is_null number_constant converted cast typedef_declared function_named variable_named init_declarator declaration file_declaration block_name block_declaration defined_name definition pointer_part array_part function_part made parameter type_name member_of_type_rules_declarators with_argument function_type body_read pointer_word initial_word initializer_words initial_values scalar text_fits by_name by_expression part finished by_list count initial_size initialized number_in character_in text_in text_initially as_value operand lvalue promoted in_sign pair_of stride arithmetic_on shift_on pointer_in_common equality_on logical_on operation sign_operation negation chosen_type chosen alternatives choice name number character holds_initially string_object text_found text parenthesised and_then name_number scoped expression value size_of typedef_name tagged_structure structure_name structure tagged_enumeration enumeration_name enumeration enumerator evaluated condition expression_statement block selection_of selection while_loop do_loop for_turns for_loop returned with_items list_behind block_items statement outermost_effects with_effects typed parts_of exceeded outcome likeness_of each_likeness signature_likeness_of conversion union conflict effects_of merged added shared points_to target_effects without_outer_effects same without_effects words_of opening_of automatics PlaceKeeps InitializerKeeps StmtKeeps row_type place_nodes initializer_nodes stmt_nodes places place_spots initializer_spots stmt_spots callee_of stores structure_in IsWithin AreVariables IsTypedPlace IsInitializer IsTypedStmt place_type packed
whole_19 = refl

-- char s[] = "ab"; char «here» s[2];
whole_20 : first_fault (codes "char s[] = \"ab\"; char s[2];") (record { externals = (external.Declaration (record { place = 0; specs = (spec.Type 0 type_word.Char ∷ []); declarators = ((record { declarator = (of_declarator.Array (of_declarator.Name (sp 5 6)) 6 None); init = (Some (init.Value (expr.Text ((sp 11 15) ∷ [])))) }) ∷ []) }) ∷ external.Declaration (record { place = 17; specs = (spec.Type 17 type_word.Char ∷ []); declarators = ((record { declarator = (of_declarator.Array (of_declarator.Name (sp 22 23)) 23 (Some (expr.Number (sp 24 25)))); init = None }) ∷ []) }) ∷ []) }) ≡ Some (3, 22)
unfolding hidden hidden-the_row-BlockItem-1 hidden-the_row-CType-0 hidden-the_row-CType-1 hidden-the_row-Declarator-0 hidden-the_row-Declarator-6 hidden-the_row-Enumerator-8 hidden-the_row-Expr-0 hidden-the_row-Expr-1 hidden-the_row-Expr-2 hidden-arguments hidden-the_row-Init-0 hidden-the_row-Initializer-0 hidden-the_row-Member-7 hidden-the_row-Param-5 hidden-the_row-Place-1 hidden-the_row-Spec-3 hidden-the_row-Stmt-0 hidden-unit-0 hidden-unit-1 hidden-the_row-TypeName-4 shape-the_row-BlockItem-1 shape-the_row-CType-0 shape-the_row-CType-1 shape-the_row-Declarator-0 shape-the_row-Declarator-6 shape-the_row-Enumerator-8 shape-the_row-Expr-0 shape-the_row-Expr-1 shape-the_row-Expr-2 shape-arguments shape-the_row-Init-0 shape-the_row-Initializer-0 shape-the_row-Member-7 shape-the_row-Param-5 shape-the_row-Place-1 shape-the_row-Spec-3 shape-the_row-Stmt-0 shape-unit-0 shape-unit-1 shape-the_row-TypeName-4 indirection element member access address unevaluated size size_of_expression size_of_type plain_assignment number_update pointer_update compound_assignment assignment step_update step spine fresh callee_in callee passed call worth is_null number_constant converted cast typedef_declared function_named variable_named init_declarator declaration file_declaration block_name block_declaration defined_name definition pointer_part array_part function_part made parameter type_name member_of_type_rules_declarators with_argument function_type body_read pointer_word initial_word initializer_words initial_values scalar text_fits by_name by_expression part finished by_list count initial_size initialized number_in character_in text_in text_initially as_value operand lvalue promoted in_sign pair_of stride arithmetic_on shift_on pointer_in_common equality_on logical_on operation sign_operation negation chosen_type chosen alternatives choice name number character holds_initially string_object text_found text parenthesised and_then name_number scoped expression value size_of typedef_name tagged_structure structure_name structure tagged_enumeration enumeration_name enumeration enumerator evaluated condition expression_statement block selection_of selection while_loop do_loop for_turns for_loop returned with_items list_behind block_items statement outermost_effects with_effects typed parts_of exceeded outcome likeness_of each_likeness signature_likeness_of conversion union conflict effects_of merged added shared points_to target_effects without_outer_effects same without_effects words_of opening_of automatics PlaceKeeps InitializerKeeps StmtKeeps row_type place_nodes initializer_nodes stmt_nodes places place_spots initializer_spots stmt_spots callee_of stores structure_in IsWithin AreVariables IsTypedPlace IsInitializer IsTypedStmt place_type packed
whole_20 = refl

-- int a[2] = «here» {1, 2, 3};
whole_21 : first_fault (codes "int a[2] = {1, 2, 3};") (record { externals = (external.Declaration (record { place = 0; specs = (spec.Type 0 type_word.Int ∷ []); declarators = ((record { declarator = (of_declarator.Array (of_declarator.Name (sp 4 5)) 5 (Some (expr.Number (sp 6 7)))); init = (Some (init.List 11 ((init.Value (expr.Number (sp 12 13))) ∷ (init.Value (expr.Number (sp 15 16))) ∷ (init.Value (expr.Number (sp 18 19))) ∷ []))) }) ∷ []) }) ∷ []) }) ≡ Some (9, 11)
unfolding hidden hidden-the_row-BlockItem-1 hidden-the_row-CType-0 hidden-the_row-CType-1 hidden-the_row-Declarator-0 hidden-the_row-Declarator-6 hidden-the_row-Enumerator-8 hidden-the_row-Expr-0 hidden-the_row-Expr-1 hidden-the_row-Expr-2 hidden-arguments hidden-the_row-Init-0 hidden-the_row-Initializer-0 hidden-the_row-Member-7 hidden-the_row-Param-5 hidden-the_row-Place-1 hidden-the_row-Spec-3 hidden-the_row-Stmt-0 hidden-unit-0 hidden-unit-1 hidden-the_row-TypeName-4 shape-the_row-BlockItem-1 shape-the_row-CType-0 shape-the_row-CType-1 shape-the_row-Declarator-0 shape-the_row-Declarator-6 shape-the_row-Enumerator-8 shape-the_row-Expr-0 shape-the_row-Expr-1 shape-the_row-Expr-2 shape-arguments shape-the_row-Init-0 shape-the_row-Initializer-0 shape-the_row-Member-7 shape-the_row-Param-5 shape-the_row-Place-1 shape-the_row-Spec-3 shape-the_row-Stmt-0 shape-unit-0 shape-unit-1 shape-the_row-TypeName-4 indirection element member access address unevaluated size size_of_expression size_of_type plain_assignment number_update pointer_update compound_assignment assignment step_update step spine fresh callee_in callee passed call worth is_null number_constant converted cast typedef_declared function_named variable_named init_declarator declaration file_declaration block_name block_declaration defined_name definition pointer_part array_part function_part made parameter type_name member_of_type_rules_declarators with_argument function_type body_read pointer_word initial_word initializer_words initial_values scalar text_fits by_name by_expression part finished by_list count initial_size initialized number_in character_in text_in text_initially as_value operand lvalue promoted in_sign pair_of stride arithmetic_on shift_on pointer_in_common equality_on logical_on operation sign_operation negation chosen_type chosen alternatives choice name number character holds_initially string_object text_found text parenthesised and_then name_number scoped expression value size_of typedef_name tagged_structure structure_name structure tagged_enumeration enumeration_name enumeration enumerator evaluated condition expression_statement block selection_of selection while_loop do_loop for_turns for_loop returned with_items list_behind block_items statement outermost_effects with_effects typed parts_of exceeded outcome likeness_of each_likeness signature_likeness_of conversion union conflict effects_of merged added shared points_to target_effects without_outer_effects same without_effects words_of opening_of automatics PlaceKeeps InitializerKeeps StmtKeeps row_type place_nodes initializer_nodes stmt_nodes places place_spots initializer_spots stmt_spots callee_of stores structure_in IsWithin AreVariables IsTypedPlace IsInitializer IsTypedStmt place_type packed
whole_21 = refl

-- int a[] = {0}; int a[1];
whole_22 : first_fault (codes "int a[] = {0}; int a[1];") (record { externals = (external.Declaration (record { place = 0; specs = (spec.Type 0 type_word.Int ∷ []); declarators = ((record { declarator = (of_declarator.Array (of_declarator.Name (sp 4 5)) 5 None); init = (Some (init.List 10 ((init.Value (expr.Number (sp 11 12))) ∷ []))) }) ∷ []) }) ∷ external.Declaration (record { place = 15; specs = (spec.Type 15 type_word.Int ∷ []); declarators = ((record { declarator = (of_declarator.Array (of_declarator.Name (sp 19 20)) 20 (Some (expr.Number (sp 21 22)))); init = None }) ∷ []) }) ∷ []) }) ≡ None
unfolding hidden hidden-the_row-BlockItem-1 hidden-the_row-CType-0 hidden-the_row-CType-1 hidden-the_row-Declarator-0 hidden-the_row-Declarator-6 hidden-the_row-Enumerator-8 hidden-the_row-Expr-0 hidden-the_row-Expr-1 hidden-the_row-Expr-2 hidden-arguments hidden-the_row-Init-0 hidden-the_row-Initializer-0 hidden-the_row-Member-7 hidden-the_row-Param-5 hidden-the_row-Place-1 hidden-the_row-Spec-3 hidden-the_row-Stmt-0 hidden-unit-0 hidden-unit-1 hidden-the_row-TypeName-4 shape-the_row-BlockItem-1 shape-the_row-CType-0 shape-the_row-CType-1 shape-the_row-Declarator-0 shape-the_row-Declarator-6 shape-the_row-Enumerator-8 shape-the_row-Expr-0 shape-the_row-Expr-1 shape-the_row-Expr-2 shape-arguments shape-the_row-Init-0 shape-the_row-Initializer-0 shape-the_row-Member-7 shape-the_row-Param-5 shape-the_row-Place-1 shape-the_row-Spec-3 shape-the_row-Stmt-0 shape-unit-0 shape-unit-1 shape-the_row-TypeName-4 indirection element member access address unevaluated size size_of_expression size_of_type plain_assignment number_update pointer_update compound_assignment assignment step_update step spine fresh callee_in callee passed call worth is_null number_constant converted cast typedef_declared function_named variable_named init_declarator declaration file_declaration block_name block_declaration defined_name definition pointer_part array_part function_part made parameter type_name member_of_type_rules_declarators with_argument function_type body_read pointer_word initial_word initializer_words initial_values scalar text_fits by_name by_expression part finished by_list count initial_size initialized number_in character_in text_in text_initially as_value operand lvalue promoted in_sign pair_of stride arithmetic_on shift_on pointer_in_common equality_on logical_on operation sign_operation negation chosen_type chosen alternatives choice name number character holds_initially string_object text_found text parenthesised and_then name_number scoped expression value size_of typedef_name tagged_structure structure_name structure tagged_enumeration enumeration_name enumeration enumerator evaluated condition expression_statement block selection_of selection while_loop do_loop for_turns for_loop returned with_items list_behind block_items statement outermost_effects with_effects typed parts_of exceeded outcome likeness_of each_likeness signature_likeness_of conversion union conflict effects_of merged added shared points_to target_effects without_outer_effects same without_effects words_of opening_of automatics PlaceKeeps InitializerKeeps StmtKeeps row_type place_nodes initializer_nodes stmt_nodes places place_spots initializer_spots stmt_spots callee_of stores structure_in IsWithin AreVariables IsTypedPlace IsInitializer IsTypedStmt place_type packed
whole_22 = refl

-- void f(int a) { int «here» a; }
whole_23 : first_fault (codes "void f(int a) { int a; }") (record { externals = (external.Function (record { place = 0; specs = (spec.Type 0 type_word.Void ∷ []); declarator = (of_declarator.Function (of_declarator.Name (sp 5 6)) 6 (params.List ((record { place = 7; specs = (spec.Type 7 type_word.Int ∷ []); declarator = (of_declarator.Name (sp 11 12)) }) ∷ [])) []); body_place = 14; body = (item.Declaration (record { place = 16; specs = (spec.Type 16 type_word.Int ∷ []); declarators = ((record { declarator = (of_declarator.Name (sp 20 21)); init = None }) ∷ []) }) ∷ []) }) ∷ []) }) ≡ Some (2, 20)
unfolding hidden hidden-the_row-BlockItem-1 hidden-the_row-CType-0 hidden-the_row-CType-1 hidden-the_row-Declarator-0 hidden-the_row-Declarator-6 hidden-the_row-Enumerator-8 hidden-the_row-Expr-0 hidden-the_row-Expr-1 hidden-the_row-Expr-2 hidden-arguments hidden-the_row-Init-0 hidden-the_row-Initializer-0 hidden-the_row-Member-7 hidden-the_row-Param-5 hidden-the_row-Place-1 hidden-the_row-Spec-3 hidden-the_row-Stmt-0 hidden-unit-0 hidden-unit-1 hidden-the_row-TypeName-4 shape-the_row-BlockItem-1 shape-the_row-CType-0 shape-the_row-CType-1 shape-the_row-Declarator-0 shape-the_row-Declarator-6 shape-the_row-Enumerator-8 shape-the_row-Expr-0 shape-the_row-Expr-1 shape-the_row-Expr-2 shape-arguments shape-the_row-Init-0 shape-the_row-Initializer-0 shape-the_row-Member-7 shape-the_row-Param-5 shape-the_row-Place-1 shape-the_row-Spec-3 shape-the_row-Stmt-0 shape-unit-0 shape-unit-1 shape-the_row-TypeName-4 indirection element member access address unevaluated size size_of_expression size_of_type plain_assignment number_update pointer_update compound_assignment assignment step_update step spine fresh callee_in callee passed call worth is_null number_constant converted cast typedef_declared function_named variable_named init_declarator declaration file_declaration block_name block_declaration defined_name definition pointer_part array_part function_part made parameter type_name member_of_type_rules_declarators with_argument function_type body_read pointer_word initial_word initializer_words initial_values scalar text_fits by_name by_expression part finished by_list count initial_size initialized number_in character_in text_in text_initially as_value operand lvalue promoted in_sign pair_of stride arithmetic_on shift_on pointer_in_common equality_on logical_on operation sign_operation negation chosen_type chosen alternatives choice name number character holds_initially string_object text_found text parenthesised and_then name_number scoped expression value size_of typedef_name tagged_structure structure_name structure tagged_enumeration enumeration_name enumeration enumerator evaluated condition expression_statement block selection_of selection while_loop do_loop for_turns for_loop returned with_items list_behind block_items statement outermost_effects with_effects typed parts_of exceeded outcome likeness_of each_likeness signature_likeness_of conversion union conflict effects_of merged added shared points_to target_effects without_outer_effects same without_effects words_of opening_of automatics PlaceKeeps InitializerKeeps StmtKeeps row_type place_nodes initializer_nodes stmt_nodes places place_spots initializer_spots stmt_spots callee_of stores structure_in IsWithin AreVariables IsTypedPlace IsInitializer IsTypedStmt place_type packed
whole_23 = refl

-- void f(void) { int a; { int a; } int «here» a; }
whole_24 : first_fault (codes "void f(void) { int a; { int a; } int a; }") (record { externals = (external.Function (record { place = 0; specs = (spec.Type 0 type_word.Void ∷ []); declarator = (of_declarator.Function (of_declarator.Name (sp 5 6)) 6 (params.Void 7) []); body_place = 13; body = (item.Declaration (record { place = 15; specs = (spec.Type 15 type_word.Int ∷ []); declarators = ((record { declarator = (of_declarator.Name (sp 19 20)); init = None }) ∷ []) }) ∷ item.Statement (stmt.Block 22 (item.Declaration (record { place = 24; specs = (spec.Type 24 type_word.Int ∷ []); declarators = ((record { declarator = (of_declarator.Name (sp 28 29)); init = None }) ∷ []) }) ∷ [])) ∷ item.Declaration (record { place = 33; specs = (spec.Type 33 type_word.Int ∷ []); declarators = ((record { declarator = (of_declarator.Name (sp 37 38)); init = None }) ∷ []) }) ∷ []) }) ∷ []) }) ≡ Some (2, 37)
unfolding hidden hidden-the_row-BlockItem-1 hidden-the_row-CType-0 hidden-the_row-CType-1 hidden-the_row-Declarator-0 hidden-the_row-Declarator-6 hidden-the_row-Enumerator-8 hidden-the_row-Expr-0 hidden-the_row-Expr-1 hidden-the_row-Expr-2 hidden-arguments hidden-the_row-Init-0 hidden-the_row-Initializer-0 hidden-the_row-Member-7 hidden-the_row-Param-5 hidden-the_row-Place-1 hidden-the_row-Spec-3 hidden-the_row-Stmt-0 hidden-unit-0 hidden-unit-1 hidden-the_row-TypeName-4 shape-the_row-BlockItem-1 shape-the_row-CType-0 shape-the_row-CType-1 shape-the_row-Declarator-0 shape-the_row-Declarator-6 shape-the_row-Enumerator-8 shape-the_row-Expr-0 shape-the_row-Expr-1 shape-the_row-Expr-2 shape-arguments shape-the_row-Init-0 shape-the_row-Initializer-0 shape-the_row-Member-7 shape-the_row-Param-5 shape-the_row-Place-1 shape-the_row-Spec-3 shape-the_row-Stmt-0 shape-unit-0 shape-unit-1 shape-the_row-TypeName-4 indirection element member access address unevaluated size size_of_expression size_of_type plain_assignment number_update pointer_update compound_assignment assignment step_update step spine fresh callee_in callee passed call worth is_null number_constant converted cast typedef_declared function_named variable_named init_declarator declaration file_declaration block_name block_declaration defined_name definition pointer_part array_part function_part made parameter type_name member_of_type_rules_declarators with_argument function_type body_read pointer_word initial_word initializer_words initial_values scalar text_fits by_name by_expression part finished by_list count initial_size initialized number_in character_in text_in text_initially as_value operand lvalue promoted in_sign pair_of stride arithmetic_on shift_on pointer_in_common equality_on logical_on operation sign_operation negation chosen_type chosen alternatives choice name number character holds_initially string_object text_found text parenthesised and_then name_number scoped expression value size_of typedef_name tagged_structure structure_name structure tagged_enumeration enumeration_name enumeration enumerator evaluated condition expression_statement block selection_of selection while_loop do_loop for_turns for_loop returned with_items list_behind block_items statement outermost_effects with_effects typed parts_of exceeded outcome likeness_of each_likeness signature_likeness_of conversion union conflict effects_of merged added shared points_to target_effects without_outer_effects same without_effects words_of opening_of automatics PlaceKeeps InitializerKeeps StmtKeeps row_type place_nodes initializer_nodes stmt_nodes places place_spots initializer_spots stmt_spots callee_of stores structure_in IsWithin AreVariables IsTypedPlace IsInitializer IsTypedStmt place_type packed
whole_24 = refl

-- void f(void) { int a; for (int a = 0; a < 3; a++) { int a; } }
whole_25 : first_fault (codes "void f(void) { int a; for (int a = 0; a < 3; a++) { int a; } }") (record { externals = (external.Function (record { place = 0; specs = (spec.Type 0 type_word.Void ∷ []); declarator = (of_declarator.Function (of_declarator.Name (sp 5 6)) 6 (params.Void 7) []); body_place = 13; body = (item.Declaration (record { place = 15; specs = (spec.Type 15 type_word.Int ∷ []); declarators = ((record { declarator = (of_declarator.Name (sp 19 20)); init = None }) ∷ []) }) ∷ item.Statement (stmt.For 22 (start.Declaration (record { place = 27; specs = (spec.Type 27 type_word.Int ∷ []); declarators = ((record { declarator = (of_declarator.Name (sp 31 32)); init = (Some (init.Value (expr.Number (sp 35 36)))) }) ∷ []) })) (Some (expr.Binary 38 (expr.Name (sp 38 39)) binary.Less 40 (expr.Number (sp 42 43)))) (Some (expr.Step 45 (expr.Name (sp 45 46)) step.Increment)) (stmt.Block 50 (item.Declaration (record { place = 52; specs = (spec.Type 52 type_word.Int ∷ []); declarators = ((record { declarator = (of_declarator.Name (sp 56 57)); init = None }) ∷ []) }) ∷ []))) ∷ []) }) ∷ []) }) ≡ None
unfolding hidden hidden-the_row-BlockItem-1 hidden-the_row-CType-0 hidden-the_row-CType-1 hidden-the_row-Declarator-0 hidden-the_row-Declarator-6 hidden-the_row-Enumerator-8 hidden-the_row-Expr-0 hidden-the_row-Expr-1 hidden-the_row-Expr-2 hidden-arguments hidden-the_row-Init-0 hidden-the_row-Initializer-0 hidden-the_row-Member-7 hidden-the_row-Param-5 hidden-the_row-Place-1 hidden-the_row-Spec-3 hidden-the_row-Stmt-0 hidden-unit-0 hidden-unit-1 hidden-the_row-TypeName-4 shape-the_row-BlockItem-1 shape-the_row-CType-0 shape-the_row-CType-1 shape-the_row-Declarator-0 shape-the_row-Declarator-6 shape-the_row-Enumerator-8 shape-the_row-Expr-0 shape-the_row-Expr-1 shape-the_row-Expr-2 shape-arguments shape-the_row-Init-0 shape-the_row-Initializer-0 shape-the_row-Member-7 shape-the_row-Param-5 shape-the_row-Place-1 shape-the_row-Spec-3 shape-the_row-Stmt-0 shape-unit-0 shape-unit-1 shape-the_row-TypeName-4 indirection element member access address unevaluated size size_of_expression size_of_type plain_assignment number_update pointer_update compound_assignment assignment step_update step spine fresh callee_in callee passed call worth is_null number_constant converted cast typedef_declared function_named variable_named init_declarator declaration file_declaration block_name block_declaration defined_name definition pointer_part array_part function_part made parameter type_name member_of_type_rules_declarators with_argument function_type body_read pointer_word initial_word initializer_words initial_values scalar text_fits by_name by_expression part finished by_list count initial_size initialized number_in character_in text_in text_initially as_value operand lvalue promoted in_sign pair_of stride arithmetic_on shift_on pointer_in_common equality_on logical_on operation sign_operation negation chosen_type chosen alternatives choice name number character holds_initially string_object text_found text parenthesised and_then name_number scoped expression value size_of typedef_name tagged_structure structure_name structure tagged_enumeration enumeration_name enumeration enumerator evaluated condition expression_statement block selection_of selection while_loop do_loop for_turns for_loop returned with_items list_behind block_items statement outermost_effects with_effects typed parts_of exceeded outcome likeness_of each_likeness signature_likeness_of conversion union conflict effects_of merged added shared points_to target_effects without_outer_effects same without_effects words_of opening_of automatics PlaceKeeps InitializerKeeps StmtKeeps row_type place_nodes initializer_nodes stmt_nodes places place_spots initializer_spots stmt_spots callee_of stores structure_in IsWithin AreVariables IsTypedPlace IsInitializer IsTypedStmt place_type packed
whole_25 = refl

-- void f(void) { int «here» a[]; }
whole_26 : first_fault (codes "void f(void) { int a[]; }") (record { externals = (external.Function (record { place = 0; specs = (spec.Type 0 type_word.Void ∷ []); declarator = (of_declarator.Function (of_declarator.Name (sp 5 6)) 6 (params.Void 7) []); body_place = 13; body = (item.Declaration (record { place = 15; specs = (spec.Type 15 type_word.Int ∷ []); declarators = ((record { declarator = (of_declarator.Array (of_declarator.Name (sp 19 20)) 20 None); init = None }) ∷ []) }) ∷ []) }) ∷ []) }) ≡ Some (10, 19)
unfolding hidden hidden-the_row-BlockItem-1 hidden-the_row-CType-0 hidden-the_row-CType-1 hidden-the_row-Declarator-0 hidden-the_row-Declarator-6 hidden-the_row-Enumerator-8 hidden-the_row-Expr-0 hidden-the_row-Expr-1 hidden-the_row-Expr-2 hidden-arguments hidden-the_row-Init-0 hidden-the_row-Initializer-0 hidden-the_row-Member-7 hidden-the_row-Param-5 hidden-the_row-Place-1 hidden-the_row-Spec-3 hidden-the_row-Stmt-0 hidden-unit-0 hidden-unit-1 hidden-the_row-TypeName-4 shape-the_row-BlockItem-1 shape-the_row-CType-0 shape-the_row-CType-1 shape-the_row-Declarator-0 shape-the_row-Declarator-6 shape-the_row-Enumerator-8 shape-the_row-Expr-0 shape-the_row-Expr-1 shape-the_row-Expr-2 shape-arguments shape-the_row-Init-0 shape-the_row-Initializer-0 shape-the_row-Member-7 shape-the_row-Param-5 shape-the_row-Place-1 shape-the_row-Spec-3 shape-the_row-Stmt-0 shape-unit-0 shape-unit-1 shape-the_row-TypeName-4 indirection element member access address unevaluated size size_of_expression size_of_type plain_assignment number_update pointer_update compound_assignment assignment step_update step spine fresh callee_in callee passed call worth is_null number_constant converted cast typedef_declared function_named variable_named init_declarator declaration file_declaration block_name block_declaration defined_name definition pointer_part array_part function_part made parameter type_name member_of_type_rules_declarators with_argument function_type body_read pointer_word initial_word initializer_words initial_values scalar text_fits by_name by_expression part finished by_list count initial_size initialized number_in character_in text_in text_initially as_value operand lvalue promoted in_sign pair_of stride arithmetic_on shift_on pointer_in_common equality_on logical_on operation sign_operation negation chosen_type chosen alternatives choice name number character holds_initially string_object text_found text parenthesised and_then name_number scoped expression value size_of typedef_name tagged_structure structure_name structure tagged_enumeration enumeration_name enumeration enumerator evaluated condition expression_statement block selection_of selection while_loop do_loop for_turns for_loop returned with_items list_behind block_items statement outermost_effects with_effects typed parts_of exceeded outcome likeness_of each_likeness signature_likeness_of conversion union conflict effects_of merged added shared points_to target_effects without_outer_effects same without_effects words_of opening_of automatics PlaceKeeps InitializerKeeps StmtKeeps row_type place_nodes initializer_nodes stmt_nodes places place_spots initializer_spots stmt_spots callee_of stores structure_in IsWithin AreVariables IsTypedPlace IsInitializer IsTypedStmt place_type packed
whole_26 = refl

-- typedef void F(void); void f(void) { F «here» g; }
whole_27 : first_fault (codes "typedef void F(void); void f(void) { F g; }") (record { externals = (external.Declaration (record { place = 0; specs = (spec.Storage 0 storage.Typedef ∷ spec.Type 8 type_word.Void ∷ []); declarators = ((record { declarator = (of_declarator.Function (of_declarator.Name (sp 13 14)) 14 (params.Void 15) []); init = None }) ∷ []) }) ∷ external.Function (record { place = 22; specs = (spec.Type 22 type_word.Void ∷ []); declarator = (of_declarator.Function (of_declarator.Name (sp 27 28)) 28 (params.Void 29) []); body_place = 35; body = (item.Declaration (record { place = 37; specs = (spec.TypedefName (sp 37 38) ∷ []); declarators = ((record { declarator = (of_declarator.Name (sp 39 40)); init = None }) ∷ []) }) ∷ []) }) ∷ []) }) ≡ Some (3, 39)
unfolding hidden hidden-the_row-BlockItem-1 hidden-the_row-CType-0 hidden-the_row-CType-1 hidden-the_row-Declarator-0 hidden-the_row-Declarator-6 hidden-the_row-Enumerator-8 hidden-the_row-Expr-0 hidden-the_row-Expr-1 hidden-the_row-Expr-2 hidden-arguments hidden-the_row-Init-0 hidden-the_row-Initializer-0 hidden-the_row-Member-7 hidden-the_row-Param-5 hidden-the_row-Place-1 hidden-the_row-Spec-3 hidden-the_row-Stmt-0 hidden-unit-0 hidden-unit-1 hidden-the_row-TypeName-4 shape-the_row-BlockItem-1 shape-the_row-CType-0 shape-the_row-CType-1 shape-the_row-Declarator-0 shape-the_row-Declarator-6 shape-the_row-Enumerator-8 shape-the_row-Expr-0 shape-the_row-Expr-1 shape-the_row-Expr-2 shape-arguments shape-the_row-Init-0 shape-the_row-Initializer-0 shape-the_row-Member-7 shape-the_row-Param-5 shape-the_row-Place-1 shape-the_row-Spec-3 shape-the_row-Stmt-0 shape-unit-0 shape-unit-1 shape-the_row-TypeName-4 indirection element member access address unevaluated size size_of_expression size_of_type plain_assignment number_update pointer_update compound_assignment assignment step_update step spine fresh callee_in callee passed call worth is_null number_constant converted cast typedef_declared function_named variable_named init_declarator declaration file_declaration block_name block_declaration defined_name definition pointer_part array_part function_part made parameter type_name member_of_type_rules_declarators with_argument function_type body_read pointer_word initial_word initializer_words initial_values scalar text_fits by_name by_expression part finished by_list count initial_size initialized number_in character_in text_in text_initially as_value operand lvalue promoted in_sign pair_of stride arithmetic_on shift_on pointer_in_common equality_on logical_on operation sign_operation negation chosen_type chosen alternatives choice name number character holds_initially string_object text_found text parenthesised and_then name_number scoped expression value size_of typedef_name tagged_structure structure_name structure tagged_enumeration enumeration_name enumeration enumerator evaluated condition expression_statement block selection_of selection while_loop do_loop for_turns for_loop returned with_items list_behind block_items statement outermost_effects with_effects typed parts_of exceeded outcome likeness_of each_likeness signature_likeness_of conversion union conflict effects_of merged added shared points_to target_effects without_outer_effects same without_effects words_of opening_of automatics PlaceKeeps InitializerKeeps StmtKeeps row_type place_nodes initializer_nodes stmt_nodes places place_spots initializer_spots stmt_spots callee_of stores structure_in IsWithin AreVariables IsTypedPlace IsInitializer IsTypedStmt place_type packed
whole_27 = refl

-- void f(void) { void «here» v; }
whole_28 : first_fault (codes "void f(void) { void v; }") (record { externals = (external.Function (record { place = 0; specs = (spec.Type 0 type_word.Void ∷ []); declarator = (of_declarator.Function (of_declarator.Name (sp 5 6)) 6 (params.Void 7) []); body_place = 13; body = (item.Declaration (record { place = 15; specs = (spec.Type 15 type_word.Void ∷ []); declarators = ((record { declarator = (of_declarator.Name (sp 20 21)); init = None }) ∷ []) }) ∷ []) }) ∷ []) }) ≡ Some (10, 20)
unfolding hidden hidden-the_row-BlockItem-1 hidden-the_row-CType-0 hidden-the_row-CType-1 hidden-the_row-Declarator-0 hidden-the_row-Declarator-6 hidden-the_row-Enumerator-8 hidden-the_row-Expr-0 hidden-the_row-Expr-1 hidden-the_row-Expr-2 hidden-arguments hidden-the_row-Init-0 hidden-the_row-Initializer-0 hidden-the_row-Member-7 hidden-the_row-Param-5 hidden-the_row-Place-1 hidden-the_row-Spec-3 hidden-the_row-Stmt-0 hidden-unit-0 hidden-unit-1 hidden-the_row-TypeName-4 shape-the_row-BlockItem-1 shape-the_row-CType-0 shape-the_row-CType-1 shape-the_row-Declarator-0 shape-the_row-Declarator-6 shape-the_row-Enumerator-8 shape-the_row-Expr-0 shape-the_row-Expr-1 shape-the_row-Expr-2 shape-arguments shape-the_row-Init-0 shape-the_row-Initializer-0 shape-the_row-Member-7 shape-the_row-Param-5 shape-the_row-Place-1 shape-the_row-Spec-3 shape-the_row-Stmt-0 shape-unit-0 shape-unit-1 shape-the_row-TypeName-4 indirection element member access address unevaluated size size_of_expression size_of_type plain_assignment number_update pointer_update compound_assignment assignment step_update step spine fresh callee_in callee passed call worth is_null number_constant converted cast typedef_declared function_named variable_named init_declarator declaration file_declaration block_name block_declaration defined_name definition pointer_part array_part function_part made parameter type_name member_of_type_rules_declarators with_argument function_type body_read pointer_word initial_word initializer_words initial_values scalar text_fits by_name by_expression part finished by_list count initial_size initialized number_in character_in text_in text_initially as_value operand lvalue promoted in_sign pair_of stride arithmetic_on shift_on pointer_in_common equality_on logical_on operation sign_operation negation chosen_type chosen alternatives choice name number character holds_initially string_object text_found text parenthesised and_then name_number scoped expression value size_of typedef_name tagged_structure structure_name structure tagged_enumeration enumeration_name enumeration enumerator evaluated condition expression_statement block selection_of selection while_loop do_loop for_turns for_loop returned with_items list_behind block_items statement outermost_effects with_effects typed parts_of exceeded outcome likeness_of each_likeness signature_likeness_of conversion union conflict effects_of merged added shared points_to target_effects without_outer_effects same without_effects words_of opening_of automatics PlaceKeeps InitializerKeeps StmtKeeps row_type place_nodes initializer_nodes stmt_nodes places place_spots initializer_spots stmt_spots callee_of stores structure_in IsWithin AreVariables IsTypedPlace IsInitializer IsTypedStmt place_type packed
whole_28 = refl

-- struct s; void f(void) { struct s «here» x; }
whole_29 : first_fault (codes "struct s; void f(void) { struct s x; }") (record { externals = (external.Declaration (record { place = 0; specs = (spec.StructName 0 (sp 7 8) ∷ []); declarators = [] }) ∷ external.Function (record { place = 10; specs = (spec.Type 10 type_word.Void ∷ []); declarator = (of_declarator.Function (of_declarator.Name (sp 15 16)) 16 (params.Void 17) []); body_place = 23; body = (item.Declaration (record { place = 25; specs = (spec.StructName 25 (sp 32 33) ∷ []); declarators = ((record { declarator = (of_declarator.Name (sp 34 35)); init = None }) ∷ []) }) ∷ []) }) ∷ []) }) ≡ Some (10, 34)
unfolding hidden hidden-the_row-BlockItem-1 hidden-the_row-CType-0 hidden-the_row-CType-1 hidden-the_row-Declarator-0 hidden-the_row-Declarator-6 hidden-the_row-Enumerator-8 hidden-the_row-Expr-0 hidden-the_row-Expr-1 hidden-the_row-Expr-2 hidden-arguments hidden-the_row-Init-0 hidden-the_row-Initializer-0 hidden-the_row-Member-7 hidden-the_row-Param-5 hidden-the_row-Place-1 hidden-the_row-Spec-3 hidden-the_row-Stmt-0 hidden-unit-0 hidden-unit-1 hidden-the_row-TypeName-4 shape-the_row-BlockItem-1 shape-the_row-CType-0 shape-the_row-CType-1 shape-the_row-Declarator-0 shape-the_row-Declarator-6 shape-the_row-Enumerator-8 shape-the_row-Expr-0 shape-the_row-Expr-1 shape-the_row-Expr-2 shape-arguments shape-the_row-Init-0 shape-the_row-Initializer-0 shape-the_row-Member-7 shape-the_row-Param-5 shape-the_row-Place-1 shape-the_row-Spec-3 shape-the_row-Stmt-0 shape-unit-0 shape-unit-1 shape-the_row-TypeName-4 indirection element member access address unevaluated size size_of_expression size_of_type plain_assignment number_update pointer_update compound_assignment assignment step_update step spine fresh callee_in callee passed call worth is_null number_constant converted cast typedef_declared function_named variable_named init_declarator declaration file_declaration block_name block_declaration defined_name definition pointer_part array_part function_part made parameter type_name member_of_type_rules_declarators with_argument function_type body_read pointer_word initial_word initializer_words initial_values scalar text_fits by_name by_expression part finished by_list count initial_size initialized number_in character_in text_in text_initially as_value operand lvalue promoted in_sign pair_of stride arithmetic_on shift_on pointer_in_common equality_on logical_on operation sign_operation negation chosen_type chosen alternatives choice name number character holds_initially string_object text_found text parenthesised and_then name_number scoped expression value size_of typedef_name tagged_structure structure_name structure tagged_enumeration enumeration_name enumeration enumerator evaluated condition expression_statement block selection_of selection while_loop do_loop for_turns for_loop returned with_items list_behind block_items statement outermost_effects with_effects typed parts_of exceeded outcome likeness_of each_likeness signature_likeness_of conversion union conflict effects_of merged added shared points_to target_effects without_outer_effects same without_effects words_of opening_of automatics PlaceKeeps InitializerKeeps StmtKeeps row_type place_nodes initializer_nodes stmt_nodes places place_spots initializer_spots stmt_spots callee_of stores structure_in IsWithin AreVariables IsTypedPlace IsInitializer IsTypedStmt place_type packed
whole_29 = refl

-- int x = «here» y;
whole_30 : first_fault (codes "int x = y;") (record { externals = (external.Declaration (record { place = 0; specs = (spec.Type 0 type_word.Int ∷ []); declarators = ((record { declarator = (of_declarator.Name (sp 4 5)); init = (Some (init.Value (expr.Name (sp 8 9)))) }) ∷ []) }) ∷ []) }) ≡ Some (1, 8)
unfolding hidden hidden-the_row-BlockItem-1 hidden-the_row-CType-0 hidden-the_row-CType-1 hidden-the_row-Declarator-0 hidden-the_row-Declarator-6 hidden-the_row-Enumerator-8 hidden-the_row-Expr-0 hidden-the_row-Expr-1 hidden-the_row-Expr-2 hidden-arguments hidden-the_row-Init-0 hidden-the_row-Initializer-0 hidden-the_row-Member-7 hidden-the_row-Param-5 hidden-the_row-Place-1 hidden-the_row-Spec-3 hidden-the_row-Stmt-0 hidden-unit-0 hidden-unit-1 hidden-the_row-TypeName-4 shape-the_row-BlockItem-1 shape-the_row-CType-0 shape-the_row-CType-1 shape-the_row-Declarator-0 shape-the_row-Declarator-6 shape-the_row-Enumerator-8 shape-the_row-Expr-0 shape-the_row-Expr-1 shape-the_row-Expr-2 shape-arguments shape-the_row-Init-0 shape-the_row-Initializer-0 shape-the_row-Member-7 shape-the_row-Param-5 shape-the_row-Place-1 shape-the_row-Spec-3 shape-the_row-Stmt-0 shape-unit-0 shape-unit-1 shape-the_row-TypeName-4 indirection element member access address unevaluated size size_of_expression size_of_type plain_assignment number_update pointer_update compound_assignment assignment step_update step spine fresh callee_in callee passed call worth is_null number_constant converted cast typedef_declared function_named variable_named init_declarator declaration file_declaration block_name block_declaration defined_name definition pointer_part array_part function_part made parameter type_name member_of_type_rules_declarators with_argument function_type body_read pointer_word initial_word initializer_words initial_values scalar text_fits by_name by_expression part finished by_list count initial_size initialized number_in character_in text_in text_initially as_value operand lvalue promoted in_sign pair_of stride arithmetic_on shift_on pointer_in_common equality_on logical_on operation sign_operation negation chosen_type chosen alternatives choice name number character holds_initially string_object text_found text parenthesised and_then name_number scoped expression value size_of typedef_name tagged_structure structure_name structure tagged_enumeration enumeration_name enumeration enumerator evaluated condition expression_statement block selection_of selection while_loop do_loop for_turns for_loop returned with_items list_behind block_items statement outermost_effects with_effects typed parts_of exceeded outcome likeness_of each_likeness signature_likeness_of conversion union conflict effects_of merged added shared points_to target_effects without_outer_effects same without_effects words_of opening_of automatics PlaceKeeps InitializerKeeps StmtKeeps row_type place_nodes initializer_nodes stmt_nodes places place_spots initializer_spots stmt_spots callee_of stores structure_in IsWithin AreVariables IsTypedPlace IsInitializer IsTypedStmt place_type packed
whole_30 = refl

-- int x = «here» x;
whole_31 : first_fault (codes "int x = x;") (record { externals = (external.Declaration (record { place = 0; specs = (spec.Type 0 type_word.Int ∷ []); declarators = ((record { declarator = (of_declarator.Name (sp 4 5)); init = (Some (init.Value (expr.Name (sp 8 9)))) }) ∷ []) }) ∷ []) }) ≡ Some (7, 8)
unfolding hidden hidden-the_row-BlockItem-1 hidden-the_row-CType-0 hidden-the_row-CType-1 hidden-the_row-Declarator-0 hidden-the_row-Declarator-6 hidden-the_row-Enumerator-8 hidden-the_row-Expr-0 hidden-the_row-Expr-1 hidden-the_row-Expr-2 hidden-arguments hidden-the_row-Init-0 hidden-the_row-Initializer-0 hidden-the_row-Member-7 hidden-the_row-Param-5 hidden-the_row-Place-1 hidden-the_row-Spec-3 hidden-the_row-Stmt-0 hidden-unit-0 hidden-unit-1 hidden-the_row-TypeName-4 shape-the_row-BlockItem-1 shape-the_row-CType-0 shape-the_row-CType-1 shape-the_row-Declarator-0 shape-the_row-Declarator-6 shape-the_row-Enumerator-8 shape-the_row-Expr-0 shape-the_row-Expr-1 shape-the_row-Expr-2 shape-arguments shape-the_row-Init-0 shape-the_row-Initializer-0 shape-the_row-Member-7 shape-the_row-Param-5 shape-the_row-Place-1 shape-the_row-Spec-3 shape-the_row-Stmt-0 shape-unit-0 shape-unit-1 shape-the_row-TypeName-4 indirection element member access address unevaluated size size_of_expression size_of_type plain_assignment number_update pointer_update compound_assignment assignment step_update step spine fresh callee_in callee passed call worth is_null number_constant converted cast typedef_declared function_named variable_named init_declarator declaration file_declaration block_name block_declaration defined_name definition pointer_part array_part function_part made parameter type_name member_of_type_rules_declarators with_argument function_type body_read pointer_word initial_word initializer_words initial_values scalar text_fits by_name by_expression part finished by_list count initial_size initialized number_in character_in text_in text_initially as_value operand lvalue promoted in_sign pair_of stride arithmetic_on shift_on pointer_in_common equality_on logical_on operation sign_operation negation chosen_type chosen alternatives choice name number character holds_initially string_object text_found text parenthesised and_then name_number scoped expression value size_of typedef_name tagged_structure structure_name structure tagged_enumeration enumeration_name enumeration enumerator evaluated condition expression_statement block selection_of selection while_loop do_loop for_turns for_loop returned with_items list_behind block_items statement outermost_effects with_effects typed parts_of exceeded outcome likeness_of each_likeness signature_likeness_of conversion union conflict effects_of merged added shared points_to target_effects without_outer_effects same without_effects words_of opening_of automatics PlaceKeeps InitializerKeeps StmtKeeps row_type place_nodes initializer_nodes stmt_nodes places place_spots initializer_spots stmt_spots callee_of stores structure_in IsWithin AreVariables IsTypedPlace IsInitializer IsTypedStmt place_type packed
whole_31 = refl

-- int x; int *p = &x; int *q = «here» p;
whole_32 : first_fault (codes "int x; int *p = &x; int *q = p;") (record { externals = (external.Declaration (record { place = 0; specs = (spec.Type 0 type_word.Int ∷ []); declarators = ((record { declarator = (of_declarator.Name (sp 4 5)); init = None }) ∷ []) }) ∷ external.Declaration (record { place = 7; specs = (spec.Type 7 type_word.Int ∷ []); declarators = ((record { declarator = (of_declarator.Pointer 11 [] (of_declarator.Name (sp 12 13))); init = (Some (init.Value (expr.Unary 16 unary.Address (expr.Name (sp 17 18))))) }) ∷ []) }) ∷ external.Declaration (record { place = 20; specs = (spec.Type 20 type_word.Int ∷ []); declarators = ((record { declarator = (of_declarator.Pointer 24 [] (of_declarator.Name (sp 25 26))); init = (Some (init.Value (expr.Name (sp 29 30)))) }) ∷ []) }) ∷ []) }) ≡ Some (7, 29)
unfolding hidden hidden-the_row-BlockItem-1 hidden-the_row-CType-0 hidden-the_row-CType-1 hidden-the_row-Declarator-0 hidden-the_row-Declarator-6 hidden-the_row-Enumerator-8 hidden-the_row-Expr-0 hidden-the_row-Expr-1 hidden-the_row-Expr-2 hidden-arguments hidden-the_row-Init-0 hidden-the_row-Initializer-0 hidden-the_row-Member-7 hidden-the_row-Param-5 hidden-the_row-Place-1 hidden-the_row-Spec-3 hidden-the_row-Stmt-0 hidden-unit-0 hidden-unit-1 hidden-the_row-TypeName-4 shape-the_row-BlockItem-1 shape-the_row-CType-0 shape-the_row-CType-1 shape-the_row-Declarator-0 shape-the_row-Declarator-6 shape-the_row-Enumerator-8 shape-the_row-Expr-0 shape-the_row-Expr-1 shape-the_row-Expr-2 shape-arguments shape-the_row-Init-0 shape-the_row-Initializer-0 shape-the_row-Member-7 shape-the_row-Param-5 shape-the_row-Place-1 shape-the_row-Spec-3 shape-the_row-Stmt-0 shape-unit-0 shape-unit-1 shape-the_row-TypeName-4 indirection element member access address unevaluated size size_of_expression size_of_type plain_assignment number_update pointer_update compound_assignment assignment step_update step spine fresh callee_in callee passed call worth is_null number_constant converted cast typedef_declared function_named variable_named init_declarator declaration file_declaration block_name block_declaration defined_name definition pointer_part array_part function_part made parameter type_name member_of_type_rules_declarators with_argument function_type body_read pointer_word initial_word initializer_words initial_values scalar text_fits by_name by_expression part finished by_list count initial_size initialized number_in character_in text_in text_initially as_value operand lvalue promoted in_sign pair_of stride arithmetic_on shift_on pointer_in_common equality_on logical_on operation sign_operation negation chosen_type chosen alternatives choice name number character holds_initially string_object text_found text parenthesised and_then name_number scoped expression value size_of typedef_name tagged_structure structure_name structure tagged_enumeration enumeration_name enumeration enumerator evaluated condition expression_statement block selection_of selection while_loop do_loop for_turns for_loop returned with_items list_behind block_items statement outermost_effects with_effects typed parts_of exceeded outcome likeness_of each_likeness signature_likeness_of conversion union conflict effects_of merged added shared points_to target_effects without_outer_effects same without_effects words_of opening_of automatics PlaceKeeps InitializerKeeps StmtKeeps row_type place_nodes initializer_nodes stmt_nodes places place_spots initializer_spots stmt_spots callee_of stores structure_in IsWithin AreVariables IsTypedPlace IsInitializer IsTypedStmt place_type packed
whole_32 = refl

-- void f(void) { return «here» 1; }
whole_33 : first_fault (codes "void f(void) { return 1; }") (record { externals = (external.Function (record { place = 0; specs = (spec.Type 0 type_word.Void ∷ []); declarator = (of_declarator.Function (of_declarator.Name (sp 5 6)) 6 (params.Void 7) []); body_place = 13; body = (item.Statement (stmt.Return 15 (Some (expr.Number (sp 22 23)))) ∷ []) }) ∷ []) }) ≡ Some (3, 22)
unfolding hidden hidden-the_row-BlockItem-1 hidden-the_row-CType-0 hidden-the_row-CType-1 hidden-the_row-Declarator-0 hidden-the_row-Declarator-6 hidden-the_row-Enumerator-8 hidden-the_row-Expr-0 hidden-the_row-Expr-1 hidden-the_row-Expr-2 hidden-arguments hidden-the_row-Init-0 hidden-the_row-Initializer-0 hidden-the_row-Member-7 hidden-the_row-Param-5 hidden-the_row-Place-1 hidden-the_row-Spec-3 hidden-the_row-Stmt-0 hidden-unit-0 hidden-unit-1 hidden-the_row-TypeName-4 shape-the_row-BlockItem-1 shape-the_row-CType-0 shape-the_row-CType-1 shape-the_row-Declarator-0 shape-the_row-Declarator-6 shape-the_row-Enumerator-8 shape-the_row-Expr-0 shape-the_row-Expr-1 shape-the_row-Expr-2 shape-arguments shape-the_row-Init-0 shape-the_row-Initializer-0 shape-the_row-Member-7 shape-the_row-Param-5 shape-the_row-Place-1 shape-the_row-Spec-3 shape-the_row-Stmt-0 shape-unit-0 shape-unit-1 shape-the_row-TypeName-4 indirection element member access address unevaluated size size_of_expression size_of_type plain_assignment number_update pointer_update compound_assignment assignment step_update step spine fresh callee_in callee passed call worth is_null number_constant converted cast typedef_declared function_named variable_named init_declarator declaration file_declaration block_name block_declaration defined_name definition pointer_part array_part function_part made parameter type_name member_of_type_rules_declarators with_argument function_type body_read pointer_word initial_word initializer_words initial_values scalar text_fits by_name by_expression part finished by_list count initial_size initialized number_in character_in text_in text_initially as_value operand lvalue promoted in_sign pair_of stride arithmetic_on shift_on pointer_in_common equality_on logical_on operation sign_operation negation chosen_type chosen alternatives choice name number character holds_initially string_object text_found text parenthesised and_then name_number scoped expression value size_of typedef_name tagged_structure structure_name structure tagged_enumeration enumeration_name enumeration enumerator evaluated condition expression_statement block selection_of selection while_loop do_loop for_turns for_loop returned with_items list_behind block_items statement outermost_effects with_effects typed parts_of exceeded outcome likeness_of each_likeness signature_likeness_of conversion union conflict effects_of merged added shared points_to target_effects without_outer_effects same without_effects words_of opening_of automatics PlaceKeeps InitializerKeeps StmtKeeps row_type place_nodes initializer_nodes stmt_nodes places place_spots initializer_spots stmt_spots callee_of stores structure_in IsWithin AreVariables IsTypedPlace IsInitializer IsTypedStmt place_type packed
whole_33 = refl

-- int f(void) { «here» return; }
whole_34 : first_fault (codes "int f(void) { return; }") (record { externals = (external.Function (record { place = 0; specs = (spec.Type 0 type_word.Int ∷ []); declarator = (of_declarator.Function (of_declarator.Name (sp 4 5)) 5 (params.Void 6) []); body_place = 12; body = (item.Statement (stmt.Return 14 None) ∷ []) }) ∷ []) }) ≡ Some (3, 14)
unfolding hidden hidden-the_row-BlockItem-1 hidden-the_row-CType-0 hidden-the_row-CType-1 hidden-the_row-Declarator-0 hidden-the_row-Declarator-6 hidden-the_row-Enumerator-8 hidden-the_row-Expr-0 hidden-the_row-Expr-1 hidden-the_row-Expr-2 hidden-arguments hidden-the_row-Init-0 hidden-the_row-Initializer-0 hidden-the_row-Member-7 hidden-the_row-Param-5 hidden-the_row-Place-1 hidden-the_row-Spec-3 hidden-the_row-Stmt-0 hidden-unit-0 hidden-unit-1 hidden-the_row-TypeName-4 shape-the_row-BlockItem-1 shape-the_row-CType-0 shape-the_row-CType-1 shape-the_row-Declarator-0 shape-the_row-Declarator-6 shape-the_row-Enumerator-8 shape-the_row-Expr-0 shape-the_row-Expr-1 shape-the_row-Expr-2 shape-arguments shape-the_row-Init-0 shape-the_row-Initializer-0 shape-the_row-Member-7 shape-the_row-Param-5 shape-the_row-Place-1 shape-the_row-Spec-3 shape-the_row-Stmt-0 shape-unit-0 shape-unit-1 shape-the_row-TypeName-4 indirection element member access address unevaluated size size_of_expression size_of_type plain_assignment number_update pointer_update compound_assignment assignment step_update step spine fresh callee_in callee passed call worth is_null number_constant converted cast typedef_declared function_named variable_named init_declarator declaration file_declaration block_name block_declaration defined_name definition pointer_part array_part function_part made parameter type_name member_of_type_rules_declarators with_argument function_type body_read pointer_word initial_word initializer_words initial_values scalar text_fits by_name by_expression part finished by_list count initial_size initialized number_in character_in text_in text_initially as_value operand lvalue promoted in_sign pair_of stride arithmetic_on shift_on pointer_in_common equality_on logical_on operation sign_operation negation chosen_type chosen alternatives choice name number character holds_initially string_object text_found text parenthesised and_then name_number scoped expression value size_of typedef_name tagged_structure structure_name structure tagged_enumeration enumeration_name enumeration enumerator evaluated condition expression_statement block selection_of selection while_loop do_loop for_turns for_loop returned with_items list_behind block_items statement outermost_effects with_effects typed parts_of exceeded outcome likeness_of each_likeness signature_likeness_of conversion union conflict effects_of merged added shared points_to target_effects without_outer_effects same without_effects words_of opening_of automatics PlaceKeeps InitializerKeeps StmtKeeps row_type place_nodes initializer_nodes stmt_nodes places place_spots initializer_spots stmt_spots callee_of stores structure_in IsWithin AreVariables IsTypedPlace IsInitializer IsTypedStmt place_type packed
whole_34 = refl

-- int f(void) { return 1; } int g(void) { return «here» f(1); }
whole_35 : first_fault (codes "int f(void) { return 1; } int g(void) { return f(1); }") (record { externals = (external.Function (record { place = 0; specs = (spec.Type 0 type_word.Int ∷ []); declarator = (of_declarator.Function (of_declarator.Name (sp 4 5)) 5 (params.Void 6) []); body_place = 12; body = (item.Statement (stmt.Return 14 (Some (expr.Number (sp 21 22)))) ∷ []) }) ∷ external.Function (record { place = 26; specs = (spec.Type 26 type_word.Int ∷ []); declarator = (of_declarator.Function (of_declarator.Name (sp 30 31)) 31 (params.Void 32) []); body_place = 38; body = (item.Statement (stmt.Return 40 (Some (expr.Call 47 (expr.Name (sp 47 48)) ((expr.Number (sp 49 50)) ∷ [])))) ∷ []) }) ∷ []) }) ≡ Some (5, 47)
unfolding hidden hidden-the_row-BlockItem-1 hidden-the_row-CType-0 hidden-the_row-CType-1 hidden-the_row-Declarator-0 hidden-the_row-Declarator-6 hidden-the_row-Enumerator-8 hidden-the_row-Expr-0 hidden-the_row-Expr-1 hidden-the_row-Expr-2 hidden-arguments hidden-the_row-Init-0 hidden-the_row-Initializer-0 hidden-the_row-Member-7 hidden-the_row-Param-5 hidden-the_row-Place-1 hidden-the_row-Spec-3 hidden-the_row-Stmt-0 hidden-unit-0 hidden-unit-1 hidden-the_row-TypeName-4 shape-the_row-BlockItem-1 shape-the_row-CType-0 shape-the_row-CType-1 shape-the_row-Declarator-0 shape-the_row-Declarator-6 shape-the_row-Enumerator-8 shape-the_row-Expr-0 shape-the_row-Expr-1 shape-the_row-Expr-2 shape-arguments shape-the_row-Init-0 shape-the_row-Initializer-0 shape-the_row-Member-7 shape-the_row-Param-5 shape-the_row-Place-1 shape-the_row-Spec-3 shape-the_row-Stmt-0 shape-unit-0 shape-unit-1 shape-the_row-TypeName-4 indirection element member access address unevaluated size size_of_expression size_of_type plain_assignment number_update pointer_update compound_assignment assignment step_update step spine fresh callee_in callee passed call worth is_null number_constant converted cast typedef_declared function_named variable_named init_declarator declaration file_declaration block_name block_declaration defined_name definition pointer_part array_part function_part made parameter type_name member_of_type_rules_declarators with_argument function_type body_read pointer_word initial_word initializer_words initial_values scalar text_fits by_name by_expression part finished by_list count initial_size initialized number_in character_in text_in text_initially as_value operand lvalue promoted in_sign pair_of stride arithmetic_on shift_on pointer_in_common equality_on logical_on operation sign_operation negation chosen_type chosen alternatives choice name number character holds_initially string_object text_found text parenthesised and_then name_number scoped expression value size_of typedef_name tagged_structure structure_name structure tagged_enumeration enumeration_name enumeration enumerator evaluated condition expression_statement block selection_of selection while_loop do_loop for_turns for_loop returned with_items list_behind block_items statement outermost_effects with_effects typed parts_of exceeded outcome likeness_of each_likeness signature_likeness_of conversion union conflict effects_of merged added shared points_to target_effects without_outer_effects same without_effects words_of opening_of automatics PlaceKeeps InitializerKeeps StmtKeeps row_type place_nodes initializer_nodes stmt_nodes places place_spots initializer_spots stmt_spots callee_of stores structure_in IsWithin AreVariables IsTypedPlace IsInitializer IsTypedStmt place_type packed
whole_35 = refl

-- int g(void) { return «here» h(); }
whole_36 : first_fault (codes "int g(void) { return h(); }") (record { externals = (external.Function (record { place = 0; specs = (spec.Type 0 type_word.Int ∷ []); declarator = (of_declarator.Function (of_declarator.Name (sp 4 5)) 5 (params.Void 6) []); body_place = 12; body = (item.Statement (stmt.Return 14 (Some (expr.Call 21 (expr.Name (sp 21 22)) []))) ∷ []) }) ∷ []) }) ≡ Some (1, 21)
unfolding hidden hidden-the_row-BlockItem-1 hidden-the_row-CType-0 hidden-the_row-CType-1 hidden-the_row-Declarator-0 hidden-the_row-Declarator-6 hidden-the_row-Enumerator-8 hidden-the_row-Expr-0 hidden-the_row-Expr-1 hidden-the_row-Expr-2 hidden-arguments hidden-the_row-Init-0 hidden-the_row-Initializer-0 hidden-the_row-Member-7 hidden-the_row-Param-5 hidden-the_row-Place-1 hidden-the_row-Spec-3 hidden-the_row-Stmt-0 hidden-unit-0 hidden-unit-1 hidden-the_row-TypeName-4 shape-the_row-BlockItem-1 shape-the_row-CType-0 shape-the_row-CType-1 shape-the_row-Declarator-0 shape-the_row-Declarator-6 shape-the_row-Enumerator-8 shape-the_row-Expr-0 shape-the_row-Expr-1 shape-the_row-Expr-2 shape-arguments shape-the_row-Init-0 shape-the_row-Initializer-0 shape-the_row-Member-7 shape-the_row-Param-5 shape-the_row-Place-1 shape-the_row-Spec-3 shape-the_row-Stmt-0 shape-unit-0 shape-unit-1 shape-the_row-TypeName-4 indirection element member access address unevaluated size size_of_expression size_of_type plain_assignment number_update pointer_update compound_assignment assignment step_update step spine fresh callee_in callee passed call worth is_null number_constant converted cast typedef_declared function_named variable_named init_declarator declaration file_declaration block_name block_declaration defined_name definition pointer_part array_part function_part made parameter type_name member_of_type_rules_declarators with_argument function_type body_read pointer_word initial_word initializer_words initial_values scalar text_fits by_name by_expression part finished by_list count initial_size initialized number_in character_in text_in text_initially as_value operand lvalue promoted in_sign pair_of stride arithmetic_on shift_on pointer_in_common equality_on logical_on operation sign_operation negation chosen_type chosen alternatives choice name number character holds_initially string_object text_found text parenthesised and_then name_number scoped expression value size_of typedef_name tagged_structure structure_name structure tagged_enumeration enumeration_name enumeration enumerator evaluated condition expression_statement block selection_of selection while_loop do_loop for_turns for_loop returned with_items list_behind block_items statement outermost_effects with_effects typed parts_of exceeded outcome likeness_of each_likeness signature_likeness_of conversion union conflict effects_of merged added shared points_to target_effects without_outer_effects same without_effects words_of opening_of automatics PlaceKeeps InitializerKeeps StmtKeeps row_type place_nodes initializer_nodes stmt_nodes places place_spots initializer_spots stmt_spots callee_of stores structure_in IsWithin AreVariables IsTypedPlace IsInitializer IsTypedStmt place_type packed
whole_36 = refl

-- void f(void) { «here» 5 = 3; }
whole_37 : first_fault (codes "void f(void) { 5 = 3; }") (record { externals = (external.Function (record { place = 0; specs = (spec.Type 0 type_word.Void ∷ []); declarator = (of_declarator.Function (of_declarator.Name (sp 5 6)) 6 (params.Void 7) []); body_place = 13; body = (item.Statement (stmt.Expression 15 (Some (expr.Assignment 15 (expr.Number (sp 15 16)) assignment.Plain 17 (expr.Number (sp 19 20))))) ∷ []) }) ∷ []) }) ≡ Some (6, 15)
unfolding hidden hidden-the_row-BlockItem-1 hidden-the_row-CType-0 hidden-the_row-CType-1 hidden-the_row-Declarator-0 hidden-the_row-Declarator-6 hidden-the_row-Enumerator-8 hidden-the_row-Expr-0 hidden-the_row-Expr-1 hidden-the_row-Expr-2 hidden-arguments hidden-the_row-Init-0 hidden-the_row-Initializer-0 hidden-the_row-Member-7 hidden-the_row-Param-5 hidden-the_row-Place-1 hidden-the_row-Spec-3 hidden-the_row-Stmt-0 hidden-unit-0 hidden-unit-1 hidden-the_row-TypeName-4 shape-the_row-BlockItem-1 shape-the_row-CType-0 shape-the_row-CType-1 shape-the_row-Declarator-0 shape-the_row-Declarator-6 shape-the_row-Enumerator-8 shape-the_row-Expr-0 shape-the_row-Expr-1 shape-the_row-Expr-2 shape-arguments shape-the_row-Init-0 shape-the_row-Initializer-0 shape-the_row-Member-7 shape-the_row-Param-5 shape-the_row-Place-1 shape-the_row-Spec-3 shape-the_row-Stmt-0 shape-unit-0 shape-unit-1 shape-the_row-TypeName-4 indirection element member access address unevaluated size size_of_expression size_of_type plain_assignment number_update pointer_update compound_assignment assignment step_update step spine fresh callee_in callee passed call worth is_null number_constant converted cast typedef_declared function_named variable_named init_declarator declaration file_declaration block_name block_declaration defined_name definition pointer_part array_part function_part made parameter type_name member_of_type_rules_declarators with_argument function_type body_read pointer_word initial_word initializer_words initial_values scalar text_fits by_name by_expression part finished by_list count initial_size initialized number_in character_in text_in text_initially as_value operand lvalue promoted in_sign pair_of stride arithmetic_on shift_on pointer_in_common equality_on logical_on operation sign_operation negation chosen_type chosen alternatives choice name number character holds_initially string_object text_found text parenthesised and_then name_number scoped expression value size_of typedef_name tagged_structure structure_name structure tagged_enumeration enumeration_name enumeration enumerator evaluated condition expression_statement block selection_of selection while_loop do_loop for_turns for_loop returned with_items list_behind block_items statement outermost_effects with_effects typed parts_of exceeded outcome likeness_of each_likeness signature_likeness_of conversion union conflict effects_of merged added shared points_to target_effects without_outer_effects same without_effects words_of opening_of automatics PlaceKeeps InitializerKeeps StmtKeeps row_type place_nodes initializer_nodes stmt_nodes places place_spots initializer_spots stmt_spots callee_of stores structure_in IsWithin AreVariables IsTypedPlace IsInitializer IsTypedStmt place_type packed
whole_37 = refl

-- struct s { int a; } x; int f(void) { return x.«here» b; }
whole_38 : first_fault (codes "struct s { int a; } x; int f(void) { return x.b; }") (record { externals = (external.Declaration (record { place = 0; specs = (spec.Struct 0 (Some (sp 7 8)) ((record { place = 11; specs = (spec.Type 11 type_word.Int ∷ []); declarators = ((of_declarator.Name (sp 15 16)) ∷ []) }) ∷ []) ∷ []); declarators = ((record { declarator = (of_declarator.Name (sp 20 21)); init = None }) ∷ []) }) ∷ external.Function (record { place = 23; specs = (spec.Type 23 type_word.Int ∷ []); declarator = (of_declarator.Function (of_declarator.Name (sp 27 28)) 28 (params.Void 29) []); body_place = 35; body = (item.Statement (stmt.Return 37 (Some (expr.Access 44 (expr.Name (sp 44 45)) access.Dot (sp 46 47)))) ∷ []) }) ∷ []) }) ≡ Some (8, 46)
unfolding hidden hidden-the_row-BlockItem-1 hidden-the_row-CType-0 hidden-the_row-CType-1 hidden-the_row-Declarator-0 hidden-the_row-Declarator-6 hidden-the_row-Enumerator-8 hidden-the_row-Expr-0 hidden-the_row-Expr-1 hidden-the_row-Expr-2 hidden-arguments hidden-the_row-Init-0 hidden-the_row-Initializer-0 hidden-the_row-Member-7 hidden-the_row-Param-5 hidden-the_row-Place-1 hidden-the_row-Spec-3 hidden-the_row-Stmt-0 hidden-unit-0 hidden-unit-1 hidden-the_row-TypeName-4 shape-the_row-BlockItem-1 shape-the_row-CType-0 shape-the_row-CType-1 shape-the_row-Declarator-0 shape-the_row-Declarator-6 shape-the_row-Enumerator-8 shape-the_row-Expr-0 shape-the_row-Expr-1 shape-the_row-Expr-2 shape-arguments shape-the_row-Init-0 shape-the_row-Initializer-0 shape-the_row-Member-7 shape-the_row-Param-5 shape-the_row-Place-1 shape-the_row-Spec-3 shape-the_row-Stmt-0 shape-unit-0 shape-unit-1 shape-the_row-TypeName-4 indirection element member access address unevaluated size size_of_expression size_of_type plain_assignment number_update pointer_update compound_assignment assignment step_update step spine fresh callee_in callee passed call worth is_null number_constant converted cast typedef_declared function_named variable_named init_declarator declaration file_declaration block_name block_declaration defined_name definition pointer_part array_part function_part made parameter type_name member_of_type_rules_declarators with_argument function_type body_read pointer_word initial_word initializer_words initial_values scalar text_fits by_name by_expression part finished by_list count initial_size initialized number_in character_in text_in text_initially as_value operand lvalue promoted in_sign pair_of stride arithmetic_on shift_on pointer_in_common equality_on logical_on operation sign_operation negation chosen_type chosen alternatives choice name number character holds_initially string_object text_found text parenthesised and_then name_number scoped expression value size_of typedef_name tagged_structure structure_name structure tagged_enumeration enumeration_name enumeration enumerator evaluated condition expression_statement block selection_of selection while_loop do_loop for_turns for_loop returned with_items list_behind block_items statement outermost_effects with_effects typed parts_of exceeded outcome likeness_of each_likeness signature_likeness_of conversion union conflict effects_of merged added shared points_to target_effects without_outer_effects same without_effects words_of opening_of automatics PlaceKeeps InitializerKeeps StmtKeeps row_type place_nodes initializer_nodes stmt_nodes places place_spots initializer_spots stmt_spots callee_of stores structure_in IsWithin AreVariables IsTypedPlace IsInitializer IsTypedStmt place_type packed
whole_38 = refl

-- int f(void) { return sizeof(«here» int[]); }
whole_39 : first_fault (codes "int f(void) { return sizeof(int[]); }") (record { externals = (external.Function (record { place = 0; specs = (spec.Type 0 type_word.Int ∷ []); declarator = (of_declarator.Function (of_declarator.Name (sp 4 5)) 5 (params.Void 6) []); body_place = 12; body = (item.Statement (stmt.Return 14 (Some (expr.SizeofType 21 (record { place = 28; specs = (spec.Type 28 type_word.Int ∷ []); declarator = (of_declarator.Array of_declarator.Absent 31 None) })))) ∷ []) }) ∷ []) }) ≡ Some (10, 28)
unfolding hidden hidden-the_row-BlockItem-1 hidden-the_row-CType-0 hidden-the_row-CType-1 hidden-the_row-Declarator-0 hidden-the_row-Declarator-6 hidden-the_row-Enumerator-8 hidden-the_row-Expr-0 hidden-the_row-Expr-1 hidden-the_row-Expr-2 hidden-arguments hidden-the_row-Init-0 hidden-the_row-Initializer-0 hidden-the_row-Member-7 hidden-the_row-Param-5 hidden-the_row-Place-1 hidden-the_row-Spec-3 hidden-the_row-Stmt-0 hidden-unit-0 hidden-unit-1 hidden-the_row-TypeName-4 shape-the_row-BlockItem-1 shape-the_row-CType-0 shape-the_row-CType-1 shape-the_row-Declarator-0 shape-the_row-Declarator-6 shape-the_row-Enumerator-8 shape-the_row-Expr-0 shape-the_row-Expr-1 shape-the_row-Expr-2 shape-arguments shape-the_row-Init-0 shape-the_row-Initializer-0 shape-the_row-Member-7 shape-the_row-Param-5 shape-the_row-Place-1 shape-the_row-Spec-3 shape-the_row-Stmt-0 shape-unit-0 shape-unit-1 shape-the_row-TypeName-4 indirection element member access address unevaluated size size_of_expression size_of_type plain_assignment number_update pointer_update compound_assignment assignment step_update step spine fresh callee_in callee passed call worth is_null number_constant converted cast typedef_declared function_named variable_named init_declarator declaration file_declaration block_name block_declaration defined_name definition pointer_part array_part function_part made parameter type_name member_of_type_rules_declarators with_argument function_type body_read pointer_word initial_word initializer_words initial_values scalar text_fits by_name by_expression part finished by_list count initial_size initialized number_in character_in text_in text_initially as_value operand lvalue promoted in_sign pair_of stride arithmetic_on shift_on pointer_in_common equality_on logical_on operation sign_operation negation chosen_type chosen alternatives choice name number character holds_initially string_object text_found text parenthesised and_then name_number scoped expression value size_of typedef_name tagged_structure structure_name structure tagged_enumeration enumeration_name enumeration enumerator evaluated condition expression_statement block selection_of selection while_loop do_loop for_turns for_loop returned with_items list_behind block_items statement outermost_effects with_effects typed parts_of exceeded outcome likeness_of each_likeness signature_likeness_of conversion union conflict effects_of merged added shared points_to target_effects without_outer_effects same without_effects words_of opening_of automatics PlaceKeeps InitializerKeeps StmtKeeps row_type place_nodes initializer_nodes stmt_nodes places place_spots initializer_spots stmt_spots callee_of stores structure_in IsWithin AreVariables IsTypedPlace IsInitializer IsTypedStmt place_type packed
whole_39 = refl

-- void f(void) { («here» void (*)(void) [[clang::blocking, clang::nonblocking]]) 0; }
whole_40 : first_fault (codes "void f(void) { (void (*)(void) [[clang::blocking, clang::nonblocking]]) 0; }") (record { externals = (external.Function (record { place = 0; specs = (spec.Type 0 type_word.Void ∷ []); declarator = (of_declarator.Function (of_declarator.Name (sp 5 6)) 6 (params.Void 7) []); body_place = 13; body = (item.Statement (stmt.Expression 15 (Some (expr.Cast 15 (record { place = 16; specs = (spec.Type 16 type_word.Void ∷ []); declarator = (of_declarator.Function (of_declarator.Parenthesised 21 (of_declarator.Pointer 22 [] of_declarator.Absent)) 24 (params.Void 25) ((record { place = 31; spelling = spelling.Brackets; words = ((record { place = 40; effect = effect.Blocking }) ∷ (record { place = 57; effect = (effect.NonBlocking None) }) ∷ []) }) ∷ [])) }) (expr.Number (sp 72 73))))) ∷ []) }) ∷ []) }) ≡ Some (4, 16)
unfolding hidden hidden-the_row-BlockItem-1 hidden-the_row-CType-0 hidden-the_row-CType-1 hidden-the_row-Declarator-0 hidden-the_row-Declarator-6 hidden-the_row-Enumerator-8 hidden-the_row-Expr-0 hidden-the_row-Expr-1 hidden-the_row-Expr-2 hidden-arguments hidden-the_row-Init-0 hidden-the_row-Initializer-0 hidden-the_row-Member-7 hidden-the_row-Param-5 hidden-the_row-Place-1 hidden-the_row-Spec-3 hidden-the_row-Stmt-0 hidden-unit-0 hidden-unit-1 hidden-the_row-TypeName-4 shape-the_row-BlockItem-1 shape-the_row-CType-0 shape-the_row-CType-1 shape-the_row-Declarator-0 shape-the_row-Declarator-6 shape-the_row-Enumerator-8 shape-the_row-Expr-0 shape-the_row-Expr-1 shape-the_row-Expr-2 shape-arguments shape-the_row-Init-0 shape-the_row-Initializer-0 shape-the_row-Member-7 shape-the_row-Param-5 shape-the_row-Place-1 shape-the_row-Spec-3 shape-the_row-Stmt-0 shape-unit-0 shape-unit-1 shape-the_row-TypeName-4 indirection element member access address unevaluated size size_of_expression size_of_type plain_assignment number_update pointer_update compound_assignment assignment step_update step spine fresh callee_in callee passed call worth is_null number_constant converted cast typedef_declared function_named variable_named init_declarator declaration file_declaration block_name block_declaration defined_name definition pointer_part array_part function_part made parameter type_name member_of_type_rules_declarators with_argument function_type body_read pointer_word initial_word initializer_words initial_values scalar text_fits by_name by_expression part finished by_list count initial_size initialized number_in character_in text_in text_initially as_value operand lvalue promoted in_sign pair_of stride arithmetic_on shift_on pointer_in_common equality_on logical_on operation sign_operation negation chosen_type chosen alternatives choice name number character holds_initially string_object text_found text parenthesised and_then name_number scoped expression value size_of typedef_name tagged_structure structure_name structure tagged_enumeration enumeration_name enumeration enumerator evaluated condition expression_statement block selection_of selection while_loop do_loop for_turns for_loop returned with_items list_behind block_items statement outermost_effects with_effects typed parts_of exceeded outcome likeness_of each_likeness signature_likeness_of conversion union conflict effects_of merged added shared points_to target_effects without_outer_effects same without_effects words_of opening_of automatics PlaceKeeps InitializerKeeps StmtKeeps row_type place_nodes initializer_nodes stmt_nodes places place_spots initializer_spots stmt_spots callee_of stores structure_in IsWithin AreVariables IsTypedPlace IsInitializer IsTypedStmt place_type packed
whole_40 = refl

-- void f(void) { int x = «here» (int (void)) 0; }
whole_41 : first_fault (codes "void f(void) { int x = (int (void)) 0; }") (record { externals = (external.Function (record { place = 0; specs = (spec.Type 0 type_word.Void ∷ []); declarator = (of_declarator.Function (of_declarator.Name (sp 5 6)) 6 (params.Void 7) []); body_place = 13; body = (item.Declaration (record { place = 15; specs = (spec.Type 15 type_word.Int ∷ []); declarators = ((record { declarator = (of_declarator.Name (sp 19 20)); init = (Some (init.Value (expr.Cast 23 (record { place = 24; specs = (spec.Type 24 type_word.Int ∷ []); declarator = (of_declarator.Function of_declarator.Absent 28 (params.Void 29) []) }) (expr.Number (sp 36 37))))) }) ∷ []) }) ∷ []) }) ∷ []) }) ≡ Some (3, 23)
unfolding hidden hidden-the_row-BlockItem-1 hidden-the_row-CType-0 hidden-the_row-CType-1 hidden-the_row-Declarator-0 hidden-the_row-Declarator-6 hidden-the_row-Enumerator-8 hidden-the_row-Expr-0 hidden-the_row-Expr-1 hidden-the_row-Expr-2 hidden-arguments hidden-the_row-Init-0 hidden-the_row-Initializer-0 hidden-the_row-Member-7 hidden-the_row-Param-5 hidden-the_row-Place-1 hidden-the_row-Spec-3 hidden-the_row-Stmt-0 hidden-unit-0 hidden-unit-1 hidden-the_row-TypeName-4 shape-the_row-BlockItem-1 shape-the_row-CType-0 shape-the_row-CType-1 shape-the_row-Declarator-0 shape-the_row-Declarator-6 shape-the_row-Enumerator-8 shape-the_row-Expr-0 shape-the_row-Expr-1 shape-the_row-Expr-2 shape-arguments shape-the_row-Init-0 shape-the_row-Initializer-0 shape-the_row-Member-7 shape-the_row-Param-5 shape-the_row-Place-1 shape-the_row-Spec-3 shape-the_row-Stmt-0 shape-unit-0 shape-unit-1 shape-the_row-TypeName-4 indirection element member access address unevaluated size size_of_expression size_of_type plain_assignment number_update pointer_update compound_assignment assignment step_update step spine fresh callee_in callee passed call worth is_null number_constant converted cast typedef_declared function_named variable_named init_declarator declaration file_declaration block_name block_declaration defined_name definition pointer_part array_part function_part made parameter type_name member_of_type_rules_declarators with_argument function_type body_read pointer_word initial_word initializer_words initial_values scalar text_fits by_name by_expression part finished by_list count initial_size initialized number_in character_in text_in text_initially as_value operand lvalue promoted in_sign pair_of stride arithmetic_on shift_on pointer_in_common equality_on logical_on operation sign_operation negation chosen_type chosen alternatives choice name number character holds_initially string_object text_found text parenthesised and_then name_number scoped expression value size_of typedef_name tagged_structure structure_name structure tagged_enumeration enumeration_name enumeration enumerator evaluated condition expression_statement block selection_of selection while_loop do_loop for_turns for_loop returned with_items list_behind block_items statement outermost_effects with_effects typed parts_of exceeded outcome likeness_of each_likeness signature_likeness_of conversion union conflict effects_of merged added shared points_to target_effects without_outer_effects same without_effects words_of opening_of automatics PlaceKeeps InitializerKeeps StmtKeeps row_type place_nodes initializer_nodes stmt_nodes places place_spots initializer_spots stmt_spots callee_of stores structure_in IsWithin AreVariables IsTypedPlace IsInitializer IsTypedStmt place_type packed
whole_41 = refl

-- void f(void) { static int x = «here» f; }
whole_42 : first_fault (codes "void f(void) { static int x = f; }") (record { externals = (external.Function (record { place = 0; specs = (spec.Type 0 type_word.Void ∷ []); declarator = (of_declarator.Function (of_declarator.Name (sp 5 6)) 6 (params.Void 7) []); body_place = 13; body = (item.Declaration (record { place = 15; specs = (spec.Storage 15 storage.Static ∷ spec.Type 22 type_word.Int ∷ []); declarators = ((record { declarator = (of_declarator.Name (sp 26 27)); init = (Some (init.Value (expr.Name (sp 30 31)))) }) ∷ []) }) ∷ []) }) ∷ []) }) ≡ Some (11, 30)
unfolding hidden hidden-the_row-BlockItem-1 hidden-the_row-CType-0 hidden-the_row-CType-1 hidden-the_row-Declarator-0 hidden-the_row-Declarator-6 hidden-the_row-Enumerator-8 hidden-the_row-Expr-0 hidden-the_row-Expr-1 hidden-the_row-Expr-2 hidden-arguments hidden-the_row-Init-0 hidden-the_row-Initializer-0 hidden-the_row-Member-7 hidden-the_row-Param-5 hidden-the_row-Place-1 hidden-the_row-Spec-3 hidden-the_row-Stmt-0 hidden-unit-0 hidden-unit-1 hidden-the_row-TypeName-4 shape-the_row-BlockItem-1 shape-the_row-CType-0 shape-the_row-CType-1 shape-the_row-Declarator-0 shape-the_row-Declarator-6 shape-the_row-Enumerator-8 shape-the_row-Expr-0 shape-the_row-Expr-1 shape-the_row-Expr-2 shape-arguments shape-the_row-Init-0 shape-the_row-Initializer-0 shape-the_row-Member-7 shape-the_row-Param-5 shape-the_row-Place-1 shape-the_row-Spec-3 shape-the_row-Stmt-0 shape-unit-0 shape-unit-1 shape-the_row-TypeName-4 indirection element member access address unevaluated size size_of_expression size_of_type plain_assignment number_update pointer_update compound_assignment assignment step_update step spine fresh callee_in callee passed call worth is_null number_constant converted cast typedef_declared function_named variable_named init_declarator declaration file_declaration block_name block_declaration defined_name definition pointer_part array_part function_part made parameter type_name member_of_type_rules_declarators with_argument function_type body_read pointer_word initial_word initializer_words initial_values scalar text_fits by_name by_expression part finished by_list count initial_size initialized number_in character_in text_in text_initially as_value operand lvalue promoted in_sign pair_of stride arithmetic_on shift_on pointer_in_common equality_on logical_on operation sign_operation negation chosen_type chosen alternatives choice name number character holds_initially string_object text_found text parenthesised and_then name_number scoped expression value size_of typedef_name tagged_structure structure_name structure tagged_enumeration enumeration_name enumeration enumerator evaluated condition expression_statement block selection_of selection while_loop do_loop for_turns for_loop returned with_items list_behind block_items statement outermost_effects with_effects typed parts_of exceeded outcome likeness_of each_likeness signature_likeness_of conversion union conflict effects_of merged added shared points_to target_effects without_outer_effects same without_effects words_of opening_of automatics PlaceKeeps InitializerKeeps StmtKeeps row_type place_nodes initializer_nodes stmt_nodes places place_spots initializer_spots stmt_spots callee_of stores structure_in IsWithin AreVariables IsTypedPlace IsInitializer IsTypedStmt place_type packed
whole_42 = refl

-- void f(void) { int y = 1; static int x = «here» y; }
whole_43 : first_fault (codes "void f(void) { int y = 1; static int x = y; }") (record { externals = (external.Function (record { place = 0; specs = (spec.Type 0 type_word.Void ∷ []); declarator = (of_declarator.Function (of_declarator.Name (sp 5 6)) 6 (params.Void 7) []); body_place = 13; body = (item.Declaration (record { place = 15; specs = (spec.Type 15 type_word.Int ∷ []); declarators = ((record { declarator = (of_declarator.Name (sp 19 20)); init = (Some (init.Value (expr.Number (sp 23 24)))) }) ∷ []) }) ∷ item.Declaration (record { place = 26; specs = (spec.Storage 26 storage.Static ∷ spec.Type 33 type_word.Int ∷ []); declarators = ((record { declarator = (of_declarator.Name (sp 37 38)); init = (Some (init.Value (expr.Name (sp 41 42)))) }) ∷ []) }) ∷ []) }) ∷ []) }) ≡ Some (7, 41)
unfolding hidden hidden-the_row-BlockItem-1 hidden-the_row-CType-0 hidden-the_row-CType-1 hidden-the_row-Declarator-0 hidden-the_row-Declarator-6 hidden-the_row-Enumerator-8 hidden-the_row-Expr-0 hidden-the_row-Expr-1 hidden-the_row-Expr-2 hidden-arguments hidden-the_row-Init-0 hidden-the_row-Initializer-0 hidden-the_row-Member-7 hidden-the_row-Param-5 hidden-the_row-Place-1 hidden-the_row-Spec-3 hidden-the_row-Stmt-0 hidden-unit-0 hidden-unit-1 hidden-the_row-TypeName-4 shape-the_row-BlockItem-1 shape-the_row-CType-0 shape-the_row-CType-1 shape-the_row-Declarator-0 shape-the_row-Declarator-6 shape-the_row-Enumerator-8 shape-the_row-Expr-0 shape-the_row-Expr-1 shape-the_row-Expr-2 shape-arguments shape-the_row-Init-0 shape-the_row-Initializer-0 shape-the_row-Member-7 shape-the_row-Param-5 shape-the_row-Place-1 shape-the_row-Spec-3 shape-the_row-Stmt-0 shape-unit-0 shape-unit-1 shape-the_row-TypeName-4 indirection element member access address unevaluated size size_of_expression size_of_type plain_assignment number_update pointer_update compound_assignment assignment step_update step spine fresh callee_in callee passed call worth is_null number_constant converted cast typedef_declared function_named variable_named init_declarator declaration file_declaration block_name block_declaration defined_name definition pointer_part array_part function_part made parameter type_name member_of_type_rules_declarators with_argument function_type body_read pointer_word initial_word initializer_words initial_values scalar text_fits by_name by_expression part finished by_list count initial_size initialized number_in character_in text_in text_initially as_value operand lvalue promoted in_sign pair_of stride arithmetic_on shift_on pointer_in_common equality_on logical_on operation sign_operation negation chosen_type chosen alternatives choice name number character holds_initially string_object text_found text parenthesised and_then name_number scoped expression value size_of typedef_name tagged_structure structure_name structure tagged_enumeration enumeration_name enumeration enumerator evaluated condition expression_statement block selection_of selection while_loop do_loop for_turns for_loop returned with_items list_behind block_items statement outermost_effects with_effects typed parts_of exceeded outcome likeness_of each_likeness signature_likeness_of conversion union conflict effects_of merged added shared points_to target_effects without_outer_effects same without_effects words_of opening_of automatics PlaceKeeps InitializerKeeps StmtKeeps row_type place_nodes initializer_nodes stmt_nodes places place_spots initializer_spots stmt_spots callee_of stores structure_in IsWithin AreVariables IsTypedPlace IsInitializer IsTypedStmt place_type packed
whole_43 = refl

-- int f(int x) { return x; } int (*p)(int) = f; int main(void) { return p(3) + f(4); }
whole_44 : first_fault (codes "int f(int x) { return x; } int (*p)(int) = f; int main(void) { return p(3) + f(4); }") (record { externals = (external.Function (record { place = 0; specs = (spec.Type 0 type_word.Int ∷ []); declarator = (of_declarator.Function (of_declarator.Name (sp 4 5)) 5 (params.List ((record { place = 6; specs = (spec.Type 6 type_word.Int ∷ []); declarator = (of_declarator.Name (sp 10 11)) }) ∷ [])) []); body_place = 13; body = (item.Statement (stmt.Return 15 (Some (expr.Name (sp 22 23)))) ∷ []) }) ∷ external.Declaration (record { place = 27; specs = (spec.Type 27 type_word.Int ∷ []); declarators = ((record { declarator = (of_declarator.Function (of_declarator.Parenthesised 31 (of_declarator.Pointer 32 [] (of_declarator.Name (sp 33 34)))) 35 (params.List ((record { place = 36; specs = (spec.Type 36 type_word.Int ∷ []); declarator = of_declarator.Absent }) ∷ [])) []); init = (Some (init.Value (expr.Name (sp 43 44)))) }) ∷ []) }) ∷ external.Function (record { place = 46; specs = (spec.Type 46 type_word.Int ∷ []); declarator = (of_declarator.Function (of_declarator.Name (sp 50 54)) 54 (params.Void 55) []); body_place = 61; body = (item.Statement (stmt.Return 63 (Some (expr.Binary 70 (expr.Call 70 (expr.Name (sp 70 71)) ((expr.Number (sp 72 73)) ∷ [])) binary.Add 75 (expr.Call 77 (expr.Name (sp 77 78)) ((expr.Number (sp 79 80)) ∷ []))))) ∷ []) }) ∷ []) }) ≡ None
unfolding hidden hidden-the_row-BlockItem-1 hidden-the_row-CType-0 hidden-the_row-CType-1 hidden-the_row-Declarator-0 hidden-the_row-Declarator-6 hidden-the_row-Enumerator-8 hidden-the_row-Expr-0 hidden-the_row-Expr-1 hidden-the_row-Expr-2 hidden-arguments hidden-the_row-Init-0 hidden-the_row-Initializer-0 hidden-the_row-Member-7 hidden-the_row-Param-5 hidden-the_row-Place-1 hidden-the_row-Spec-3 hidden-the_row-Stmt-0 hidden-unit-0 hidden-unit-1 hidden-the_row-TypeName-4 shape-the_row-BlockItem-1 shape-the_row-CType-0 shape-the_row-CType-1 shape-the_row-Declarator-0 shape-the_row-Declarator-6 shape-the_row-Enumerator-8 shape-the_row-Expr-0 shape-the_row-Expr-1 shape-the_row-Expr-2 shape-arguments shape-the_row-Init-0 shape-the_row-Initializer-0 shape-the_row-Member-7 shape-the_row-Param-5 shape-the_row-Place-1 shape-the_row-Spec-3 shape-the_row-Stmt-0 shape-unit-0 shape-unit-1 shape-the_row-TypeName-4 indirection element member access address unevaluated size size_of_expression size_of_type plain_assignment number_update pointer_update compound_assignment assignment step_update step spine fresh callee_in callee passed call worth is_null number_constant converted cast typedef_declared function_named variable_named init_declarator declaration file_declaration block_name block_declaration defined_name definition pointer_part array_part function_part made parameter type_name member_of_type_rules_declarators with_argument function_type body_read pointer_word initial_word initializer_words initial_values scalar text_fits by_name by_expression part finished by_list count initial_size initialized number_in character_in text_in text_initially as_value operand lvalue promoted in_sign pair_of stride arithmetic_on shift_on pointer_in_common equality_on logical_on operation sign_operation negation chosen_type chosen alternatives choice name number character holds_initially string_object text_found text parenthesised and_then name_number scoped expression value size_of typedef_name tagged_structure structure_name structure tagged_enumeration enumeration_name enumeration enumerator evaluated condition expression_statement block selection_of selection while_loop do_loop for_turns for_loop returned with_items list_behind block_items statement outermost_effects with_effects typed parts_of exceeded outcome likeness_of each_likeness signature_likeness_of conversion union conflict effects_of merged added shared points_to target_effects without_outer_effects same without_effects words_of opening_of automatics PlaceKeeps InitializerKeeps StmtKeeps row_type place_nodes initializer_nodes stmt_nodes places place_spots initializer_spots stmt_spots callee_of stores structure_in IsWithin AreVariables IsTypedPlace IsInitializer IsTypedStmt place_type packed
whole_44 = refl

-- int f(int x) { return x; } int f(int x) [[clang::nonblocking]];
whole_45 : first_fault (codes "int f(int x) { return x; } int f(int x) [[clang::nonblocking]];") (record { externals = (external.Function (record { place = 0; specs = (spec.Type 0 type_word.Int ∷ []); declarator = (of_declarator.Function (of_declarator.Name (sp 4 5)) 5 (params.List ((record { place = 6; specs = (spec.Type 6 type_word.Int ∷ []); declarator = (of_declarator.Name (sp 10 11)) }) ∷ [])) []); body_place = 13; body = (item.Statement (stmt.Return 15 (Some (expr.Name (sp 22 23)))) ∷ []) }) ∷ external.Declaration (record { place = 27; specs = (spec.Type 27 type_word.Int ∷ []); declarators = ((record { declarator = (of_declarator.Function (of_declarator.Name (sp 31 32)) 32 (params.List ((record { place = 33; specs = (spec.Type 33 type_word.Int ∷ []); declarator = (of_declarator.Name (sp 37 38)) }) ∷ [])) ((record { place = 40; spelling = spelling.Brackets; words = ((record { place = 49; effect = (effect.NonBlocking None) }) ∷ []) }) ∷ [])); init = None }) ∷ []) }) ∷ []) }) ≡ None
unfolding hidden hidden-the_row-BlockItem-1 hidden-the_row-CType-0 hidden-the_row-CType-1 hidden-the_row-Declarator-0 hidden-the_row-Declarator-6 hidden-the_row-Enumerator-8 hidden-the_row-Expr-0 hidden-the_row-Expr-1 hidden-the_row-Expr-2 hidden-arguments hidden-the_row-Init-0 hidden-the_row-Initializer-0 hidden-the_row-Member-7 hidden-the_row-Param-5 hidden-the_row-Place-1 hidden-the_row-Spec-3 hidden-the_row-Stmt-0 hidden-unit-0 hidden-unit-1 hidden-the_row-TypeName-4 shape-the_row-BlockItem-1 shape-the_row-CType-0 shape-the_row-CType-1 shape-the_row-Declarator-0 shape-the_row-Declarator-6 shape-the_row-Enumerator-8 shape-the_row-Expr-0 shape-the_row-Expr-1 shape-the_row-Expr-2 shape-arguments shape-the_row-Init-0 shape-the_row-Initializer-0 shape-the_row-Member-7 shape-the_row-Param-5 shape-the_row-Place-1 shape-the_row-Spec-3 shape-the_row-Stmt-0 shape-unit-0 shape-unit-1 shape-the_row-TypeName-4 indirection element member access address unevaluated size size_of_expression size_of_type plain_assignment number_update pointer_update compound_assignment assignment step_update step spine fresh callee_in callee passed call worth is_null number_constant converted cast typedef_declared function_named variable_named init_declarator declaration file_declaration block_name block_declaration defined_name definition pointer_part array_part function_part made parameter type_name member_of_type_rules_declarators with_argument function_type body_read pointer_word initial_word initializer_words initial_values scalar text_fits by_name by_expression part finished by_list count initial_size initialized number_in character_in text_in text_initially as_value operand lvalue promoted in_sign pair_of stride arithmetic_on shift_on pointer_in_common equality_on logical_on operation sign_operation negation chosen_type chosen alternatives choice name number character holds_initially string_object text_found text parenthesised and_then name_number scoped expression value size_of typedef_name tagged_structure structure_name structure tagged_enumeration enumeration_name enumeration enumerator evaluated condition expression_statement block selection_of selection while_loop do_loop for_turns for_loop returned with_items list_behind block_items statement outermost_effects with_effects typed parts_of exceeded outcome likeness_of each_likeness signature_likeness_of conversion union conflict effects_of merged added shared points_to target_effects without_outer_effects same without_effects words_of opening_of automatics PlaceKeeps InitializerKeeps StmtKeeps row_type place_nodes initializer_nodes stmt_nodes places place_spots initializer_spots stmt_spots callee_of stores structure_in IsWithin AreVariables IsTypedPlace IsInitializer IsTypedStmt place_type packed
whole_45 = refl

-- struct s { int a; struct s *next; }; int f(struct s *p) { while (p) { if (p->a) return p->next->a; p = p->next; } return 0; }
whole_46 : first_fault (codes "struct s { int a; struct s *next; }; int f(struct s *p) { while (p) { if (p->a) return p->next->a; p = p->next; } return 0; }") (record { externals = (external.Declaration (record { place = 0; specs = (spec.Struct 0 (Some (sp 7 8)) ((record { place = 11; specs = (spec.Type 11 type_word.Int ∷ []); declarators = ((of_declarator.Name (sp 15 16)) ∷ []) }) ∷ (record { place = 18; specs = (spec.StructName 18 (sp 25 26) ∷ []); declarators = ((of_declarator.Pointer 27 [] (of_declarator.Name (sp 28 32))) ∷ []) }) ∷ []) ∷ []); declarators = [] }) ∷ external.Function (record { place = 37; specs = (spec.Type 37 type_word.Int ∷ []); declarator = (of_declarator.Function (of_declarator.Name (sp 41 42)) 42 (params.List ((record { place = 43; specs = (spec.StructName 43 (sp 50 51) ∷ []); declarator = (of_declarator.Pointer 52 [] (of_declarator.Name (sp 53 54))) }) ∷ [])) []); body_place = 56; body = (item.Statement (stmt.While 58 (expr.Name (sp 65 66)) (stmt.Block 68 (item.Statement (stmt.If 70 (expr.Access 74 (expr.Name (sp 74 75)) access.Arrow (sp 77 78)) (stmt.Return 80 (Some (expr.Access 87 (expr.Access 87 (expr.Name (sp 87 88)) access.Arrow (sp 90 94)) access.Arrow (sp 96 97)))) None) ∷ item.Statement (stmt.Expression 99 (Some (expr.Assignment 99 (expr.Name (sp 99 100)) assignment.Plain 101 (expr.Access 103 (expr.Name (sp 103 104)) access.Arrow (sp 106 110))))) ∷ []))) ∷ item.Statement (stmt.Return 114 (Some (expr.Number (sp 121 122)))) ∷ []) }) ∷ []) }) ≡ None
unfolding hidden hidden-the_row-BlockItem-1 hidden-the_row-CType-0 hidden-the_row-CType-1 hidden-the_row-Declarator-0 hidden-the_row-Declarator-6 hidden-the_row-Enumerator-8 hidden-the_row-Expr-0 hidden-the_row-Expr-1 hidden-the_row-Expr-2 hidden-arguments hidden-the_row-Init-0 hidden-the_row-Initializer-0 hidden-the_row-Member-7 hidden-the_row-Param-5 hidden-the_row-Place-1 hidden-the_row-Spec-3 hidden-the_row-Stmt-0 hidden-unit-0 hidden-unit-1 hidden-the_row-TypeName-4 shape-the_row-BlockItem-1 shape-the_row-CType-0 shape-the_row-CType-1 shape-the_row-Declarator-0 shape-the_row-Declarator-6 shape-the_row-Enumerator-8 shape-the_row-Expr-0 shape-the_row-Expr-1 shape-the_row-Expr-2 shape-arguments shape-the_row-Init-0 shape-the_row-Initializer-0 shape-the_row-Member-7 shape-the_row-Param-5 shape-the_row-Place-1 shape-the_row-Spec-3 shape-the_row-Stmt-0 shape-unit-0 shape-unit-1 shape-the_row-TypeName-4 indirection element member access address unevaluated size size_of_expression size_of_type plain_assignment number_update pointer_update compound_assignment assignment step_update step spine fresh callee_in callee passed call worth is_null number_constant converted cast typedef_declared function_named variable_named init_declarator declaration file_declaration block_name block_declaration defined_name definition pointer_part array_part function_part made parameter type_name member_of_type_rules_declarators with_argument function_type body_read pointer_word initial_word initializer_words initial_values scalar text_fits by_name by_expression part finished by_list count initial_size initialized number_in character_in text_in text_initially as_value operand lvalue promoted in_sign pair_of stride arithmetic_on shift_on pointer_in_common equality_on logical_on operation sign_operation negation chosen_type chosen alternatives choice name number character holds_initially string_object text_found text parenthesised and_then name_number scoped expression value size_of typedef_name tagged_structure structure_name structure tagged_enumeration enumeration_name enumeration enumerator evaluated condition expression_statement block selection_of selection while_loop do_loop for_turns for_loop returned with_items list_behind block_items statement outermost_effects with_effects typed parts_of exceeded outcome likeness_of each_likeness signature_likeness_of conversion union conflict effects_of merged added shared points_to target_effects without_outer_effects same without_effects words_of opening_of automatics PlaceKeeps InitializerKeeps StmtKeeps row_type place_nodes initializer_nodes stmt_nodes places place_spots initializer_spots stmt_spots callee_of stores structure_in IsWithin AreVariables IsTypedPlace IsInitializer IsTypedStmt place_type packed
whole_46 = refl

-- pthread_mutex_t m = PTHREAD_MUTEX_INITIALIZER; int f(void) { return pthread_mutex_lock(&m); }
whole_47 : first_fault (codes "pthread_mutex_t m = PTHREAD_MUTEX_INITIALIZER; int f(void) { return pthread_mutex_lock(&m); }") (record { externals = (external.Declaration (record { place = 0; specs = (spec.TypedefName (sp 0 15) ∷ []); declarators = ((record { declarator = (of_declarator.Name (sp 16 17)); init = (Some (init.Value (expr.Name (sp 20 45)))) }) ∷ []) }) ∷ external.Function (record { place = 47; specs = (spec.Type 47 type_word.Int ∷ []); declarator = (of_declarator.Function (of_declarator.Name (sp 51 52)) 52 (params.Void 53) []); body_place = 59; body = (item.Statement (stmt.Return 61 (Some (expr.Call 68 (expr.Name (sp 68 86)) ((expr.Unary 87 unary.Address (expr.Name (sp 88 89))) ∷ [])))) ∷ []) }) ∷ []) }) ≡ None
unfolding hidden hidden-the_row-BlockItem-1 hidden-the_row-CType-0 hidden-the_row-CType-1 hidden-the_row-Declarator-0 hidden-the_row-Declarator-6 hidden-the_row-Enumerator-8 hidden-the_row-Expr-0 hidden-the_row-Expr-1 hidden-the_row-Expr-2 hidden-arguments hidden-the_row-Init-0 hidden-the_row-Initializer-0 hidden-the_row-Member-7 hidden-the_row-Param-5 hidden-the_row-Place-1 hidden-the_row-Spec-3 hidden-the_row-Stmt-0 hidden-unit-0 hidden-unit-1 hidden-the_row-TypeName-4 shape-the_row-BlockItem-1 shape-the_row-CType-0 shape-the_row-CType-1 shape-the_row-Declarator-0 shape-the_row-Declarator-6 shape-the_row-Enumerator-8 shape-the_row-Expr-0 shape-the_row-Expr-1 shape-the_row-Expr-2 shape-arguments shape-the_row-Init-0 shape-the_row-Initializer-0 shape-the_row-Member-7 shape-the_row-Param-5 shape-the_row-Place-1 shape-the_row-Spec-3 shape-the_row-Stmt-0 shape-unit-0 shape-unit-1 shape-the_row-TypeName-4 indirection element member access address unevaluated size size_of_expression size_of_type plain_assignment number_update pointer_update compound_assignment assignment step_update step spine fresh callee_in callee passed call worth is_null number_constant converted cast typedef_declared function_named variable_named init_declarator declaration file_declaration block_name block_declaration defined_name definition pointer_part array_part function_part made parameter type_name member_of_type_rules_declarators with_argument function_type body_read pointer_word initial_word initializer_words initial_values scalar text_fits by_name by_expression part finished by_list count initial_size initialized number_in character_in text_in text_initially as_value operand lvalue promoted in_sign pair_of stride arithmetic_on shift_on pointer_in_common equality_on logical_on operation sign_operation negation chosen_type chosen alternatives choice name number character holds_initially string_object text_found text parenthesised and_then name_number scoped expression value size_of typedef_name tagged_structure structure_name structure tagged_enumeration enumeration_name enumeration enumerator evaluated condition expression_statement block selection_of selection while_loop do_loop for_turns for_loop returned with_items list_behind block_items statement outermost_effects with_effects typed parts_of exceeded outcome likeness_of each_likeness signature_likeness_of conversion union conflict effects_of merged added shared points_to target_effects without_outer_effects same without_effects words_of opening_of automatics PlaceKeeps InitializerKeeps StmtKeeps row_type place_nodes initializer_nodes stmt_nodes places place_spots initializer_spots stmt_spots callee_of stores structure_in IsWithin AreVariables IsTypedPlace IsInitializer IsTypedStmt place_type packed
whole_47 = refl

-- int x; void f(void) { «here» malloc; }
whole_48 : first_fault (codes "int x; void f(void) { malloc; }") (record { externals = (external.Declaration (record { place = 0; specs = (spec.Type 0 type_word.Int ∷ []); declarators = ((record { declarator = (of_declarator.Name (sp 4 5)); init = None }) ∷ []) }) ∷ external.Function (record { place = 7; specs = (spec.Type 7 type_word.Void ∷ []); declarator = (of_declarator.Function (of_declarator.Name (sp 12 13)) 13 (params.Void 14) []); body_place = 20; body = (item.Statement (stmt.Expression 22 (Some (expr.Name (sp 22 28)))) ∷ []) }) ∷ []) }) ≡ Some (11, 22)
unfolding hidden hidden-the_row-BlockItem-1 hidden-the_row-CType-0 hidden-the_row-CType-1 hidden-the_row-Declarator-0 hidden-the_row-Declarator-6 hidden-the_row-Enumerator-8 hidden-the_row-Expr-0 hidden-the_row-Expr-1 hidden-the_row-Expr-2 hidden-arguments hidden-the_row-Init-0 hidden-the_row-Initializer-0 hidden-the_row-Member-7 hidden-the_row-Param-5 hidden-the_row-Place-1 hidden-the_row-Spec-3 hidden-the_row-Stmt-0 hidden-unit-0 hidden-unit-1 hidden-the_row-TypeName-4 shape-the_row-BlockItem-1 shape-the_row-CType-0 shape-the_row-CType-1 shape-the_row-Declarator-0 shape-the_row-Declarator-6 shape-the_row-Enumerator-8 shape-the_row-Expr-0 shape-the_row-Expr-1 shape-the_row-Expr-2 shape-arguments shape-the_row-Init-0 shape-the_row-Initializer-0 shape-the_row-Member-7 shape-the_row-Param-5 shape-the_row-Place-1 shape-the_row-Spec-3 shape-the_row-Stmt-0 shape-unit-0 shape-unit-1 shape-the_row-TypeName-4 indirection element member access address unevaluated size size_of_expression size_of_type plain_assignment number_update pointer_update compound_assignment assignment step_update step spine fresh callee_in callee passed call worth is_null number_constant converted cast typedef_declared function_named variable_named init_declarator declaration file_declaration block_name block_declaration defined_name definition pointer_part array_part function_part made parameter type_name member_of_type_rules_declarators with_argument function_type body_read pointer_word initial_word initializer_words initial_values scalar text_fits by_name by_expression part finished by_list count initial_size initialized number_in character_in text_in text_initially as_value operand lvalue promoted in_sign pair_of stride arithmetic_on shift_on pointer_in_common equality_on logical_on operation sign_operation negation chosen_type chosen alternatives choice name number character holds_initially string_object text_found text parenthesised and_then name_number scoped expression value size_of typedef_name tagged_structure structure_name structure tagged_enumeration enumeration_name enumeration enumerator evaluated condition expression_statement block selection_of selection while_loop do_loop for_turns for_loop returned with_items list_behind block_items statement outermost_effects with_effects typed parts_of exceeded outcome likeness_of each_likeness signature_likeness_of conversion union conflict effects_of merged added shared points_to target_effects without_outer_effects same without_effects words_of opening_of automatics PlaceKeeps InitializerKeeps StmtKeeps row_type place_nodes initializer_nodes stmt_nodes places place_spots initializer_spots stmt_spots callee_of stores structure_in IsWithin AreVariables IsTypedPlace IsInitializer IsTypedStmt place_type packed
whole_48 = refl

-- void f(void) [[clang::nonblocking]]; void (*p)(void) = f; _Thread_local int t = 3; void g(void) { t++; static int k; k = t; p(); }
whole_49 : first_fault (codes "void f(void) [[clang::nonblocking]]; void (*p)(void) = f; _Thread_local int t = 3; void g(void) { t++; static int k; k = t; p(); }") (record { externals = (external.Declaration (record { place = 0; specs = (spec.Type 0 type_word.Void ∷ []); declarators = ((record { declarator = (of_declarator.Function (of_declarator.Name (sp 5 6)) 6 (params.Void 7) ((record { place = 13; spelling = spelling.Brackets; words = ((record { place = 22; effect = (effect.NonBlocking None) }) ∷ []) }) ∷ [])); init = None }) ∷ []) }) ∷ external.Declaration (record { place = 37; specs = (spec.Type 37 type_word.Void ∷ []); declarators = ((record { declarator = (of_declarator.Function (of_declarator.Parenthesised 42 (of_declarator.Pointer 43 [] (of_declarator.Name (sp 44 45)))) 46 (params.Void 47) []); init = (Some (init.Value (expr.Name (sp 55 56)))) }) ∷ []) }) ∷ external.Declaration (record { place = 58; specs = (spec.Storage 58 storage.ThreadLocal ∷ spec.Type 72 type_word.Int ∷ []); declarators = ((record { declarator = (of_declarator.Name (sp 76 77)); init = (Some (init.Value (expr.Number (sp 80 81)))) }) ∷ []) }) ∷ external.Function (record { place = 83; specs = (spec.Type 83 type_word.Void ∷ []); declarator = (of_declarator.Function (of_declarator.Name (sp 88 89)) 89 (params.Void 90) []); body_place = 96; body = (item.Statement (stmt.Expression 98 (Some (expr.Step 98 (expr.Name (sp 98 99)) step.Increment))) ∷ item.Declaration (record { place = 103; specs = (spec.Storage 103 storage.Static ∷ spec.Type 110 type_word.Int ∷ []); declarators = ((record { declarator = (of_declarator.Name (sp 114 115)); init = None }) ∷ []) }) ∷ item.Statement (stmt.Expression 117 (Some (expr.Assignment 117 (expr.Name (sp 117 118)) assignment.Plain 119 (expr.Name (sp 121 122))))) ∷ item.Statement (stmt.Expression 124 (Some (expr.Call 124 (expr.Name (sp 124 125)) []))) ∷ []) }) ∷ []) }) ≡ None
unfolding hidden hidden-the_row-BlockItem-1 hidden-the_row-CType-0 hidden-the_row-CType-1 hidden-the_row-Declarator-0 hidden-the_row-Declarator-6 hidden-the_row-Enumerator-8 hidden-the_row-Expr-0 hidden-the_row-Expr-1 hidden-the_row-Expr-2 hidden-arguments hidden-the_row-Init-0 hidden-the_row-Initializer-0 hidden-the_row-Member-7 hidden-the_row-Param-5 hidden-the_row-Place-1 hidden-the_row-Spec-3 hidden-the_row-Stmt-0 hidden-unit-0 hidden-unit-1 hidden-the_row-TypeName-4 shape-the_row-BlockItem-1 shape-the_row-CType-0 shape-the_row-CType-1 shape-the_row-Declarator-0 shape-the_row-Declarator-6 shape-the_row-Enumerator-8 shape-the_row-Expr-0 shape-the_row-Expr-1 shape-the_row-Expr-2 shape-arguments shape-the_row-Init-0 shape-the_row-Initializer-0 shape-the_row-Member-7 shape-the_row-Param-5 shape-the_row-Place-1 shape-the_row-Spec-3 shape-the_row-Stmt-0 shape-unit-0 shape-unit-1 shape-the_row-TypeName-4 indirection element member access address unevaluated size size_of_expression size_of_type plain_assignment number_update pointer_update compound_assignment assignment step_update step spine fresh callee_in callee passed call worth is_null number_constant converted cast typedef_declared function_named variable_named init_declarator declaration file_declaration block_name block_declaration defined_name definition pointer_part array_part function_part made parameter type_name member_of_type_rules_declarators with_argument function_type body_read pointer_word initial_word initializer_words initial_values scalar text_fits by_name by_expression part finished by_list count initial_size initialized number_in character_in text_in text_initially as_value operand lvalue promoted in_sign pair_of stride arithmetic_on shift_on pointer_in_common equality_on logical_on operation sign_operation negation chosen_type chosen alternatives choice name number character holds_initially string_object text_found text parenthesised and_then name_number scoped expression value size_of typedef_name tagged_structure structure_name structure tagged_enumeration enumeration_name enumeration enumerator evaluated condition expression_statement block selection_of selection while_loop do_loop for_turns for_loop returned with_items list_behind block_items statement outermost_effects with_effects typed parts_of exceeded outcome likeness_of each_likeness signature_likeness_of conversion union conflict effects_of merged added shared points_to target_effects without_outer_effects same without_effects words_of opening_of automatics PlaceKeeps InitializerKeeps StmtKeeps row_type place_nodes initializer_nodes stmt_nodes places place_spots initializer_spots stmt_spots callee_of stores structure_in IsWithin AreVariables IsTypedPlace IsInitializer IsTypedStmt place_type packed
whole_49 = refl

-- struct s { int samples[4]; unsigned head; unsigned tail; }; static int pop(struct s *r, int *v) { if (r->head == r->tail) return 0; *v = r->samples[r->head % 4]; r->head = r->head + 1; return 1; }
whole_50 : first_fault (codes "struct s { int samples[4]; unsigned head; unsigned tail; }; static int pop(struct s *r, int *v) { if (r->head == r->tail) return 0; *v = r->samples[r->head % 4]; r->head = r->head + 1; return 1; }") (record { externals = (external.Declaration (record { place = 0; specs = (spec.Struct 0 (Some (sp 7 8)) ((record { place = 11; specs = (spec.Type 11 type_word.Int ∷ []); declarators = ((of_declarator.Array (of_declarator.Name (sp 15 22)) 22 (Some (expr.Number (sp 23 24)))) ∷ []) }) ∷ (record { place = 27; specs = (spec.Type 27 type_word.Unsigned ∷ []); declarators = ((of_declarator.Name (sp 36 40)) ∷ []) }) ∷ (record { place = 42; specs = (spec.Type 42 type_word.Unsigned ∷ []); declarators = ((of_declarator.Name (sp 51 55)) ∷ []) }) ∷ []) ∷ []); declarators = [] }) ∷ external.Function (record { place = 60; specs = (spec.Storage 60 storage.Static ∷ spec.Type 67 type_word.Int ∷ []); declarator = (of_declarator.Function (of_declarator.Name (sp 71 74)) 74 (params.List ((record { place = 75; specs = (spec.StructName 75 (sp 82 83) ∷ []); declarator = (of_declarator.Pointer 84 [] (of_declarator.Name (sp 85 86))) }) ∷ (record { place = 88; specs = (spec.Type 88 type_word.Int ∷ []); declarator = (of_declarator.Pointer 92 [] (of_declarator.Name (sp 93 94))) }) ∷ [])) []); body_place = 96; body = (item.Statement (stmt.If 98 (expr.Binary 102 (expr.Access 102 (expr.Name (sp 102 103)) access.Arrow (sp 105 109)) binary.Equal 110 (expr.Access 113 (expr.Name (sp 113 114)) access.Arrow (sp 116 120))) (stmt.Return 122 (Some (expr.Number (sp 129 130)))) None) ∷ item.Statement (stmt.Expression 132 (Some (expr.Assignment 132 (expr.Unary 132 unary.Indirection (expr.Name (sp 133 134))) assignment.Plain 135 (expr.Index 137 (expr.Access 137 (expr.Name (sp 137 138)) access.Arrow (sp 140 147)) (expr.Binary 148 (expr.Access 148 (expr.Name (sp 148 149)) access.Arrow (sp 151 155)) binary.Remainder 156 (expr.Number (sp 158 159))))))) ∷ item.Statement (stmt.Expression 162 (Some (expr.Assignment 162 (expr.Access 162 (expr.Name (sp 162 163)) access.Arrow (sp 165 169)) assignment.Plain 170 (expr.Binary 172 (expr.Access 172 (expr.Name (sp 172 173)) access.Arrow (sp 175 179)) binary.Add 180 (expr.Number (sp 182 183)))))) ∷ item.Statement (stmt.Return 185 (Some (expr.Number (sp 192 193)))) ∷ []) }) ∷ []) }) ≡ None
unfolding hidden hidden-the_row-BlockItem-1 hidden-the_row-CType-0 hidden-the_row-CType-1 hidden-the_row-Declarator-0 hidden-the_row-Declarator-6 hidden-the_row-Enumerator-8 hidden-the_row-Expr-0 hidden-the_row-Expr-1 hidden-the_row-Expr-2 hidden-arguments hidden-the_row-Init-0 hidden-the_row-Initializer-0 hidden-the_row-Member-7 hidden-the_row-Param-5 hidden-the_row-Place-1 hidden-the_row-Spec-3 hidden-the_row-Stmt-0 hidden-unit-0 hidden-unit-1 hidden-the_row-TypeName-4 shape-the_row-BlockItem-1 shape-the_row-CType-0 shape-the_row-CType-1 shape-the_row-Declarator-0 shape-the_row-Declarator-6 shape-the_row-Enumerator-8 shape-the_row-Expr-0 shape-the_row-Expr-1 shape-the_row-Expr-2 shape-arguments shape-the_row-Init-0 shape-the_row-Initializer-0 shape-the_row-Member-7 shape-the_row-Param-5 shape-the_row-Place-1 shape-the_row-Spec-3 shape-the_row-Stmt-0 shape-unit-0 shape-unit-1 shape-the_row-TypeName-4 indirection element member access address unevaluated size size_of_expression size_of_type plain_assignment number_update pointer_update compound_assignment assignment step_update step spine fresh callee_in callee passed call worth is_null number_constant converted cast typedef_declared function_named variable_named init_declarator declaration file_declaration block_name block_declaration defined_name definition pointer_part array_part function_part made parameter type_name member_of_type_rules_declarators with_argument function_type body_read pointer_word initial_word initializer_words initial_values scalar text_fits by_name by_expression part finished by_list count initial_size initialized number_in character_in text_in text_initially as_value operand lvalue promoted in_sign pair_of stride arithmetic_on shift_on pointer_in_common equality_on logical_on operation sign_operation negation chosen_type chosen alternatives choice name number character holds_initially string_object text_found text parenthesised and_then name_number scoped expression value size_of typedef_name tagged_structure structure_name structure tagged_enumeration enumeration_name enumeration enumerator evaluated condition expression_statement block selection_of selection while_loop do_loop for_turns for_loop returned with_items list_behind block_items statement outermost_effects with_effects typed parts_of exceeded outcome likeness_of each_likeness signature_likeness_of conversion union conflict effects_of merged added shared points_to target_effects without_outer_effects same without_effects words_of opening_of automatics PlaceKeeps InitializerKeeps StmtKeeps row_type place_nodes initializer_nodes stmt_nodes places place_spots initializer_spots stmt_spots callee_of stores structure_in IsWithin AreVariables IsTypedPlace IsInitializer IsTypedStmt place_type packed
whole_50 = refl

-- typedef int (*callback_t)(int *out, int n) [[clang::nonblocking]]; static int clip(int v) { return v > 1000 ? 1000 : v; } static int process(int *out, int n) [[clang::nonblocking]] { int got = 0; for (int i = 0; i < n; i++) { int v = 0; if (clip(v)) got++; out[i] = clip(abs(v) * 3); } return got; }
whole_51 : first_fault (codes "typedef int (*callback_t)(int *out, int n) [[clang::nonblocking]]; static int clip(int v) { return v > 1000 ? 1000 : v; } static int process(int *out, int n) [[clang::nonblocking]] { int got = 0; for (int i = 0; i < n; i++) { int v = 0; if (clip(v)) got++; out[i] = clip(abs(v) * 3); } return got; }") (record { externals = (external.Declaration (record { place = 0; specs = (spec.Storage 0 storage.Typedef ∷ spec.Type 8 type_word.Int ∷ []); declarators = ((record { declarator = (of_declarator.Function (of_declarator.Parenthesised 12 (of_declarator.Pointer 13 [] (of_declarator.Name (sp 14 24)))) 25 (params.List ((record { place = 26; specs = (spec.Type 26 type_word.Int ∷ []); declarator = (of_declarator.Pointer 30 [] (of_declarator.Name (sp 31 34))) }) ∷ (record { place = 36; specs = (spec.Type 36 type_word.Int ∷ []); declarator = (of_declarator.Name (sp 40 41)) }) ∷ [])) ((record { place = 43; spelling = spelling.Brackets; words = ((record { place = 52; effect = (effect.NonBlocking None) }) ∷ []) }) ∷ [])); init = None }) ∷ []) }) ∷ external.Function (record { place = 67; specs = (spec.Storage 67 storage.Static ∷ spec.Type 74 type_word.Int ∷ []); declarator = (of_declarator.Function (of_declarator.Name (sp 78 82)) 82 (params.List ((record { place = 83; specs = (spec.Type 83 type_word.Int ∷ []); declarator = (of_declarator.Name (sp 87 88)) }) ∷ [])) []); body_place = 90; body = (item.Statement (stmt.Return 92 (Some (expr.Conditional 99 (expr.Binary 99 (expr.Name (sp 99 100)) binary.Greater 101 (expr.Number (sp 103 107))) (expr.Number (sp 110 114)) (expr.Name (sp 117 118))))) ∷ []) }) ∷ external.Function (record { place = 122; specs = (spec.Storage 122 storage.Static ∷ spec.Type 129 type_word.Int ∷ []); declarator = (of_declarator.Function (of_declarator.Name (sp 133 140)) 140 (params.List ((record { place = 141; specs = (spec.Type 141 type_word.Int ∷ []); declarator = (of_declarator.Pointer 145 [] (of_declarator.Name (sp 146 149))) }) ∷ (record { place = 151; specs = (spec.Type 151 type_word.Int ∷ []); declarator = (of_declarator.Name (sp 155 156)) }) ∷ [])) ((record { place = 158; spelling = spelling.Brackets; words = ((record { place = 167; effect = (effect.NonBlocking None) }) ∷ []) }) ∷ [])); body_place = 181; body = (item.Declaration (record { place = 183; specs = (spec.Type 183 type_word.Int ∷ []); declarators = ((record { declarator = (of_declarator.Name (sp 187 190)); init = (Some (init.Value (expr.Number (sp 193 194)))) }) ∷ []) }) ∷ item.Statement (stmt.For 196 (start.Declaration (record { place = 201; specs = (spec.Type 201 type_word.Int ∷ []); declarators = ((record { declarator = (of_declarator.Name (sp 205 206)); init = (Some (init.Value (expr.Number (sp 209 210)))) }) ∷ []) })) (Some (expr.Binary 212 (expr.Name (sp 212 213)) binary.Less 214 (expr.Name (sp 216 217)))) (Some (expr.Step 219 (expr.Name (sp 219 220)) step.Increment)) (stmt.Block 224 (item.Declaration (record { place = 226; specs = (spec.Type 226 type_word.Int ∷ []); declarators = ((record { declarator = (of_declarator.Name (sp 230 231)); init = (Some (init.Value (expr.Number (sp 234 235)))) }) ∷ []) }) ∷ item.Statement (stmt.If 237 (expr.Call 241 (expr.Name (sp 241 245)) ((expr.Name (sp 246 247)) ∷ [])) (stmt.Expression 250 (Some (expr.Step 250 (expr.Name (sp 250 253)) step.Increment))) None) ∷ item.Statement (stmt.Expression 257 (Some (expr.Assignment 257 (expr.Index 257 (expr.Name (sp 257 260)) (expr.Name (sp 261 262))) assignment.Plain 264 (expr.Call 266 (expr.Name (sp 266 270)) ((expr.Binary 271 (expr.Call 271 (expr.Name (sp 271 274)) ((expr.Name (sp 275 276)) ∷ [])) binary.Multiply 278 (expr.Number (sp 280 281))) ∷ []))))) ∷ []))) ∷ item.Statement (stmt.Return 286 (Some (expr.Name (sp 293 296)))) ∷ []) }) ∷ []) }) ≡ None
unfolding hidden hidden-the_row-BlockItem-1 hidden-the_row-CType-0 hidden-the_row-CType-1 hidden-the_row-Declarator-0 hidden-the_row-Declarator-6 hidden-the_row-Enumerator-8 hidden-the_row-Expr-0 hidden-the_row-Expr-1 hidden-the_row-Expr-2 hidden-arguments hidden-the_row-Init-0 hidden-the_row-Initializer-0 hidden-the_row-Member-7 hidden-the_row-Param-5 hidden-the_row-Place-1 hidden-the_row-Spec-3 hidden-the_row-Stmt-0 hidden-unit-0 hidden-unit-1 hidden-the_row-TypeName-4 shape-the_row-BlockItem-1 shape-the_row-CType-0 shape-the_row-CType-1 shape-the_row-Declarator-0 shape-the_row-Declarator-6 shape-the_row-Enumerator-8 shape-the_row-Expr-0 shape-the_row-Expr-1 shape-the_row-Expr-2 shape-arguments shape-the_row-Init-0 shape-the_row-Initializer-0 shape-the_row-Member-7 shape-the_row-Param-5 shape-the_row-Place-1 shape-the_row-Spec-3 shape-the_row-Stmt-0 shape-unit-0 shape-unit-1 shape-the_row-TypeName-4 indirection element member access address unevaluated size size_of_expression size_of_type plain_assignment number_update pointer_update compound_assignment assignment step_update step spine fresh callee_in callee passed call worth is_null number_constant converted cast typedef_declared function_named variable_named init_declarator declaration file_declaration block_name block_declaration defined_name definition pointer_part array_part function_part made parameter type_name member_of_type_rules_declarators with_argument function_type body_read pointer_word initial_word initializer_words initial_values scalar text_fits by_name by_expression part finished by_list count initial_size initialized number_in character_in text_in text_initially as_value operand lvalue promoted in_sign pair_of stride arithmetic_on shift_on pointer_in_common equality_on logical_on operation sign_operation negation chosen_type chosen alternatives choice name number character holds_initially string_object text_found text parenthesised and_then name_number scoped expression value size_of typedef_name tagged_structure structure_name structure tagged_enumeration enumeration_name enumeration enumerator evaluated condition expression_statement block selection_of selection while_loop do_loop for_turns for_loop returned with_items list_behind block_items statement outermost_effects with_effects typed parts_of exceeded outcome likeness_of each_likeness signature_likeness_of conversion union conflict effects_of merged added shared points_to target_effects without_outer_effects same without_effects words_of opening_of automatics PlaceKeeps InitializerKeeps StmtKeeps row_type place_nodes initializer_nodes stmt_nodes places place_spots initializer_spots stmt_spots callee_of stores structure_in IsWithin AreVariables IsTypedPlace IsInitializer IsTypedStmt place_type packed
whole_51 = refl

-- static pthread_mutex_t log_lock = PTHREAD_MUTEX_INITIALIZER; static void *fill(void *arg) { int *r = arg; for (int i = 0; i < 200; i++) if (!r[i]) usleep(10); pthread_mutex_lock(&log_lock); puts("filled"); return NULL; }
whole_52 : first_fault (codes "static pthread_mutex_t log_lock = PTHREAD_MUTEX_INITIALIZER; static void *fill(void *arg) { int *r = arg; for (int i = 0; i < 200; i++) if (!r[i]) usleep(10); pthread_mutex_lock(&log_lock); puts(\"filled\"); return NULL; }") (record { externals = (external.Declaration (record { place = 0; specs = (spec.Storage 0 storage.Static ∷ spec.TypedefName (sp 7 22) ∷ []); declarators = ((record { declarator = (of_declarator.Name (sp 23 31)); init = (Some (init.Value (expr.Name (sp 34 59)))) }) ∷ []) }) ∷ external.Function (record { place = 61; specs = (spec.Storage 61 storage.Static ∷ spec.Type 68 type_word.Void ∷ []); declarator = (of_declarator.Pointer 73 [] (of_declarator.Function (of_declarator.Name (sp 74 78)) 78 (params.List ((record { place = 79; specs = (spec.Type 79 type_word.Void ∷ []); declarator = (of_declarator.Pointer 84 [] (of_declarator.Name (sp 85 88))) }) ∷ [])) [])); body_place = 90; body = (item.Declaration (record { place = 92; specs = (spec.Type 92 type_word.Int ∷ []); declarators = ((record { declarator = (of_declarator.Pointer 96 [] (of_declarator.Name (sp 97 98))); init = (Some (init.Value (expr.Name (sp 101 104)))) }) ∷ []) }) ∷ item.Statement (stmt.For 106 (start.Declaration (record { place = 111; specs = (spec.Type 111 type_word.Int ∷ []); declarators = ((record { declarator = (of_declarator.Name (sp 115 116)); init = (Some (init.Value (expr.Number (sp 119 120)))) }) ∷ []) })) (Some (expr.Binary 122 (expr.Name (sp 122 123)) binary.Less 124 (expr.Number (sp 126 129)))) (Some (expr.Step 131 (expr.Name (sp 131 132)) step.Increment)) (stmt.If 136 (expr.Unary 140 unary.Not (expr.Index 141 (expr.Name (sp 141 142)) (expr.Name (sp 143 144)))) (stmt.Expression 147 (Some (expr.Call 147 (expr.Name (sp 147 153)) ((expr.Number (sp 154 156)) ∷ [])))) None)) ∷ item.Statement (stmt.Expression 159 (Some (expr.Call 159 (expr.Name (sp 159 177)) ((expr.Unary 178 unary.Address (expr.Name (sp 179 187))) ∷ [])))) ∷ item.Statement (stmt.Expression 190 (Some (expr.Call 190 (expr.Name (sp 190 194)) ((expr.Text ((sp 195 203) ∷ [])) ∷ [])))) ∷ item.Statement (stmt.Return 206 (Some (expr.Name (sp 213 217)))) ∷ []) }) ∷ []) }) ≡ None
unfolding hidden hidden-the_row-BlockItem-1 hidden-the_row-CType-0 hidden-the_row-CType-1 hidden-the_row-Declarator-0 hidden-the_row-Declarator-6 hidden-the_row-Enumerator-8 hidden-the_row-Expr-0 hidden-the_row-Expr-1 hidden-the_row-Expr-2 hidden-arguments hidden-the_row-Init-0 hidden-the_row-Initializer-0 hidden-the_row-Member-7 hidden-the_row-Param-5 hidden-the_row-Place-1 hidden-the_row-Spec-3 hidden-the_row-Stmt-0 hidden-unit-0 hidden-unit-1 hidden-the_row-TypeName-4 shape-the_row-BlockItem-1 shape-the_row-CType-0 shape-the_row-CType-1 shape-the_row-Declarator-0 shape-the_row-Declarator-6 shape-the_row-Enumerator-8 shape-the_row-Expr-0 shape-the_row-Expr-1 shape-the_row-Expr-2 shape-arguments shape-the_row-Init-0 shape-the_row-Initializer-0 shape-the_row-Member-7 shape-the_row-Param-5 shape-the_row-Place-1 shape-the_row-Spec-3 shape-the_row-Stmt-0 shape-unit-0 shape-unit-1 shape-the_row-TypeName-4 indirection element member access address unevaluated size size_of_expression size_of_type plain_assignment number_update pointer_update compound_assignment assignment step_update step spine fresh callee_in callee passed call worth is_null number_constant converted cast typedef_declared function_named variable_named init_declarator declaration file_declaration block_name block_declaration defined_name definition pointer_part array_part function_part made parameter type_name member_of_type_rules_declarators with_argument function_type body_read pointer_word initial_word initializer_words initial_values scalar text_fits by_name by_expression part finished by_list count initial_size initialized number_in character_in text_in text_initially as_value operand lvalue promoted in_sign pair_of stride arithmetic_on shift_on pointer_in_common equality_on logical_on operation sign_operation negation chosen_type chosen alternatives choice name number character holds_initially string_object text_found text parenthesised and_then name_number scoped expression value size_of typedef_name tagged_structure structure_name structure tagged_enumeration enumeration_name enumeration enumerator evaluated condition expression_statement block selection_of selection while_loop do_loop for_turns for_loop returned with_items list_behind block_items statement outermost_effects with_effects typed parts_of exceeded outcome likeness_of each_likeness signature_likeness_of conversion union conflict effects_of merged added shared points_to target_effects without_outer_effects same without_effects words_of opening_of automatics PlaceKeeps InitializerKeeps StmtKeeps row_type place_nodes initializer_nodes stmt_nodes places place_spots initializer_spots stmt_spots callee_of stores structure_in IsWithin AreVariables IsTypedPlace IsInitializer IsTypedStmt place_type packed
whole_52 = refl

-- void *fill(void *a) { return a; } int main(void) { int *out = malloc(16 * sizeof(int)); if (!out) return 1; pthread_t t; if (pthread_create(&t, NULL, fill, out)) return 1; pthread_join(t, NULL); free(out); return 0; }
whole_53 : first_fault (codes "void *fill(void *a) { return a; } int main(void) { int *out = malloc(16 * sizeof(int)); if (!out) return 1; pthread_t t; if (pthread_create(&t, NULL, fill, out)) return 1; pthread_join(t, NULL); free(out); return 0; }") (record { externals = (external.Function (record { place = 0; specs = (spec.Type 0 type_word.Void ∷ []); declarator = (of_declarator.Pointer 5 [] (of_declarator.Function (of_declarator.Name (sp 6 10)) 10 (params.List ((record { place = 11; specs = (spec.Type 11 type_word.Void ∷ []); declarator = (of_declarator.Pointer 16 [] (of_declarator.Name (sp 17 18))) }) ∷ [])) [])); body_place = 20; body = (item.Statement (stmt.Return 22 (Some (expr.Name (sp 29 30)))) ∷ []) }) ∷ external.Function (record { place = 34; specs = (spec.Type 34 type_word.Int ∷ []); declarator = (of_declarator.Function (of_declarator.Name (sp 38 42)) 42 (params.Void 43) []); body_place = 49; body = (item.Declaration (record { place = 51; specs = (spec.Type 51 type_word.Int ∷ []); declarators = ((record { declarator = (of_declarator.Pointer 55 [] (of_declarator.Name (sp 56 59))); init = (Some (init.Value (expr.Call 62 (expr.Name (sp 62 68)) ((expr.Binary 69 (expr.Number (sp 69 71)) binary.Multiply 72 (expr.SizeofType 74 (record { place = 81; specs = (spec.Type 81 type_word.Int ∷ []); declarator = of_declarator.Absent }))) ∷ [])))) }) ∷ []) }) ∷ item.Statement (stmt.If 88 (expr.Unary 92 unary.Not (expr.Name (sp 93 96))) (stmt.Return 98 (Some (expr.Number (sp 105 106)))) None) ∷ item.Declaration (record { place = 108; specs = (spec.TypedefName (sp 108 117) ∷ []); declarators = ((record { declarator = (of_declarator.Name (sp 118 119)); init = None }) ∷ []) }) ∷ item.Statement (stmt.If 121 (expr.Call 125 (expr.Name (sp 125 139)) ((expr.Unary 140 unary.Address (expr.Name (sp 141 142))) ∷ (expr.Name (sp 144 148)) ∷ (expr.Name (sp 150 154)) ∷ (expr.Name (sp 156 159)) ∷ [])) (stmt.Return 162 (Some (expr.Number (sp 169 170)))) None) ∷ item.Statement (stmt.Expression 172 (Some (expr.Call 172 (expr.Name (sp 172 184)) ((expr.Name (sp 185 186)) ∷ (expr.Name (sp 188 192)) ∷ [])))) ∷ item.Statement (stmt.Expression 195 (Some (expr.Call 195 (expr.Name (sp 195 199)) ((expr.Name (sp 200 203)) ∷ [])))) ∷ item.Statement (stmt.Return 206 (Some (expr.Number (sp 213 214)))) ∷ []) }) ∷ []) }) ≡ None
unfolding hidden hidden-the_row-BlockItem-1 hidden-the_row-CType-0 hidden-the_row-CType-1 hidden-the_row-Declarator-0 hidden-the_row-Declarator-6 hidden-the_row-Enumerator-8 hidden-the_row-Expr-0 hidden-the_row-Expr-1 hidden-the_row-Expr-2 hidden-arguments hidden-the_row-Init-0 hidden-the_row-Initializer-0 hidden-the_row-Member-7 hidden-the_row-Param-5 hidden-the_row-Place-1 hidden-the_row-Spec-3 hidden-the_row-Stmt-0 hidden-unit-0 hidden-unit-1 hidden-the_row-TypeName-4 shape-the_row-BlockItem-1 shape-the_row-CType-0 shape-the_row-CType-1 shape-the_row-Declarator-0 shape-the_row-Declarator-6 shape-the_row-Enumerator-8 shape-the_row-Expr-0 shape-the_row-Expr-1 shape-the_row-Expr-2 shape-arguments shape-the_row-Init-0 shape-the_row-Initializer-0 shape-the_row-Member-7 shape-the_row-Param-5 shape-the_row-Place-1 shape-the_row-Spec-3 shape-the_row-Stmt-0 shape-unit-0 shape-unit-1 shape-the_row-TypeName-4 indirection element member access address unevaluated size size_of_expression size_of_type plain_assignment number_update pointer_update compound_assignment assignment step_update step spine fresh callee_in callee passed call worth is_null number_constant converted cast typedef_declared function_named variable_named init_declarator declaration file_declaration block_name block_declaration defined_name definition pointer_part array_part function_part made parameter type_name member_of_type_rules_declarators with_argument function_type body_read pointer_word initial_word initializer_words initial_values scalar text_fits by_name by_expression part finished by_list count initial_size initialized number_in character_in text_in text_initially as_value operand lvalue promoted in_sign pair_of stride arithmetic_on shift_on pointer_in_common equality_on logical_on operation sign_operation negation chosen_type chosen alternatives choice name number character holds_initially string_object text_found text parenthesised and_then name_number scoped expression value size_of typedef_name tagged_structure structure_name structure tagged_enumeration enumeration_name enumeration enumerator evaluated condition expression_statement block selection_of selection while_loop do_loop for_turns for_loop returned with_items list_behind block_items statement outermost_effects with_effects typed parts_of exceeded outcome likeness_of each_likeness signature_likeness_of conversion union conflict effects_of merged added shared points_to target_effects without_outer_effects same without_effects words_of opening_of automatics PlaceKeeps InitializerKeeps StmtKeeps row_type place_nodes initializer_nodes stmt_nodes places place_spots initializer_spots stmt_spots callee_of stores structure_in IsWithin AreVariables IsTypedPlace IsInitializer IsTypedStmt place_type packed
whole_53 = refl

-- int f(void) { return «here» x; }
whole_54 : first_fault (codes "int f(void) { return x; }") (record { externals = (external.Function (record { place = 0; specs = (spec.Type 0 type_word.Int ∷ []); declarator = (of_declarator.Function (of_declarator.Name (sp 4 5)) 5 (params.Void 6) []); body_place = 12; body = (item.Statement (stmt.Return 14 (Some (expr.Name (sp 21 22)))) ∷ []) }) ∷ []) }) ≡ Some (1, 21)
unfolding hidden hidden-the_row-BlockItem-1 hidden-the_row-CType-0 hidden-the_row-CType-1 hidden-the_row-Declarator-0 hidden-the_row-Declarator-6 hidden-the_row-Enumerator-8 hidden-the_row-Expr-0 hidden-the_row-Expr-1 hidden-the_row-Expr-2 hidden-arguments hidden-the_row-Init-0 hidden-the_row-Initializer-0 hidden-the_row-Member-7 hidden-the_row-Param-5 hidden-the_row-Place-1 hidden-the_row-Spec-3 hidden-the_row-Stmt-0 hidden-unit-0 hidden-unit-1 hidden-the_row-TypeName-4 shape-the_row-BlockItem-1 shape-the_row-CType-0 shape-the_row-CType-1 shape-the_row-Declarator-0 shape-the_row-Declarator-6 shape-the_row-Enumerator-8 shape-the_row-Expr-0 shape-the_row-Expr-1 shape-the_row-Expr-2 shape-arguments shape-the_row-Init-0 shape-the_row-Initializer-0 shape-the_row-Member-7 shape-the_row-Param-5 shape-the_row-Place-1 shape-the_row-Spec-3 shape-the_row-Stmt-0 shape-unit-0 shape-unit-1 shape-the_row-TypeName-4 indirection element member access address unevaluated size size_of_expression size_of_type plain_assignment number_update pointer_update compound_assignment assignment step_update step spine fresh callee_in callee passed call worth is_null number_constant converted cast typedef_declared function_named variable_named init_declarator declaration file_declaration block_name block_declaration defined_name definition pointer_part array_part function_part made parameter type_name member_of_type_rules_declarators with_argument function_type body_read pointer_word initial_word initializer_words initial_values scalar text_fits by_name by_expression part finished by_list count initial_size initialized number_in character_in text_in text_initially as_value operand lvalue promoted in_sign pair_of stride arithmetic_on shift_on pointer_in_common equality_on logical_on operation sign_operation negation chosen_type chosen alternatives choice name number character holds_initially string_object text_found text parenthesised and_then name_number scoped expression value size_of typedef_name tagged_structure structure_name structure tagged_enumeration enumeration_name enumeration enumerator evaluated condition expression_statement block selection_of selection while_loop do_loop for_turns for_loop returned with_items list_behind block_items statement outermost_effects with_effects typed parts_of exceeded outcome likeness_of each_likeness signature_likeness_of conversion union conflict effects_of merged added shared points_to target_effects without_outer_effects same without_effects words_of opening_of automatics PlaceKeeps InitializerKeeps StmtKeeps row_type place_nodes initializer_nodes stmt_nodes places place_spots initializer_spots stmt_spots callee_of stores structure_in IsWithin AreVariables IsTypedPlace IsInitializer IsTypedStmt place_type packed
whole_54 = refl

-- void f(void) { { int a; } «here» a = 1; }
whole_55 : first_fault (codes "void f(void) { { int a; } a = 1; }") (record { externals = (external.Function (record { place = 0; specs = (spec.Type 0 type_word.Void ∷ []); declarator = (of_declarator.Function (of_declarator.Name (sp 5 6)) 6 (params.Void 7) []); body_place = 13; body = (item.Statement (stmt.Block 15 (item.Declaration (record { place = 17; specs = (spec.Type 17 type_word.Int ∷ []); declarators = ((record { declarator = (of_declarator.Name (sp 21 22)); init = None }) ∷ []) }) ∷ [])) ∷ item.Statement (stmt.Expression 26 (Some (expr.Assignment 26 (expr.Name (sp 26 27)) assignment.Plain 28 (expr.Number (sp 30 31))))) ∷ []) }) ∷ []) }) ≡ Some (1, 26)
unfolding hidden hidden-the_row-BlockItem-1 hidden-the_row-CType-0 hidden-the_row-CType-1 hidden-the_row-Declarator-0 hidden-the_row-Declarator-6 hidden-the_row-Enumerator-8 hidden-the_row-Expr-0 hidden-the_row-Expr-1 hidden-the_row-Expr-2 hidden-arguments hidden-the_row-Init-0 hidden-the_row-Initializer-0 hidden-the_row-Member-7 hidden-the_row-Param-5 hidden-the_row-Place-1 hidden-the_row-Spec-3 hidden-the_row-Stmt-0 hidden-unit-0 hidden-unit-1 hidden-the_row-TypeName-4 shape-the_row-BlockItem-1 shape-the_row-CType-0 shape-the_row-CType-1 shape-the_row-Declarator-0 shape-the_row-Declarator-6 shape-the_row-Enumerator-8 shape-the_row-Expr-0 shape-the_row-Expr-1 shape-the_row-Expr-2 shape-arguments shape-the_row-Init-0 shape-the_row-Initializer-0 shape-the_row-Member-7 shape-the_row-Param-5 shape-the_row-Place-1 shape-the_row-Spec-3 shape-the_row-Stmt-0 shape-unit-0 shape-unit-1 shape-the_row-TypeName-4 indirection element member access address unevaluated size size_of_expression size_of_type plain_assignment number_update pointer_update compound_assignment assignment step_update step spine fresh callee_in callee passed call worth is_null number_constant converted cast typedef_declared function_named variable_named init_declarator declaration file_declaration block_name block_declaration defined_name definition pointer_part array_part function_part made parameter type_name member_of_type_rules_declarators with_argument function_type body_read pointer_word initial_word initializer_words initial_values scalar text_fits by_name by_expression part finished by_list count initial_size initialized number_in character_in text_in text_initially as_value operand lvalue promoted in_sign pair_of stride arithmetic_on shift_on pointer_in_common equality_on logical_on operation sign_operation negation chosen_type chosen alternatives choice name number character holds_initially string_object text_found text parenthesised and_then name_number scoped expression value size_of typedef_name tagged_structure structure_name structure tagged_enumeration enumeration_name enumeration enumerator evaluated condition expression_statement block selection_of selection while_loop do_loop for_turns for_loop returned with_items list_behind block_items statement outermost_effects with_effects typed parts_of exceeded outcome likeness_of each_likeness signature_likeness_of conversion union conflict effects_of merged added shared points_to target_effects without_outer_effects same without_effects words_of opening_of automatics PlaceKeeps InitializerKeeps StmtKeeps row_type place_nodes initializer_nodes stmt_nodes places place_spots initializer_spots stmt_spots callee_of stores structure_in IsWithin AreVariables IsTypedPlace IsInitializer IsTypedStmt place_type packed
whole_55 = refl

-- struct s { int a; } x; int f(void) { return (&x)->«here» c; }
whole_56 : first_fault (codes "struct s { int a; } x; int f(void) { return (&x)->c; }") (record { externals = (external.Declaration (record { place = 0; specs = (spec.Struct 0 (Some (sp 7 8)) ((record { place = 11; specs = (spec.Type 11 type_word.Int ∷ []); declarators = ((of_declarator.Name (sp 15 16)) ∷ []) }) ∷ []) ∷ []); declarators = ((record { declarator = (of_declarator.Name (sp 20 21)); init = None }) ∷ []) }) ∷ external.Function (record { place = 23; specs = (spec.Type 23 type_word.Int ∷ []); declarator = (of_declarator.Function (of_declarator.Name (sp 27 28)) 28 (params.Void 29) []); body_place = 35; body = (item.Statement (stmt.Return 37 (Some (expr.Access 44 (expr.Parenthesised 44 (expr.Unary 45 unary.Address (expr.Name (sp 46 47)))) access.Arrow (sp 50 51)))) ∷ []) }) ∷ []) }) ≡ Some (8, 50)
unfolding hidden hidden-the_row-BlockItem-1 hidden-the_row-CType-0 hidden-the_row-CType-1 hidden-the_row-Declarator-0 hidden-the_row-Declarator-6 hidden-the_row-Enumerator-8 hidden-the_row-Expr-0 hidden-the_row-Expr-1 hidden-the_row-Expr-2 hidden-arguments hidden-the_row-Init-0 hidden-the_row-Initializer-0 hidden-the_row-Member-7 hidden-the_row-Param-5 hidden-the_row-Place-1 hidden-the_row-Spec-3 hidden-the_row-Stmt-0 hidden-unit-0 hidden-unit-1 hidden-the_row-TypeName-4 shape-the_row-BlockItem-1 shape-the_row-CType-0 shape-the_row-CType-1 shape-the_row-Declarator-0 shape-the_row-Declarator-6 shape-the_row-Enumerator-8 shape-the_row-Expr-0 shape-the_row-Expr-1 shape-the_row-Expr-2 shape-arguments shape-the_row-Init-0 shape-the_row-Initializer-0 shape-the_row-Member-7 shape-the_row-Param-5 shape-the_row-Place-1 shape-the_row-Spec-3 shape-the_row-Stmt-0 shape-unit-0 shape-unit-1 shape-the_row-TypeName-4 indirection element member access address unevaluated size size_of_expression size_of_type plain_assignment number_update pointer_update compound_assignment assignment step_update step spine fresh callee_in callee passed call worth is_null number_constant converted cast typedef_declared function_named variable_named init_declarator declaration file_declaration block_name block_declaration defined_name definition pointer_part array_part function_part made parameter type_name member_of_type_rules_declarators with_argument function_type body_read pointer_word initial_word initializer_words initial_values scalar text_fits by_name by_expression part finished by_list count initial_size initialized number_in character_in text_in text_initially as_value operand lvalue promoted in_sign pair_of stride arithmetic_on shift_on pointer_in_common equality_on logical_on operation sign_operation negation chosen_type chosen alternatives choice name number character holds_initially string_object text_found text parenthesised and_then name_number scoped expression value size_of typedef_name tagged_structure structure_name structure tagged_enumeration enumeration_name enumeration enumerator evaluated condition expression_statement block selection_of selection while_loop do_loop for_turns for_loop returned with_items list_behind block_items statement outermost_effects with_effects typed parts_of exceeded outcome likeness_of each_likeness signature_likeness_of conversion union conflict effects_of merged added shared points_to target_effects without_outer_effects same without_effects words_of opening_of automatics PlaceKeeps InitializerKeeps StmtKeeps row_type place_nodes initializer_nodes stmt_nodes places place_spots initializer_spots stmt_spots callee_of stores structure_in IsWithin AreVariables IsTypedPlace IsInitializer IsTypedStmt place_type packed
whole_56 = refl

-- struct s; int f(struct s *p) { return «here» p->a; }
whole_57 : first_fault (codes "struct s; int f(struct s *p) { return p->a; }") (record { externals = (external.Declaration (record { place = 0; specs = (spec.StructName 0 (sp 7 8) ∷ []); declarators = [] }) ∷ external.Function (record { place = 10; specs = (spec.Type 10 type_word.Int ∷ []); declarator = (of_declarator.Function (of_declarator.Name (sp 14 15)) 15 (params.List ((record { place = 16; specs = (spec.StructName 16 (sp 23 24) ∷ []); declarator = (of_declarator.Pointer 25 [] (of_declarator.Name (sp 26 27))) }) ∷ [])) []); body_place = 29; body = (item.Statement (stmt.Return 31 (Some (expr.Access 38 (expr.Name (sp 38 39)) access.Arrow (sp 41 42)))) ∷ []) }) ∷ []) }) ≡ Some (10, 38)
unfolding hidden hidden-the_row-BlockItem-1 hidden-the_row-CType-0 hidden-the_row-CType-1 hidden-the_row-Declarator-0 hidden-the_row-Declarator-6 hidden-the_row-Enumerator-8 hidden-the_row-Expr-0 hidden-the_row-Expr-1 hidden-the_row-Expr-2 hidden-arguments hidden-the_row-Init-0 hidden-the_row-Initializer-0 hidden-the_row-Member-7 hidden-the_row-Param-5 hidden-the_row-Place-1 hidden-the_row-Spec-3 hidden-the_row-Stmt-0 hidden-unit-0 hidden-unit-1 hidden-the_row-TypeName-4 shape-the_row-BlockItem-1 shape-the_row-CType-0 shape-the_row-CType-1 shape-the_row-Declarator-0 shape-the_row-Declarator-6 shape-the_row-Enumerator-8 shape-the_row-Expr-0 shape-the_row-Expr-1 shape-the_row-Expr-2 shape-arguments shape-the_row-Init-0 shape-the_row-Initializer-0 shape-the_row-Member-7 shape-the_row-Param-5 shape-the_row-Place-1 shape-the_row-Spec-3 shape-the_row-Stmt-0 shape-unit-0 shape-unit-1 shape-the_row-TypeName-4 indirection element member access address unevaluated size size_of_expression size_of_type plain_assignment number_update pointer_update compound_assignment assignment step_update step spine fresh callee_in callee passed call worth is_null number_constant converted cast typedef_declared function_named variable_named init_declarator declaration file_declaration block_name block_declaration defined_name definition pointer_part array_part function_part made parameter type_name member_of_type_rules_declarators with_argument function_type body_read pointer_word initial_word initializer_words initial_values scalar text_fits by_name by_expression part finished by_list count initial_size initialized number_in character_in text_in text_initially as_value operand lvalue promoted in_sign pair_of stride arithmetic_on shift_on pointer_in_common equality_on logical_on operation sign_operation negation chosen_type chosen alternatives choice name number character holds_initially string_object text_found text parenthesised and_then name_number scoped expression value size_of typedef_name tagged_structure structure_name structure tagged_enumeration enumeration_name enumeration enumerator evaluated condition expression_statement block selection_of selection while_loop do_loop for_turns for_loop returned with_items list_behind block_items statement outermost_effects with_effects typed parts_of exceeded outcome likeness_of each_likeness signature_likeness_of conversion union conflict effects_of merged added shared points_to target_effects without_outer_effects same without_effects words_of opening_of automatics PlaceKeeps InitializerKeeps StmtKeeps row_type place_nodes initializer_nodes stmt_nodes places place_spots initializer_spots stmt_spots callee_of stores structure_in IsWithin AreVariables IsTypedPlace IsInitializer IsTypedStmt place_type packed
whole_57 = refl

-- struct s { int a; } x; void f(void) { x.«here» a2; }
whole_58 : first_fault (codes "struct s { int a; } x; void f(void) { x.a2; }") (record { externals = (external.Declaration (record { place = 0; specs = (spec.Struct 0 (Some (sp 7 8)) ((record { place = 11; specs = (spec.Type 11 type_word.Int ∷ []); declarators = ((of_declarator.Name (sp 15 16)) ∷ []) }) ∷ []) ∷ []); declarators = ((record { declarator = (of_declarator.Name (sp 20 21)); init = None }) ∷ []) }) ∷ external.Function (record { place = 23; specs = (spec.Type 23 type_word.Void ∷ []); declarator = (of_declarator.Function (of_declarator.Name (sp 28 29)) 29 (params.Void 30) []); body_place = 36; body = (item.Statement (stmt.Expression 38 (Some (expr.Access 38 (expr.Name (sp 38 39)) access.Dot (sp 40 42)))) ∷ []) }) ∷ []) }) ≡ Some (8, 40)
unfolding hidden hidden-the_row-BlockItem-1 hidden-the_row-CType-0 hidden-the_row-CType-1 hidden-the_row-Declarator-0 hidden-the_row-Declarator-6 hidden-the_row-Enumerator-8 hidden-the_row-Expr-0 hidden-the_row-Expr-1 hidden-the_row-Expr-2 hidden-arguments hidden-the_row-Init-0 hidden-the_row-Initializer-0 hidden-the_row-Member-7 hidden-the_row-Param-5 hidden-the_row-Place-1 hidden-the_row-Spec-3 hidden-the_row-Stmt-0 hidden-unit-0 hidden-unit-1 hidden-the_row-TypeName-4 shape-the_row-BlockItem-1 shape-the_row-CType-0 shape-the_row-CType-1 shape-the_row-Declarator-0 shape-the_row-Declarator-6 shape-the_row-Enumerator-8 shape-the_row-Expr-0 shape-the_row-Expr-1 shape-the_row-Expr-2 shape-arguments shape-the_row-Init-0 shape-the_row-Initializer-0 shape-the_row-Member-7 shape-the_row-Param-5 shape-the_row-Place-1 shape-the_row-Spec-3 shape-the_row-Stmt-0 shape-unit-0 shape-unit-1 shape-the_row-TypeName-4 indirection element member access address unevaluated size size_of_expression size_of_type plain_assignment number_update pointer_update compound_assignment assignment step_update step spine fresh callee_in callee passed call worth is_null number_constant converted cast typedef_declared function_named variable_named init_declarator declaration file_declaration block_name block_declaration defined_name definition pointer_part array_part function_part made parameter type_name member_of_type_rules_declarators with_argument function_type body_read pointer_word initial_word initializer_words initial_values scalar text_fits by_name by_expression part finished by_list count initial_size initialized number_in character_in text_in text_initially as_value operand lvalue promoted in_sign pair_of stride arithmetic_on shift_on pointer_in_common equality_on logical_on operation sign_operation negation chosen_type chosen alternatives choice name number character holds_initially string_object text_found text parenthesised and_then name_number scoped expression value size_of typedef_name tagged_structure structure_name structure tagged_enumeration enumeration_name enumeration enumerator evaluated condition expression_statement block selection_of selection while_loop do_loop for_turns for_loop returned with_items list_behind block_items statement outermost_effects with_effects typed parts_of exceeded outcome likeness_of each_likeness signature_likeness_of conversion union conflict effects_of merged added shared points_to target_effects without_outer_effects same without_effects words_of opening_of automatics PlaceKeeps InitializerKeeps StmtKeeps row_type place_nodes initializer_nodes stmt_nodes places place_spots initializer_spots stmt_spots callee_of stores structure_in IsWithin AreVariables IsTypedPlace IsInitializer IsTypedStmt place_type packed
whole_58 = refl

-- int a[3]; void f(void) { «here» a = 0; }
whole_59 : first_fault (codes "int a[3]; void f(void) { a = 0; }") (record { externals = (external.Declaration (record { place = 0; specs = (spec.Type 0 type_word.Int ∷ []); declarators = ((record { declarator = (of_declarator.Array (of_declarator.Name (sp 4 5)) 5 (Some (expr.Number (sp 6 7)))); init = None }) ∷ []) }) ∷ external.Function (record { place = 10; specs = (spec.Type 10 type_word.Void ∷ []); declarator = (of_declarator.Function (of_declarator.Name (sp 15 16)) 16 (params.Void 17) []); body_place = 23; body = (item.Statement (stmt.Expression 25 (Some (expr.Assignment 25 (expr.Name (sp 25 26)) assignment.Plain 27 (expr.Number (sp 29 30))))) ∷ []) }) ∷ []) }) ≡ Some (3, 25)
unfolding hidden hidden-the_row-BlockItem-1 hidden-the_row-CType-0 hidden-the_row-CType-1 hidden-the_row-Declarator-0 hidden-the_row-Declarator-6 hidden-the_row-Enumerator-8 hidden-the_row-Expr-0 hidden-the_row-Expr-1 hidden-the_row-Expr-2 hidden-arguments hidden-the_row-Init-0 hidden-the_row-Initializer-0 hidden-the_row-Member-7 hidden-the_row-Param-5 hidden-the_row-Place-1 hidden-the_row-Spec-3 hidden-the_row-Stmt-0 hidden-unit-0 hidden-unit-1 hidden-the_row-TypeName-4 shape-the_row-BlockItem-1 shape-the_row-CType-0 shape-the_row-CType-1 shape-the_row-Declarator-0 shape-the_row-Declarator-6 shape-the_row-Enumerator-8 shape-the_row-Expr-0 shape-the_row-Expr-1 shape-the_row-Expr-2 shape-arguments shape-the_row-Init-0 shape-the_row-Initializer-0 shape-the_row-Member-7 shape-the_row-Param-5 shape-the_row-Place-1 shape-the_row-Spec-3 shape-the_row-Stmt-0 shape-unit-0 shape-unit-1 shape-the_row-TypeName-4 indirection element member access address unevaluated size size_of_expression size_of_type plain_assignment number_update pointer_update compound_assignment assignment step_update step spine fresh callee_in callee passed call worth is_null number_constant converted cast typedef_declared function_named variable_named init_declarator declaration file_declaration block_name block_declaration defined_name definition pointer_part array_part function_part made parameter type_name member_of_type_rules_declarators with_argument function_type body_read pointer_word initial_word initializer_words initial_values scalar text_fits by_name by_expression part finished by_list count initial_size initialized number_in character_in text_in text_initially as_value operand lvalue promoted in_sign pair_of stride arithmetic_on shift_on pointer_in_common equality_on logical_on operation sign_operation negation chosen_type chosen alternatives choice name number character holds_initially string_object text_found text parenthesised and_then name_number scoped expression value size_of typedef_name tagged_structure structure_name structure tagged_enumeration enumeration_name enumeration enumerator evaluated condition expression_statement block selection_of selection while_loop do_loop for_turns for_loop returned with_items list_behind block_items statement outermost_effects with_effects typed parts_of exceeded outcome likeness_of each_likeness signature_likeness_of conversion union conflict effects_of merged added shared points_to target_effects without_outer_effects same without_effects words_of opening_of automatics PlaceKeeps InitializerKeeps StmtKeeps row_type place_nodes initializer_nodes stmt_nodes places place_spots initializer_spots stmt_spots callee_of stores structure_in IsWithin AreVariables IsTypedPlace IsInitializer IsTypedStmt place_type packed
whole_59 = refl

-- int f(void); void g(void) { «here» f = 0; }
whole_60 : first_fault (codes "int f(void); void g(void) { f = 0; }") (record { externals = (external.Declaration (record { place = 0; specs = (spec.Type 0 type_word.Int ∷ []); declarators = ((record { declarator = (of_declarator.Function (of_declarator.Name (sp 4 5)) 5 (params.Void 6) []); init = None }) ∷ []) }) ∷ external.Function (record { place = 13; specs = (spec.Type 13 type_word.Void ∷ []); declarator = (of_declarator.Function (of_declarator.Name (sp 18 19)) 19 (params.Void 20) []); body_place = 26; body = (item.Statement (stmt.Expression 28 (Some (expr.Assignment 28 (expr.Name (sp 28 29)) assignment.Plain 30 (expr.Number (sp 32 33))))) ∷ []) }) ∷ []) }) ≡ Some (3, 28)
unfolding hidden hidden-the_row-BlockItem-1 hidden-the_row-CType-0 hidden-the_row-CType-1 hidden-the_row-Declarator-0 hidden-the_row-Declarator-6 hidden-the_row-Enumerator-8 hidden-the_row-Expr-0 hidden-the_row-Expr-1 hidden-the_row-Expr-2 hidden-arguments hidden-the_row-Init-0 hidden-the_row-Initializer-0 hidden-the_row-Member-7 hidden-the_row-Param-5 hidden-the_row-Place-1 hidden-the_row-Spec-3 hidden-the_row-Stmt-0 hidden-unit-0 hidden-unit-1 hidden-the_row-TypeName-4 shape-the_row-BlockItem-1 shape-the_row-CType-0 shape-the_row-CType-1 shape-the_row-Declarator-0 shape-the_row-Declarator-6 shape-the_row-Enumerator-8 shape-the_row-Expr-0 shape-the_row-Expr-1 shape-the_row-Expr-2 shape-arguments shape-the_row-Init-0 shape-the_row-Initializer-0 shape-the_row-Member-7 shape-the_row-Param-5 shape-the_row-Place-1 shape-the_row-Spec-3 shape-the_row-Stmt-0 shape-unit-0 shape-unit-1 shape-the_row-TypeName-4 indirection element member access address unevaluated size size_of_expression size_of_type plain_assignment number_update pointer_update compound_assignment assignment step_update step spine fresh callee_in callee passed call worth is_null number_constant converted cast typedef_declared function_named variable_named init_declarator declaration file_declaration block_name block_declaration defined_name definition pointer_part array_part function_part made parameter type_name member_of_type_rules_declarators with_argument function_type body_read pointer_word initial_word initializer_words initial_values scalar text_fits by_name by_expression part finished by_list count initial_size initialized number_in character_in text_in text_initially as_value operand lvalue promoted in_sign pair_of stride arithmetic_on shift_on pointer_in_common equality_on logical_on operation sign_operation negation chosen_type chosen alternatives choice name number character holds_initially string_object text_found text parenthesised and_then name_number scoped expression value size_of typedef_name tagged_structure structure_name structure tagged_enumeration enumeration_name enumeration enumerator evaluated condition expression_statement block selection_of selection while_loop do_loop for_turns for_loop returned with_items list_behind block_items statement outermost_effects with_effects typed parts_of exceeded outcome likeness_of each_likeness signature_likeness_of conversion union conflict effects_of merged added shared points_to target_effects without_outer_effects same without_effects words_of opening_of automatics PlaceKeeps InitializerKeeps StmtKeeps row_type place_nodes initializer_nodes stmt_nodes places place_spots initializer_spots stmt_spots callee_of stores structure_in IsWithin AreVariables IsTypedPlace IsInitializer IsTypedStmt place_type packed
whole_60 = refl

-- void g(void) { «here» 1++; }
whole_61 : first_fault (codes "void g(void) { 1++; }") (record { externals = (external.Function (record { place = 0; specs = (spec.Type 0 type_word.Void ∷ []); declarator = (of_declarator.Function (of_declarator.Name (sp 5 6)) 6 (params.Void 7) []); body_place = 13; body = (item.Statement (stmt.Expression 15 (Some (expr.Step 15 (expr.Number (sp 15 16)) step.Increment))) ∷ []) }) ∷ []) }) ≡ Some (6, 15)
unfolding hidden hidden-the_row-BlockItem-1 hidden-the_row-CType-0 hidden-the_row-CType-1 hidden-the_row-Declarator-0 hidden-the_row-Declarator-6 hidden-the_row-Enumerator-8 hidden-the_row-Expr-0 hidden-the_row-Expr-1 hidden-the_row-Expr-2 hidden-arguments hidden-the_row-Init-0 hidden-the_row-Initializer-0 hidden-the_row-Member-7 hidden-the_row-Param-5 hidden-the_row-Place-1 hidden-the_row-Spec-3 hidden-the_row-Stmt-0 hidden-unit-0 hidden-unit-1 hidden-the_row-TypeName-4 shape-the_row-BlockItem-1 shape-the_row-CType-0 shape-the_row-CType-1 shape-the_row-Declarator-0 shape-the_row-Declarator-6 shape-the_row-Enumerator-8 shape-the_row-Expr-0 shape-the_row-Expr-1 shape-the_row-Expr-2 shape-arguments shape-the_row-Init-0 shape-the_row-Initializer-0 shape-the_row-Member-7 shape-the_row-Param-5 shape-the_row-Place-1 shape-the_row-Spec-3 shape-the_row-Stmt-0 shape-unit-0 shape-unit-1 shape-the_row-TypeName-4 indirection element member access address unevaluated size size_of_expression size_of_type plain_assignment number_update pointer_update compound_assignment assignment step_update step spine fresh callee_in callee passed call worth is_null number_constant converted cast typedef_declared function_named variable_named init_declarator declaration file_declaration block_name block_declaration defined_name definition pointer_part array_part function_part made parameter type_name member_of_type_rules_declarators with_argument function_type body_read pointer_word initial_word initializer_words initial_values scalar text_fits by_name by_expression part finished by_list count initial_size initialized number_in character_in text_in text_initially as_value operand lvalue promoted in_sign pair_of stride arithmetic_on shift_on pointer_in_common equality_on logical_on operation sign_operation negation chosen_type chosen alternatives choice name number character holds_initially string_object text_found text parenthesised and_then name_number scoped expression value size_of typedef_name tagged_structure structure_name structure tagged_enumeration enumeration_name enumeration enumerator evaluated condition expression_statement block selection_of selection while_loop do_loop for_turns for_loop returned with_items list_behind block_items statement outermost_effects with_effects typed parts_of exceeded outcome likeness_of each_likeness signature_likeness_of conversion union conflict effects_of merged added shared points_to target_effects without_outer_effects same without_effects words_of opening_of automatics PlaceKeeps InitializerKeeps StmtKeeps row_type place_nodes initializer_nodes stmt_nodes places place_spots initializer_spots stmt_spots callee_of stores structure_in IsWithin AreVariables IsTypedPlace IsInitializer IsTypedStmt place_type packed
whole_61 = refl

-- int x; void g(void) { &«here» (x + 1); }
whole_62 : first_fault (codes "int x; void g(void) { &(x + 1); }") (record { externals = (external.Declaration (record { place = 0; specs = (spec.Type 0 type_word.Int ∷ []); declarators = ((record { declarator = (of_declarator.Name (sp 4 5)); init = None }) ∷ []) }) ∷ external.Function (record { place = 7; specs = (spec.Type 7 type_word.Void ∷ []); declarator = (of_declarator.Function (of_declarator.Name (sp 12 13)) 13 (params.Void 14) []); body_place = 20; body = (item.Statement (stmt.Expression 22 (Some (expr.Unary 22 unary.Address (expr.Parenthesised 23 (expr.Binary 24 (expr.Name (sp 24 25)) binary.Add 26 (expr.Number (sp 28 29))))))) ∷ []) }) ∷ []) }) ≡ Some (6, 23)
unfolding hidden hidden-the_row-BlockItem-1 hidden-the_row-CType-0 hidden-the_row-CType-1 hidden-the_row-Declarator-0 hidden-the_row-Declarator-6 hidden-the_row-Enumerator-8 hidden-the_row-Expr-0 hidden-the_row-Expr-1 hidden-the_row-Expr-2 hidden-arguments hidden-the_row-Init-0 hidden-the_row-Initializer-0 hidden-the_row-Member-7 hidden-the_row-Param-5 hidden-the_row-Place-1 hidden-the_row-Spec-3 hidden-the_row-Stmt-0 hidden-unit-0 hidden-unit-1 hidden-the_row-TypeName-4 shape-the_row-BlockItem-1 shape-the_row-CType-0 shape-the_row-CType-1 shape-the_row-Declarator-0 shape-the_row-Declarator-6 shape-the_row-Enumerator-8 shape-the_row-Expr-0 shape-the_row-Expr-1 shape-the_row-Expr-2 shape-arguments shape-the_row-Init-0 shape-the_row-Initializer-0 shape-the_row-Member-7 shape-the_row-Param-5 shape-the_row-Place-1 shape-the_row-Spec-3 shape-the_row-Stmt-0 shape-unit-0 shape-unit-1 shape-the_row-TypeName-4 indirection element member access address unevaluated size size_of_expression size_of_type plain_assignment number_update pointer_update compound_assignment assignment step_update step spine fresh callee_in callee passed call worth is_null number_constant converted cast typedef_declared function_named variable_named init_declarator declaration file_declaration block_name block_declaration defined_name definition pointer_part array_part function_part made parameter type_name member_of_type_rules_declarators with_argument function_type body_read pointer_word initial_word initializer_words initial_values scalar text_fits by_name by_expression part finished by_list count initial_size initialized number_in character_in text_in text_initially as_value operand lvalue promoted in_sign pair_of stride arithmetic_on shift_on pointer_in_common equality_on logical_on operation sign_operation negation chosen_type chosen alternatives choice name number character holds_initially string_object text_found text parenthesised and_then name_number scoped expression value size_of typedef_name tagged_structure structure_name structure tagged_enumeration enumeration_name enumeration enumerator evaluated condition expression_statement block selection_of selection while_loop do_loop for_turns for_loop returned with_items list_behind block_items statement outermost_effects with_effects typed parts_of exceeded outcome likeness_of each_likeness signature_likeness_of conversion union conflict effects_of merged added shared points_to target_effects without_outer_effects same without_effects words_of opening_of automatics PlaceKeeps InitializerKeeps StmtKeeps row_type place_nodes initializer_nodes stmt_nodes places place_spots initializer_spots stmt_spots callee_of stores structure_in IsWithin AreVariables IsTypedPlace IsInitializer IsTypedStmt place_type packed
whole_62 = refl

-- void h(int); void g(void) { «here» h(); }
whole_63 : first_fault (codes "void h(int); void g(void) { h(); }") (record { externals = (external.Declaration (record { place = 0; specs = (spec.Type 0 type_word.Void ∷ []); declarators = ((record { declarator = (of_declarator.Function (of_declarator.Name (sp 5 6)) 6 (params.List ((record { place = 7; specs = (spec.Type 7 type_word.Int ∷ []); declarator = of_declarator.Absent }) ∷ [])) []); init = None }) ∷ []) }) ∷ external.Function (record { place = 13; specs = (spec.Type 13 type_word.Void ∷ []); declarator = (of_declarator.Function (of_declarator.Name (sp 18 19)) 19 (params.Void 20) []); body_place = 26; body = (item.Statement (stmt.Expression 28 (Some (expr.Call 28 (expr.Name (sp 28 29)) []))) ∷ []) }) ∷ []) }) ≡ Some (5, 28)
unfolding hidden hidden-the_row-BlockItem-1 hidden-the_row-CType-0 hidden-the_row-CType-1 hidden-the_row-Declarator-0 hidden-the_row-Declarator-6 hidden-the_row-Enumerator-8 hidden-the_row-Expr-0 hidden-the_row-Expr-1 hidden-the_row-Expr-2 hidden-arguments hidden-the_row-Init-0 hidden-the_row-Initializer-0 hidden-the_row-Member-7 hidden-the_row-Param-5 hidden-the_row-Place-1 hidden-the_row-Spec-3 hidden-the_row-Stmt-0 hidden-unit-0 hidden-unit-1 hidden-the_row-TypeName-4 shape-the_row-BlockItem-1 shape-the_row-CType-0 shape-the_row-CType-1 shape-the_row-Declarator-0 shape-the_row-Declarator-6 shape-the_row-Enumerator-8 shape-the_row-Expr-0 shape-the_row-Expr-1 shape-the_row-Expr-2 shape-arguments shape-the_row-Init-0 shape-the_row-Initializer-0 shape-the_row-Member-7 shape-the_row-Param-5 shape-the_row-Place-1 shape-the_row-Spec-3 shape-the_row-Stmt-0 shape-unit-0 shape-unit-1 shape-the_row-TypeName-4 indirection element member access address unevaluated size size_of_expression size_of_type plain_assignment number_update pointer_update compound_assignment assignment step_update step spine fresh callee_in callee passed call worth is_null number_constant converted cast typedef_declared function_named variable_named init_declarator declaration file_declaration block_name block_declaration defined_name definition pointer_part array_part function_part made parameter type_name member_of_type_rules_declarators with_argument function_type body_read pointer_word initial_word initializer_words initial_values scalar text_fits by_name by_expression part finished by_list count initial_size initialized number_in character_in text_in text_initially as_value operand lvalue promoted in_sign pair_of stride arithmetic_on shift_on pointer_in_common equality_on logical_on operation sign_operation negation chosen_type chosen alternatives choice name number character holds_initially string_object text_found text parenthesised and_then name_number scoped expression value size_of typedef_name tagged_structure structure_name structure tagged_enumeration enumeration_name enumeration enumerator evaluated condition expression_statement block selection_of selection while_loop do_loop for_turns for_loop returned with_items list_behind block_items statement outermost_effects with_effects typed parts_of exceeded outcome likeness_of each_likeness signature_likeness_of conversion union conflict effects_of merged added shared points_to target_effects without_outer_effects same without_effects words_of opening_of automatics PlaceKeeps InitializerKeeps StmtKeeps row_type place_nodes initializer_nodes stmt_nodes places place_spots initializer_spots stmt_spots callee_of stores structure_in IsWithin AreVariables IsTypedPlace IsInitializer IsTypedStmt place_type packed
whole_63 = refl

-- void h(int); void g(void) { «here» h(1, 2); }
whole_64 : first_fault (codes "void h(int); void g(void) { h(1, 2); }") (record { externals = (external.Declaration (record { place = 0; specs = (spec.Type 0 type_word.Void ∷ []); declarators = ((record { declarator = (of_declarator.Function (of_declarator.Name (sp 5 6)) 6 (params.List ((record { place = 7; specs = (spec.Type 7 type_word.Int ∷ []); declarator = of_declarator.Absent }) ∷ [])) []); init = None }) ∷ []) }) ∷ external.Function (record { place = 13; specs = (spec.Type 13 type_word.Void ∷ []); declarator = (of_declarator.Function (of_declarator.Name (sp 18 19)) 19 (params.Void 20) []); body_place = 26; body = (item.Statement (stmt.Expression 28 (Some (expr.Call 28 (expr.Name (sp 28 29)) ((expr.Number (sp 30 31)) ∷ (expr.Number (sp 33 34)) ∷ [])))) ∷ []) }) ∷ []) }) ≡ Some (5, 28)
unfolding hidden hidden-the_row-BlockItem-1 hidden-the_row-CType-0 hidden-the_row-CType-1 hidden-the_row-Declarator-0 hidden-the_row-Declarator-6 hidden-the_row-Enumerator-8 hidden-the_row-Expr-0 hidden-the_row-Expr-1 hidden-the_row-Expr-2 hidden-arguments hidden-the_row-Init-0 hidden-the_row-Initializer-0 hidden-the_row-Member-7 hidden-the_row-Param-5 hidden-the_row-Place-1 hidden-the_row-Spec-3 hidden-the_row-Stmt-0 hidden-unit-0 hidden-unit-1 hidden-the_row-TypeName-4 shape-the_row-BlockItem-1 shape-the_row-CType-0 shape-the_row-CType-1 shape-the_row-Declarator-0 shape-the_row-Declarator-6 shape-the_row-Enumerator-8 shape-the_row-Expr-0 shape-the_row-Expr-1 shape-the_row-Expr-2 shape-arguments shape-the_row-Init-0 shape-the_row-Initializer-0 shape-the_row-Member-7 shape-the_row-Param-5 shape-the_row-Place-1 shape-the_row-Spec-3 shape-the_row-Stmt-0 shape-unit-0 shape-unit-1 shape-the_row-TypeName-4 indirection element member access address unevaluated size size_of_expression size_of_type plain_assignment number_update pointer_update compound_assignment assignment step_update step spine fresh callee_in callee passed call worth is_null number_constant converted cast typedef_declared function_named variable_named init_declarator declaration file_declaration block_name block_declaration defined_name definition pointer_part array_part function_part made parameter type_name member_of_type_rules_declarators with_argument function_type body_read pointer_word initial_word initializer_words initial_values scalar text_fits by_name by_expression part finished by_list count initial_size initialized number_in character_in text_in text_initially as_value operand lvalue promoted in_sign pair_of stride arithmetic_on shift_on pointer_in_common equality_on logical_on operation sign_operation negation chosen_type chosen alternatives choice name number character holds_initially string_object text_found text parenthesised and_then name_number scoped expression value size_of typedef_name tagged_structure structure_name structure tagged_enumeration enumeration_name enumeration enumerator evaluated condition expression_statement block selection_of selection while_loop do_loop for_turns for_loop returned with_items list_behind block_items statement outermost_effects with_effects typed parts_of exceeded outcome likeness_of each_likeness signature_likeness_of conversion union conflict effects_of merged added shared points_to target_effects without_outer_effects same without_effects words_of opening_of automatics PlaceKeeps InitializerKeeps StmtKeeps row_type place_nodes initializer_nodes stmt_nodes places place_spots initializer_spots stmt_spots callee_of stores structure_in IsWithin AreVariables IsTypedPlace IsInitializer IsTypedStmt place_type packed
whole_64 = refl

-- void h(int *); void g(void) { h(«here» 1); }
whole_65 : first_fault (codes "void h(int *); void g(void) { h(1); }") (record { externals = (external.Declaration (record { place = 0; specs = (spec.Type 0 type_word.Void ∷ []); declarators = ((record { declarator = (of_declarator.Function (of_declarator.Name (sp 5 6)) 6 (params.List ((record { place = 7; specs = (spec.Type 7 type_word.Int ∷ []); declarator = (of_declarator.Pointer 11 [] of_declarator.Absent) }) ∷ [])) []); init = None }) ∷ []) }) ∷ external.Function (record { place = 15; specs = (spec.Type 15 type_word.Void ∷ []); declarator = (of_declarator.Function (of_declarator.Name (sp 20 21)) 21 (params.Void 22) []); body_place = 28; body = (item.Statement (stmt.Expression 30 (Some (expr.Call 30 (expr.Name (sp 30 31)) ((expr.Number (sp 32 33)) ∷ [])))) ∷ []) }) ∷ []) }) ≡ Some (11, 32)
unfolding hidden hidden-the_row-BlockItem-1 hidden-the_row-CType-0 hidden-the_row-CType-1 hidden-the_row-Declarator-0 hidden-the_row-Declarator-6 hidden-the_row-Enumerator-8 hidden-the_row-Expr-0 hidden-the_row-Expr-1 hidden-the_row-Expr-2 hidden-arguments hidden-the_row-Init-0 hidden-the_row-Initializer-0 hidden-the_row-Member-7 hidden-the_row-Param-5 hidden-the_row-Place-1 hidden-the_row-Spec-3 hidden-the_row-Stmt-0 hidden-unit-0 hidden-unit-1 hidden-the_row-TypeName-4 shape-the_row-BlockItem-1 shape-the_row-CType-0 shape-the_row-CType-1 shape-the_row-Declarator-0 shape-the_row-Declarator-6 shape-the_row-Enumerator-8 shape-the_row-Expr-0 shape-the_row-Expr-1 shape-the_row-Expr-2 shape-arguments shape-the_row-Init-0 shape-the_row-Initializer-0 shape-the_row-Member-7 shape-the_row-Param-5 shape-the_row-Place-1 shape-the_row-Spec-3 shape-the_row-Stmt-0 shape-unit-0 shape-unit-1 shape-the_row-TypeName-4 indirection element member access address unevaluated size size_of_expression size_of_type plain_assignment number_update pointer_update compound_assignment assignment step_update step spine fresh callee_in callee passed call worth is_null number_constant converted cast typedef_declared function_named variable_named init_declarator declaration file_declaration block_name block_declaration defined_name definition pointer_part array_part function_part made parameter type_name member_of_type_rules_declarators with_argument function_type body_read pointer_word initial_word initializer_words initial_values scalar text_fits by_name by_expression part finished by_list count initial_size initialized number_in character_in text_in text_initially as_value operand lvalue promoted in_sign pair_of stride arithmetic_on shift_on pointer_in_common equality_on logical_on operation sign_operation negation chosen_type chosen alternatives choice name number character holds_initially string_object text_found text parenthesised and_then name_number scoped expression value size_of typedef_name tagged_structure structure_name structure tagged_enumeration enumeration_name enumeration enumerator evaluated condition expression_statement block selection_of selection while_loop do_loop for_turns for_loop returned with_items list_behind block_items statement outermost_effects with_effects typed parts_of exceeded outcome likeness_of each_likeness signature_likeness_of conversion union conflict effects_of merged added shared points_to target_effects without_outer_effects same without_effects words_of opening_of automatics PlaceKeeps InitializerKeeps StmtKeeps row_type place_nodes initializer_nodes stmt_nodes places place_spots initializer_spots stmt_spots callee_of stores structure_in IsWithin AreVariables IsTypedPlace IsInitializer IsTypedStmt place_type packed
whole_65 = refl

-- int *p; void g(void) { p = «here» 3; }
whole_66 : first_fault (codes "int *p; void g(void) { p = 3; }") (record { externals = (external.Declaration (record { place = 0; specs = (spec.Type 0 type_word.Int ∷ []); declarators = ((record { declarator = (of_declarator.Pointer 4 [] (of_declarator.Name (sp 5 6))); init = None }) ∷ []) }) ∷ external.Function (record { place = 8; specs = (spec.Type 8 type_word.Void ∷ []); declarator = (of_declarator.Function (of_declarator.Name (sp 13 14)) 14 (params.Void 15) []); body_place = 21; body = (item.Statement (stmt.Expression 23 (Some (expr.Assignment 23 (expr.Name (sp 23 24)) assignment.Plain 25 (expr.Number (sp 27 28))))) ∷ []) }) ∷ []) }) ≡ Some (11, 27)
unfolding hidden hidden-the_row-BlockItem-1 hidden-the_row-CType-0 hidden-the_row-CType-1 hidden-the_row-Declarator-0 hidden-the_row-Declarator-6 hidden-the_row-Enumerator-8 hidden-the_row-Expr-0 hidden-the_row-Expr-1 hidden-the_row-Expr-2 hidden-arguments hidden-the_row-Init-0 hidden-the_row-Initializer-0 hidden-the_row-Member-7 hidden-the_row-Param-5 hidden-the_row-Place-1 hidden-the_row-Spec-3 hidden-the_row-Stmt-0 hidden-unit-0 hidden-unit-1 hidden-the_row-TypeName-4 shape-the_row-BlockItem-1 shape-the_row-CType-0 shape-the_row-CType-1 shape-the_row-Declarator-0 shape-the_row-Declarator-6 shape-the_row-Enumerator-8 shape-the_row-Expr-0 shape-the_row-Expr-1 shape-the_row-Expr-2 shape-arguments shape-the_row-Init-0 shape-the_row-Initializer-0 shape-the_row-Member-7 shape-the_row-Param-5 shape-the_row-Place-1 shape-the_row-Spec-3 shape-the_row-Stmt-0 shape-unit-0 shape-unit-1 shape-the_row-TypeName-4 indirection element member access address unevaluated size size_of_expression size_of_type plain_assignment number_update pointer_update compound_assignment assignment step_update step spine fresh callee_in callee passed call worth is_null number_constant converted cast typedef_declared function_named variable_named init_declarator declaration file_declaration block_name block_declaration defined_name definition pointer_part array_part function_part made parameter type_name member_of_type_rules_declarators with_argument function_type body_read pointer_word initial_word initializer_words initial_values scalar text_fits by_name by_expression part finished by_list count initial_size initialized number_in character_in text_in text_initially as_value operand lvalue promoted in_sign pair_of stride arithmetic_on shift_on pointer_in_common equality_on logical_on operation sign_operation negation chosen_type chosen alternatives choice name number character holds_initially string_object text_found text parenthesised and_then name_number scoped expression value size_of typedef_name tagged_structure structure_name structure tagged_enumeration enumeration_name enumeration enumerator evaluated condition expression_statement block selection_of selection while_loop do_loop for_turns for_loop returned with_items list_behind block_items statement outermost_effects with_effects typed parts_of exceeded outcome likeness_of each_likeness signature_likeness_of conversion union conflict effects_of merged added shared points_to target_effects without_outer_effects same without_effects words_of opening_of automatics PlaceKeeps InitializerKeeps StmtKeeps row_type place_nodes initializer_nodes stmt_nodes places place_spots initializer_spots stmt_spots callee_of stores structure_in IsWithin AreVariables IsTypedPlace IsInitializer IsTypedStmt place_type packed
whole_66 = refl

-- char *c; int *p; void g(void) { p = «here» c; }
whole_67 : first_fault (codes "char *c; int *p; void g(void) { p = c; }") (record { externals = (external.Declaration (record { place = 0; specs = (spec.Type 0 type_word.Char ∷ []); declarators = ((record { declarator = (of_declarator.Pointer 5 [] (of_declarator.Name (sp 6 7))); init = None }) ∷ []) }) ∷ external.Declaration (record { place = 9; specs = (spec.Type 9 type_word.Int ∷ []); declarators = ((record { declarator = (of_declarator.Pointer 13 [] (of_declarator.Name (sp 14 15))); init = None }) ∷ []) }) ∷ external.Function (record { place = 17; specs = (spec.Type 17 type_word.Void ∷ []); declarator = (of_declarator.Function (of_declarator.Name (sp 22 23)) 23 (params.Void 24) []); body_place = 30; body = (item.Statement (stmt.Expression 32 (Some (expr.Assignment 32 (expr.Name (sp 32 33)) assignment.Plain 34 (expr.Name (sp 36 37))))) ∷ []) }) ∷ []) }) ≡ Some (3, 36)
unfolding hidden hidden-the_row-BlockItem-1 hidden-the_row-CType-0 hidden-the_row-CType-1 hidden-the_row-Declarator-0 hidden-the_row-Declarator-6 hidden-the_row-Enumerator-8 hidden-the_row-Expr-0 hidden-the_row-Expr-1 hidden-the_row-Expr-2 hidden-arguments hidden-the_row-Init-0 hidden-the_row-Initializer-0 hidden-the_row-Member-7 hidden-the_row-Param-5 hidden-the_row-Place-1 hidden-the_row-Spec-3 hidden-the_row-Stmt-0 hidden-unit-0 hidden-unit-1 hidden-the_row-TypeName-4 shape-the_row-BlockItem-1 shape-the_row-CType-0 shape-the_row-CType-1 shape-the_row-Declarator-0 shape-the_row-Declarator-6 shape-the_row-Enumerator-8 shape-the_row-Expr-0 shape-the_row-Expr-1 shape-the_row-Expr-2 shape-arguments shape-the_row-Init-0 shape-the_row-Initializer-0 shape-the_row-Member-7 shape-the_row-Param-5 shape-the_row-Place-1 shape-the_row-Spec-3 shape-the_row-Stmt-0 shape-unit-0 shape-unit-1 shape-the_row-TypeName-4 indirection element member access address unevaluated size size_of_expression size_of_type plain_assignment number_update pointer_update compound_assignment assignment step_update step spine fresh callee_in callee passed call worth is_null number_constant converted cast typedef_declared function_named variable_named init_declarator declaration file_declaration block_name block_declaration defined_name definition pointer_part array_part function_part made parameter type_name member_of_type_rules_declarators with_argument function_type body_read pointer_word initial_word initializer_words initial_values scalar text_fits by_name by_expression part finished by_list count initial_size initialized number_in character_in text_in text_initially as_value operand lvalue promoted in_sign pair_of stride arithmetic_on shift_on pointer_in_common equality_on logical_on operation sign_operation negation chosen_type chosen alternatives choice name number character holds_initially string_object text_found text parenthesised and_then name_number scoped expression value size_of typedef_name tagged_structure structure_name structure tagged_enumeration enumeration_name enumeration enumerator evaluated condition expression_statement block selection_of selection while_loop do_loop for_turns for_loop returned with_items list_behind block_items statement outermost_effects with_effects typed parts_of exceeded outcome likeness_of each_likeness signature_likeness_of conversion union conflict effects_of merged added shared points_to target_effects without_outer_effects same without_effects words_of opening_of automatics PlaceKeeps InitializerKeeps StmtKeeps row_type place_nodes initializer_nodes stmt_nodes places place_spots initializer_spots stmt_spots callee_of stores structure_in IsWithin AreVariables IsTypedPlace IsInitializer IsTypedStmt place_type packed
whole_67 = refl

-- void (*p)(int); void f(void); void g(void) { p = «here» f; }
whole_68 : first_fault (codes "void (*p)(int); void f(void); void g(void) { p = f; }") (record { externals = (external.Declaration (record { place = 0; specs = (spec.Type 0 type_word.Void ∷ []); declarators = ((record { declarator = (of_declarator.Function (of_declarator.Parenthesised 5 (of_declarator.Pointer 6 [] (of_declarator.Name (sp 7 8)))) 9 (params.List ((record { place = 10; specs = (spec.Type 10 type_word.Int ∷ []); declarator = of_declarator.Absent }) ∷ [])) []); init = None }) ∷ []) }) ∷ external.Declaration (record { place = 16; specs = (spec.Type 16 type_word.Void ∷ []); declarators = ((record { declarator = (of_declarator.Function (of_declarator.Name (sp 21 22)) 22 (params.Void 23) []); init = None }) ∷ []) }) ∷ external.Function (record { place = 30; specs = (spec.Type 30 type_word.Void ∷ []); declarator = (of_declarator.Function (of_declarator.Name (sp 35 36)) 36 (params.Void 37) []); body_place = 43; body = (item.Statement (stmt.Expression 45 (Some (expr.Assignment 45 (expr.Name (sp 45 46)) assignment.Plain 47 (expr.Name (sp 49 50))))) ∷ []) }) ∷ []) }) ≡ Some (11, 49)
unfolding hidden hidden-the_row-BlockItem-1 hidden-the_row-CType-0 hidden-the_row-CType-1 hidden-the_row-Declarator-0 hidden-the_row-Declarator-6 hidden-the_row-Enumerator-8 hidden-the_row-Expr-0 hidden-the_row-Expr-1 hidden-the_row-Expr-2 hidden-arguments hidden-the_row-Init-0 hidden-the_row-Initializer-0 hidden-the_row-Member-7 hidden-the_row-Param-5 hidden-the_row-Place-1 hidden-the_row-Spec-3 hidden-the_row-Stmt-0 hidden-unit-0 hidden-unit-1 hidden-the_row-TypeName-4 shape-the_row-BlockItem-1 shape-the_row-CType-0 shape-the_row-CType-1 shape-the_row-Declarator-0 shape-the_row-Declarator-6 shape-the_row-Enumerator-8 shape-the_row-Expr-0 shape-the_row-Expr-1 shape-the_row-Expr-2 shape-arguments shape-the_row-Init-0 shape-the_row-Initializer-0 shape-the_row-Member-7 shape-the_row-Param-5 shape-the_row-Place-1 shape-the_row-Spec-3 shape-the_row-Stmt-0 shape-unit-0 shape-unit-1 shape-the_row-TypeName-4 indirection element member access address unevaluated size size_of_expression size_of_type plain_assignment number_update pointer_update compound_assignment assignment step_update step spine fresh callee_in callee passed call worth is_null number_constant converted cast typedef_declared function_named variable_named init_declarator declaration file_declaration block_name block_declaration defined_name definition pointer_part array_part function_part made parameter type_name member_of_type_rules_declarators with_argument function_type body_read pointer_word initial_word initializer_words initial_values scalar text_fits by_name by_expression part finished by_list count initial_size initialized number_in character_in text_in text_initially as_value operand lvalue promoted in_sign pair_of stride arithmetic_on shift_on pointer_in_common equality_on logical_on operation sign_operation negation chosen_type chosen alternatives choice name number character holds_initially string_object text_found text parenthesised and_then name_number scoped expression value size_of typedef_name tagged_structure structure_name structure tagged_enumeration enumeration_name enumeration enumerator evaluated condition expression_statement block selection_of selection while_loop do_loop for_turns for_loop returned with_items list_behind block_items statement outermost_effects with_effects typed parts_of exceeded outcome likeness_of each_likeness signature_likeness_of conversion union conflict effects_of merged added shared points_to target_effects without_outer_effects same without_effects words_of opening_of automatics PlaceKeeps InitializerKeeps StmtKeeps row_type place_nodes initializer_nodes stmt_nodes places place_spots initializer_spots stmt_spots callee_of stores structure_in IsWithin AreVariables IsTypedPlace IsInitializer IsTypedStmt place_type packed
whole_68 = refl

-- pthread_mutex_t m = «here» 0;
whole_69 : first_fault (codes "pthread_mutex_t m = 0;") (record { externals = (external.Declaration (record { place = 0; specs = (spec.TypedefName (sp 0 15) ∷ []); declarators = ((record { declarator = (of_declarator.Name (sp 16 17)); init = (Some (init.Value (expr.Number (sp 20 21)))) }) ∷ []) }) ∷ []) }) ≡ Some (9, 20)
unfolding hidden hidden-the_row-BlockItem-1 hidden-the_row-CType-0 hidden-the_row-CType-1 hidden-the_row-Declarator-0 hidden-the_row-Declarator-6 hidden-the_row-Enumerator-8 hidden-the_row-Expr-0 hidden-the_row-Expr-1 hidden-the_row-Expr-2 hidden-arguments hidden-the_row-Init-0 hidden-the_row-Initializer-0 hidden-the_row-Member-7 hidden-the_row-Param-5 hidden-the_row-Place-1 hidden-the_row-Spec-3 hidden-the_row-Stmt-0 hidden-unit-0 hidden-unit-1 hidden-the_row-TypeName-4 shape-the_row-BlockItem-1 shape-the_row-CType-0 shape-the_row-CType-1 shape-the_row-Declarator-0 shape-the_row-Declarator-6 shape-the_row-Enumerator-8 shape-the_row-Expr-0 shape-the_row-Expr-1 shape-the_row-Expr-2 shape-arguments shape-the_row-Init-0 shape-the_row-Initializer-0 shape-the_row-Member-7 shape-the_row-Param-5 shape-the_row-Place-1 shape-the_row-Spec-3 shape-the_row-Stmt-0 shape-unit-0 shape-unit-1 shape-the_row-TypeName-4 indirection element member access address unevaluated size size_of_expression size_of_type plain_assignment number_update pointer_update compound_assignment assignment step_update step spine fresh callee_in callee passed call worth is_null number_constant converted cast typedef_declared function_named variable_named init_declarator declaration file_declaration block_name block_declaration defined_name definition pointer_part array_part function_part made parameter type_name member_of_type_rules_declarators with_argument function_type body_read pointer_word initial_word initializer_words initial_values scalar text_fits by_name by_expression part finished by_list count initial_size initialized number_in character_in text_in text_initially as_value operand lvalue promoted in_sign pair_of stride arithmetic_on shift_on pointer_in_common equality_on logical_on operation sign_operation negation chosen_type chosen alternatives choice name number character holds_initially string_object text_found text parenthesised and_then name_number scoped expression value size_of typedef_name tagged_structure structure_name structure tagged_enumeration enumeration_name enumeration enumerator evaluated condition expression_statement block selection_of selection while_loop do_loop for_turns for_loop returned with_items list_behind block_items statement outermost_effects with_effects typed parts_of exceeded outcome likeness_of each_likeness signature_likeness_of conversion union conflict effects_of merged added shared points_to target_effects without_outer_effects same without_effects words_of opening_of automatics PlaceKeeps InitializerKeeps StmtKeeps row_type place_nodes initializer_nodes stmt_nodes places place_spots initializer_spots stmt_spots callee_of stores structure_in IsWithin AreVariables IsTypedPlace IsInitializer IsTypedStmt place_type packed
whole_69 = refl

-- int x = «here» {1, 2};
whole_70 : first_fault (codes "int x = {1, 2};") (record { externals = (external.Declaration (record { place = 0; specs = (spec.Type 0 type_word.Int ∷ []); declarators = ((record { declarator = (of_declarator.Name (sp 4 5)); init = (Some (init.List 8 ((init.Value (expr.Number (sp 9 10))) ∷ (init.Value (expr.Number (sp 12 13))) ∷ []))) }) ∷ []) }) ∷ []) }) ≡ Some (9, 8)
unfolding hidden hidden-the_row-BlockItem-1 hidden-the_row-CType-0 hidden-the_row-CType-1 hidden-the_row-Declarator-0 hidden-the_row-Declarator-6 hidden-the_row-Enumerator-8 hidden-the_row-Expr-0 hidden-the_row-Expr-1 hidden-the_row-Expr-2 hidden-arguments hidden-the_row-Init-0 hidden-the_row-Initializer-0 hidden-the_row-Member-7 hidden-the_row-Param-5 hidden-the_row-Place-1 hidden-the_row-Spec-3 hidden-the_row-Stmt-0 hidden-unit-0 hidden-unit-1 hidden-the_row-TypeName-4 shape-the_row-BlockItem-1 shape-the_row-CType-0 shape-the_row-CType-1 shape-the_row-Declarator-0 shape-the_row-Declarator-6 shape-the_row-Enumerator-8 shape-the_row-Expr-0 shape-the_row-Expr-1 shape-the_row-Expr-2 shape-arguments shape-the_row-Init-0 shape-the_row-Initializer-0 shape-the_row-Member-7 shape-the_row-Param-5 shape-the_row-Place-1 shape-the_row-Spec-3 shape-the_row-Stmt-0 shape-unit-0 shape-unit-1 shape-the_row-TypeName-4 indirection element member access address unevaluated size size_of_expression size_of_type plain_assignment number_update pointer_update compound_assignment assignment step_update step spine fresh callee_in callee passed call worth is_null number_constant converted cast typedef_declared function_named variable_named init_declarator declaration file_declaration block_name block_declaration defined_name definition pointer_part array_part function_part made parameter type_name member_of_type_rules_declarators with_argument function_type body_read pointer_word initial_word initializer_words initial_values scalar text_fits by_name by_expression part finished by_list count initial_size initialized number_in character_in text_in text_initially as_value operand lvalue promoted in_sign pair_of stride arithmetic_on shift_on pointer_in_common equality_on logical_on operation sign_operation negation chosen_type chosen alternatives choice name number character holds_initially string_object text_found text parenthesised and_then name_number scoped expression value size_of typedef_name tagged_structure structure_name structure tagged_enumeration enumeration_name enumeration enumerator evaluated condition expression_statement block selection_of selection while_loop do_loop for_turns for_loop returned with_items list_behind block_items statement outermost_effects with_effects typed parts_of exceeded outcome likeness_of each_likeness signature_likeness_of conversion union conflict effects_of merged added shared points_to target_effects without_outer_effects same without_effects words_of opening_of automatics PlaceKeeps InitializerKeeps StmtKeeps row_type place_nodes initializer_nodes stmt_nodes places place_spots initializer_spots stmt_spots callee_of stores structure_in IsWithin AreVariables IsTypedPlace IsInitializer IsTypedStmt place_type packed
whole_70 = refl

-- struct s { int a; } x = «here» 3;
whole_71 : first_fault (codes "struct s { int a; } x = 3;") (record { externals = (external.Declaration (record { place = 0; specs = (spec.Struct 0 (Some (sp 7 8)) ((record { place = 11; specs = (spec.Type 11 type_word.Int ∷ []); declarators = ((of_declarator.Name (sp 15 16)) ∷ []) }) ∷ []) ∷ []); declarators = ((record { declarator = (of_declarator.Name (sp 20 21)); init = (Some (init.Value (expr.Number (sp 24 25)))) }) ∷ []) }) ∷ []) }) ≡ Some (9, 24)
unfolding hidden hidden-the_row-BlockItem-1 hidden-the_row-CType-0 hidden-the_row-CType-1 hidden-the_row-Declarator-0 hidden-the_row-Declarator-6 hidden-the_row-Enumerator-8 hidden-the_row-Expr-0 hidden-the_row-Expr-1 hidden-the_row-Expr-2 hidden-arguments hidden-the_row-Init-0 hidden-the_row-Initializer-0 hidden-the_row-Member-7 hidden-the_row-Param-5 hidden-the_row-Place-1 hidden-the_row-Spec-3 hidden-the_row-Stmt-0 hidden-unit-0 hidden-unit-1 hidden-the_row-TypeName-4 shape-the_row-BlockItem-1 shape-the_row-CType-0 shape-the_row-CType-1 shape-the_row-Declarator-0 shape-the_row-Declarator-6 shape-the_row-Enumerator-8 shape-the_row-Expr-0 shape-the_row-Expr-1 shape-the_row-Expr-2 shape-arguments shape-the_row-Init-0 shape-the_row-Initializer-0 shape-the_row-Member-7 shape-the_row-Param-5 shape-the_row-Place-1 shape-the_row-Spec-3 shape-the_row-Stmt-0 shape-unit-0 shape-unit-1 shape-the_row-TypeName-4 indirection element member access address unevaluated size size_of_expression size_of_type plain_assignment number_update pointer_update compound_assignment assignment step_update step spine fresh callee_in callee passed call worth is_null number_constant converted cast typedef_declared function_named variable_named init_declarator declaration file_declaration block_name block_declaration defined_name definition pointer_part array_part function_part made parameter type_name member_of_type_rules_declarators with_argument function_type body_read pointer_word initial_word initializer_words initial_values scalar text_fits by_name by_expression part finished by_list count initial_size initialized number_in character_in text_in text_initially as_value operand lvalue promoted in_sign pair_of stride arithmetic_on shift_on pointer_in_common equality_on logical_on operation sign_operation negation chosen_type chosen alternatives choice name number character holds_initially string_object text_found text parenthesised and_then name_number scoped expression value size_of typedef_name tagged_structure structure_name structure tagged_enumeration enumeration_name enumeration enumerator evaluated condition expression_statement block selection_of selection while_loop do_loop for_turns for_loop returned with_items list_behind block_items statement outermost_effects with_effects typed parts_of exceeded outcome likeness_of each_likeness signature_likeness_of conversion union conflict effects_of merged added shared points_to target_effects without_outer_effects same without_effects words_of opening_of automatics PlaceKeeps InitializerKeeps StmtKeeps row_type place_nodes initializer_nodes stmt_nodes places place_spots initializer_spots stmt_spots callee_of stores structure_in IsWithin AreVariables IsTypedPlace IsInitializer IsTypedStmt place_type packed
whole_71 = refl

-- void f(void) [[clang::blocking]]; void f(void); void «here» f(void) [[clang::nonblocking]];
whole_72 : first_fault (codes "void f(void) [[clang::blocking]]; void f(void); void f(void) [[clang::nonblocking]];") (record { externals = (external.Declaration (record { place = 0; specs = (spec.Type 0 type_word.Void ∷ []); declarators = ((record { declarator = (of_declarator.Function (of_declarator.Name (sp 5 6)) 6 (params.Void 7) ((record { place = 13; spelling = spelling.Brackets; words = ((record { place = 22; effect = effect.Blocking }) ∷ []) }) ∷ [])); init = None }) ∷ []) }) ∷ external.Declaration (record { place = 34; specs = (spec.Type 34 type_word.Void ∷ []); declarators = ((record { declarator = (of_declarator.Function (of_declarator.Name (sp 39 40)) 40 (params.Void 41) []); init = None }) ∷ []) }) ∷ external.Declaration (record { place = 48; specs = (spec.Type 48 type_word.Void ∷ []); declarators = ((record { declarator = (of_declarator.Function (of_declarator.Name (sp 53 54)) 54 (params.Void 55) ((record { place = 61; spelling = spelling.Brackets; words = ((record { place = 70; effect = (effect.NonBlocking None) }) ∷ []) }) ∷ [])); init = None }) ∷ []) }) ∷ []) }) ≡ Some (4, 53)
unfolding hidden hidden-the_row-BlockItem-1 hidden-the_row-CType-0 hidden-the_row-CType-1 hidden-the_row-Declarator-0 hidden-the_row-Declarator-6 hidden-the_row-Enumerator-8 hidden-the_row-Expr-0 hidden-the_row-Expr-1 hidden-the_row-Expr-2 hidden-arguments hidden-the_row-Init-0 hidden-the_row-Initializer-0 hidden-the_row-Member-7 hidden-the_row-Param-5 hidden-the_row-Place-1 hidden-the_row-Spec-3 hidden-the_row-Stmt-0 hidden-unit-0 hidden-unit-1 hidden-the_row-TypeName-4 shape-the_row-BlockItem-1 shape-the_row-CType-0 shape-the_row-CType-1 shape-the_row-Declarator-0 shape-the_row-Declarator-6 shape-the_row-Enumerator-8 shape-the_row-Expr-0 shape-the_row-Expr-1 shape-the_row-Expr-2 shape-arguments shape-the_row-Init-0 shape-the_row-Initializer-0 shape-the_row-Member-7 shape-the_row-Param-5 shape-the_row-Place-1 shape-the_row-Spec-3 shape-the_row-Stmt-0 shape-unit-0 shape-unit-1 shape-the_row-TypeName-4 indirection element member access address unevaluated size size_of_expression size_of_type plain_assignment number_update pointer_update compound_assignment assignment step_update step spine fresh callee_in callee passed call worth is_null number_constant converted cast typedef_declared function_named variable_named init_declarator declaration file_declaration block_name block_declaration defined_name definition pointer_part array_part function_part made parameter type_name member_of_type_rules_declarators with_argument function_type body_read pointer_word initial_word initializer_words initial_values scalar text_fits by_name by_expression part finished by_list count initial_size initialized number_in character_in text_in text_initially as_value operand lvalue promoted in_sign pair_of stride arithmetic_on shift_on pointer_in_common equality_on logical_on operation sign_operation negation chosen_type chosen alternatives choice name number character holds_initially string_object text_found text parenthesised and_then name_number scoped expression value size_of typedef_name tagged_structure structure_name structure tagged_enumeration enumeration_name enumeration enumerator evaluated condition expression_statement block selection_of selection while_loop do_loop for_turns for_loop returned with_items list_behind block_items statement outermost_effects with_effects typed parts_of exceeded outcome likeness_of each_likeness signature_likeness_of conversion union conflict effects_of merged added shared points_to target_effects without_outer_effects same without_effects words_of opening_of automatics PlaceKeeps InitializerKeeps StmtKeeps row_type place_nodes initializer_nodes stmt_nodes places place_spots initializer_spots stmt_spots callee_of stores structure_in IsWithin AreVariables IsTypedPlace IsInitializer IsTypedStmt place_type packed
whole_72 = refl

-- int x = «here» sizeof(void (void));
whole_73 : first_fault (codes "int x = sizeof(void (void));") (record { externals = (external.Declaration (record { place = 0; specs = (spec.Type 0 type_word.Int ∷ []); declarators = ((record { declarator = (of_declarator.Name (sp 4 5)); init = (Some (init.Value (expr.SizeofType 8 (record { place = 15; specs = (spec.Type 15 type_word.Void ∷ []); declarator = (of_declarator.Function of_declarator.Absent 20 (params.Void 21) []) })))) }) ∷ []) }) ∷ []) }) ≡ Some (3, 8)
unfolding hidden hidden-the_row-BlockItem-1 hidden-the_row-CType-0 hidden-the_row-CType-1 hidden-the_row-Declarator-0 hidden-the_row-Declarator-6 hidden-the_row-Enumerator-8 hidden-the_row-Expr-0 hidden-the_row-Expr-1 hidden-the_row-Expr-2 hidden-arguments hidden-the_row-Init-0 hidden-the_row-Initializer-0 hidden-the_row-Member-7 hidden-the_row-Param-5 hidden-the_row-Place-1 hidden-the_row-Spec-3 hidden-the_row-Stmt-0 hidden-unit-0 hidden-unit-1 hidden-the_row-TypeName-4 shape-the_row-BlockItem-1 shape-the_row-CType-0 shape-the_row-CType-1 shape-the_row-Declarator-0 shape-the_row-Declarator-6 shape-the_row-Enumerator-8 shape-the_row-Expr-0 shape-the_row-Expr-1 shape-the_row-Expr-2 shape-arguments shape-the_row-Init-0 shape-the_row-Initializer-0 shape-the_row-Member-7 shape-the_row-Param-5 shape-the_row-Place-1 shape-the_row-Spec-3 shape-the_row-Stmt-0 shape-unit-0 shape-unit-1 shape-the_row-TypeName-4 indirection element member access address unevaluated size size_of_expression size_of_type plain_assignment number_update pointer_update compound_assignment assignment step_update step spine fresh callee_in callee passed call worth is_null number_constant converted cast typedef_declared function_named variable_named init_declarator declaration file_declaration block_name block_declaration defined_name definition pointer_part array_part function_part made parameter type_name member_of_type_rules_declarators with_argument function_type body_read pointer_word initial_word initializer_words initial_values scalar text_fits by_name by_expression part finished by_list count initial_size initialized number_in character_in text_in text_initially as_value operand lvalue promoted in_sign pair_of stride arithmetic_on shift_on pointer_in_common equality_on logical_on operation sign_operation negation chosen_type chosen alternatives choice name number character holds_initially string_object text_found text parenthesised and_then name_number scoped expression value size_of typedef_name tagged_structure structure_name structure tagged_enumeration enumeration_name enumeration enumerator evaluated condition expression_statement block selection_of selection while_loop do_loop for_turns for_loop returned with_items list_behind block_items statement outermost_effects with_effects typed parts_of exceeded outcome likeness_of each_likeness signature_likeness_of conversion union conflict effects_of merged added shared points_to target_effects without_outer_effects same without_effects words_of opening_of automatics PlaceKeeps InitializerKeeps StmtKeeps row_type place_nodes initializer_nodes stmt_nodes places place_spots initializer_spots stmt_spots callee_of stores structure_in IsWithin AreVariables IsTypedPlace IsInitializer IsTypedStmt place_type packed
whole_73 = refl

-- int a[2] = {1}, *p = a;
whole_74 : first_fault (codes "int a[2] = {1}, *p = a;") (record { externals = (external.Declaration (record { place = 0; specs = (spec.Type 0 type_word.Int ∷ []); declarators = ((record { declarator = (of_declarator.Array (of_declarator.Name (sp 4 5)) 5 (Some (expr.Number (sp 6 7)))); init = (Some (init.List 11 ((init.Value (expr.Number (sp 12 13))) ∷ []))) }) ∷ (record { declarator = (of_declarator.Pointer 16 [] (of_declarator.Name (sp 17 18))); init = (Some (init.Value (expr.Name (sp 21 22)))) }) ∷ []) }) ∷ []) }) ≡ None
unfolding hidden hidden-the_row-BlockItem-1 hidden-the_row-CType-0 hidden-the_row-CType-1 hidden-the_row-Declarator-0 hidden-the_row-Declarator-6 hidden-the_row-Enumerator-8 hidden-the_row-Expr-0 hidden-the_row-Expr-1 hidden-the_row-Expr-2 hidden-arguments hidden-the_row-Init-0 hidden-the_row-Initializer-0 hidden-the_row-Member-7 hidden-the_row-Param-5 hidden-the_row-Place-1 hidden-the_row-Spec-3 hidden-the_row-Stmt-0 hidden-unit-0 hidden-unit-1 hidden-the_row-TypeName-4 shape-the_row-BlockItem-1 shape-the_row-CType-0 shape-the_row-CType-1 shape-the_row-Declarator-0 shape-the_row-Declarator-6 shape-the_row-Enumerator-8 shape-the_row-Expr-0 shape-the_row-Expr-1 shape-the_row-Expr-2 shape-arguments shape-the_row-Init-0 shape-the_row-Initializer-0 shape-the_row-Member-7 shape-the_row-Param-5 shape-the_row-Place-1 shape-the_row-Spec-3 shape-the_row-Stmt-0 shape-unit-0 shape-unit-1 shape-the_row-TypeName-4 indirection element member access address unevaluated size size_of_expression size_of_type plain_assignment number_update pointer_update compound_assignment assignment step_update step spine fresh callee_in callee passed call worth is_null number_constant converted cast typedef_declared function_named variable_named init_declarator declaration file_declaration block_name block_declaration defined_name definition pointer_part array_part function_part made parameter type_name member_of_type_rules_declarators with_argument function_type body_read pointer_word initial_word initializer_words initial_values scalar text_fits by_name by_expression part finished by_list count initial_size initialized number_in character_in text_in text_initially as_value operand lvalue promoted in_sign pair_of stride arithmetic_on shift_on pointer_in_common equality_on logical_on operation sign_operation negation chosen_type chosen alternatives choice name number character holds_initially string_object text_found text parenthesised and_then name_number scoped expression value size_of typedef_name tagged_structure structure_name structure tagged_enumeration enumeration_name enumeration enumerator evaluated condition expression_statement block selection_of selection while_loop do_loop for_turns for_loop returned with_items list_behind block_items statement outermost_effects with_effects typed parts_of exceeded outcome likeness_of each_likeness signature_likeness_of conversion union conflict effects_of merged added shared points_to target_effects without_outer_effects same without_effects words_of opening_of automatics PlaceKeeps InitializerKeeps StmtKeeps row_type place_nodes initializer_nodes stmt_nodes places place_spots initializer_spots stmt_spots callee_of stores structure_in IsWithin AreVariables IsTypedPlace IsInitializer IsTypedStmt place_type packed
whole_74 = refl
