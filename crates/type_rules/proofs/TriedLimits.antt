-- Units that pass a limit, and units that are just within it.
use Rattle.std.proofs.Common.{◌≡◌, refl, ℕ, [], ◌∷◌, Option, Some, None, codes}
use denote.Hole.Carrier.{hidden}
use Rattle.c_tree.specs.declared.declarations.Init.TheBlock.{hidden-the_row-Init-0, shape-the_row-Init-0}
use Rattle.c_tree.specs.declared.declarations.Init.TheVariants as init
use Rattle.c_tree.specs.declared.expressions.Declarator.TheBlock.{hidden-the_row-Declarator-0, shape-the_row-Declarator-0, hidden-the_row-Declarator-6, shape-the_row-Declarator-6, hidden-the_row-Expr-1, shape-the_row-Expr-1, hidden-the_row-Expr-2, shape-the_row-Expr-2, hidden-the_row-Spec-3, shape-the_row-Spec-3, hidden-the_row-TypeName-4, shape-the_row-TypeName-4, hidden-the_row-Param-5, shape-the_row-Param-5, hidden-the_row-Member-7, shape-the_row-Member-7, hidden-the_row-Enumerator-8, shape-the_row-Enumerator-8}
use Rattle.c_tree.specs.declared.expressions.Declarator.TheVariants as of_declarator
use Rattle.c_tree.specs.declared.expressions.Expr.TheVariants as expr
use Rattle.c_tree.specs.declared.expressions.Parameters.TheVariants as params
use Rattle.c_tree.specs.declared.expressions.Spec.TheVariants as spec
use Rattle.c_tree.specs.declared.statements.BlockItem.TheBlock.{hidden-the_row-BlockItem-1, shape-the_row-BlockItem-1, hidden-the_row-Stmt-0, shape-the_row-Stmt-0}
use Rattle.c_tree.specs.declared.statements.BlockItem.TheVariants as item
use Rattle.c_tree.specs.declared.statements.External.TheVariants as external
use Rattle.c_tree.specs.declared.words.Span.{Span}
use Rattle.c_tree.specs.declared.words.StorageWord.TheVariants as storage
use Rattle.c_tree.specs.declared.words.TypeWord.TheVariants as type_word
use Rattle.eff_types.specs.declared.types.CType.TheBlock.{hidden-the_row-CType-0, shape-the_row-CType-0, hidden-the_row-CType-1, shape-the_row-CType-1}
use Rattle.core_unit.specs.declared.expressions.Expr.TheBlock.{hidden-the_row-Expr-0, shape-the_row-Expr-0, hidden-the_row-Place-1, shape-the_row-Place-1, hidden-the_row-Expr-2 as hidden-arguments, shape-the_row-Expr-2 as shape-arguments}
use Rattle.core_unit.specs.declared.body.Initializer.TheBlock.{hidden-the_row-Initializer-0, shape-the_row-Initializer-0}
use Rattle.core_unit.specs.declared.body.Stmt.TheBlock.{hidden-the_row-Stmt-0 as hidden-unit-0, shape-the_row-Stmt-0 as shape-unit-0, hidden-the_row-Stmt-1 as hidden-unit-1, shape-the_row-Stmt-1 as shape-unit-1}
use Rattle.core_unit.specs.declared.units.Which.{Which}
use Rattle.core_unit.specs.declared.units.Which.TheVariants as which
use Rattle.type_rules.specs.Access.{indirection, element, member, access, address, unevaluated, size, size_of_expression, size_of_type}
use Rattle.type_rules.specs.Assignments.{plain_assignment, number_update, pointer_update, compound_assignment, assignment, step_update, step}
use Rattle.type_rules.specs.Calls.{spine, fresh, callee_in, callee, passed, call}
use Rattle.type_rules.specs.Constants.{worth, is_null, number_constant}
use Rattle.type_rules.specs.Conversions.{converted, cast}
use Rattle.type_rules.specs.Declarations.{typedef_declared, function_named, variable_named, init_declarator, declaration, file_declaration, block_name, block_declaration, defined_name, definition}
use Rattle.type_rules.specs.Declarators.{pointer_part, array_part, function_part, made, parameter, type_name, member as member_of_type_rules_declarators}
use Rattle.type_rules.specs.Expressions.{with_argument}
use Rattle.type_rules.specs.Functions.{function_type, body_read}
use Rattle.type_rules.specs.InitialValues.{pointer_word, initial_word, initializer_words, initial_values}
use Rattle.type_rules.specs.Initializers.{scalar, text_fits, by_name, by_expression, part, finished, by_list, count, initial_size, initialized}
use Rattle.type_rules.specs.Literals.{number_in, character_in, text_in, text_initially}
use Rattle.type_rules.specs.Operands.{as_value, operand, lvalue, promoted, in_sign}
use Rattle.type_rules.specs.Operators.{pair_of, stride, arithmetic_on, shift_on, pointer_in_common, equality_on, logical_on, operation, sign_operation, negation, chosen_type, chosen, alternatives, choice}
use Rattle.type_rules.specs.Primaries.{name, number, character, holds_initially, string_object, text_found, text, parenthesised}
use Rattle.type_rules.specs.Reading.{and_then, name_number, scoped, Read, Good, Bad}
use Rattle.type_rules.specs.Recursion.{expression, value}
use Rattle.type_rules.specs.Sizes.{size_of}
use Rattle.type_rules.specs.Specifiers.{typedef_name, tagged_structure, structure_name, structure, tagged_enumeration, enumeration_name, enumeration, enumerator}
use Rattle.type_rules.specs.Statements.{evaluated, condition, expression_statement, block, selection_of, selection, while_loop, do_loop, for_turns, for_loop, returned, with_items, list_behind, block_items, statement}
use Rattle.type_rules.specs.Types.{outermost_effects, with_effects}
use Rattle.type_rules.specs.Units.{typed, parts_of, exceeded, outcome}
use Rattle.eff_types.specs.Comparison.{likeness_of, each_likeness, signature_likeness_of}
use Rattle.eff_types.specs.Conversion.{conversion}
use Rattle.eff_types.specs.Effects.{union, conflict, effects_of, merged, added, shared}
use Rattle.eff_types.specs.Types.{points_to, target_effects, without_outer_effects, same, without_effects}
use Rattle.core_unit.specs.Layout.{words_of, opening_of, automatics}
use Rattle.core_unit.specs.Levels.{PlaceKeeps, InitializerKeeps, StmtKeeps}
use Rattle.core_unit.specs.Library.{row_type}
use Rattle.core_unit.specs.Nodes.{place_nodes, initializer_nodes, stmt_nodes}
use Rattle.core_unit.specs.Places.{places, place_spots, initializer_spots, stmt_spots}
use Rattle.core_unit.specs.Shapes.{callee_of}
use Rattle.core_unit.specs.Stores.{stores}
use Rattle.core_unit.specs.Structures.{structure_in, IsWithin}
use Rattle.core_unit.specs.Typed.{AreVariables, IsTypedPlace, IsInitializer, IsTypedStmt}
use Rattle.core_unit.specs.Typing.{place_type}
use Rattle.core_unit.specs.Words.{packed}

-- the limit that a tree passes, if its rules hold
abbrev limit : Read (Unit {0}) → Option Which
limit (Good _ s) = exceeded s
limit (Bad number place) = None

abbrev sp : ℕ → ℕ → Span
sp start end = record { start = start; end = end }

-- int a[524288];
limit_1 : limit (typed (codes "int a[524288];") [] (record { externals = (external.Declaration (record { place = 0; specs = (spec.Type 0 type_word.Int ∷ []); declarators = ((record { declarator = (of_declarator.Array (of_declarator.Name (sp 4 5)) 5 (Some (expr.Number (sp 6 12)))); init = None }) ∷ []) }) ∷ []) })) ≡ None
unfolding hidden hidden-the_row-BlockItem-1 hidden-the_row-CType-0 hidden-the_row-CType-1 hidden-the_row-Declarator-0 hidden-the_row-Declarator-6 hidden-the_row-Enumerator-8 hidden-the_row-Expr-0 hidden-the_row-Expr-1 hidden-the_row-Expr-2 hidden-arguments hidden-the_row-Init-0 hidden-the_row-Initializer-0 hidden-the_row-Member-7 hidden-the_row-Param-5 hidden-the_row-Place-1 hidden-the_row-Spec-3 hidden-the_row-Stmt-0 hidden-unit-0 hidden-unit-1 hidden-the_row-TypeName-4 shape-the_row-BlockItem-1 shape-the_row-CType-0 shape-the_row-CType-1 shape-the_row-Declarator-0 shape-the_row-Declarator-6 shape-the_row-Enumerator-8 shape-the_row-Expr-0 shape-the_row-Expr-1 shape-the_row-Expr-2 shape-arguments shape-the_row-Init-0 shape-the_row-Initializer-0 shape-the_row-Member-7 shape-the_row-Param-5 shape-the_row-Place-1 shape-the_row-Spec-3 shape-the_row-Stmt-0 shape-unit-0 shape-unit-1 shape-the_row-TypeName-4 indirection element member access address unevaluated size size_of_expression size_of_type plain_assignment number_update pointer_update compound_assignment assignment step_update step spine fresh callee_in callee passed call worth is_null number_constant converted cast typedef_declared function_named variable_named init_declarator declaration file_declaration block_name block_declaration defined_name definition pointer_part array_part function_part made parameter type_name member_of_type_rules_declarators with_argument function_type body_read pointer_word initial_word initializer_words initial_values scalar text_fits by_name by_expression part finished by_list count initial_size initialized number_in character_in text_in text_initially as_value operand lvalue promoted in_sign pair_of stride arithmetic_on shift_on pointer_in_common equality_on logical_on operation sign_operation negation chosen_type chosen alternatives choice name number character holds_initially string_object text_found text parenthesised and_then name_number scoped expression value size_of typedef_name tagged_structure structure_name structure tagged_enumeration enumeration_name enumeration enumerator evaluated condition expression_statement block selection_of selection while_loop do_loop for_turns for_loop returned with_items list_behind block_items statement outermost_effects with_effects typed parts_of exceeded outcome likeness_of each_likeness signature_likeness_of conversion union conflict effects_of merged added shared points_to target_effects without_outer_effects same without_effects words_of opening_of automatics PlaceKeeps InitializerKeeps StmtKeeps row_type place_nodes initializer_nodes stmt_nodes places place_spots initializer_spots stmt_spots callee_of stores structure_in IsWithin AreVariables IsTypedPlace IsInitializer IsTypedStmt place_type packed
limit_1 = refl

-- int a[524289];
limit_2 : limit (typed (codes "int a[524289];") [] (record { externals = (external.Declaration (record { place = 0; specs = (spec.Type 0 type_word.Int ∷ []); declarators = ((record { declarator = (of_declarator.Array (of_declarator.Name (sp 4 5)) 5 (Some (expr.Number (sp 6 12)))); init = None }) ∷ []) }) ∷ []) })) ≡ Some which.StaticWords
unfolding hidden hidden-the_row-BlockItem-1 hidden-the_row-CType-0 hidden-the_row-CType-1 hidden-the_row-Declarator-0 hidden-the_row-Declarator-6 hidden-the_row-Enumerator-8 hidden-the_row-Expr-0 hidden-the_row-Expr-1 hidden-the_row-Expr-2 hidden-arguments hidden-the_row-Init-0 hidden-the_row-Initializer-0 hidden-the_row-Member-7 hidden-the_row-Param-5 hidden-the_row-Place-1 hidden-the_row-Spec-3 hidden-the_row-Stmt-0 hidden-unit-0 hidden-unit-1 hidden-the_row-TypeName-4 shape-the_row-BlockItem-1 shape-the_row-CType-0 shape-the_row-CType-1 shape-the_row-Declarator-0 shape-the_row-Declarator-6 shape-the_row-Enumerator-8 shape-the_row-Expr-0 shape-the_row-Expr-1 shape-the_row-Expr-2 shape-arguments shape-the_row-Init-0 shape-the_row-Initializer-0 shape-the_row-Member-7 shape-the_row-Param-5 shape-the_row-Place-1 shape-the_row-Spec-3 shape-the_row-Stmt-0 shape-unit-0 shape-unit-1 shape-the_row-TypeName-4 indirection element member access address unevaluated size size_of_expression size_of_type plain_assignment number_update pointer_update compound_assignment assignment step_update step spine fresh callee_in callee passed call worth is_null number_constant converted cast typedef_declared function_named variable_named init_declarator declaration file_declaration block_name block_declaration defined_name definition pointer_part array_part function_part made parameter type_name member_of_type_rules_declarators with_argument function_type body_read pointer_word initial_word initializer_words initial_values scalar text_fits by_name by_expression part finished by_list count initial_size initialized number_in character_in text_in text_initially as_value operand lvalue promoted in_sign pair_of stride arithmetic_on shift_on pointer_in_common equality_on logical_on operation sign_operation negation chosen_type chosen alternatives choice name number character holds_initially string_object text_found text parenthesised and_then name_number scoped expression value size_of typedef_name tagged_structure structure_name structure tagged_enumeration enumeration_name enumeration enumerator evaluated condition expression_statement block selection_of selection while_loop do_loop for_turns for_loop returned with_items list_behind block_items statement outermost_effects with_effects typed parts_of exceeded outcome likeness_of each_likeness signature_likeness_of conversion union conflict effects_of merged added shared points_to target_effects without_outer_effects same without_effects words_of opening_of automatics PlaceKeeps InitializerKeeps StmtKeeps row_type place_nodes initializer_nodes stmt_nodes places place_spots initializer_spots stmt_spots callee_of stores structure_in IsWithin AreVariables IsTypedPlace IsInitializer IsTypedStmt place_type packed
limit_2 = refl

-- int a[524288]; char *p = "x";
limit_3 : limit (typed (codes "int a[524288]; char *p = \"x\";") [] (record { externals = (external.Declaration (record { place = 0; specs = (spec.Type 0 type_word.Int ∷ []); declarators = ((record { declarator = (of_declarator.Array (of_declarator.Name (sp 4 5)) 5 (Some (expr.Number (sp 6 12)))); init = None }) ∷ []) }) ∷ external.Declaration (record { place = 15; specs = (spec.Type 15 type_word.Char ∷ []); declarators = ((record { declarator = (of_declarator.Pointer 20 [] (of_declarator.Name (sp 21 22))); init = (Some (init.Value (expr.Text ((sp 25 28) ∷ [])))) }) ∷ []) }) ∷ []) })) ≡ Some which.StaticWords
unfolding hidden hidden-the_row-BlockItem-1 hidden-the_row-CType-0 hidden-the_row-CType-1 hidden-the_row-Declarator-0 hidden-the_row-Declarator-6 hidden-the_row-Enumerator-8 hidden-the_row-Expr-0 hidden-the_row-Expr-1 hidden-the_row-Expr-2 hidden-arguments hidden-the_row-Init-0 hidden-the_row-Initializer-0 hidden-the_row-Member-7 hidden-the_row-Param-5 hidden-the_row-Place-1 hidden-the_row-Spec-3 hidden-the_row-Stmt-0 hidden-unit-0 hidden-unit-1 hidden-the_row-TypeName-4 shape-the_row-BlockItem-1 shape-the_row-CType-0 shape-the_row-CType-1 shape-the_row-Declarator-0 shape-the_row-Declarator-6 shape-the_row-Enumerator-8 shape-the_row-Expr-0 shape-the_row-Expr-1 shape-the_row-Expr-2 shape-arguments shape-the_row-Init-0 shape-the_row-Initializer-0 shape-the_row-Member-7 shape-the_row-Param-5 shape-the_row-Place-1 shape-the_row-Spec-3 shape-the_row-Stmt-0 shape-unit-0 shape-unit-1 shape-the_row-TypeName-4 indirection element member access address unevaluated size size_of_expression size_of_type plain_assignment number_update pointer_update compound_assignment assignment step_update step spine fresh callee_in callee passed call worth is_null number_constant converted cast typedef_declared function_named variable_named init_declarator declaration file_declaration block_name block_declaration defined_name definition pointer_part array_part function_part made parameter type_name member_of_type_rules_declarators with_argument function_type body_read pointer_word initial_word initializer_words initial_values scalar text_fits by_name by_expression part finished by_list count initial_size initialized number_in character_in text_in text_initially as_value operand lvalue promoted in_sign pair_of stride arithmetic_on shift_on pointer_in_common equality_on logical_on operation sign_operation negation chosen_type chosen alternatives choice name number character holds_initially string_object text_found text parenthesised and_then name_number scoped expression value size_of typedef_name tagged_structure structure_name structure tagged_enumeration enumeration_name enumeration enumerator evaluated condition expression_statement block selection_of selection while_loop do_loop for_turns for_loop returned with_items list_behind block_items statement outermost_effects with_effects typed parts_of exceeded outcome likeness_of each_likeness signature_likeness_of conversion union conflict effects_of merged added shared points_to target_effects without_outer_effects same without_effects words_of opening_of automatics PlaceKeeps InitializerKeeps StmtKeeps row_type place_nodes initializer_nodes stmt_nodes places place_spots initializer_spots stmt_spots callee_of stores structure_in IsWithin AreVariables IsTypedPlace IsInitializer IsTypedStmt place_type packed
limit_3 = refl

-- _Thread_local int a[1025];
limit_4 : limit (typed (codes "_Thread_local int a[1025];") [] (record { externals = (external.Declaration (record { place = 0; specs = (spec.Storage 0 storage.ThreadLocal ∷ spec.Type 14 type_word.Int ∷ []); declarators = ((record { declarator = (of_declarator.Array (of_declarator.Name (sp 18 19)) 19 (Some (expr.Number (sp 20 24)))); init = None }) ∷ []) }) ∷ []) })) ≡ Some which.ThreadWords
unfolding hidden hidden-the_row-BlockItem-1 hidden-the_row-CType-0 hidden-the_row-CType-1 hidden-the_row-Declarator-0 hidden-the_row-Declarator-6 hidden-the_row-Enumerator-8 hidden-the_row-Expr-0 hidden-the_row-Expr-1 hidden-the_row-Expr-2 hidden-arguments hidden-the_row-Init-0 hidden-the_row-Initializer-0 hidden-the_row-Member-7 hidden-the_row-Param-5 hidden-the_row-Place-1 hidden-the_row-Spec-3 hidden-the_row-Stmt-0 hidden-unit-0 hidden-unit-1 hidden-the_row-TypeName-4 shape-the_row-BlockItem-1 shape-the_row-CType-0 shape-the_row-CType-1 shape-the_row-Declarator-0 shape-the_row-Declarator-6 shape-the_row-Enumerator-8 shape-the_row-Expr-0 shape-the_row-Expr-1 shape-the_row-Expr-2 shape-arguments shape-the_row-Init-0 shape-the_row-Initializer-0 shape-the_row-Member-7 shape-the_row-Param-5 shape-the_row-Place-1 shape-the_row-Spec-3 shape-the_row-Stmt-0 shape-unit-0 shape-unit-1 shape-the_row-TypeName-4 indirection element member access address unevaluated size size_of_expression size_of_type plain_assignment number_update pointer_update compound_assignment assignment step_update step spine fresh callee_in callee passed call worth is_null number_constant converted cast typedef_declared function_named variable_named init_declarator declaration file_declaration block_name block_declaration defined_name definition pointer_part array_part function_part made parameter type_name member_of_type_rules_declarators with_argument function_type body_read pointer_word initial_word initializer_words initial_values scalar text_fits by_name by_expression part finished by_list count initial_size initialized number_in character_in text_in text_initially as_value operand lvalue promoted in_sign pair_of stride arithmetic_on shift_on pointer_in_common equality_on logical_on operation sign_operation negation chosen_type chosen alternatives choice name number character holds_initially string_object text_found text parenthesised and_then name_number scoped expression value size_of typedef_name tagged_structure structure_name structure tagged_enumeration enumeration_name enumeration enumerator evaluated condition expression_statement block selection_of selection while_loop do_loop for_turns for_loop returned with_items list_behind block_items statement outermost_effects with_effects typed parts_of exceeded outcome likeness_of each_likeness signature_likeness_of conversion union conflict effects_of merged added shared points_to target_effects without_outer_effects same without_effects words_of opening_of automatics PlaceKeeps InitializerKeeps StmtKeeps row_type place_nodes initializer_nodes stmt_nodes places place_spots initializer_spots stmt_spots callee_of stores structure_in IsWithin AreVariables IsTypedPlace IsInitializer IsTypedStmt place_type packed
limit_4 = refl

-- void f(void) { int a[4096]; }
limit_5 : limit (typed (codes "void f(void) { int a[4096]; }") [] (record { externals = (external.Function (record { place = 0; specs = (spec.Type 0 type_word.Void ∷ []); declarator = (of_declarator.Function (of_declarator.Name (sp 5 6)) 6 (params.Void 7) []); body_place = 13; body = (item.Declaration (record { place = 15; specs = (spec.Type 15 type_word.Int ∷ []); declarators = ((record { declarator = (of_declarator.Array (of_declarator.Name (sp 19 20)) 20 (Some (expr.Number (sp 21 25)))); init = None }) ∷ []) }) ∷ []) }) ∷ []) })) ≡ None
unfolding hidden hidden-the_row-BlockItem-1 hidden-the_row-CType-0 hidden-the_row-CType-1 hidden-the_row-Declarator-0 hidden-the_row-Declarator-6 hidden-the_row-Enumerator-8 hidden-the_row-Expr-0 hidden-the_row-Expr-1 hidden-the_row-Expr-2 hidden-arguments hidden-the_row-Init-0 hidden-the_row-Initializer-0 hidden-the_row-Member-7 hidden-the_row-Param-5 hidden-the_row-Place-1 hidden-the_row-Spec-3 hidden-the_row-Stmt-0 hidden-unit-0 hidden-unit-1 hidden-the_row-TypeName-4 shape-the_row-BlockItem-1 shape-the_row-CType-0 shape-the_row-CType-1 shape-the_row-Declarator-0 shape-the_row-Declarator-6 shape-the_row-Enumerator-8 shape-the_row-Expr-0 shape-the_row-Expr-1 shape-the_row-Expr-2 shape-arguments shape-the_row-Init-0 shape-the_row-Initializer-0 shape-the_row-Member-7 shape-the_row-Param-5 shape-the_row-Place-1 shape-the_row-Spec-3 shape-the_row-Stmt-0 shape-unit-0 shape-unit-1 shape-the_row-TypeName-4 indirection element member access address unevaluated size size_of_expression size_of_type plain_assignment number_update pointer_update compound_assignment assignment step_update step spine fresh callee_in callee passed call worth is_null number_constant converted cast typedef_declared function_named variable_named init_declarator declaration file_declaration block_name block_declaration defined_name definition pointer_part array_part function_part made parameter type_name member_of_type_rules_declarators with_argument function_type body_read pointer_word initial_word initializer_words initial_values scalar text_fits by_name by_expression part finished by_list count initial_size initialized number_in character_in text_in text_initially as_value operand lvalue promoted in_sign pair_of stride arithmetic_on shift_on pointer_in_common equality_on logical_on operation sign_operation negation chosen_type chosen alternatives choice name number character holds_initially string_object text_found text parenthesised and_then name_number scoped expression value size_of typedef_name tagged_structure structure_name structure tagged_enumeration enumeration_name enumeration enumerator evaluated condition expression_statement block selection_of selection while_loop do_loop for_turns for_loop returned with_items list_behind block_items statement outermost_effects with_effects typed parts_of exceeded outcome likeness_of each_likeness signature_likeness_of conversion union conflict effects_of merged added shared points_to target_effects without_outer_effects same without_effects words_of opening_of automatics PlaceKeeps InitializerKeeps StmtKeeps row_type place_nodes initializer_nodes stmt_nodes places place_spots initializer_spots stmt_spots callee_of stores structure_in IsWithin AreVariables IsTypedPlace IsInitializer IsTypedStmt place_type packed
limit_5 = refl

-- void f(int x) { int a[4096]; }
limit_6 : limit (typed (codes "void f(int x) { int a[4096]; }") [] (record { externals = (external.Function (record { place = 0; specs = (spec.Type 0 type_word.Void ∷ []); declarator = (of_declarator.Function (of_declarator.Name (sp 5 6)) 6 (params.List ((record { place = 7; specs = (spec.Type 7 type_word.Int ∷ []); declarator = (of_declarator.Name (sp 11 12)) }) ∷ [])) []); body_place = 14; body = (item.Declaration (record { place = 16; specs = (spec.Type 16 type_word.Int ∷ []); declarators = ((record { declarator = (of_declarator.Array (of_declarator.Name (sp 20 21)) 21 (Some (expr.Number (sp 22 26)))); init = None }) ∷ []) }) ∷ []) }) ∷ []) })) ≡ Some which.FrameWords
unfolding hidden hidden-the_row-BlockItem-1 hidden-the_row-CType-0 hidden-the_row-CType-1 hidden-the_row-Declarator-0 hidden-the_row-Declarator-6 hidden-the_row-Enumerator-8 hidden-the_row-Expr-0 hidden-the_row-Expr-1 hidden-the_row-Expr-2 hidden-arguments hidden-the_row-Init-0 hidden-the_row-Initializer-0 hidden-the_row-Member-7 hidden-the_row-Param-5 hidden-the_row-Place-1 hidden-the_row-Spec-3 hidden-the_row-Stmt-0 hidden-unit-0 hidden-unit-1 hidden-the_row-TypeName-4 shape-the_row-BlockItem-1 shape-the_row-CType-0 shape-the_row-CType-1 shape-the_row-Declarator-0 shape-the_row-Declarator-6 shape-the_row-Enumerator-8 shape-the_row-Expr-0 shape-the_row-Expr-1 shape-the_row-Expr-2 shape-arguments shape-the_row-Init-0 shape-the_row-Initializer-0 shape-the_row-Member-7 shape-the_row-Param-5 shape-the_row-Place-1 shape-the_row-Spec-3 shape-the_row-Stmt-0 shape-unit-0 shape-unit-1 shape-the_row-TypeName-4 indirection element member access address unevaluated size size_of_expression size_of_type plain_assignment number_update pointer_update compound_assignment assignment step_update step spine fresh callee_in callee passed call worth is_null number_constant converted cast typedef_declared function_named variable_named init_declarator declaration file_declaration block_name block_declaration defined_name definition pointer_part array_part function_part made parameter type_name member_of_type_rules_declarators with_argument function_type body_read pointer_word initial_word initializer_words initial_values scalar text_fits by_name by_expression part finished by_list count initial_size initialized number_in character_in text_in text_initially as_value operand lvalue promoted in_sign pair_of stride arithmetic_on shift_on pointer_in_common equality_on logical_on operation sign_operation negation chosen_type chosen alternatives choice name number character holds_initially string_object text_found text parenthesised and_then name_number scoped expression value size_of typedef_name tagged_structure structure_name structure tagged_enumeration enumeration_name enumeration enumerator evaluated condition expression_statement block selection_of selection while_loop do_loop for_turns for_loop returned with_items list_behind block_items statement outermost_effects with_effects typed parts_of exceeded outcome likeness_of each_likeness signature_likeness_of conversion union conflict effects_of merged added shared points_to target_effects without_outer_effects same without_effects words_of opening_of automatics PlaceKeeps InitializerKeeps StmtKeeps row_type place_nodes initializer_nodes stmt_nodes places place_spots initializer_spots stmt_spots callee_of stores structure_in IsWithin AreVariables IsTypedPlace IsInitializer IsTypedStmt place_type packed
limit_6 = refl

-- void f(int, int, int, int, int, int, int, int, int, int, int, int, int, int, int, int, int); int a[524289];
limit_7 : limit (typed (codes "void f(int, int, int, int, int, int, int, int, int, int, int, int, int, int, int, int, int); int a[524289];") [] (record { externals = (external.Declaration (record { place = 0; specs = (spec.Type 0 type_word.Void ∷ []); declarators = ((record { declarator = (of_declarator.Function (of_declarator.Name (sp 5 6)) 6 (params.List ((record { place = 7; specs = (spec.Type 7 type_word.Int ∷ []); declarator = of_declarator.Absent }) ∷ (record { place = 12; specs = (spec.Type 12 type_word.Int ∷ []); declarator = of_declarator.Absent }) ∷ (record { place = 17; specs = (spec.Type 17 type_word.Int ∷ []); declarator = of_declarator.Absent }) ∷ (record { place = 22; specs = (spec.Type 22 type_word.Int ∷ []); declarator = of_declarator.Absent }) ∷ (record { place = 27; specs = (spec.Type 27 type_word.Int ∷ []); declarator = of_declarator.Absent }) ∷ (record { place = 32; specs = (spec.Type 32 type_word.Int ∷ []); declarator = of_declarator.Absent }) ∷ (record { place = 37; specs = (spec.Type 37 type_word.Int ∷ []); declarator = of_declarator.Absent }) ∷ (record { place = 42; specs = (spec.Type 42 type_word.Int ∷ []); declarator = of_declarator.Absent }) ∷ (record { place = 47; specs = (spec.Type 47 type_word.Int ∷ []); declarator = of_declarator.Absent }) ∷ (record { place = 52; specs = (spec.Type 52 type_word.Int ∷ []); declarator = of_declarator.Absent }) ∷ (record { place = 57; specs = (spec.Type 57 type_word.Int ∷ []); declarator = of_declarator.Absent }) ∷ (record { place = 62; specs = (spec.Type 62 type_word.Int ∷ []); declarator = of_declarator.Absent }) ∷ (record { place = 67; specs = (spec.Type 67 type_word.Int ∷ []); declarator = of_declarator.Absent }) ∷ (record { place = 72; specs = (spec.Type 72 type_word.Int ∷ []); declarator = of_declarator.Absent }) ∷ (record { place = 77; specs = (spec.Type 77 type_word.Int ∷ []); declarator = of_declarator.Absent }) ∷ (record { place = 82; specs = (spec.Type 82 type_word.Int ∷ []); declarator = of_declarator.Absent }) ∷ (record { place = 87; specs = (spec.Type 87 type_word.Int ∷ []); declarator = of_declarator.Absent }) ∷ [])) []); init = None }) ∷ []) }) ∷ external.Declaration (record { place = 93; specs = (spec.Type 93 type_word.Int ∷ []); declarators = ((record { declarator = (of_declarator.Array (of_declarator.Name (sp 97 98)) 98 (Some (expr.Number (sp 99 105)))); init = None }) ∷ []) }) ∷ []) })) ≡ Some which.Parameters
unfolding hidden hidden-the_row-BlockItem-1 hidden-the_row-CType-0 hidden-the_row-CType-1 hidden-the_row-Declarator-0 hidden-the_row-Declarator-6 hidden-the_row-Enumerator-8 hidden-the_row-Expr-0 hidden-the_row-Expr-1 hidden-the_row-Expr-2 hidden-arguments hidden-the_row-Init-0 hidden-the_row-Initializer-0 hidden-the_row-Member-7 hidden-the_row-Param-5 hidden-the_row-Place-1 hidden-the_row-Spec-3 hidden-the_row-Stmt-0 hidden-unit-0 hidden-unit-1 hidden-the_row-TypeName-4 shape-the_row-BlockItem-1 shape-the_row-CType-0 shape-the_row-CType-1 shape-the_row-Declarator-0 shape-the_row-Declarator-6 shape-the_row-Enumerator-8 shape-the_row-Expr-0 shape-the_row-Expr-1 shape-the_row-Expr-2 shape-arguments shape-the_row-Init-0 shape-the_row-Initializer-0 shape-the_row-Member-7 shape-the_row-Param-5 shape-the_row-Place-1 shape-the_row-Spec-3 shape-the_row-Stmt-0 shape-unit-0 shape-unit-1 shape-the_row-TypeName-4 indirection element member access address unevaluated size size_of_expression size_of_type plain_assignment number_update pointer_update compound_assignment assignment step_update step spine fresh callee_in callee passed call worth is_null number_constant converted cast typedef_declared function_named variable_named init_declarator declaration file_declaration block_name block_declaration defined_name definition pointer_part array_part function_part made parameter type_name member_of_type_rules_declarators with_argument function_type body_read pointer_word initial_word initializer_words initial_values scalar text_fits by_name by_expression part finished by_list count initial_size initialized number_in character_in text_in text_initially as_value operand lvalue promoted in_sign pair_of stride arithmetic_on shift_on pointer_in_common equality_on logical_on operation sign_operation negation chosen_type chosen alternatives choice name number character holds_initially string_object text_found text parenthesised and_then name_number scoped expression value size_of typedef_name tagged_structure structure_name structure tagged_enumeration enumeration_name enumeration enumerator evaluated condition expression_statement block selection_of selection while_loop do_loop for_turns for_loop returned with_items list_behind block_items statement outermost_effects with_effects typed parts_of exceeded outcome likeness_of each_likeness signature_likeness_of conversion union conflict effects_of merged added shared points_to target_effects without_outer_effects same without_effects words_of opening_of automatics PlaceKeeps InitializerKeeps StmtKeeps row_type place_nodes initializer_nodes stmt_nodes places place_spots initializer_spots stmt_spots callee_of stores structure_in IsWithin AreVariables IsTypedPlace IsInitializer IsTypedStmt place_type packed
limit_7 = refl

-- void (*p)(int, int, int, int, int, int, int, int, int, int, int, int, int, int, int, int, int);
limit_8 : limit (typed (codes "void (*p)(int, int, int, int, int, int, int, int, int, int, int, int, int, int, int, int, int);") [] (record { externals = (external.Declaration (record { place = 0; specs = (spec.Type 0 type_word.Void ∷ []); declarators = ((record { declarator = (of_declarator.Function (of_declarator.Parenthesised 5 (of_declarator.Pointer 6 [] (of_declarator.Name (sp 7 8)))) 9 (params.List ((record { place = 10; specs = (spec.Type 10 type_word.Int ∷ []); declarator = of_declarator.Absent }) ∷ (record { place = 15; specs = (spec.Type 15 type_word.Int ∷ []); declarator = of_declarator.Absent }) ∷ (record { place = 20; specs = (spec.Type 20 type_word.Int ∷ []); declarator = of_declarator.Absent }) ∷ (record { place = 25; specs = (spec.Type 25 type_word.Int ∷ []); declarator = of_declarator.Absent }) ∷ (record { place = 30; specs = (spec.Type 30 type_word.Int ∷ []); declarator = of_declarator.Absent }) ∷ (record { place = 35; specs = (spec.Type 35 type_word.Int ∷ []); declarator = of_declarator.Absent }) ∷ (record { place = 40; specs = (spec.Type 40 type_word.Int ∷ []); declarator = of_declarator.Absent }) ∷ (record { place = 45; specs = (spec.Type 45 type_word.Int ∷ []); declarator = of_declarator.Absent }) ∷ (record { place = 50; specs = (spec.Type 50 type_word.Int ∷ []); declarator = of_declarator.Absent }) ∷ (record { place = 55; specs = (spec.Type 55 type_word.Int ∷ []); declarator = of_declarator.Absent }) ∷ (record { place = 60; specs = (spec.Type 60 type_word.Int ∷ []); declarator = of_declarator.Absent }) ∷ (record { place = 65; specs = (spec.Type 65 type_word.Int ∷ []); declarator = of_declarator.Absent }) ∷ (record { place = 70; specs = (spec.Type 70 type_word.Int ∷ []); declarator = of_declarator.Absent }) ∷ (record { place = 75; specs = (spec.Type 75 type_word.Int ∷ []); declarator = of_declarator.Absent }) ∷ (record { place = 80; specs = (spec.Type 80 type_word.Int ∷ []); declarator = of_declarator.Absent }) ∷ (record { place = 85; specs = (spec.Type 85 type_word.Int ∷ []); declarator = of_declarator.Absent }) ∷ (record { place = 90; specs = (spec.Type 90 type_word.Int ∷ []); declarator = of_declarator.Absent }) ∷ [])) []); init = None }) ∷ []) }) ∷ []) })) ≡ None
unfolding hidden hidden-the_row-BlockItem-1 hidden-the_row-CType-0 hidden-the_row-CType-1 hidden-the_row-Declarator-0 hidden-the_row-Declarator-6 hidden-the_row-Enumerator-8 hidden-the_row-Expr-0 hidden-the_row-Expr-1 hidden-the_row-Expr-2 hidden-arguments hidden-the_row-Init-0 hidden-the_row-Initializer-0 hidden-the_row-Member-7 hidden-the_row-Param-5 hidden-the_row-Place-1 hidden-the_row-Spec-3 hidden-the_row-Stmt-0 hidden-unit-0 hidden-unit-1 hidden-the_row-TypeName-4 shape-the_row-BlockItem-1 shape-the_row-CType-0 shape-the_row-CType-1 shape-the_row-Declarator-0 shape-the_row-Declarator-6 shape-the_row-Enumerator-8 shape-the_row-Expr-0 shape-the_row-Expr-1 shape-the_row-Expr-2 shape-arguments shape-the_row-Init-0 shape-the_row-Initializer-0 shape-the_row-Member-7 shape-the_row-Param-5 shape-the_row-Place-1 shape-the_row-Spec-3 shape-the_row-Stmt-0 shape-unit-0 shape-unit-1 shape-the_row-TypeName-4 indirection element member access address unevaluated size size_of_expression size_of_type plain_assignment number_update pointer_update compound_assignment assignment step_update step spine fresh callee_in callee passed call worth is_null number_constant converted cast typedef_declared function_named variable_named init_declarator declaration file_declaration block_name block_declaration defined_name definition pointer_part array_part function_part made parameter type_name member_of_type_rules_declarators with_argument function_type body_read pointer_word initial_word initializer_words initial_values scalar text_fits by_name by_expression part finished by_list count initial_size initialized number_in character_in text_in text_initially as_value operand lvalue promoted in_sign pair_of stride arithmetic_on shift_on pointer_in_common equality_on logical_on operation sign_operation negation chosen_type chosen alternatives choice name number character holds_initially string_object text_found text parenthesised and_then name_number scoped expression value size_of typedef_name tagged_structure structure_name structure tagged_enumeration enumeration_name enumeration enumerator evaluated condition expression_statement block selection_of selection while_loop do_loop for_turns for_loop returned with_items list_behind block_items statement outermost_effects with_effects typed parts_of exceeded outcome likeness_of each_likeness signature_likeness_of conversion union conflict effects_of merged added shared points_to target_effects without_outer_effects same without_effects words_of opening_of automatics PlaceKeeps InitializerKeeps StmtKeeps row_type place_nodes initializer_nodes stmt_nodes places place_spots initializer_spots stmt_spots callee_of stores structure_in IsWithin AreVariables IsTypedPlace IsInitializer IsTypedStmt place_type packed
limit_8 = refl

-- int a[0xffffffff][0xffffffff];
limit_9 : limit (typed (codes "int a[0xffffffff][0xffffffff];") [] (record { externals = (external.Declaration (record { place = 0; specs = (spec.Type 0 type_word.Int ∷ []); declarators = ((record { declarator = (of_declarator.Array (of_declarator.Array (of_declarator.Name (sp 4 5)) 5 (Some (expr.Number (sp 6 16)))) 17 (Some (expr.Number (sp 18 28)))); init = None }) ∷ []) }) ∷ []) })) ≡ Some which.StaticWords
unfolding hidden hidden-the_row-BlockItem-1 hidden-the_row-CType-0 hidden-the_row-CType-1 hidden-the_row-Declarator-0 hidden-the_row-Declarator-6 hidden-the_row-Enumerator-8 hidden-the_row-Expr-0 hidden-the_row-Expr-1 hidden-the_row-Expr-2 hidden-arguments hidden-the_row-Init-0 hidden-the_row-Initializer-0 hidden-the_row-Member-7 hidden-the_row-Param-5 hidden-the_row-Place-1 hidden-the_row-Spec-3 hidden-the_row-Stmt-0 hidden-unit-0 hidden-unit-1 hidden-the_row-TypeName-4 shape-the_row-BlockItem-1 shape-the_row-CType-0 shape-the_row-CType-1 shape-the_row-Declarator-0 shape-the_row-Declarator-6 shape-the_row-Enumerator-8 shape-the_row-Expr-0 shape-the_row-Expr-1 shape-the_row-Expr-2 shape-arguments shape-the_row-Init-0 shape-the_row-Initializer-0 shape-the_row-Member-7 shape-the_row-Param-5 shape-the_row-Place-1 shape-the_row-Spec-3 shape-the_row-Stmt-0 shape-unit-0 shape-unit-1 shape-the_row-TypeName-4 indirection element member access address unevaluated size size_of_expression size_of_type plain_assignment number_update pointer_update compound_assignment assignment step_update step spine fresh callee_in callee passed call worth is_null number_constant converted cast typedef_declared function_named variable_named init_declarator declaration file_declaration block_name block_declaration defined_name definition pointer_part array_part function_part made parameter type_name member_of_type_rules_declarators with_argument function_type body_read pointer_word initial_word initializer_words initial_values scalar text_fits by_name by_expression part finished by_list count initial_size initialized number_in character_in text_in text_initially as_value operand lvalue promoted in_sign pair_of stride arithmetic_on shift_on pointer_in_common equality_on logical_on operation sign_operation negation chosen_type chosen alternatives choice name number character holds_initially string_object text_found text parenthesised and_then name_number scoped expression value size_of typedef_name tagged_structure structure_name structure tagged_enumeration enumeration_name enumeration enumerator evaluated condition expression_statement block selection_of selection while_loop do_loop for_turns for_loop returned with_items list_behind block_items statement outermost_effects with_effects typed parts_of exceeded outcome likeness_of each_likeness signature_likeness_of conversion union conflict effects_of merged added shared points_to target_effects without_outer_effects same without_effects words_of opening_of automatics PlaceKeeps InitializerKeeps StmtKeeps row_type place_nodes initializer_nodes stmt_nodes places place_spots initializer_spots stmt_spots callee_of stores structure_in IsWithin AreVariables IsTypedPlace IsInitializer IsTypedStmt place_type packed
limit_9 = refl
