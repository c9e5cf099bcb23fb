-- Declarations, tried on small units.
use Rattle.std.proofs.Common.{◌≡◌, refl, ℕ, false, List, [], ◌∷◌, Option, Some, None, codes}
use denote.Hole.Carrier.{hidden}
use Rattle.c_tree.specs.declared.declarations.Init.TheBlock.{hidden-the_row-Init-0, shape-the_row-Init-0}
use Rattle.c_tree.specs.declared.expressions.Declarator.TheBlock.{hidden-the_row-Declarator-0, shape-the_row-Declarator-0, hidden-the_row-Declarator-6, shape-the_row-Declarator-6, hidden-the_row-Expr-1, shape-the_row-Expr-1, hidden-the_row-Expr-2, shape-the_row-Expr-2, hidden-the_row-Spec-3, shape-the_row-Spec-3, hidden-the_row-TypeName-4, shape-the_row-TypeName-4, hidden-the_row-Param-5, shape-the_row-Param-5, hidden-the_row-Member-7, shape-the_row-Member-7, hidden-the_row-Enumerator-8, shape-the_row-Enumerator-8}
use Rattle.c_tree.specs.declared.expressions.Declarator.TheVariants as of_declarator
use Rattle.c_tree.specs.declared.expressions.Expr.TheVariants as expr
use Rattle.c_tree.specs.declared.expressions.Parameters.TheVariants as params
use Rattle.c_tree.specs.declared.expressions.Spec.TheVariants as spec
use Rattle.c_tree.specs.declared.statements.BlockItem.TheBlock.{hidden-the_row-BlockItem-1, shape-the_row-BlockItem-1, hidden-the_row-Stmt-0, shape-the_row-Stmt-0}
use Rattle.c_tree.specs.declared.statements.External.TheVariants as external
use Rattle.c_tree.specs.declared.statements.Tree.{Tree}
use Rattle.c_tree.specs.declared.words.AttrSpelling.TheVariants as spelling
use Rattle.c_tree.specs.declared.words.Effect.TheVariants as effect
use Rattle.c_tree.specs.declared.words.FunctionWord.TheVariants as word
use Rattle.c_tree.specs.declared.words.Qualifier.TheVariants as qualifier
use Rattle.c_tree.specs.declared.words.Span.{Span}
use Rattle.c_tree.specs.declared.words.StorageWord.TheVariants as storage
use Rattle.c_tree.specs.declared.words.TypeWord.TheVariants as type_word
use Rattle.eff_types.specs.declared.types.CType.TheBlock.{hidden-the_row-CType-0, shape-the_row-CType-0, hidden-the_row-CType-1, shape-the_row-CType-1}
use Rattle.core_unit.specs.declared.expressions.Expr.TheBlock.{hidden-the_row-Expr-0, shape-the_row-Expr-0, hidden-the_row-Place-1, shape-the_row-Place-1, hidden-the_row-Expr-2 as hidden-arguments, shape-the_row-Expr-2 as shape-arguments}
use Rattle.core_unit.specs.declared.body.Initializer.TheBlock.{hidden-the_row-Initializer-0, shape-the_row-Initializer-0}
use Rattle.core_unit.specs.declared.body.Stmt.TheBlock.{hidden-the_row-Stmt-0 as hidden-unit-0, shape-the_row-Stmt-0 as shape-unit-0, hidden-the_row-Stmt-1 as hidden-unit-1, shape-the_row-Stmt-1 as shape-unit-1}
use Rattle.type_rules.specs.Access.{indirection, element, member, access, address, unevaluated, size, size_of_expression, size_of_type}
use Rattle.type_rules.specs.Assignments.{plain_assignment, number_update, pointer_update, compound_assignment, assignment, step_update, step}
use Rattle.type_rules.specs.Calls.{spine, fresh, callee_in, callee, passed, call}
use Rattle.type_rules.specs.Constants.{worth, is_null, number_constant}
use Rattle.type_rules.specs.Conversions.{converted, cast}
use Rattle.type_rules.specs.Declarations.{typedef_declared, function_named, variable_named, init_declarator, declaration, file_declaration, block_name, block_declaration, defined_name, definition}
use Rattle.type_rules.specs.Declarators.{pointer_part, array_part, function_part, made, parameter, type_name, member as member_of_type_rules_declarators}
use Rattle.type_rules.specs.Expressions.{with_argument}
use Rattle.type_rules.specs.Functions.{function_type, body_read}
use Rattle.type_rules.specs.InitialValues.{pointer_word, initial_word, initializer_words, initial_values}
use Rattle.type_rules.specs.Initializers.{scalar, text_fits, by_name, by_expression, part, finished, by_list, count, initial_size, initialized}
use Rattle.type_rules.specs.Literals.{number_in, character_in, text_in, text_initially}
use Rattle.type_rules.specs.Operands.{as_value, operand, lvalue, promoted, in_sign}
use Rattle.type_rules.specs.Operators.{pair_of, stride, arithmetic_on, shift_on, pointer_in_common, equality_on, logical_on, operation, sign_operation, negation, chosen_type, chosen, alternatives, choice}
use Rattle.type_rules.specs.Primaries.{name, number, character, holds_initially, string_object, text_found, text, parenthesised}
use Rattle.type_rules.specs.Reading.{and_then, name_number, scoped, Read, Good, Bad}
use Rattle.type_rules.specs.Recursion.{expression, value}
use Rattle.type_rules.specs.Sizes.{size_of}
use Rattle.type_rules.specs.Specifiers.{typedef_name, tagged_structure, structure_name, structure, tagged_enumeration, enumeration_name, enumeration, enumerator}
use Rattle.type_rules.specs.Statements.{evaluated, condition, expression_statement, block, selection_of, selection, while_loop, do_loop, for_turns, for_loop, returned, with_items, list_behind, block_items, statement}
use Rattle.type_rules.specs.Types.{outermost_effects, with_effects}
use Rattle.type_rules.specs.Units.{typed, parts_of, exceeded, outcome}
use Rattle.eff_types.specs.Comparison.{likeness_of, each_likeness, signature_likeness_of}
use Rattle.eff_types.specs.Conversion.{conversion}
use Rattle.eff_types.specs.Effects.{union, conflict, effects_of, merged, added, shared}
use Rattle.eff_types.specs.Types.{points_to, target_effects, without_outer_effects, same, without_effects}
use Rattle.core_unit.specs.Layout.{words_of, opening_of, automatics}
use Rattle.core_unit.specs.Levels.{PlaceKeeps, InitializerKeeps, StmtKeeps}
use Rattle.core_unit.specs.Library.{row_type}
use Rattle.core_unit.specs.Nodes.{place_nodes, initializer_nodes, stmt_nodes}
use Rattle.core_unit.specs.Places.{places, place_spots, initializer_spots, stmt_spots}
use Rattle.core_unit.specs.Shapes.{callee_of}
use Rattle.core_unit.specs.Stores.{stores}
use Rattle.core_unit.specs.Structures.{structure_in, IsWithin}
use Rattle.core_unit.specs.Typed.{AreVariables, IsTypedPlace, IsInitializer, IsTypedStmt}
use Rattle.core_unit.specs.Typing.{place_type}
use Rattle.core_unit.specs.Words.{packed}

abbrev sp : ℕ → ℕ → Span
sp start end = record { start = start; end = end }

-- the number and the place of the first rule that a tree breaks
abbrev fault : Read (Unit {0}) → Option (ℕ × ℕ)
fault (Good _ s) = None
fault (Bad number place) = Some (number, place)

abbrev first_fault : List ℕ → Tree → Option (ℕ × ℕ)
first_fault source tree = fault (typed source [] tree)

-- int x;
declared_1 : first_fault (codes "int x;") (record { externals = (external.Declaration (record { place = 0; specs = (spec.Type 0 type_word.Int ∷ []); declarators = ((record { declarator = (of_declarator.Name (sp 4 5)); init = None }) ∷ []) }) ∷ []) }) ≡ None
unfolding hidden hidden-the_row-BlockItem-1 hidden-the_row-CType-0 hidden-the_row-CType-1 hidden-the_row-Declarator-0 hidden-the_row-Declarator-6 hidden-the_row-Enumerator-8 hidden-the_row-Expr-0 hidden-the_row-Expr-1 hidden-the_row-Expr-2 hidden-arguments hidden-the_row-Init-0 hidden-the_row-Initializer-0 hidden-the_row-Member-7 hidden-the_row-Param-5 hidden-the_row-Place-1 hidden-the_row-Spec-3 hidden-the_row-Stmt-0 hidden-unit-0 hidden-unit-1 hidden-the_row-TypeName-4 shape-the_row-BlockItem-1 shape-the_row-CType-0 shape-the_row-CType-1 shape-the_row-Declarator-0 shape-the_row-Declarator-6 shape-the_row-Enumerator-8 shape-the_row-Expr-0 shape-the_row-Expr-1 shape-the_row-Expr-2 shape-arguments shape-the_row-Init-0 shape-the_row-Initializer-0 shape-the_row-Member-7 shape-the_row-Param-5 shape-the_row-Place-1 shape-the_row-Spec-3 shape-the_row-Stmt-0 shape-unit-0 shape-unit-1 shape-the_row-TypeName-4 indirection element member access address unevaluated size size_of_expression size_of_type plain_assignment number_update pointer_update compound_assignment assignment step_update step spine fresh callee_in callee passed call worth is_null number_constant converted cast typedef_declared function_named variable_named init_declarator declaration file_declaration block_name block_declaration defined_name definition pointer_part array_part function_part made parameter type_name member_of_type_rules_declarators with_argument function_type body_read pointer_word initial_word initializer_words initial_values scalar text_fits by_name by_expression part finished by_list count initial_size initialized number_in character_in text_in text_initially as_value operand lvalue promoted in_sign pair_of stride arithmetic_on shift_on pointer_in_common equality_on logical_on operation sign_operation negation chosen_type chosen alternatives choice name number character holds_initially string_object text_found text parenthesised and_then name_number scoped expression value size_of typedef_name tagged_structure structure_name structure tagged_enumeration enumeration_name enumeration enumerator evaluated condition expression_statement block selection_of selection while_loop do_loop for_turns for_loop returned with_items list_behind block_items statement outermost_effects with_effects typed parts_of exceeded outcome likeness_of each_likeness signature_likeness_of conversion union conflict effects_of merged added shared points_to target_effects without_outer_effects same without_effects words_of opening_of automatics PlaceKeeps InitializerKeeps StmtKeeps row_type place_nodes initializer_nodes stmt_nodes places place_spots initializer_spots stmt_spots callee_of stores structure_in IsWithin AreVariables IsTypedPlace IsInitializer IsTypedStmt place_type packed
declared_1 = refl

-- int x; void «here» x(void);
declared_2 : first_fault (codes "int x; void x(void);") (record { externals = (external.Declaration (record { place = 0; specs = (spec.Type 0 type_word.Int ∷ []); declarators = ((record { declarator = (of_declarator.Name (sp 4 5)); init = None }) ∷ []) }) ∷ external.Declaration (record { place = 7; specs = (spec.Type 7 type_word.Void ∷ []); declarators = ((record { declarator = (of_declarator.Function (of_declarator.Name (sp 12 13)) 13 (params.Void 14) []); init = None }) ∷ []) }) ∷ []) }) ≡ Some (2, 12)
unfolding hidden hidden-the_row-BlockItem-1 hidden-the_row-CType-0 hidden-the_row-CType-1 hidden-the_row-Declarator-0 hidden-the_row-Declarator-6 hidden-the_row-Enumerator-8 hidden-the_row-Expr-0 hidden-the_row-Expr-1 hidden-the_row-Expr-2 hidden-arguments hidden-the_row-Init-0 hidden-the_row-Initializer-0 hidden-the_row-Member-7 hidden-the_row-Param-5 hidden-the_row-Place-1 hidden-the_row-Spec-3 hidden-the_row-Stmt-0 hidden-unit-0 hidden-unit-1 hidden-the_row-TypeName-4 shape-the_row-BlockItem-1 shape-the_row-CType-0 shape-the_row-CType-1 shape-the_row-Declarator-0 shape-the_row-Declarator-6 shape-the_row-Enumerator-8 shape-the_row-Expr-0 shape-the_row-Expr-1 shape-the_row-Expr-2 shape-arguments shape-the_row-Init-0 shape-the_row-Initializer-0 shape-the_row-Member-7 shape-the_row-Param-5 shape-the_row-Place-1 shape-the_row-Spec-3 shape-the_row-Stmt-0 shape-unit-0 shape-unit-1 shape-the_row-TypeName-4 indirection element member access address unevaluated size size_of_expression size_of_type plain_assignment number_update pointer_update compound_assignment assignment step_update step spine fresh callee_in callee passed call worth is_null number_constant converted cast typedef_declared function_named variable_named init_declarator declaration file_declaration block_name block_declaration defined_name definition pointer_part array_part function_part made parameter type_name member_of_type_rules_declarators with_argument function_type body_read pointer_word initial_word initializer_words initial_values scalar text_fits by_name by_expression part finished by_list count initial_size initialized number_in character_in text_in text_initially as_value operand lvalue promoted in_sign pair_of stride arithmetic_on shift_on pointer_in_common equality_on logical_on operation sign_operation negation chosen_type chosen alternatives choice name number character holds_initially string_object text_found text parenthesised and_then name_number scoped expression value size_of typedef_name tagged_structure structure_name structure tagged_enumeration enumeration_name enumeration enumerator evaluated condition expression_statement block selection_of selection while_loop do_loop for_turns for_loop returned with_items list_behind block_items statement outermost_effects with_effects typed parts_of exceeded outcome likeness_of each_likeness signature_likeness_of conversion union conflict effects_of merged added shared points_to target_effects without_outer_effects same without_effects words_of opening_of automatics PlaceKeeps InitializerKeeps StmtKeeps row_type place_nodes initializer_nodes stmt_nodes places place_spots initializer_spots stmt_spots callee_of stores structure_in IsWithin AreVariables IsTypedPlace IsInitializer IsTypedStmt place_type packed
declared_2 = refl

-- int x; char «here» x;
declared_3 : first_fault (codes "int x; char x;") (record { externals = (external.Declaration (record { place = 0; specs = (spec.Type 0 type_word.Int ∷ []); declarators = ((record { declarator = (of_declarator.Name (sp 4 5)); init = None }) ∷ []) }) ∷ external.Declaration (record { place = 7; specs = (spec.Type 7 type_word.Char ∷ []); declarators = ((record { declarator = (of_declarator.Name (sp 12 13)); init = None }) ∷ []) }) ∷ []) }) ≡ Some (3, 12)
unfolding hidden hidden-the_row-BlockItem-1 hidden-the_row-CType-0 hidden-the_row-CType-1 hidden-the_row-Declarator-0 hidden-the_row-Declarator-6 hidden-the_row-Enumerator-8 hidden-the_row-Expr-0 hidden-the_row-Expr-1 hidden-the_row-Expr-2 hidden-arguments hidden-the_row-Init-0 hidden-the_row-Initializer-0 hidden-the_row-Member-7 hidden-the_row-Param-5 hidden-the_row-Place-1 hidden-the_row-Spec-3 hidden-the_row-Stmt-0 hidden-unit-0 hidden-unit-1 hidden-the_row-TypeName-4 shape-the_row-BlockItem-1 shape-the_row-CType-0 shape-the_row-CType-1 shape-the_row-Declarator-0 shape-the_row-Declarator-6 shape-the_row-Enumerator-8 shape-the_row-Expr-0 shape-the_row-Expr-1 shape-the_row-Expr-2 shape-arguments shape-the_row-Init-0 shape-the_row-Initializer-0 shape-the_row-Member-7 shape-the_row-Param-5 shape-the_row-Place-1 shape-the_row-Spec-3 shape-the_row-Stmt-0 shape-unit-0 shape-unit-1 shape-the_row-TypeName-4 indirection element member access address unevaluated size size_of_expression size_of_type plain_assignment number_update pointer_update compound_assignment assignment step_update step spine fresh callee_in callee passed call worth is_null number_constant converted cast typedef_declared function_named variable_named init_declarator declaration file_declaration block_name block_declaration defined_name definition pointer_part array_part function_part made parameter type_name member_of_type_rules_declarators with_argument function_type body_read pointer_word initial_word initializer_words initial_values scalar text_fits by_name by_expression part finished by_list count initial_size initialized number_in character_in text_in text_initially as_value operand lvalue promoted in_sign pair_of stride arithmetic_on shift_on pointer_in_common equality_on logical_on operation sign_operation negation chosen_type chosen alternatives choice name number character holds_initially string_object text_found text parenthesised and_then name_number scoped expression value size_of typedef_name tagged_structure structure_name structure tagged_enumeration enumeration_name enumeration enumerator evaluated condition expression_statement block selection_of selection while_loop do_loop for_turns for_loop returned with_items list_behind block_items statement outermost_effects with_effects typed parts_of exceeded outcome likeness_of each_likeness signature_likeness_of conversion union conflict effects_of merged added shared points_to target_effects without_outer_effects same without_effects words_of opening_of automatics PlaceKeeps InitializerKeeps StmtKeeps row_type place_nodes initializer_nodes stmt_nodes places place_spots initializer_spots stmt_spots callee_of stores structure_in IsWithin AreVariables IsTypedPlace IsInitializer IsTypedStmt place_type packed
declared_3 = refl

-- int x; extern int x; static int x;
declared_4 : first_fault (codes "int x; extern int x; static int x;") (record { externals = (external.Declaration (record { place = 0; specs = (spec.Type 0 type_word.Int ∷ []); declarators = ((record { declarator = (of_declarator.Name (sp 4 5)); init = None }) ∷ []) }) ∷ external.Declaration (record { place = 7; specs = (spec.Storage 7 storage.Extern ∷ spec.Type 14 type_word.Int ∷ []); declarators = ((record { declarator = (of_declarator.Name (sp 18 19)); init = None }) ∷ []) }) ∷ external.Declaration (record { place = 21; specs = (spec.Storage 21 storage.Static ∷ spec.Type 28 type_word.Int ∷ []); declarators = ((record { declarator = (of_declarator.Name (sp 32 33)); init = None }) ∷ []) }) ∷ []) }) ≡ None
unfolding hidden hidden-the_row-BlockItem-1 hidden-the_row-CType-0 hidden-the_row-CType-1 hidden-the_row-Declarator-0 hidden-the_row-Declarator-6 hidden-the_row-Enumerator-8 hidden-the_row-Expr-0 hidden-the_row-Expr-1 hidden-the_row-Expr-2 hidden-arguments hidden-the_row-Init-0 hidden-the_row-Initializer-0 hidden-the_row-Member-7 hidden-the_row-Param-5 hidden-the_row-Place-1 hidden-the_row-Spec-3 hidden-the_row-Stmt-0 hidden-unit-0 hidden-unit-1 hidden-the_row-TypeName-4 shape-the_row-BlockItem-1 shape-the_row-CType-0 shape-the_row-CType-1 shape-the_row-Declarator-0 shape-the_row-Declarator-6 shape-the_row-Enumerator-8 shape-the_row-Expr-0 shape-the_row-Expr-1 shape-the_row-Expr-2 shape-arguments shape-the_row-Init-0 shape-the_row-Initializer-0 shape-the_row-Member-7 shape-the_row-Param-5 shape-the_row-Place-1 shape-the_row-Spec-3 shape-the_row-Stmt-0 shape-unit-0 shape-unit-1 shape-the_row-TypeName-4 indirection element member access address unevaluated size size_of_expression size_of_type plain_assignment number_update pointer_update compound_assignment assignment step_update step spine fresh callee_in callee passed call worth is_null number_constant converted cast typedef_declared function_named variable_named init_declarator declaration file_declaration block_name block_declaration defined_name definition pointer_part array_part function_part made parameter type_name member_of_type_rules_declarators with_argument function_type body_read pointer_word initial_word initializer_words initial_values scalar text_fits by_name by_expression part finished by_list count initial_size initialized number_in character_in text_in text_initially as_value operand lvalue promoted in_sign pair_of stride arithmetic_on shift_on pointer_in_common equality_on logical_on operation sign_operation negation chosen_type chosen alternatives choice name number character holds_initially string_object text_found text parenthesised and_then name_number scoped expression value size_of typedef_name tagged_structure structure_name structure tagged_enumeration enumeration_name enumeration enumerator evaluated condition expression_statement block selection_of selection while_loop do_loop for_turns for_loop returned with_items list_behind block_items statement outermost_effects with_effects typed parts_of exceeded outcome likeness_of each_likeness signature_likeness_of conversion union conflict effects_of merged added shared points_to target_effects without_outer_effects same without_effects words_of opening_of automatics PlaceKeeps InitializerKeeps StmtKeeps row_type place_nodes initializer_nodes stmt_nodes places place_spots initializer_spots stmt_spots callee_of stores structure_in IsWithin AreVariables IsTypedPlace IsInitializer IsTypedStmt place_type packed
declared_4 = refl

-- typedef int T; typedef int T;
declared_5 : first_fault (codes "typedef int T; typedef int T;") (record { externals = (external.Declaration (record { place = 0; specs = (spec.Storage 0 storage.Typedef ∷ spec.Type 8 type_word.Int ∷ []); declarators = ((record { declarator = (of_declarator.Name (sp 12 13)); init = None }) ∷ []) }) ∷ external.Declaration (record { place = 15; specs = (spec.Storage 15 storage.Typedef ∷ spec.Type 23 type_word.Int ∷ []); declarators = ((record { declarator = (of_declarator.Name (sp 27 28)); init = None }) ∷ []) }) ∷ []) }) ≡ None
unfolding hidden hidden-the_row-BlockItem-1 hidden-the_row-CType-0 hidden-the_row-CType-1 hidden-the_row-Declarator-0 hidden-the_row-Declarator-6 hidden-the_row-Enumerator-8 hidden-the_row-Expr-0 hidden-the_row-Expr-1 hidden-the_row-Expr-2 hidden-arguments hidden-the_row-Init-0 hidden-the_row-Initializer-0 hidden-the_row-Member-7 hidden-the_row-Param-5 hidden-the_row-Place-1 hidden-the_row-Spec-3 hidden-the_row-Stmt-0 hidden-unit-0 hidden-unit-1 hidden-the_row-TypeName-4 shape-the_row-BlockItem-1 shape-the_row-CType-0 shape-the_row-CType-1 shape-the_row-Declarator-0 shape-the_row-Declarator-6 shape-the_row-Enumerator-8 shape-the_row-Expr-0 shape-the_row-Expr-1 shape-the_row-Expr-2 shape-arguments shape-the_row-Init-0 shape-the_row-Initializer-0 shape-the_row-Member-7 shape-the_row-Param-5 shape-the_row-Place-1 shape-the_row-Spec-3 shape-the_row-Stmt-0 shape-unit-0 shape-unit-1 shape-the_row-TypeName-4 indirection element member access address unevaluated size size_of_expression size_of_type plain_assignment number_update pointer_update compound_assignment assignment step_update step spine fresh callee_in callee passed call worth is_null number_constant converted cast typedef_declared function_named variable_named init_declarator declaration file_declaration block_name block_declaration defined_name definition pointer_part array_part function_part made parameter type_name member_of_type_rules_declarators with_argument function_type body_read pointer_word initial_word initializer_words initial_values scalar text_fits by_name by_expression part finished by_list count initial_size initialized number_in character_in text_in text_initially as_value operand lvalue promoted in_sign pair_of stride arithmetic_on shift_on pointer_in_common equality_on logical_on operation sign_operation negation chosen_type chosen alternatives choice name number character holds_initially string_object text_found text parenthesised and_then name_number scoped expression value size_of typedef_name tagged_structure structure_name structure tagged_enumeration enumeration_name enumeration enumerator evaluated condition expression_statement block selection_of selection while_loop do_loop for_turns for_loop returned with_items list_behind block_items statement outermost_effects with_effects typed parts_of exceeded outcome likeness_of each_likeness signature_likeness_of conversion union conflict effects_of merged added shared points_to target_effects without_outer_effects same without_effects words_of opening_of automatics PlaceKeeps InitializerKeeps StmtKeeps row_type place_nodes initializer_nodes stmt_nodes places place_spots initializer_spots stmt_spots callee_of stores structure_in IsWithin AreVariables IsTypedPlace IsInitializer IsTypedStmt place_type packed
declared_5 = refl

-- typedef int T; typedef char «here» T;
declared_6 : first_fault (codes "typedef int T; typedef char T;") (record { externals = (external.Declaration (record { place = 0; specs = (spec.Storage 0 storage.Typedef ∷ spec.Type 8 type_word.Int ∷ []); declarators = ((record { declarator = (of_declarator.Name (sp 12 13)); init = None }) ∷ []) }) ∷ external.Declaration (record { place = 15; specs = (spec.Storage 15 storage.Typedef ∷ spec.Type 23 type_word.Char ∷ []); declarators = ((record { declarator = (of_declarator.Name (sp 28 29)); init = None }) ∷ []) }) ∷ []) }) ≡ Some (2, 28)
unfolding hidden hidden-the_row-BlockItem-1 hidden-the_row-CType-0 hidden-the_row-CType-1 hidden-the_row-Declarator-0 hidden-the_row-Declarator-6 hidden-the_row-Enumerator-8 hidden-the_row-Expr-0 hidden-the_row-Expr-1 hidden-the_row-Expr-2 hidden-arguments hidden-the_row-Init-0 hidden-the_row-Initializer-0 hidden-the_row-Member-7 hidden-the_row-Param-5 hidden-the_row-Place-1 hidden-the_row-Spec-3 hidden-the_row-Stmt-0 hidden-unit-0 hidden-unit-1 hidden-the_row-TypeName-4 shape-the_row-BlockItem-1 shape-the_row-CType-0 shape-the_row-CType-1 shape-the_row-Declarator-0 shape-the_row-Declarator-6 shape-the_row-Enumerator-8 shape-the_row-Expr-0 shape-the_row-Expr-1 shape-the_row-Expr-2 shape-arguments shape-the_row-Init-0 shape-the_row-Initializer-0 shape-the_row-Member-7 shape-the_row-Param-5 shape-the_row-Place-1 shape-the_row-Spec-3 shape-the_row-Stmt-0 shape-unit-0 shape-unit-1 shape-the_row-TypeName-4 indirection element member access address unevaluated size size_of_expression size_of_type plain_assignment number_update pointer_update compound_assignment assignment step_update step spine fresh callee_in callee passed call worth is_null number_constant converted cast typedef_declared function_named variable_named init_declarator declaration file_declaration block_name block_declaration defined_name definition pointer_part array_part function_part made parameter type_name member_of_type_rules_declarators with_argument function_type body_read pointer_word initial_word initializer_words initial_values scalar text_fits by_name by_expression part finished by_list count initial_size initialized number_in character_in text_in text_initially as_value operand lvalue promoted in_sign pair_of stride arithmetic_on shift_on pointer_in_common equality_on logical_on operation sign_operation negation chosen_type chosen alternatives choice name number character holds_initially string_object text_found text parenthesised and_then name_number scoped expression value size_of typedef_name tagged_structure structure_name structure tagged_enumeration enumeration_name enumeration enumerator evaluated condition expression_statement block selection_of selection while_loop do_loop for_turns for_loop returned with_items list_behind block_items statement outermost_effects with_effects typed parts_of exceeded outcome likeness_of each_likeness signature_likeness_of conversion union conflict effects_of merged added shared points_to target_effects without_outer_effects same without_effects words_of opening_of automatics PlaceKeeps InitializerKeeps StmtKeeps row_type place_nodes initializer_nodes stmt_nodes places place_spots initializer_spots stmt_spots callee_of stores structure_in IsWithin AreVariables IsTypedPlace IsInitializer IsTypedStmt place_type packed
declared_6 = refl

-- typedef int T; int «here» T;
declared_7 : first_fault (codes "typedef int T; int T;") (record { externals = (external.Declaration (record { place = 0; specs = (spec.Storage 0 storage.Typedef ∷ spec.Type 8 type_word.Int ∷ []); declarators = ((record { declarator = (of_declarator.Name (sp 12 13)); init = None }) ∷ []) }) ∷ external.Declaration (record { place = 15; specs = (spec.Type 15 type_word.Int ∷ []); declarators = ((record { declarator = (of_declarator.Name (sp 19 20)); init = None }) ∷ []) }) ∷ []) }) ≡ Some (2, 19)
unfolding hidden hidden-the_row-BlockItem-1 hidden-the_row-CType-0 hidden-the_row-CType-1 hidden-the_row-Declarator-0 hidden-the_row-Declarator-6 hidden-the_row-Enumerator-8 hidden-the_row-Expr-0 hidden-the_row-Expr-1 hidden-the_row-Expr-2 hidden-arguments hidden-the_row-Init-0 hidden-the_row-Initializer-0 hidden-the_row-Member-7 hidden-the_row-Param-5 hidden-the_row-Place-1 hidden-the_row-Spec-3 hidden-the_row-Stmt-0 hidden-unit-0 hidden-unit-1 hidden-the_row-TypeName-4 shape-the_row-BlockItem-1 shape-the_row-CType-0 shape-the_row-CType-1 shape-the_row-Declarator-0 shape-the_row-Declarator-6 shape-the_row-Enumerator-8 shape-the_row-Expr-0 shape-the_row-Expr-1 shape-the_row-Expr-2 shape-arguments shape-the_row-Init-0 shape-the_row-Initializer-0 shape-the_row-Member-7 shape-the_row-Param-5 shape-the_row-Place-1 shape-the_row-Spec-3 shape-the_row-Stmt-0 shape-unit-0 shape-unit-1 shape-the_row-TypeName-4 indirection element member access address unevaluated size size_of_expression size_of_type plain_assignment number_update pointer_update compound_assignment assignment step_update step spine fresh callee_in callee passed call worth is_null number_constant converted cast typedef_declared function_named variable_named init_declarator declaration file_declaration block_name block_declaration defined_name definition pointer_part array_part function_part made parameter type_name member_of_type_rules_declarators with_argument function_type body_read pointer_word initial_word initializer_words initial_values scalar text_fits by_name by_expression part finished by_list count initial_size initialized number_in character_in text_in text_initially as_value operand lvalue promoted in_sign pair_of stride arithmetic_on shift_on pointer_in_common equality_on logical_on operation sign_operation negation chosen_type chosen alternatives choice name number character holds_initially string_object text_found text parenthesised and_then name_number scoped expression value size_of typedef_name tagged_structure structure_name structure tagged_enumeration enumeration_name enumeration enumerator evaluated condition expression_statement block selection_of selection while_loop do_loop for_turns for_loop returned with_items list_behind block_items statement outermost_effects with_effects typed parts_of exceeded outcome likeness_of each_likeness signature_likeness_of conversion union conflict effects_of merged added shared points_to target_effects without_outer_effects same without_effects words_of opening_of automatics PlaceKeeps InitializerKeeps StmtKeeps row_type place_nodes initializer_nodes stmt_nodes places place_spots initializer_spots stmt_spots callee_of stores structure_in IsWithin AreVariables IsTypedPlace IsInitializer IsTypedStmt place_type packed
declared_7 = refl

-- void f(void); int «here» f(void);
declared_8 : first_fault (codes "void f(void); int f(void);") (record { externals = (external.Declaration (record { place = 0; specs = (spec.Type 0 type_word.Void ∷ []); declarators = ((record { declarator = (of_declarator.Function (of_declarator.Name (sp 5 6)) 6 (params.Void 7) []); init = None }) ∷ []) }) ∷ external.Declaration (record { place = 14; specs = (spec.Type 14 type_word.Int ∷ []); declarators = ((record { declarator = (of_declarator.Function (of_declarator.Name (sp 18 19)) 19 (params.Void 20) []); init = None }) ∷ []) }) ∷ []) }) ≡ Some (3, 18)
unfolding hidden hidden-the_row-BlockItem-1 hidden-the_row-CType-0 hidden-the_row-CType-1 hidden-the_row-Declarator-0 hidden-the_row-Declarator-6 hidden-the_row-Enumerator-8 hidden-the_row-Expr-0 hidden-the_row-Expr-1 hidden-the_row-Expr-2 hidden-arguments hidden-the_row-Init-0 hidden-the_row-Initializer-0 hidden-the_row-Member-7 hidden-the_row-Param-5 hidden-the_row-Place-1 hidden-the_row-Spec-3 hidden-the_row-Stmt-0 hidden-unit-0 hidden-unit-1 hidden-the_row-TypeName-4 shape-the_row-BlockItem-1 shape-the_row-CType-0 shape-the_row-CType-1 shape-the_row-Declarator-0 shape-the_row-Declarator-6 shape-the_row-Enumerator-8 shape-the_row-Expr-0 shape-the_row-Expr-1 shape-the_row-Expr-2 shape-arguments shape-the_row-Init-0 shape-the_row-Initializer-0 shape-the_row-Member-7 shape-the_row-Param-5 shape-the_row-Place-1 shape-the_row-Spec-3 shape-the_row-Stmt-0 shape-unit-0 shape-unit-1 shape-the_row-TypeName-4 indirection element member access address unevaluated size size_of_expression size_of_type plain_assignment number_update pointer_update compound_assignment assignment step_update step spine fresh callee_in callee passed call worth is_null number_constant converted cast typedef_declared function_named variable_named init_declarator declaration file_declaration block_name block_declaration defined_name definition pointer_part array_part function_part made parameter type_name member_of_type_rules_declarators with_argument function_type body_read pointer_word initial_word initializer_words initial_values scalar text_fits by_name by_expression part finished by_list count initial_size initialized number_in character_in text_in text_initially as_value operand lvalue promoted in_sign pair_of stride arithmetic_on shift_on pointer_in_common equality_on logical_on operation sign_operation negation chosen_type chosen alternatives choice name number character holds_initially string_object text_found text parenthesised and_then name_number scoped expression value size_of typedef_name tagged_structure structure_name structure tagged_enumeration enumeration_name enumeration enumerator evaluated condition expression_statement block selection_of selection while_loop do_loop for_turns for_loop returned with_items list_behind block_items statement outermost_effects with_effects typed parts_of exceeded outcome likeness_of each_likeness signature_likeness_of conversion union conflict effects_of merged added shared points_to target_effects without_outer_effects same without_effects words_of opening_of automatics PlaceKeeps InitializerKeeps StmtKeeps row_type place_nodes initializer_nodes stmt_nodes places place_spots initializer_spots stmt_spots callee_of stores structure_in IsWithin AreVariables IsTypedPlace IsInitializer IsTypedStmt place_type packed
declared_8 = refl

-- void f(void) { } void «here» f(void) { }
declared_9 : first_fault (codes "void f(void) { } void f(void) { }") (record { externals = (external.Function (record { place = 0; specs = (spec.Type 0 type_word.Void ∷ []); declarator = (of_declarator.Function (of_declarator.Name (sp 5 6)) 6 (params.Void 7) []); body_place = 13; body = [] }) ∷ external.Function (record { place = 17; specs = (spec.Type 17 type_word.Void ∷ []); declarator = (of_declarator.Function (of_declarator.Name (sp 22 23)) 23 (params.Void 24) []); body_place = 30; body = [] }) ∷ []) }) ≡ Some (2, 22)
unfolding hidden hidden-the_row-BlockItem-1 hidden-the_row-CType-0 hidden-the_row-CType-1 hidden-the_row-Declarator-0 hidden-the_row-Declarator-6 hidden-the_row-Enumerator-8 hidden-the_row-Expr-0 hidden-the_row-Expr-1 hidden-the_row-Expr-2 hidden-arguments hidden-the_row-Init-0 hidden-the_row-Initializer-0 hidden-the_row-Member-7 hidden-the_row-Param-5 hidden-the_row-Place-1 hidden-the_row-Spec-3 hidden-the_row-Stmt-0 hidden-unit-0 hidden-unit-1 hidden-the_row-TypeName-4 shape-the_row-BlockItem-1 shape-the_row-CType-0 shape-the_row-CType-1 shape-the_row-Declarator-0 shape-the_row-Declarator-6 shape-the_row-Enumerator-8 shape-the_row-Expr-0 shape-the_row-Expr-1 shape-the_row-Expr-2 shape-arguments shape-the_row-Init-0 shape-the_row-Initializer-0 shape-the_row-Member-7 shape-the_row-Param-5 shape-the_row-Place-1 shape-the_row-Spec-3 shape-the_row-Stmt-0 shape-unit-0 shape-unit-1 shape-the_row-TypeName-4 indirection element member access address unevaluated size size_of_expression size_of_type plain_assignment number_update pointer_update compound_assignment assignment step_update step spine fresh callee_in callee passed call worth is_null number_constant converted cast typedef_declared function_named variable_named init_declarator declaration file_declaration block_name block_declaration defined_name definition pointer_part array_part function_part made parameter type_name member_of_type_rules_declarators with_argument function_type body_read pointer_word initial_word initializer_words initial_values scalar text_fits by_name by_expression part finished by_list count initial_size initialized number_in character_in text_in text_initially as_value operand lvalue promoted in_sign pair_of stride arithmetic_on shift_on pointer_in_common equality_on logical_on operation sign_operation negation chosen_type chosen alternatives choice name number character holds_initially string_object text_found text parenthesised and_then name_number scoped expression value size_of typedef_name tagged_structure structure_name structure tagged_enumeration enumeration_name enumeration enumerator evaluated condition expression_statement block selection_of selection while_loop do_loop for_turns for_loop returned with_items list_behind block_items statement outermost_effects with_effects typed parts_of exceeded outcome likeness_of each_likeness signature_likeness_of conversion union conflict effects_of merged added shared points_to target_effects without_outer_effects same without_effects words_of opening_of automatics PlaceKeeps InitializerKeeps StmtKeeps row_type place_nodes initializer_nodes stmt_nodes places place_spots initializer_spots stmt_spots callee_of stores structure_in IsWithin AreVariables IsTypedPlace IsInitializer IsTypedStmt place_type packed
declared_9 = refl

-- void f(int a, int «here» a);
declared_10 : first_fault (codes "void f(int a, int a);") (record { externals = (external.Declaration (record { place = 0; specs = (spec.Type 0 type_word.Void ∷ []); declarators = ((record { declarator = (of_declarator.Function (of_declarator.Name (sp 5 6)) 6 (params.List ((record { place = 7; specs = (spec.Type 7 type_word.Int ∷ []); declarator = (of_declarator.Name (sp 11 12)) }) ∷ (record { place = 14; specs = (spec.Type 14 type_word.Int ∷ []); declarator = (of_declarator.Name (sp 18 19)) }) ∷ [])) []); init = None }) ∷ []) }) ∷ []) }) ≡ Some (2, 18)
unfolding hidden hidden-the_row-BlockItem-1 hidden-the_row-CType-0 hidden-the_row-CType-1 hidden-the_row-Declarator-0 hidden-the_row-Declarator-6 hidden-the_row-Enumerator-8 hidden-the_row-Expr-0 hidden-the_row-Expr-1 hidden-the_row-Expr-2 hidden-arguments hidden-the_row-Init-0 hidden-the_row-Initializer-0 hidden-the_row-Member-7 hidden-the_row-Param-5 hidden-the_row-Place-1 hidden-the_row-Spec-3 hidden-the_row-Stmt-0 hidden-unit-0 hidden-unit-1 hidden-the_row-TypeName-4 shape-the_row-BlockItem-1 shape-the_row-CType-0 shape-the_row-CType-1 shape-the_row-Declarator-0 shape-the_row-Declarator-6 shape-the_row-Enumerator-8 shape-the_row-Expr-0 shape-the_row-Expr-1 shape-the_row-Expr-2 shape-arguments shape-the_row-Init-0 shape-the_row-Initializer-0 shape-the_row-Member-7 shape-the_row-Param-5 shape-the_row-Place-1 shape-the_row-Spec-3 shape-the_row-Stmt-0 shape-unit-0 shape-unit-1 shape-the_row-TypeName-4 indirection element member access address unevaluated size size_of_expression size_of_type plain_assignment number_update pointer_update compound_assignment assignment step_update step spine fresh callee_in callee passed call worth is_null number_constant converted cast typedef_declared function_named variable_named init_declarator declaration file_declaration block_name block_declaration defined_name definition pointer_part array_part function_part made parameter type_name member_of_type_rules_declarators with_argument function_type body_read pointer_word initial_word initializer_words initial_values scalar text_fits by_name by_expression part finished by_list count initial_size initialized number_in character_in text_in text_initially as_value operand lvalue promoted in_sign pair_of stride arithmetic_on shift_on pointer_in_common equality_on logical_on operation sign_operation negation chosen_type chosen alternatives choice name number character holds_initially string_object text_found text parenthesised and_then name_number scoped expression value size_of typedef_name tagged_structure structure_name structure tagged_enumeration enumeration_name enumeration enumerator evaluated condition expression_statement block selection_of selection while_loop do_loop for_turns for_loop returned with_items list_behind block_items statement outermost_effects with_effects typed parts_of exceeded outcome likeness_of each_likeness signature_likeness_of conversion union conflict effects_of merged added shared points_to target_effects without_outer_effects same without_effects words_of opening_of automatics PlaceKeeps InitializerKeeps StmtKeeps row_type place_nodes initializer_nodes stmt_nodes places place_spots initializer_spots stmt_spots callee_of stores structure_in IsWithin AreVariables IsTypedPlace IsInitializer IsTypedStmt place_type packed
declared_10 = refl

-- struct s { int a; char «here» a; };
declared_11 : first_fault (codes "struct s { int a; char a; };") (record { externals = (external.Declaration (record { place = 0; specs = (spec.Struct 0 (Some (sp 7 8)) ((record { place = 11; specs = (spec.Type 11 type_word.Int ∷ []); declarators = ((of_declarator.Name (sp 15 16)) ∷ []) }) ∷ (record { place = 18; specs = (spec.Type 18 type_word.Char ∷ []); declarators = ((of_declarator.Name (sp 23 24)) ∷ []) }) ∷ []) ∷ []); declarators = [] }) ∷ []) }) ≡ Some (2, 23)
unfolding hidden hidden-the_row-BlockItem-1 hidden-the_row-CType-0 hidden-the_row-CType-1 hidden-the_row-Declarator-0 hidden-the_row-Declarator-6 hidden-the_row-Enumerator-8 hidden-the_row-Expr-0 hidden-the_row-Expr-1 hidden-the_row-Expr-2 hidden-arguments hidden-the_row-Init-0 hidden-the_row-Initializer-0 hidden-the_row-Member-7 hidden-the_row-Param-5 hidden-the_row-Place-1 hidden-the_row-Spec-3 hidden-the_row-Stmt-0 hidden-unit-0 hidden-unit-1 hidden-the_row-TypeName-4 shape-the_row-BlockItem-1 shape-the_row-CType-0 shape-the_row-CType-1 shape-the_row-Declarator-0 shape-the_row-Declarator-6 shape-the_row-Enumerator-8 shape-the_row-Expr-0 shape-the_row-Expr-1 shape-the_row-Expr-2 shape-arguments shape-the_row-Init-0 shape-the_row-Initializer-0 shape-the_row-Member-7 shape-the_row-Param-5 shape-the_row-Place-1 shape-the_row-Spec-3 shape-the_row-Stmt-0 shape-unit-0 shape-unit-1 shape-the_row-TypeName-4 indirection element member access address unevaluated size size_of_expression size_of_type plain_assignment number_update pointer_update compound_assignment assignment step_update step spine fresh callee_in callee passed call worth is_null number_constant converted cast typedef_declared function_named variable_named init_declarator declaration file_declaration block_name block_declaration defined_name definition pointer_part array_part function_part made parameter type_name member_of_type_rules_declarators with_argument function_type body_read pointer_word initial_word initializer_words initial_values scalar text_fits by_name by_expression part finished by_list count initial_size initialized number_in character_in text_in text_initially as_value operand lvalue promoted in_sign pair_of stride arithmetic_on shift_on pointer_in_common equality_on logical_on operation sign_operation negation chosen_type chosen alternatives choice name number character holds_initially string_object text_found text parenthesised and_then name_number scoped expression value size_of typedef_name tagged_structure structure_name structure tagged_enumeration enumeration_name enumeration enumerator evaluated condition expression_statement block selection_of selection while_loop do_loop for_turns for_loop returned with_items list_behind block_items statement outermost_effects with_effects typed parts_of exceeded outcome likeness_of each_likeness signature_likeness_of conversion union conflict effects_of merged added shared points_to target_effects without_outer_effects same without_effects words_of opening_of automatics PlaceKeeps InitializerKeeps StmtKeeps row_type place_nodes initializer_nodes stmt_nodes places place_spots initializer_spots stmt_spots callee_of stores structure_in IsWithin AreVariables IsTypedPlace IsInitializer IsTypedStmt place_type packed
declared_11 = refl

-- struct s { int a; }; struct «here» s { int b; };
declared_12 : first_fault (codes "struct s { int a; }; struct s { int b; };") (record { externals = (external.Declaration (record { place = 0; specs = (spec.Struct 0 (Some (sp 7 8)) ((record { place = 11; specs = (spec.Type 11 type_word.Int ∷ []); declarators = ((of_declarator.Name (sp 15 16)) ∷ []) }) ∷ []) ∷ []); declarators = [] }) ∷ external.Declaration (record { place = 21; specs = (spec.Struct 21 (Some (sp 28 29)) ((record { place = 32; specs = (spec.Type 32 type_word.Int ∷ []); declarators = ((of_declarator.Name (sp 36 37)) ∷ []) }) ∷ []) ∷ []); declarators = [] }) ∷ []) }) ≡ Some (2, 28)
unfolding hidden hidden-the_row-BlockItem-1 hidden-the_row-CType-0 hidden-the_row-CType-1 hidden-the_row-Declarator-0 hidden-the_row-Declarator-6 hidden-the_row-Enumerator-8 hidden-the_row-Expr-0 hidden-the_row-Expr-1 hidden-the_row-Expr-2 hidden-arguments hidden-the_row-Init-0 hidden-the_row-Initializer-0 hidden-the_row-Member-7 hidden-the_row-Param-5 hidden-the_row-Place-1 hidden-the_row-Spec-3 hidden-the_row-Stmt-0 hidden-unit-0 hidden-unit-1 hidden-the_row-TypeName-4 shape-the_row-BlockItem-1 shape-the_row-CType-0 shape-the_row-CType-1 shape-the_row-Declarator-0 shape-the_row-Declarator-6 shape-the_row-Enumerator-8 shape-the_row-Expr-0 shape-the_row-Expr-1 shape-the_row-Expr-2 shape-arguments shape-the_row-Init-0 shape-the_row-Initializer-0 shape-the_row-Member-7 shape-the_row-Param-5 shape-the_row-Place-1 shape-the_row-Spec-3 shape-the_row-Stmt-0 shape-unit-0 shape-unit-1 shape-the_row-TypeName-4 indirection element member access address unevaluated size size_of_expression size_of_type plain_assignment number_update pointer_update compound_assignment assignment step_update step spine fresh callee_in callee passed call worth is_null number_constant converted cast typedef_declared function_named variable_named init_declarator declaration file_declaration block_name block_declaration defined_name definition pointer_part array_part function_part made parameter type_name member_of_type_rules_declarators with_argument function_type body_read pointer_word initial_word initializer_words initial_values scalar text_fits by_name by_expression part finished by_list count initial_size initialized number_in character_in text_in text_initially as_value operand lvalue promoted in_sign pair_of stride arithmetic_on shift_on pointer_in_common equality_on logical_on operation sign_operation negation chosen_type chosen alternatives choice name number character holds_initially string_object text_found text parenthesised and_then name_number scoped expression value size_of typedef_name tagged_structure structure_name structure tagged_enumeration enumeration_name enumeration enumerator evaluated condition expression_statement block selection_of selection while_loop do_loop for_turns for_loop returned with_items list_behind block_items statement outermost_effects with_effects typed parts_of exceeded outcome likeness_of each_likeness signature_likeness_of conversion union conflict effects_of merged added shared points_to target_effects without_outer_effects same without_effects words_of opening_of automatics PlaceKeeps InitializerKeeps StmtKeeps row_type place_nodes initializer_nodes stmt_nodes places place_spots initializer_spots stmt_spots callee_of stores structure_in IsWithin AreVariables IsTypedPlace IsInitializer IsTypedStmt place_type packed
declared_12 = refl

-- struct s { struct «here» s { int a; } b; };
declared_13 : first_fault (codes "struct s { struct s { int a; } b; };") (record { externals = (external.Declaration (record { place = 0; specs = (spec.Struct 0 (Some (sp 7 8)) ((record { place = 11; specs = (spec.Struct 11 (Some (sp 18 19)) ((record { place = 22; specs = (spec.Type 22 type_word.Int ∷ []); declarators = ((of_declarator.Name (sp 26 27)) ∷ []) }) ∷ []) ∷ []); declarators = ((of_declarator.Name (sp 31 32)) ∷ []) }) ∷ []) ∷ []); declarators = [] }) ∷ []) }) ≡ Some (2, 18)
unfolding hidden hidden-the_row-BlockItem-1 hidden-the_row-CType-0 hidden-the_row-CType-1 hidden-the_row-Declarator-0 hidden-the_row-Declarator-6 hidden-the_row-Enumerator-8 hidden-the_row-Expr-0 hidden-the_row-Expr-1 hidden-the_row-Expr-2 hidden-arguments hidden-the_row-Init-0 hidden-the_row-Initializer-0 hidden-the_row-Member-7 hidden-the_row-Param-5 hidden-the_row-Place-1 hidden-the_row-Spec-3 hidden-the_row-Stmt-0 hidden-unit-0 hidden-unit-1 hidden-the_row-TypeName-4 shape-the_row-BlockItem-1 shape-the_row-CType-0 shape-the_row-CType-1 shape-the_row-Declarator-0 shape-the_row-Declarator-6 shape-the_row-Enumerator-8 shape-the_row-Expr-0 shape-the_row-Expr-1 shape-the_row-Expr-2 shape-arguments shape-the_row-Init-0 shape-the_row-Initializer-0 shape-the_row-Member-7 shape-the_row-Param-5 shape-the_row-Place-1 shape-the_row-Spec-3 shape-the_row-Stmt-0 shape-unit-0 shape-unit-1 shape-the_row-TypeName-4 indirection element member access address unevaluated size size_of_expression size_of_type plain_assignment number_update pointer_update compound_assignment assignment step_update step spine fresh callee_in callee passed call worth is_null number_constant converted cast typedef_declared function_named variable_named init_declarator declaration file_declaration block_name block_declaration defined_name definition pointer_part array_part function_part made parameter type_name member_of_type_rules_declarators with_argument function_type body_read pointer_word initial_word initializer_words initial_values scalar text_fits by_name by_expression part finished by_list count initial_size initialized number_in character_in text_in text_initially as_value operand lvalue promoted in_sign pair_of stride arithmetic_on shift_on pointer_in_common equality_on logical_on operation sign_operation negation chosen_type chosen alternatives choice name number character holds_initially string_object text_found text parenthesised and_then name_number scoped expression value size_of typedef_name tagged_structure structure_name structure tagged_enumeration enumeration_name enumeration enumerator evaluated condition expression_statement block selection_of selection while_loop do_loop for_turns for_loop returned with_items list_behind block_items statement outermost_effects with_effects typed parts_of exceeded outcome likeness_of each_likeness signature_likeness_of conversion union conflict effects_of merged added shared points_to target_effects without_outer_effects same without_effects words_of opening_of automatics PlaceKeeps InitializerKeeps StmtKeeps row_type place_nodes initializer_nodes stmt_nodes places place_spots initializer_spots stmt_spots callee_of stores structure_in IsWithin AreVariables IsTypedPlace IsInitializer IsTypedStmt place_type packed
declared_13 = refl

-- struct s; enum «here» s { A };
declared_14 : first_fault (codes "struct s; enum s { A };") (record { externals = (external.Declaration (record { place = 0; specs = (spec.StructName 0 (sp 7 8) ∷ []); declarators = [] }) ∷ external.Declaration (record { place = 10; specs = (spec.Enum 10 (Some (sp 15 16)) ((record { name = (sp 19 20); value = None }) ∷ []) ∷ []); declarators = [] }) ∷ []) }) ≡ Some (2, 15)
unfolding hidden hidden-the_row-BlockItem-1 hidden-the_row-CType-0 hidden-the_row-CType-1 hidden-the_row-Declarator-0 hidden-the_row-Declarator-6 hidden-the_row-Enumerator-8 hidden-the_row-Expr-0 hidden-the_row-Expr-1 hidden-the_row-Expr-2 hidden-arguments hidden-the_row-Init-0 hidden-the_row-Initializer-0 hidden-the_row-Member-7 hidden-the_row-Param-5 hidden-the_row-Place-1 hidden-the_row-Spec-3 hidden-the_row-Stmt-0 hidden-unit-0 hidden-unit-1 hidden-the_row-TypeName-4 shape-the_row-BlockItem-1 shape-the_row-CType-0 shape-the_row-CType-1 shape-the_row-Declarator-0 shape-the_row-Declarator-6 shape-the_row-Enumerator-8 shape-the_row-Expr-0 shape-the_row-Expr-1 shape-the_row-Expr-2 shape-arguments shape-the_row-Init-0 shape-the_row-Initializer-0 shape-the_row-Member-7 shape-the_row-Param-5 shape-the_row-Place-1 shape-the_row-Spec-3 shape-the_row-Stmt-0 shape-unit-0 shape-unit-1 shape-the_row-TypeName-4 indirection element member access address unevaluated size size_of_expression size_of_type plain_assignment number_update pointer_update compound_assignment assignment step_update step spine fresh callee_in callee passed call worth is_null number_constant converted cast typedef_declared function_named variable_named init_declarator declaration file_declaration block_name block_declaration defined_name definition pointer_part array_part function_part made parameter type_name member_of_type_rules_declarators with_argument function_type body_read pointer_word initial_word initializer_words initial_values scalar text_fits by_name by_expression part finished by_list count initial_size initialized number_in character_in text_in text_initially as_value operand lvalue promoted in_sign pair_of stride arithmetic_on shift_on pointer_in_common equality_on logical_on operation sign_operation negation chosen_type chosen alternatives choice name number character holds_initially string_object text_found text parenthesised and_then name_number scoped expression value size_of typedef_name tagged_structure structure_name structure tagged_enumeration enumeration_name enumeration enumerator evaluated condition expression_statement block selection_of selection while_loop do_loop for_turns for_loop returned with_items list_behind block_items statement outermost_effects with_effects typed parts_of exceeded outcome likeness_of each_likeness signature_likeness_of conversion union conflict effects_of merged added shared points_to target_effects without_outer_effects same without_effects words_of opening_of automatics PlaceKeeps InitializerKeeps StmtKeeps row_type place_nodes initializer_nodes stmt_nodes places place_spots initializer_spots stmt_spots callee_of stores structure_in IsWithin AreVariables IsTypedPlace IsInitializer IsTypedStmt place_type packed
declared_14 = refl

-- enum e { A }; struct «here» e;
declared_15 : first_fault (codes "enum e { A }; struct e;") (record { externals = (external.Declaration (record { place = 0; specs = (spec.Enum 0 (Some (sp 5 6)) ((record { name = (sp 9 10); value = None }) ∷ []) ∷ []); declarators = [] }) ∷ external.Declaration (record { place = 14; specs = (spec.StructName 14 (sp 21 22) ∷ []); declarators = [] }) ∷ []) }) ≡ Some (2, 21)
unfolding hidden hidden-the_row-BlockItem-1 hidden-the_row-CType-0 hidden-the_row-CType-1 hidden-the_row-Declarator-0 hidden-the_row-Declarator-6 hidden-the_row-Enumerator-8 hidden-the_row-Expr-0 hidden-the_row-Expr-1 hidden-the_row-Expr-2 hidden-arguments hidden-the_row-Init-0 hidden-the_row-Initializer-0 hidden-the_row-Member-7 hidden-the_row-Param-5 hidden-the_row-Place-1 hidden-the_row-Spec-3 hidden-the_row-Stmt-0 hidden-unit-0 hidden-unit-1 hidden-the_row-TypeName-4 shape-the_row-BlockItem-1 shape-the_row-CType-0 shape-the_row-CType-1 shape-the_row-Declarator-0 shape-the_row-Declarator-6 shape-the_row-Enumerator-8 shape-the_row-Expr-0 shape-the_row-Expr-1 shape-the_row-Expr-2 shape-arguments shape-the_row-Init-0 shape-the_row-Initializer-0 shape-the_row-Member-7 shape-the_row-Param-5 shape-the_row-Place-1 shape-the_row-Spec-3 shape-the_row-Stmt-0 shape-unit-0 shape-unit-1 shape-the_row-TypeName-4 indirection element member access address unevaluated size size_of_expression size_of_type plain_assignment number_update pointer_update compound_assignment assignment step_update step spine fresh callee_in callee passed call worth is_null number_constant converted cast typedef_declared function_named variable_named init_declarator declaration file_declaration block_name block_declaration defined_name definition pointer_part array_part function_part made parameter type_name member_of_type_rules_declarators with_argument function_type body_read pointer_word initial_word initializer_words initial_values scalar text_fits by_name by_expression part finished by_list count initial_size initialized number_in character_in text_in text_initially as_value operand lvalue promoted in_sign pair_of stride arithmetic_on shift_on pointer_in_common equality_on logical_on operation sign_operation negation chosen_type chosen alternatives choice name number character holds_initially string_object text_found text parenthesised and_then name_number scoped expression value size_of typedef_name tagged_structure structure_name structure tagged_enumeration enumeration_name enumeration enumerator evaluated condition expression_statement block selection_of selection while_loop do_loop for_turns for_loop returned with_items list_behind block_items statement outermost_effects with_effects typed parts_of exceeded outcome likeness_of each_likeness signature_likeness_of conversion union conflict effects_of merged added shared points_to target_effects without_outer_effects same without_effects words_of opening_of automatics PlaceKeeps InitializerKeeps StmtKeeps row_type place_nodes initializer_nodes stmt_nodes places place_spots initializer_spots stmt_spots callee_of stores structure_in IsWithin AreVariables IsTypedPlace IsInitializer IsTypedStmt place_type packed
declared_15 = refl

-- enum e { A }; enum «here» e { B };
declared_16 : first_fault (codes "enum e { A }; enum e { B };") (record { externals = (external.Declaration (record { place = 0; specs = (spec.Enum 0 (Some (sp 5 6)) ((record { name = (sp 9 10); value = None }) ∷ []) ∷ []); declarators = [] }) ∷ external.Declaration (record { place = 14; specs = (spec.Enum 14 (Some (sp 19 20)) ((record { name = (sp 23 24); value = None }) ∷ []) ∷ []); declarators = [] }) ∷ []) }) ≡ Some (2, 19)
unfolding hidden hidden-the_row-BlockItem-1 hidden-the_row-CType-0 hidden-the_row-CType-1 hidden-the_row-Declarator-0 hidden-the_row-Declarator-6 hidden-the_row-Enumerator-8 hidden-the_row-Expr-0 hidden-the_row-Expr-1 hidden-the_row-Expr-2 hidden-arguments hidden-the_row-Init-0 hidden-the_row-Initializer-0 hidden-the_row-Member-7 hidden-the_row-Param-5 hidden-the_row-Place-1 hidden-the_row-Spec-3 hidden-the_row-Stmt-0 hidden-unit-0 hidden-unit-1 hidden-the_row-TypeName-4 shape-the_row-BlockItem-1 shape-the_row-CType-0 shape-the_row-CType-1 shape-the_row-Declarator-0 shape-the_row-Declarator-6 shape-the_row-Enumerator-8 shape-the_row-Expr-0 shape-the_row-Expr-1 shape-the_row-Expr-2 shape-arguments shape-the_row-Init-0 shape-the_row-Initializer-0 shape-the_row-Member-7 shape-the_row-Param-5 shape-the_row-Place-1 shape-the_row-Spec-3 shape-the_row-Stmt-0 shape-unit-0 shape-unit-1 shape-the_row-TypeName-4 indirection element member access address unevaluated size size_of_expression size_of_type plain_assignment number_update pointer_update compound_assignment assignment step_update step spine fresh callee_in callee passed call worth is_null number_constant converted cast typedef_declared function_named variable_named init_declarator declaration file_declaration block_name block_declaration defined_name definition pointer_part array_part function_part made parameter type_name member_of_type_rules_declarators with_argument function_type body_read pointer_word initial_word initializer_words initial_values scalar text_fits by_name by_expression part finished by_list count initial_size initialized number_in character_in text_in text_initially as_value operand lvalue promoted in_sign pair_of stride arithmetic_on shift_on pointer_in_common equality_on logical_on operation sign_operation negation chosen_type chosen alternatives choice name number character holds_initially string_object text_found text parenthesised and_then name_number scoped expression value size_of typedef_name tagged_structure structure_name structure tagged_enumeration enumeration_name enumeration enumerator evaluated condition expression_statement block selection_of selection while_loop do_loop for_turns for_loop returned with_items list_behind block_items statement outermost_effects with_effects typed parts_of exceeded outcome likeness_of each_likeness signature_likeness_of conversion union conflict effects_of merged added shared points_to target_effects without_outer_effects same without_effects words_of opening_of automatics PlaceKeeps InitializerKeeps StmtKeeps row_type place_nodes initializer_nodes stmt_nodes places place_spots initializer_spots stmt_spots callee_of stores structure_in IsWithin AreVariables IsTypedPlace IsInitializer IsTypedStmt place_type packed
declared_16 = refl

-- enum e x; enum e { A };
declared_17 : first_fault (codes "enum e x; enum e { A };") (record { externals = (external.Declaration (record { place = 0; specs = (spec.EnumName 0 (sp 5 6) ∷ []); declarators = ((record { declarator = (of_declarator.Name (sp 7 8)); init = None }) ∷ []) }) ∷ external.Declaration (record { place = 10; specs = (spec.Enum 10 (Some (sp 15 16)) ((record { name = (sp 19 20); value = None }) ∷ []) ∷ []); declarators = [] }) ∷ []) }) ≡ None
unfolding hidden hidden-the_row-BlockItem-1 hidden-the_row-CType-0 hidden-the_row-CType-1 hidden-the_row-Declarator-0 hidden-the_row-Declarator-6 hidden-the_row-Enumerator-8 hidden-the_row-Expr-0 hidden-the_row-Expr-1 hidden-the_row-Expr-2 hidden-arguments hidden-the_row-Init-0 hidden-the_row-Initializer-0 hidden-the_row-Member-7 hidden-the_row-Param-5 hidden-the_row-Place-1 hidden-the_row-Spec-3 hidden-the_row-Stmt-0 hidden-unit-0 hidden-unit-1 hidden-the_row-TypeName-4 shape-the_row-BlockItem-1 shape-the_row-CType-0 shape-the_row-CType-1 shape-the_row-Declarator-0 shape-the_row-Declarator-6 shape-the_row-Enumerator-8 shape-the_row-Expr-0 shape-the_row-Expr-1 shape-the_row-Expr-2 shape-arguments shape-the_row-Init-0 shape-the_row-Initializer-0 shape-the_row-Member-7 shape-the_row-Param-5 shape-the_row-Place-1 shape-the_row-Spec-3 shape-the_row-Stmt-0 shape-unit-0 shape-unit-1 shape-the_row-TypeName-4 indirection element member access address unevaluated size size_of_expression size_of_type plain_assignment number_update pointer_update compound_assignment assignment step_update step spine fresh callee_in callee passed call worth is_null number_constant converted cast typedef_declared function_named variable_named init_declarator declaration file_declaration block_name block_declaration defined_name definition pointer_part array_part function_part made parameter type_name member_of_type_rules_declarators with_argument function_type body_read pointer_word initial_word initializer_words initial_values scalar text_fits by_name by_expression part finished by_list count initial_size initialized number_in character_in text_in text_initially as_value operand lvalue promoted in_sign pair_of stride arithmetic_on shift_on pointer_in_common equality_on logical_on operation sign_operation negation chosen_type chosen alternatives choice name number character holds_initially string_object text_found text parenthesised and_then name_number scoped expression value size_of typedef_name tagged_structure structure_name structure tagged_enumeration enumeration_name enumeration enumerator evaluated condition expression_statement block selection_of selection while_loop do_loop for_turns for_loop returned with_items list_behind block_items statement outermost_effects with_effects typed parts_of exceeded outcome likeness_of each_likeness signature_likeness_of conversion union conflict effects_of merged added shared points_to target_effects without_outer_effects same without_effects words_of opening_of automatics PlaceKeeps InitializerKeeps StmtKeeps row_type place_nodes initializer_nodes stmt_nodes places place_spots initializer_spots stmt_spots callee_of stores structure_in IsWithin AreVariables IsTypedPlace IsInitializer IsTypedStmt place_type packed
declared_17 = refl

-- int A; enum { «here» A };
declared_18 : first_fault (codes "int A; enum { A };") (record { externals = (external.Declaration (record { place = 0; specs = (spec.Type 0 type_word.Int ∷ []); declarators = ((record { declarator = (of_declarator.Name (sp 4 5)); init = None }) ∷ []) }) ∷ external.Declaration (record { place = 7; specs = (spec.Enum 7 None ((record { name = (sp 14 15); value = None }) ∷ []) ∷ []); declarators = [] }) ∷ []) }) ≡ Some (2, 14)
unfolding hidden hidden-the_row-BlockItem-1 hidden-the_row-CType-0 hidden-the_row-CType-1 hidden-the_row-Declarator-0 hidden-the_row-Declarator-6 hidden-the_row-Enumerator-8 hidden-the_row-Expr-0 hidden-the_row-Expr-1 hidden-the_row-Expr-2 hidden-arguments hidden-the_row-Init-0 hidden-the_row-Initializer-0 hidden-the_row-Member-7 hidden-the_row-Param-5 hidden-the_row-Place-1 hidden-the_row-Spec-3 hidden-the_row-Stmt-0 hidden-unit-0 hidden-unit-1 hidden-the_row-TypeName-4 shape-the_row-BlockItem-1 shape-the_row-CType-0 shape-the_row-CType-1 shape-the_row-Declarator-0 shape-the_row-Declarator-6 shape-the_row-Enumerator-8 shape-the_row-Expr-0 shape-the_row-Expr-1 shape-the_row-Expr-2 shape-arguments shape-the_row-Init-0 shape-the_row-Initializer-0 shape-the_row-Member-7 shape-the_row-Param-5 shape-the_row-Place-1 shape-the_row-Spec-3 shape-the_row-Stmt-0 shape-unit-0 shape-unit-1 shape-the_row-TypeName-4 indirection element member access address unevaluated size size_of_expression size_of_type plain_assignment number_update pointer_update compound_assignment assignment step_update step spine fresh callee_in callee passed call worth is_null number_constant converted cast typedef_declared function_named variable_named init_declarator declaration file_declaration block_name block_declaration defined_name definition pointer_part array_part function_part made parameter type_name member_of_type_rules_declarators with_argument function_type body_read pointer_word initial_word initializer_words initial_values scalar text_fits by_name by_expression part finished by_list count initial_size initialized number_in character_in text_in text_initially as_value operand lvalue promoted in_sign pair_of stride arithmetic_on shift_on pointer_in_common equality_on logical_on operation sign_operation negation chosen_type chosen alternatives choice name number character holds_initially string_object text_found text parenthesised and_then name_number scoped expression value size_of typedef_name tagged_structure structure_name structure tagged_enumeration enumeration_name enumeration enumerator evaluated condition expression_statement block selection_of selection while_loop do_loop for_turns for_loop returned with_items list_behind block_items statement outermost_effects with_effects typed parts_of exceeded outcome likeness_of each_likeness signature_likeness_of conversion union conflict effects_of merged added shared points_to target_effects without_outer_effects same without_effects words_of opening_of automatics PlaceKeeps InitializerKeeps StmtKeeps row_type place_nodes initializer_nodes stmt_nodes places place_spots initializer_spots stmt_spots callee_of stores structure_in IsWithin AreVariables IsTypedPlace IsInitializer IsTypedStmt place_type packed
declared_18 = refl

-- enum { A, «here» A };
declared_19 : first_fault (codes "enum { A, A };") (record { externals = (external.Declaration (record { place = 0; specs = (spec.Enum 0 None ((record { name = (sp 7 8); value = None }) ∷ (record { name = (sp 10 11); value = None }) ∷ []) ∷ []); declarators = [] }) ∷ []) }) ≡ Some (2, 10)
unfolding hidden hidden-the_row-BlockItem-1 hidden-the_row-CType-0 hidden-the_row-CType-1 hidden-the_row-Declarator-0 hidden-the_row-Declarator-6 hidden-the_row-Enumerator-8 hidden-the_row-Expr-0 hidden-the_row-Expr-1 hidden-the_row-Expr-2 hidden-arguments hidden-the_row-Init-0 hidden-the_row-Initializer-0 hidden-the_row-Member-7 hidden-the_row-Param-5 hidden-the_row-Place-1 hidden-the_row-Spec-3 hidden-the_row-Stmt-0 hidden-unit-0 hidden-unit-1 hidden-the_row-TypeName-4 shape-the_row-BlockItem-1 shape-the_row-CType-0 shape-the_row-CType-1 shape-the_row-Declarator-0 shape-the_row-Declarator-6 shape-the_row-Enumerator-8 shape-the_row-Expr-0 shape-the_row-Expr-1 shape-the_row-Expr-2 shape-arguments shape-the_row-Init-0 shape-the_row-Initializer-0 shape-the_row-Member-7 shape-the_row-Param-5 shape-the_row-Place-1 shape-the_row-Spec-3 shape-the_row-Stmt-0 shape-unit-0 shape-unit-1 shape-the_row-TypeName-4 indirection element member access address unevaluated size size_of_expression size_of_type plain_assignment number_update pointer_update compound_assignment assignment step_update step spine fresh callee_in callee passed call worth is_null number_constant converted cast typedef_declared function_named variable_named init_declarator declaration file_declaration block_name block_declaration defined_name definition pointer_part array_part function_part made parameter type_name member_of_type_rules_declarators with_argument function_type body_read pointer_word initial_word initializer_words initial_values scalar text_fits by_name by_expression part finished by_list count initial_size initialized number_in character_in text_in text_initially as_value operand lvalue promoted in_sign pair_of stride arithmetic_on shift_on pointer_in_common equality_on logical_on operation sign_operation negation chosen_type chosen alternatives choice name number character holds_initially string_object text_found text parenthesised and_then name_number scoped expression value size_of typedef_name tagged_structure structure_name structure tagged_enumeration enumeration_name enumeration enumerator evaluated condition expression_statement block selection_of selection while_loop do_loop for_turns for_loop returned with_items list_behind block_items statement outermost_effects with_effects typed parts_of exceeded outcome likeness_of each_likeness signature_likeness_of conversion union conflict effects_of merged added shared points_to target_effects without_outer_effects same without_effects words_of opening_of automatics PlaceKeeps InitializerKeeps StmtKeeps row_type place_nodes initializer_nodes stmt_nodes places place_spots initializer_spots stmt_spots callee_of stores structure_in IsWithin AreVariables IsTypedPlace IsInitializer IsTypedStmt place_type packed
declared_19 = refl

-- enum { A = 2147483647, «here» B };
declared_20 : first_fault (codes "enum { A = 2147483647, B };") (record { externals = (external.Declaration (record { place = 0; specs = (spec.Enum 0 None ((record { name = (sp 7 8); value = (Some (expr.Number (sp 11 21))) }) ∷ (record { name = (sp 23 24); value = None }) ∷ []) ∷ []); declarators = [] }) ∷ []) }) ≡ Some (7, 23)
unfolding hidden hidden-the_row-BlockItem-1 hidden-the_row-CType-0 hidden-the_row-CType-1 hidden-the_row-Declarator-0 hidden-the_row-Declarator-6 hidden-the_row-Enumerator-8 hidden-the_row-Expr-0 hidden-the_row-Expr-1 hidden-the_row-Expr-2 hidden-arguments hidden-the_row-Init-0 hidden-the_row-Initializer-0 hidden-the_row-Member-7 hidden-the_row-Param-5 hidden-the_row-Place-1 hidden-the_row-Spec-3 hidden-the_row-Stmt-0 hidden-unit-0 hidden-unit-1 hidden-the_row-TypeName-4 shape-the_row-BlockItem-1 shape-the_row-CType-0 shape-the_row-CType-1 shape-the_row-Declarator-0 shape-the_row-Declarator-6 shape-the_row-Enumerator-8 shape-the_row-Expr-0 shape-the_row-Expr-1 shape-the_row-Expr-2 shape-arguments shape-the_row-Init-0 shape-the_row-Initializer-0 shape-the_row-Member-7 shape-the_row-Param-5 shape-the_row-Place-1 shape-the_row-Spec-3 shape-the_row-Stmt-0 shape-unit-0 shape-unit-1 shape-the_row-TypeName-4 indirection element member access address unevaluated size size_of_expression size_of_type plain_assignment number_update pointer_update compound_assignment assignment step_update step spine fresh callee_in callee passed call worth is_null number_constant converted cast typedef_declared function_named variable_named init_declarator declaration file_declaration block_name block_declaration defined_name definition pointer_part array_part function_part made parameter type_name member_of_type_rules_declarators with_argument function_type body_read pointer_word initial_word initializer_words initial_values scalar text_fits by_name by_expression part finished by_list count initial_size initialized number_in character_in text_in text_initially as_value operand lvalue promoted in_sign pair_of stride arithmetic_on shift_on pointer_in_common equality_on logical_on operation sign_operation negation chosen_type chosen alternatives choice name number character holds_initially string_object text_found text parenthesised and_then name_number scoped expression value size_of typedef_name tagged_structure structure_name structure tagged_enumeration enumeration_name enumeration enumerator evaluated condition expression_statement block selection_of selection while_loop do_loop for_turns for_loop returned with_items list_behind block_items statement outermost_effects with_effects typed parts_of exceeded outcome likeness_of each_likeness signature_likeness_of conversion union conflict effects_of merged added shared points_to target_effects without_outer_effects same without_effects words_of opening_of automatics PlaceKeeps InitializerKeeps StmtKeeps row_type place_nodes initializer_nodes stmt_nodes places place_spots initializer_spots stmt_spots callee_of stores structure_in IsWithin AreVariables IsTypedPlace IsInitializer IsTypedStmt place_type packed
declared_20 = refl

-- void «here» x;
declared_21 : first_fault (codes "void x;") (record { externals = (external.Declaration (record { place = 0; specs = (spec.Type 0 type_word.Void ∷ []); declarators = ((record { declarator = (of_declarator.Name (sp 5 6)); init = None }) ∷ []) }) ∷ []) }) ≡ Some (10, 5)
unfolding hidden hidden-the_row-BlockItem-1 hidden-the_row-CType-0 hidden-the_row-CType-1 hidden-the_row-Declarator-0 hidden-the_row-Declarator-6 hidden-the_row-Enumerator-8 hidden-the_row-Expr-0 hidden-the_row-Expr-1 hidden-the_row-Expr-2 hidden-arguments hidden-the_row-Init-0 hidden-the_row-Initializer-0 hidden-the_row-Member-7 hidden-the_row-Param-5 hidden-the_row-Place-1 hidden-the_row-Spec-3 hidden-the_row-Stmt-0 hidden-unit-0 hidden-unit-1 hidden-the_row-TypeName-4 shape-the_row-BlockItem-1 shape-the_row-CType-0 shape-the_row-CType-1 shape-the_row-Declarator-0 shape-the_row-Declarator-6 shape-the_row-Enumerator-8 shape-the_row-Expr-0 shape-the_row-Expr-1 shape-the_row-Expr-2 shape-arguments shape-the_row-Init-0 shape-the_row-Initializer-0 shape-the_row-Member-7 shape-the_row-Param-5 shape-the_row-Place-1 shape-the_row-Spec-3 shape-the_row-Stmt-0 shape-unit-0 shape-unit-1 shape-the_row-TypeName-4 indirection element member access address unevaluated size size_of_expression size_of_type plain_assignment number_update pointer_update compound_assignment assignment step_update step spine fresh callee_in callee passed call worth is_null number_constant converted cast typedef_declared function_named variable_named init_declarator declaration file_declaration block_name block_declaration defined_name definition pointer_part array_part function_part made parameter type_name member_of_type_rules_declarators with_argument function_type body_read pointer_word initial_word initializer_words initial_values scalar text_fits by_name by_expression part finished by_list count initial_size initialized number_in character_in text_in text_initially as_value operand lvalue promoted in_sign pair_of stride arithmetic_on shift_on pointer_in_common equality_on logical_on operation sign_operation negation chosen_type chosen alternatives choice name number character holds_initially string_object text_found text parenthesised and_then name_number scoped expression value size_of typedef_name tagged_structure structure_name structure tagged_enumeration enumeration_name enumeration enumerator evaluated condition expression_statement block selection_of selection while_loop do_loop for_turns for_loop returned with_items list_behind block_items statement outermost_effects with_effects typed parts_of exceeded outcome likeness_of each_likeness signature_likeness_of conversion union conflict effects_of merged added shared points_to target_effects without_outer_effects same without_effects words_of opening_of automatics PlaceKeeps InitializerKeeps StmtKeeps row_type place_nodes initializer_nodes stmt_nodes places place_spots initializer_spots stmt_spots callee_of stores structure_in IsWithin AreVariables IsTypedPlace IsInitializer IsTypedStmt place_type packed
declared_21 = refl

-- struct s «here» x;
declared_22 : first_fault (codes "struct s x;") (record { externals = (external.Declaration (record { place = 0; specs = (spec.StructName 0 (sp 7 8) ∷ []); declarators = ((record { declarator = (of_declarator.Name (sp 9 10)); init = None }) ∷ []) }) ∷ []) }) ≡ Some (10, 9)
unfolding hidden hidden-the_row-BlockItem-1 hidden-the_row-CType-0 hidden-the_row-CType-1 hidden-the_row-Declarator-0 hidden-the_row-Declarator-6 hidden-the_row-Enumerator-8 hidden-the_row-Expr-0 hidden-the_row-Expr-1 hidden-the_row-Expr-2 hidden-arguments hidden-the_row-Init-0 hidden-the_row-Initializer-0 hidden-the_row-Member-7 hidden-the_row-Param-5 hidden-the_row-Place-1 hidden-the_row-Spec-3 hidden-the_row-Stmt-0 hidden-unit-0 hidden-unit-1 hidden-the_row-TypeName-4 shape-the_row-BlockItem-1 shape-the_row-CType-0 shape-the_row-CType-1 shape-the_row-Declarator-0 shape-the_row-Declarator-6 shape-the_row-Enumerator-8 shape-the_row-Expr-0 shape-the_row-Expr-1 shape-the_row-Expr-2 shape-arguments shape-the_row-Init-0 shape-the_row-Initializer-0 shape-the_row-Member-7 shape-the_row-Param-5 shape-the_row-Place-1 shape-the_row-Spec-3 shape-the_row-Stmt-0 shape-unit-0 shape-unit-1 shape-the_row-TypeName-4 indirection element member access address unevaluated size size_of_expression size_of_type plain_assignment number_update pointer_update compound_assignment assignment step_update step spine fresh callee_in callee passed call worth is_null number_constant converted cast typedef_declared function_named variable_named init_declarator declaration file_declaration block_name block_declaration defined_name definition pointer_part array_part function_part made parameter type_name member_of_type_rules_declarators with_argument function_type body_read pointer_word initial_word initializer_words initial_values scalar text_fits by_name by_expression part finished by_list count initial_size initialized number_in character_in text_in text_initially as_value operand lvalue promoted in_sign pair_of stride arithmetic_on shift_on pointer_in_common equality_on logical_on operation sign_operation negation chosen_type chosen alternatives choice name number character holds_initially string_object text_found text parenthesised and_then name_number scoped expression value size_of typedef_name tagged_structure structure_name structure tagged_enumeration enumeration_name enumeration enumerator evaluated condition expression_statement block selection_of selection while_loop do_loop for_turns for_loop returned with_items list_behind block_items statement outermost_effects with_effects typed parts_of exceeded outcome likeness_of each_likeness signature_likeness_of conversion union conflict effects_of merged added shared points_to target_effects without_outer_effects same without_effects words_of opening_of automatics PlaceKeeps InitializerKeeps StmtKeeps row_type place_nodes initializer_nodes stmt_nodes places place_spots initializer_spots stmt_spots callee_of stores structure_in IsWithin AreVariables IsTypedPlace IsInitializer IsTypedStmt place_type packed
declared_22 = refl

-- struct s { int a; } x;
declared_23 : first_fault (codes "struct s { int a; } x;") (record { externals = (external.Declaration (record { place = 0; specs = (spec.Struct 0 (Some (sp 7 8)) ((record { place = 11; specs = (spec.Type 11 type_word.Int ∷ []); declarators = ((of_declarator.Name (sp 15 16)) ∷ []) }) ∷ []) ∷ []); declarators = ((record { declarator = (of_declarator.Name (sp 20 21)); init = None }) ∷ []) }) ∷ []) }) ≡ None
unfolding hidden hidden-the_row-BlockItem-1 hidden-the_row-CType-0 hidden-the_row-CType-1 hidden-the_row-Declarator-0 hidden-the_row-Declarator-6 hidden-the_row-Enumerator-8 hidden-the_row-Expr-0 hidden-the_row-Expr-1 hidden-the_row-Expr-2 hidden-arguments hidden-the_row-Init-0 hidden-the_row-Initializer-0 hidden-the_row-Member-7 hidden-the_row-Param-5 hidden-the_row-Place-1 hidden-the_row-Spec-3 hidden-the_row-Stmt-0 hidden-unit-0 hidden-unit-1 hidden-the_row-TypeName-4 shape-the_row-BlockItem-1 shape-the_row-CType-0 shape-the_row-CType-1 shape-the_row-Declarator-0 shape-the_row-Declarator-6 shape-the_row-Enumerator-8 shape-the_row-Expr-0 shape-the_row-Expr-1 shape-the_row-Expr-2 shape-arguments shape-the_row-Init-0 shape-the_row-Initializer-0 shape-the_row-Member-7 shape-the_row-Param-5 shape-the_row-Place-1 shape-the_row-Spec-3 shape-the_row-Stmt-0 shape-unit-0 shape-unit-1 shape-the_row-TypeName-4 indirection element member access address unevaluated size size_of_expression size_of_type plain_assignment number_update pointer_update compound_assignment assignment step_update step spine fresh callee_in callee passed call worth is_null number_constant converted cast typedef_declared function_named variable_named init_declarator declaration file_declaration block_name block_declaration defined_name definition pointer_part array_part function_part made parameter type_name member_of_type_rules_declarators with_argument function_type body_read pointer_word initial_word initializer_words initial_values scalar text_fits by_name by_expression part finished by_list count initial_size initialized number_in character_in text_in text_initially as_value operand lvalue promoted in_sign pair_of stride arithmetic_on shift_on pointer_in_common equality_on logical_on operation sign_operation negation chosen_type chosen alternatives choice name number character holds_initially string_object text_found text parenthesised and_then name_number scoped expression value size_of typedef_name tagged_structure structure_name structure tagged_enumeration enumeration_name enumeration enumerator evaluated condition expression_statement block selection_of selection while_loop do_loop for_turns for_loop returned with_items list_behind block_items statement outermost_effects with_effects typed parts_of exceeded outcome likeness_of each_likeness signature_likeness_of conversion union conflict effects_of merged added shared points_to target_effects without_outer_effects same without_effects words_of opening_of automatics PlaceKeeps InitializerKeeps StmtKeeps row_type place_nodes initializer_nodes stmt_nodes places place_spots initializer_spots stmt_spots callee_of stores structure_in IsWithin AreVariables IsTypedPlace IsInitializer IsTypedStmt place_type packed
declared_23 = refl

-- struct s *p; struct s { int a; }; struct s x;
declared_24 : first_fault (codes "struct s *p; struct s { int a; }; struct s x;") (record { externals = (external.Declaration (record { place = 0; specs = (spec.StructName 0 (sp 7 8) ∷ []); declarators = ((record { declarator = (of_declarator.Pointer 9 [] (of_declarator.Name (sp 10 11))); init = None }) ∷ []) }) ∷ external.Declaration (record { place = 13; specs = (spec.Struct 13 (Some (sp 20 21)) ((record { place = 24; specs = (spec.Type 24 type_word.Int ∷ []); declarators = ((of_declarator.Name (sp 28 29)) ∷ []) }) ∷ []) ∷ []); declarators = [] }) ∷ external.Declaration (record { place = 34; specs = (spec.StructName 34 (sp 41 42) ∷ []); declarators = ((record { declarator = (of_declarator.Name (sp 43 44)); init = None }) ∷ []) }) ∷ []) }) ≡ None
unfolding hidden hidden-the_row-BlockItem-1 hidden-the_row-CType-0 hidden-the_row-CType-1 hidden-the_row-Declarator-0 hidden-the_row-Declarator-6 hidden-the_row-Enumerator-8 hidden-the_row-Expr-0 hidden-the_row-Expr-1 hidden-the_row-Expr-2 hidden-arguments hidden-the_row-Init-0 hidden-the_row-Initializer-0 hidden-the_row-Member-7 hidden-the_row-Param-5 hidden-the_row-Place-1 hidden-the_row-Spec-3 hidden-the_row-Stmt-0 hidden-unit-0 hidden-unit-1 hidden-the_row-TypeName-4 shape-the_row-BlockItem-1 shape-the_row-CType-0 shape-the_row-CType-1 shape-the_row-Declarator-0 shape-the_row-Declarator-6 shape-the_row-Enumerator-8 shape-the_row-Expr-0 shape-the_row-Expr-1 shape-the_row-Expr-2 shape-arguments shape-the_row-Init-0 shape-the_row-Initializer-0 shape-the_row-Member-7 shape-the_row-Param-5 shape-the_row-Place-1 shape-the_row-Spec-3 shape-the_row-Stmt-0 shape-unit-0 shape-unit-1 shape-the_row-TypeName-4 indirection element member access address unevaluated size size_of_expression size_of_type plain_assignment number_update pointer_update compound_assignment assignment step_update step spine fresh callee_in callee passed call worth is_null number_constant converted cast typedef_declared function_named variable_named init_declarator declaration file_declaration block_name block_declaration defined_name definition pointer_part array_part function_part made parameter type_name member_of_type_rules_declarators with_argument function_type body_read pointer_word initial_word initializer_words initial_values scalar text_fits by_name by_expression part finished by_list count initial_size initialized number_in character_in text_in text_initially as_value operand lvalue promoted in_sign pair_of stride arithmetic_on shift_on pointer_in_common equality_on logical_on operation sign_operation negation chosen_type chosen alternatives choice name number character holds_initially string_object text_found text parenthesised and_then name_number scoped expression value size_of typedef_name tagged_structure structure_name structure tagged_enumeration enumeration_name enumeration enumerator evaluated condition expression_statement block selection_of selection while_loop do_loop for_turns for_loop returned with_items list_behind block_items statement outermost_effects with_effects typed parts_of exceeded outcome likeness_of each_likeness signature_likeness_of conversion union conflict effects_of merged added shared points_to target_effects without_outer_effects same without_effects words_of opening_of automatics PlaceKeeps InitializerKeeps StmtKeeps row_type place_nodes initializer_nodes stmt_nodes places place_spots initializer_spots stmt_spots callee_of stores structure_in IsWithin AreVariables IsTypedPlace IsInitializer IsTypedStmt place_type packed
declared_24 = refl

-- struct s { struct s «here» a; };
declared_25 : first_fault (codes "struct s { struct s a; };") (record { externals = (external.Declaration (record { place = 0; specs = (spec.Struct 0 (Some (sp 7 8)) ((record { place = 11; specs = (spec.StructName 11 (sp 18 19) ∷ []); declarators = ((of_declarator.Name (sp 20 21)) ∷ []) }) ∷ []) ∷ []); declarators = [] }) ∷ []) }) ≡ Some (10, 20)
unfolding hidden hidden-the_row-BlockItem-1 hidden-the_row-CType-0 hidden-the_row-CType-1 hidden-the_row-Declarator-0 hidden-the_row-Declarator-6 hidden-the_row-Enumerator-8 hidden-the_row-Expr-0 hidden-the_row-Expr-1 hidden-the_row-Expr-2 hidden-arguments hidden-the_row-Init-0 hidden-the_row-Initializer-0 hidden-the_row-Member-7 hidden-the_row-Param-5 hidden-the_row-Place-1 hidden-the_row-Spec-3 hidden-the_row-Stmt-0 hidden-unit-0 hidden-unit-1 hidden-the_row-TypeName-4 shape-the_row-BlockItem-1 shape-the_row-CType-0 shape-the_row-CType-1 shape-the_row-Declarator-0 shape-the_row-Declarator-6 shape-the_row-Enumerator-8 shape-the_row-Expr-0 shape-the_row-Expr-1 shape-the_row-Expr-2 shape-arguments shape-the_row-Init-0 shape-the_row-Initializer-0 shape-the_row-Member-7 shape-the_row-Param-5 shape-the_row-Place-1 shape-the_row-Spec-3 shape-the_row-Stmt-0 shape-unit-0 shape-unit-1 shape-the_row-TypeName-4 indirection element member access address unevaluated size size_of_expression size_of_type plain_assignment number_update pointer_update compound_assignment assignment step_update step spine fresh callee_in callee passed call worth is_null number_constant converted cast typedef_declared function_named variable_named init_declarator declaration file_declaration block_name block_declaration defined_name definition pointer_part array_part function_part made parameter type_name member_of_type_rules_declarators with_argument function_type body_read pointer_word initial_word initializer_words initial_values scalar text_fits by_name by_expression part finished by_list count initial_size initialized number_in character_in text_in text_initially as_value operand lvalue promoted in_sign pair_of stride arithmetic_on shift_on pointer_in_common equality_on logical_on operation sign_operation negation chosen_type chosen alternatives choice name number character holds_initially string_object text_found text parenthesised and_then name_number scoped expression value size_of typedef_name tagged_structure structure_name structure tagged_enumeration enumeration_name enumeration enumerator evaluated condition expression_statement block selection_of selection while_loop do_loop for_turns for_loop returned with_items list_behind block_items statement outermost_effects with_effects typed parts_of exceeded outcome likeness_of each_likeness signature_likeness_of conversion union conflict effects_of merged added shared points_to target_effects without_outer_effects same without_effects words_of opening_of automatics PlaceKeeps InitializerKeeps StmtKeeps row_type place_nodes initializer_nodes stmt_nodes places place_spots initializer_spots stmt_spots callee_of stores structure_in IsWithin AreVariables IsTypedPlace IsInitializer IsTypedStmt place_type packed
declared_25 = refl

-- struct s { struct s *a; };
declared_26 : first_fault (codes "struct s { struct s *a; };") (record { externals = (external.Declaration (record { place = 0; specs = (spec.Struct 0 (Some (sp 7 8)) ((record { place = 11; specs = (spec.StructName 11 (sp 18 19) ∷ []); declarators = ((of_declarator.Pointer 20 [] (of_declarator.Name (sp 21 22))) ∷ []) }) ∷ []) ∷ []); declarators = [] }) ∷ []) }) ≡ None
unfolding hidden hidden-the_row-BlockItem-1 hidden-the_row-CType-0 hidden-the_row-CType-1 hidden-the_row-Declarator-0 hidden-the_row-Declarator-6 hidden-the_row-Enumerator-8 hidden-the_row-Expr-0 hidden-the_row-Expr-1 hidden-the_row-Expr-2 hidden-arguments hidden-the_row-Init-0 hidden-the_row-Initializer-0 hidden-the_row-Member-7 hidden-the_row-Param-5 hidden-the_row-Place-1 hidden-the_row-Spec-3 hidden-the_row-Stmt-0 hidden-unit-0 hidden-unit-1 hidden-the_row-TypeName-4 shape-the_row-BlockItem-1 shape-the_row-CType-0 shape-the_row-CType-1 shape-the_row-Declarator-0 shape-the_row-Declarator-6 shape-the_row-Enumerator-8 shape-the_row-Expr-0 shape-the_row-Expr-1 shape-the_row-Expr-2 shape-arguments shape-the_row-Init-0 shape-the_row-Initializer-0 shape-the_row-Member-7 shape-the_row-Param-5 shape-the_row-Place-1 shape-the_row-Spec-3 shape-the_row-Stmt-0 shape-unit-0 shape-unit-1 shape-the_row-TypeName-4 indirection element member access address unevaluated size size_of_expression size_of_type plain_assignment number_update pointer_update compound_assignment assignment step_update step spine fresh callee_in callee passed call worth is_null number_constant converted cast typedef_declared function_named variable_named init_declarator declaration file_declaration block_name block_declaration defined_name definition pointer_part array_part function_part made parameter type_name member_of_type_rules_declarators with_argument function_type body_read pointer_word initial_word initializer_words initial_values scalar text_fits by_name by_expression part finished by_list count initial_size initialized number_in character_in text_in text_initially as_value operand lvalue promoted in_sign pair_of stride arithmetic_on shift_on pointer_in_common equality_on logical_on operation sign_operation negation chosen_type chosen alternatives choice name number character holds_initially string_object text_found text parenthesised and_then name_number scoped expression value size_of typedef_name tagged_structure structure_name structure tagged_enumeration enumeration_name enumeration enumerator evaluated condition expression_statement block selection_of selection while_loop do_loop for_turns for_loop returned with_items list_behind block_items statement outermost_effects with_effects typed parts_of exceeded outcome likeness_of each_likeness signature_likeness_of conversion union conflict effects_of merged added shared points_to target_effects without_outer_effects same without_effects words_of opening_of automatics PlaceKeeps InitializerKeeps StmtKeeps row_type place_nodes initializer_nodes stmt_nodes places place_spots initializer_spots stmt_spots callee_of stores structure_in IsWithin AreVariables IsTypedPlace IsInitializer IsTypedStmt place_type packed
declared_26 = refl

-- struct s { int «here» a[]; };
declared_27 : first_fault (codes "struct s { int a[]; };") (record { externals = (external.Declaration (record { place = 0; specs = (spec.Struct 0 (Some (sp 7 8)) ((record { place = 11; specs = (spec.Type 11 type_word.Int ∷ []); declarators = ((of_declarator.Array (of_declarator.Name (sp 15 16)) 16 None) ∷ []) }) ∷ []) ∷ []); declarators = [] }) ∷ []) }) ≡ Some (10, 15)
unfolding hidden hidden-the_row-BlockItem-1 hidden-the_row-CType-0 hidden-the_row-CType-1 hidden-the_row-Declarator-0 hidden-the_row-Declarator-6 hidden-the_row-Enumerator-8 hidden-the_row-Expr-0 hidden-the_row-Expr-1 hidden-the_row-Expr-2 hidden-arguments hidden-the_row-Init-0 hidden-the_row-Initializer-0 hidden-the_row-Member-7 hidden-the_row-Param-5 hidden-the_row-Place-1 hidden-the_row-Spec-3 hidden-the_row-Stmt-0 hidden-unit-0 hidden-unit-1 hidden-the_row-TypeName-4 shape-the_row-BlockItem-1 shape-the_row-CType-0 shape-the_row-CType-1 shape-the_row-Declarator-0 shape-the_row-Declarator-6 shape-the_row-Enumerator-8 shape-the_row-Expr-0 shape-the_row-Expr-1 shape-the_row-Expr-2 shape-arguments shape-the_row-Init-0 shape-the_row-Initializer-0 shape-the_row-Member-7 shape-the_row-Param-5 shape-the_row-Place-1 shape-the_row-Spec-3 shape-the_row-Stmt-0 shape-unit-0 shape-unit-1 shape-the_row-TypeName-4 indirection element member access address unevaluated size size_of_expression size_of_type plain_assignment number_update pointer_update compound_assignment assignment step_update step spine fresh callee_in callee passed call worth is_null number_constant converted cast typedef_declared function_named variable_named init_declarator declaration file_declaration block_name block_declaration defined_name definition pointer_part array_part function_part made parameter type_name member_of_type_rules_declarators with_argument function_type body_read pointer_word initial_word initializer_words initial_values scalar text_fits by_name by_expression part finished by_list count initial_size initialized number_in character_in text_in text_initially as_value operand lvalue promoted in_sign pair_of stride arithmetic_on shift_on pointer_in_common equality_on logical_on operation sign_operation negation chosen_type chosen alternatives choice name number character holds_initially string_object text_found text parenthesised and_then name_number scoped expression value size_of typedef_name tagged_structure structure_name structure tagged_enumeration enumeration_name enumeration enumerator evaluated condition expression_statement block selection_of selection while_loop do_loop for_turns for_loop returned with_items list_behind block_items statement outermost_effects with_effects typed parts_of exceeded outcome likeness_of each_likeness signature_likeness_of conversion union conflict effects_of merged added shared points_to target_effects without_outer_effects same without_effects words_of opening_of automatics PlaceKeeps InitializerKeeps StmtKeeps row_type place_nodes initializer_nodes stmt_nodes places place_spots initializer_spots stmt_spots callee_of stores structure_in IsWithin AreVariables IsTypedPlace IsInitializer IsTypedStmt place_type packed
declared_27 = refl

-- struct s { void «here» a; };
declared_28 : first_fault (codes "struct s { void a; };") (record { externals = (external.Declaration (record { place = 0; specs = (spec.Struct 0 (Some (sp 7 8)) ((record { place = 11; specs = (spec.Type 11 type_word.Void ∷ []); declarators = ((of_declarator.Name (sp 16 17)) ∷ []) }) ∷ []) ∷ []); declarators = [] }) ∷ []) }) ≡ Some (10, 16)
unfolding hidden hidden-the_row-BlockItem-1 hidden-the_row-CType-0 hidden-the_row-CType-1 hidden-the_row-Declarator-0 hidden-the_row-Declarator-6 hidden-the_row-Enumerator-8 hidden-the_row-Expr-0 hidden-the_row-Expr-1 hidden-the_row-Expr-2 hidden-arguments hidden-the_row-Init-0 hidden-the_row-Initializer-0 hidden-the_row-Member-7 hidden-the_row-Param-5 hidden-the_row-Place-1 hidden-the_row-Spec-3 hidden-the_row-Stmt-0 hidden-unit-0 hidden-unit-1 hidden-the_row-TypeName-4 shape-the_row-BlockItem-1 shape-the_row-CType-0 shape-the_row-CType-1 shape-the_row-Declarator-0 shape-the_row-Declarator-6 shape-the_row-Enumerator-8 shape-the_row-Expr-0 shape-the_row-Expr-1 shape-the_row-Expr-2 shape-arguments shape-the_row-Init-0 shape-the_row-Initializer-0 shape-the_row-Member-7 shape-the_row-Param-5 shape-the_row-Place-1 shape-the_row-Spec-3 shape-the_row-Stmt-0 shape-unit-0 shape-unit-1 shape-the_row-TypeName-4 indirection element member access address unevaluated size size_of_expression size_of_type plain_assignment number_update pointer_update compound_assignment assignment step_update step spine fresh callee_in callee passed call worth is_null number_constant converted cast typedef_declared function_named variable_named init_declarator declaration file_declaration block_name block_declaration defined_name definition pointer_part array_part function_part made parameter type_name member_of_type_rules_declarators with_argument function_type body_read pointer_word initial_word initializer_words initial_values scalar text_fits by_name by_expression part finished by_list count initial_size initialized number_in character_in text_in text_initially as_value operand lvalue promoted in_sign pair_of stride arithmetic_on shift_on pointer_in_common equality_on logical_on operation sign_operation negation chosen_type chosen alternatives choice name number character holds_initially string_object text_found text parenthesised and_then name_number scoped expression value size_of typedef_name tagged_structure structure_name structure tagged_enumeration enumeration_name enumeration enumerator evaluated condition expression_statement block selection_of selection while_loop do_loop for_turns for_loop returned with_items list_behind block_items statement outermost_effects with_effects typed parts_of exceeded outcome likeness_of each_likeness signature_likeness_of conversion union conflict effects_of merged added shared points_to target_effects without_outer_effects same without_effects words_of opening_of automatics PlaceKeeps InitializerKeeps StmtKeeps row_type place_nodes initializer_nodes stmt_nodes places place_spots initializer_spots stmt_spots callee_of stores structure_in IsWithin AreVariables IsTypedPlace IsInitializer IsTypedStmt place_type packed
declared_28 = refl

-- struct s { int «here» f(void); };
declared_29 : first_fault (codes "struct s { int f(void); };") (record { externals = (external.Declaration (record { place = 0; specs = (spec.Struct 0 (Some (sp 7 8)) ((record { place = 11; specs = (spec.Type 11 type_word.Int ∷ []); declarators = ((of_declarator.Function (of_declarator.Name (sp 15 16)) 16 (params.Void 17) []) ∷ []) }) ∷ []) ∷ []); declarators = [] }) ∷ []) }) ≡ Some (3, 15)
unfolding hidden hidden-the_row-BlockItem-1 hidden-the_row-CType-0 hidden-the_row-CType-1 hidden-the_row-Declarator-0 hidden-the_row-Declarator-6 hidden-the_row-Enumerator-8 hidden-the_row-Expr-0 hidden-the_row-Expr-1 hidden-the_row-Expr-2 hidden-arguments hidden-the_row-Init-0 hidden-the_row-Initializer-0 hidden-the_row-Member-7 hidden-the_row-Param-5 hidden-the_row-Place-1 hidden-the_row-Spec-3 hidden-the_row-Stmt-0 hidden-unit-0 hidden-unit-1 hidden-the_row-TypeName-4 shape-the_row-BlockItem-1 shape-the_row-CType-0 shape-the_row-CType-1 shape-the_row-Declarator-0 shape-the_row-Declarator-6 shape-the_row-Enumerator-8 shape-the_row-Expr-0 shape-the_row-Expr-1 shape-the_row-Expr-2 shape-arguments shape-the_row-Init-0 shape-the_row-Initializer-0 shape-the_row-Member-7 shape-the_row-Param-5 shape-the_row-Place-1 shape-the_row-Spec-3 shape-the_row-Stmt-0 shape-unit-0 shape-unit-1 shape-the_row-TypeName-4 indirection element member access address unevaluated size size_of_expression size_of_type plain_assignment number_update pointer_update compound_assignment assignment step_update step spine fresh callee_in callee passed call worth is_null number_constant converted cast typedef_declared function_named variable_named init_declarator declaration file_declaration block_name block_declaration defined_name definition pointer_part array_part function_part made parameter type_name member_of_type_rules_declarators with_argument function_type body_read pointer_word initial_word initializer_words initial_values scalar text_fits by_name by_expression part finished by_list count initial_size initialized number_in character_in text_in text_initially as_value operand lvalue promoted in_sign pair_of stride arithmetic_on shift_on pointer_in_common equality_on logical_on operation sign_operation negation chosen_type chosen alternatives choice name number character holds_initially string_object text_found text parenthesised and_then name_number scoped expression value size_of typedef_name tagged_structure structure_name structure tagged_enumeration enumeration_name enumeration enumerator evaluated condition expression_statement block selection_of selection while_loop do_loop for_turns for_loop returned with_items list_behind block_items statement outermost_effects with_effects typed parts_of exceeded outcome likeness_of each_likeness signature_likeness_of conversion union conflict effects_of merged added shared points_to target_effects without_outer_effects same without_effects words_of opening_of automatics PlaceKeeps InitializerKeeps StmtKeeps row_type place_nodes initializer_nodes stmt_nodes places place_spots initializer_spots stmt_spots callee_of stores structure_in IsWithin AreVariables IsTypedPlace IsInitializer IsTypedStmt place_type packed
declared_29 = refl

-- int «here» a[];
declared_30 : first_fault (codes "int a[];") (record { externals = (external.Declaration (record { place = 0; specs = (spec.Type 0 type_word.Int ∷ []); declarators = ((record { declarator = (of_declarator.Array (of_declarator.Name (sp 4 5)) 5 None); init = None }) ∷ []) }) ∷ []) }) ≡ Some (10, 4)
unfolding hidden hidden-the_row-BlockItem-1 hidden-the_row-CType-0 hidden-the_row-CType-1 hidden-the_row-Declarator-0 hidden-the_row-Declarator-6 hidden-the_row-Enumerator-8 hidden-the_row-Expr-0 hidden-the_row-Expr-1 hidden-the_row-Expr-2 hidden-arguments hidden-the_row-Init-0 hidden-the_row-Initializer-0 hidden-the_row-Member-7 hidden-the_row-Param-5 hidden-the_row-Place-1 hidden-the_row-Spec-3 hidden-the_row-Stmt-0 hidden-unit-0 hidden-unit-1 hidden-the_row-TypeName-4 shape-the_row-BlockItem-1 shape-the_row-CType-0 shape-the_row-CType-1 shape-the_row-Declarator-0 shape-the_row-Declarator-6 shape-the_row-Enumerator-8 shape-the_row-Expr-0 shape-the_row-Expr-1 shape-the_row-Expr-2 shape-arguments shape-the_row-Init-0 shape-the_row-Initializer-0 shape-the_row-Member-7 shape-the_row-Param-5 shape-the_row-Place-1 shape-the_row-Spec-3 shape-the_row-Stmt-0 shape-unit-0 shape-unit-1 shape-the_row-TypeName-4 indirection element member access address unevaluated size size_of_expression size_of_type plain_assignment number_update pointer_update compound_assignment assignment step_update step spine fresh callee_in callee passed call worth is_null number_constant converted cast typedef_declared function_named variable_named init_declarator declaration file_declaration block_name block_declaration defined_name definition pointer_part array_part function_part made parameter type_name member_of_type_rules_declarators with_argument function_type body_read pointer_word initial_word initializer_words initial_values scalar text_fits by_name by_expression part finished by_list count initial_size initialized number_in character_in text_in text_initially as_value operand lvalue promoted in_sign pair_of stride arithmetic_on shift_on pointer_in_common equality_on logical_on operation sign_operation negation chosen_type chosen alternatives choice name number character holds_initially string_object text_found text parenthesised and_then name_number scoped expression value size_of typedef_name tagged_structure structure_name structure tagged_enumeration enumeration_name enumeration enumerator evaluated condition expression_statement block selection_of selection while_loop do_loop for_turns for_loop returned with_items list_behind block_items statement outermost_effects with_effects typed parts_of exceeded outcome likeness_of each_likeness signature_likeness_of conversion union conflict effects_of merged added shared points_to target_effects without_outer_effects same without_effects words_of opening_of automatics PlaceKeeps InitializerKeeps StmtKeeps row_type place_nodes initializer_nodes stmt_nodes places place_spots initializer_spots stmt_spots callee_of stores structure_in IsWithin AreVariables IsTypedPlace IsInitializer IsTypedStmt place_type packed
declared_30 = refl

-- int a[3]; int a[3];
declared_31 : first_fault (codes "int a[3]; int a[3];") (record { externals = (external.Declaration (record { place = 0; specs = (spec.Type 0 type_word.Int ∷ []); declarators = ((record { declarator = (of_declarator.Array (of_declarator.Name (sp 4 5)) 5 (Some (expr.Number (sp 6 7)))); init = None }) ∷ []) }) ∷ external.Declaration (record { place = 10; specs = (spec.Type 10 type_word.Int ∷ []); declarators = ((record { declarator = (of_declarator.Array (of_declarator.Name (sp 14 15)) 15 (Some (expr.Number (sp 16 17)))); init = None }) ∷ []) }) ∷ []) }) ≡ None
unfolding hidden hidden-the_row-BlockItem-1 hidden-the_row-CType-0 hidden-the_row-CType-1 hidden-the_row-Declarator-0 hidden-the_row-Declarator-6 hidden-the_row-Enumerator-8 hidden-the_row-Expr-0 hidden-the_row-Expr-1 hidden-the_row-Expr-2 hidden-arguments hidden-the_row-Init-0 hidden-the_row-Initializer-0 hidden-the_row-Member-7 hidden-the_row-Param-5 hidden-the_row-Place-1 hidden-the_row-Spec-3 hidden-the_row-Stmt-0 hidden-unit-0 hidden-unit-1 hidden-the_row-TypeName-4 shape-the_row-BlockItem-1 shape-the_row-CType-0 shape-the_row-CType-1 shape-the_row-Declarator-0 shape-the_row-Declarator-6 shape-the_row-Enumerator-8 shape-the_row-Expr-0 shape-the_row-Expr-1 shape-the_row-Expr-2 shape-arguments shape-the_row-Init-0 shape-the_row-Initializer-0 shape-the_row-Member-7 shape-the_row-Param-5 shape-the_row-Place-1 shape-the_row-Spec-3 shape-the_row-Stmt-0 shape-unit-0 shape-unit-1 shape-the_row-TypeName-4 indirection element member access address unevaluated size size_of_expression size_of_type plain_assignment number_update pointer_update compound_assignment assignment step_update step spine fresh callee_in callee passed call worth is_null number_constant converted cast typedef_declared function_named variable_named init_declarator declaration file_declaration block_name block_declaration defined_name definition pointer_part array_part function_part made parameter type_name member_of_type_rules_declarators with_argument function_type body_read pointer_word initial_word initializer_words initial_values scalar text_fits by_name by_expression part finished by_list count initial_size initialized number_in character_in text_in text_initially as_value operand lvalue promoted in_sign pair_of stride arithmetic_on shift_on pointer_in_common equality_on logical_on operation sign_operation negation chosen_type chosen alternatives choice name number character holds_initially string_object text_found text parenthesised and_then name_number scoped expression value size_of typedef_name tagged_structure structure_name structure tagged_enumeration enumeration_name enumeration enumerator evaluated condition expression_statement block selection_of selection while_loop do_loop for_turns for_loop returned with_items list_behind block_items statement outermost_effects with_effects typed parts_of exceeded outcome likeness_of each_likeness signature_likeness_of conversion union conflict effects_of merged added shared points_to target_effects without_outer_effects same without_effects words_of opening_of automatics PlaceKeeps InitializerKeeps StmtKeeps row_type place_nodes initializer_nodes stmt_nodes places place_spots initializer_spots stmt_spots callee_of stores structure_in IsWithin AreVariables IsTypedPlace IsInitializer IsTypedStmt place_type packed
declared_31 = refl

-- int a[3]; int «here» a[4];
declared_32 : first_fault (codes "int a[3]; int a[4];") (record { externals = (external.Declaration (record { place = 0; specs = (spec.Type 0 type_word.Int ∷ []); declarators = ((record { declarator = (of_declarator.Array (of_declarator.Name (sp 4 5)) 5 (Some (expr.Number (sp 6 7)))); init = None }) ∷ []) }) ∷ external.Declaration (record { place = 10; specs = (spec.Type 10 type_word.Int ∷ []); declarators = ((record { declarator = (of_declarator.Array (of_declarator.Name (sp 14 15)) 15 (Some (expr.Number (sp 16 17)))); init = None }) ∷ []) }) ∷ []) }) ≡ Some (3, 14)
unfolding hidden hidden-the_row-BlockItem-1 hidden-the_row-CType-0 hidden-the_row-CType-1 hidden-the_row-Declarator-0 hidden-the_row-Declarator-6 hidden-the_row-Enumerator-8 hidden-the_row-Expr-0 hidden-the_row-Expr-1 hidden-the_row-Expr-2 hidden-arguments hidden-the_row-Init-0 hidden-the_row-Initializer-0 hidden-the_row-Member-7 hidden-the_row-Param-5 hidden-the_row-Place-1 hidden-the_row-Spec-3 hidden-the_row-Stmt-0 hidden-unit-0 hidden-unit-1 hidden-the_row-TypeName-4 shape-the_row-BlockItem-1 shape-the_row-CType-0 shape-the_row-CType-1 shape-the_row-Declarator-0 shape-the_row-Declarator-6 shape-the_row-Enumerator-8 shape-the_row-Expr-0 shape-the_row-Expr-1 shape-the_row-Expr-2 shape-arguments shape-the_row-Init-0 shape-the_row-Initializer-0 shape-the_row-Member-7 shape-the_row-Param-5 shape-the_row-Place-1 shape-the_row-Spec-3 shape-the_row-Stmt-0 shape-unit-0 shape-unit-1 shape-the_row-TypeName-4 indirection element member access address unevaluated size size_of_expression size_of_type plain_assignment number_update pointer_update compound_assignment assignment step_update step spine fresh callee_in callee passed call worth is_null number_constant converted cast typedef_declared function_named variable_named init_declarator declaration file_declaration block_name block_declaration defined_name definition pointer_part array_part function_part made parameter type_name member_of_type_rules_declarators with_argument function_type body_read pointer_word initial_word initializer_words initial_values scalar text_fits by_name by_expression part finished by_list count initial_size initialized number_in character_in text_in text_initially as_value operand lvalue promoted in_sign pair_of stride arithmetic_on shift_on pointer_in_common equality_on logical_on operation sign_operation negation chosen_type chosen alternatives choice name number character holds_initially string_object text_found text parenthesised and_then name_number scoped expression value size_of typedef_name tagged_structure structure_name structure tagged_enumeration enumeration_name enumeration enumerator evaluated condition expression_statement block selection_of selection while_loop do_loop for_turns for_loop returned with_items list_behind block_items statement outermost_effects with_effects typed parts_of exceeded outcome likeness_of each_likeness signature_likeness_of conversion union conflict effects_of merged added shared points_to target_effects without_outer_effects same without_effects words_of opening_of automatics PlaceKeeps InitializerKeeps StmtKeeps row_type place_nodes initializer_nodes stmt_nodes places place_spots initializer_spots stmt_spots callee_of stores structure_in IsWithin AreVariables IsTypedPlace IsInitializer IsTypedStmt place_type packed
declared_32 = refl

-- int a[«here» 0];
declared_33 : first_fault (codes "int a[0];") (record { externals = (external.Declaration (record { place = 0; specs = (spec.Type 0 type_word.Int ∷ []); declarators = ((record { declarator = (of_declarator.Array (of_declarator.Name (sp 4 5)) 5 (Some (expr.Number (sp 6 7)))); init = None }) ∷ []) }) ∷ []) }) ≡ Some (7, 6)
unfolding hidden hidden-the_row-BlockItem-1 hidden-the_row-CType-0 hidden-the_row-CType-1 hidden-the_row-Declarator-0 hidden-the_row-Declarator-6 hidden-the_row-Enumerator-8 hidden-the_row-Expr-0 hidden-the_row-Expr-1 hidden-the_row-Expr-2 hidden-arguments hidden-the_row-Init-0 hidden-the_row-Initializer-0 hidden-the_row-Member-7 hidden-the_row-Param-5 hidden-the_row-Place-1 hidden-the_row-Spec-3 hidden-the_row-Stmt-0 hidden-unit-0 hidden-unit-1 hidden-the_row-TypeName-4 shape-the_row-BlockItem-1 shape-the_row-CType-0 shape-the_row-CType-1 shape-the_row-Declarator-0 shape-the_row-Declarator-6 shape-the_row-Enumerator-8 shape-the_row-Expr-0 shape-the_row-Expr-1 shape-the_row-Expr-2 shape-arguments shape-the_row-Init-0 shape-the_row-Initializer-0 shape-the_row-Member-7 shape-the_row-Param-5 shape-the_row-Place-1 shape-the_row-Spec-3 shape-the_row-Stmt-0 shape-unit-0 shape-unit-1 shape-the_row-TypeName-4 indirection element member access address unevaluated size size_of_expression size_of_type plain_assignment number_update pointer_update compound_assignment assignment step_update step spine fresh callee_in callee passed call worth is_null number_constant converted cast typedef_declared function_named variable_named init_declarator declaration file_declaration block_name block_declaration defined_name definition pointer_part array_part function_part made parameter type_name member_of_type_rules_declarators with_argument function_type body_read pointer_word initial_word initializer_words initial_values scalar text_fits by_name by_expression part finished by_list count initial_size initialized number_in character_in text_in text_initially as_value operand lvalue promoted in_sign pair_of stride arithmetic_on shift_on pointer_in_common equality_on logical_on operation sign_operation negation chosen_type chosen alternatives choice name number character holds_initially string_object text_found text parenthesised and_then name_number scoped expression value size_of typedef_name tagged_structure structure_name structure tagged_enumeration enumeration_name enumeration enumerator evaluated condition expression_statement block selection_of selection while_loop do_loop for_turns for_loop returned with_items list_behind block_items statement outermost_effects with_effects typed parts_of exceeded outcome likeness_of each_likeness signature_likeness_of conversion union conflict effects_of merged added shared points_to target_effects without_outer_effects same without_effects words_of opening_of automatics PlaceKeeps InitializerKeeps StmtKeeps row_type place_nodes initializer_nodes stmt_nodes places place_spots initializer_spots stmt_spots callee_of stores structure_in IsWithin AreVariables IsTypedPlace IsInitializer IsTypedStmt place_type packed
declared_33 = refl

-- int (*«here» p)[];
declared_34 : first_fault (codes "int (*p)[];") (record { externals = (external.Declaration (record { place = 0; specs = (spec.Type 0 type_word.Int ∷ []); declarators = ((record { declarator = (of_declarator.Array (of_declarator.Parenthesised 4 (of_declarator.Pointer 5 [] (of_declarator.Name (sp 6 7)))) 8 None); init = None }) ∷ []) }) ∷ []) }) ≡ Some (10, 6)
unfolding hidden hidden-the_row-BlockItem-1 hidden-the_row-CType-0 hidden-the_row-CType-1 hidden-the_row-Declarator-0 hidden-the_row-Declarator-6 hidden-the_row-Enumerator-8 hidden-the_row-Expr-0 hidden-the_row-Expr-1 hidden-the_row-Expr-2 hidden-arguments hidden-the_row-Init-0 hidden-the_row-Initializer-0 hidden-the_row-Member-7 hidden-the_row-Param-5 hidden-the_row-Place-1 hidden-the_row-Spec-3 hidden-the_row-Stmt-0 hidden-unit-0 hidden-unit-1 hidden-the_row-TypeName-4 shape-the_row-BlockItem-1 shape-the_row-CType-0 shape-the_row-CType-1 shape-the_row-Declarator-0 shape-the_row-Declarator-6 shape-the_row-Enumerator-8 shape-the_row-Expr-0 shape-the_row-Expr-1 shape-the_row-Expr-2 shape-arguments shape-the_row-Init-0 shape-the_row-Initializer-0 shape-the_row-Member-7 shape-the_row-Param-5 shape-the_row-Place-1 shape-the_row-Spec-3 shape-the_row-Stmt-0 shape-unit-0 shape-unit-1 shape-the_row-TypeName-4 indirection element member access address unevaluated size size_of_expression size_of_type plain_assignment number_update pointer_update compound_assignment assignment step_update step spine fresh callee_in callee passed call worth is_null number_constant converted cast typedef_declared function_named variable_named init_declarator declaration file_declaration block_name block_declaration defined_name definition pointer_part array_part function_part made parameter type_name member_of_type_rules_declarators with_argument function_type body_read pointer_word initial_word initializer_words initial_values scalar text_fits by_name by_expression part finished by_list count initial_size initialized number_in character_in text_in text_initially as_value operand lvalue promoted in_sign pair_of stride arithmetic_on shift_on pointer_in_common equality_on logical_on operation sign_operation negation chosen_type chosen alternatives choice name number character holds_initially string_object text_found text parenthesised and_then name_number scoped expression value size_of typedef_name tagged_structure structure_name structure tagged_enumeration enumeration_name enumeration enumerator evaluated condition expression_statement block selection_of selection while_loop do_loop for_turns for_loop returned with_items list_behind block_items statement outermost_effects with_effects typed parts_of exceeded outcome likeness_of each_likeness signature_likeness_of conversion union conflict effects_of merged added shared points_to target_effects without_outer_effects same without_effects words_of opening_of automatics PlaceKeeps InitializerKeeps StmtKeeps row_type place_nodes initializer_nodes stmt_nodes places place_spots initializer_spots stmt_spots callee_of stores structure_in IsWithin AreVariables IsTypedPlace IsInitializer IsTypedStmt place_type packed
declared_34 = refl

-- int («here» f(void))[3];
declared_35 : first_fault (codes "int (f(void))[3];") (record { externals = (external.Declaration (record { place = 0; specs = (spec.Type 0 type_word.Int ∷ []); declarators = ((record { declarator = (of_declarator.Array (of_declarator.Parenthesised 4 (of_declarator.Function (of_declarator.Name (sp 5 6)) 6 (params.Void 7) [])) 13 (Some (expr.Number (sp 14 15)))); init = None }) ∷ []) }) ∷ []) }) ≡ Some (3, 5)
unfolding hidden hidden-the_row-BlockItem-1 hidden-the_row-CType-0 hidden-the_row-CType-1 hidden-the_row-Declarator-0 hidden-the_row-Declarator-6 hidden-the_row-Enumerator-8 hidden-the_row-Expr-0 hidden-the_row-Expr-1 hidden-the_row-Expr-2 hidden-arguments hidden-the_row-Init-0 hidden-the_row-Initializer-0 hidden-the_row-Member-7 hidden-the_row-Param-5 hidden-the_row-Place-1 hidden-the_row-Spec-3 hidden-the_row-Stmt-0 hidden-unit-0 hidden-unit-1 hidden-the_row-TypeName-4 shape-the_row-BlockItem-1 shape-the_row-CType-0 shape-the_row-CType-1 shape-the_row-Declarator-0 shape-the_row-Declarator-6 shape-the_row-Enumerator-8 shape-the_row-Expr-0 shape-the_row-Expr-1 shape-the_row-Expr-2 shape-arguments shape-the_row-Init-0 shape-the_row-Initializer-0 shape-the_row-Member-7 shape-the_row-Param-5 shape-the_row-Place-1 shape-the_row-Spec-3 shape-the_row-Stmt-0 shape-unit-0 shape-unit-1 shape-the_row-TypeName-4 indirection element member access address unevaluated size size_of_expression size_of_type plain_assignment number_update pointer_update compound_assignment assignment step_update step spine fresh callee_in callee passed call worth is_null number_constant converted cast typedef_declared function_named variable_named init_declarator declaration file_declaration block_name block_declaration defined_name definition pointer_part array_part function_part made parameter type_name member_of_type_rules_declarators with_argument function_type body_read pointer_word initial_word initializer_words initial_values scalar text_fits by_name by_expression part finished by_list count initial_size initialized number_in character_in text_in text_initially as_value operand lvalue promoted in_sign pair_of stride arithmetic_on shift_on pointer_in_common equality_on logical_on operation sign_operation negation chosen_type chosen alternatives choice name number character holds_initially string_object text_found text parenthesised and_then name_number scoped expression value size_of typedef_name tagged_structure structure_name structure tagged_enumeration enumeration_name enumeration enumerator evaluated condition expression_statement block selection_of selection while_loop do_loop for_turns for_loop returned with_items list_behind block_items statement outermost_effects with_effects typed parts_of exceeded outcome likeness_of each_likeness signature_likeness_of conversion union conflict effects_of merged added shared points_to target_effects without_outer_effects same without_effects words_of opening_of automatics PlaceKeeps InitializerKeeps StmtKeeps row_type place_nodes initializer_nodes stmt_nodes places place_spots initializer_spots stmt_spots callee_of stores structure_in IsWithin AreVariables IsTypedPlace IsInitializer IsTypedStmt place_type packed
declared_35 = refl

-- int «here» f(void)(void);
declared_36 : first_fault (codes "int f(void)(void);") (record { externals = (external.Declaration (record { place = 0; specs = (spec.Type 0 type_word.Int ∷ []); declarators = ((record { declarator = (of_declarator.Function (of_declarator.Function (of_declarator.Name (sp 4 5)) 5 (params.Void 6) []) 11 (params.Void 12) []); init = None }) ∷ []) }) ∷ []) }) ≡ Some (3, 4)
unfolding hidden hidden-the_row-BlockItem-1 hidden-the_row-CType-0 hidden-the_row-CType-1 hidden-the_row-Declarator-0 hidden-the_row-Declarator-6 hidden-the_row-Enumerator-8 hidden-the_row-Expr-0 hidden-the_row-Expr-1 hidden-the_row-Expr-2 hidden-arguments hidden-the_row-Init-0 hidden-the_row-Initializer-0 hidden-the_row-Member-7 hidden-the_row-Param-5 hidden-the_row-Place-1 hidden-the_row-Spec-3 hidden-the_row-Stmt-0 hidden-unit-0 hidden-unit-1 hidden-the_row-TypeName-4 shape-the_row-BlockItem-1 shape-the_row-CType-0 shape-the_row-CType-1 shape-the_row-Declarator-0 shape-the_row-Declarator-6 shape-the_row-Enumerator-8 shape-the_row-Expr-0 shape-the_row-Expr-1 shape-the_row-Expr-2 shape-arguments shape-the_row-Init-0 shape-the_row-Initializer-0 shape-the_row-Member-7 shape-the_row-Param-5 shape-the_row-Place-1 shape-the_row-Spec-3 shape-the_row-Stmt-0 shape-unit-0 shape-unit-1 shape-the_row-TypeName-4 indirection element member access address unevaluated size size_of_expression size_of_type plain_assignment number_update pointer_update compound_assignment assignment step_update step spine fresh callee_in callee passed call worth is_null number_constant converted cast typedef_declared function_named variable_named init_declarator declaration file_declaration block_name block_declaration defined_name definition pointer_part array_part function_part made parameter type_name member_of_type_rules_declarators with_argument function_type body_read pointer_word initial_word initializer_words initial_values scalar text_fits by_name by_expression part finished by_list count initial_size initialized number_in character_in text_in text_initially as_value operand lvalue promoted in_sign pair_of stride arithmetic_on shift_on pointer_in_common equality_on logical_on operation sign_operation negation chosen_type chosen alternatives choice name number character holds_initially string_object text_found text parenthesised and_then name_number scoped expression value size_of typedef_name tagged_structure structure_name structure tagged_enumeration enumeration_name enumeration enumerator evaluated condition expression_statement block selection_of selection while_loop do_loop for_turns for_loop returned with_items list_behind block_items statement outermost_effects with_effects typed parts_of exceeded outcome likeness_of each_likeness signature_likeness_of conversion union conflict effects_of merged added shared points_to target_effects without_outer_effects same without_effects words_of opening_of automatics PlaceKeeps InitializerKeeps StmtKeeps row_type place_nodes initializer_nodes stmt_nodes places place_spots initializer_spots stmt_spots callee_of stores structure_in IsWithin AreVariables IsTypedPlace IsInitializer IsTypedStmt place_type packed
declared_36 = refl

-- int «here» a[3](void);
declared_37 : first_fault (codes "int a[3](void);") (record { externals = (external.Declaration (record { place = 0; specs = (spec.Type 0 type_word.Int ∷ []); declarators = ((record { declarator = (of_declarator.Function (of_declarator.Array (of_declarator.Name (sp 4 5)) 5 (Some (expr.Number (sp 6 7)))) 8 (params.Void 9) []); init = None }) ∷ []) }) ∷ []) }) ≡ Some (3, 4)
unfolding hidden hidden-the_row-BlockItem-1 hidden-the_row-CType-0 hidden-the_row-CType-1 hidden-the_row-Declarator-0 hidden-the_row-Declarator-6 hidden-the_row-Enumerator-8 hidden-the_row-Expr-0 hidden-the_row-Expr-1 hidden-the_row-Expr-2 hidden-arguments hidden-the_row-Init-0 hidden-the_row-Initializer-0 hidden-the_row-Member-7 hidden-the_row-Param-5 hidden-the_row-Place-1 hidden-the_row-Spec-3 hidden-the_row-Stmt-0 hidden-unit-0 hidden-unit-1 hidden-the_row-TypeName-4 shape-the_row-BlockItem-1 shape-the_row-CType-0 shape-the_row-CType-1 shape-the_row-Declarator-0 shape-the_row-Declarator-6 shape-the_row-Enumerator-8 shape-the_row-Expr-0 shape-the_row-Expr-1 shape-the_row-Expr-2 shape-arguments shape-the_row-Init-0 shape-the_row-Initializer-0 shape-the_row-Member-7 shape-the_row-Param-5 shape-the_row-Place-1 shape-the_row-Spec-3 shape-the_row-Stmt-0 shape-unit-0 shape-unit-1 shape-the_row-TypeName-4 indirection element member access address unevaluated size size_of_expression size_of_type plain_assignment number_update pointer_update compound_assignment assignment step_update step spine fresh callee_in callee passed call worth is_null number_constant converted cast typedef_declared function_named variable_named init_declarator declaration file_declaration block_name block_declaration defined_name definition pointer_part array_part function_part made parameter type_name member_of_type_rules_declarators with_argument function_type body_read pointer_word initial_word initializer_words initial_values scalar text_fits by_name by_expression part finished by_list count initial_size initialized number_in character_in text_in text_initially as_value operand lvalue promoted in_sign pair_of stride arithmetic_on shift_on pointer_in_common equality_on logical_on operation sign_operation negation chosen_type chosen alternatives choice name number character holds_initially string_object text_found text parenthesised and_then name_number scoped expression value size_of typedef_name tagged_structure structure_name structure tagged_enumeration enumeration_name enumeration enumerator evaluated condition expression_statement block selection_of selection while_loop do_loop for_turns for_loop returned with_items list_behind block_items statement outermost_effects with_effects typed parts_of exceeded outcome likeness_of each_likeness signature_likeness_of conversion union conflict effects_of merged added shared points_to target_effects without_outer_effects same without_effects words_of opening_of automatics PlaceKeeps InitializerKeeps StmtKeeps row_type place_nodes initializer_nodes stmt_nodes places place_spots initializer_spots stmt_spots callee_of stores structure_in IsWithin AreVariables IsTypedPlace IsInitializer IsTypedStmt place_type packed
declared_37 = refl

-- struct s { int a; }; struct s «here» f(void);
declared_38 : first_fault (codes "struct s { int a; }; struct s f(void);") (record { externals = (external.Declaration (record { place = 0; specs = (spec.Struct 0 (Some (sp 7 8)) ((record { place = 11; specs = (spec.Type 11 type_word.Int ∷ []); declarators = ((of_declarator.Name (sp 15 16)) ∷ []) }) ∷ []) ∷ []); declarators = [] }) ∷ external.Declaration (record { place = 21; specs = (spec.StructName 21 (sp 28 29) ∷ []); declarators = ((record { declarator = (of_declarator.Function (of_declarator.Name (sp 30 31)) 31 (params.Void 32) []); init = None }) ∷ []) }) ∷ []) }) ≡ Some (3, 30)
unfolding hidden hidden-the_row-BlockItem-1 hidden-the_row-CType-0 hidden-the_row-CType-1 hidden-the_row-Declarator-0 hidden-the_row-Declarator-6 hidden-the_row-Enumerator-8 hidden-the_row-Expr-0 hidden-the_row-Expr-1 hidden-the_row-Expr-2 hidden-arguments hidden-the_row-Init-0 hidden-the_row-Initializer-0 hidden-the_row-Member-7 hidden-the_row-Param-5 hidden-the_row-Place-1 hidden-the_row-Spec-3 hidden-the_row-Stmt-0 hidden-unit-0 hidden-unit-1 hidden-the_row-TypeName-4 shape-the_row-BlockItem-1 shape-the_row-CType-0 shape-the_row-CType-1 shape-the_row-Declarator-0 shape-the_row-Declarator-6 shape-the_row-Enumerator-8 shape-the_row-Expr-0 shape-the_row-Expr-1 shape-the_row-Expr-2 shape-arguments shape-the_row-Init-0 shape-the_row-Initializer-0 shape-the_row-Member-7 shape-the_row-Param-5 shape-the_row-Place-1 shape-the_row-Spec-3 shape-the_row-Stmt-0 shape-unit-0 shape-unit-1 shape-the_row-TypeName-4 indirection element member access address unevaluated size size_of_expression size_of_type plain_assignment number_update pointer_update compound_assignment assignment step_update step spine fresh callee_in callee passed call worth is_null number_constant converted cast typedef_declared function_named variable_named init_declarator declaration file_declaration block_name block_declaration defined_name definition pointer_part array_part function_part made parameter type_name member_of_type_rules_declarators with_argument function_type body_read pointer_word initial_word initializer_words initial_values scalar text_fits by_name by_expression part finished by_list count initial_size initialized number_in character_in text_in text_initially as_value operand lvalue promoted in_sign pair_of stride arithmetic_on shift_on pointer_in_common equality_on logical_on operation sign_operation negation chosen_type chosen alternatives choice name number character holds_initially string_object text_found text parenthesised and_then name_number scoped expression value size_of typedef_name tagged_structure structure_name structure tagged_enumeration enumeration_name enumeration enumerator evaluated condition expression_statement block selection_of selection while_loop do_loop for_turns for_loop returned with_items list_behind block_items statement outermost_effects with_effects typed parts_of exceeded outcome likeness_of each_likeness signature_likeness_of conversion union conflict effects_of merged added shared points_to target_effects without_outer_effects same without_effects words_of opening_of automatics PlaceKeeps InitializerKeeps StmtKeeps row_type place_nodes initializer_nodes stmt_nodes places place_spots initializer_spots stmt_spots callee_of stores structure_in IsWithin AreVariables IsTypedPlace IsInitializer IsTypedStmt place_type packed
declared_38 = refl

-- struct s { int a; }; void f(struct s «here» a);
declared_39 : first_fault (codes "struct s { int a; }; void f(struct s a);") (record { externals = (external.Declaration (record { place = 0; specs = (spec.Struct 0 (Some (sp 7 8)) ((record { place = 11; specs = (spec.Type 11 type_word.Int ∷ []); declarators = ((of_declarator.Name (sp 15 16)) ∷ []) }) ∷ []) ∷ []); declarators = [] }) ∷ external.Declaration (record { place = 21; specs = (spec.Type 21 type_word.Void ∷ []); declarators = ((record { declarator = (of_declarator.Function (of_declarator.Name (sp 26 27)) 27 (params.List ((record { place = 28; specs = (spec.StructName 28 (sp 35 36) ∷ []); declarator = (of_declarator.Name (sp 37 38)) }) ∷ [])) []); init = None }) ∷ []) }) ∷ []) }) ≡ Some (3, 37)
unfolding hidden hidden-the_row-BlockItem-1 hidden-the_row-CType-0 hidden-the_row-CType-1 hidden-the_row-Declarator-0 hidden-the_row-Declarator-6 hidden-the_row-Enumerator-8 hidden-the_row-Expr-0 hidden-the_row-Expr-1 hidden-the_row-Expr-2 hidden-arguments hidden-the_row-Init-0 hidden-the_row-Initializer-0 hidden-the_row-Member-7 hidden-the_row-Param-5 hidden-the_row-Place-1 hidden-the_row-Spec-3 hidden-the_row-Stmt-0 hidden-unit-0 hidden-unit-1 hidden-the_row-TypeName-4 shape-the_row-BlockItem-1 shape-the_row-CType-0 shape-the_row-CType-1 shape-the_row-Declarator-0 shape-the_row-Declarator-6 shape-the_row-Enumerator-8 shape-the_row-Expr-0 shape-the_row-Expr-1 shape-the_row-Expr-2 shape-arguments shape-the_row-Init-0 shape-the_row-Initializer-0 shape-the_row-Member-7 shape-the_row-Param-5 shape-the_row-Place-1 shape-the_row-Spec-3 shape-the_row-Stmt-0 shape-unit-0 shape-unit-1 shape-the_row-TypeName-4 indirection element member access address unevaluated size size_of_expression size_of_type plain_assignment number_update pointer_update compound_assignment assignment step_update step spine fresh callee_in callee passed call worth is_null number_constant converted cast typedef_declared function_named variable_named init_declarator declaration file_declaration block_name block_declaration defined_name definition pointer_part array_part function_part made parameter type_name member_of_type_rules_declarators with_argument function_type body_read pointer_word initial_word initializer_words initial_values scalar text_fits by_name by_expression part finished by_list count initial_size initialized number_in character_in text_in text_initially as_value operand lvalue promoted in_sign pair_of stride arithmetic_on shift_on pointer_in_common equality_on logical_on operation sign_operation negation chosen_type chosen alternatives choice name number character holds_initially string_object text_found text parenthesised and_then name_number scoped expression value size_of typedef_name tagged_structure structure_name structure tagged_enumeration enumeration_name enumeration enumerator evaluated condition expression_statement block selection_of selection while_loop do_loop for_turns for_loop returned with_items list_behind block_items statement outermost_effects with_effects typed parts_of exceeded outcome likeness_of each_likeness signature_likeness_of conversion union conflict effects_of merged added shared points_to target_effects without_outer_effects same without_effects words_of opening_of automatics PlaceKeeps InitializerKeeps StmtKeeps row_type place_nodes initializer_nodes stmt_nodes places place_spots initializer_spots stmt_spots callee_of stores structure_in IsWithin AreVariables IsTypedPlace IsInitializer IsTypedStmt place_type packed
declared_39 = refl

-- void f(void «here» x);
declared_40 : first_fault (codes "void f(void x);") (record { externals = (external.Declaration (record { place = 0; specs = (spec.Type 0 type_word.Void ∷ []); declarators = ((record { declarator = (of_declarator.Function (of_declarator.Name (sp 5 6)) 6 (params.List ((record { place = 7; specs = (spec.Type 7 type_word.Void ∷ []); declarator = (of_declarator.Name (sp 12 13)) }) ∷ [])) []); init = None }) ∷ []) }) ∷ []) }) ≡ Some (3, 12)
unfolding hidden hidden-the_row-BlockItem-1 hidden-the_row-CType-0 hidden-the_row-CType-1 hidden-the_row-Declarator-0 hidden-the_row-Declarator-6 hidden-the_row-Enumerator-8 hidden-the_row-Expr-0 hidden-the_row-Expr-1 hidden-the_row-Expr-2 hidden-arguments hidden-the_row-Init-0 hidden-the_row-Initializer-0 hidden-the_row-Member-7 hidden-the_row-Param-5 hidden-the_row-Place-1 hidden-the_row-Spec-3 hidden-the_row-Stmt-0 hidden-unit-0 hidden-unit-1 hidden-the_row-TypeName-4 shape-the_row-BlockItem-1 shape-the_row-CType-0 shape-the_row-CType-1 shape-the_row-Declarator-0 shape-the_row-Declarator-6 shape-the_row-Enumerator-8 shape-the_row-Expr-0 shape-the_row-Expr-1 shape-the_row-Expr-2 shape-arguments shape-the_row-Init-0 shape-the_row-Initializer-0 shape-the_row-Member-7 shape-the_row-Param-5 shape-the_row-Place-1 shape-the_row-Spec-3 shape-the_row-Stmt-0 shape-unit-0 shape-unit-1 shape-the_row-TypeName-4 indirection element member access address unevaluated size size_of_expression size_of_type plain_assignment number_update pointer_update compound_assignment assignment step_update step spine fresh callee_in callee passed call worth is_null number_constant converted cast typedef_declared function_named variable_named init_declarator declaration file_declaration block_name block_declaration defined_name definition pointer_part array_part function_part made parameter type_name member_of_type_rules_declarators with_argument function_type body_read pointer_word initial_word initializer_words initial_values scalar text_fits by_name by_expression part finished by_list count initial_size initialized number_in character_in text_in text_initially as_value operand lvalue promoted in_sign pair_of stride arithmetic_on shift_on pointer_in_common equality_on logical_on operation sign_operation negation chosen_type chosen alternatives choice name number character holds_initially string_object text_found text parenthesised and_then name_number scoped expression value size_of typedef_name tagged_structure structure_name structure tagged_enumeration enumeration_name enumeration enumerator evaluated condition expression_statement block selection_of selection while_loop do_loop for_turns for_loop returned with_items list_behind block_items statement outermost_effects with_effects typed parts_of exceeded outcome likeness_of each_likeness signature_likeness_of conversion union conflict effects_of merged added shared points_to target_effects without_outer_effects same without_effects words_of opening_of automatics PlaceKeeps InitializerKeeps StmtKeeps row_type place_nodes initializer_nodes stmt_nodes places place_spots initializer_spots stmt_spots callee_of stores structure_in IsWithin AreVariables IsTypedPlace IsInitializer IsTypedStmt place_type packed
declared_40 = refl

-- void f(«here» const void);
declared_41 : first_fault (codes "void f(const void);") (record { externals = (external.Declaration (record { place = 0; specs = (spec.Type 0 type_word.Void ∷ []); declarators = ((record { declarator = (of_declarator.Function (of_declarator.Name (sp 5 6)) 6 (params.List ((record { place = 7; specs = (spec.Qualifier 7 qualifier.Const ∷ spec.Type 13 type_word.Void ∷ []); declarator = of_declarator.Absent }) ∷ [])) []); init = None }) ∷ []) }) ∷ []) }) ≡ Some (3, 7)
unfolding hidden hidden-the_row-BlockItem-1 hidden-the_row-CType-0 hidden-the_row-CType-1 hidden-the_row-Declarator-0 hidden-the_row-Declarator-6 hidden-the_row-Enumerator-8 hidden-the_row-Expr-0 hidden-the_row-Expr-1 hidden-the_row-Expr-2 hidden-arguments hidden-the_row-Init-0 hidden-the_row-Initializer-0 hidden-the_row-Member-7 hidden-the_row-Param-5 hidden-the_row-Place-1 hidden-the_row-Spec-3 hidden-the_row-Stmt-0 hidden-unit-0 hidden-unit-1 hidden-the_row-TypeName-4 shape-the_row-BlockItem-1 shape-the_row-CType-0 shape-the_row-CType-1 shape-the_row-Declarator-0 shape-the_row-Declarator-6 shape-the_row-Enumerator-8 shape-the_row-Expr-0 shape-the_row-Expr-1 shape-the_row-Expr-2 shape-arguments shape-the_row-Init-0 shape-the_row-Initializer-0 shape-the_row-Member-7 shape-the_row-Param-5 shape-the_row-Place-1 shape-the_row-Spec-3 shape-the_row-Stmt-0 shape-unit-0 shape-unit-1 shape-the_row-TypeName-4 indirection element member access address unevaluated size size_of_expression size_of_type plain_assignment number_update pointer_update compound_assignment assignment step_update step spine fresh callee_in callee passed call worth is_null number_constant converted cast typedef_declared function_named variable_named init_declarator declaration file_declaration block_name block_declaration defined_name definition pointer_part array_part function_part made parameter type_name member_of_type_rules_declarators with_argument function_type body_read pointer_word initial_word initializer_words initial_values scalar text_fits by_name by_expression part finished by_list count initial_size initialized number_in character_in text_in text_initially as_value operand lvalue promoted in_sign pair_of stride arithmetic_on shift_on pointer_in_common equality_on logical_on operation sign_operation negation chosen_type chosen alternatives choice name number character holds_initially string_object text_found text parenthesised and_then name_number scoped expression value size_of typedef_name tagged_structure structure_name structure tagged_enumeration enumeration_name enumeration enumerator evaluated condition expression_statement block selection_of selection while_loop do_loop for_turns for_loop returned with_items list_behind block_items statement outermost_effects with_effects typed parts_of exceeded outcome likeness_of each_likeness signature_likeness_of conversion union conflict effects_of merged added shared points_to target_effects without_outer_effects same without_effects words_of opening_of automatics PlaceKeeps InitializerKeeps StmtKeeps row_type place_nodes initializer_nodes stmt_nodes places place_spots initializer_spots stmt_spots callee_of stores structure_in IsWithin AreVariables IsTypedPlace IsInitializer IsTypedStmt place_type packed
declared_41 = refl

-- void f(int a[], int b[3], int c(void), int (*d)(int));
declared_42 : first_fault (codes "void f(int a[], int b[3], int c(void), int (*d)(int));") (record { externals = (external.Declaration (record { place = 0; specs = (spec.Type 0 type_word.Void ∷ []); declarators = ((record { declarator = (of_declarator.Function (of_declarator.Name (sp 5 6)) 6 (params.List ((record { place = 7; specs = (spec.Type 7 type_word.Int ∷ []); declarator = (of_declarator.Array (of_declarator.Name (sp 11 12)) 12 None) }) ∷ (record { place = 16; specs = (spec.Type 16 type_word.Int ∷ []); declarator = (of_declarator.Array (of_declarator.Name (sp 20 21)) 21 (Some (expr.Number (sp 22 23)))) }) ∷ (record { place = 26; specs = (spec.Type 26 type_word.Int ∷ []); declarator = (of_declarator.Function (of_declarator.Name (sp 30 31)) 31 (params.Void 32) []) }) ∷ (record { place = 39; specs = (spec.Type 39 type_word.Int ∷ []); declarator = (of_declarator.Function (of_declarator.Parenthesised 43 (of_declarator.Pointer 44 [] (of_declarator.Name (sp 45 46)))) 47 (params.List ((record { place = 48; specs = (spec.Type 48 type_word.Int ∷ []); declarator = of_declarator.Absent }) ∷ [])) []) }) ∷ [])) []); init = None }) ∷ []) }) ∷ []) }) ≡ None
unfolding hidden hidden-the_row-BlockItem-1 hidden-the_row-CType-0 hidden-the_row-CType-1 hidden-the_row-Declarator-0 hidden-the_row-Declarator-6 hidden-the_row-Enumerator-8 hidden-the_row-Expr-0 hidden-the_row-Expr-1 hidden-the_row-Expr-2 hidden-arguments hidden-the_row-Init-0 hidden-the_row-Initializer-0 hidden-the_row-Member-7 hidden-the_row-Param-5 hidden-the_row-Place-1 hidden-the_row-Spec-3 hidden-the_row-Stmt-0 hidden-unit-0 hidden-unit-1 hidden-the_row-TypeName-4 shape-the_row-BlockItem-1 shape-the_row-CType-0 shape-the_row-CType-1 shape-the_row-Declarator-0 shape-the_row-Declarator-6 shape-the_row-Enumerator-8 shape-the_row-Expr-0 shape-the_row-Expr-1 shape-the_row-Expr-2 shape-arguments shape-the_row-Init-0 shape-the_row-Initializer-0 shape-the_row-Member-7 shape-the_row-Param-5 shape-the_row-Place-1 shape-the_row-Spec-3 shape-the_row-Stmt-0 shape-unit-0 shape-unit-1 shape-the_row-TypeName-4 indirection element member access address unevaluated size size_of_expression size_of_type plain_assignment number_update pointer_update compound_assignment assignment step_update step spine fresh callee_in callee passed call worth is_null number_constant converted cast typedef_declared function_named variable_named init_declarator declaration file_declaration block_name block_declaration defined_name definition pointer_part array_part function_part made parameter type_name member_of_type_rules_declarators with_argument function_type body_read pointer_word initial_word initializer_words initial_values scalar text_fits by_name by_expression part finished by_list count initial_size initialized number_in character_in text_in text_initially as_value operand lvalue promoted in_sign pair_of stride arithmetic_on shift_on pointer_in_common equality_on logical_on operation sign_operation negation chosen_type chosen alternatives choice name number character holds_initially string_object text_found text parenthesised and_then name_number scoped expression value size_of typedef_name tagged_structure structure_name structure tagged_enumeration enumeration_name enumeration enumerator evaluated condition expression_statement block selection_of selection while_loop do_loop for_turns for_loop returned with_items list_behind block_items statement outermost_effects with_effects typed parts_of exceeded outcome likeness_of each_likeness signature_likeness_of conversion union conflict effects_of merged added shared points_to target_effects without_outer_effects same without_effects words_of opening_of automatics PlaceKeeps InitializerKeeps StmtKeeps row_type place_nodes initializer_nodes stmt_nodes places place_spots initializer_spots stmt_spots callee_of stores structure_in IsWithin AreVariables IsTypedPlace IsInitializer IsTypedStmt place_type packed
declared_42 = refl

-- void f(int «here» a[][]);
declared_43 : first_fault (codes "void f(int a[][]);") (record { externals = (external.Declaration (record { place = 0; specs = (spec.Type 0 type_word.Void ∷ []); declarators = ((record { declarator = (of_declarator.Function (of_declarator.Name (sp 5 6)) 6 (params.List ((record { place = 7; specs = (spec.Type 7 type_word.Int ∷ []); declarator = (of_declarator.Array (of_declarator.Array (of_declarator.Name (sp 11 12)) 12 None) 14 None) }) ∷ [])) []); init = None }) ∷ []) }) ∷ []) }) ≡ Some (10, 11)
unfolding hidden hidden-the_row-BlockItem-1 hidden-the_row-CType-0 hidden-the_row-CType-1 hidden-the_row-Declarator-0 hidden-the_row-Declarator-6 hidden-the_row-Enumerator-8 hidden-the_row-Expr-0 hidden-the_row-Expr-1 hidden-the_row-Expr-2 hidden-arguments hidden-the_row-Init-0 hidden-the_row-Initializer-0 hidden-the_row-Member-7 hidden-the_row-Param-5 hidden-the_row-Place-1 hidden-the_row-Spec-3 hidden-the_row-Stmt-0 hidden-unit-0 hidden-unit-1 hidden-the_row-TypeName-4 shape-the_row-BlockItem-1 shape-the_row-CType-0 shape-the_row-CType-1 shape-the_row-Declarator-0 shape-the_row-Declarator-6 shape-the_row-Enumerator-8 shape-the_row-Expr-0 shape-the_row-Expr-1 shape-the_row-Expr-2 shape-arguments shape-the_row-Init-0 shape-the_row-Initializer-0 shape-the_row-Member-7 shape-the_row-Param-5 shape-the_row-Place-1 shape-the_row-Spec-3 shape-the_row-Stmt-0 shape-unit-0 shape-unit-1 shape-the_row-TypeName-4 indirection element member access address unevaluated size size_of_expression size_of_type plain_assignment number_update pointer_update compound_assignment assignment step_update step spine fresh callee_in callee passed call worth is_null number_constant converted cast typedef_declared function_named variable_named init_declarator declaration file_declaration block_name block_declaration defined_name definition pointer_part array_part function_part made parameter type_name member_of_type_rules_declarators with_argument function_type body_read pointer_word initial_word initializer_words initial_values scalar text_fits by_name by_expression part finished by_list count initial_size initialized number_in character_in text_in text_initially as_value operand lvalue promoted in_sign pair_of stride arithmetic_on shift_on pointer_in_common equality_on logical_on operation sign_operation negation chosen_type chosen alternatives choice name number character holds_initially string_object text_found text parenthesised and_then name_number scoped expression value size_of typedef_name tagged_structure structure_name structure tagged_enumeration enumeration_name enumeration enumerator evaluated condition expression_statement block selection_of selection while_loop do_loop for_turns for_loop returned with_items list_behind block_items statement outermost_effects with_effects typed parts_of exceeded outcome likeness_of each_likeness signature_likeness_of conversion union conflict effects_of merged added shared points_to target_effects without_outer_effects same without_effects words_of opening_of automatics PlaceKeeps InitializerKeeps StmtKeeps row_type place_nodes initializer_nodes stmt_nodes places place_spots initializer_spots stmt_spots callee_of stores structure_in IsWithin AreVariables IsTypedPlace IsInitializer IsTypedStmt place_type packed
declared_43 = refl

-- typedef int «here» T[];
declared_44 : first_fault (codes "typedef int T[];") (record { externals = (external.Declaration (record { place = 0; specs = (spec.Storage 0 storage.Typedef ∷ spec.Type 8 type_word.Int ∷ []); declarators = ((record { declarator = (of_declarator.Array (of_declarator.Name (sp 12 13)) 13 None); init = None }) ∷ []) }) ∷ []) }) ≡ Some (10, 12)
unfolding hidden hidden-the_row-BlockItem-1 hidden-the_row-CType-0 hidden-the_row-CType-1 hidden-the_row-Declarator-0 hidden-the_row-Declarator-6 hidden-the_row-Enumerator-8 hidden-the_row-Expr-0 hidden-the_row-Expr-1 hidden-the_row-Expr-2 hidden-arguments hidden-the_row-Init-0 hidden-the_row-Initializer-0 hidden-the_row-Member-7 hidden-the_row-Param-5 hidden-the_row-Place-1 hidden-the_row-Spec-3 hidden-the_row-Stmt-0 hidden-unit-0 hidden-unit-1 hidden-the_row-TypeName-4 shape-the_row-BlockItem-1 shape-the_row-CType-0 shape-the_row-CType-1 shape-the_row-Declarator-0 shape-the_row-Declarator-6 shape-the_row-Enumerator-8 shape-the_row-Expr-0 shape-the_row-Expr-1 shape-the_row-Expr-2 shape-arguments shape-the_row-Init-0 shape-the_row-Initializer-0 shape-the_row-Member-7 shape-the_row-Param-5 shape-the_row-Place-1 shape-the_row-Spec-3 shape-the_row-Stmt-0 shape-unit-0 shape-unit-1 shape-the_row-TypeName-4 indirection element member access address unevaluated size size_of_expression size_of_type plain_assignment number_update pointer_update compound_assignment assignment step_update step spine fresh callee_in callee passed call worth is_null number_constant converted cast typedef_declared function_named variable_named init_declarator declaration file_declaration block_name block_declaration defined_name definition pointer_part array_part function_part made parameter type_name member_of_type_rules_declarators with_argument function_type body_read pointer_word initial_word initializer_words initial_values scalar text_fits by_name by_expression part finished by_list count initial_size initialized number_in character_in text_in text_initially as_value operand lvalue promoted in_sign pair_of stride arithmetic_on shift_on pointer_in_common equality_on logical_on operation sign_operation negation chosen_type chosen alternatives choice name number character holds_initially string_object text_found text parenthesised and_then name_number scoped expression value size_of typedef_name tagged_structure structure_name structure tagged_enumeration enumeration_name enumeration enumerator evaluated condition expression_statement block selection_of selection while_loop do_loop for_turns for_loop returned with_items list_behind block_items statement outermost_effects with_effects typed parts_of exceeded outcome likeness_of each_likeness signature_likeness_of conversion union conflict effects_of merged added shared points_to target_effects without_outer_effects same without_effects words_of opening_of automatics PlaceKeeps InitializerKeeps StmtKeeps row_type place_nodes initializer_nodes stmt_nodes places place_spots initializer_spots stmt_spots callee_of stores structure_in IsWithin AreVariables IsTypedPlace IsInitializer IsTypedStmt place_type packed
declared_44 = refl

-- typedef void T; T *p;
declared_45 : first_fault (codes "typedef void T; T *p;") (record { externals = (external.Declaration (record { place = 0; specs = (spec.Storage 0 storage.Typedef ∷ spec.Type 8 type_word.Void ∷ []); declarators = ((record { declarator = (of_declarator.Name (sp 13 14)); init = None }) ∷ []) }) ∷ external.Declaration (record { place = 16; specs = (spec.TypedefName (sp 16 17) ∷ []); declarators = ((record { declarator = (of_declarator.Pointer 18 [] (of_declarator.Name (sp 19 20))); init = None }) ∷ []) }) ∷ []) }) ≡ None
unfolding hidden hidden-the_row-BlockItem-1 hidden-the_row-CType-0 hidden-the_row-CType-1 hidden-the_row-Declarator-0 hidden-the_row-Declarator-6 hidden-the_row-Enumerator-8 hidden-the_row-Expr-0 hidden-the_row-Expr-1 hidden-the_row-Expr-2 hidden-arguments hidden-the_row-Init-0 hidden-the_row-Initializer-0 hidden-the_row-Member-7 hidden-the_row-Param-5 hidden-the_row-Place-1 hidden-the_row-Spec-3 hidden-the_row-Stmt-0 hidden-unit-0 hidden-unit-1 hidden-the_row-TypeName-4 shape-the_row-BlockItem-1 shape-the_row-CType-0 shape-the_row-CType-1 shape-the_row-Declarator-0 shape-the_row-Declarator-6 shape-the_row-Enumerator-8 shape-the_row-Expr-0 shape-the_row-Expr-1 shape-the_row-Expr-2 shape-arguments shape-the_row-Init-0 shape-the_row-Initializer-0 shape-the_row-Member-7 shape-the_row-Param-5 shape-the_row-Place-1 shape-the_row-Spec-3 shape-the_row-Stmt-0 shape-unit-0 shape-unit-1 shape-the_row-TypeName-4 indirection element member access address unevaluated size size_of_expression size_of_type plain_assignment number_update pointer_update compound_assignment assignment step_update step spine fresh callee_in callee passed call worth is_null number_constant converted cast typedef_declared function_named variable_named init_declarator declaration file_declaration block_name block_declaration defined_name definition pointer_part array_part function_part made parameter type_name member_of_type_rules_declarators with_argument function_type body_read pointer_word initial_word initializer_words initial_values scalar text_fits by_name by_expression part finished by_list count initial_size initialized number_in character_in text_in text_initially as_value operand lvalue promoted in_sign pair_of stride arithmetic_on shift_on pointer_in_common equality_on logical_on operation sign_operation negation chosen_type chosen alternatives choice name number character holds_initially string_object text_found text parenthesised and_then name_number scoped expression value size_of typedef_name tagged_structure structure_name structure tagged_enumeration enumeration_name enumeration enumerator evaluated condition expression_statement block selection_of selection while_loop do_loop for_turns for_loop returned with_items list_behind block_items statement outermost_effects with_effects typed parts_of exceeded outcome likeness_of each_likeness signature_likeness_of conversion union conflict effects_of merged added shared points_to target_effects without_outer_effects same without_effects words_of opening_of automatics PlaceKeeps InitializerKeeps StmtKeeps row_type place_nodes initializer_nodes stmt_nodes places place_spots initializer_spots stmt_spots callee_of stores structure_in IsWithin AreVariables IsTypedPlace IsInitializer IsTypedStmt place_type packed
declared_45 = refl

-- [[clang::nonblocking]] int «here» x;
declared_46 : first_fault (codes "[[clang::nonblocking]] int x;") (record { externals = (external.Declaration (record { place = 0; specs = (spec.Attribute (record { place = 0; spelling = spelling.Brackets; words = ((record { place = 9; effect = (effect.NonBlocking None) }) ∷ []) }) ∷ spec.Type 23 type_word.Int ∷ []); declarators = ((record { declarator = (of_declarator.Name (sp 27 28)); init = None }) ∷ []) }) ∷ []) }) ≡ Some (3, 27)
unfolding hidden hidden-the_row-BlockItem-1 hidden-the_row-CType-0 hidden-the_row-CType-1 hidden-the_row-Declarator-0 hidden-the_row-Declarator-6 hidden-the_row-Enumerator-8 hidden-the_row-Expr-0 hidden-the_row-Expr-1 hidden-the_row-Expr-2 hidden-arguments hidden-the_row-Init-0 hidden-the_row-Initializer-0 hidden-the_row-Member-7 hidden-the_row-Param-5 hidden-the_row-Place-1 hidden-the_row-Spec-3 hidden-the_row-Stmt-0 hidden-unit-0 hidden-unit-1 hidden-the_row-TypeName-4 shape-the_row-BlockItem-1 shape-the_row-CType-0 shape-the_row-CType-1 shape-the_row-Declarator-0 shape-the_row-Declarator-6 shape-the_row-Enumerator-8 shape-the_row-Expr-0 shape-the_row-Expr-1 shape-the_row-Expr-2 shape-arguments shape-the_row-Init-0 shape-the_row-Initializer-0 shape-the_row-Member-7 shape-the_row-Param-5 shape-the_row-Place-1 shape-the_row-Spec-3 shape-the_row-Stmt-0 shape-unit-0 shape-unit-1 shape-the_row-TypeName-4 indirection element member access address unevaluated size size_of_expression size_of_type plain_assignment number_update pointer_update compound_assignment assignment step_update step spine fresh callee_in callee passed call worth is_null number_constant converted cast typedef_declared function_named variable_named init_declarator declaration file_declaration block_name block_declaration defined_name definition pointer_part array_part function_part made parameter type_name member_of_type_rules_declarators with_argument function_type body_read pointer_word initial_word initializer_words initial_values scalar text_fits by_name by_expression part finished by_list count initial_size initialized number_in character_in text_in text_initially as_value operand lvalue promoted in_sign pair_of stride arithmetic_on shift_on pointer_in_common equality_on logical_on operation sign_operation negation chosen_type chosen alternatives choice name number character holds_initially string_object text_found text parenthesised and_then name_number scoped expression value size_of typedef_name tagged_structure structure_name structure tagged_enumeration enumeration_name enumeration enumerator evaluated condition expression_statement block selection_of selection while_loop do_loop for_turns for_loop returned with_items list_behind block_items statement outermost_effects with_effects typed parts_of exceeded outcome likeness_of each_likeness signature_likeness_of conversion union conflict effects_of merged added shared points_to target_effects without_outer_effects same without_effects words_of opening_of automatics PlaceKeeps InitializerKeeps StmtKeeps row_type place_nodes initializer_nodes stmt_nodes places place_spots initializer_spots stmt_spots callee_of stores structure_in IsWithin AreVariables IsTypedPlace IsInitializer IsTypedStmt place_type packed
declared_46 = refl

-- [[clang::nonblocking]] void f(void);
declared_47 : first_fault (codes "[[clang::nonblocking]] void f(void);") (record { externals = (external.Declaration (record { place = 0; specs = (spec.Attribute (record { place = 0; spelling = spelling.Brackets; words = ((record { place = 9; effect = (effect.NonBlocking None) }) ∷ []) }) ∷ spec.Type 23 type_word.Void ∷ []); declarators = ((record { declarator = (of_declarator.Function (of_declarator.Name (sp 28 29)) 29 (params.Void 30) []); init = None }) ∷ []) }) ∷ []) }) ≡ None
unfolding hidden hidden-the_row-BlockItem-1 hidden-the_row-CType-0 hidden-the_row-CType-1 hidden-the_row-Declarator-0 hidden-the_row-Declarator-6 hidden-the_row-Enumerator-8 hidden-the_row-Expr-0 hidden-the_row-Expr-1 hidden-the_row-Expr-2 hidden-arguments hidden-the_row-Init-0 hidden-the_row-Initializer-0 hidden-the_row-Member-7 hidden-the_row-Param-5 hidden-the_row-Place-1 hidden-the_row-Spec-3 hidden-the_row-Stmt-0 hidden-unit-0 hidden-unit-1 hidden-the_row-TypeName-4 shape-the_row-BlockItem-1 shape-the_row-CType-0 shape-the_row-CType-1 shape-the_row-Declarator-0 shape-the_row-Declarator-6 shape-the_row-Enumerator-8 shape-the_row-Expr-0 shape-the_row-Expr-1 shape-the_row-Expr-2 shape-arguments shape-the_row-Init-0 shape-the_row-Initializer-0 shape-the_row-Member-7 shape-the_row-Param-5 shape-the_row-Place-1 shape-the_row-Spec-3 shape-the_row-Stmt-0 shape-unit-0 shape-unit-1 shape-the_row-TypeName-4 indirection element member access address unevaluated size size_of_expression size_of_type plain_assignment number_update pointer_update compound_assignment assignment step_update step spine fresh callee_in callee passed call worth is_null number_constant converted cast typedef_declared function_named variable_named init_declarator declaration file_declaration block_name block_declaration defined_name definition pointer_part array_part function_part made parameter type_name member_of_type_rules_declarators with_argument function_type body_read pointer_word initial_word initializer_words initial_values scalar text_fits by_name by_expression part finished by_list count initial_size initialized number_in character_in text_in text_initially as_value operand lvalue promoted in_sign pair_of stride arithmetic_on shift_on pointer_in_common equality_on logical_on operation sign_operation negation chosen_type chosen alternatives choice name number character holds_initially string_object text_found text parenthesised and_then name_number scoped expression value size_of typedef_name tagged_structure structure_name structure tagged_enumeration enumeration_name enumeration enumerator evaluated condition expression_statement block selection_of selection while_loop do_loop for_turns for_loop returned with_items list_behind block_items statement outermost_effects with_effects typed parts_of exceeded outcome likeness_of each_likeness signature_likeness_of conversion union conflict effects_of merged added shared points_to target_effects without_outer_effects same without_effects words_of opening_of automatics PlaceKeeps InitializerKeeps StmtKeeps row_type place_nodes initializer_nodes stmt_nodes places place_spots initializer_spots stmt_spots callee_of stores structure_in IsWithin AreVariables IsTypedPlace IsInitializer IsTypedStmt place_type packed
declared_47 = refl

-- typedef void F(void); [[clang::nonblocking]] F *p;
declared_48 : first_fault (codes "typedef void F(void); [[clang::nonblocking]] F *p;") (record { externals = (external.Declaration (record { place = 0; specs = (spec.Storage 0 storage.Typedef ∷ spec.Type 8 type_word.Void ∷ []); declarators = ((record { declarator = (of_declarator.Function (of_declarator.Name (sp 13 14)) 14 (params.Void 15) []); init = None }) ∷ []) }) ∷ external.Declaration (record { place = 22; specs = (spec.Attribute (record { place = 22; spelling = spelling.Brackets; words = ((record { place = 31; effect = (effect.NonBlocking None) }) ∷ []) }) ∷ spec.TypedefName (sp 45 46) ∷ []); declarators = ((record { declarator = (of_declarator.Pointer 47 [] (of_declarator.Name (sp 48 49))); init = None }) ∷ []) }) ∷ []) }) ≡ None
unfolding hidden hidden-the_row-BlockItem-1 hidden-the_row-CType-0 hidden-the_row-CType-1 hidden-the_row-Declarator-0 hidden-the_row-Declarator-6 hidden-the_row-Enumerator-8 hidden-the_row-Expr-0 hidden-the_row-Expr-1 hidden-the_row-Expr-2 hidden-arguments hidden-the_row-Init-0 hidden-the_row-Initializer-0 hidden-the_row-Member-7 hidden-the_row-Param-5 hidden-the_row-Place-1 hidden-the_row-Spec-3 hidden-the_row-Stmt-0 hidden-unit-0 hidden-unit-1 hidden-the_row-TypeName-4 shape-the_row-BlockItem-1 shape-the_row-CType-0 shape-the_row-CType-1 shape-the_row-Declarator-0 shape-the_row-Declarator-6 shape-the_row-Enumerator-8 shape-the_row-Expr-0 shape-the_row-Expr-1 shape-the_row-Expr-2 shape-arguments shape-the_row-Init-0 shape-the_row-Initializer-0 shape-the_row-Member-7 shape-the_row-Param-5 shape-the_row-Place-1 shape-the_row-Spec-3 shape-the_row-Stmt-0 shape-unit-0 shape-unit-1 shape-the_row-TypeName-4 indirection element member access address unevaluated size size_of_expression size_of_type plain_assignment number_update pointer_update compound_assignment assignment step_update step spine fresh callee_in callee passed call worth is_null number_constant converted cast typedef_declared function_named variable_named init_declarator declaration file_declaration block_name block_declaration defined_name definition pointer_part array_part function_part made parameter type_name member_of_type_rules_declarators with_argument function_type body_read pointer_word initial_word initializer_words initial_values scalar text_fits by_name by_expression part finished by_list count initial_size initialized number_in character_in text_in text_initially as_value operand lvalue promoted in_sign pair_of stride arithmetic_on shift_on pointer_in_common equality_on logical_on operation sign_operation negation chosen_type chosen alternatives choice name number character holds_initially string_object text_found text parenthesised and_then name_number scoped expression value size_of typedef_name tagged_structure structure_name structure tagged_enumeration enumeration_name enumeration enumerator evaluated condition expression_statement block selection_of selection while_loop do_loop for_turns for_loop returned with_items list_behind block_items statement outermost_effects with_effects typed parts_of exceeded outcome likeness_of each_likeness signature_likeness_of conversion union conflict effects_of merged added shared points_to target_effects without_outer_effects same without_effects words_of opening_of automatics PlaceKeeps InitializerKeeps StmtKeeps row_type place_nodes initializer_nodes stmt_nodes places place_spots initializer_spots stmt_spots callee_of stores structure_in IsWithin AreVariables IsTypedPlace IsInitializer IsTypedStmt place_type packed
declared_48 = refl

-- «here» [[clang::nonblocking]] struct s;
declared_49 : first_fault (codes "[[clang::nonblocking]] struct s;") (record { externals = (external.Declaration (record { place = 0; specs = (spec.Attribute (record { place = 0; spelling = spelling.Brackets; words = ((record { place = 9; effect = (effect.NonBlocking None) }) ∷ []) }) ∷ spec.StructName 23 (sp 30 31) ∷ []); declarators = [] }) ∷ []) }) ≡ Some (3, 0)
unfolding hidden hidden-the_row-BlockItem-1 hidden-the_row-CType-0 hidden-the_row-CType-1 hidden-the_row-Declarator-0 hidden-the_row-Declarator-6 hidden-the_row-Enumerator-8 hidden-the_row-Expr-0 hidden-the_row-Expr-1 hidden-the_row-Expr-2 hidden-arguments hidden-the_row-Init-0 hidden-the_row-Initializer-0 hidden-the_row-Member-7 hidden-the_row-Param-5 hidden-the_row-Place-1 hidden-the_row-Spec-3 hidden-the_row-Stmt-0 hidden-unit-0 hidden-unit-1 hidden-the_row-TypeName-4 shape-the_row-BlockItem-1 shape-the_row-CType-0 shape-the_row-CType-1 shape-the_row-Declarator-0 shape-the_row-Declarator-6 shape-the_row-Enumerator-8 shape-the_row-Expr-0 shape-the_row-Expr-1 shape-the_row-Expr-2 shape-arguments shape-the_row-Init-0 shape-the_row-Initializer-0 shape-the_row-Member-7 shape-the_row-Param-5 shape-the_row-Place-1 shape-the_row-Spec-3 shape-the_row-Stmt-0 shape-unit-0 shape-unit-1 shape-the_row-TypeName-4 indirection element member access address unevaluated size size_of_expression size_of_type plain_assignment number_update pointer_update compound_assignment assignment step_update step spine fresh callee_in callee passed call worth is_null number_constant converted cast typedef_declared function_named variable_named init_declarator declaration file_declaration block_name block_declaration defined_name definition pointer_part array_part function_part made parameter type_name member_of_type_rules_declarators with_argument function_type body_read pointer_word initial_word initializer_words initial_values scalar text_fits by_name by_expression part finished by_list count initial_size initialized number_in character_in text_in text_initially as_value operand lvalue promoted in_sign pair_of stride arithmetic_on shift_on pointer_in_common equality_on logical_on operation sign_operation negation chosen_type chosen alternatives choice name number character holds_initially string_object text_found text parenthesised and_then name_number scoped expression value size_of typedef_name tagged_structure structure_name structure tagged_enumeration enumeration_name enumeration enumerator evaluated condition expression_statement block selection_of selection while_loop do_loop for_turns for_loop returned with_items list_behind block_items statement outermost_effects with_effects typed parts_of exceeded outcome likeness_of each_likeness signature_likeness_of conversion union conflict effects_of merged added shared points_to target_effects without_outer_effects same without_effects words_of opening_of automatics PlaceKeeps InitializerKeeps StmtKeeps row_type place_nodes initializer_nodes stmt_nodes places place_spots initializer_spots stmt_spots callee_of stores structure_in IsWithin AreVariables IsTypedPlace IsInitializer IsTypedStmt place_type packed
declared_49 = refl

-- «here» _Noreturn int;
declared_50 : first_fault (codes "_Noreturn int;") (record { externals = (external.Declaration (record { place = 0; specs = (spec.Function 0 word.NoReturn ∷ spec.Type 10 type_word.Int ∷ []); declarators = [] }) ∷ []) }) ≡ Some (3, 0)
unfolding hidden hidden-the_row-BlockItem-1 hidden-the_row-CType-0 hidden-the_row-CType-1 hidden-the_row-Declarator-0 hidden-the_row-Declarator-6 hidden-the_row-Enumerator-8 hidden-the_row-Expr-0 hidden-the_row-Expr-1 hidden-the_row-Expr-2 hidden-arguments hidden-the_row-Init-0 hidden-the_row-Initializer-0 hidden-the_row-Member-7 hidden-the_row-Param-5 hidden-the_row-Place-1 hidden-the_row-Spec-3 hidden-the_row-Stmt-0 hidden-unit-0 hidden-unit-1 hidden-the_row-TypeName-4 shape-the_row-BlockItem-1 shape-the_row-CType-0 shape-the_row-CType-1 shape-the_row-Declarator-0 shape-the_row-Declarator-6 shape-the_row-Enumerator-8 shape-the_row-Expr-0 shape-the_row-Expr-1 shape-the_row-Expr-2 shape-arguments shape-the_row-Init-0 shape-the_row-Initializer-0 shape-the_row-Member-7 shape-the_row-Param-5 shape-the_row-Place-1 shape-the_row-Spec-3 shape-the_row-Stmt-0 shape-unit-0 shape-unit-1 shape-the_row-TypeName-4 indirection element member access address unevaluated size size_of_expression size_of_type plain_assignment number_update pointer_update compound_assignment assignment step_update step spine fresh callee_in callee passed call worth is_null number_constant converted cast typedef_declared function_named variable_named init_declarator declaration file_declaration block_name block_declaration defined_name definition pointer_part array_part function_part made parameter type_name member_of_type_rules_declarators with_argument function_type body_read pointer_word initial_word initializer_words initial_values scalar text_fits by_name by_expression part finished by_list count initial_size initialized number_in character_in text_in text_initially as_value operand lvalue promoted in_sign pair_of stride arithmetic_on shift_on pointer_in_common equality_on logical_on operation sign_operation negation chosen_type chosen alternatives choice name number character holds_initially string_object text_found text parenthesised and_then name_number scoped expression value size_of typedef_name tagged_structure structure_name structure tagged_enumeration enumeration_name enumeration enumerator evaluated condition expression_statement block selection_of selection while_loop do_loop for_turns for_loop returned with_items list_behind block_items statement outermost_effects with_effects typed parts_of exceeded outcome likeness_of each_likeness signature_likeness_of conversion union conflict effects_of merged added shared points_to target_effects without_outer_effects same without_effects words_of opening_of automatics PlaceKeeps InitializerKeeps StmtKeeps row_type place_nodes initializer_nodes stmt_nodes places place_spots initializer_spots stmt_spots callee_of stores structure_in IsWithin AreVariables IsTypedPlace IsInitializer IsTypedStmt place_type packed
declared_50 = refl

-- _Noreturn int «here» x;
declared_51 : first_fault (codes "_Noreturn int x;") (record { externals = (external.Declaration (record { place = 0; specs = (spec.Function 0 word.NoReturn ∷ spec.Type 10 type_word.Int ∷ []); declarators = ((record { declarator = (of_declarator.Name (sp 14 15)); init = None }) ∷ []) }) ∷ []) }) ≡ Some (3, 14)
unfolding hidden hidden-the_row-BlockItem-1 hidden-the_row-CType-0 hidden-the_row-CType-1 hidden-the_row-Declarator-0 hidden-the_row-Declarator-6 hidden-the_row-Enumerator-8 hidden-the_row-Expr-0 hidden-the_row-Expr-1 hidden-the_row-Expr-2 hidden-arguments hidden-the_row-Init-0 hidden-the_row-Initializer-0 hidden-the_row-Member-7 hidden-the_row-Param-5 hidden-the_row-Place-1 hidden-the_row-Spec-3 hidden-the_row-Stmt-0 hidden-unit-0 hidden-unit-1 hidden-the_row-TypeName-4 shape-the_row-BlockItem-1 shape-the_row-CType-0 shape-the_row-CType-1 shape-the_row-Declarator-0 shape-the_row-Declarator-6 shape-the_row-Enumerator-8 shape-the_row-Expr-0 shape-the_row-Expr-1 shape-the_row-Expr-2 shape-arguments shape-the_row-Init-0 shape-the_row-Initializer-0 shape-the_row-Member-7 shape-the_row-Param-5 shape-the_row-Place-1 shape-the_row-Spec-3 shape-the_row-Stmt-0 shape-unit-0 shape-unit-1 shape-the_row-TypeName-4 indirection element member access address unevaluated size size_of_expression size_of_type plain_assignment number_update pointer_update compound_assignment assignment step_update step spine fresh callee_in callee passed call worth is_null number_constant converted cast typedef_declared function_named variable_named init_declarator declaration file_declaration block_name block_declaration defined_name definition pointer_part array_part function_part made parameter type_name member_of_type_rules_declarators with_argument function_type body_read pointer_word initial_word initializer_words initial_values scalar text_fits by_name by_expression part finished by_list count initial_size initialized number_in character_in text_in text_initially as_value operand lvalue promoted in_sign pair_of stride arithmetic_on shift_on pointer_in_common equality_on logical_on operation sign_operation negation chosen_type chosen alternatives choice name number character holds_initially string_object text_found text parenthesised and_then name_number scoped expression value size_of typedef_name tagged_structure structure_name structure tagged_enumeration enumeration_name enumeration enumerator evaluated condition expression_statement block selection_of selection while_loop do_loop for_turns for_loop returned with_items list_behind block_items statement outermost_effects with_effects typed parts_of exceeded outcome likeness_of each_likeness signature_likeness_of conversion union conflict effects_of merged added shared points_to target_effects without_outer_effects same without_effects words_of opening_of automatics PlaceKeeps InitializerKeeps StmtKeeps row_type place_nodes initializer_nodes stmt_nodes places place_spots initializer_spots stmt_spots callee_of stores structure_in IsWithin AreVariables IsTypedPlace IsInitializer IsTypedStmt place_type packed
declared_51 = refl

-- _Noreturn void f(void);
declared_52 : first_fault (codes "_Noreturn void f(void);") (record { externals = (external.Declaration (record { place = 0; specs = (spec.Function 0 word.NoReturn ∷ spec.Type 10 type_word.Void ∷ []); declarators = ((record { declarator = (of_declarator.Function (of_declarator.Name (sp 15 16)) 16 (params.Void 17) []); init = None }) ∷ []) }) ∷ []) }) ≡ None
unfolding hidden hidden-the_row-BlockItem-1 hidden-the_row-CType-0 hidden-the_row-CType-1 hidden-the_row-Declarator-0 hidden-the_row-Declarator-6 hidden-the_row-Enumerator-8 hidden-the_row-Expr-0 hidden-the_row-Expr-1 hidden-the_row-Expr-2 hidden-arguments hidden-the_row-Init-0 hidden-the_row-Initializer-0 hidden-the_row-Member-7 hidden-the_row-Param-5 hidden-the_row-Place-1 hidden-the_row-Spec-3 hidden-the_row-Stmt-0 hidden-unit-0 hidden-unit-1 hidden-the_row-TypeName-4 shape-the_row-BlockItem-1 shape-the_row-CType-0 shape-the_row-CType-1 shape-the_row-Declarator-0 shape-the_row-Declarator-6 shape-the_row-Enumerator-8 shape-the_row-Expr-0 shape-the_row-Expr-1 shape-the_row-Expr-2 shape-arguments shape-the_row-Init-0 shape-the_row-Initializer-0 shape-the_row-Member-7 shape-the_row-Param-5 shape-the_row-Place-1 shape-the_row-Spec-3 shape-the_row-Stmt-0 shape-unit-0 shape-unit-1 shape-the_row-TypeName-4 indirection element member access address unevaluated size size_of_expression size_of_type plain_assignment number_update pointer_update compound_assignment assignment step_update step spine fresh callee_in callee passed call worth is_null number_constant converted cast typedef_declared function_named variable_named init_declarator declaration file_declaration block_name block_declaration defined_name definition pointer_part array_part function_part made parameter type_name member_of_type_rules_declarators with_argument function_type body_read pointer_word initial_word initializer_words initial_values scalar text_fits by_name by_expression part finished by_list count initial_size initialized number_in character_in text_in text_initially as_value operand lvalue promoted in_sign pair_of stride arithmetic_on shift_on pointer_in_common equality_on logical_on operation sign_operation negation chosen_type chosen alternatives choice name number character holds_initially string_object text_found text parenthesised and_then name_number scoped expression value size_of typedef_name tagged_structure structure_name structure tagged_enumeration enumeration_name enumeration enumerator evaluated condition expression_statement block selection_of selection while_loop do_loop for_turns for_loop returned with_items list_behind block_items statement outermost_effects with_effects typed parts_of exceeded outcome likeness_of each_likeness signature_likeness_of conversion union conflict effects_of merged added shared points_to target_effects without_outer_effects same without_effects words_of opening_of automatics PlaceKeeps InitializerKeeps StmtKeeps row_type place_nodes initializer_nodes stmt_nodes places place_spots initializer_spots stmt_spots callee_of stores structure_in IsWithin AreVariables IsTypedPlace IsInitializer IsTypedStmt place_type packed
declared_52 = refl

-- void (*«here» p)(void) __attribute__((noreturn));
declared_53 : first_fault (codes "void (*p)(void) __attribute__((noreturn));") (record { externals = (external.Declaration (record { place = 0; specs = (spec.Type 0 type_word.Void ∷ []); declarators = ((record { declarator = (of_declarator.Function (of_declarator.Parenthesised 5 (of_declarator.Pointer 6 [] (of_declarator.Name (sp 7 8)))) 9 (params.Void 10) ((record { place = 16; spelling = spelling.Gnu; words = ((record { place = 31; effect = effect.NoReturn }) ∷ []) }) ∷ [])); init = None }) ∷ []) }) ∷ []) }) ≡ Some (3, 7)
unfolding hidden hidden-the_row-BlockItem-1 hidden-the_row-CType-0 hidden-the_row-CType-1 hidden-the_row-Declarator-0 hidden-the_row-Declarator-6 hidden-the_row-Enumerator-8 hidden-the_row-Expr-0 hidden-the_row-Expr-1 hidden-the_row-Expr-2 hidden-arguments hidden-the_row-Init-0 hidden-the_row-Initializer-0 hidden-the_row-Member-7 hidden-the_row-Param-5 hidden-the_row-Place-1 hidden-the_row-Spec-3 hidden-the_row-Stmt-0 hidden-unit-0 hidden-unit-1 hidden-the_row-TypeName-4 shape-the_row-BlockItem-1 shape-the_row-CType-0 shape-the_row-CType-1 shape-the_row-Declarator-0 shape-the_row-Declarator-6 shape-the_row-Enumerator-8 shape-the_row-Expr-0 shape-the_row-Expr-1 shape-the_row-Expr-2 shape-arguments shape-the_row-Init-0 shape-the_row-Initializer-0 shape-the_row-Member-7 shape-the_row-Param-5 shape-the_row-Place-1 shape-the_row-Spec-3 shape-the_row-Stmt-0 shape-unit-0 shape-unit-1 shape-the_row-TypeName-4 indirection element member access address unevaluated size size_of_expression size_of_type plain_assignment number_update pointer_update compound_assignment assignment step_update step spine fresh callee_in callee passed call worth is_null number_constant converted cast typedef_declared function_named variable_named init_declarator declaration file_declaration block_name block_declaration defined_name definition pointer_part array_part function_part made parameter type_name member_of_type_rules_declarators with_argument function_type body_read pointer_word initial_word initializer_words initial_values scalar text_fits by_name by_expression part finished by_list count initial_size initialized number_in character_in text_in text_initially as_value operand lvalue promoted in_sign pair_of stride arithmetic_on shift_on pointer_in_common equality_on logical_on operation sign_operation negation chosen_type chosen alternatives choice name number character holds_initially string_object text_found text parenthesised and_then name_number scoped expression value size_of typedef_name tagged_structure structure_name structure tagged_enumeration enumeration_name enumeration enumerator evaluated condition expression_statement block selection_of selection while_loop do_loop for_turns for_loop returned with_items list_behind block_items statement outermost_effects with_effects typed parts_of exceeded outcome likeness_of each_likeness signature_likeness_of conversion union conflict effects_of merged added shared points_to target_effects without_outer_effects same without_effects words_of opening_of automatics PlaceKeeps InitializerKeeps StmtKeeps row_type place_nodes initializer_nodes stmt_nodes places place_spots initializer_spots stmt_spots callee_of stores structure_in IsWithin AreVariables IsTypedPlace IsInitializer IsTypedStmt place_type packed
declared_53 = refl

-- typedef void «here» F(void) __attribute__((noreturn));
declared_54 : first_fault (codes "typedef void F(void) __attribute__((noreturn));") (record { externals = (external.Declaration (record { place = 0; specs = (spec.Storage 0 storage.Typedef ∷ spec.Type 8 type_word.Void ∷ []); declarators = ((record { declarator = (of_declarator.Function (of_declarator.Name (sp 13 14)) 14 (params.Void 15) ((record { place = 21; spelling = spelling.Gnu; words = ((record { place = 36; effect = effect.NoReturn }) ∷ []) }) ∷ [])); init = None }) ∷ []) }) ∷ []) }) ≡ Some (3, 13)
unfolding hidden hidden-the_row-BlockItem-1 hidden-the_row-CType-0 hidden-the_row-CType-1 hidden-the_row-Declarator-0 hidden-the_row-Declarator-6 hidden-the_row-Enumerator-8 hidden-the_row-Expr-0 hidden-the_row-Expr-1 hidden-the_row-Expr-2 hidden-arguments hidden-the_row-Init-0 hidden-the_row-Initializer-0 hidden-the_row-Member-7 hidden-the_row-Param-5 hidden-the_row-Place-1 hidden-the_row-Spec-3 hidden-the_row-Stmt-0 hidden-unit-0 hidden-unit-1 hidden-the_row-TypeName-4 shape-the_row-BlockItem-1 shape-the_row-CType-0 shape-the_row-CType-1 shape-the_row-Declarator-0 shape-the_row-Declarator-6 shape-the_row-Enumerator-8 shape-the_row-Expr-0 shape-the_row-Expr-1 shape-the_row-Expr-2 shape-arguments shape-the_row-Init-0 shape-the_row-Initializer-0 shape-the_row-Member-7 shape-the_row-Param-5 shape-the_row-Place-1 shape-the_row-Spec-3 shape-the_row-Stmt-0 shape-unit-0 shape-unit-1 shape-the_row-TypeName-4 indirection element member access address unevaluated size size_of_expression size_of_type plain_assignment number_update pointer_update compound_assignment assignment step_update step spine fresh callee_in callee passed call worth is_null number_constant converted cast typedef_declared function_named variable_named init_declarator declaration file_declaration block_name block_declaration defined_name definition pointer_part array_part function_part made parameter type_name member_of_type_rules_declarators with_argument function_type body_read pointer_word initial_word initializer_words initial_values scalar text_fits by_name by_expression part finished by_list count initial_size initialized number_in character_in text_in text_initially as_value operand lvalue promoted in_sign pair_of stride arithmetic_on shift_on pointer_in_common equality_on logical_on operation sign_operation negation chosen_type chosen alternatives choice name number character holds_initially string_object text_found text parenthesised and_then name_number scoped expression value size_of typedef_name tagged_structure structure_name structure tagged_enumeration enumeration_name enumeration enumerator evaluated condition expression_statement block selection_of selection while_loop do_loop for_turns for_loop returned with_items list_behind block_items statement outermost_effects with_effects typed parts_of exceeded outcome likeness_of each_likeness signature_likeness_of conversion union conflict effects_of merged added shared points_to target_effects without_outer_effects same without_effects words_of opening_of automatics PlaceKeeps InitializerKeeps StmtKeeps row_type place_nodes initializer_nodes stmt_nodes places place_spots initializer_spots stmt_spots callee_of stores structure_in IsWithin AreVariables IsTypedPlace IsInitializer IsTypedStmt place_type packed
declared_54 = refl

-- void «here» f(void) [[clang::nonblocking]] [[clang::blocking]];
declared_55 : first_fault (codes "void f(void) [[clang::nonblocking]] [[clang::blocking]];") (record { externals = (external.Declaration (record { place = 0; specs = (spec.Type 0 type_word.Void ∷ []); declarators = ((record { declarator = (of_declarator.Function (of_declarator.Name (sp 5 6)) 6 (params.Void 7) ((record { place = 13; spelling = spelling.Brackets; words = ((record { place = 22; effect = (effect.NonBlocking None) }) ∷ []) }) ∷ (record { place = 36; spelling = spelling.Brackets; words = ((record { place = 45; effect = effect.Blocking }) ∷ []) }) ∷ [])); init = None }) ∷ []) }) ∷ []) }) ≡ Some (4, 5)
unfolding hidden hidden-the_row-BlockItem-1 hidden-the_row-CType-0 hidden-the_row-CType-1 hidden-the_row-Declarator-0 hidden-the_row-Declarator-6 hidden-the_row-Enumerator-8 hidden-the_row-Expr-0 hidden-the_row-Expr-1 hidden-the_row-Expr-2 hidden-arguments hidden-the_row-Init-0 hidden-the_row-Initializer-0 hidden-the_row-Member-7 hidden-the_row-Param-5 hidden-the_row-Place-1 hidden-the_row-Spec-3 hidden-the_row-Stmt-0 hidden-unit-0 hidden-unit-1 hidden-the_row-TypeName-4 shape-the_row-BlockItem-1 shape-the_row-CType-0 shape-the_row-CType-1 shape-the_row-Declarator-0 shape-the_row-Declarator-6 shape-the_row-Enumerator-8 shape-the_row-Expr-0 shape-the_row-Expr-1 shape-the_row-Expr-2 shape-arguments shape-the_row-Init-0 shape-the_row-Initializer-0 shape-the_row-Member-7 shape-the_row-Param-5 shape-the_row-Place-1 shape-the_row-Spec-3 shape-the_row-Stmt-0 shape-unit-0 shape-unit-1 shape-the_row-TypeName-4 indirection element member access address unevaluated size size_of_expression size_of_type plain_assignment number_update pointer_update compound_assignment assignment step_update step spine fresh callee_in callee passed call worth is_null number_constant converted cast typedef_declared function_named variable_named init_declarator declaration file_declaration block_name block_declaration defined_name definition pointer_part array_part function_part made parameter type_name member_of_type_rules_declarators with_argument function_type body_read pointer_word initial_word initializer_words initial_values scalar text_fits by_name by_expression part finished by_list count initial_size initialized number_in character_in text_in text_initially as_value operand lvalue promoted in_sign pair_of stride arithmetic_on shift_on pointer_in_common equality_on logical_on operation sign_operation negation chosen_type chosen alternatives choice name number character holds_initially string_object text_found text parenthesised and_then name_number scoped expression value size_of typedef_name tagged_structure structure_name structure tagged_enumeration enumeration_name enumeration enumerator evaluated condition expression_statement block selection_of selection while_loop do_loop for_turns for_loop returned with_items list_behind block_items statement outermost_effects with_effects typed parts_of exceeded outcome likeness_of each_likeness signature_likeness_of conversion union conflict effects_of merged added shared points_to target_effects without_outer_effects same without_effects words_of opening_of automatics PlaceKeeps InitializerKeeps StmtKeeps row_type place_nodes initializer_nodes stmt_nodes places place_spots initializer_spots stmt_spots callee_of stores structure_in IsWithin AreVariables IsTypedPlace IsInitializer IsTypedStmt place_type packed
declared_55 = refl

-- void f(void) [[clang::nonblocking]]; void «here» f(void) [[clang::blocking]];
declared_56 : first_fault (codes "void f(void) [[clang::nonblocking]]; void f(void) [[clang::blocking]];") (record { externals = (external.Declaration (record { place = 0; specs = (spec.Type 0 type_word.Void ∷ []); declarators = ((record { declarator = (of_declarator.Function (of_declarator.Name (sp 5 6)) 6 (params.Void 7) ((record { place = 13; spelling = spelling.Brackets; words = ((record { place = 22; effect = (effect.NonBlocking None) }) ∷ []) }) ∷ [])); init = None }) ∷ []) }) ∷ external.Declaration (record { place = 37; specs = (spec.Type 37 type_word.Void ∷ []); declarators = ((record { declarator = (of_declarator.Function (of_declarator.Name (sp 42 43)) 43 (params.Void 44) ((record { place = 50; spelling = spelling.Brackets; words = ((record { place = 59; effect = effect.Blocking }) ∷ []) }) ∷ [])); init = None }) ∷ []) }) ∷ []) }) ≡ Some (4, 42)
unfolding hidden hidden-the_row-BlockItem-1 hidden-the_row-CType-0 hidden-the_row-CType-1 hidden-the_row-Declarator-0 hidden-the_row-Declarator-6 hidden-the_row-Enumerator-8 hidden-the_row-Expr-0 hidden-the_row-Expr-1 hidden-the_row-Expr-2 hidden-arguments hidden-the_row-Init-0 hidden-the_row-Initializer-0 hidden-the_row-Member-7 hidden-the_row-Param-5 hidden-the_row-Place-1 hidden-the_row-Spec-3 hidden-the_row-Stmt-0 hidden-unit-0 hidden-unit-1 hidden-the_row-TypeName-4 shape-the_row-BlockItem-1 shape-the_row-CType-0 shape-the_row-CType-1 shape-the_row-Declarator-0 shape-the_row-Declarator-6 shape-the_row-Enumerator-8 shape-the_row-Expr-0 shape-the_row-Expr-1 shape-the_row-Expr-2 shape-arguments shape-the_row-Init-0 shape-the_row-Initializer-0 shape-the_row-Member-7 shape-the_row-Param-5 shape-the_row-Place-1 shape-the_row-Spec-3 shape-the_row-Stmt-0 shape-unit-0 shape-unit-1 shape-the_row-TypeName-4 indirection element member access address unevaluated size size_of_expression size_of_type plain_assignment number_update pointer_update compound_assignment assignment step_update step spine fresh callee_in callee passed call worth is_null number_constant converted cast typedef_declared function_named variable_named init_declarator declaration file_declaration block_name block_declaration defined_name definition pointer_part array_part function_part made parameter type_name member_of_type_rules_declarators with_argument function_type body_read pointer_word initial_word initializer_words initial_values scalar text_fits by_name by_expression part finished by_list count initial_size initialized number_in character_in text_in text_initially as_value operand lvalue promoted in_sign pair_of stride arithmetic_on shift_on pointer_in_common equality_on logical_on operation sign_operation negation chosen_type chosen alternatives choice name number character holds_initially string_object text_found text parenthesised and_then name_number scoped expression value size_of typedef_name tagged_structure structure_name structure tagged_enumeration enumeration_name enumeration enumerator evaluated condition expression_statement block selection_of selection while_loop do_loop for_turns for_loop returned with_items list_behind block_items statement outermost_effects with_effects typed parts_of exceeded outcome likeness_of each_likeness signature_likeness_of conversion union conflict effects_of merged added shared points_to target_effects without_outer_effects same without_effects words_of opening_of automatics PlaceKeeps InitializerKeeps StmtKeeps row_type place_nodes initializer_nodes stmt_nodes places place_spots initializer_spots stmt_spots callee_of stores structure_in IsWithin AreVariables IsTypedPlace IsInitializer IsTypedStmt place_type packed
declared_56 = refl

-- void f(void) [[clang::nonallocating, clang::blocking]];
declared_57 : first_fault (codes "void f(void) [[clang::nonallocating, clang::blocking]];") (record { externals = (external.Declaration (record { place = 0; specs = (spec.Type 0 type_word.Void ∷ []); declarators = ((record { declarator = (of_declarator.Function (of_declarator.Name (sp 5 6)) 6 (params.Void 7) ((record { place = 13; spelling = spelling.Brackets; words = ((record { place = 22; effect = (effect.NonAllocating None) }) ∷ (record { place = 44; effect = effect.Blocking }) ∷ []) }) ∷ [])); init = None }) ∷ []) }) ∷ []) }) ≡ None
unfolding hidden hidden-the_row-BlockItem-1 hidden-the_row-CType-0 hidden-the_row-CType-1 hidden-the_row-Declarator-0 hidden-the_row-Declarator-6 hidden-the_row-Enumerator-8 hidden-the_row-Expr-0 hidden-the_row-Expr-1 hidden-the_row-Expr-2 hidden-arguments hidden-the_row-Init-0 hidden-the_row-Initializer-0 hidden-the_row-Member-7 hidden-the_row-Param-5 hidden-the_row-Place-1 hidden-the_row-Spec-3 hidden-the_row-Stmt-0 hidden-unit-0 hidden-unit-1 hidden-the_row-TypeName-4 shape-the_row-BlockItem-1 shape-the_row-CType-0 shape-the_row-CType-1 shape-the_row-Declarator-0 shape-the_row-Declarator-6 shape-the_row-Enumerator-8 shape-the_row-Expr-0 shape-the_row-Expr-1 shape-the_row-Expr-2 shape-arguments shape-the_row-Init-0 shape-the_row-Initializer-0 shape-the_row-Member-7 shape-the_row-Param-5 shape-the_row-Place-1 shape-the_row-Spec-3 shape-the_row-Stmt-0 shape-unit-0 shape-unit-1 shape-the_row-TypeName-4 indirection element member access address unevaluated size size_of_expression size_of_type plain_assignment number_update pointer_update compound_assignment assignment step_update step spine fresh callee_in callee passed call worth is_null number_constant converted cast typedef_declared function_named variable_named init_declarator declaration file_declaration block_name block_declaration defined_name definition pointer_part array_part function_part made parameter type_name member_of_type_rules_declarators with_argument function_type body_read pointer_word initial_word initializer_words initial_values scalar text_fits by_name by_expression part finished by_list count initial_size initialized number_in character_in text_in text_initially as_value operand lvalue promoted in_sign pair_of stride arithmetic_on shift_on pointer_in_common equality_on logical_on operation sign_operation negation chosen_type chosen alternatives choice name number character holds_initially string_object text_found text parenthesised and_then name_number scoped expression value size_of typedef_name tagged_structure structure_name structure tagged_enumeration enumeration_name enumeration enumerator evaluated condition expression_statement block selection_of selection while_loop do_loop for_turns for_loop returned with_items list_behind block_items statement outermost_effects with_effects typed parts_of exceeded outcome likeness_of each_likeness signature_likeness_of conversion union conflict effects_of merged added shared points_to target_effects without_outer_effects same without_effects words_of opening_of automatics PlaceKeeps InitializerKeeps StmtKeeps row_type place_nodes initializer_nodes stmt_nodes places place_spots initializer_spots stmt_spots callee_of stores structure_in IsWithin AreVariables IsTypedPlace IsInitializer IsTypedStmt place_type packed
declared_57 = refl

-- void «here» f(void) [[clang::nonallocating, clang::allocating]];
declared_58 : first_fault (codes "void f(void) [[clang::nonallocating, clang::allocating]];") (record { externals = (external.Declaration (record { place = 0; specs = (spec.Type 0 type_word.Void ∷ []); declarators = ((record { declarator = (of_declarator.Function (of_declarator.Name (sp 5 6)) 6 (params.Void 7) ((record { place = 13; spelling = spelling.Brackets; words = ((record { place = 22; effect = (effect.NonAllocating None) }) ∷ (record { place = 44; effect = effect.Allocating }) ∷ []) }) ∷ [])); init = None }) ∷ []) }) ∷ []) }) ≡ Some (4, 5)
unfolding hidden hidden-the_row-BlockItem-1 hidden-the_row-CType-0 hidden-the_row-CType-1 hidden-the_row-Declarator-0 hidden-the_row-Declarator-6 hidden-the_row-Enumerator-8 hidden-the_row-Expr-0 hidden-the_row-Expr-1 hidden-the_row-Expr-2 hidden-arguments hidden-the_row-Init-0 hidden-the_row-Initializer-0 hidden-the_row-Member-7 hidden-the_row-Param-5 hidden-the_row-Place-1 hidden-the_row-Spec-3 hidden-the_row-Stmt-0 hidden-unit-0 hidden-unit-1 hidden-the_row-TypeName-4 shape-the_row-BlockItem-1 shape-the_row-CType-0 shape-the_row-CType-1 shape-the_row-Declarator-0 shape-the_row-Declarator-6 shape-the_row-Enumerator-8 shape-the_row-Expr-0 shape-the_row-Expr-1 shape-the_row-Expr-2 shape-arguments shape-the_row-Init-0 shape-the_row-Initializer-0 shape-the_row-Member-7 shape-the_row-Param-5 shape-the_row-Place-1 shape-the_row-Spec-3 shape-the_row-Stmt-0 shape-unit-0 shape-unit-1 shape-the_row-TypeName-4 indirection element member access address unevaluated size size_of_expression size_of_type plain_assignment number_update pointer_update compound_assignment assignment step_update step spine fresh callee_in callee passed call worth is_null number_constant converted cast typedef_declared function_named variable_named init_declarator declaration file_declaration block_name block_declaration defined_name definition pointer_part array_part function_part made parameter type_name member_of_type_rules_declarators with_argument function_type body_read pointer_word initial_word initializer_words initial_values scalar text_fits by_name by_expression part finished by_list count initial_size initialized number_in character_in text_in text_initially as_value operand lvalue promoted in_sign pair_of stride arithmetic_on shift_on pointer_in_common equality_on logical_on operation sign_operation negation chosen_type chosen alternatives choice name number character holds_initially string_object text_found text parenthesised and_then name_number scoped expression value size_of typedef_name tagged_structure structure_name structure tagged_enumeration enumeration_name enumeration enumerator evaluated condition expression_statement block selection_of selection while_loop do_loop for_turns for_loop returned with_items list_behind block_items statement outermost_effects with_effects typed parts_of exceeded outcome likeness_of each_likeness signature_likeness_of conversion union conflict effects_of merged added shared points_to target_effects without_outer_effects same without_effects words_of opening_of automatics PlaceKeeps InitializerKeeps StmtKeeps row_type place_nodes initializer_nodes stmt_nodes places place_spots initializer_spots stmt_spots callee_of stores structure_in IsWithin AreVariables IsTypedPlace IsInitializer IsTypedStmt place_type packed
declared_58 = refl

-- void «here» f(void) [[clang::nonblocking, clang::nonblocking(false)]];
declared_59 : first_fault (codes "void f(void) [[clang::nonblocking, clang::nonblocking(false)]];") (record { externals = (external.Declaration (record { place = 0; specs = (spec.Type 0 type_word.Void ∷ []); declarators = ((record { declarator = (of_declarator.Function (of_declarator.Name (sp 5 6)) 6 (params.Void 7) ((record { place = 13; spelling = spelling.Brackets; words = ((record { place = 22; effect = (effect.NonBlocking None) }) ∷ (record { place = 42; effect = (effect.NonBlocking (Some false)) }) ∷ []) }) ∷ [])); init = None }) ∷ []) }) ∷ []) }) ≡ Some (4, 5)
unfolding hidden hidden-the_row-BlockItem-1 hidden-the_row-CType-0 hidden-the_row-CType-1 hidden-the_row-Declarator-0 hidden-the_row-Declarator-6 hidden-the_row-Enumerator-8 hidden-the_row-Expr-0 hidden-the_row-Expr-1 hidden-the_row-Expr-2 hidden-arguments hidden-the_row-Init-0 hidden-the_row-Initializer-0 hidden-the_row-Member-7 hidden-the_row-Param-5 hidden-the_row-Place-1 hidden-the_row-Spec-3 hidden-the_row-Stmt-0 hidden-unit-0 hidden-unit-1 hidden-the_row-TypeName-4 shape-the_row-BlockItem-1 shape-the_row-CType-0 shape-the_row-CType-1 shape-the_row-Declarator-0 shape-the_row-Declarator-6 shape-the_row-Enumerator-8 shape-the_row-Expr-0 shape-the_row-Expr-1 shape-the_row-Expr-2 shape-arguments shape-the_row-Init-0 shape-the_row-Initializer-0 shape-the_row-Member-7 shape-the_row-Param-5 shape-the_row-Place-1 shape-the_row-Spec-3 shape-the_row-Stmt-0 shape-unit-0 shape-unit-1 shape-the_row-TypeName-4 indirection element member access address unevaluated size size_of_expression size_of_type plain_assignment number_update pointer_update compound_assignment assignment step_update step spine fresh callee_in callee passed call worth is_null number_constant converted cast typedef_declared function_named variable_named init_declarator declaration file_declaration block_name block_declaration defined_name definition pointer_part array_part function_part made parameter type_name member_of_type_rules_declarators with_argument function_type body_read pointer_word initial_word initializer_words initial_values scalar text_fits by_name by_expression part finished by_list count initial_size initialized number_in character_in text_in text_initially as_value operand lvalue promoted in_sign pair_of stride arithmetic_on shift_on pointer_in_common equality_on logical_on operation sign_operation negation chosen_type chosen alternatives choice name number character holds_initially string_object text_found text parenthesised and_then name_number scoped expression value size_of typedef_name tagged_structure structure_name structure tagged_enumeration enumeration_name enumeration enumerator evaluated condition expression_statement block selection_of selection while_loop do_loop for_turns for_loop returned with_items list_behind block_items statement outermost_effects with_effects typed parts_of exceeded outcome likeness_of each_likeness signature_likeness_of conversion union conflict effects_of merged added shared points_to target_effects without_outer_effects same without_effects words_of opening_of automatics PlaceKeeps InitializerKeeps StmtKeeps row_type place_nodes initializer_nodes stmt_nodes places place_spots initializer_spots stmt_spots callee_of stores structure_in IsWithin AreVariables IsTypedPlace IsInitializer IsTypedStmt place_type packed
declared_59 = refl

-- typedef void F(void) [[clang::blocking]]; [[clang::nonblocking]] F «here» f;
declared_60 : first_fault (codes "typedef void F(void) [[clang::blocking]]; [[clang::nonblocking]] F f;") (record { externals = (external.Declaration (record { place = 0; specs = (spec.Storage 0 storage.Typedef ∷ spec.Type 8 type_word.Void ∷ []); declarators = ((record { declarator = (of_declarator.Function (of_declarator.Name (sp 13 14)) 14 (params.Void 15) ((record { place = 21; spelling = spelling.Brackets; words = ((record { place = 30; effect = effect.Blocking }) ∷ []) }) ∷ [])); init = None }) ∷ []) }) ∷ external.Declaration (record { place = 42; specs = (spec.Attribute (record { place = 42; spelling = spelling.Brackets; words = ((record { place = 51; effect = (effect.NonBlocking None) }) ∷ []) }) ∷ spec.TypedefName (sp 65 66) ∷ []); declarators = ((record { declarator = (of_declarator.Name (sp 67 68)); init = None }) ∷ []) }) ∷ []) }) ≡ Some (4, 67)
unfolding hidden hidden-the_row-BlockItem-1 hidden-the_row-CType-0 hidden-the_row-CType-1 hidden-the_row-Declarator-0 hidden-the_row-Declarator-6 hidden-the_row-Enumerator-8 hidden-the_row-Expr-0 hidden-the_row-Expr-1 hidden-the_row-Expr-2 hidden-arguments hidden-the_row-Init-0 hidden-the_row-Initializer-0 hidden-the_row-Member-7 hidden-the_row-Param-5 hidden-the_row-Place-1 hidden-the_row-Spec-3 hidden-the_row-Stmt-0 hidden-unit-0 hidden-unit-1 hidden-the_row-TypeName-4 shape-the_row-BlockItem-1 shape-the_row-CType-0 shape-the_row-CType-1 shape-the_row-Declarator-0 shape-the_row-Declarator-6 shape-the_row-Enumerator-8 shape-the_row-Expr-0 shape-the_row-Expr-1 shape-the_row-Expr-2 shape-arguments shape-the_row-Init-0 shape-the_row-Initializer-0 shape-the_row-Member-7 shape-the_row-Param-5 shape-the_row-Place-1 shape-the_row-Spec-3 shape-the_row-Stmt-0 shape-unit-0 shape-unit-1 shape-the_row-TypeName-4 indirection element member access address unevaluated size size_of_expression size_of_type plain_assignment number_update pointer_update compound_assignment assignment step_update step spine fresh callee_in callee passed call worth is_null number_constant converted cast typedef_declared function_named variable_named init_declarator declaration file_declaration block_name block_declaration defined_name definition pointer_part array_part function_part made parameter type_name member_of_type_rules_declarators with_argument function_type body_read pointer_word initial_word initializer_words initial_values scalar text_fits by_name by_expression part finished by_list count initial_size initialized number_in character_in text_in text_initially as_value operand lvalue promoted in_sign pair_of stride arithmetic_on shift_on pointer_in_common equality_on logical_on operation sign_operation negation chosen_type chosen alternatives choice name number character holds_initially string_object text_found text parenthesised and_then name_number scoped expression value size_of typedef_name tagged_structure structure_name structure tagged_enumeration enumeration_name enumeration enumerator evaluated condition expression_statement block selection_of selection while_loop do_loop for_turns for_loop returned with_items list_behind block_items statement outermost_effects with_effects typed parts_of exceeded outcome likeness_of each_likeness signature_likeness_of conversion union conflict effects_of merged added shared points_to target_effects without_outer_effects same without_effects words_of opening_of automatics PlaceKeeps InitializerKeeps StmtKeeps row_type place_nodes initializer_nodes stmt_nodes places place_spots initializer_spots stmt_spots callee_of stores structure_in IsWithin AreVariables IsTypedPlace IsInitializer IsTypedStmt place_type packed
declared_60 = refl

-- _Thread_local int x; int «here» x;
declared_61 : first_fault (codes "_Thread_local int x; int x;") (record { externals = (external.Declaration (record { place = 0; specs = (spec.Storage 0 storage.ThreadLocal ∷ spec.Type 14 type_word.Int ∷ []); declarators = ((record { declarator = (of_declarator.Name (sp 18 19)); init = None }) ∷ []) }) ∷ external.Declaration (record { place = 21; specs = (spec.Type 21 type_word.Int ∷ []); declarators = ((record { declarator = (of_declarator.Name (sp 25 26)); init = None }) ∷ []) }) ∷ []) }) ≡ Some (3, 25)
unfolding hidden hidden-the_row-BlockItem-1 hidden-the_row-CType-0 hidden-the_row-CType-1 hidden-the_row-Declarator-0 hidden-the_row-Declarator-6 hidden-the_row-Enumerator-8 hidden-the_row-Expr-0 hidden-the_row-Expr-1 hidden-the_row-Expr-2 hidden-arguments hidden-the_row-Init-0 hidden-the_row-Initializer-0 hidden-the_row-Member-7 hidden-the_row-Param-5 hidden-the_row-Place-1 hidden-the_row-Spec-3 hidden-the_row-Stmt-0 hidden-unit-0 hidden-unit-1 hidden-the_row-TypeName-4 shape-the_row-BlockItem-1 shape-the_row-CType-0 shape-the_row-CType-1 shape-the_row-Declarator-0 shape-the_row-Declarator-6 shape-the_row-Enumerator-8 shape-the_row-Expr-0 shape-the_row-Expr-1 shape-the_row-Expr-2 shape-arguments shape-the_row-Init-0 shape-the_row-Initializer-0 shape-the_row-Member-7 shape-the_row-Param-5 shape-the_row-Place-1 shape-the_row-Spec-3 shape-the_row-Stmt-0 shape-unit-0 shape-unit-1 shape-the_row-TypeName-4 indirection element member access address unevaluated size size_of_expression size_of_type plain_assignment number_update pointer_update compound_assignment assignment step_update step spine fresh callee_in callee passed call worth is_null number_constant converted cast typedef_declared function_named variable_named init_declarator declaration file_declaration block_name block_declaration defined_name definition pointer_part array_part function_part made parameter type_name member_of_type_rules_declarators with_argument function_type body_read pointer_word initial_word initializer_words initial_values scalar text_fits by_name by_expression part finished by_list count initial_size initialized number_in character_in text_in text_initially as_value operand lvalue promoted in_sign pair_of stride arithmetic_on shift_on pointer_in_common equality_on logical_on operation sign_operation negation chosen_type chosen alternatives choice name number character holds_initially string_object text_found text parenthesised and_then name_number scoped expression value size_of typedef_name tagged_structure structure_name structure tagged_enumeration enumeration_name enumeration enumerator evaluated condition expression_statement block selection_of selection while_loop do_loop for_turns for_loop returned with_items list_behind block_items statement outermost_effects with_effects typed parts_of exceeded outcome likeness_of each_likeness signature_likeness_of conversion union conflict effects_of merged added shared points_to target_effects without_outer_effects same without_effects words_of opening_of automatics PlaceKeeps InitializerKeeps StmtKeeps row_type place_nodes initializer_nodes stmt_nodes places place_spots initializer_spots stmt_spots callee_of stores structure_in IsWithin AreVariables IsTypedPlace IsInitializer IsTypedStmt place_type packed
declared_61 = refl

-- _Thread_local void «here» f(void);
declared_62 : first_fault (codes "_Thread_local void f(void);") (record { externals = (external.Declaration (record { place = 0; specs = (spec.Storage 0 storage.ThreadLocal ∷ spec.Type 14 type_word.Void ∷ []); declarators = ((record { declarator = (of_declarator.Function (of_declarator.Name (sp 19 20)) 20 (params.Void 21) []); init = None }) ∷ []) }) ∷ []) }) ≡ Some (3, 19)
unfolding hidden hidden-the_row-BlockItem-1 hidden-the_row-CType-0 hidden-the_row-CType-1 hidden-the_row-Declarator-0 hidden-the_row-Declarator-6 hidden-the_row-Enumerator-8 hidden-the_row-Expr-0 hidden-the_row-Expr-1 hidden-the_row-Expr-2 hidden-arguments hidden-the_row-Init-0 hidden-the_row-Initializer-0 hidden-the_row-Member-7 hidden-the_row-Param-5 hidden-the_row-Place-1 hidden-the_row-Spec-3 hidden-the_row-Stmt-0 hidden-unit-0 hidden-unit-1 hidden-the_row-TypeName-4 shape-the_row-BlockItem-1 shape-the_row-CType-0 shape-the_row-CType-1 shape-the_row-Declarator-0 shape-the_row-Declarator-6 shape-the_row-Enumerator-8 shape-the_row-Expr-0 shape-the_row-Expr-1 shape-the_row-Expr-2 shape-arguments shape-the_row-Init-0 shape-the_row-Initializer-0 shape-the_row-Member-7 shape-the_row-Param-5 shape-the_row-Place-1 shape-the_row-Spec-3 shape-the_row-Stmt-0 shape-unit-0 shape-unit-1 shape-the_row-TypeName-4 indirection element member access address unevaluated size size_of_expression size_of_type plain_assignment number_update pointer_update compound_assignment assignment step_update step spine fresh callee_in callee passed call worth is_null number_constant converted cast typedef_declared function_named variable_named init_declarator declaration file_declaration block_name block_declaration defined_name definition pointer_part array_part function_part made parameter type_name member_of_type_rules_declarators with_argument function_type body_read pointer_word initial_word initializer_words initial_values scalar text_fits by_name by_expression part finished by_list count initial_size initialized number_in character_in text_in text_initially as_value operand lvalue promoted in_sign pair_of stride arithmetic_on shift_on pointer_in_common equality_on logical_on operation sign_operation negation chosen_type chosen alternatives choice name number character holds_initially string_object text_found text parenthesised and_then name_number scoped expression value size_of typedef_name tagged_structure structure_name structure tagged_enumeration enumeration_name enumeration enumerator evaluated condition expression_statement block selection_of selection while_loop do_loop for_turns for_loop returned with_items list_behind block_items statement outermost_effects with_effects typed parts_of exceeded outcome likeness_of each_likeness signature_likeness_of conversion union conflict effects_of merged added shared points_to target_effects without_outer_effects same without_effects words_of opening_of automatics PlaceKeeps InitializerKeeps StmtKeeps row_type place_nodes initializer_nodes stmt_nodes places place_spots initializer_spots stmt_spots callee_of stores structure_in IsWithin AreVariables IsTypedPlace IsInitializer IsTypedStmt place_type packed
declared_62 = refl

-- typedef void F(void); F «here» f { }
declared_63 : first_fault (codes "typedef void F(void); F f { }") (record { externals = (external.Declaration (record { place = 0; specs = (spec.Storage 0 storage.Typedef ∷ spec.Type 8 type_word.Void ∷ []); declarators = ((record { declarator = (of_declarator.Function (of_declarator.Name (sp 13 14)) 14 (params.Void 15) []); init = None }) ∷ []) }) ∷ external.Function (record { place = 22; specs = (spec.TypedefName (sp 22 23) ∷ []); declarator = (of_declarator.Name (sp 24 25)); body_place = 26; body = [] }) ∷ []) }) ≡ Some (3, 24)
unfolding hidden hidden-the_row-BlockItem-1 hidden-the_row-CType-0 hidden-the_row-CType-1 hidden-the_row-Declarator-0 hidden-the_row-Declarator-6 hidden-the_row-Enumerator-8 hidden-the_row-Expr-0 hidden-the_row-Expr-1 hidden-the_row-Expr-2 hidden-arguments hidden-the_row-Init-0 hidden-the_row-Initializer-0 hidden-the_row-Member-7 hidden-the_row-Param-5 hidden-the_row-Place-1 hidden-the_row-Spec-3 hidden-the_row-Stmt-0 hidden-unit-0 hidden-unit-1 hidden-the_row-TypeName-4 shape-the_row-BlockItem-1 shape-the_row-CType-0 shape-the_row-CType-1 shape-the_row-Declarator-0 shape-the_row-Declarator-6 shape-the_row-Enumerator-8 shape-the_row-Expr-0 shape-the_row-Expr-1 shape-the_row-Expr-2 shape-arguments shape-the_row-Init-0 shape-the_row-Initializer-0 shape-the_row-Member-7 shape-the_row-Param-5 shape-the_row-Place-1 shape-the_row-Spec-3 shape-the_row-Stmt-0 shape-unit-0 shape-unit-1 shape-the_row-TypeName-4 indirection element member access address unevaluated size size_of_expression size_of_type plain_assignment number_update pointer_update compound_assignment assignment step_update step spine fresh callee_in callee passed call worth is_null number_constant converted cast typedef_declared function_named variable_named init_declarator declaration file_declaration block_name block_declaration defined_name definition pointer_part array_part function_part made parameter type_name member_of_type_rules_declarators with_argument function_type body_read pointer_word initial_word initializer_words initial_values scalar text_fits by_name by_expression part finished by_list count initial_size initialized number_in character_in text_in text_initially as_value operand lvalue promoted in_sign pair_of stride arithmetic_on shift_on pointer_in_common equality_on logical_on operation sign_operation negation chosen_type chosen alternatives choice name number character holds_initially string_object text_found text parenthesised and_then name_number scoped expression value size_of typedef_name tagged_structure structure_name structure tagged_enumeration enumeration_name enumeration enumerator evaluated condition expression_statement block selection_of selection while_loop do_loop for_turns for_loop returned with_items list_behind block_items statement outermost_effects with_effects typed parts_of exceeded outcome likeness_of each_likeness signature_likeness_of conversion union conflict effects_of merged added shared points_to target_effects without_outer_effects same without_effects words_of opening_of automatics PlaceKeeps InitializerKeeps StmtKeeps row_type place_nodes initializer_nodes stmt_nodes places place_spots initializer_spots stmt_spots callee_of stores structure_in IsWithin AreVariables IsTypedPlace IsInitializer IsTypedStmt place_type packed
declared_63 = refl

-- typedef void F(void); int f; F «here» f { }
declared_64 : first_fault (codes "typedef void F(void); int f; F f { }") (record { externals = (external.Declaration (record { place = 0; specs = (spec.Storage 0 storage.Typedef ∷ spec.Type 8 type_word.Void ∷ []); declarators = ((record { declarator = (of_declarator.Function (of_declarator.Name (sp 13 14)) 14 (params.Void 15) []); init = None }) ∷ []) }) ∷ external.Declaration (record { place = 22; specs = (spec.Type 22 type_word.Int ∷ []); declarators = ((record { declarator = (of_declarator.Name (sp 26 27)); init = None }) ∷ []) }) ∷ external.Function (record { place = 29; specs = (spec.TypedefName (sp 29 30) ∷ []); declarator = (of_declarator.Name (sp 31 32)); body_place = 33; body = [] }) ∷ []) }) ≡ Some (2, 31)
unfolding hidden hidden-the_row-BlockItem-1 hidden-the_row-CType-0 hidden-the_row-CType-1 hidden-the_row-Declarator-0 hidden-the_row-Declarator-6 hidden-the_row-Enumerator-8 hidden-the_row-Expr-0 hidden-the_row-Expr-1 hidden-the_row-Expr-2 hidden-arguments hidden-the_row-Init-0 hidden-the_row-Initializer-0 hidden-the_row-Member-7 hidden-the_row-Param-5 hidden-the_row-Place-1 hidden-the_row-Spec-3 hidden-the_row-Stmt-0 hidden-unit-0 hidden-unit-1 hidden-the_row-TypeName-4 shape-the_row-BlockItem-1 shape-the_row-CType-0 shape-the_row-CType-1 shape-the_row-Declarator-0 shape-the_row-Declarator-6 shape-the_row-Enumerator-8 shape-the_row-Expr-0 shape-the_row-Expr-1 shape-the_row-Expr-2 shape-arguments shape-the_row-Init-0 shape-the_row-Initializer-0 shape-the_row-Member-7 shape-the_row-Param-5 shape-the_row-Place-1 shape-the_row-Spec-3 shape-the_row-Stmt-0 shape-unit-0 shape-unit-1 shape-the_row-TypeName-4 indirection element member access address unevaluated size size_of_expression size_of_type plain_assignment number_update pointer_update compound_assignment assignment step_update step spine fresh callee_in callee passed call worth is_null number_constant converted cast typedef_declared function_named variable_named init_declarator declaration file_declaration block_name block_declaration defined_name definition pointer_part array_part function_part made parameter type_name member_of_type_rules_declarators with_argument function_type body_read pointer_word initial_word initializer_words initial_values scalar text_fits by_name by_expression part finished by_list count initial_size initialized number_in character_in text_in text_initially as_value operand lvalue promoted in_sign pair_of stride arithmetic_on shift_on pointer_in_common equality_on logical_on operation sign_operation negation chosen_type chosen alternatives choice name number character holds_initially string_object text_found text parenthesised and_then name_number scoped expression value size_of typedef_name tagged_structure structure_name structure tagged_enumeration enumeration_name enumeration enumerator evaluated condition expression_statement block selection_of selection while_loop do_loop for_turns for_loop returned with_items list_behind block_items statement outermost_effects with_effects typed parts_of exceeded outcome likeness_of each_likeness signature_likeness_of conversion union conflict effects_of merged added shared points_to target_effects without_outer_effects same without_effects words_of opening_of automatics PlaceKeeps InitializerKeeps StmtKeeps row_type place_nodes initializer_nodes stmt_nodes places place_spots initializer_spots stmt_spots callee_of stores structure_in IsWithin AreVariables IsTypedPlace IsInitializer IsTypedStmt place_type packed
declared_64 = refl

-- typedef void «here» f(void) { }
declared_65 : first_fault (codes "typedef void f(void) { }") (record { externals = (external.Function (record { place = 0; specs = (spec.Storage 0 storage.Typedef ∷ spec.Type 8 type_word.Void ∷ []); declarator = (of_declarator.Function (of_declarator.Name (sp 13 14)) 14 (params.Void 15) []); body_place = 21; body = [] }) ∷ []) }) ≡ Some (3, 13)
unfolding hidden hidden-the_row-BlockItem-1 hidden-the_row-CType-0 hidden-the_row-CType-1 hidden-the_row-Declarator-0 hidden-the_row-Declarator-6 hidden-the_row-Enumerator-8 hidden-the_row-Expr-0 hidden-the_row-Expr-1 hidden-the_row-Expr-2 hidden-arguments hidden-the_row-Init-0 hidden-the_row-Initializer-0 hidden-the_row-Member-7 hidden-the_row-Param-5 hidden-the_row-Place-1 hidden-the_row-Spec-3 hidden-the_row-Stmt-0 hidden-unit-0 hidden-unit-1 hidden-the_row-TypeName-4 shape-the_row-BlockItem-1 shape-the_row-CType-0 shape-the_row-CType-1 shape-the_row-Declarator-0 shape-the_row-Declarator-6 shape-the_row-Enumerator-8 shape-the_row-Expr-0 shape-the_row-Expr-1 shape-the_row-Expr-2 shape-arguments shape-the_row-Init-0 shape-the_row-Initializer-0 shape-the_row-Member-7 shape-the_row-Param-5 shape-the_row-Place-1 shape-the_row-Spec-3 shape-the_row-Stmt-0 shape-unit-0 shape-unit-1 shape-the_row-TypeName-4 indirection element member access address unevaluated size size_of_expression size_of_type plain_assignment number_update pointer_update compound_assignment assignment step_update step spine fresh callee_in callee passed call worth is_null number_constant converted cast typedef_declared function_named variable_named init_declarator declaration file_declaration block_name block_declaration defined_name definition pointer_part array_part function_part made parameter type_name member_of_type_rules_declarators with_argument function_type body_read pointer_word initial_word initializer_words initial_values scalar text_fits by_name by_expression part finished by_list count initial_size initialized number_in character_in text_in text_initially as_value operand lvalue promoted in_sign pair_of stride arithmetic_on shift_on pointer_in_common equality_on logical_on operation sign_operation negation chosen_type chosen alternatives choice name number character holds_initially string_object text_found text parenthesised and_then name_number scoped expression value size_of typedef_name tagged_structure structure_name structure tagged_enumeration enumeration_name enumeration enumerator evaluated condition expression_statement block selection_of selection while_loop do_loop for_turns for_loop returned with_items list_behind block_items statement outermost_effects with_effects typed parts_of exceeded outcome likeness_of each_likeness signature_likeness_of conversion union conflict effects_of merged added shared points_to target_effects without_outer_effects same without_effects words_of opening_of automatics PlaceKeeps InitializerKeeps StmtKeeps row_type place_nodes initializer_nodes stmt_nodes places place_spots initializer_spots stmt_spots callee_of stores structure_in IsWithin AreVariables IsTypedPlace IsInitializer IsTypedStmt place_type packed
declared_65 = refl

-- void f(int) { }
declared_66 : first_fault (codes "void f(int) { }") (record { externals = (external.Function (record { place = 0; specs = (spec.Type 0 type_word.Void ∷ []); declarator = (of_declarator.Function (of_declarator.Name (sp 5 6)) 6 (params.List ((record { place = 7; specs = (spec.Type 7 type_word.Int ∷ []); declarator = of_declarator.Absent }) ∷ [])) []); body_place = 12; body = [] }) ∷ []) }) ≡ None
unfolding hidden hidden-the_row-BlockItem-1 hidden-the_row-CType-0 hidden-the_row-CType-1 hidden-the_row-Declarator-0 hidden-the_row-Declarator-6 hidden-the_row-Enumerator-8 hidden-the_row-Expr-0 hidden-the_row-Expr-1 hidden-the_row-Expr-2 hidden-arguments hidden-the_row-Init-0 hidden-the_row-Initializer-0 hidden-the_row-Member-7 hidden-the_row-Param-5 hidden-the_row-Place-1 hidden-the_row-Spec-3 hidden-the_row-Stmt-0 hidden-unit-0 hidden-unit-1 hidden-the_row-TypeName-4 shape-the_row-BlockItem-1 shape-the_row-CType-0 shape-the_row-CType-1 shape-the_row-Declarator-0 shape-the_row-Declarator-6 shape-the_row-Enumerator-8 shape-the_row-Expr-0 shape-the_row-Expr-1 shape-the_row-Expr-2 shape-arguments shape-the_row-Init-0 shape-the_row-Initializer-0 shape-the_row-Member-7 shape-the_row-Param-5 shape-the_row-Place-1 shape-the_row-Spec-3 shape-the_row-Stmt-0 shape-unit-0 shape-unit-1 shape-the_row-TypeName-4 indirection element member access address unevaluated size size_of_expression size_of_type plain_assignment number_update pointer_update compound_assignment assignment step_update step spine fresh callee_in callee passed call worth is_null number_constant converted cast typedef_declared function_named variable_named init_declarator declaration file_declaration block_name block_declaration defined_name definition pointer_part array_part function_part made parameter type_name member_of_type_rules_declarators with_argument function_type body_read pointer_word initial_word initializer_words initial_values scalar text_fits by_name by_expression part finished by_list count initial_size initialized number_in character_in text_in text_initially as_value operand lvalue promoted in_sign pair_of stride arithmetic_on shift_on pointer_in_common equality_on logical_on operation sign_operation negation chosen_type chosen alternatives choice name number character holds_initially string_object text_found text parenthesised and_then name_number scoped expression value size_of typedef_name tagged_structure structure_name structure tagged_enumeration enumeration_name enumeration enumerator evaluated condition expression_statement block selection_of selection while_loop do_loop for_turns for_loop returned with_items list_behind block_items statement outermost_effects with_effects typed parts_of exceeded outcome likeness_of each_likeness signature_likeness_of conversion union conflict effects_of merged added shared points_to target_effects without_outer_effects same without_effects words_of opening_of automatics PlaceKeeps InitializerKeeps StmtKeeps row_type place_nodes initializer_nodes stmt_nodes places place_spots initializer_spots stmt_spots callee_of stores structure_in IsWithin AreVariables IsTypedPlace IsInitializer IsTypedStmt place_type packed
declared_66 = refl

-- void f(int (*g)(void) [[clang::nonblocking]]); void «here» f(int (*g)(void));
declared_67 : first_fault (codes "void f(int (*g)(void) [[clang::nonblocking]]); void f(int (*g)(void));") (record { externals = (external.Declaration (record { place = 0; specs = (spec.Type 0 type_word.Void ∷ []); declarators = ((record { declarator = (of_declarator.Function (of_declarator.Name (sp 5 6)) 6 (params.List ((record { place = 7; specs = (spec.Type 7 type_word.Int ∷ []); declarator = (of_declarator.Function (of_declarator.Parenthesised 11 (of_declarator.Pointer 12 [] (of_declarator.Name (sp 13 14)))) 15 (params.Void 16) ((record { place = 22; spelling = spelling.Brackets; words = ((record { place = 31; effect = (effect.NonBlocking None) }) ∷ []) }) ∷ [])) }) ∷ [])) []); init = None }) ∷ []) }) ∷ external.Declaration (record { place = 47; specs = (spec.Type 47 type_word.Void ∷ []); declarators = ((record { declarator = (of_declarator.Function (of_declarator.Name (sp 52 53)) 53 (params.List ((record { place = 54; specs = (spec.Type 54 type_word.Int ∷ []); declarator = (of_declarator.Function (of_declarator.Parenthesised 58 (of_declarator.Pointer 59 [] (of_declarator.Name (sp 60 61)))) 62 (params.Void 63) []) }) ∷ [])) []); init = None }) ∷ []) }) ∷ []) }) ≡ Some (3, 52)
unfolding hidden hidden-the_row-BlockItem-1 hidden-the_row-CType-0 hidden-the_row-CType-1 hidden-the_row-Declarator-0 hidden-the_row-Declarator-6 hidden-the_row-Enumerator-8 hidden-the_row-Expr-0 hidden-the_row-Expr-1 hidden-the_row-Expr-2 hidden-arguments hidden-the_row-Init-0 hidden-the_row-Initializer-0 hidden-the_row-Member-7 hidden-the_row-Param-5 hidden-the_row-Place-1 hidden-the_row-Spec-3 hidden-the_row-Stmt-0 hidden-unit-0 hidden-unit-1 hidden-the_row-TypeName-4 shape-the_row-BlockItem-1 shape-the_row-CType-0 shape-the_row-CType-1 shape-the_row-Declarator-0 shape-the_row-Declarator-6 shape-the_row-Enumerator-8 shape-the_row-Expr-0 shape-the_row-Expr-1 shape-the_row-Expr-2 shape-arguments shape-the_row-Init-0 shape-the_row-Initializer-0 shape-the_row-Member-7 shape-the_row-Param-5 shape-the_row-Place-1 shape-the_row-Spec-3 shape-the_row-Stmt-0 shape-unit-0 shape-unit-1 shape-the_row-TypeName-4 indirection element member access address unevaluated size size_of_expression size_of_type plain_assignment number_update pointer_update compound_assignment assignment step_update step spine fresh callee_in callee passed call worth is_null number_constant converted cast typedef_declared function_named variable_named init_declarator declaration file_declaration block_name block_declaration defined_name definition pointer_part array_part function_part made parameter type_name member_of_type_rules_declarators with_argument function_type body_read pointer_word initial_word initializer_words initial_values scalar text_fits by_name by_expression part finished by_list count initial_size initialized number_in character_in text_in text_initially as_value operand lvalue promoted in_sign pair_of stride arithmetic_on shift_on pointer_in_common equality_on logical_on operation sign_operation negation chosen_type chosen alternatives choice name number character holds_initially string_object text_found text parenthesised and_then name_number scoped expression value size_of typedef_name tagged_structure structure_name structure tagged_enumeration enumeration_name enumeration enumerator evaluated condition expression_statement block selection_of selection while_loop do_loop for_turns for_loop returned with_items list_behind block_items statement outermost_effects with_effects typed parts_of exceeded outcome likeness_of each_likeness signature_likeness_of conversion union conflict effects_of merged added shared points_to target_effects without_outer_effects same without_effects words_of opening_of automatics PlaceKeeps InitializerKeeps StmtKeeps row_type place_nodes initializer_nodes stmt_nodes places place_spots initializer_spots stmt_spots callee_of stores structure_in IsWithin AreVariables IsTypedPlace IsInitializer IsTypedStmt place_type packed
declared_67 = refl

-- int f(int a[3]); int f(int *b);
declared_68 : first_fault (codes "int f(int a[3]); int f(int *b);") (record { externals = (external.Declaration (record { place = 0; specs = (spec.Type 0 type_word.Int ∷ []); declarators = ((record { declarator = (of_declarator.Function (of_declarator.Name (sp 4 5)) 5 (params.List ((record { place = 6; specs = (spec.Type 6 type_word.Int ∷ []); declarator = (of_declarator.Array (of_declarator.Name (sp 10 11)) 11 (Some (expr.Number (sp 12 13)))) }) ∷ [])) []); init = None }) ∷ []) }) ∷ external.Declaration (record { place = 17; specs = (spec.Type 17 type_word.Int ∷ []); declarators = ((record { declarator = (of_declarator.Function (of_declarator.Name (sp 21 22)) 22 (params.List ((record { place = 23; specs = (spec.Type 23 type_word.Int ∷ []); declarator = (of_declarator.Pointer 27 [] (of_declarator.Name (sp 28 29))) }) ∷ [])) []); init = None }) ∷ []) }) ∷ []) }) ≡ None
unfolding hidden hidden-the_row-BlockItem-1 hidden-the_row-CType-0 hidden-the_row-CType-1 hidden-the_row-Declarator-0 hidden-the_row-Declarator-6 hidden-the_row-Enumerator-8 hidden-the_row-Expr-0 hidden-the_row-Expr-1 hidden-the_row-Expr-2 hidden-arguments hidden-the_row-Init-0 hidden-the_row-Initializer-0 hidden-the_row-Member-7 hidden-the_row-Param-5 hidden-the_row-Place-1 hidden-the_row-Spec-3 hidden-the_row-Stmt-0 hidden-unit-0 hidden-unit-1 hidden-the_row-TypeName-4 shape-the_row-BlockItem-1 shape-the_row-CType-0 shape-the_row-CType-1 shape-the_row-Declarator-0 shape-the_row-Declarator-6 shape-the_row-Enumerator-8 shape-the_row-Expr-0 shape-the_row-Expr-1 shape-the_row-Expr-2 shape-arguments shape-the_row-Init-0 shape-the_row-Initializer-0 shape-the_row-Member-7 shape-the_row-Param-5 shape-the_row-Place-1 shape-the_row-Spec-3 shape-the_row-Stmt-0 shape-unit-0 shape-unit-1 shape-the_row-TypeName-4 indirection element member access address unevaluated size size_of_expression size_of_type plain_assignment number_update pointer_update compound_assignment assignment step_update step spine fresh callee_in callee passed call worth is_null number_constant converted cast typedef_declared function_named variable_named init_declarator declaration file_declaration block_name block_declaration defined_name definition pointer_part array_part function_part made parameter type_name member_of_type_rules_declarators with_argument function_type body_read pointer_word initial_word initializer_words initial_values scalar text_fits by_name by_expression part finished by_list count initial_size initialized number_in character_in text_in text_initially as_value operand lvalue promoted in_sign pair_of stride arithmetic_on shift_on pointer_in_common equality_on logical_on operation sign_operation negation chosen_type chosen alternatives choice name number character holds_initially string_object text_found text parenthesised and_then name_number scoped expression value size_of typedef_name tagged_structure structure_name structure tagged_enumeration enumeration_name enumeration enumerator evaluated condition expression_statement block selection_of selection while_loop do_loop for_turns for_loop returned with_items list_behind block_items statement outermost_effects with_effects typed parts_of exceeded outcome likeness_of each_likeness signature_likeness_of conversion union conflict effects_of merged added shared points_to target_effects without_outer_effects same without_effects words_of opening_of automatics PlaceKeeps InitializerKeeps StmtKeeps row_type place_nodes initializer_nodes stmt_nodes places place_spots initializer_spots stmt_spots callee_of stores structure_in IsWithin AreVariables IsTypedPlace IsInitializer IsTypedStmt place_type packed
declared_68 = refl

-- int x(void), y, «here» x;
declared_69 : first_fault (codes "int x(void), y, x;") (record { externals = (external.Declaration (record { place = 0; specs = (spec.Type 0 type_word.Int ∷ []); declarators = ((record { declarator = (of_declarator.Function (of_declarator.Name (sp 4 5)) 5 (params.Void 6) []); init = None }) ∷ (record { declarator = (of_declarator.Name (sp 13 14)); init = None }) ∷ (record { declarator = (of_declarator.Name (sp 16 17)); init = None }) ∷ []) }) ∷ []) }) ≡ Some (2, 16)
unfolding hidden hidden-the_row-BlockItem-1 hidden-the_row-CType-0 hidden-the_row-CType-1 hidden-the_row-Declarator-0 hidden-the_row-Declarator-6 hidden-the_row-Enumerator-8 hidden-the_row-Expr-0 hidden-the_row-Expr-1 hidden-the_row-Expr-2 hidden-arguments hidden-the_row-Init-0 hidden-the_row-Initializer-0 hidden-the_row-Member-7 hidden-the_row-Param-5 hidden-the_row-Place-1 hidden-the_row-Spec-3 hidden-the_row-Stmt-0 hidden-unit-0 hidden-unit-1 hidden-the_row-TypeName-4 shape-the_row-BlockItem-1 shape-the_row-CType-0 shape-the_row-CType-1 shape-the_row-Declarator-0 shape-the_row-Declarator-6 shape-the_row-Enumerator-8 shape-the_row-Expr-0 shape-the_row-Expr-1 shape-the_row-Expr-2 shape-arguments shape-the_row-Init-0 shape-the_row-Initializer-0 shape-the_row-Member-7 shape-the_row-Param-5 shape-the_row-Place-1 shape-the_row-Spec-3 shape-the_row-Stmt-0 shape-unit-0 shape-unit-1 shape-the_row-TypeName-4 indirection element member access address unevaluated size size_of_expression size_of_type plain_assignment number_update pointer_update compound_assignment assignment step_update step spine fresh callee_in callee passed call worth is_null number_constant converted cast typedef_declared function_named variable_named init_declarator declaration file_declaration block_name block_declaration defined_name definition pointer_part array_part function_part made parameter type_name member_of_type_rules_declarators with_argument function_type body_read pointer_word initial_word initializer_words initial_values scalar text_fits by_name by_expression part finished by_list count initial_size initialized number_in character_in text_in text_initially as_value operand lvalue promoted in_sign pair_of stride arithmetic_on shift_on pointer_in_common equality_on logical_on operation sign_operation negation chosen_type chosen alternatives choice name number character holds_initially string_object text_found text parenthesised and_then name_number scoped expression value size_of typedef_name tagged_structure structure_name structure tagged_enumeration enumeration_name enumeration enumerator evaluated condition expression_statement block selection_of selection while_loop do_loop for_turns for_loop returned with_items list_behind block_items statement outermost_effects with_effects typed parts_of exceeded outcome likeness_of each_likeness signature_likeness_of conversion union conflict effects_of merged added shared points_to target_effects without_outer_effects same without_effects words_of opening_of automatics PlaceKeeps InitializerKeeps StmtKeeps row_type place_nodes initializer_nodes stmt_nodes places place_spots initializer_spots stmt_spots callee_of stores structure_in IsWithin AreVariables IsTypedPlace IsInitializer IsTypedStmt place_type packed
declared_69 = refl

-- void f(void); typedef void «here» f(void);
declared_70 : first_fault (codes "void f(void); typedef void f(void);") (record { externals = (external.Declaration (record { place = 0; specs = (spec.Type 0 type_word.Void ∷ []); declarators = ((record { declarator = (of_declarator.Function (of_declarator.Name (sp 5 6)) 6 (params.Void 7) []); init = None }) ∷ []) }) ∷ external.Declaration (record { place = 14; specs = (spec.Storage 14 storage.Typedef ∷ spec.Type 22 type_word.Void ∷ []); declarators = ((record { declarator = (of_declarator.Function (of_declarator.Name (sp 27 28)) 28 (params.Void 29) []); init = None }) ∷ []) }) ∷ []) }) ≡ Some (2, 27)
unfolding hidden hidden-the_row-BlockItem-1 hidden-the_row-CType-0 hidden-the_row-CType-1 hidden-the_row-Declarator-0 hidden-the_row-Declarator-6 hidden-the_row-Enumerator-8 hidden-the_row-Expr-0 hidden-the_row-Expr-1 hidden-the_row-Expr-2 hidden-arguments hidden-the_row-Init-0 hidden-the_row-Initializer-0 hidden-the_row-Member-7 hidden-the_row-Param-5 hidden-the_row-Place-1 hidden-the_row-Spec-3 hidden-the_row-Stmt-0 hidden-unit-0 hidden-unit-1 hidden-the_row-TypeName-4 shape-the_row-BlockItem-1 shape-the_row-CType-0 shape-the_row-CType-1 shape-the_row-Declarator-0 shape-the_row-Declarator-6 shape-the_row-Enumerator-8 shape-the_row-Expr-0 shape-the_row-Expr-1 shape-the_row-Expr-2 shape-arguments shape-the_row-Init-0 shape-the_row-Initializer-0 shape-the_row-Member-7 shape-the_row-Param-5 shape-the_row-Place-1 shape-the_row-Spec-3 shape-the_row-Stmt-0 shape-unit-0 shape-unit-1 shape-the_row-TypeName-4 indirection element member access address unevaluated size size_of_expression size_of_type plain_assignment number_update pointer_update compound_assignment assignment step_update step spine fresh callee_in callee passed call worth is_null number_constant converted cast typedef_declared function_named variable_named init_declarator declaration file_declaration block_name block_declaration defined_name definition pointer_part array_part function_part made parameter type_name member_of_type_rules_declarators with_argument function_type body_read pointer_word initial_word initializer_words initial_values scalar text_fits by_name by_expression part finished by_list count initial_size initialized number_in character_in text_in text_initially as_value operand lvalue promoted in_sign pair_of stride arithmetic_on shift_on pointer_in_common equality_on logical_on operation sign_operation negation chosen_type chosen alternatives choice name number character holds_initially string_object text_found text parenthesised and_then name_number scoped expression value size_of typedef_name tagged_structure structure_name structure tagged_enumeration enumeration_name enumeration enumerator evaluated condition expression_statement block selection_of selection while_loop do_loop for_turns for_loop returned with_items list_behind block_items statement outermost_effects with_effects typed parts_of exceeded outcome likeness_of each_likeness signature_likeness_of conversion union conflict effects_of merged added shared points_to target_effects without_outer_effects same without_effects words_of opening_of automatics PlaceKeeps InitializerKeeps StmtKeeps row_type place_nodes initializer_nodes stmt_nodes places place_spots initializer_spots stmt_spots callee_of stores structure_in IsWithin AreVariables IsTypedPlace IsInitializer IsTypedStmt place_type packed
declared_70 = refl

-- int (*«here» f(void) [[clang::blocking, clang::nonblocking]])(void);
declared_71 : first_fault (codes "int (*f(void) [[clang::blocking, clang::nonblocking]])(void);") (record { externals = (external.Declaration (record { place = 0; specs = (spec.Type 0 type_word.Int ∷ []); declarators = ((record { declarator = (of_declarator.Function (of_declarator.Parenthesised 4 (of_declarator.Pointer 5 [] (of_declarator.Function (of_declarator.Name (sp 6 7)) 7 (params.Void 8) ((record { place = 14; spelling = spelling.Brackets; words = ((record { place = 23; effect = effect.Blocking }) ∷ (record { place = 40; effect = (effect.NonBlocking None) }) ∷ []) }) ∷ [])))) 54 (params.Void 55) []); init = None }) ∷ []) }) ∷ []) }) ≡ Some (4, 6)
unfolding hidden hidden-the_row-BlockItem-1 hidden-the_row-CType-0 hidden-the_row-CType-1 hidden-the_row-Declarator-0 hidden-the_row-Declarator-6 hidden-the_row-Enumerator-8 hidden-the_row-Expr-0 hidden-the_row-Expr-1 hidden-the_row-Expr-2 hidden-arguments hidden-the_row-Init-0 hidden-the_row-Initializer-0 hidden-the_row-Member-7 hidden-the_row-Param-5 hidden-the_row-Place-1 hidden-the_row-Spec-3 hidden-the_row-Stmt-0 hidden-unit-0 hidden-unit-1 hidden-the_row-TypeName-4 shape-the_row-BlockItem-1 shape-the_row-CType-0 shape-the_row-CType-1 shape-the_row-Declarator-0 shape-the_row-Declarator-6 shape-the_row-Enumerator-8 shape-the_row-Expr-0 shape-the_row-Expr-1 shape-the_row-Expr-2 shape-arguments shape-the_row-Init-0 shape-the_row-Initializer-0 shape-the_row-Member-7 shape-the_row-Param-5 shape-the_row-Place-1 shape-the_row-Spec-3 shape-the_row-Stmt-0 shape-unit-0 shape-unit-1 shape-the_row-TypeName-4 indirection element member access address unevaluated size size_of_expression size_of_type plain_assignment number_update pointer_update compound_assignment assignment step_update step spine fresh callee_in callee passed call worth is_null number_constant converted cast typedef_declared function_named variable_named init_declarator declaration file_declaration block_name block_declaration defined_name definition pointer_part array_part function_part made parameter type_name member_of_type_rules_declarators with_argument function_type body_read pointer_word initial_word initializer_words initial_values scalar text_fits by_name by_expression part finished by_list count initial_size initialized number_in character_in text_in text_initially as_value operand lvalue promoted in_sign pair_of stride arithmetic_on shift_on pointer_in_common equality_on logical_on operation sign_operation negation chosen_type chosen alternatives choice name number character holds_initially string_object text_found text parenthesised and_then name_number scoped expression value size_of typedef_name tagged_structure structure_name structure tagged_enumeration enumeration_name enumeration enumerator evaluated condition expression_statement block selection_of selection while_loop do_loop for_turns for_loop returned with_items list_behind block_items statement outermost_effects with_effects typed parts_of exceeded outcome likeness_of each_likeness signature_likeness_of conversion union conflict effects_of merged added shared points_to target_effects without_outer_effects same without_effects words_of opening_of automatics PlaceKeeps InitializerKeeps StmtKeeps row_type place_nodes initializer_nodes stmt_nodes places place_spots initializer_spots stmt_spots callee_of stores structure_in IsWithin AreVariables IsTypedPlace IsInitializer IsTypedStmt place_type packed
declared_71 = refl

-- int a[2][3]; int (*p)[3];
declared_72 : first_fault (codes "int a[2][3]; int (*p)[3];") (record { externals = (external.Declaration (record { place = 0; specs = (spec.Type 0 type_word.Int ∷ []); declarators = ((record { declarator = (of_declarator.Array (of_declarator.Array (of_declarator.Name (sp 4 5)) 5 (Some (expr.Number (sp 6 7)))) 8 (Some (expr.Number (sp 9 10)))); init = None }) ∷ []) }) ∷ external.Declaration (record { place = 13; specs = (spec.Type 13 type_word.Int ∷ []); declarators = ((record { declarator = (of_declarator.Array (of_declarator.Parenthesised 17 (of_declarator.Pointer 18 [] (of_declarator.Name (sp 19 20)))) 21 (Some (expr.Number (sp 22 23)))); init = None }) ∷ []) }) ∷ []) }) ≡ None
unfolding hidden hidden-the_row-BlockItem-1 hidden-the_row-CType-0 hidden-the_row-CType-1 hidden-the_row-Declarator-0 hidden-the_row-Declarator-6 hidden-the_row-Enumerator-8 hidden-the_row-Expr-0 hidden-the_row-Expr-1 hidden-the_row-Expr-2 hidden-arguments hidden-the_row-Init-0 hidden-the_row-Initializer-0 hidden-the_row-Member-7 hidden-the_row-Param-5 hidden-the_row-Place-1 hidden-the_row-Spec-3 hidden-the_row-Stmt-0 hidden-unit-0 hidden-unit-1 hidden-the_row-TypeName-4 shape-the_row-BlockItem-1 shape-the_row-CType-0 shape-the_row-CType-1 shape-the_row-Declarator-0 shape-the_row-Declarator-6 shape-the_row-Enumerator-8 shape-the_row-Expr-0 shape-the_row-Expr-1 shape-the_row-Expr-2 shape-arguments shape-the_row-Init-0 shape-the_row-Initializer-0 shape-the_row-Member-7 shape-the_row-Param-5 shape-the_row-Place-1 shape-the_row-Spec-3 shape-the_row-Stmt-0 shape-unit-0 shape-unit-1 shape-the_row-TypeName-4 indirection element member access address unevaluated size size_of_expression size_of_type plain_assignment number_update pointer_update compound_assignment assignment step_update step spine fresh callee_in callee passed call worth is_null number_constant converted cast typedef_declared function_named variable_named init_declarator declaration file_declaration block_name block_declaration defined_name definition pointer_part array_part function_part made parameter type_name member_of_type_rules_declarators with_argument function_type body_read pointer_word initial_word initializer_words initial_values scalar text_fits by_name by_expression part finished by_list count initial_size initialized number_in character_in text_in text_initially as_value operand lvalue promoted in_sign pair_of stride arithmetic_on shift_on pointer_in_common equality_on logical_on operation sign_operation negation chosen_type chosen alternatives choice name number character holds_initially string_object text_found text parenthesised and_then name_number scoped expression value size_of typedef_name tagged_structure structure_name structure tagged_enumeration enumeration_name enumeration enumerator evaluated condition expression_statement block selection_of selection while_loop do_loop for_turns for_loop returned with_items list_behind block_items statement outermost_effects with_effects typed parts_of exceeded outcome likeness_of each_likeness signature_likeness_of conversion union conflict effects_of merged added shared points_to target_effects without_outer_effects same without_effects words_of opening_of automatics PlaceKeeps InitializerKeeps StmtKeeps row_type place_nodes initializer_nodes stmt_nodes places place_spots initializer_spots stmt_spots callee_of stores structure_in IsWithin AreVariables IsTypedPlace IsInitializer IsTypedStmt place_type packed
declared_72 = refl

-- int «here» a[2][];
declared_73 : first_fault (codes "int a[2][];") (record { externals = (external.Declaration (record { place = 0; specs = (spec.Type 0 type_word.Int ∷ []); declarators = ((record { declarator = (of_declarator.Array (of_declarator.Array (of_declarator.Name (sp 4 5)) 5 (Some (expr.Number (sp 6 7)))) 8 None); init = None }) ∷ []) }) ∷ []) }) ≡ Some (10, 4)
unfolding hidden hidden-the_row-BlockItem-1 hidden-the_row-CType-0 hidden-the_row-CType-1 hidden-the_row-Declarator-0 hidden-the_row-Declarator-6 hidden-the_row-Enumerator-8 hidden-the_row-Expr-0 hidden-the_row-Expr-1 hidden-the_row-Expr-2 hidden-arguments hidden-the_row-Init-0 hidden-the_row-Initializer-0 hidden-the_row-Member-7 hidden-the_row-Param-5 hidden-the_row-Place-1 hidden-the_row-Spec-3 hidden-the_row-Stmt-0 hidden-unit-0 hidden-unit-1 hidden-the_row-TypeName-4 shape-the_row-BlockItem-1 shape-the_row-CType-0 shape-the_row-CType-1 shape-the_row-Declarator-0 shape-the_row-Declarator-6 shape-the_row-Enumerator-8 shape-the_row-Expr-0 shape-the_row-Expr-1 shape-the_row-Expr-2 shape-arguments shape-the_row-Init-0 shape-the_row-Initializer-0 shape-the_row-Member-7 shape-the_row-Param-5 shape-the_row-Place-1 shape-the_row-Spec-3 shape-the_row-Stmt-0 shape-unit-0 shape-unit-1 shape-the_row-TypeName-4 indirection element member access address unevaluated size size_of_expression size_of_type plain_assignment number_update pointer_update compound_assignment assignment step_update step spine fresh callee_in callee passed call worth is_null number_constant converted cast typedef_declared function_named variable_named init_declarator declaration file_declaration block_name block_declaration defined_name definition pointer_part array_part function_part made parameter type_name member_of_type_rules_declarators with_argument function_type body_read pointer_word initial_word initializer_words initial_values scalar text_fits by_name by_expression part finished by_list count initial_size initialized number_in character_in text_in text_initially as_value operand lvalue promoted in_sign pair_of stride arithmetic_on shift_on pointer_in_common equality_on logical_on operation sign_operation negation chosen_type chosen alternatives choice name number character holds_initially string_object text_found text parenthesised and_then name_number scoped expression value size_of typedef_name tagged_structure structure_name structure tagged_enumeration enumeration_name enumeration enumerator evaluated condition expression_statement block selection_of selection while_loop do_loop for_turns for_loop returned with_items list_behind block_items statement outermost_effects with_effects typed parts_of exceeded outcome likeness_of each_likeness signature_likeness_of conversion union conflict effects_of merged added shared points_to target_effects without_outer_effects same without_effects words_of opening_of automatics PlaceKeeps InitializerKeeps StmtKeeps row_type place_nodes initializer_nodes stmt_nodes places place_spots initializer_spots stmt_spots callee_of stores structure_in IsWithin AreVariables IsTypedPlace IsInitializer IsTypedStmt place_type packed
declared_73 = refl

-- struct s { int f; } s; struct t { struct s s; int t; } t;
declared_74 : first_fault (codes "struct s { int f; } s; struct t { struct s s; int t; } t;") (record { externals = (external.Declaration (record { place = 0; specs = (spec.Struct 0 (Some (sp 7 8)) ((record { place = 11; specs = (spec.Type 11 type_word.Int ∷ []); declarators = ((of_declarator.Name (sp 15 16)) ∷ []) }) ∷ []) ∷ []); declarators = ((record { declarator = (of_declarator.Name (sp 20 21)); init = None }) ∷ []) }) ∷ external.Declaration (record { place = 23; specs = (spec.Struct 23 (Some (sp 30 31)) ((record { place = 34; specs = (spec.StructName 34 (sp 41 42) ∷ []); declarators = ((of_declarator.Name (sp 43 44)) ∷ []) }) ∷ (record { place = 46; specs = (spec.Type 46 type_word.Int ∷ []); declarators = ((of_declarator.Name (sp 50 51)) ∷ []) }) ∷ []) ∷ []); declarators = ((record { declarator = (of_declarator.Name (sp 55 56)); init = None }) ∷ []) }) ∷ []) }) ≡ None
unfolding hidden hidden-the_row-BlockItem-1 hidden-the_row-CType-0 hidden-the_row-CType-1 hidden-the_row-Declarator-0 hidden-the_row-Declarator-6 hidden-the_row-Enumerator-8 hidden-the_row-Expr-0 hidden-the_row-Expr-1 hidden-the_row-Expr-2 hidden-arguments hidden-the_row-Init-0 hidden-the_row-Initializer-0 hidden-the_row-Member-7 hidden-the_row-Param-5 hidden-the_row-Place-1 hidden-the_row-Spec-3 hidden-the_row-Stmt-0 hidden-unit-0 hidden-unit-1 hidden-the_row-TypeName-4 shape-the_row-BlockItem-1 shape-the_row-CType-0 shape-the_row-CType-1 shape-the_row-Declarator-0 shape-the_row-Declarator-6 shape-the_row-Enumerator-8 shape-the_row-Expr-0 shape-the_row-Expr-1 shape-the_row-Expr-2 shape-arguments shape-the_row-Init-0 shape-the_row-Initializer-0 shape-the_row-Member-7 shape-the_row-Param-5 shape-the_row-Place-1 shape-the_row-Spec-3 shape-the_row-Stmt-0 shape-unit-0 shape-unit-1 shape-the_row-TypeName-4 indirection element member access address unevaluated size size_of_expression size_of_type plain_assignment number_update pointer_update compound_assignment assignment step_update step spine fresh callee_in callee passed call worth is_null number_constant converted cast typedef_declared function_named variable_named init_declarator declaration file_declaration block_name block_declaration defined_name definition pointer_part array_part function_part made parameter type_name member_of_type_rules_declarators with_argument function_type body_read pointer_word initial_word initializer_words initial_values scalar text_fits by_name by_expression part finished by_list count initial_size initialized number_in character_in text_in text_initially as_value operand lvalue promoted in_sign pair_of stride arithmetic_on shift_on pointer_in_common equality_on logical_on operation sign_operation negation chosen_type chosen alternatives choice name number character holds_initially string_object text_found text parenthesised and_then name_number scoped expression value size_of typedef_name tagged_structure structure_name structure tagged_enumeration enumeration_name enumeration enumerator evaluated condition expression_statement block selection_of selection while_loop do_loop for_turns for_loop returned with_items list_behind block_items statement outermost_effects with_effects typed parts_of exceeded outcome likeness_of each_likeness signature_likeness_of conversion union conflict effects_of merged added shared points_to target_effects without_outer_effects same without_effects words_of opening_of automatics PlaceKeeps InitializerKeeps StmtKeeps row_type place_nodes initializer_nodes stmt_nodes places place_spots initializer_spots stmt_spots callee_of stores structure_in IsWithin AreVariables IsTypedPlace IsInitializer IsTypedStmt place_type packed
declared_74 = refl

-- int x; void «here» x[];
declared_75 : first_fault (codes "int x; void x[];") (record { externals = (external.Declaration (record { place = 0; specs = (spec.Type 0 type_word.Int ∷ []); declarators = ((record { declarator = (of_declarator.Name (sp 4 5)); init = None }) ∷ []) }) ∷ external.Declaration (record { place = 7; specs = (spec.Type 7 type_word.Void ∷ []); declarators = ((record { declarator = (of_declarator.Array (of_declarator.Name (sp 12 13)) 13 None); init = None }) ∷ []) }) ∷ []) }) ≡ Some (3, 12)
unfolding hidden hidden-the_row-BlockItem-1 hidden-the_row-CType-0 hidden-the_row-CType-1 hidden-the_row-Declarator-0 hidden-the_row-Declarator-6 hidden-the_row-Enumerator-8 hidden-the_row-Expr-0 hidden-the_row-Expr-1 hidden-the_row-Expr-2 hidden-arguments hidden-the_row-Init-0 hidden-the_row-Initializer-0 hidden-the_row-Member-7 hidden-the_row-Param-5 hidden-the_row-Place-1 hidden-the_row-Spec-3 hidden-the_row-Stmt-0 hidden-unit-0 hidden-unit-1 hidden-the_row-TypeName-4 shape-the_row-BlockItem-1 shape-the_row-CType-0 shape-the_row-CType-1 shape-the_row-Declarator-0 shape-the_row-Declarator-6 shape-the_row-Enumerator-8 shape-the_row-Expr-0 shape-the_row-Expr-1 shape-the_row-Expr-2 shape-arguments shape-the_row-Init-0 shape-the_row-Initializer-0 shape-the_row-Member-7 shape-the_row-Param-5 shape-the_row-Place-1 shape-the_row-Spec-3 shape-the_row-Stmt-0 shape-unit-0 shape-unit-1 shape-the_row-TypeName-4 indirection element member access address unevaluated size size_of_expression size_of_type plain_assignment number_update pointer_update compound_assignment assignment step_update step spine fresh callee_in callee passed call worth is_null number_constant converted cast typedef_declared function_named variable_named init_declarator declaration file_declaration block_name block_declaration defined_name definition pointer_part array_part function_part made parameter type_name member_of_type_rules_declarators with_argument function_type body_read pointer_word initial_word initializer_words initial_values scalar text_fits by_name by_expression part finished by_list count initial_size initialized number_in character_in text_in text_initially as_value operand lvalue promoted in_sign pair_of stride arithmetic_on shift_on pointer_in_common equality_on logical_on operation sign_operation negation chosen_type chosen alternatives choice name number character holds_initially string_object text_found text parenthesised and_then name_number scoped expression value size_of typedef_name tagged_structure structure_name structure tagged_enumeration enumeration_name enumeration enumerator evaluated condition expression_statement block selection_of selection while_loop do_loop for_turns for_loop returned with_items list_behind block_items statement outermost_effects with_effects typed parts_of exceeded outcome likeness_of each_likeness signature_likeness_of conversion union conflict effects_of merged added shared points_to target_effects without_outer_effects same without_effects words_of opening_of automatics PlaceKeeps InitializerKeeps StmtKeeps row_type place_nodes initializer_nodes stmt_nodes places place_spots initializer_spots stmt_spots callee_of stores structure_in IsWithin AreVariables IsTypedPlace IsInitializer IsTypedStmt place_type packed
declared_75 = refl

-- int x; void «here» x(void) [[clang::nonblocking, clang::blocking]];
declared_76 : first_fault (codes "int x; void x(void) [[clang::nonblocking, clang::blocking]];") (record { externals = (external.Declaration (record { place = 0; specs = (spec.Type 0 type_word.Int ∷ []); declarators = ((record { declarator = (of_declarator.Name (sp 4 5)); init = None }) ∷ []) }) ∷ external.Declaration (record { place = 7; specs = (spec.Type 7 type_word.Void ∷ []); declarators = ((record { declarator = (of_declarator.Function (of_declarator.Name (sp 12 13)) 13 (params.Void 14) ((record { place = 20; spelling = spelling.Brackets; words = ((record { place = 29; effect = (effect.NonBlocking None) }) ∷ (record { place = 49; effect = effect.Blocking }) ∷ []) }) ∷ [])); init = None }) ∷ []) }) ∷ []) }) ≡ Some (2, 12)
unfolding hidden hidden-the_row-BlockItem-1 hidden-the_row-CType-0 hidden-the_row-CType-1 hidden-the_row-Declarator-0 hidden-the_row-Declarator-6 hidden-the_row-Enumerator-8 hidden-the_row-Expr-0 hidden-the_row-Expr-1 hidden-the_row-Expr-2 hidden-arguments hidden-the_row-Init-0 hidden-the_row-Initializer-0 hidden-the_row-Member-7 hidden-the_row-Param-5 hidden-the_row-Place-1 hidden-the_row-Spec-3 hidden-the_row-Stmt-0 hidden-unit-0 hidden-unit-1 hidden-the_row-TypeName-4 shape-the_row-BlockItem-1 shape-the_row-CType-0 shape-the_row-CType-1 shape-the_row-Declarator-0 shape-the_row-Declarator-6 shape-the_row-Enumerator-8 shape-the_row-Expr-0 shape-the_row-Expr-1 shape-the_row-Expr-2 shape-arguments shape-the_row-Init-0 shape-the_row-Initializer-0 shape-the_row-Member-7 shape-the_row-Param-5 shape-the_row-Place-1 shape-the_row-Spec-3 shape-the_row-Stmt-0 shape-unit-0 shape-unit-1 shape-the_row-TypeName-4 indirection element member access address unevaluated size size_of_expression size_of_type plain_assignment number_update pointer_update compound_assignment assignment step_update step spine fresh callee_in callee passed call worth is_null number_constant converted cast typedef_declared function_named variable_named init_declarator declaration file_declaration block_name block_declaration defined_name definition pointer_part array_part function_part made parameter type_name member_of_type_rules_declarators with_argument function_type body_read pointer_word initial_word initializer_words initial_values scalar text_fits by_name by_expression part finished by_list count initial_size initialized number_in character_in text_in text_initially as_value operand lvalue promoted in_sign pair_of stride arithmetic_on shift_on pointer_in_common equality_on logical_on operation sign_operation negation chosen_type chosen alternatives choice name number character holds_initially string_object text_found text parenthesised and_then name_number scoped expression value size_of typedef_name tagged_structure structure_name structure tagged_enumeration enumeration_name enumeration enumerator evaluated condition expression_statement block selection_of selection while_loop do_loop for_turns for_loop returned with_items list_behind block_items statement outermost_effects with_effects typed parts_of exceeded outcome likeness_of each_likeness signature_likeness_of conversion union conflict effects_of merged added shared points_to target_effects without_outer_effects same without_effects words_of opening_of automatics PlaceKeeps InitializerKeeps StmtKeeps row_type place_nodes initializer_nodes stmt_nodes places place_spots initializer_spots stmt_spots callee_of stores structure_in IsWithin AreVariables IsTypedPlace IsInitializer IsTypedStmt place_type packed
declared_76 = refl

-- unsigned «here» a[3](void) [[clang::nonblocking, clang::blocking]];
declared_77 : first_fault (codes "unsigned a[3](void) [[clang::nonblocking, clang::blocking]];") (record { externals = (external.Declaration (record { place = 0; specs = (spec.Type 0 type_word.Unsigned ∷ []); declarators = ((record { declarator = (of_declarator.Function (of_declarator.Array (of_declarator.Name (sp 9 10)) 10 (Some (expr.Number (sp 11 12)))) 13 (params.Void 14) ((record { place = 20; spelling = spelling.Brackets; words = ((record { place = 29; effect = (effect.NonBlocking None) }) ∷ (record { place = 49; effect = effect.Blocking }) ∷ []) }) ∷ [])); init = None }) ∷ []) }) ∷ []) }) ≡ Some (3, 9)
unfolding hidden hidden-the_row-BlockItem-1 hidden-the_row-CType-0 hidden-the_row-CType-1 hidden-the_row-Declarator-0 hidden-the_row-Declarator-6 hidden-the_row-Enumerator-8 hidden-the_row-Expr-0 hidden-the_row-Expr-1 hidden-the_row-Expr-2 hidden-arguments hidden-the_row-Init-0 hidden-the_row-Initializer-0 hidden-the_row-Member-7 hidden-the_row-Param-5 hidden-the_row-Place-1 hidden-the_row-Spec-3 hidden-the_row-Stmt-0 hidden-unit-0 hidden-unit-1 hidden-the_row-TypeName-4 shape-the_row-BlockItem-1 shape-the_row-CType-0 shape-the_row-CType-1 shape-the_row-Declarator-0 shape-the_row-Declarator-6 shape-the_row-Enumerator-8 shape-the_row-Expr-0 shape-the_row-Expr-1 shape-the_row-Expr-2 shape-arguments shape-the_row-Init-0 shape-the_row-Initializer-0 shape-the_row-Member-7 shape-the_row-Param-5 shape-the_row-Place-1 shape-the_row-Spec-3 shape-the_row-Stmt-0 shape-unit-0 shape-unit-1 shape-the_row-TypeName-4 indirection element member access address unevaluated size size_of_expression size_of_type plain_assignment number_update pointer_update compound_assignment assignment step_update step spine fresh callee_in callee passed call worth is_null number_constant converted cast typedef_declared function_named variable_named init_declarator declaration file_declaration block_name block_declaration defined_name definition pointer_part array_part function_part made parameter type_name member_of_type_rules_declarators with_argument function_type body_read pointer_word initial_word initializer_words initial_values scalar text_fits by_name by_expression part finished by_list count initial_size initialized number_in character_in text_in text_initially as_value operand lvalue promoted in_sign pair_of stride arithmetic_on shift_on pointer_in_common equality_on logical_on operation sign_operation negation chosen_type chosen alternatives choice name number character holds_initially string_object text_found text parenthesised and_then name_number scoped expression value size_of typedef_name tagged_structure structure_name structure tagged_enumeration enumeration_name enumeration enumerator evaluated condition expression_statement block selection_of selection while_loop do_loop for_turns for_loop returned with_items list_behind block_items statement outermost_effects with_effects typed parts_of exceeded outcome likeness_of each_likeness signature_likeness_of conversion union conflict effects_of merged added shared points_to target_effects without_outer_effects same without_effects words_of opening_of automatics PlaceKeeps InitializerKeeps StmtKeeps row_type place_nodes initializer_nodes stmt_nodes places place_spots initializer_spots stmt_spots callee_of stores structure_in IsWithin AreVariables IsTypedPlace IsInitializer IsTypedStmt place_type packed
declared_77 = refl

-- void f(void), «here» g;
declared_78 : first_fault (codes "void f(void), g;") (record { externals = (external.Declaration (record { place = 0; specs = (spec.Type 0 type_word.Void ∷ []); declarators = ((record { declarator = (of_declarator.Function (of_declarator.Name (sp 5 6)) 6 (params.Void 7) []); init = None }) ∷ (record { declarator = (of_declarator.Name (sp 14 15)); init = None }) ∷ []) }) ∷ []) }) ≡ Some (10, 14)
unfolding hidden hidden-the_row-BlockItem-1 hidden-the_row-CType-0 hidden-the_row-CType-1 hidden-the_row-Declarator-0 hidden-the_row-Declarator-6 hidden-the_row-Enumerator-8 hidden-the_row-Expr-0 hidden-the_row-Expr-1 hidden-the_row-Expr-2 hidden-arguments hidden-the_row-Init-0 hidden-the_row-Initializer-0 hidden-the_row-Member-7 hidden-the_row-Param-5 hidden-the_row-Place-1 hidden-the_row-Spec-3 hidden-the_row-Stmt-0 hidden-unit-0 hidden-unit-1 hidden-the_row-TypeName-4 shape-the_row-BlockItem-1 shape-the_row-CType-0 shape-the_row-CType-1 shape-the_row-Declarator-0 shape-the_row-Declarator-6 shape-the_row-Enumerator-8 shape-the_row-Expr-0 shape-the_row-Expr-1 shape-the_row-Expr-2 shape-arguments shape-the_row-Init-0 shape-the_row-Initializer-0 shape-the_row-Member-7 shape-the_row-Param-5 shape-the_row-Place-1 shape-the_row-Spec-3 shape-the_row-Stmt-0 shape-unit-0 shape-unit-1 shape-the_row-TypeName-4 indirection element member access address unevaluated size size_of_expression size_of_type plain_assignment number_update pointer_update compound_assignment assignment step_update step spine fresh callee_in callee passed call worth is_null number_constant converted cast typedef_declared function_named variable_named init_declarator declaration file_declaration block_name block_declaration defined_name definition pointer_part array_part function_part made parameter type_name member_of_type_rules_declarators with_argument function_type body_read pointer_word initial_word initializer_words initial_values scalar text_fits by_name by_expression part finished by_list count initial_size initialized number_in character_in text_in text_initially as_value operand lvalue promoted in_sign pair_of stride arithmetic_on shift_on pointer_in_common equality_on logical_on operation sign_operation negation chosen_type chosen alternatives choice name number character holds_initially string_object text_found text parenthesised and_then name_number scoped expression value size_of typedef_name tagged_structure structure_name structure tagged_enumeration enumeration_name enumeration enumerator evaluated condition expression_statement block selection_of selection while_loop do_loop for_turns for_loop returned with_items list_behind block_items statement outermost_effects with_effects typed parts_of exceeded outcome likeness_of each_likeness signature_likeness_of conversion union conflict effects_of merged added shared points_to target_effects without_outer_effects same without_effects words_of opening_of automatics PlaceKeeps InitializerKeeps StmtKeeps row_type place_nodes initializer_nodes stmt_nodes places place_spots initializer_spots stmt_spots callee_of stores structure_in IsWithin AreVariables IsTypedPlace IsInitializer IsTypedStmt place_type packed
declared_78 = refl

-- int x; void x(int a[«here» 0]);
declared_79 : first_fault (codes "int x; void x(int a[0]);") (record { externals = (external.Declaration (record { place = 0; specs = (spec.Type 0 type_word.Int ∷ []); declarators = ((record { declarator = (of_declarator.Name (sp 4 5)); init = None }) ∷ []) }) ∷ external.Declaration (record { place = 7; specs = (spec.Type 7 type_word.Void ∷ []); declarators = ((record { declarator = (of_declarator.Function (of_declarator.Name (sp 12 13)) 13 (params.List ((record { place = 14; specs = (spec.Type 14 type_word.Int ∷ []); declarator = (of_declarator.Array (of_declarator.Name (sp 18 19)) 19 (Some (expr.Number (sp 20 21)))) }) ∷ [])) []); init = None }) ∷ []) }) ∷ []) }) ≡ Some (7, 20)
unfolding hidden hidden-the_row-BlockItem-1 hidden-the_row-CType-0 hidden-the_row-CType-1 hidden-the_row-Declarator-0 hidden-the_row-Declarator-6 hidden-the_row-Enumerator-8 hidden-the_row-Expr-0 hidden-the_row-Expr-1 hidden-the_row-Expr-2 hidden-arguments hidden-the_row-Init-0 hidden-the_row-Initializer-0 hidden-the_row-Member-7 hidden-the_row-Param-5 hidden-the_row-Place-1 hidden-the_row-Spec-3 hidden-the_row-Stmt-0 hidden-unit-0 hidden-unit-1 hidden-the_row-TypeName-4 shape-the_row-BlockItem-1 shape-the_row-CType-0 shape-the_row-CType-1 shape-the_row-Declarator-0 shape-the_row-Declarator-6 shape-the_row-Enumerator-8 shape-the_row-Expr-0 shape-the_row-Expr-1 shape-the_row-Expr-2 shape-arguments shape-the_row-Init-0 shape-the_row-Initializer-0 shape-the_row-Member-7 shape-the_row-Param-5 shape-the_row-Place-1 shape-the_row-Spec-3 shape-the_row-Stmt-0 shape-unit-0 shape-unit-1 shape-the_row-TypeName-4 indirection element member access address unevaluated size size_of_expression size_of_type plain_assignment number_update pointer_update compound_assignment assignment step_update step spine fresh callee_in callee passed call worth is_null number_constant converted cast typedef_declared function_named variable_named init_declarator declaration file_declaration block_name block_declaration defined_name definition pointer_part array_part function_part made parameter type_name member_of_type_rules_declarators with_argument function_type body_read pointer_word initial_word initializer_words initial_values scalar text_fits by_name by_expression part finished by_list count initial_size initialized number_in character_in text_in text_initially as_value operand lvalue promoted in_sign pair_of stride arithmetic_on shift_on pointer_in_common equality_on logical_on operation sign_operation negation chosen_type chosen alternatives choice name number character holds_initially string_object text_found text parenthesised and_then name_number scoped expression value size_of typedef_name tagged_structure structure_name structure tagged_enumeration enumeration_name enumeration enumerator evaluated condition expression_statement block selection_of selection while_loop do_loop for_turns for_loop returned with_items list_behind block_items statement outermost_effects with_effects typed parts_of exceeded outcome likeness_of each_likeness signature_likeness_of conversion union conflict effects_of merged added shared points_to target_effects without_outer_effects same without_effects words_of opening_of automatics PlaceKeeps InitializerKeeps StmtKeeps row_type place_nodes initializer_nodes stmt_nodes places place_spots initializer_spots stmt_spots callee_of stores structure_in IsWithin AreVariables IsTypedPlace IsInitializer IsTypedStmt place_type packed
declared_79 = refl

-- void f(void); int «here» f { }
declared_80 : first_fault (codes "void f(void); int f { }") ((record { externals = (external.Declaration (record { place = 0; specs = (spec.Type 0 type_word.Void ∷ []); declarators = ((record { declarator = (of_declarator.Function (of_declarator.Name (sp 5 6)) 6 (params.Void 7) []); init = None }) ∷ []) }) ∷ external.Function (record { place = 14; specs = (spec.Type 14 type_word.Int ∷ []); declarator = (of_declarator.Name (sp 18 19)); body_place = 20; body = [] }) ∷ []) })) ≡ Some (2, 18)
unfolding hidden hidden-the_row-BlockItem-1 hidden-the_row-CType-0 hidden-the_row-CType-1 hidden-the_row-Declarator-0 hidden-the_row-Declarator-6 hidden-the_row-Enumerator-8 hidden-the_row-Expr-0 hidden-the_row-Expr-1 hidden-the_row-Expr-2 hidden-arguments hidden-the_row-Init-0 hidden-the_row-Initializer-0 hidden-the_row-Member-7 hidden-the_row-Param-5 hidden-the_row-Place-1 hidden-the_row-Spec-3 hidden-the_row-Stmt-0 hidden-unit-0 hidden-unit-1 hidden-the_row-TypeName-4 shape-the_row-BlockItem-1 shape-the_row-CType-0 shape-the_row-CType-1 shape-the_row-Declarator-0 shape-the_row-Declarator-6 shape-the_row-Enumerator-8 shape-the_row-Expr-0 shape-the_row-Expr-1 shape-the_row-Expr-2 shape-arguments shape-the_row-Init-0 shape-the_row-Initializer-0 shape-the_row-Member-7 shape-the_row-Param-5 shape-the_row-Place-1 shape-the_row-Spec-3 shape-the_row-Stmt-0 shape-unit-0 shape-unit-1 shape-the_row-TypeName-4 indirection element member access address unevaluated size size_of_expression size_of_type plain_assignment number_update pointer_update compound_assignment assignment step_update step spine fresh callee_in callee passed call worth is_null number_constant converted cast typedef_declared function_named variable_named init_declarator declaration file_declaration block_name block_declaration defined_name definition pointer_part array_part function_part made parameter type_name member_of_type_rules_declarators with_argument function_type body_read pointer_word initial_word initializer_words initial_values scalar text_fits by_name by_expression part finished by_list count initial_size initialized number_in character_in text_in text_initially as_value operand lvalue promoted in_sign pair_of stride arithmetic_on shift_on pointer_in_common equality_on logical_on operation sign_operation negation chosen_type chosen alternatives choice name number character holds_initially string_object text_found text parenthesised and_then name_number scoped expression value size_of typedef_name tagged_structure structure_name structure tagged_enumeration enumeration_name enumeration enumerator evaluated condition expression_statement block selection_of selection while_loop do_loop for_turns for_loop returned with_items list_behind block_items statement outermost_effects with_effects typed parts_of exceeded outcome likeness_of each_likeness signature_likeness_of conversion union conflict effects_of merged added shared points_to target_effects without_outer_effects same without_effects words_of opening_of automatics PlaceKeeps InitializerKeeps StmtKeeps row_type place_nodes initializer_nodes stmt_nodes places place_spots initializer_spots stmt_spots callee_of stores structure_in IsWithin AreVariables IsTypedPlace IsInitializer IsTypedStmt place_type packed
declared_80 = refl

-- int x; int «here» x { }
declared_81 : first_fault (codes "int x; int x { }") ((record { externals = (external.Declaration (record { place = 0; specs = (spec.Type 0 type_word.Int ∷ []); declarators = ((record { declarator = (of_declarator.Name (sp 4 5)); init = None }) ∷ []) }) ∷ external.Function (record { place = 7; specs = (spec.Type 7 type_word.Int ∷ []); declarator = (of_declarator.Name (sp 11 12)); body_place = 13; body = [] }) ∷ []) })) ≡ Some (3, 11)
unfolding hidden hidden-the_row-BlockItem-1 hidden-the_row-CType-0 hidden-the_row-CType-1 hidden-the_row-Declarator-0 hidden-the_row-Declarator-6 hidden-the_row-Enumerator-8 hidden-the_row-Expr-0 hidden-the_row-Expr-1 hidden-the_row-Expr-2 hidden-arguments hidden-the_row-Init-0 hidden-the_row-Initializer-0 hidden-the_row-Member-7 hidden-the_row-Param-5 hidden-the_row-Place-1 hidden-the_row-Spec-3 hidden-the_row-Stmt-0 hidden-unit-0 hidden-unit-1 hidden-the_row-TypeName-4 shape-the_row-BlockItem-1 shape-the_row-CType-0 shape-the_row-CType-1 shape-the_row-Declarator-0 shape-the_row-Declarator-6 shape-the_row-Enumerator-8 shape-the_row-Expr-0 shape-the_row-Expr-1 shape-the_row-Expr-2 shape-arguments shape-the_row-Init-0 shape-the_row-Initializer-0 shape-the_row-Member-7 shape-the_row-Param-5 shape-the_row-Place-1 shape-the_row-Spec-3 shape-the_row-Stmt-0 shape-unit-0 shape-unit-1 shape-the_row-TypeName-4 indirection element member access address unevaluated size size_of_expression size_of_type plain_assignment number_update pointer_update compound_assignment assignment step_update step spine fresh callee_in callee passed call worth is_null number_constant converted cast typedef_declared function_named variable_named init_declarator declaration file_declaration block_name block_declaration defined_name definition pointer_part array_part function_part made parameter type_name member_of_type_rules_declarators with_argument function_type body_read pointer_word initial_word initializer_words initial_values scalar text_fits by_name by_expression part finished by_list count initial_size initialized number_in character_in text_in text_initially as_value operand lvalue promoted in_sign pair_of stride arithmetic_on shift_on pointer_in_common equality_on logical_on operation sign_operation negation chosen_type chosen alternatives choice name number character holds_initially string_object text_found text parenthesised and_then name_number scoped expression value size_of typedef_name tagged_structure structure_name structure tagged_enumeration enumeration_name enumeration enumerator evaluated condition expression_statement block selection_of selection while_loop do_loop for_turns for_loop returned with_items list_behind block_items statement outermost_effects with_effects typed parts_of exceeded outcome likeness_of each_likeness signature_likeness_of conversion union conflict effects_of merged added shared points_to target_effects without_outer_effects same without_effects words_of opening_of automatics PlaceKeeps InitializerKeeps StmtKeeps row_type place_nodes initializer_nodes stmt_nodes places place_spots initializer_spots stmt_spots callee_of stores structure_in IsWithin AreVariables IsTypedPlace IsInitializer IsTypedStmt place_type packed
declared_81 = refl

-- int x; char «here» x { }
declared_82 : first_fault (codes "int x; char x { }") ((record { externals = (external.Declaration (record { place = 0; specs = (spec.Type 0 type_word.Int ∷ []); declarators = ((record { declarator = (of_declarator.Name (sp 4 5)); init = None }) ∷ []) }) ∷ external.Function (record { place = 7; specs = (spec.Type 7 type_word.Char ∷ []); declarator = (of_declarator.Name (sp 12 13)); body_place = 14; body = [] }) ∷ []) })) ≡ Some (3, 12)
unfolding hidden hidden-the_row-BlockItem-1 hidden-the_row-CType-0 hidden-the_row-CType-1 hidden-the_row-Declarator-0 hidden-the_row-Declarator-6 hidden-the_row-Enumerator-8 hidden-the_row-Expr-0 hidden-the_row-Expr-1 hidden-the_row-Expr-2 hidden-arguments hidden-the_row-Init-0 hidden-the_row-Initializer-0 hidden-the_row-Member-7 hidden-the_row-Param-5 hidden-the_row-Place-1 hidden-the_row-Spec-3 hidden-the_row-Stmt-0 hidden-unit-0 hidden-unit-1 hidden-the_row-TypeName-4 shape-the_row-BlockItem-1 shape-the_row-CType-0 shape-the_row-CType-1 shape-the_row-Declarator-0 shape-the_row-Declarator-6 shape-the_row-Enumerator-8 shape-the_row-Expr-0 shape-the_row-Expr-1 shape-the_row-Expr-2 shape-arguments shape-the_row-Init-0 shape-the_row-Initializer-0 shape-the_row-Member-7 shape-the_row-Param-5 shape-the_row-Place-1 shape-the_row-Spec-3 shape-the_row-Stmt-0 shape-unit-0 shape-unit-1 shape-the_row-TypeName-4 indirection element member access address unevaluated size size_of_expression size_of_type plain_assignment number_update pointer_update compound_assignment assignment step_update step spine fresh callee_in callee passed call worth is_null number_constant converted cast typedef_declared function_named variable_named init_declarator declaration file_declaration block_name block_declaration defined_name definition pointer_part array_part function_part made parameter type_name member_of_type_rules_declarators with_argument function_type body_read pointer_word initial_word initializer_words initial_values scalar text_fits by_name by_expression part finished by_list count initial_size initialized number_in character_in text_in text_initially as_value operand lvalue promoted in_sign pair_of stride arithmetic_on shift_on pointer_in_common equality_on logical_on operation sign_operation negation chosen_type chosen alternatives choice name number character holds_initially string_object text_found text parenthesised and_then name_number scoped expression value size_of typedef_name tagged_structure structure_name structure tagged_enumeration enumeration_name enumeration enumerator evaluated condition expression_statement block selection_of selection while_loop do_loop for_turns for_loop returned with_items list_behind block_items statement outermost_effects with_effects typed parts_of exceeded outcome likeness_of each_likeness signature_likeness_of conversion union conflict effects_of merged added shared points_to target_effects without_outer_effects same without_effects words_of opening_of automatics PlaceKeeps InitializerKeeps StmtKeeps row_type place_nodes initializer_nodes stmt_nodes places place_spots initializer_spots stmt_spots callee_of stores structure_in IsWithin AreVariables IsTypedPlace IsInitializer IsTypedStmt place_type packed
declared_82 = refl

-- typedef int T; typedef int «here» T { }
declared_83 : first_fault (codes "typedef int T; typedef int T { }") ((record { externals = (external.Declaration (record { place = 0; specs = (spec.Storage 0 storage.Typedef ∷ spec.Type 8 type_word.Int ∷ []); declarators = ((record { declarator = (of_declarator.Name (sp 12 13)); init = None }) ∷ []) }) ∷ external.Function (record { place = 15; specs = (spec.Storage 15 storage.Typedef ∷ spec.Type 23 type_word.Int ∷ []); declarator = (of_declarator.Name (sp 27 28)); body_place = 29; body = [] }) ∷ []) })) ≡ Some (3, 27)
unfolding hidden hidden-the_row-BlockItem-1 hidden-the_row-CType-0 hidden-the_row-CType-1 hidden-the_row-Declarator-0 hidden-the_row-Declarator-6 hidden-the_row-Enumerator-8 hidden-the_row-Expr-0 hidden-the_row-Expr-1 hidden-the_row-Expr-2 hidden-arguments hidden-the_row-Init-0 hidden-the_row-Initializer-0 hidden-the_row-Member-7 hidden-the_row-Param-5 hidden-the_row-Place-1 hidden-the_row-Spec-3 hidden-the_row-Stmt-0 hidden-unit-0 hidden-unit-1 hidden-the_row-TypeName-4 shape-the_row-BlockItem-1 shape-the_row-CType-0 shape-the_row-CType-1 shape-the_row-Declarator-0 shape-the_row-Declarator-6 shape-the_row-Enumerator-8 shape-the_row-Expr-0 shape-the_row-Expr-1 shape-the_row-Expr-2 shape-arguments shape-the_row-Init-0 shape-the_row-Initializer-0 shape-the_row-Member-7 shape-the_row-Param-5 shape-the_row-Place-1 shape-the_row-Spec-3 shape-the_row-Stmt-0 shape-unit-0 shape-unit-1 shape-the_row-TypeName-4 indirection element member access address unevaluated size size_of_expression size_of_type plain_assignment number_update pointer_update compound_assignment assignment step_update step spine fresh callee_in callee passed call worth is_null number_constant converted cast typedef_declared function_named variable_named init_declarator declaration file_declaration block_name block_declaration defined_name definition pointer_part array_part function_part made parameter type_name member_of_type_rules_declarators with_argument function_type body_read pointer_word initial_word initializer_words initial_values scalar text_fits by_name by_expression part finished by_list count initial_size initialized number_in character_in text_in text_initially as_value operand lvalue promoted in_sign pair_of stride arithmetic_on shift_on pointer_in_common equality_on logical_on operation sign_operation negation chosen_type chosen alternatives choice name number character holds_initially string_object text_found text parenthesised and_then name_number scoped expression value size_of typedef_name tagged_structure structure_name structure tagged_enumeration enumeration_name enumeration enumerator evaluated condition expression_statement block selection_of selection while_loop do_loop for_turns for_loop returned with_items list_behind block_items statement outermost_effects with_effects typed parts_of exceeded outcome likeness_of each_likeness signature_likeness_of conversion union conflict effects_of merged added shared points_to target_effects without_outer_effects same without_effects words_of opening_of automatics PlaceKeeps InitializerKeeps StmtKeeps row_type place_nodes initializer_nodes stmt_nodes places place_spots initializer_spots stmt_spots callee_of stores structure_in IsWithin AreVariables IsTypedPlace IsInitializer IsTypedStmt place_type packed
declared_83 = refl

-- void f(void); typedef void «here» f(void) { }
declared_84 : first_fault (codes "void f(void); typedef void f(void) { }") ((record { externals = (external.Declaration (record { place = 0; specs = (spec.Type 0 type_word.Void ∷ []); declarators = ((record { declarator = (of_declarator.Function (of_declarator.Name (sp 5 6)) 6 (params.Void 7) []); init = None }) ∷ []) }) ∷ external.Function (record { place = 14; specs = (spec.Storage 14 storage.Typedef ∷ spec.Type 22 type_word.Void ∷ []); declarator = (of_declarator.Function (of_declarator.Name (sp 27 28)) 28 (params.Void 29) []); body_place = 35; body = [] }) ∷ []) })) ≡ Some (2, 27)
unfolding hidden hidden-the_row-BlockItem-1 hidden-the_row-CType-0 hidden-the_row-CType-1 hidden-the_row-Declarator-0 hidden-the_row-Declarator-6 hidden-the_row-Enumerator-8 hidden-the_row-Expr-0 hidden-the_row-Expr-1 hidden-the_row-Expr-2 hidden-arguments hidden-the_row-Init-0 hidden-the_row-Initializer-0 hidden-the_row-Member-7 hidden-the_row-Param-5 hidden-the_row-Place-1 hidden-the_row-Spec-3 hidden-the_row-Stmt-0 hidden-unit-0 hidden-unit-1 hidden-the_row-TypeName-4 shape-the_row-BlockItem-1 shape-the_row-CType-0 shape-the_row-CType-1 shape-the_row-Declarator-0 shape-the_row-Declarator-6 shape-the_row-Enumerator-8 shape-the_row-Expr-0 shape-the_row-Expr-1 shape-the_row-Expr-2 shape-arguments shape-the_row-Init-0 shape-the_row-Initializer-0 shape-the_row-Member-7 shape-the_row-Param-5 shape-the_row-Place-1 shape-the_row-Spec-3 shape-the_row-Stmt-0 shape-unit-0 shape-unit-1 shape-the_row-TypeName-4 indirection element member access address unevaluated size size_of_expression size_of_type plain_assignment number_update pointer_update compound_assignment assignment step_update step spine fresh callee_in callee passed call worth is_null number_constant converted cast typedef_declared function_named variable_named init_declarator declaration file_declaration block_name block_declaration defined_name definition pointer_part array_part function_part made parameter type_name member_of_type_rules_declarators with_argument function_type body_read pointer_word initial_word initializer_words initial_values scalar text_fits by_name by_expression part finished by_list count initial_size initialized number_in character_in text_in text_initially as_value operand lvalue promoted in_sign pair_of stride arithmetic_on shift_on pointer_in_common equality_on logical_on operation sign_operation negation chosen_type chosen alternatives choice name number character holds_initially string_object text_found text parenthesised and_then name_number scoped expression value size_of typedef_name tagged_structure structure_name structure tagged_enumeration enumeration_name enumeration enumerator evaluated condition expression_statement block selection_of selection while_loop do_loop for_turns for_loop returned with_items list_behind block_items statement outermost_effects with_effects typed parts_of exceeded outcome likeness_of each_likeness signature_likeness_of conversion union conflict effects_of merged added shared points_to target_effects without_outer_effects same without_effects words_of opening_of automatics PlaceKeeps InitializerKeeps StmtKeeps row_type place_nodes initializer_nodes stmt_nodes places place_spots initializer_spots stmt_spots callee_of stores structure_in IsWithin AreVariables IsTypedPlace IsInitializer IsTypedStmt place_type packed
declared_84 = refl

-- typedef void f(void); typedef void «here» f(void) { }
declared_85 : first_fault (codes "typedef void f(void); typedef void f(void) { }") ((record { externals = (external.Declaration (record { place = 0; specs = (spec.Storage 0 storage.Typedef ∷ spec.Type 8 type_word.Void ∷ []); declarators = ((record { declarator = (of_declarator.Function (of_declarator.Name (sp 13 14)) 14 (params.Void 15) []); init = None }) ∷ []) }) ∷ external.Function (record { place = 22; specs = (spec.Storage 22 storage.Typedef ∷ spec.Type 30 type_word.Void ∷ []); declarator = (of_declarator.Function (of_declarator.Name (sp 35 36)) 36 (params.Void 37) []); body_place = 43; body = [] }) ∷ []) })) ≡ Some (3, 35)
unfolding hidden hidden-the_row-BlockItem-1 hidden-the_row-CType-0 hidden-the_row-CType-1 hidden-the_row-Declarator-0 hidden-the_row-Declarator-6 hidden-the_row-Enumerator-8 hidden-the_row-Expr-0 hidden-the_row-Expr-1 hidden-the_row-Expr-2 hidden-arguments hidden-the_row-Init-0 hidden-the_row-Initializer-0 hidden-the_row-Member-7 hidden-the_row-Param-5 hidden-the_row-Place-1 hidden-the_row-Spec-3 hidden-the_row-Stmt-0 hidden-unit-0 hidden-unit-1 hidden-the_row-TypeName-4 shape-the_row-BlockItem-1 shape-the_row-CType-0 shape-the_row-CType-1 shape-the_row-Declarator-0 shape-the_row-Declarator-6 shape-the_row-Enumerator-8 shape-the_row-Expr-0 shape-the_row-Expr-1 shape-the_row-Expr-2 shape-arguments shape-the_row-Init-0 shape-the_row-Initializer-0 shape-the_row-Member-7 shape-the_row-Param-5 shape-the_row-Place-1 shape-the_row-Spec-3 shape-the_row-Stmt-0 shape-unit-0 shape-unit-1 shape-the_row-TypeName-4 indirection element member access address unevaluated size size_of_expression size_of_type plain_assignment number_update pointer_update compound_assignment assignment step_update step spine fresh callee_in callee passed call worth is_null number_constant converted cast typedef_declared function_named variable_named init_declarator declaration file_declaration block_name block_declaration defined_name definition pointer_part array_part function_part made parameter type_name member_of_type_rules_declarators with_argument function_type body_read pointer_word initial_word initializer_words initial_values scalar text_fits by_name by_expression part finished by_list count initial_size initialized number_in character_in text_in text_initially as_value operand lvalue promoted in_sign pair_of stride arithmetic_on shift_on pointer_in_common equality_on logical_on operation sign_operation negation chosen_type chosen alternatives choice name number character holds_initially string_object text_found text parenthesised and_then name_number scoped expression value size_of typedef_name tagged_structure structure_name structure tagged_enumeration enumeration_name enumeration enumerator evaluated condition expression_statement block selection_of selection while_loop do_loop for_turns for_loop returned with_items list_behind block_items statement outermost_effects with_effects typed parts_of exceeded outcome likeness_of each_likeness signature_likeness_of conversion union conflict effects_of merged added shared points_to target_effects without_outer_effects same without_effects words_of opening_of automatics PlaceKeeps InitializerKeeps StmtKeeps row_type place_nodes initializer_nodes stmt_nodes places place_spots initializer_spots stmt_spots callee_of stores structure_in IsWithin AreVariables IsTypedPlace IsInitializer IsTypedStmt place_type packed
declared_85 = refl
