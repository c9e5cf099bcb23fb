-- What is seen of whole units at their end.
use Rattle.std.proofs.Common.{map, option_map, ◌≡◌, refl, ℕ, [], ◌∷◌, Option, Some, None, codes}
use denote.Hole.Carrier.{hidden}
use Rattle.c_tree.specs.declared.declarations.Init.TheBlock.{hidden-the_row-Init-0, shape-the_row-Init-0}
use Rattle.c_tree.specs.declared.declarations.Init.TheVariants as init
use Rattle.c_tree.specs.declared.expressions.BinaryOperator.TheVariants as binary
use Rattle.c_tree.specs.declared.expressions.Declarator.TheBlock.{hidden-the_row-Declarator-0, shape-the_row-Declarator-0, hidden-the_row-Declarator-6, shape-the_row-Declarator-6, hidden-the_row-Expr-1, shape-the_row-Expr-1, hidden-the_row-Expr-2, shape-the_row-Expr-2, hidden-the_row-Spec-3, shape-the_row-Spec-3, hidden-the_row-TypeName-4, shape-the_row-TypeName-4, hidden-the_row-Param-5, shape-the_row-Param-5, hidden-the_row-Member-7, shape-the_row-Member-7, hidden-the_row-Enumerator-8, shape-the_row-Enumerator-8}
use Rattle.c_tree.specs.declared.expressions.Declarator.TheVariants as of_declarator
use Rattle.c_tree.specs.declared.expressions.Expr.TheVariants as expr
use Rattle.c_tree.specs.declared.expressions.Parameters.TheVariants as params
use Rattle.c_tree.specs.declared.expressions.Spec.TheVariants as spec
use Rattle.c_tree.specs.declared.expressions.StepOperator.TheVariants as step
use Rattle.c_tree.specs.declared.expressions.UnaryOperator.TheVariants as unary
use Rattle.c_tree.specs.declared.statements.BlockItem.TheBlock.{hidden-the_row-BlockItem-1, shape-the_row-BlockItem-1, hidden-the_row-Stmt-0, shape-the_row-Stmt-0}
use Rattle.c_tree.specs.declared.statements.BlockItem.TheVariants as item
use Rattle.c_tree.specs.declared.statements.External.TheVariants as external
use Rattle.c_tree.specs.declared.statements.ForStart.TheVariants as start
use Rattle.c_tree.specs.declared.statements.Stmt.TheVariants as stmt
use Rattle.c_tree.specs.declared.words.AttrSpelling.TheVariants as spelling
use Rattle.c_tree.specs.declared.words.Effect.TheVariants as effect
use Rattle.c_tree.specs.declared.words.Span.{Span}
use Rattle.c_tree.specs.declared.words.StorageWord.TheVariants as storage
use Rattle.c_tree.specs.declared.words.TypeWord.TheVariants as type_word
use Rattle.eff_types.specs.declared.types.CType.TheBlock.{hidden-the_row-CType-0, shape-the_row-CType-0, hidden-the_row-CType-1, shape-the_row-CType-1}
use Rattle.core_unit.specs.declared.expressions.Expr.TheBlock.{hidden-the_row-Expr-0, shape-the_row-Expr-0, hidden-the_row-Place-1, shape-the_row-Place-1, hidden-the_row-Expr-2 as hidden-arguments, shape-the_row-Expr-2 as shape-arguments}
use Rattle.core_unit.specs.declared.body.Initializer.TheBlock.{hidden-the_row-Initializer-0, shape-the_row-Initializer-0}
use Rattle.core_unit.specs.declared.body.Stmt.TheBlock.{hidden-the_row-Stmt-0 as hidden-unit-0, shape-the_row-Stmt-0 as shape-unit-0, hidden-the_row-Stmt-1 as hidden-unit-1, shape-the_row-Stmt-1 as shape-unit-1}
use Rattle.eff_types.specs.declared.levels.Level.TheVariants as level
use Rattle.eff_types.specs.declared.types.CType.{Char, Int}
use Rattle.core_unit.specs.Shapes.{array_of}
use Rattle.core_unit.specs.declared.tables.Object.{Object}
use Rattle.type_rules.specs.Seen.{Seen}
use Rattle.type_rules.specs.declared.notes.TypeWarning.TheVariants as warning
use Rattle.type_rules.specs.Access.{indirection, element, member, access, address, unevaluated, size, size_of_expression, size_of_type}
use Rattle.type_rules.specs.Assignments.{plain_assignment, number_update, pointer_update, compound_assignment, assignment, step_update, step}
use Rattle.type_rules.specs.Calls.{spine, fresh, callee_in, callee, passed, call}
use Rattle.type_rules.specs.Constants.{worth, is_null, number_constant}
use Rattle.type_rules.specs.Conversions.{converted, cast}
use Rattle.type_rules.specs.Declarations.{typedef_declared, function_named, variable_named, init_declarator, declaration, file_declaration, block_name, block_declaration, defined_name, definition}
use Rattle.type_rules.specs.Declarators.{pointer_part, array_part, function_part, made, parameter, type_name, member as member_of_type_rules_declarators}
use Rattle.type_rules.specs.Expressions.{with_argument}
use Rattle.type_rules.specs.Functions.{function_type, body_read}
use Rattle.type_rules.specs.InitialValues.{pointer_word, initial_word, initializer_words, initial_values}
use Rattle.type_rules.specs.Initializers.{scalar, text_fits, by_name, by_expression, part, finished, by_list, count, initial_size, initialized}
use Rattle.type_rules.specs.Literals.{number_in, character_in, text_in, text_initially}
use Rattle.type_rules.specs.Operands.{as_value, operand, lvalue, promoted, in_sign}
use Rattle.type_rules.specs.Operators.{pair_of, stride, arithmetic_on, shift_on, pointer_in_common, equality_on, logical_on, operation, sign_operation, negation, chosen_type, chosen, alternatives, choice}
use Rattle.type_rules.specs.Primaries.{name, number, character, holds_initially, string_object, text_found, text, parenthesised}
use Rattle.type_rules.specs.Reading.{and_then, name_number, scoped, Read, Good, Bad}
use Rattle.type_rules.specs.Recursion.{expression, value}
use Rattle.type_rules.specs.Sizes.{size_of}
use Rattle.type_rules.specs.Specifiers.{typedef_name, tagged_structure, structure_name, structure, tagged_enumeration, enumeration_name, enumeration, enumerator}
use Rattle.type_rules.specs.Statements.{evaluated, condition, expression_statement, block, selection_of, selection, while_loop, do_loop, for_turns, for_loop, returned, with_items, list_behind, block_items, statement}
use Rattle.type_rules.specs.Types.{outermost_effects, with_effects}
use Rattle.type_rules.specs.Units.{typed, parts_of, exceeded, outcome}
use Rattle.eff_types.specs.Comparison.{likeness_of, each_likeness, signature_likeness_of}
use Rattle.eff_types.specs.Conversion.{conversion}
use Rattle.eff_types.specs.Effects.{union, conflict, effects_of, merged, added, shared}
use Rattle.eff_types.specs.Types.{points_to, target_effects, without_outer_effects, same, without_effects}
use Rattle.core_unit.specs.Layout.{words_of, opening_of, automatics}
use Rattle.core_unit.specs.Levels.{PlaceKeeps, InitializerKeeps, StmtKeeps}
use Rattle.core_unit.specs.Library.{row_type}
use Rattle.core_unit.specs.Nodes.{place_nodes, initializer_nodes, stmt_nodes}
use Rattle.core_unit.specs.Places.{places, place_spots, initializer_spots, stmt_spots}
use Rattle.core_unit.specs.Shapes.{callee_of}
use Rattle.core_unit.specs.Stores.{stores}
use Rattle.core_unit.specs.Structures.{structure_in, IsWithin}
use Rattle.core_unit.specs.Typed.{AreVariables, IsTypedPlace, IsInitializer, IsTypedStmt}
use Rattle.core_unit.specs.Typing.{place_type}
use Rattle.core_unit.specs.Words.{packed}

abbrev good : Read (Unit {0}) → Option Seen
good (Good _ s) = Some s
good (Bad number place) = None

abbrev both : {A B : Type 0} → A → B → A × B
both a b = (a, b)

abbrev object_of : ℕ → ℕ → ℕ → Object
object_of at words variable = record { at = at; words = words; variable = Some variable }

abbrev sp : ℕ → ℕ → Span
sp start end = record { start = start; end = end }

-- void f(void) [[clang::nonblocking]]; void (*p)(void) = f;
seen_1 : option_map (λ s. s.warnings) (good (typed (codes "void f(void) [[clang::nonblocking]]; void (*p)(void) = f;") ([]) (record { externals = (external.Declaration (record { place = 0; specs = (spec.Type 0 type_word.Void ∷ []); declarators = ((record { declarator = (of_declarator.Function (of_declarator.Name (sp 5 6)) 6 (params.Void 7) ((record { place = 13; spelling = spelling.Brackets; words = ((record { place = 22; effect = (effect.NonBlocking None) }) ∷ []) }) ∷ [])); init = None }) ∷ []) }) ∷ external.Declaration (record { place = 37; specs = (spec.Type 37 type_word.Void ∷ []); declarators = ((record { declarator = (of_declarator.Function (of_declarator.Parenthesised 42 (of_declarator.Pointer 43 [] (of_declarator.Name (sp 44 45)))) 46 (params.Void 47) []); init = (Some (init.Value (expr.Name (sp 55 56)))) }) ∷ []) }) ∷ []) }))) ≡ Some ([])
unfolding hidden hidden-the_row-BlockItem-1 hidden-the_row-CType-0 hidden-the_row-CType-1 hidden-the_row-Declarator-0 hidden-the_row-Declarator-6 hidden-the_row-Enumerator-8 hidden-the_row-Expr-0 hidden-the_row-Expr-1 hidden-the_row-Expr-2 hidden-arguments hidden-the_row-Init-0 hidden-the_row-Initializer-0 hidden-the_row-Member-7 hidden-the_row-Param-5 hidden-the_row-Place-1 hidden-the_row-Spec-3 hidden-the_row-Stmt-0 hidden-unit-0 hidden-unit-1 hidden-the_row-TypeName-4 shape-the_row-BlockItem-1 shape-the_row-CType-0 shape-the_row-CType-1 shape-the_row-Declarator-0 shape-the_row-Declarator-6 shape-the_row-Enumerator-8 shape-the_row-Expr-0 shape-the_row-Expr-1 shape-the_row-Expr-2 shape-arguments shape-the_row-Init-0 shape-the_row-Initializer-0 shape-the_row-Member-7 shape-the_row-Param-5 shape-the_row-Place-1 shape-the_row-Spec-3 shape-the_row-Stmt-0 shape-unit-0 shape-unit-1 shape-the_row-TypeName-4 indirection element member access address unevaluated size size_of_expression size_of_type plain_assignment number_update pointer_update compound_assignment assignment step_update step spine fresh callee_in callee passed call worth is_null number_constant converted cast typedef_declared function_named variable_named init_declarator declaration file_declaration block_name block_declaration defined_name definition pointer_part array_part function_part made parameter type_name member_of_type_rules_declarators with_argument function_type body_read pointer_word initial_word initializer_words initial_values scalar text_fits by_name by_expression part finished by_list count initial_size initialized number_in character_in text_in text_initially as_value operand lvalue promoted in_sign pair_of stride arithmetic_on shift_on pointer_in_common equality_on logical_on operation sign_operation negation chosen_type chosen alternatives choice name number character holds_initially string_object text_found text parenthesised and_then name_number scoped expression value size_of typedef_name tagged_structure structure_name structure tagged_enumeration enumeration_name enumeration enumerator evaluated condition expression_statement block selection_of selection while_loop do_loop for_turns for_loop returned with_items list_behind block_items statement outermost_effects with_effects typed parts_of exceeded outcome likeness_of each_likeness signature_likeness_of conversion union conflict effects_of merged added shared points_to target_effects without_outer_effects same without_effects words_of opening_of automatics PlaceKeeps InitializerKeeps StmtKeeps row_type place_nodes initializer_nodes stmt_nodes places place_spots initializer_spots stmt_spots callee_of stores structure_in IsWithin AreVariables IsTypedPlace IsInitializer IsTypedStmt place_type packed
seen_1 = refl

-- void f(void); void (*p)(void) [[clang::nonblocking]] = f;
seen_2 : option_map (λ s. s.warnings) (good (typed (codes "void f(void); void (*p)(void) [[clang::nonblocking]] = f;") ([]) (record { externals = (external.Declaration (record { place = 0; specs = (spec.Type 0 type_word.Void ∷ []); declarators = ((record { declarator = (of_declarator.Function (of_declarator.Name (sp 5 6)) 6 (params.Void 7) []); init = None }) ∷ []) }) ∷ external.Declaration (record { place = 14; specs = (spec.Type 14 type_word.Void ∷ []); declarators = ((record { declarator = (of_declarator.Function (of_declarator.Parenthesised 19 (of_declarator.Pointer 20 [] (of_declarator.Name (sp 21 22)))) 23 (params.Void 24) ((record { place = 30; spelling = spelling.Brackets; words = ((record { place = 39; effect = (effect.NonBlocking None) }) ∷ []) }) ∷ [])); init = (Some (init.Value (expr.Name (sp 55 56)))) }) ∷ []) }) ∷ []) }))) ≡ Some (warning.Conversion 55 level.NonBlocking ∷ [])
unfolding hidden hidden-the_row-BlockItem-1 hidden-the_row-CType-0 hidden-the_row-CType-1 hidden-the_row-Declarator-0 hidden-the_row-Declarator-6 hidden-the_row-Enumerator-8 hidden-the_row-Expr-0 hidden-the_row-Expr-1 hidden-the_row-Expr-2 hidden-arguments hidden-the_row-Init-0 hidden-the_row-Initializer-0 hidden-the_row-Member-7 hidden-the_row-Param-5 hidden-the_row-Place-1 hidden-the_row-Spec-3 hidden-the_row-Stmt-0 hidden-unit-0 hidden-unit-1 hidden-the_row-TypeName-4 shape-the_row-BlockItem-1 shape-the_row-CType-0 shape-the_row-CType-1 shape-the_row-Declarator-0 shape-the_row-Declarator-6 shape-the_row-Enumerator-8 shape-the_row-Expr-0 shape-the_row-Expr-1 shape-the_row-Expr-2 shape-arguments shape-the_row-Init-0 shape-the_row-Initializer-0 shape-the_row-Member-7 shape-the_row-Param-5 shape-the_row-Place-1 shape-the_row-Spec-3 shape-the_row-Stmt-0 shape-unit-0 shape-unit-1 shape-the_row-TypeName-4 indirection element member access address unevaluated size size_of_expression size_of_type plain_assignment number_update pointer_update compound_assignment assignment step_update step spine fresh callee_in callee passed call worth is_null number_constant converted cast typedef_declared function_named variable_named init_declarator declaration file_declaration block_name block_declaration defined_name definition pointer_part array_part function_part made parameter type_name member_of_type_rules_declarators with_argument function_type body_read pointer_word initial_word initializer_words initial_values scalar text_fits by_name by_expression part finished by_list count initial_size initialized number_in character_in text_in text_initially as_value operand lvalue promoted in_sign pair_of stride arithmetic_on shift_on pointer_in_common equality_on logical_on operation sign_operation negation chosen_type chosen alternatives choice name number character holds_initially string_object text_found text parenthesised and_then name_number scoped expression value size_of typedef_name tagged_structure structure_name structure tagged_enumeration enumeration_name enumeration enumerator evaluated condition expression_statement block selection_of selection while_loop do_loop for_turns for_loop returned with_items list_behind block_items statement outermost_effects with_effects typed parts_of exceeded outcome likeness_of each_likeness signature_likeness_of conversion union conflict effects_of merged added shared points_to target_effects without_outer_effects same without_effects words_of opening_of automatics PlaceKeeps InitializerKeeps StmtKeeps row_type place_nodes initializer_nodes stmt_nodes places place_spots initializer_spots stmt_spots callee_of stores structure_in IsWithin AreVariables IsTypedPlace IsInitializer IsTypedStmt place_type packed
seen_2 = refl

-- void f(void); void (*p)(void) [[clang::nonblocking]] = f; void f(void) [[clang::nonblocking]];
seen_3 : option_map (λ s. s.warnings) (good (typed (codes "void f(void); void (*p)(void) [[clang::nonblocking]] = f; void f(void) [[clang::nonblocking]];") ([]) (record { externals = (external.Declaration (record { place = 0; specs = (spec.Type 0 type_word.Void ∷ []); declarators = ((record { declarator = (of_declarator.Function (of_declarator.Name (sp 5 6)) 6 (params.Void 7) []); init = None }) ∷ []) }) ∷ external.Declaration (record { place = 14; specs = (spec.Type 14 type_word.Void ∷ []); declarators = ((record { declarator = (of_declarator.Function (of_declarator.Parenthesised 19 (of_declarator.Pointer 20 [] (of_declarator.Name (sp 21 22)))) 23 (params.Void 24) ((record { place = 30; spelling = spelling.Brackets; words = ((record { place = 39; effect = (effect.NonBlocking None) }) ∷ []) }) ∷ [])); init = (Some (init.Value (expr.Name (sp 55 56)))) }) ∷ []) }) ∷ external.Declaration (record { place = 58; specs = (spec.Type 58 type_word.Void ∷ []); declarators = ((record { declarator = (of_declarator.Function (of_declarator.Name (sp 63 64)) 64 (params.Void 65) ((record { place = 71; spelling = spelling.Brackets; words = ((record { place = 80; effect = (effect.NonBlocking None) }) ∷ []) }) ∷ [])); init = None }) ∷ []) }) ∷ []) }))) ≡ Some ([])
unfolding hidden hidden-the_row-BlockItem-1 hidden-the_row-CType-0 hidden-the_row-CType-1 hidden-the_row-Declarator-0 hidden-the_row-Declarator-6 hidden-the_row-Enumerator-8 hidden-the_row-Expr-0 hidden-the_row-Expr-1 hidden-the_row-Expr-2 hidden-arguments hidden-the_row-Init-0 hidden-the_row-Initializer-0 hidden-the_row-Member-7 hidden-the_row-Param-5 hidden-the_row-Place-1 hidden-the_row-Spec-3 hidden-the_row-Stmt-0 hidden-unit-0 hidden-unit-1 hidden-the_row-TypeName-4 shape-the_row-BlockItem-1 shape-the_row-CType-0 shape-the_row-CType-1 shape-the_row-Declarator-0 shape-the_row-Declarator-6 shape-the_row-Enumerator-8 shape-the_row-Expr-0 shape-the_row-Expr-1 shape-the_row-Expr-2 shape-arguments shape-the_row-Init-0 shape-the_row-Initializer-0 shape-the_row-Member-7 shape-the_row-Param-5 shape-the_row-Place-1 shape-the_row-Spec-3 shape-the_row-Stmt-0 shape-unit-0 shape-unit-1 shape-the_row-TypeName-4 indirection element member access address unevaluated size size_of_expression size_of_type plain_assignment number_update pointer_update compound_assignment assignment step_update step spine fresh callee_in callee passed call worth is_null number_constant converted cast typedef_declared function_named variable_named init_declarator declaration file_declaration block_name block_declaration defined_name definition pointer_part array_part function_part made parameter type_name member_of_type_rules_declarators with_argument function_type body_read pointer_word initial_word initializer_words initial_values scalar text_fits by_name by_expression part finished by_list count initial_size initialized number_in character_in text_in text_initially as_value operand lvalue promoted in_sign pair_of stride arithmetic_on shift_on pointer_in_common equality_on logical_on operation sign_operation negation chosen_type chosen alternatives choice name number character holds_initially string_object text_found text parenthesised and_then name_number scoped expression value size_of typedef_name tagged_structure structure_name structure tagged_enumeration enumeration_name enumeration enumerator evaluated condition expression_statement block selection_of selection while_loop do_loop for_turns for_loop returned with_items list_behind block_items statement outermost_effects with_effects typed parts_of exceeded outcome likeness_of each_likeness signature_likeness_of conversion union conflict effects_of merged added shared points_to target_effects without_outer_effects same without_effects words_of opening_of automatics PlaceKeeps InitializerKeeps StmtKeeps row_type place_nodes initializer_nodes stmt_nodes places place_spots initializer_spots stmt_spots callee_of stores structure_in IsWithin AreVariables IsTypedPlace IsInitializer IsTypedStmt place_type packed
seen_3 = refl

-- void f(void); void (*p)(void) [[clang::nonblocking]] = f;
seen_4 : option_map (λ s. s.warnings) (good (typed (codes "void f(void); void (*p)(void) [[clang::nonblocking]] = f;") (0 ∷ []) (record { externals = (external.Declaration (record { place = 0; specs = (spec.Type 0 type_word.Void ∷ []); declarators = ((record { declarator = (of_declarator.Function (of_declarator.Name (sp 5 6)) 6 (params.Void 7) []); init = None }) ∷ []) }) ∷ external.Declaration (record { place = 14; specs = (spec.Type 14 type_word.Void ∷ []); declarators = ((record { declarator = (of_declarator.Function (of_declarator.Parenthesised 19 (of_declarator.Pointer 20 [] (of_declarator.Name (sp 21 22)))) 23 (params.Void 24) ((record { place = 30; spelling = spelling.Brackets; words = ((record { place = 39; effect = (effect.NonBlocking None) }) ∷ []) }) ∷ [])); init = (Some (init.Value (expr.Name (sp 55 56)))) }) ∷ []) }) ∷ []) }))) ≡ Some ([])
unfolding hidden hidden-the_row-BlockItem-1 hidden-the_row-CType-0 hidden-the_row-CType-1 hidden-the_row-Declarator-0 hidden-the_row-Declarator-6 hidden-the_row-Enumerator-8 hidden-the_row-Expr-0 hidden-the_row-Expr-1 hidden-the_row-Expr-2 hidden-arguments hidden-the_row-Init-0 hidden-the_row-Initializer-0 hidden-the_row-Member-7 hidden-the_row-Param-5 hidden-the_row-Place-1 hidden-the_row-Spec-3 hidden-the_row-Stmt-0 hidden-unit-0 hidden-unit-1 hidden-the_row-TypeName-4 shape-the_row-BlockItem-1 shape-the_row-CType-0 shape-the_row-CType-1 shape-the_row-Declarator-0 shape-the_row-Declarator-6 shape-the_row-Enumerator-8 shape-the_row-Expr-0 shape-the_row-Expr-1 shape-the_row-Expr-2 shape-arguments shape-the_row-Init-0 shape-the_row-Initializer-0 shape-the_row-Member-7 shape-the_row-Param-5 shape-the_row-Place-1 shape-the_row-Spec-3 shape-the_row-Stmt-0 shape-unit-0 shape-unit-1 shape-the_row-TypeName-4 indirection element member access address unevaluated size size_of_expression size_of_type plain_assignment number_update pointer_update compound_assignment assignment step_update step spine fresh callee_in callee passed call worth is_null number_constant converted cast typedef_declared function_named variable_named init_declarator declaration file_declaration block_name block_declaration defined_name definition pointer_part array_part function_part made parameter type_name member_of_type_rules_declarators with_argument function_type body_read pointer_word initial_word initializer_words initial_values scalar text_fits by_name by_expression part finished by_list count initial_size initialized number_in character_in text_in text_initially as_value operand lvalue promoted in_sign pair_of stride arithmetic_on shift_on pointer_in_common equality_on logical_on operation sign_operation negation chosen_type chosen alternatives choice name number character holds_initially string_object text_found text parenthesised and_then name_number scoped expression value size_of typedef_name tagged_structure structure_name structure tagged_enumeration enumeration_name enumeration enumerator evaluated condition expression_statement block selection_of selection while_loop do_loop for_turns for_loop returned with_items list_behind block_items statement outermost_effects with_effects typed parts_of exceeded outcome likeness_of each_likeness signature_likeness_of conversion union conflict effects_of merged added shared points_to target_effects without_outer_effects same without_effects words_of opening_of automatics PlaceKeeps InitializerKeeps StmtKeeps row_type place_nodes initializer_nodes stmt_nodes places place_spots initializer_spots stmt_spots callee_of stores structure_in IsWithin AreVariables IsTypedPlace IsInitializer IsTypedStmt place_type packed
seen_4 = refl

-- void g(void (*)(void) [[clang::nonblocking]]); void f(void); void h(void) { g(f); } void f(void) [[clang::nonallocating]];
seen_5 : option_map (λ s. s.warnings) (good (typed (codes "void g(void (*)(void) [[clang::nonblocking]]); void f(void); void h(void) { g(f); } void f(void) [[clang::nonallocating]];") ([]) (record { externals = (external.Declaration (record { place = 0; specs = (spec.Type 0 type_word.Void ∷ []); declarators = ((record { declarator = (of_declarator.Function (of_declarator.Name (sp 5 6)) 6 (params.List ((record { place = 7; specs = (spec.Type 7 type_word.Void ∷ []); declarator = (of_declarator.Function (of_declarator.Parenthesised 12 (of_declarator.Pointer 13 [] of_declarator.Absent)) 15 (params.Void 16) ((record { place = 22; spelling = spelling.Brackets; words = ((record { place = 31; effect = (effect.NonBlocking None) }) ∷ []) }) ∷ [])) }) ∷ [])) []); init = None }) ∷ []) }) ∷ external.Declaration (record { place = 47; specs = (spec.Type 47 type_word.Void ∷ []); declarators = ((record { declarator = (of_declarator.Function (of_declarator.Name (sp 52 53)) 53 (params.Void 54) []); init = None }) ∷ []) }) ∷ external.Function (record { place = 61; specs = (spec.Type 61 type_word.Void ∷ []); declarator = (of_declarator.Function (of_declarator.Name (sp 66 67)) 67 (params.Void 68) []); body_place = 74; body = (item.Statement (stmt.Expression 76 (Some (expr.Call 76 (expr.Name (sp 76 77)) ((expr.Name (sp 78 79)) ∷ [])))) ∷ []) }) ∷ external.Declaration (record { place = 84; specs = (spec.Type 84 type_word.Void ∷ []); declarators = ((record { declarator = (of_declarator.Function (of_declarator.Name (sp 89 90)) 90 (params.Void 91) ((record { place = 97; spelling = spelling.Brackets; words = ((record { place = 106; effect = (effect.NonAllocating None) }) ∷ []) }) ∷ [])); init = None }) ∷ []) }) ∷ []) }))) ≡ Some (warning.Conversion 78 level.NonBlocking ∷ [])
unfolding hidden hidden-the_row-BlockItem-1 hidden-the_row-CType-0 hidden-the_row-CType-1 hidden-the_row-Declarator-0 hidden-the_row-Declarator-6 hidden-the_row-Enumerator-8 hidden-the_row-Expr-0 hidden-the_row-Expr-1 hidden-the_row-Expr-2 hidden-arguments hidden-the_row-Init-0 hidden-the_row-Initializer-0 hidden-the_row-Member-7 hidden-the_row-Param-5 hidden-the_row-Place-1 hidden-the_row-Spec-3 hidden-the_row-Stmt-0 hidden-unit-0 hidden-unit-1 hidden-the_row-TypeName-4 shape-the_row-BlockItem-1 shape-the_row-CType-0 shape-the_row-CType-1 shape-the_row-Declarator-0 shape-the_row-Declarator-6 shape-the_row-Enumerator-8 shape-the_row-Expr-0 shape-the_row-Expr-1 shape-the_row-Expr-2 shape-arguments shape-the_row-Init-0 shape-the_row-Initializer-0 shape-the_row-Member-7 shape-the_row-Param-5 shape-the_row-Place-1 shape-the_row-Spec-3 shape-the_row-Stmt-0 shape-unit-0 shape-unit-1 shape-the_row-TypeName-4 indirection element member access address unevaluated size size_of_expression size_of_type plain_assignment number_update pointer_update compound_assignment assignment step_update step spine fresh callee_in callee passed call worth is_null number_constant converted cast typedef_declared function_named variable_named init_declarator declaration file_declaration block_name block_declaration defined_name definition pointer_part array_part function_part made parameter type_name member_of_type_rules_declarators with_argument function_type body_read pointer_word initial_word initializer_words initial_values scalar text_fits by_name by_expression part finished by_list count initial_size initialized number_in character_in text_in text_initially as_value operand lvalue promoted in_sign pair_of stride arithmetic_on shift_on pointer_in_common equality_on logical_on operation sign_operation negation chosen_type chosen alternatives choice name number character holds_initially string_object text_found text parenthesised and_then name_number scoped expression value size_of typedef_name tagged_structure structure_name structure tagged_enumeration enumeration_name enumeration enumerator evaluated condition expression_statement block selection_of selection while_loop do_loop for_turns for_loop returned with_items list_behind block_items statement outermost_effects with_effects typed parts_of exceeded outcome likeness_of each_likeness signature_likeness_of conversion union conflict effects_of merged added shared points_to target_effects without_outer_effects same without_effects words_of opening_of automatics PlaceKeeps InitializerKeeps StmtKeeps row_type place_nodes initializer_nodes stmt_nodes places place_spots initializer_spots stmt_spots callee_of stores structure_in IsWithin AreVariables IsTypedPlace IsInitializer IsTypedStmt place_type packed
seen_5 = refl

-- int x = 7; char *p = "ab"; int y; int *q = &y; void f(void); void (*r)(void) = f; static int z = 0;
seen_6 : option_map (λ s. both s.static_words (map (λ i. i.at) s.static_values)) (good (typed (codes "int x = 7; char *p = \"ab\"; int y; int *q = &y; void f(void); void (*r)(void) = f; static int z = 0;") ([]) (record { externals = (external.Declaration (record { place = 0; specs = (spec.Type 0 type_word.Int ∷ []); declarators = ((record { declarator = (of_declarator.Name (sp 4 5)); init = (Some (init.Value (expr.Number (sp 8 9)))) }) ∷ []) }) ∷ external.Declaration (record { place = 11; specs = (spec.Type 11 type_word.Char ∷ []); declarators = ((record { declarator = (of_declarator.Pointer 16 [] (of_declarator.Name (sp 17 18))); init = (Some (init.Value (expr.Text ((sp 21 25) ∷ [])))) }) ∷ []) }) ∷ external.Declaration (record { place = 27; specs = (spec.Type 27 type_word.Int ∷ []); declarators = ((record { declarator = (of_declarator.Name (sp 31 32)); init = None }) ∷ []) }) ∷ external.Declaration (record { place = 34; specs = (spec.Type 34 type_word.Int ∷ []); declarators = ((record { declarator = (of_declarator.Pointer 38 [] (of_declarator.Name (sp 39 40))); init = (Some (init.Value (expr.Unary 43 unary.Address (expr.Name (sp 44 45))))) }) ∷ []) }) ∷ external.Declaration (record { place = 47; specs = (spec.Type 47 type_word.Void ∷ []); declarators = ((record { declarator = (of_declarator.Function (of_declarator.Name (sp 52 53)) 53 (params.Void 54) []); init = None }) ∷ []) }) ∷ external.Declaration (record { place = 61; specs = (spec.Type 61 type_word.Void ∷ []); declarators = ((record { declarator = (of_declarator.Function (of_declarator.Parenthesised 66 (of_declarator.Pointer 67 [] (of_declarator.Name (sp 68 69)))) 70 (params.Void 71) []); init = (Some (init.Value (expr.Name (sp 79 80)))) }) ∷ []) }) ∷ external.Declaration (record { place = 82; specs = (spec.Storage 82 storage.Static ∷ spec.Type 89 type_word.Int ∷ []); declarators = ((record { declarator = (of_declarator.Name (sp 93 94)); init = (Some (init.Value (expr.Number (sp 97 98)))) }) ∷ []) }) ∷ []) }))) ≡ Some (both 9 (1 ∷ 3 ∷ 4 ∷ 2 ∷ 7 ∷ 8 ∷ []))
unfolding hidden hidden-the_row-BlockItem-1 hidden-the_row-CType-0 hidden-the_row-CType-1 hidden-the_row-Declarator-0 hidden-the_row-Declarator-6 hidden-the_row-Enumerator-8 hidden-the_row-Expr-0 hidden-the_row-Expr-1 hidden-the_row-Expr-2 hidden-arguments hidden-the_row-Init-0 hidden-the_row-Initializer-0 hidden-the_row-Member-7 hidden-the_row-Param-5 hidden-the_row-Place-1 hidden-the_row-Spec-3 hidden-the_row-Stmt-0 hidden-unit-0 hidden-unit-1 hidden-the_row-TypeName-4 shape-the_row-BlockItem-1 shape-the_row-CType-0 shape-the_row-CType-1 shape-the_row-Declarator-0 shape-the_row-Declarator-6 shape-the_row-Enumerator-8 shape-the_row-Expr-0 shape-the_row-Expr-1 shape-the_row-Expr-2 shape-arguments shape-the_row-Init-0 shape-the_row-Initializer-0 shape-the_row-Member-7 shape-the_row-Param-5 shape-the_row-Place-1 shape-the_row-Spec-3 shape-the_row-Stmt-0 shape-unit-0 shape-unit-1 shape-the_row-TypeName-4 indirection element member access address unevaluated size size_of_expression size_of_type plain_assignment number_update pointer_update compound_assignment assignment step_update step spine fresh callee_in callee passed call worth is_null number_constant converted cast typedef_declared function_named variable_named init_declarator declaration file_declaration block_name block_declaration defined_name definition pointer_part array_part function_part made parameter type_name member_of_type_rules_declarators with_argument function_type body_read pointer_word initial_word initializer_words initial_values scalar text_fits by_name by_expression part finished by_list count initial_size initialized number_in character_in text_in text_initially as_value operand lvalue promoted in_sign pair_of stride arithmetic_on shift_on pointer_in_common equality_on logical_on operation sign_operation negation chosen_type chosen alternatives choice name number character holds_initially string_object text_found text parenthesised and_then name_number scoped expression value size_of typedef_name tagged_structure structure_name structure tagged_enumeration enumeration_name enumeration enumerator evaluated condition expression_statement block selection_of selection while_loop do_loop for_turns for_loop returned with_items list_behind block_items statement outermost_effects with_effects typed parts_of exceeded outcome likeness_of each_likeness signature_likeness_of conversion union conflict effects_of merged added shared points_to target_effects without_outer_effects same without_effects words_of opening_of automatics PlaceKeeps InitializerKeeps StmtKeeps row_type place_nodes initializer_nodes stmt_nodes places place_spots initializer_spots stmt_spots callee_of stores structure_in IsWithin AreVariables IsTypedPlace IsInitializer IsTypedStmt place_type packed
seen_6 = refl

-- int f(int a) { int b; int c[3]; { int d; } for (int e = 0; e < a; e++) { int g; } return b; }
seen_7 : option_map (λ s. map (λ f. f.frame_words) s.functions) (good (typed (codes "int f(int a) { int b; int c[3]; { int d; } for (int e = 0; e < a; e++) { int g; } return b; }") ([]) (record { externals = (external.Function (record { place = 0; specs = (spec.Type 0 type_word.Int ∷ []); declarator = (of_declarator.Function (of_declarator.Name (sp 4 5)) 5 (params.List ((record { place = 6; specs = (spec.Type 6 type_word.Int ∷ []); declarator = (of_declarator.Name (sp 10 11)) }) ∷ [])) []); body_place = 13; body = (item.Declaration (record { place = 15; specs = (spec.Type 15 type_word.Int ∷ []); declarators = ((record { declarator = (of_declarator.Name (sp 19 20)); init = None }) ∷ []) }) ∷ item.Declaration (record { place = 22; specs = (spec.Type 22 type_word.Int ∷ []); declarators = ((record { declarator = (of_declarator.Array (of_declarator.Name (sp 26 27)) 27 (Some (expr.Number (sp 28 29)))); init = None }) ∷ []) }) ∷ item.Statement (stmt.Block 32 (item.Declaration (record { place = 34; specs = (spec.Type 34 type_word.Int ∷ []); declarators = ((record { declarator = (of_declarator.Name (sp 38 39)); init = None }) ∷ []) }) ∷ [])) ∷ item.Statement (stmt.For 43 (start.Declaration (record { place = 48; specs = (spec.Type 48 type_word.Int ∷ []); declarators = ((record { declarator = (of_declarator.Name (sp 52 53)); init = (Some (init.Value (expr.Number (sp 56 57)))) }) ∷ []) })) (Some (expr.Binary 59 (expr.Name (sp 59 60)) binary.Less 61 (expr.Name (sp 63 64)))) (Some (expr.Step 66 (expr.Name (sp 66 67)) step.Increment)) (stmt.Block 71 (item.Declaration (record { place = 73; specs = (spec.Type 73 type_word.Int ∷ []); declarators = ((record { declarator = (of_declarator.Name (sp 77 78)); init = None }) ∷ []) }) ∷ []))) ∷ item.Statement (stmt.Return 82 (Some (expr.Name (sp 89 90)))) ∷ []) }) ∷ []) }))) ≡ Some (8 ∷ [])
unfolding hidden hidden-the_row-BlockItem-1 hidden-the_row-CType-0 hidden-the_row-CType-1 hidden-the_row-Declarator-0 hidden-the_row-Declarator-6 hidden-the_row-Enumerator-8 hidden-the_row-Expr-0 hidden-the_row-Expr-1 hidden-the_row-Expr-2 hidden-arguments hidden-the_row-Init-0 hidden-the_row-Initializer-0 hidden-the_row-Member-7 hidden-the_row-Param-5 hidden-the_row-Place-1 hidden-the_row-Spec-3 hidden-the_row-Stmt-0 hidden-unit-0 hidden-unit-1 hidden-the_row-TypeName-4 shape-the_row-BlockItem-1 shape-the_row-CType-0 shape-the_row-CType-1 shape-the_row-Declarator-0 shape-the_row-Declarator-6 shape-the_row-Enumerator-8 shape-the_row-Expr-0 shape-the_row-Expr-1 shape-the_row-Expr-2 shape-arguments shape-the_row-Init-0 shape-the_row-Initializer-0 shape-the_row-Member-7 shape-the_row-Param-5 shape-the_row-Place-1 shape-the_row-Spec-3 shape-the_row-Stmt-0 shape-unit-0 shape-unit-1 shape-the_row-TypeName-4 indirection element member access address unevaluated size size_of_expression size_of_type plain_assignment number_update pointer_update compound_assignment assignment step_update step spine fresh callee_in callee passed call worth is_null number_constant converted cast typedef_declared function_named variable_named init_declarator declaration file_declaration block_name block_declaration defined_name definition pointer_part array_part function_part made parameter type_name member_of_type_rules_declarators with_argument function_type body_read pointer_word initial_word initializer_words initial_values scalar text_fits by_name by_expression part finished by_list count initial_size initialized number_in character_in text_in text_initially as_value operand lvalue promoted in_sign pair_of stride arithmetic_on shift_on pointer_in_common equality_on logical_on operation sign_operation negation chosen_type chosen alternatives choice name number character holds_initially string_object text_found text parenthesised and_then name_number scoped expression value size_of typedef_name tagged_structure structure_name structure tagged_enumeration enumeration_name enumeration enumerator evaluated condition expression_statement block selection_of selection while_loop do_loop for_turns for_loop returned with_items list_behind block_items statement outermost_effects with_effects typed parts_of exceeded outcome likeness_of each_likeness signature_likeness_of conversion union conflict effects_of merged added shared points_to target_effects without_outer_effects same without_effects words_of opening_of automatics PlaceKeeps InitializerKeeps StmtKeeps row_type place_nodes initializer_nodes stmt_nodes places place_spots initializer_spots stmt_spots callee_of stores structure_in IsWithin AreVariables IsTypedPlace IsInitializer IsTypedStmt place_type packed
seen_7 = refl

-- int f(int x) { return x; } int g(void) { return f(f(1)) + f(2); } int (*h(void))(int) { return f; } int k(void) { return h()(3); }
seen_8 : option_map (λ s. both s.sites (map (λ i. both i.place i.direct) (parts_of s).sites)) (good (typed (codes "int f(int x) { return x; } int g(void) { return f(f(1)) + f(2); } int (*h(void))(int) { return f; } int k(void) { return h()(3); }") ([]) (record { externals = (external.Function (record { place = 0; specs = (spec.Type 0 type_word.Int ∷ []); declarator = (of_declarator.Function (of_declarator.Name (sp 4 5)) 5 (params.List ((record { place = 6; specs = (spec.Type 6 type_word.Int ∷ []); declarator = (of_declarator.Name (sp 10 11)) }) ∷ [])) []); body_place = 13; body = (item.Statement (stmt.Return 15 (Some (expr.Name (sp 22 23)))) ∷ []) }) ∷ external.Function (record { place = 27; specs = (spec.Type 27 type_word.Int ∷ []); declarator = (of_declarator.Function (of_declarator.Name (sp 31 32)) 32 (params.Void 33) []); body_place = 39; body = (item.Statement (stmt.Return 41 (Some (expr.Binary 48 (expr.Call 48 (expr.Name (sp 48 49)) ((expr.Call 50 (expr.Name (sp 50 51)) ((expr.Number (sp 52 53)) ∷ [])) ∷ [])) binary.Add 56 (expr.Call 58 (expr.Name (sp 58 59)) ((expr.Number (sp 60 61)) ∷ []))))) ∷ []) }) ∷ external.Function (record { place = 66; specs = (spec.Type 66 type_word.Int ∷ []); declarator = (of_declarator.Function (of_declarator.Parenthesised 70 (of_declarator.Pointer 71 [] (of_declarator.Function (of_declarator.Name (sp 72 73)) 73 (params.Void 74) []))) 80 (params.List ((record { place = 81; specs = (spec.Type 81 type_word.Int ∷ []); declarator = of_declarator.Absent }) ∷ [])) []); body_place = 86; body = (item.Statement (stmt.Return 88 (Some (expr.Name (sp 95 96)))) ∷ []) }) ∷ external.Function (record { place = 100; specs = (spec.Type 100 type_word.Int ∷ []); declarator = (of_declarator.Function (of_declarator.Name (sp 104 105)) 105 (params.Void 106) []); body_place = 112; body = (item.Statement (stmt.Return 114 (Some (expr.Call 121 (expr.Call 121 (expr.Name (sp 121 122)) []) ((expr.Number (sp 125 126)) ∷ [])))) ∷ []) }) ∷ []) }))) ≡ Some (both 6 (both 48 (Some 0) ∷ both 50 (Some 0) ∷ both 58 (Some 0) ∷ both 121 (Some 2) ∷ both 121 None ∷ []))
unfolding hidden hidden-the_row-BlockItem-1 hidden-the_row-CType-0 hidden-the_row-CType-1 hidden-the_row-Declarator-0 hidden-the_row-Declarator-6 hidden-the_row-Enumerator-8 hidden-the_row-Expr-0 hidden-the_row-Expr-1 hidden-the_row-Expr-2 hidden-arguments hidden-the_row-Init-0 hidden-the_row-Initializer-0 hidden-the_row-Member-7 hidden-the_row-Param-5 hidden-the_row-Place-1 hidden-the_row-Spec-3 hidden-the_row-Stmt-0 hidden-unit-0 hidden-unit-1 hidden-the_row-TypeName-4 shape-the_row-BlockItem-1 shape-the_row-CType-0 shape-the_row-CType-1 shape-the_row-Declarator-0 shape-the_row-Declarator-6 shape-the_row-Enumerator-8 shape-the_row-Expr-0 shape-the_row-Expr-1 shape-the_row-Expr-2 shape-arguments shape-the_row-Init-0 shape-the_row-Initializer-0 shape-the_row-Member-7 shape-the_row-Param-5 shape-the_row-Place-1 shape-the_row-Spec-3 shape-the_row-Stmt-0 shape-unit-0 shape-unit-1 shape-the_row-TypeName-4 indirection element member access address unevaluated size size_of_expression size_of_type plain_assignment number_update pointer_update compound_assignment assignment step_update step spine fresh callee_in callee passed call worth is_null number_constant converted cast typedef_declared function_named variable_named init_declarator declaration file_declaration block_name block_declaration defined_name definition pointer_part array_part function_part made parameter type_name member_of_type_rules_declarators with_argument function_type body_read pointer_word initial_word initializer_words initial_values scalar text_fits by_name by_expression part finished by_list count initial_size initialized number_in character_in text_in text_initially as_value operand lvalue promoted in_sign pair_of stride arithmetic_on shift_on pointer_in_common equality_on logical_on operation sign_operation negation chosen_type chosen alternatives choice name number character holds_initially string_object text_found text parenthesised and_then name_number scoped expression value size_of typedef_name tagged_structure structure_name structure tagged_enumeration enumeration_name enumeration enumerator evaluated condition expression_statement block selection_of selection while_loop do_loop for_turns for_loop returned with_items list_behind block_items statement outermost_effects with_effects typed parts_of exceeded outcome likeness_of each_likeness signature_likeness_of conversion union conflict effects_of merged added shared points_to target_effects without_outer_effects same without_effects words_of opening_of automatics PlaceKeeps InitializerKeeps StmtKeeps row_type place_nodes initializer_nodes stmt_nodes places place_spots initializer_spots stmt_spots callee_of stores structure_in IsWithin AreVariables IsTypedPlace IsInitializer IsTypedStmt place_type packed
seen_8 = refl

-- int a[] = {1, 2}; char s[] = "hi";
seen_9 : option_map (λ s. map (λ v. v.kind) s.variables) (good (typed (codes "int a[] = {1, 2}; char s[] = \"hi\";") ([]) (record { externals = (external.Declaration (record { place = 0; specs = (spec.Type 0 type_word.Int ∷ []); declarators = ((record { declarator = (of_declarator.Array (of_declarator.Name (sp 4 5)) 5 None); init = (Some (init.List 10 ((init.Value (expr.Number (sp 11 12))) ∷ (init.Value (expr.Number (sp 14 15))) ∷ []))) }) ∷ []) }) ∷ external.Declaration (record { place = 18; specs = (spec.Type 18 type_word.Char ∷ []); declarators = ((record { declarator = (of_declarator.Array (of_declarator.Name (sp 23 24)) 24 None); init = (Some (init.Value (expr.Text ((sp 29 33) ∷ [])))) }) ∷ []) }) ∷ []) }))) ≡ Some (array_of Int 2 ∷ array_of Char 3 ∷ [])
unfolding hidden hidden-the_row-BlockItem-1 hidden-the_row-CType-0 hidden-the_row-CType-1 hidden-the_row-Declarator-0 hidden-the_row-Declarator-6 hidden-the_row-Enumerator-8 hidden-the_row-Expr-0 hidden-the_row-Expr-1 hidden-the_row-Expr-2 hidden-arguments hidden-the_row-Init-0 hidden-the_row-Initializer-0 hidden-the_row-Member-7 hidden-the_row-Param-5 hidden-the_row-Place-1 hidden-the_row-Spec-3 hidden-the_row-Stmt-0 hidden-unit-0 hidden-unit-1 hidden-the_row-TypeName-4 shape-the_row-BlockItem-1 shape-the_row-CType-0 shape-the_row-CType-1 shape-the_row-Declarator-0 shape-the_row-Declarator-6 shape-the_row-Enumerator-8 shape-the_row-Expr-0 shape-the_row-Expr-1 shape-the_row-Expr-2 shape-arguments shape-the_row-Init-0 shape-the_row-Initializer-0 shape-the_row-Member-7 shape-the_row-Param-5 shape-the_row-Place-1 shape-the_row-Spec-3 shape-the_row-Stmt-0 shape-unit-0 shape-unit-1 shape-the_row-TypeName-4 indirection element member access address unevaluated size size_of_expression size_of_type plain_assignment number_update pointer_update compound_assignment assignment step_update step spine fresh callee_in callee passed call worth is_null number_constant converted cast typedef_declared function_named variable_named init_declarator declaration file_declaration block_name block_declaration defined_name definition pointer_part array_part function_part made parameter type_name member_of_type_rules_declarators with_argument function_type body_read pointer_word initial_word initializer_words initial_values scalar text_fits by_name by_expression part finished by_list count initial_size initialized number_in character_in text_in text_initially as_value operand lvalue promoted in_sign pair_of stride arithmetic_on shift_on pointer_in_common equality_on logical_on operation sign_operation negation chosen_type chosen alternatives choice name number character holds_initially string_object text_found text parenthesised and_then name_number scoped expression value size_of typedef_name tagged_structure structure_name structure tagged_enumeration enumeration_name enumeration enumerator evaluated condition expression_statement block selection_of selection while_loop do_loop for_turns for_loop returned with_items list_behind block_items statement outermost_effects with_effects typed parts_of exceeded outcome likeness_of each_likeness signature_likeness_of conversion union conflict effects_of merged added shared points_to target_effects without_outer_effects same without_effects words_of opening_of automatics PlaceKeeps InitializerKeeps StmtKeeps row_type place_nodes initializer_nodes stmt_nodes places place_spots initializer_spots stmt_spots callee_of stores structure_in IsWithin AreVariables IsTypedPlace IsInitializer IsTypedStmt place_type packed
seen_9 = refl
