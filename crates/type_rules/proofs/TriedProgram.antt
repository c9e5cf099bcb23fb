-- The audio program.
use Rattle.std.proofs.Common.{map, ◌≡◌, refl, ℕ, List, [], ◌∷◌, Option, Some, None, codes}
use denote.Hole.Carrier.{hidden}
use Rattle.c_tree.specs.declared.declarations.Init.TheBlock.{hidden-the_row-Init-0, shape-the_row-Init-0}
use Rattle.c_tree.specs.declared.declarations.Init.TheVariants as init
use Rattle.c_tree.specs.declared.expressions.AccessOperator.TheVariants as access
use Rattle.c_tree.specs.declared.expressions.AssignmentOperator.TheVariants as assignment
use Rattle.c_tree.specs.declared.expressions.BinaryOperator.TheVariants as binary
use Rattle.c_tree.specs.declared.expressions.Declarator.TheBlock.{hidden-the_row-Declarator-0, shape-the_row-Declarator-0, hidden-the_row-Declarator-6, shape-the_row-Declarator-6, hidden-the_row-Expr-1, shape-the_row-Expr-1, hidden-the_row-Expr-2, shape-the_row-Expr-2, hidden-the_row-Spec-3, shape-the_row-Spec-3, hidden-the_row-TypeName-4, shape-the_row-TypeName-4, hidden-the_row-Param-5, shape-the_row-Param-5, hidden-the_row-Member-7, shape-the_row-Member-7, hidden-the_row-Enumerator-8, shape-the_row-Enumerator-8}
use Rattle.c_tree.specs.declared.expressions.Declarator.TheVariants as of_declarator
use Rattle.c_tree.specs.declared.expressions.Expr.TheVariants as expr
use Rattle.c_tree.specs.declared.expressions.Parameters.TheVariants as params
use Rattle.c_tree.specs.declared.expressions.Spec.TheVariants as spec
use Rattle.c_tree.specs.declared.expressions.StepOperator.TheVariants as step
use Rattle.c_tree.specs.declared.expressions.UnaryOperator.TheVariants as unary
use Rattle.c_tree.specs.declared.statements.BlockItem.TheBlock.{hidden-the_row-BlockItem-1, shape-the_row-BlockItem-1, hidden-the_row-Stmt-0, shape-the_row-Stmt-0}
use Rattle.c_tree.specs.declared.statements.BlockItem.TheVariants as item
use Rattle.c_tree.specs.declared.statements.External.TheVariants as external
use Rattle.c_tree.specs.declared.statements.ForStart.TheVariants as start
use Rattle.c_tree.specs.declared.statements.Stmt.TheVariants as stmt
use Rattle.c_tree.specs.declared.statements.Tree.{Tree}
use Rattle.c_tree.specs.declared.words.AttrSpelling.TheVariants as spelling
use Rattle.c_tree.specs.declared.words.Effect.TheVariants as effect
use Rattle.c_tree.specs.declared.words.Span.{Span}
use Rattle.c_tree.specs.declared.words.StorageWord.TheVariants as storage
use Rattle.c_tree.specs.declared.words.TypeWord.TheVariants as type_word
use Rattle.eff_types.specs.declared.types.CType.TheBlock.{hidden-the_row-CType-0, shape-the_row-CType-0, hidden-the_row-CType-1, shape-the_row-CType-1}
use Rattle.core_unit.specs.declared.expressions.Expr.TheBlock.{hidden-the_row-Expr-0, shape-the_row-Expr-0, hidden-the_row-Place-1, shape-the_row-Place-1, hidden-the_row-Expr-2 as hidden-arguments, shape-the_row-Expr-2 as shape-arguments}
use Rattle.core_unit.specs.declared.body.Initializer.TheBlock.{hidden-the_row-Initializer-0, shape-the_row-Initializer-0}
use Rattle.core_unit.specs.declared.body.Stmt.TheBlock.{hidden-the_row-Stmt-0 as hidden-unit-0, shape-the_row-Stmt-0 as shape-unit-0, hidden-the_row-Stmt-1 as hidden-unit-1, shape-the_row-Stmt-1 as shape-unit-1}
use Rattle.type_rules.specs.Access.{indirection, element, member, access, address, unevaluated, size, size_of_expression, size_of_type}
use Rattle.type_rules.specs.Assignments.{plain_assignment, number_update, pointer_update, compound_assignment, assignment, step_update, step}
use Rattle.type_rules.specs.Calls.{spine, fresh, callee_in, callee, passed, call}
use Rattle.type_rules.specs.Constants.{worth, is_null, number_constant}
use Rattle.type_rules.specs.Conversions.{converted, cast}
use Rattle.type_rules.specs.Declarations.{typedef_declared, function_named, variable_named, init_declarator, declaration, file_declaration, block_name, block_declaration, defined_name, definition}
use Rattle.type_rules.specs.Declarators.{pointer_part, array_part, function_part, made, parameter, type_name, member as member_of_type_rules_declarators}
use Rattle.type_rules.specs.Expressions.{with_argument}
use Rattle.type_rules.specs.Functions.{function_type, body_read}
use Rattle.type_rules.specs.InitialValues.{pointer_word, initial_word, initializer_words, initial_values}
use Rattle.type_rules.specs.Initializers.{scalar, text_fits, by_name, by_expression, part, finished, by_list, count, initial_size, initialized}
use Rattle.type_rules.specs.Literals.{number_in, character_in, text_in, text_initially}
use Rattle.type_rules.specs.Operands.{as_value, operand, lvalue, promoted, in_sign}
use Rattle.type_rules.specs.Operators.{pair_of, stride, arithmetic_on, shift_on, pointer_in_common, equality_on, logical_on, operation, sign_operation, negation, chosen_type, chosen, alternatives, choice}
use Rattle.type_rules.specs.Primaries.{name, number, character, holds_initially, string_object, text_found, text, parenthesised}
use Rattle.type_rules.specs.Reading.{and_then, name_number, scoped, Read, Good, Bad}
use Rattle.type_rules.specs.Recursion.{expression, value}
use Rattle.type_rules.specs.Sizes.{size_of}
use Rattle.type_rules.specs.Specifiers.{typedef_name, tagged_structure, structure_name, structure, tagged_enumeration, enumeration_name, enumeration, enumerator}
use Rattle.type_rules.specs.Statements.{evaluated, condition, expression_statement, block, selection_of, selection, while_loop, do_loop, for_turns, for_loop, returned, with_items, list_behind, block_items, statement}
use Rattle.type_rules.specs.Types.{outermost_effects, with_effects}
use Rattle.type_rules.specs.Units.{typed, parts_of, exceeded, outcome, read_unit}
use Rattle.eff_types.specs.Comparison.{likeness_of, each_likeness, signature_likeness_of}
use Rattle.eff_types.specs.Conversion.{conversion}
use Rattle.eff_types.specs.Effects.{union, conflict, effects_of, merged, added, shared}
use Rattle.eff_types.specs.Types.{points_to, target_effects, without_outer_effects, same, without_effects}
use Rattle.core_unit.specs.Layout.{words_of, opening_of, automatics}
use Rattle.core_unit.specs.Levels.{PlaceKeeps, InitializerKeeps, StmtKeeps}
use Rattle.core_unit.specs.Library.{row_type}
use Rattle.core_unit.specs.Nodes.{place_nodes, initializer_nodes, stmt_nodes}
use Rattle.core_unit.specs.Places.{places, place_spots, initializer_spots, stmt_spots}
use Rattle.core_unit.specs.Shapes.{callee_of}
use Rattle.core_unit.specs.Stores.{stores}
use Rattle.core_unit.specs.Structures.{structure_in, IsWithin}
use Rattle.core_unit.specs.Typed.{AreVariables, IsTypedPlace, IsInitializer, IsTypedStmt}
use Rattle.core_unit.specs.Typing.{place_type}
use Rattle.core_unit.specs.Words.{packed}

abbrev sp : ℕ → ℕ → Span
sp start end = record { start = start; end = end }

-- the number and the place of the first rule that a tree breaks
abbrev fault : Read (Unit {0}) → Option (ℕ × ℕ)
fault (Good _ s) = None
fault (Bad number place) = Some (number, place)

abbrev first_fault : List ℕ → Tree → Option (ℕ × ℕ)
first_fault source tree = fault (typed source [] tree)

audio : fault (read_unit (codes "#include <stdio.h> #include <stdlib.h> #include <pthread.h> #include <unistd.h> #include <sanitizer/rtsan_interface.h>  enum { SIZE = 64, FRAMES = 16 };  typedef struct {   int samples[SIZE];   unsigned head;   unsigned tail; } ring_t;  typedef int (*callback_t)(ring_t *r, int *out, int n) [[clang::nonblocking]];  static ring_t ring; static pthread_mutex_t log_lock = PTHREAD_MUTEX_INITIALIZER;  static int ring_pop(ring_t *r, int *v) {   if (r->head == r->tail) return 0;   *v = r->samples[r->head % SIZE];   r->head = r->head + 1;   return 1; }  static int ring_push(ring_t *r, int v) {   if (r->tail - r->head == SIZE) return 0;   r->samples[r->tail % SIZE] = v;   r->tail = r->tail + 1;   return 1; }  static int clip(int v) { return v > 1000 ? 1000 : v; }  static int process(ring_t *r, int *out, int n) [[clang::nonblocking]] {   int got = 0;   for (int i = 0; i < n; i++) {     int v = 0;     if (ring_pop(r, &v)) got++;     out[i] = clip(abs(v) * 3);   }   return got; }  static void *fill(void *arg) {   ring_t *r = arg;   for (int i = 0; i < 200; i++)     if (!ring_push(r, i * 7 - 500)) usleep(10);   pthread_mutex_lock(&log_lock);   puts(\"filled\");   pthread_mutex_unlock(&log_lock);   return NULL; }  int main(void) {   callback_t cb = process;   int *out = malloc(FRAMES * sizeof(int));   if (!out) return 1;   pthread_t t;   if (pthread_create(&t, NULL, fill, &ring)) return 1;   for (int i = 0; i < 50; i++) cb(&ring, out, FRAMES);   pthread_join(t, NULL);   free(out);   puts(\"done\");   return 0; } ") [] [] (record { externals = (external.Declaration (record { place = 120; specs = (spec.Enum 120 None ((record { name = (sp 127 131); value = (Some (expr.Number (sp 134 136))) }) ∷ (record { name = (sp 138 144); value = (Some (expr.Number (sp 147 149))) }) ∷ []) ∷ []); declarators = [] }) ∷ external.Declaration (record { place = 154; specs = (spec.Storage 154 storage.Typedef ∷ spec.Struct 162 None ((record { place = 173; specs = (spec.Type 173 type_word.Int ∷ []); declarators = ((of_declarator.Array (of_declarator.Name (sp 177 184)) 184 (Some (expr.Name (sp 185 189)))) ∷ []) }) ∷ (record { place = 194; specs = (spec.Type 194 type_word.Unsigned ∷ []); declarators = ((of_declarator.Name (sp 203 207)) ∷ []) }) ∷ (record { place = 211; specs = (spec.Type 211 type_word.Unsigned ∷ []); declarators = ((of_declarator.Name (sp 220 224)) ∷ []) }) ∷ []) ∷ []); declarators = ((record { declarator = (of_declarator.Name (sp 228 234)); init = None }) ∷ []) }) ∷ external.Declaration (record { place = 237; specs = (spec.Storage 237 storage.Typedef ∷ spec.Type 245 type_word.Int ∷ []); declarators = ((record { declarator = (of_declarator.Function (of_declarator.Parenthesised 249 (of_declarator.Pointer 250 [] (of_declarator.Name (sp 251 261)))) 262 (params.List ((record { place = 263; specs = (spec.TypedefName (sp 263 269) ∷ []); declarator = (of_declarator.Pointer 270 [] (of_declarator.Name (sp 271 272))) }) ∷ (record { place = 274; specs = (spec.Type 274 type_word.Int ∷ []); declarator = (of_declarator.Pointer 278 [] (of_declarator.Name (sp 279 282))) }) ∷ (record { place = 284; specs = (spec.Type 284 type_word.Int ∷ []); declarator = (of_declarator.Name (sp 288 289)) }) ∷ [])) ((record { place = 291; spelling = spelling.Brackets; words = ((record { place = 300; effect = (effect.NonBlocking None) }) ∷ []) }) ∷ [])); init = None }) ∷ []) }) ∷ external.Declaration (record { place = 316; specs = (spec.Storage 316 storage.Static ∷ spec.TypedefName (sp 323 329) ∷ []); declarators = ((record { declarator = (of_declarator.Name (sp 330 334)); init = None }) ∷ []) }) ∷ external.Declaration (record { place = 336; specs = (spec.Storage 336 storage.Static ∷ spec.TypedefName (sp 343 358) ∷ []); declarators = ((record { declarator = (of_declarator.Name (sp 359 367)); init = (Some (init.Value (expr.Name (sp 370 395)))) }) ∷ []) }) ∷ external.Function (record { place = 398; specs = (spec.Storage 398 storage.Static ∷ spec.Type 405 type_word.Int ∷ []); declarator = (of_declarator.Function (of_declarator.Name (sp 409 417)) 417 (params.List ((record { place = 418; specs = (spec.TypedefName (sp 418 424) ∷ []); declarator = (of_declarator.Pointer 425 [] (of_declarator.Name (sp 426 427))) }) ∷ (record { place = 429; specs = (spec.Type 429 type_word.Int ∷ []); declarator = (of_declarator.Pointer 433 [] (of_declarator.Name (sp 434 435))) }) ∷ [])) []); body_place = 437; body = (item.Statement (stmt.If 441 (expr.Binary 445 (expr.Access 445 (expr.Name (sp 445 446)) access.Arrow (sp 448 452)) binary.Equal 453 (expr.Access 456 (expr.Name (sp 456 457)) access.Arrow (sp 459 463))) (stmt.Return 465 (Some (expr.Number (sp 472 473)))) None) ∷ item.Statement (stmt.Expression 477 (Some (expr.Assignment 477 (expr.Unary 477 unary.Indirection (expr.Name (sp 478 479))) assignment.Plain 480 (expr.Index 482 (expr.Access 482 (expr.Name (sp 482 483)) access.Arrow (sp 485 492)) (expr.Binary 493 (expr.Access 493 (expr.Name (sp 493 494)) access.Arrow (sp 496 500)) binary.Remainder 501 (expr.Name (sp 503 507))))))) ∷ item.Statement (stmt.Expression 512 (Some (expr.Assignment 512 (expr.Access 512 (expr.Name (sp 512 513)) access.Arrow (sp 515 519)) assignment.Plain 520 (expr.Binary 522 (expr.Access 522 (expr.Name (sp 522 523)) access.Arrow (sp 525 529)) binary.Add 530 (expr.Number (sp 532 533)))))) ∷ item.Statement (stmt.Return 537 (Some (expr.Number (sp 544 545)))) ∷ []) }) ∷ external.Function (record { place = 550; specs = (spec.Storage 550 storage.Static ∷ spec.Type 557 type_word.Int ∷ []); declarator = (of_declarator.Function (of_declarator.Name (sp 561 570)) 570 (params.List ((record { place = 571; specs = (spec.TypedefName (sp 571 577) ∷ []); declarator = (of_declarator.Pointer 578 [] (of_declarator.Name (sp 579 580))) }) ∷ (record { place = 582; specs = (spec.Type 582 type_word.Int ∷ []); declarator = (of_declarator.Name (sp 586 587)) }) ∷ [])) []); body_place = 589; body = (item.Statement (stmt.If 593 (expr.Binary 597 (expr.Binary 597 (expr.Access 597 (expr.Name (sp 597 598)) access.Arrow (sp 600 604)) binary.Subtract 605 (expr.Access 607 (expr.Name (sp 607 608)) access.Arrow (sp 610 614))) binary.Equal 615 (expr.Name (sp 618 622))) (stmt.Return 624 (Some (expr.Number (sp 631 632)))) None) ∷ item.Statement (stmt.Expression 636 (Some (expr.Assignment 636 (expr.Index 636 (expr.Access 636 (expr.Name (sp 636 637)) access.Arrow (sp 639 646)) (expr.Binary 647 (expr.Access 647 (expr.Name (sp 647 648)) access.Arrow (sp 650 654)) binary.Remainder 655 (expr.Name (sp 657 661)))) assignment.Plain 663 (expr.Name (sp 665 666))))) ∷ item.Statement (stmt.Expression 670 (Some (expr.Assignment 670 (expr.Access 670 (expr.Name (sp 670 671)) access.Arrow (sp 673 677)) assignment.Plain 678 (expr.Binary 680 (expr.Access 680 (expr.Name (sp 680 681)) access.Arrow (sp 683 687)) binary.Add 688 (expr.Number (sp 690 691)))))) ∷ item.Statement (stmt.Return 695 (Some (expr.Number (sp 702 703)))) ∷ []) }) ∷ external.Function (record { place = 708; specs = (spec.Storage 708 storage.Static ∷ spec.Type 715 type_word.Int ∷ []); declarator = (of_declarator.Function (of_declarator.Name (sp 719 723)) 723 (params.List ((record { place = 724; specs = (spec.Type 724 type_word.Int ∷ []); declarator = (of_declarator.Name (sp 728 729)) }) ∷ [])) []); body_place = 731; body = (item.Statement (stmt.Return 733 (Some (expr.Conditional 740 (expr.Binary 740 (expr.Name (sp 740 741)) binary.Greater 742 (expr.Number (sp 744 748))) (expr.Number (sp 751 755)) (expr.Name (sp 758 759))))) ∷ []) }) ∷ external.Function (record { place = 764; specs = (spec.Storage 764 storage.Static ∷ spec.Type 771 type_word.Int ∷ []); declarator = (of_declarator.Function (of_declarator.Name (sp 775 782)) 782 (params.List ((record { place = 783; specs = (spec.TypedefName (sp 783 789) ∷ []); declarator = (of_declarator.Pointer 790 [] (of_declarator.Name (sp 791 792))) }) ∷ (record { place = 794; specs = (spec.Type 794 type_word.Int ∷ []); declarator = (of_declarator.Pointer 798 [] (of_declarator.Name (sp 799 802))) }) ∷ (record { place = 804; specs = (spec.Type 804 type_word.Int ∷ []); declarator = (of_declarator.Name (sp 808 809)) }) ∷ [])) ((record { place = 811; spelling = spelling.Brackets; words = ((record { place = 820; effect = (effect.NonBlocking None) }) ∷ []) }) ∷ [])); body_place = 834; body = (item.Declaration (record { place = 838; specs = (spec.Type 838 type_word.Int ∷ []); declarators = ((record { declarator = (of_declarator.Name (sp 842 845)); init = (Some (init.Value (expr.Number (sp 848 849)))) }) ∷ []) }) ∷ item.Statement (stmt.For 853 (start.Declaration (record { place = 858; specs = (spec.Type 858 type_word.Int ∷ []); declarators = ((record { declarator = (of_declarator.Name (sp 862 863)); init = (Some (init.Value (expr.Number (sp 866 867)))) }) ∷ []) })) (Some (expr.Binary 869 (expr.Name (sp 869 870)) binary.Less 871 (expr.Name (sp 873 874)))) (Some (expr.Step 876 (expr.Name (sp 876 877)) step.Increment)) (stmt.Block 881 (item.Declaration (record { place = 887; specs = (spec.Type 887 type_word.Int ∷ []); declarators = ((record { declarator = (of_declarator.Name (sp 891 892)); init = (Some (init.Value (expr.Number (sp 895 896)))) }) ∷ []) }) ∷ item.Statement (stmt.If 902 (expr.Call 906 (expr.Name (sp 906 914)) ((expr.Name (sp 915 916)) ∷ (expr.Unary 918 unary.Address (expr.Name (sp 919 920))) ∷ [])) (stmt.Expression 923 (Some (expr.Step 923 (expr.Name (sp 923 926)) step.Increment))) None) ∷ item.Statement (stmt.Expression 934 (Some (expr.Assignment 934 (expr.Index 934 (expr.Name (sp 934 937)) (expr.Name (sp 938 939))) assignment.Plain 941 (expr.Call 943 (expr.Name (sp 943 947)) ((expr.Binary 948 (expr.Call 948 (expr.Name (sp 948 951)) ((expr.Name (sp 952 953)) ∷ [])) binary.Multiply 955 (expr.Number (sp 957 958))) ∷ []))))) ∷ []))) ∷ item.Statement (stmt.Return 967 (Some (expr.Name (sp 974 977)))) ∷ []) }) ∷ external.Function (record { place = 982; specs = (spec.Storage 982 storage.Static ∷ spec.Type 989 type_word.Void ∷ []); declarator = (of_declarator.Pointer 994 [] (of_declarator.Function (of_declarator.Name (sp 995 999)) 999 (params.List ((record { place = 1000; specs = (spec.Type 1000 type_word.Void ∷ []); declarator = (of_declarator.Pointer 1005 [] (of_declarator.Name (sp 1006 1009))) }) ∷ [])) [])); body_place = 1011; body = (item.Declaration (record { place = 1015; specs = (spec.TypedefName (sp 1015 1021) ∷ []); declarators = ((record { declarator = (of_declarator.Pointer 1022 [] (of_declarator.Name (sp 1023 1024))); init = (Some (init.Value (expr.Name (sp 1027 1030)))) }) ∷ []) }) ∷ item.Statement (stmt.For 1034 (start.Declaration (record { place = 1039; specs = (spec.Type 1039 type_word.Int ∷ []); declarators = ((record { declarator = (of_declarator.Name (sp 1043 1044)); init = (Some (init.Value (expr.Number (sp 1047 1048)))) }) ∷ []) })) (Some (expr.Binary 1050 (expr.Name (sp 1050 1051)) binary.Less 1052 (expr.Number (sp 1054 1057)))) (Some (expr.Step 1059 (expr.Name (sp 1059 1060)) step.Increment)) (stmt.If 1068 (expr.Unary 1072 unary.Not (expr.Call 1073 (expr.Name (sp 1073 1082)) ((expr.Name (sp 1083 1084)) ∷ (expr.Binary 1086 (expr.Binary 1086 (expr.Name (sp 1086 1087)) binary.Multiply 1088 (expr.Number (sp 1090 1091))) binary.Subtract 1092 (expr.Number (sp 1094 1097))) ∷ []))) (stmt.Expression 1100 (Some (expr.Call 1100 (expr.Name (sp 1100 1106)) ((expr.Number (sp 1107 1109)) ∷ [])))) None)) ∷ item.Statement (stmt.Expression 1114 (Some (expr.Call 1114 (expr.Name (sp 1114 1132)) ((expr.Unary 1133 unary.Address (expr.Name (sp 1134 1142))) ∷ [])))) ∷ item.Statement (stmt.Expression 1147 (Some (expr.Call 1147 (expr.Name (sp 1147 1151)) ((expr.Text ((sp 1152 1160) ∷ [])) ∷ [])))) ∷ item.Statement (stmt.Expression 1165 (Some (expr.Call 1165 (expr.Name (sp 1165 1185)) ((expr.Unary 1186 unary.Address (expr.Name (sp 1187 1195))) ∷ [])))) ∷ item.Statement (stmt.Return 1200 (Some (expr.Name (sp 1207 1211)))) ∷ []) }) ∷ external.Function (record { place = 1216; specs = (spec.Type 1216 type_word.Int ∷ []); declarator = (of_declarator.Function (of_declarator.Name (sp 1220 1224)) 1224 (params.Void 1225) []); body_place = 1231; body = (item.Declaration (record { place = 1235; specs = (spec.TypedefName (sp 1235 1245) ∷ []); declarators = ((record { declarator = (of_declarator.Name (sp 1246 1248)); init = (Some (init.Value (expr.Name (sp 1251 1258)))) }) ∷ []) }) ∷ item.Declaration (record { place = 1262; specs = (spec.Type 1262 type_word.Int ∷ []); declarators = ((record { declarator = (of_declarator.Pointer 1266 [] (of_declarator.Name (sp 1267 1270))); init = (Some (init.Value (expr.Call 1273 (expr.Name (sp 1273 1279)) ((expr.Binary 1280 (expr.Name (sp 1280 1286)) binary.Multiply 1287 (expr.SizeofType 1289 (record { place = 1296; specs = (spec.Type 1296 type_word.Int ∷ []); declarator = of_declarator.Absent }))) ∷ [])))) }) ∷ []) }) ∷ item.Statement (stmt.If 1305 (expr.Unary 1309 unary.Not (expr.Name (sp 1310 1313))) (stmt.Return 1315 (Some (expr.Number (sp 1322 1323)))) None) ∷ item.Declaration (record { place = 1327; specs = (spec.TypedefName (sp 1327 1336) ∷ []); declarators = ((record { declarator = (of_declarator.Name (sp 1337 1338)); init = None }) ∷ []) }) ∷ item.Statement (stmt.If 1342 (expr.Call 1346 (expr.Name (sp 1346 1360)) ((expr.Unary 1361 unary.Address (expr.Name (sp 1362 1363))) ∷ (expr.Name (sp 1365 1369)) ∷ (expr.Name (sp 1371 1375)) ∷ (expr.Unary 1377 unary.Address (expr.Name (sp 1378 1382))) ∷ [])) (stmt.Return 1385 (Some (expr.Number (sp 1392 1393)))) None) ∷ item.Statement (stmt.For 1397 (start.Declaration (record { place = 1402; specs = (spec.Type 1402 type_word.Int ∷ []); declarators = ((record { declarator = (of_declarator.Name (sp 1406 1407)); init = (Some (init.Value (expr.Number (sp 1410 1411)))) }) ∷ []) })) (Some (expr.Binary 1413 (expr.Name (sp 1413 1414)) binary.Less 1415 (expr.Number (sp 1417 1419)))) (Some (expr.Step 1421 (expr.Name (sp 1421 1422)) step.Increment)) (stmt.Expression 1426 (Some (expr.Call 1426 (expr.Name (sp 1426 1428)) ((expr.Unary 1429 unary.Address (expr.Name (sp 1430 1434))) ∷ (expr.Name (sp 1436 1439)) ∷ (expr.Name (sp 1441 1447)) ∷ []))))) ∷ item.Statement (stmt.Expression 1452 (Some (expr.Call 1452 (expr.Name (sp 1452 1464)) ((expr.Name (sp 1465 1466)) ∷ (expr.Name (sp 1468 1472)) ∷ [])))) ∷ item.Statement (stmt.Expression 1477 (Some (expr.Call 1477 (expr.Name (sp 1477 1481)) ((expr.Name (sp 1482 1485)) ∷ [])))) ∷ item.Statement (stmt.Expression 1490 (Some (expr.Call 1490 (expr.Name (sp 1490 1494)) ((expr.Text ((sp 1495 1501) ∷ [])) ∷ [])))) ∷ item.Statement (stmt.Return 1506 (Some (expr.Number (sp 1513 1514)))) ∷ []) }) ∷ []) })) ≡ None
unfolding hidden hidden-the_row-BlockItem-1 hidden-the_row-CType-0 hidden-the_row-CType-1 hidden-the_row-Declarator-0 hidden-the_row-Declarator-6 hidden-the_row-Enumerator-8 hidden-the_row-Expr-0 hidden-the_row-Expr-1 hidden-the_row-Expr-2 hidden-arguments hidden-the_row-Init-0 hidden-the_row-Initializer-0 hidden-the_row-Member-7 hidden-the_row-Param-5 hidden-the_row-Place-1 hidden-the_row-Spec-3 hidden-the_row-Stmt-0 hidden-unit-0 hidden-unit-1 hidden-the_row-TypeName-4 shape-the_row-BlockItem-1 shape-the_row-CType-0 shape-the_row-CType-1 shape-the_row-Declarator-0 shape-the_row-Declarator-6 shape-the_row-Enumerator-8 shape-the_row-Expr-0 shape-the_row-Expr-1 shape-the_row-Expr-2 shape-arguments shape-the_row-Init-0 shape-the_row-Initializer-0 shape-the_row-Member-7 shape-the_row-Param-5 shape-the_row-Place-1 shape-the_row-Spec-3 shape-the_row-Stmt-0 shape-unit-0 shape-unit-1 shape-the_row-TypeName-4 indirection element member access address unevaluated size size_of_expression size_of_type plain_assignment number_update pointer_update compound_assignment assignment step_update step spine fresh callee_in callee passed call worth is_null number_constant converted cast typedef_declared function_named variable_named init_declarator declaration file_declaration block_name block_declaration defined_name definition pointer_part array_part function_part made parameter type_name member_of_type_rules_declarators with_argument function_type body_read pointer_word initial_word initializer_words initial_values scalar text_fits by_name by_expression part finished by_list count initial_size initialized number_in character_in text_in text_initially as_value operand lvalue promoted in_sign pair_of stride arithmetic_on shift_on pointer_in_common equality_on logical_on operation sign_operation negation chosen_type chosen alternatives choice name number character holds_initially string_object text_found text parenthesised and_then name_number scoped expression value size_of typedef_name tagged_structure structure_name structure tagged_enumeration enumeration_name enumeration enumerator evaluated condition expression_statement block selection_of selection while_loop do_loop for_turns for_loop returned with_items list_behind block_items statement outermost_effects with_effects typed parts_of exceeded outcome likeness_of each_likeness signature_likeness_of conversion union conflict effects_of merged added shared points_to target_effects without_outer_effects same without_effects words_of opening_of automatics PlaceKeeps InitializerKeeps StmtKeeps row_type place_nodes initializer_nodes stmt_nodes places place_spots initializer_spots stmt_spots callee_of stores structure_in IsWithin AreVariables IsTypedPlace IsInitializer IsTypedStmt place_type packed
audio = refl

-- its static words, the words of its frames, and how many call sites it has
abbrev counts : Read (Unit {0}) → List ℕ
counts (Good _ s) = s.static_words ∷ s.sites ∷ map (λ f. f.frame_words) s.functions
counts (Bad number place) = []

audio_counts : counts (read_unit (codes "#include <stdio.h> #include <stdlib.h> #include <pthread.h> #include <unistd.h> #include <sanitizer/rtsan_interface.h>  enum { SIZE = 64, FRAMES = 16 };  typedef struct {   int samples[SIZE];   unsigned head;   unsigned tail; } ring_t;  typedef int (*callback_t)(ring_t *r, int *out, int n) [[clang::nonblocking]];  static ring_t ring; static pthread_mutex_t log_lock = PTHREAD_MUTEX_INITIALIZER;  static int ring_pop(ring_t *r, int *v) {   if (r->head == r->tail) return 0;   *v = r->samples[r->head % SIZE];   r->head = r->head + 1;   return 1; }  static int ring_push(ring_t *r, int v) {   if (r->tail - r->head == SIZE) return 0;   r->samples[r->tail % SIZE] = v;   r->tail = r->tail + 1;   return 1; }  static int clip(int v) { return v > 1000 ? 1000 : v; }  static int process(ring_t *r, int *out, int n) [[clang::nonblocking]] {   int got = 0;   for (int i = 0; i < n; i++) {     int v = 0;     if (ring_pop(r, &v)) got++;     out[i] = clip(abs(v) * 3);   }   return got; }  static void *fill(void *arg) {   ring_t *r = arg;   for (int i = 0; i < 200; i++)     if (!ring_push(r, i * 7 - 500)) usleep(10);   pthread_mutex_lock(&log_lock);   puts(\"filled\");   pthread_mutex_unlock(&log_lock);   return NULL; }  int main(void) {   callback_t cb = process;   int *out = malloc(FRAMES * sizeof(int));   if (!out) return 1;   pthread_t t;   if (pthread_create(&t, NULL, fill, &ring)) return 1;   for (int i = 0; i < 50; i++) cb(&ring, out, FRAMES);   pthread_join(t, NULL);   free(out);   puts(\"done\");   return 0; } ") [] [] (record { externals = (external.Declaration (record { place = 120; specs = (spec.Enum 120 None ((record { name = (sp 127 131); value = (Some (expr.Number (sp 134 136))) }) ∷ (record { name = (sp 138 144); value = (Some (expr.Number (sp 147 149))) }) ∷ []) ∷ []); declarators = [] }) ∷ external.Declaration (record { place = 154; specs = (spec.Storage 154 storage.Typedef ∷ spec.Struct 162 None ((record { place = 173; specs = (spec.Type 173 type_word.Int ∷ []); declarators = ((of_declarator.Array (of_declarator.Name (sp 177 184)) 184 (Some (expr.Name (sp 185 189)))) ∷ []) }) ∷ (record { place = 194; specs = (spec.Type 194 type_word.Unsigned ∷ []); declarators = ((of_declarator.Name (sp 203 207)) ∷ []) }) ∷ (record { place = 211; specs = (spec.Type 211 type_word.Unsigned ∷ []); declarators = ((of_declarator.Name (sp 220 224)) ∷ []) }) ∷ []) ∷ []); declarators = ((record { declarator = (of_declarator.Name (sp 228 234)); init = None }) ∷ []) }) ∷ external.Declaration (record { place = 237; specs = (spec.Storage 237 storage.Typedef ∷ spec.Type 245 type_word.Int ∷ []); declarators = ((record { declarator = (of_declarator.Function (of_declarator.Parenthesised 249 (of_declarator.Pointer 250 [] (of_declarator.Name (sp 251 261)))) 262 (params.List ((record { place = 263; specs = (spec.TypedefName (sp 263 269) ∷ []); declarator = (of_declarator.Pointer 270 [] (of_declarator.Name (sp 271 272))) }) ∷ (record { place = 274; specs = (spec.Type 274 type_word.Int ∷ []); declarator = (of_declarator.Pointer 278 [] (of_declarator.Name (sp 279 282))) }) ∷ (record { place = 284; specs = (spec.Type 284 type_word.Int ∷ []); declarator = (of_declarator.Name (sp 288 289)) }) ∷ [])) ((record { place = 291; spelling = spelling.Brackets; words = ((record { place = 300; effect = (effect.NonBlocking None) }) ∷ []) }) ∷ [])); init = None }) ∷ []) }) ∷ external.Declaration (record { place = 316; specs = (spec.Storage 316 storage.Static ∷ spec.TypedefName (sp 323 329) ∷ []); declarators = ((record { declarator = (of_declarator.Name (sp 330 334)); init = None }) ∷ []) }) ∷ external.Declaration (record { place = 336; specs = (spec.Storage 336 storage.Static ∷ spec.TypedefName (sp 343 358) ∷ []); declarators = ((record { declarator = (of_declarator.Name (sp 359 367)); init = (Some (init.Value (expr.Name (sp 370 395)))) }) ∷ []) }) ∷ external.Function (record { place = 398; specs = (spec.Storage 398 storage.Static ∷ spec.Type 405 type_word.Int ∷ []); declarator = (of_declarator.Function (of_declarator.Name (sp 409 417)) 417 (params.List ((record { place = 418; specs = (spec.TypedefName (sp 418 424) ∷ []); declarator = (of_declarator.Pointer 425 [] (of_declarator.Name (sp 426 427))) }) ∷ (record { place = 429; specs = (spec.Type 429 type_word.Int ∷ []); declarator = (of_declarator.Pointer 433 [] (of_declarator.Name (sp 434 435))) }) ∷ [])) []); body_place = 437; body = (item.Statement (stmt.If 441 (expr.Binary 445 (expr.Access 445 (expr.Name (sp 445 446)) access.Arrow (sp 448 452)) binary.Equal 453 (expr.Access 456 (expr.Name (sp 456 457)) access.Arrow (sp 459 463))) (stmt.Return 465 (Some (expr.Number (sp 472 473)))) None) ∷ item.Statement (stmt.Expression 477 (Some (expr.Assignment 477 (expr.Unary 477 unary.Indirection (expr.Name (sp 478 479))) assignment.Plain 480 (expr.Index 482 (expr.Access 482 (expr.Name (sp 482 483)) access.Arrow (sp 485 492)) (expr.Binary 493 (expr.Access 493 (expr.Name (sp 493 494)) access.Arrow (sp 496 500)) binary.Remainder 501 (expr.Name (sp 503 507))))))) ∷ item.Statement (stmt.Expression 512 (Some (expr.Assignment 512 (expr.Access 512 (expr.Name (sp 512 513)) access.Arrow (sp 515 519)) assignment.Plain 520 (expr.Binary 522 (expr.Access 522 (expr.Name (sp 522 523)) access.Arrow (sp 525 529)) binary.Add 530 (expr.Number (sp 532 533)))))) ∷ item.Statement (stmt.Return 537 (Some (expr.Number (sp 544 545)))) ∷ []) }) ∷ external.Function (record { place = 550; specs = (spec.Storage 550 storage.Static ∷ spec.Type 557 type_word.Int ∷ []); declarator = (of_declarator.Function (of_declarator.Name (sp 561 570)) 570 (params.List ((record { place = 571; specs = (spec.TypedefName (sp 571 577) ∷ []); declarator = (of_declarator.Pointer 578 [] (of_declarator.Name (sp 579 580))) }) ∷ (record { place = 582; specs = (spec.Type 582 type_word.Int ∷ []); declarator = (of_declarator.Name (sp 586 587)) }) ∷ [])) []); body_place = 589; body = (item.Statement (stmt.If 593 (expr.Binary 597 (expr.Binary 597 (expr.Access 597 (expr.Name (sp 597 598)) access.Arrow (sp 600 604)) binary.Subtract 605 (expr.Access 607 (expr.Name (sp 607 608)) access.Arrow (sp 610 614))) binary.Equal 615 (expr.Name (sp 618 622))) (stmt.Return 624 (Some (expr.Number (sp 631 632)))) None) ∷ item.Statement (stmt.Expression 636 (Some (expr.Assignment 636 (expr.Index 636 (expr.Access 636 (expr.Name (sp 636 637)) access.Arrow (sp 639 646)) (expr.Binary 647 (expr.Access 647 (expr.Name (sp 647 648)) access.Arrow (sp 650 654)) binary.Remainder 655 (expr.Name (sp 657 661)))) assignment.Plain 663 (expr.Name (sp 665 666))))) ∷ item.Statement (stmt.Expression 670 (Some (expr.Assignment 670 (expr.Access 670 (expr.Name (sp 670 671)) access.Arrow (sp 673 677)) assignment.Plain 678 (expr.Binary 680 (expr.Access 680 (expr.Name (sp 680 681)) access.Arrow (sp 683 687)) binary.Add 688 (expr.Number (sp 690 691)))))) ∷ item.Statement (stmt.Return 695 (Some (expr.Number (sp 702 703)))) ∷ []) }) ∷ external.Function (record { place = 708; specs = (spec.Storage 708 storage.Static ∷ spec.Type 715 type_word.Int ∷ []); declarator = (of_declarator.Function (of_declarator.Name (sp 719 723)) 723 (params.List ((record { place = 724; specs = (spec.Type 724 type_word.Int ∷ []); declarator = (of_declarator.Name (sp 728 729)) }) ∷ [])) []); body_place = 731; body = (item.Statement (stmt.Return 733 (Some (expr.Conditional 740 (expr.Binary 740 (expr.Name (sp 740 741)) binary.Greater 742 (expr.Number (sp 744 748))) (expr.Number (sp 751 755)) (expr.Name (sp 758 759))))) ∷ []) }) ∷ external.Function (record { place = 764; specs = (spec.Storage 764 storage.Static ∷ spec.Type 771 type_word.Int ∷ []); declarator = (of_declarator.Function (of_declarator.Name (sp 775 782)) 782 (params.List ((record { place = 783; specs = (spec.TypedefName (sp 783 789) ∷ []); declarator = (of_declarator.Pointer 790 [] (of_declarator.Name (sp 791 792))) }) ∷ (record { place = 794; specs = (spec.Type 794 type_word.Int ∷ []); declarator = (of_declarator.Pointer 798 [] (of_declarator.Name (sp 799 802))) }) ∷ (record { place = 804; specs = (spec.Type 804 type_word.Int ∷ []); declarator = (of_declarator.Name (sp 808 809)) }) ∷ [])) ((record { place = 811; spelling = spelling.Brackets; words = ((record { place = 820; effect = (effect.NonBlocking None) }) ∷ []) }) ∷ [])); body_place = 834; body = (item.Declaration (record { place = 838; specs = (spec.Type 838 type_word.Int ∷ []); declarators = ((record { declarator = (of_declarator.Name (sp 842 845)); init = (Some (init.Value (expr.Number (sp 848 849)))) }) ∷ []) }) ∷ item.Statement (stmt.For 853 (start.Declaration (record { place = 858; specs = (spec.Type 858 type_word.Int ∷ []); declarators = ((record { declarator = (of_declarator.Name (sp 862 863)); init = (Some (init.Value (expr.Number (sp 866 867)))) }) ∷ []) })) (Some (expr.Binary 869 (expr.Name (sp 869 870)) binary.Less 871 (expr.Name (sp 873 874)))) (Some (expr.Step 876 (expr.Name (sp 876 877)) step.Increment)) (stmt.Block 881 (item.Declaration (record { place = 887; specs = (spec.Type 887 type_word.Int ∷ []); declarators = ((record { declarator = (of_declarator.Name (sp 891 892)); init = (Some (init.Value (expr.Number (sp 895 896)))) }) ∷ []) }) ∷ item.Statement (stmt.If 902 (expr.Call 906 (expr.Name (sp 906 914)) ((expr.Name (sp 915 916)) ∷ (expr.Unary 918 unary.Address (expr.Name (sp 919 920))) ∷ [])) (stmt.Expression 923 (Some (expr.Step 923 (expr.Name (sp 923 926)) step.Increment))) None) ∷ item.Statement (stmt.Expression 934 (Some (expr.Assignment 934 (expr.Index 934 (expr.Name (sp 934 937)) (expr.Name (sp 938 939))) assignment.Plain 941 (expr.Call 943 (expr.Name (sp 943 947)) ((expr.Binary 948 (expr.Call 948 (expr.Name (sp 948 951)) ((expr.Name (sp 952 953)) ∷ [])) binary.Multiply 955 (expr.Number (sp 957 958))) ∷ []))))) ∷ []))) ∷ item.Statement (stmt.Return 967 (Some (expr.Name (sp 974 977)))) ∷ []) }) ∷ external.Function (record { place = 982; specs = (spec.Storage 982 storage.Static ∷ spec.Type 989 type_word.Void ∷ []); declarator = (of_declarator.Pointer 994 [] (of_declarator.Function (of_declarator.Name (sp 995 999)) 999 (params.List ((record { place = 1000; specs = (spec.Type 1000 type_word.Void ∷ []); declarator = (of_declarator.Pointer 1005 [] (of_declarator.Name (sp 1006 1009))) }) ∷ [])) [])); body_place = 1011; body = (item.Declaration (record { place = 1015; specs = (spec.TypedefName (sp 1015 1021) ∷ []); declarators = ((record { declarator = (of_declarator.Pointer 1022 [] (of_declarator.Name (sp 1023 1024))); init = (Some (init.Value (expr.Name (sp 1027 1030)))) }) ∷ []) }) ∷ item.Statement (stmt.For 1034 (start.Declaration (record { place = 1039; specs = (spec.Type 1039 type_word.Int ∷ []); declarators = ((record { declarator = (of_declarator.Name (sp 1043 1044)); init = (Some (init.Value (expr.Number (sp 1047 1048)))) }) ∷ []) })) (Some (expr.Binary 1050 (expr.Name (sp 1050 1051)) binary.Less 1052 (expr.Number (sp 1054 1057)))) (Some (expr.Step 1059 (expr.Name (sp 1059 1060)) step.Increment)) (stmt.If 1068 (expr.Unary 1072 unary.Not (expr.Call 1073 (expr.Name (sp 1073 1082)) ((expr.Name (sp 1083 1084)) ∷ (expr.Binary 1086 (expr.Binary 1086 (expr.Name (sp 1086 1087)) binary.Multiply 1088 (expr.Number (sp 1090 1091))) binary.Subtract 1092 (expr.Number (sp 1094 1097))) ∷ []))) (stmt.Expression 1100 (Some (expr.Call 1100 (expr.Name (sp 1100 1106)) ((expr.Number (sp 1107 1109)) ∷ [])))) None)) ∷ item.Statement (stmt.Expression 1114 (Some (expr.Call 1114 (expr.Name (sp 1114 1132)) ((expr.Unary 1133 unary.Address (expr.Name (sp 1134 1142))) ∷ [])))) ∷ item.Statement (stmt.Expression 1147 (Some (expr.Call 1147 (expr.Name (sp 1147 1151)) ((expr.Text ((sp 1152 1160) ∷ [])) ∷ [])))) ∷ item.Statement (stmt.Expression 1165 (Some (expr.Call 1165 (expr.Name (sp 1165 1185)) ((expr.Unary 1186 unary.Address (expr.Name (sp 1187 1195))) ∷ [])))) ∷ item.Statement (stmt.Return 1200 (Some (expr.Name (sp 1207 1211)))) ∷ []) }) ∷ external.Function (record { place = 1216; specs = (spec.Type 1216 type_word.Int ∷ []); declarator = (of_declarator.Function (of_declarator.Name (sp 1220 1224)) 1224 (params.Void 1225) []); body_place = 1231; body = (item.Declaration (record { place = 1235; specs = (spec.TypedefName (sp 1235 1245) ∷ []); declarators = ((record { declarator = (of_declarator.Name (sp 1246 1248)); init = (Some (init.Value (expr.Name (sp 1251 1258)))) }) ∷ []) }) ∷ item.Declaration (record { place = 1262; specs = (spec.Type 1262 type_word.Int ∷ []); declarators = ((record { declarator = (of_declarator.Pointer 1266 [] (of_declarator.Name (sp 1267 1270))); init = (Some (init.Value (expr.Call 1273 (expr.Name (sp 1273 1279)) ((expr.Binary 1280 (expr.Name (sp 1280 1286)) binary.Multiply 1287 (expr.SizeofType 1289 (record { place = 1296; specs = (spec.Type 1296 type_word.Int ∷ []); declarator = of_declarator.Absent }))) ∷ [])))) }) ∷ []) }) ∷ item.Statement (stmt.If 1305 (expr.Unary 1309 unary.Not (expr.Name (sp 1310 1313))) (stmt.Return 1315 (Some (expr.Number (sp 1322 1323)))) None) ∷ item.Declaration (record { place = 1327; specs = (spec.TypedefName (sp 1327 1336) ∷ []); declarators = ((record { declarator = (of_declarator.Name (sp 1337 1338)); init = None }) ∷ []) }) ∷ item.Statement (stmt.If 1342 (expr.Call 1346 (expr.Name (sp 1346 1360)) ((expr.Unary 1361 unary.Address (expr.Name (sp 1362 1363))) ∷ (expr.Name (sp 1365 1369)) ∷ (expr.Name (sp 1371 1375)) ∷ (expr.Unary 1377 unary.Address (expr.Name (sp 1378 1382))) ∷ [])) (stmt.Return 1385 (Some (expr.Number (sp 1392 1393)))) None) ∷ item.Statement (stmt.For 1397 (start.Declaration (record { place = 1402; specs = (spec.Type 1402 type_word.Int ∷ []); declarators = ((record { declarator = (of_declarator.Name (sp 1406 1407)); init = (Some (init.Value (expr.Number (sp 1410 1411)))) }) ∷ []) })) (Some (expr.Binary 1413 (expr.Name (sp 1413 1414)) binary.Less 1415 (expr.Number (sp 1417 1419)))) (Some (expr.Step 1421 (expr.Name (sp 1421 1422)) step.Increment)) (stmt.Expression 1426 (Some (expr.Call 1426 (expr.Name (sp 1426 1428)) ((expr.Unary 1429 unary.Address (expr.Name (sp 1430 1434))) ∷ (expr.Name (sp 1436 1439)) ∷ (expr.Name (sp 1441 1447)) ∷ []))))) ∷ item.Statement (stmt.Expression 1452 (Some (expr.Call 1452 (expr.Name (sp 1452 1464)) ((expr.Name (sp 1465 1466)) ∷ (expr.Name (sp 1468 1472)) ∷ [])))) ∷ item.Statement (stmt.Expression 1477 (Some (expr.Call 1477 (expr.Name (sp 1477 1481)) ((expr.Name (sp 1482 1485)) ∷ [])))) ∷ item.Statement (stmt.Expression 1490 (Some (expr.Call 1490 (expr.Name (sp 1490 1494)) ((expr.Text ((sp 1495 1501) ∷ [])) ∷ [])))) ∷ item.Statement (stmt.Return 1506 (Some (expr.Number (sp 1513 1514)))) ∷ []) }) ∷ []) })) ≡ 79 ∷ 15 ∷ 2 ∷ 2 ∷ 1 ∷ 6 ∷ 3 ∷ 4 ∷ []
unfolding hidden hidden-the_row-BlockItem-1 hidden-the_row-CType-0 hidden-the_row-CType-1 hidden-the_row-Declarator-0 hidden-the_row-Declarator-6 hidden-the_row-Enumerator-8 hidden-the_row-Expr-0 hidden-the_row-Expr-1 hidden-the_row-Expr-2 hidden-arguments hidden-the_row-Init-0 hidden-the_row-Initializer-0 hidden-the_row-Member-7 hidden-the_row-Param-5 hidden-the_row-Place-1 hidden-the_row-Spec-3 hidden-the_row-Stmt-0 hidden-unit-0 hidden-unit-1 hidden-the_row-TypeName-4 shape-the_row-BlockItem-1 shape-the_row-CType-0 shape-the_row-CType-1 shape-the_row-Declarator-0 shape-the_row-Declarator-6 shape-the_row-Enumerator-8 shape-the_row-Expr-0 shape-the_row-Expr-1 shape-the_row-Expr-2 shape-arguments shape-the_row-Init-0 shape-the_row-Initializer-0 shape-the_row-Member-7 shape-the_row-Param-5 shape-the_row-Place-1 shape-the_row-Spec-3 shape-the_row-Stmt-0 shape-unit-0 shape-unit-1 shape-the_row-TypeName-4 indirection element member access address unevaluated size size_of_expression size_of_type plain_assignment number_update pointer_update compound_assignment assignment step_update step spine fresh callee_in callee passed call worth is_null number_constant converted cast typedef_declared function_named variable_named init_declarator declaration file_declaration block_name block_declaration defined_name definition pointer_part array_part function_part made parameter type_name member_of_type_rules_declarators with_argument function_type body_read pointer_word initial_word initializer_words initial_values scalar text_fits by_name by_expression part finished by_list count initial_size initialized number_in character_in text_in text_initially as_value operand lvalue promoted in_sign pair_of stride arithmetic_on shift_on pointer_in_common equality_on logical_on operation sign_operation negation chosen_type chosen alternatives choice name number character holds_initially string_object text_found text parenthesised and_then name_number scoped expression value size_of typedef_name tagged_structure structure_name structure tagged_enumeration enumeration_name enumeration enumerator evaluated condition expression_statement block selection_of selection while_loop do_loop for_turns for_loop returned with_items list_behind block_items statement outermost_effects with_effects typed parts_of exceeded outcome likeness_of each_likeness signature_likeness_of conversion union conflict effects_of merged added shared points_to target_effects without_outer_effects same without_effects words_of opening_of automatics PlaceKeeps InitializerKeeps StmtKeeps row_type place_nodes initializer_nodes stmt_nodes places place_spots initializer_spots stmt_spots callee_of stores structure_in IsWithin AreVariables IsTypedPlace IsInitializer IsTypedStmt place_type packed
audio_counts = refl
