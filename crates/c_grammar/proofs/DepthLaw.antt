-- Each rule counts the nodes of what it reads, and the rest holds of every grammar whose rules do.
use Rattle.c_grammar.specs.Rules.{Expression, Assignment, Conditional, Prefix, Arguments, MoreArguments, Binary, Operand, Postfix, Primary, Texts, Specs, Members, MemberDeclarators, Enumerators, TypeName, ClangWords, GnuWords, Effect, Attributes, Declarator, Direct, Pointer, Group, Qualifiers, Params, ParamList, Initializer, Braces, Initializers, InitDeclarators, MoreDeclarators, Declaration, MaybeExpression, Statement, Block, BlockItems, External, Externals, Unit as WholeFile}
use Rattle.c_grammar.specs.Grammar.{c_grammar}
use Rattle.c_grammar.specs.Deep.{IsDepthOfTree}
use Rattle.c_grammar.proofs.Measured.{IsMeasured, reads_within}
use Rattle.c_grammar.proofs.Measure.{measure, Fine}
use Rattle.c_grammar.proofs.ExpressionsMeasured.{expression_counted, assignment_counted, conditional_counted, prefix_counted, arguments_counted, more_arguments_counted, binary_counted, operand_counted, postfix_counted, primary_counted, texts_counted}
use Rattle.c_grammar.proofs.SpecifiersMeasured.{specs_counted, members_counted, member_declarators_counted, enumerators_counted, type_name_counted, clang_words_counted, gnu_words_counted, effect_counted, attributes_counted}
use Rattle.c_grammar.proofs.DeclaratorsMeasured.{declarator_counted, direct_counted, pointer_counted, group_counted, qualifiers_counted, params_counted, param_list_counted}
use Rattle.c_grammar.proofs.StatementsMeasured.{initializer_counted, braces_counted, initializers_counted, init_declarators_counted, more_declarators_counted, declaration_counted, maybe_counted, statement_counted, block_counted, block_items_counted, external_counted, externals_counted, unit_counted}

counted : IsMeasured c_grammar measure Fine
counted (Expression s) f = expression_counted s
counted (Assignment s) f = assignment_counted s
counted (Conditional s) f = conditional_counted s
counted (Prefix s) f = prefix_counted s
counted (Arguments s) f = arguments_counted s
counted (MoreArguments s) f = more_arguments_counted s
counted (Binary l s) f = binary_counted l s
counted (Operand front s) f = operand_counted front s
counted (Postfix front s) f = postfix_counted front s
counted (Primary front s) f = primary_counted front s
counted Texts f = texts_counted
counted (Specs context s state) f = specs_counted context s state
counted (Members s) f = members_counted s
counted (MemberDeclarators s) f = member_declarators_counted s
counted (Enumerators s) f = enumerators_counted s
counted (TypeName s) f = type_name_counted s
counted ClangWords f = clang_words_counted
counted GnuWords f = gnu_words_counted
counted (Effect spelling) f = effect_counted spelling
counted (Attributes s) f = attributes_counted s
counted (Declarator s kind b) f = declarator_counted s kind b
counted (Direct s kind b) f = direct_counted s kind b
counted (Pointer s kind) f = pointer_counted s kind
counted (Group s kind) f = group_counted s kind
counted Qualifiers f = qualifiers_counted
counted (Params s) f = params_counted s
counted (ParamList context s before) f = param_list_counted context s before f
counted (Initializer s) f = initializer_counted s
counted (Braces s) f = braces_counted s
counted (Initializers s) f = initializers_counted s
counted (InitDeclarators s typedefs) f = init_declarators_counted s typedefs
counted (MoreDeclarators s typedefs) f = more_declarators_counted s typedefs
counted (Declaration s) f = declaration_counted s
counted (MaybeExpression s) f = maybe_counted s
counted (Statement s loop) f = statement_counted s loop
counted (Block s loop) f = block_counted s loop
counted (BlockItems s loop) f = block_items_counted s loop
counted (External s) f = external_counted s
counted (Externals s) f = externals_counted s
counted WholeFile f = unit_counted

pub depth_of_tree : IsDepthOfTree
depth_of_tree room tokens tree = (
  (λ (height, h). ((room, (height, h)), (reads_within c_grammar measure Fine counted height room room WholeFile tokens tree tt h).0)),
  (λ ((greater, (height, h)), fits). (height, (reads_within c_grammar measure Fine counted height greater room WholeFile tokens tree tt h).1 fits)),
)
