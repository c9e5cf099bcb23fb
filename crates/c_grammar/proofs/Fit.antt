-- One token decides in the whole grammar.
use Rattle.std.proofs.Common.{◌<◌, lit<}
use Rattle.grammar.specs.LL1.{IsLL1}
use Rattle.grammar.proofs.Checked.{fits}
use Rattle.c_grammar.specs.declared.state.Precedence.{Precedence}
use Rattle.c_grammar.specs.declared.state.Front.TheVariants.{Cast as CastFront, Opened as OpenedFront}
use Rattle.c_grammar.specs.declared.state.Precedence.TheVariants.{LogicalOr}
use Rattle.c_grammar.specs.Rules.{Rule, Expression, Assignment, Conditional, Prefix, Arguments, MoreArguments, Binary, Operand, Postfix, Primary, Texts, Specs, Members, MemberDeclarators, Enumerators, TypeName, ClangWords, GnuWords, Effect, Attributes, Declarator, Direct, Pointer, Group, Qualifiers, Params, ParamList, Initializer, Braces, Initializers, InitDeclarators, MoreDeclarators, Declaration, MaybeExpression, Statement, Block, BlockItems, External, Externals, Unit}
use Rattle.c_grammar.specs.Grammar.{c_grammar, production}
use Rattle.c_grammar.specs.Lookahead.{c_lookahead, rank_of_rule, level_rank}
use Rattle.c_grammar.proofs.Every.{All, all}
use Rattle.c_grammar.proofs.Fine.{Fine}
use Rattle.c_grammar.proofs.ExpressionsFit.{texts_fine, more_arguments_fine, arguments_fine, expression_fine, assignment_fine, conditional_fine, binary_fine, prefix_fine, operand_fine, postfix_fine, primary_fine}
use Rattle.c_grammar.proofs.SpecifiersFit.{specs_fine, members_fine, member_declarators_fine, enumerators_fine, clang_words_fine, gnu_words_fine, effect_fine, attributes_fine}
use Rattle.c_grammar.proofs.DeclaratorsFit.{declarator_fine, pointer_fine, qualifiers_fine, direct_fine, group_fine, params_fine, param_list_fine, type_name_fine}
use Rattle.c_grammar.proofs.StatementsFit.{initializer_fine, braces_fine, initializers_fine, init_declarators_fine, more_declarators_fine, declaration_fine, maybe_fine, statement_fine, block_fine, block_items_fine, external_fine, externals_fine, unit_fine}

fine : (n : Rule) → Fine n
fine (Expression s) = expression_fine s
fine (Assignment s) = assignment_fine s
fine (Conditional s) = conditional_fine s
fine (Prefix s) = prefix_fine s
fine (Arguments s) = arguments_fine s
fine (MoreArguments s) = more_arguments_fine s
fine (Binary l s) = binary_fine l s
fine (Operand f s) = operand_fine f s
fine (Postfix f s) = postfix_fine f s
fine (Primary f s) = primary_fine f s
fine Texts = texts_fine
fine (Specs context s state) = specs_fine context s state
fine (Members s) = members_fine s
fine (MemberDeclarators s) = member_declarators_fine s
fine (Enumerators s) = enumerators_fine s
fine (TypeName s) = type_name_fine s
fine ClangWords = clang_words_fine
fine GnuWords = gnu_words_fine
fine (Effect spelling) = effect_fine spelling
fine (Attributes s) = attributes_fine s
fine (Declarator s kind b) = declarator_fine s kind b
fine (Direct s kind b) = direct_fine s kind b
fine (Pointer s kind) = pointer_fine s kind
fine (Group s kind) = group_fine s kind
fine Qualifiers = qualifiers_fine
fine (Params s) = params_fine s
fine (ParamList context s before) = param_list_fine context s before
fine (Initializer s) = initializer_fine s
fine (Braces s) = braces_fine s
fine (Initializers s) = initializers_fine s
fine (InitDeclarators s typedefs) = init_declarators_fine s typedefs
fine (MoreDeclarators s typedefs) = more_declarators_fine s typedefs
fine (Declaration s) = declaration_fine s
fine (MaybeExpression s) = maybe_fine s
fine (Statement s loop) = statement_fine s loop
fine (Block s loop) = block_fine s loop
fine (BlockItems s loop) = block_items_fine s loop
fine (External s) = external_fine s
fine (Externals s) = externals_fine s
fine Unit = unit_fine

level_below : (l : Precedence) → level_rank l < 40
level_below LogicalOr = lit< tt
level_below _ = lit< tt

below : (n : Rule) → rank_of_rule n < 40
below (Binary l s) = level_below l
below (Operand (OpenedFront p) s) = lit< tt
below (Operand CastFront s) = lit< tt
below (Operand _ s) = lit< tt
below (Postfix (OpenedFront p) s) = lit< tt
below (Postfix CastFront s) = lit< tt
below (Postfix _ s) = lit< tt
below (Primary (OpenedFront p) s) = lit< tt
below (Primary CastFront s) = lit< tt
below (Primary _ s) = lit< tt
below _ = lit< tt

pub c_grammar_fits : IsLL1 c_grammar c_lookahead
c_grammar_fits n = (below n, fits c_lookahead All all n (production n) (fine n))
