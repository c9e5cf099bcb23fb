-- The grammar: the production of each rule.
use Rattle.grammar.specs.Parts.{Return, Call, Production, Plain, Node, Chain, Grammar}
use Rattle.c_grammar.specs.Lexemes.{Lexeme}
use Rattle.c_grammar.specs.declared.state.Precedence.TheVariants.{LogicalOr}
use Rattle.c_grammar.specs.Rules.{Rule, Expression, Assignment, Conditional, Prefix, Arguments, MoreArguments, Binary, Operand, Postfix, Primary, Texts, Specs, Members, MemberDeclarators, Enumerators, TypeName, ClangWords, GnuWords, Effect, Attributes, Declarator, Direct, Pointer, Group, Qualifiers, Params, ParamList, Initializer, Braces, Initializers, InitDeclarators, MoreDeclarators, Declaration, MaybeExpression, Statement, Block, BlockItems, External, Externals, Unit, ValueOf}
use Rattle.c_grammar.specs.Expressions.{comma_step, assignment_step, conditional_step, tighter, binary_step, operand, prefix, postfix_step, arguments, more_arguments, texts, primary}
use Rattle.c_grammar.specs.Specifiers.{specs, members, member_declarators, enumerators, clang_words, gnu_words, effect_parts, attributes, type_name}
use Rattle.c_grammar.specs.Declarators.{declarator, qualifiers, pointer, direct_start, direct_step, group, params, param_list}
use Rattle.c_grammar.specs.Statements.{initializer, braces, initializers, init_declarators, more_declarators, declaration, maybe_expression, statement, block, block_items, external, externals, unit}

abbrev pub production : (n : Rule) → Production Lexeme Rule ValueOf (ValueOf n)
production (Expression s) = Chain (Call (Assignment s) Return) (comma_step s)
production (Assignment s) = Chain (Call (Conditional s) Return) (assignment_step s)
production (Conditional s) = Chain (Call (Binary LogicalOr s) Return) (conditional_step s)
production (Binary l s) = Chain (tighter l s Return) (binary_step l s)
production (Operand f s) = Plain (operand f s)
production (Prefix s) = Node (prefix s)
production (Postfix f s) = Chain (Call (Primary f s) Return) (postfix_step s)
production (Primary f s) = Node (primary f s)
production (Arguments s) = Plain (arguments s)
production (MoreArguments s) = Plain (more_arguments s)
production Texts = Plain texts
production (Specs context s state) = Plain (specs context s state)
production (Members s) = Plain (members s)
production (MemberDeclarators s) = Plain (member_declarators s)
production (Enumerators s) = Plain (enumerators s)
production (TypeName s) = Plain (type_name s)
production ClangWords = Plain clang_words
production GnuWords = Plain gnu_words
production (Effect spelling) = Plain (effect_parts spelling)
production (Attributes s) = Plain (attributes s)
production (Declarator s kind b) = Plain (declarator s kind b)
production (Direct s kind b) = Chain (direct_start s kind b) (λ x. direct_step s kind b x.bracket x)
production (Pointer s kind) = Node (pointer s kind)
production (Group s kind) = Node (group s kind)
production Qualifiers = Plain qualifiers
production (Params s) = Plain (params s)
production (ParamList context s before) = Plain (param_list context s before)
production (Initializer s) = Plain (initializer s)
production (Braces s) = Node (braces s)
production (Initializers s) = Plain (initializers s)
production (InitDeclarators s typedefs) = Plain (init_declarators s typedefs)
production (MoreDeclarators s typedefs) = Plain (more_declarators s typedefs)
production (Declaration s) = Node (declaration s)
production (MaybeExpression s) = Plain (maybe_expression s)
production (Statement s loop) = Node (statement s loop)
production (Block s loop) = Node (block s loop)
production (BlockItems s loop) = Plain (block_items s loop)
production (External s) = Node (external s)
production (Externals s) = Plain (externals s)
production Unit = Plain unit

abbrev pub c_grammar : Grammar
c_grammar = record { Token = Lexeme; Name = Rule; Value = ValueOf; production = production }
