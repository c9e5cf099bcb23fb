-- How deep what each rule reads is, and what it means that the rule counts so.
use Rattle.std.proofs.Common.{◌≡◌, ℕ, List, map}
use Rattle.c_tree.specs.Depth.{node, deepest, expr_depth, spec_depth, declarator_depth, optional_depth, type_name_depth, member_depth, enumerator_depth, param_depth, init_depth, init_declarator_depth, declaration_depth, statement_depth, item_depth, external_depth, tree_depth}
use Rattle.c_tree.specs.declared.expressions.Spec.{Spec}
use Rattle.c_grammar.specs.Rules.{Rule, Expression, Assignment, Conditional, Prefix, Arguments, MoreArguments, Binary, Operand, Postfix, Primary, Texts, Specs, Members, MemberDeclarators, Enumerators, TypeName, ClangWords, GnuWords, Effect, Attributes, Declarator, Direct, Pointer, Group, Qualifiers, Params, ParamList, Initializer, Braces, Initializers, InitDeclarators, MoreDeclarators, Declaration, MaybeExpression, Statement, Block, BlockItems, External, Externals, Unit as WholeFile, ValueOf}
use Rattle.c_grammar.specs.Grammar.{production}
use Rattle.c_grammar.proofs.Measured.{ProductionMeasured}

abbrev pub all_specs : List Spec → ℕ
all_specs specs = deepest (map spec_depth specs)

abbrev pub measure : (n : Rule) → ValueOf n → ℕ
measure (Expression s) x = expr_depth x
measure (Assignment s) x = expr_depth x
measure (Conditional s) x = expr_depth x
measure (Prefix s) x = expr_depth x
measure (Arguments s) x = deepest (map expr_depth x)
measure (MoreArguments s) x = deepest (map expr_depth x)
measure (Binary l s) x = expr_depth x
measure (Operand f s) x = expr_depth x
measure (Postfix f s) x = expr_depth x
measure (Primary f s) x = expr_depth x
measure Texts x = 0
measure (Specs context s state) x = all_specs x.specs
measure (Members s) x = deepest (map member_depth x)
measure (MemberDeclarators s) x = deepest (map declarator_depth x)
measure (Enumerators s) x = deepest (map enumerator_depth x)
measure (TypeName s) x = type_name_depth x
measure ClangWords x = 0
measure GnuWords x = 0
measure (Effect spelling) x = 0
measure (Attributes s) x = 0
measure (Declarator s kind b) x = declarator_depth x.tree
measure (Direct s kind b) x = declarator_depth x.tree
measure (Pointer s kind) x = declarator_depth x.tree
measure (Group s kind) x = declarator_depth x.tree
measure Qualifiers x = 0
measure (Params s) x = deepest (map param_depth x.params)
measure (ParamList context s before) x = deepest (map param_depth x.params)
measure (Initializer s) x = init_depth x
measure (Braces s) x = init_depth x
measure (Initializers s) x = deepest (map init_depth x)
measure (InitDeclarators s typedefs) x = deepest (map init_declarator_depth x.declarators)
measure (MoreDeclarators s typedefs) x = deepest (map init_declarator_depth x.declarators)
measure (Declaration s) x = declaration_depth x.tree
measure (MaybeExpression s) x = optional_depth x
measure (Statement s loop) x = statement_depth x.tree
measure (Block s loop) x = node (deepest (map item_depth x.items))
measure (BlockItems s loop) x = deepest (map item_depth x)
measure (External s) x = external_depth x.tree
measure (Externals s) x = deepest (map external_depth x)
measure WholeFile x = tree_depth x

-- The specifiers that a rule is told of count in what it reads, and it doesn't read them: nothing is deep in them.
abbrev pub Fine : Rule → Type 0
Fine (ParamList context s before) = all_specs before ≡ 0
Fine _ = Unit {0}

-- what the rule reads is as deep as the nodes that it counts
abbrev pub Counted : Rule → Type 0
Counted n = ProductionMeasured measure Fine (measure n) (production n)
