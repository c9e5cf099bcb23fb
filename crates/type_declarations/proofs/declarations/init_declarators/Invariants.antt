-- The whole is what the declarators before gave, and then those that remain.
use Rattle.std.proofs.Common.{◌≡◌, drop}
use Rattle.type_declarations.specs.Declared.{name_declared, one_declarator}
use Rattle.type_recursion.specs.Lists.{in_order}
use Rattle.type_rules.specs.Declarations.{init_declarators}
use Rattle.type_declarations.proofs.declarations.init_declarators.Given as goal

abbrev pub invariant-each : goal.invariant-each
invariant-each l =
    init_declarators l.said (name_declared l.in_block) l.declarators l.initial.typing
    ≡ in_order (one_declarator l.in_block l.said) (drop l.d-index l.declarators) l.before l.typing
