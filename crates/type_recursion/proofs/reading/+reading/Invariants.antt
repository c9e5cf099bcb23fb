-- The whole is what was read, and then the items that remain.
use Rattle.std.proofs.Common.{◌≡◌, [], drop}
use Rattle.type_recursion.specs.Lists.{in_order, argument, one_member, member_line, one_enumerator, one_parameter}
use Rattle.type_rules.specs.Recursion.{specifier}
use Rattle.type_recursion.proofs.reading.+reading.Given as goal

abbrev pub invariant-read_arguments-each : goal.invariant-read_arguments-each
invariant-read_arguments-each l =
    in_order argument l.arguments l.initial.given.items l.initial.typing ≡ in_order argument (drop l.argument-index l.arguments) l.given.items l.typing

abbrev pub invariant-specifiers-each : goal.invariant-specifiers-each
invariant-specifiers-each l = in_order specifier l.specs l.initial.said l.initial.typing ≡ in_order specifier (drop l.spec-index l.specs) l.said l.typing

abbrev pub invariant-member_lines-each : goal.invariant-member_lines-each
invariant-member_lines-each l = in_order member_line l.lines [] l.initial.typing ≡ in_order member_line (drop l.line-index l.lines) l.members l.typing

abbrev pub invariant-declared_members-each : goal.invariant-declared_members-each
invariant-declared_members-each l =
    in_order (one_member l.said) l.declarators l.initial.members l.initial.typing ≡ in_order (one_member l.said) (drop l.one-index l.declarators) l.members l.typing

abbrev pub invariant-enumerators-each : goal.invariant-enumerators-each
invariant-enumerators-each l =
    in_order one_enumerator l.constants l.initial.next l.initial.typing ≡ in_order one_enumerator (drop l.constant-index l.constants) l.next l.typing

abbrev pub invariant-parameter_list-each : goal.invariant-parameter_list-each
invariant-parameter_list-each l = in_order one_parameter l.all [] l.initial.typing ≡ in_order one_parameter (drop l.one-index l.all) l.before l.typing
