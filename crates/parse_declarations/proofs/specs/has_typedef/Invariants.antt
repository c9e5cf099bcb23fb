-- No specifier so far is `typedef`.
use Rattle.std.proofs.Common.{◌≡◌, drop}
use Rattle.c_grammar.specs.Trees.{has_typedef}
use Rattle.parse_declarations.proofs.specs.has_typedef.Given as goal

abbrev pub invariant-each : goal.invariant-each
invariant-each l = has_typedef l.specs ≡ has_typedef (drop l.spec-index l.specs)
