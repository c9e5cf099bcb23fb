use Rattle.std.proofs.Common.{◌≡◌, ◌-◌, length}
use Rattle.c_grammar.specs.Rules.{Initializers}
use Rattle.parse_input.specs.Reads.{named}
use Rattle.parse_declarations.proofs.Gathered.{gathered}
use Rattle.parse_declarations.proofs.initializers.Initializers.initializers_inside.Given as goal

abbrev pub invariant-each : goal.invariant-each
invariant-each g l = record {
  reads :
      named (l.limits.room - 1) (Initializers l.fn.input.scope) l.fn.input.tokens
      ≡ gathered l.value l.depth (named (l.limits.room - 1) (Initializers l.fn.input.scope) l.input.tokens);
  kept : l.input.scope ≡ l.fn.input.scope;
}

abbrev pub decreases-each : goal.decreases-each
decreases-each g l = length l.input.tokens
