use Rattle.std.proofs.Common.{◌≡◌, false, length}
use Rattle.c_grammar.specs.Rules.{Externals}
use Rattle.parse_input.specs.Reads.{named}
use Rattle.parse_declarations.proofs.Gathered.{gathered}
use Rattle.parse_files.proofs.externals.externals.Given as goal

abbrev pub invariant-each : goal.invariant-each
invariant-each l = record {
  reads :
      named l.limits.room (Externals l.fn.input.scope) l.fn.input.tokens
      ≡ gathered l.value l.depth (named l.limits.room (Externals l.input.scope) l.input.tokens);
  file : l.input.scope.block ≡ false;
}

abbrev pub decreases-each : goal.decreases-each
decreases-each l = length l.input.tokens
