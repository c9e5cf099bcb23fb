use Rattle.std.proofs.Common.{◌≡◌, length}
use Rattle.c_grammar.specs.Rules.{MoreDeclarators}
use Rattle.parse_input.specs.Reads.{named}
use Rattle.parse_declarations.specs.Scoped.{Extends, behind_declarators}
use Rattle.parse_declarations.proofs.declarations.more_declarators.Given as goal

abbrev pub invariant-each : goal.invariant-each
invariant-each l = record {
  reads :
      behind_declarators l.fn.before.value l.fn.before.depth (named l.limits.room (MoreDeclarators l.fn.input.scope l.typedefs) l.fn.input.tokens)
      ≡ behind_declarators l.value l.depth (named l.limits.room (MoreDeclarators l.input.scope l.typedefs) l.input.tokens);
  grown : Extends l.fn.input.scope l.input.scope;
}

abbrev pub decreases-each : goal.decreases-each
decreases-each l = length l.input.tokens
