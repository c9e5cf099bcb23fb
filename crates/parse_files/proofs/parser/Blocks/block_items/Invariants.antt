use Rattle.std.proofs.Common.{◌≡◌, ◌-◌, length}
use Rattle.c_grammar.specs.Rules.{BlockItems}
use Rattle.parse_input.specs.Reads.{named}
use Rattle.parse_declarations.specs.Scoped.{Extends}
use Rattle.parse_declarations.proofs.Gathered.{gathered}
use Rattle.parse_files.proofs.parser.Blocks.block_items.Given as goal

abbrev pub invariant-each : goal.invariant-each
invariant-each g l = record {
  reads :
      named (l.limits.room - 1) (BlockItems l.fn.input.scope l.in_loop) l.fn.input.tokens
      ≡ gathered l.value l.depth (named (l.limits.room - 1) (BlockItems l.input.scope l.in_loop) l.input.tokens);
  grown : Extends l.fn.input.scope l.input.scope;
}

abbrev pub decreases-each : goal.decreases-each
decreases-each g l = length l.input.tokens
