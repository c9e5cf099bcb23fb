-- The arguments so far. What is called for a part of an expression or a place goes before it.
use Rattle.std.proofs.Common.{◌≡◌, ◌+◌, take}
use Rattle.c_codegen.specs.Emits.{here, EmitsArguments}
use Rattle.c_codegen.specs.Sizes.{arguments_size}
use Rattle.c_codegen.proofs.ValuesRanks.{rank, place_rank, list_rank}
use Rattle.c_codegen.proofs.values.+emitting.Given as goal

abbrev pub invariant-emit_arguments-each : goal.invariant-emit_arguments-each
invariant-emit_arguments-each l =
    EmitsArguments l.unit l.initial.draft l.draft (take l.argument-index l.arguments)
    × (here l.draft ≡ here l.initial.draft + arguments_size (take l.argument-index l.arguments))

abbrev pub decreases-emit_place : goal.decreases-emit_place
decreases-emit_place l = place_rank l.place.now

abbrev pub decreases-emit_value : goal.decreases-emit_value
decreases-emit_value l = rank l.expression.now + 1

abbrev pub decreases-emit_operands : goal.decreases-emit_operands
decreases-emit_operands l = rank l.expression.now

abbrev pub decreases-emit_operation : goal.decreases-emit_operation
decreases-emit_operation l = rank l.expression.now

abbrev pub decreases-emit_assignment : goal.decreases-emit_assignment
decreases-emit_assignment l = rank l.expression.now

abbrev pub decreases-emit_choice : goal.decreases-emit_choice
decreases-emit_choice l = rank l.expression.now

abbrev pub decreases-emit_call : goal.decreases-emit_call
decreases-emit_call l = rank l.expression.now

abbrev pub decreases-emit_arguments : goal.decreases-emit_arguments
decreases-emit_arguments l = list_rank l.arguments.now + 2
