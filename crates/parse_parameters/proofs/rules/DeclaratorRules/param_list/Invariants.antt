-- What the rule reads is the parameters so far, and what it reads from here on; the names that are hidden lie above the mark.
use Rattle.std.proofs.Common.{◌≡◌, ◌≤◌, length}
use Rattle.c_grammar.specs.Rules.{ParamList}
use Rattle.parse_input.specs.Input.{cut_scope}
use Rattle.parse_input.specs.Reads.{named}
use Rattle.parse_declared.specs.Parameters.{behind_params}
use Rattle.parse_parameters.proofs.rules.DeclaratorRules.param_list.Given as goal

abbrev pub invariant-each : goal.invariant-each
invariant-each g l =
    (named l.limits.room (ParamList l.initial.context l.initial.input.scope l.initial.before) l.initial.input.tokens
    ≡ behind_params l.list.value l.list.depth (named l.limits.room (ParamList l.context l.input.scope l.before) l.input.tokens))
    × (cut_scope l.mark l.input.scope ≡ l.initial.input.scope)
    × (l.mark ≤ length l.input.scope.types)

abbrev pub decreases-each : goal.decreases-each
decreases-each g l = length l.input.tokens
