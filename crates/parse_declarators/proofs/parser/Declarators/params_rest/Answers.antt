-- What stands inside a node is no deeper than the room there.
use Rattle.std.proofs.Common.{◌≤◌, ◌-◌, arith}
use Rattle.c_grammar.specs.Rules.{Params}
use Rattle.parse_input.proofs.Steps.{within}
use Rattle.parse_declarators.proofs.parser.Declarators.params_rest.Goals as goal

pub overflow_add-result : goal.overflow_add-result
overflow_add-result g c =
    let inner : c.in_ok-given.given.depth ≤ c.inside-inside.result.room =
    within c.inside-inside.result.room (Params c.take-opened.new.self.scope) c.take-opened.new.self.tokens c.in_ok-given.given.value c.in_ok-given.given.depth
    c.params.new.input.tokens c.in_ok-given.ensures.reads in
    let rest : c.in_ok-rest.rest.depth ≤ c.args.limits.room - 1 = c.in_ok-rest.ensures.depth in
    omega arith
