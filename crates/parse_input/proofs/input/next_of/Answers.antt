-- The next token is the first of the slice.
use Rattle.std.proofs.Common.{sym, ◌∙◌}
use Rattle.parse_input.proofs.Lists.{a_head}
use Rattle.parse_input.proofs.input.next_of.Goals as goal

pub returns-in-Some : goal.returns-in-Some
returns-in-Some c = c.seen_in.ensures ∙ sym (a_head c.args.source.now c.in-Some.token.now c.in-Some.field-0-1.now c.args.rest.now c.in-Some.ensures.cases.0)
