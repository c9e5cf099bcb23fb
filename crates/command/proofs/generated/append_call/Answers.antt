use Rattle.command.specs.Generated.{call_line}
use Rattle.command.proofs.generated.append_call.Goals as goal

pub returns : goal.returns
unfolding call_line
returns c = rw (c.format.ensures.text, c.format-2.ensures.text) at c.append.ensures
