use Rattle.command.specs.Generated.{function_line}
use Rattle.command.proofs.generated.append_function.Goals as goal

pub returns : goal.returns
unfolding function_line
returns c = rw (c.format.ensures.text, c.attribute.ensures, c.format-2.ensures.text, c.format-3.ensures.text) at c.append.ensures
