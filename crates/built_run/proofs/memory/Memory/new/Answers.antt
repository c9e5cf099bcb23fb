use Rattle.std.proofs.Common.{◌∙◌}
use Rattle.built_run.proofs.Opening.{opening_is}
use Rattle.built_run.proofs.memory.Memory.new.Goals as goal

pub returns : goal.returns
returns c = c.in_ok-words.ensures.items ∙ opening_is
