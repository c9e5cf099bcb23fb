-- The slice behind the first ones.
use Rattle.warning_text.proofs.Order.{behind_is}
use Rattle.warning_text.proofs.merging.behind.Goals as goal

pub returns : goal.returns
returns c = behind_is c.args.typed.now c.count_before-before.result _ c.count_before-before.ensures.count
