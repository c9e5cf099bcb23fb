-- It is shown rule by rule.
use Rattle.c_grammar.proofs.DepthLaw.{depth_of_tree}
use Rattle.c_grammar.proofs.depth_is_that_of_the_tree.Goals as goal

pub returns : goal.returns
returns c = depth_of_tree
