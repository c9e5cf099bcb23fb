use Rattle.std.proofs.Common.{length}
use Rattle.type_declarators.proofs.parts.+build.Given as goal

abbrev pub decreases-build : goal.decreases-build
decreases-build l = length l.parts.now
