use Rattle.parse_declarations.proofs.initializers.+initializer.Given as goal

abbrev pub decreases-initializer : goal.decreases-initializer
decreases-initializer l = l.limits.room
