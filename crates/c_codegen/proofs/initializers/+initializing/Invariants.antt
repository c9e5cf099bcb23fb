-- The initializers so far. What is called for a part of an initializer goes before the initializer.
use Rattle.std.proofs.Common.{◌+◌, ◌*◌, take}
use Rattle.c_codegen.specs.Sizes.{initializer_size, listed_size}
use Rattle.c_codegen.proofs.StatedInitializers.{AreBegun}
use Rattle.c_codegen.proofs.initializers.+initializing.Given as goal

abbrev pub invariant-emit_initializers-each : goal.invariant-emit_initializers-each
invariant-emit_initializers-each l = AreBegun l.unit l.initial.draft l.draft l.offset l.next (take l.initializer-index l.initializers)

abbrev pub decreases-emit_initializer : goal.decreases-emit_initializer
decreases-emit_initializer l = 2 * initializer_size l.initializer.now

abbrev pub decreases-emit_initializers : goal.decreases-emit_initializers
decreases-emit_initializers l = 2 * listed_size l.initializers.now + 1
