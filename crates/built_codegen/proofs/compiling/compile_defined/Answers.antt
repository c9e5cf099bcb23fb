use Rattle.built_codegen.proofs.Emitted.{behaves_compiled}
use Rattle.built_codegen.proofs.compiling.compile_defined.Goals as goal

pub returns-in-Ok-clause-behaves : goal.returns-in-Ok-clause-behaves
returns-in-Ok-clause-behaves c =
    behaves_compiled c.args.unit.now _ c.in-Ok.ensures.instructions c.in-Ok.ensures.entries
