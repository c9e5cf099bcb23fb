use Rattle.c_codegen.proofs.Composed.{code_is, code_behaves}
use Rattle.c_codegen.proofs.compiling.emit_unit.Goals as goal

pub new-requires : goal.new-requires
new-requires c =
    code_is c.args.unit.now c.new-draft.result c.emit_functions.new.draft c.new-entries.result c.emit_functions.new.entries c.args.entry c.static_words-words.result
    c.parts.ensures.lawful c.requires.short c.new-draft.ensures.instructions c.new-entries.ensures c.in_ok-emit_functions.ensures c.static_words-words.ensures.count

pub returns-clause-behaves : goal.returns-clause-behaves
returns-clause-behaves c =
    code_behaves c.args.unit.now c.new-draft.result c.emit_functions.new.draft c.new-entries.result c.emit_functions.new.entries c.args.entry c.static_words-words.result c.new.result
    c.parts.ensures.lawful c.new-draft.ensures.instructions c.new-entries.ensures c.in_ok-emit_functions.ensures c.static_words-words.ensures.count c.new.ensures
