use Rattle.c_codegen.proofs.StatedInitializers.{begun_none, begun_next}
use Rattle.c_codegen.proofs.initializers.+initializing.Goals as goal

pub emit_initializers-each-init : goal.emit_initializers-each-init
emit_initializers-each-init t c = begun_none c.args.unit.now c.args.draft.now c.args.offset

pub emit_initializers-each-preserved : goal.emit_initializers-each-preserved
emit_initializers-each-preserved t c =
    begun_next c.args.unit.now c.args.draft.now c.each.draft c.emit_initializer.new.draft c.args.offset c.each.next c.in_ok-next.next c.args.initializers.now c.each.initializer-index
    c.initializer-item.result c.each-test.true c.initializer-item.is c.each.invariant c.in_ok-next.ensures.code c.in_ok-next.ensures.long c.in_ok-next.ensures.next
