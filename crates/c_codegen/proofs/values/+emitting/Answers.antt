use Rattle.std.proofs.Common.{arith}
use Rattle.c_codegen.proofs.Emitted.{arguments_start, arguments_next}
use Rattle.c_codegen.proofs.ValuesCalls.{call_falls, named_size, row_size, through_size, emits_through}
use Rattle.c_codegen.proofs.values.+emitting.Goals as goal

pub emit_arguments-each-init : goal.emit_arguments-each-init
emit_arguments-each-init t c = arguments_start c.args.unit.now c.args.draft.now c.args.arguments.now

pub emit_arguments-each-preserved : goal.emit_arguments-each-preserved
emit_arguments-each-preserved t c =
    arguments_next c.args.unit.now c.args.draft.now c.each.draft c.emit_value.new.draft c.put.new.self c.args.arguments.now c.each.argument-index c.argument-item.result
    c.each-test.true c.argument-item.is c.each.invariant c.in_ok-emit_value.ensures.code c.in_ok-emit_value.ensures.long c.in_ok-put.ensures.code c.in_ok-put.ensures.long

pub emit_call-emit_arguments-requires-in-Row : goal.emit_call-emit_arguments-requires-in-Row
emit_call-emit_arguments-requires-in-Row t c =
    let call = c.in-Call in
    let falls = call_falls c.args.expression.now call.field-0 call.site call.callee call.arguments c.as_slice-in-Row.result.now call.is c.as_slice-in-Row.ensures in
    let long = row_size c.args.expression.now call.field-0 call.site call.callee c.get.result.now call.arguments c.as_slice-in-Row.result.now c.in-Row.row call.is c.get.ensures
    c.as_slice-in-Row.ensures c.in-Row.ensures in
    (omega (arith, falls, c.decreases), omega (arith, long, c.requires.room))

pub emit_call-emit_arguments-requires-in-Through : goal.emit_call-emit_arguments-requires-in-Through
emit_call-emit_arguments-requires-in-Through t c =
    let call = c.in-Call in
    let falls = call_falls c.args.expression.now call.field-0 call.site call.callee call.arguments c.as_slice-in-Through.result.now call.is c.as_slice-in-Through.ensures in
    let long = through_size c.args.expression.now call.field-0 call.site call.callee c.get.result.now c.get-in-Through-2.result.now call.arguments c.as_slice-in-Through.result.now call.is
    c.get.ensures c.get-in-Through-2.ensures c.as_slice-in-Through.ensures c.in-Through.ensures in
    (omega (arith, falls, c.decreases), omega (arith, long, c.requires.room, c.in_ok-emit_value-in-Through.ensures.long, c.in_ok-put-in-Through.ensures.long))

pub emit_call-returns-in_ok-put-in-Named-2-clause-long : goal.emit_call-returns-in_ok-put-in-Named-2-clause-long
emit_call-returns-in_ok-put-in-Named-2-clause-long t c =
    let call = c.in-Call in
    let long = named_size c.args.expression.now call.field-0 call.site call.callee c.get.result.now call.arguments c.as_slice.result.now c.in-Named.function call.is c.get.ensures
    c.as_slice.ensures c.in-Named.ensures in
    omega (arith, long, c.in_ok-emit_arguments-in-Named.ensures.long, c.in_ok-put-in-Named.ensures.long, c.in_ok-put-in-Named-2.ensures.long)

pub emit_call-returns-in_ok-put-in-Row-2-clause-long : goal.emit_call-returns-in_ok-put-in-Row-2-clause-long
emit_call-returns-in_ok-put-in-Row-2-clause-long t c =
    let call = c.in-Call in
    let long = row_size c.args.expression.now call.field-0 call.site call.callee c.get.result.now call.arguments c.as_slice-in-Row.result.now c.in-Row.row call.is c.get.ensures
    c.as_slice-in-Row.ensures c.in-Row.ensures in
    omega (arith, long, c.in_ok-emit_arguments-in-Row.ensures.long, c.in_ok-put-in-Row.ensures.long, c.in_ok-put-in-Row-2.ensures.long)

pub emit_call-returns-in_ok-put-in-Through-4-clause-code : goal.emit_call-returns-in_ok-put-in-Through-4-clause-code
emit_call-returns-in_ok-put-in-Through-4-clause-code t c =
    let call = c.in-Call in
    emits_through c.args.unit.now c.args.draft.now c.emit_value.new.draft c.put-in-Through.new.self c.emit_arguments-in-Through.new.draft c.put-in-Through-2.new.self
    c.put-in-Through-3.new.self c.put-in-Through-4.new.self c.args.expression.now call.field-0 call.site c.in_ok-count-in-Through.count call.callee c.get.result.now
    c.get-in-Through.result.now c.get-in-Through-2.result.now call.arguments c.as_slice-in-Through.result.now call.is c.get.ensures c.get-in-Through.ensures c.get-in-Through-2.ensures
    c.as_slice-in-Through.ensures c.in-Through.ensures c.in_ok-count-in-Through.ensures c.in_ok-emit_value-in-Through.ensures.code c.in_ok-put-in-Through.ensures.code
    c.in_ok-emit_arguments-in-Through.ensures.code c.in_ok-put-in-Through-2.ensures.code c.in_ok-put-in-Through-3.ensures.code c.in_ok-put-in-Through-4.ensures.code

pub emit_call-returns-in_ok-put-in-Through-4-clause-long : goal.emit_call-returns-in_ok-put-in-Through-4-clause-long
emit_call-returns-in_ok-put-in-Through-4-clause-long t c =
    let call = c.in-Call in
    let long = through_size c.args.expression.now call.field-0 call.site call.callee c.get.result.now c.get-in-Through-2.result.now call.arguments c.as_slice-in-Through.result.now call.is
    c.get.ensures c.get-in-Through-2.ensures c.as_slice-in-Through.ensures c.in-Through.ensures in
    omega (
      arith,
      long,
      c.in_ok-emit_value-in-Through.ensures.long,
      c.in_ok-put-in-Through.ensures.long,
      c.in_ok-emit_arguments-in-Through.ensures.long,
      c.in_ok-put-in-Through-2.ensures.long,
      c.in_ok-put-in-Through-3.ensures.long,
      c.in_ok-put-in-Through-4.ensures.long,
    )
