-- The chain begins, goes on, and ends.
use Rattle.std.proofs.Common.{◌<◌, ◌≤◌, ◌-◌, sym, ◌∙◌, arith}
use Rattle.c_grammar.specs.Declarators.{direct_start, direct_step}
use Rattle.parse_input.proofs.Steps.{reads_within}
use Rattle.parse_declarators.proofs.Directs.{start_goes, loop_ends, loop_full, loop_goes, joined_within, joined_less}
use Rattle.parse_declarators.proofs.parser.Declarators.direct.Goals as goal

pub each-init : goal.each-init
each-init g c = (
  start_goes c.args.limits.room c.args.input.now.scope c.args.kind c.args.bracket c.args.input.now.tokens c.in_ok-left.left.value
      c.in_ok-left.left.depth c.direct_start.new.input.tokens c.in_ok-left.ensures.reads,
  reads_within c.args.limits.room (direct_start c.args.input.now.scope c.args.kind c.args.bracket) c.args.input.now.tokens
      c.in_ok-left.left.value c.in_ok-left.left.depth c.direct_start.new.input.tokens c.in_ok-left.ensures.reads,
  c.in_ok-left.ensures.kept,
)

pub returns-then-left-limits-clause-reads : goal.returns-then-left-limits-clause-reads
returns-then-left-limits-clause-reads g c =
    let inv = c.each.invariant in
    let full : c.args.limits.room ≤ c.each.left.depth = omega arith in
    loop_full c.args.limits.room c.args.input.now.scope c.args.kind c.args.bracket _ c.each.left.value c.each.left.depth
    c.each.input.tokens c.each.input.scope inv.0 inv.2 (sym c.begins_step.ensures ∙ c.if-not-begins_step.false) full

pub each-smaller : goal.each-smaller
each-smaller g c =
    let less =
    joined_less (c.args.limits.room - 1) c.each.input.scope c.args.kind c.args.bracket c.each.left.value c.each.left.depth
    c.each.input.tokens c.in_ok-left-2.left.value c.in_ok-left-2.left.depth c.direct_step.new.input.tokens c.in_ok-left-2.ensures.reads in
    omega arith

pub each-preserved : goal.each-preserved
each-preserved g c =
    let inv = c.each.invariant in
    let some : c.each.left.depth < c.args.limits.room = omega arith in (
      loop_goes c.args.limits.room c.args.input.now.scope c.args.kind c.args.bracket _ c.each.left.value c.each.left.depth
          c.each.input.tokens c.each.input.scope inv.0 inv.2 c.in_ok-left-2.left.value c.in_ok-left-2.left.depth c.direct_step.new.input.tokens
          (sym c.begins_step.ensures ∙ c.if-not-begins_step.false) some c.in_ok-left-2.ensures.reads,
      joined_within c.args.limits.room c.each.left.depth
          (direct_step c.each.input.scope c.args.kind c.args.bracket c.each.left.value.bracket c.each.left.value) c.each.input.tokens
          c.in_ok-left-2.left.value c.in_ok-left-2.left.depth c.direct_step.new.input.tokens some c.in_ok-left-2.ensures.reads,
      c.in_ok-left-2.ensures.kept ∙ inv.2,
    )

pub returns-clause-reads : goal.returns-clause-reads
returns-clause-reads g c =
    let inv = c.each.invariant in
    loop_ends c.args.limits.room c.args.input.now.scope c.args.kind c.args.bracket _ c.each.left.value c.each.left.depth
    c.each.input.tokens c.each.input.scope inv.0 inv.2 (sym c.begins_step.ensures ∙ c.if-not-begins_step.true)
