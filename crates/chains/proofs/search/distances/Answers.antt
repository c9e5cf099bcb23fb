use Rattle.std.proofs.Common.{◌+◌, ◌<◌, length, get_or, arith, ap, refl}
use Rattle.chains.proofs.Reach.{Measures-done}
use Rattle.chains.proofs.Turns.{head_place, head_known, head_listed, head_distance, head_low, callers_complete, caller_calls, caller_inside, IsTurn-none, IsTurn-more, IsDoneTo-turn}
use Rattle.chains.proofs.search.distances.Goals as goal

pub index-requires : goal.index-requires
index-requires c =
    let known = head_known _ _ _ _ _ _ c.queued.invariant.queue (omega arith) c.index-callee.ensures in
    let ok = c.queued.search.distances.ok in omega arith

pub overflow_add-distance : goal.overflow_add-distance
overflow_add-distance c =
    let low = head_low _ _ _ _ _ _ _ c.queued.invariant.queue (omega arith) c.index-callee.ensures c.index.ensures in
    let short = c.requires.short in omega arith

pub index-requires-in-queued : goal.index-requires-in-queued
index-requires-in-queued c =
    let known = head_listed _ _ _ _ c.in_ok-callers.callers.items _ _ c.queued.invariant.queue (omega arith) c.index-callee.ensures c.in_ok-callers.ensures.size in
    let ok = c.in_ok-callers.callers.ok in omega arith

pub callers-init : goal.callers-init
callers-init c =
    let inside : c.queued.head < length c.queued.search.queue.items = omega arith in
    let invariant = c.queued.invariant in
    IsTurn-none _ _ _ _ _ _ _ _ invariant.queue invariant.work inside (head_place _ _ _ inside c.index-callee.ensures) (ap (λ m. m + 1) (head_distance _ _ _ _ _ _ _ invariant.queue inside c.index-callee.ensures c.index.ensures))

pub reach-requires : goal.reach-requires
reach-requires c =
    let known : c.index-callee.result.now < length c.in_ok-callers.callers.items = head_listed _ _ _ _ _ _ _ c.queued.invariant.queue (omega arith) c.index-callee.ensures c.in_ok-callers.ensures.size in
    let step = caller_calls _ _ _ _ _ c.in_ok-callers.ensures known c.index-in-queued.ensures c.as_slice-caller-items.ensures c.callers.caller-index c.callers-test.true in
    let below = caller_inside c.args.rows.now (get_or c.as_slice-caller-items.result.now c.callers.caller-index 0) step.0 c.index-callee.result.now step.1 in
    let sized = c.callers.invariant.queue.size in omega arith

pub callers-preserved : goal.callers-preserved
callers-preserved c =
    let known : c.index-callee.result.now < length c.in_ok-callers.callers.items = head_listed _ _ _ _ _ _ _ c.queued.invariant.queue (omega arith) c.index-callee.ensures c.in_ok-callers.ensures.size in
    let step = caller_calls _ _ _ _ _ c.in_ok-callers.ensures known c.index-in-queued.ensures c.as_slice-caller-items.ensures c.callers.caller-index c.callers-test.true in
    IsTurn-more _ _ _ _ _ _ _ _ _ _ _ _ _ c.callers.invariant refl step.1 (caller_inside _ _ _ _ step.1) c.in_ok-reach.ensures.distances c.in_ok-reach.ensures.queue

pub queued-preserved : goal.queued-preserved
queued-preserved c =
    let known : c.index-callee.result.now < length c.in_ok-callers.callers.items = head_listed _ _ _ _ _ _ _ c.queued.invariant.queue (omega arith) c.index-callee.ensures c.in_ok-callers.ensures.size in
    let turn = c.callers.invariant in record {
      queue = turn.queue;
      work = IsDoneTo-turn _ _ _ _ _ _ _ _ _ turn c.callers-test.false (callers_complete _ _ _ _ _ c.in_ok-callers.ensures known c.index-in-queued.ensures c.as_slice-caller-items.ensures);
      inside = (let here = turn.inside in omega arith);
    }

pub returns-clause-exact : goal.returns-clause-exact
returns-clause-exact c =
    Measures-done _ _ _ _ _ c.queued.invariant.queue c.queued.invariant.work (omega arith)
