use Rattle.std.proofs.Common.{◌≡◌, ◌<◌, ◌≤◌, ℕ, List, ◌++◌, slice_index, sym, ◌∙◌, subst, arith}
use Rattle.std.specs.Mem.Slots.{slots_items}
use Rattle.ctx_set.specs.declared.steps.StackStep.{StackStep}
use Rattle.context_set.specs.Paths.{IsStep}
use Rattle.context_set.specs.Keys.{key_of}
use Rattle.context_set.specs.Closed.{Climbs}
use Rattle.context_set.proofs.Seats.{at_place}
use Rattle.context_set.proofs.Climbing.{climb_within, climb_done, climb_left, climb_whole}
use Rattle.context_set.proofs.close.climbed.Goals as goal

pub word-requires : goal.word-requires
word-requires c =
    let left = c.loop-climbed.invariant.left in
    let here = climb_within c.args.slots (slice_index (slots_items c.args.closed.now.words)) c.loop-climbed.at left.0 left.1 in
    (omega (arith, here.0, c.requires.size), c.requires.full)

pub unpacked-parent-requires : goal.unpacked-parent-requires
unpacked-parent-requires c =
    let left = c.loop-climbed.invariant.left in
    let here = climb_within c.args.slots (slice_index (slots_items c.args.closed.now.words)) c.loop-climbed.at left.0 left.1 in
    subst (λ (x : ℕ). 0 < x) (at_place (slots_items c.args.closed.now.words) c.loop-climbed.at c.word.result 0 c.word.ensures) here.1

pub returns-then-parent-eq65536 : goal.returns-then-parent-eq65536
returns-then-parent-eq65536 c =
    let n = c.args.slots in
    let r = slice_index (slots_items c.args.closed.now.words) in
    let at = c.loop-climbed.at in
    let left = c.loop-climbed.invariant.left in
    let is : r at ≡ c.word.result = at_place (slots_items c.args.closed.now.words) at c.word.result 0 c.word.ensures in
    let done = climb_done n c.requires.most r c.args.slot at c.loop-climbed.steps.items c.unpacked-parent.result.0 c.unpacked-parent.result.1
    (λ parent s few small key. c.unpacked-parent.ensures parent s few small (sym is ∙ key)) c.loop-climbed.invariant.whole left.0 left.1 c.if-parent-eq65536.true in
    subst (λ (l : List StackStep). Climbs n r c.args.slot l) (sym c.in_ok-push.ensures.items) done

pub loop-climbed-preserved : goal.loop-climbed-preserved
loop-climbed-preserved c =
    let n = c.args.slots in
    let r = slice_index (slots_items c.args.closed.now.words) in
    let at = c.loop-climbed.at in
    let left = c.loop-climbed.invariant.left in
    let is : r at ≡ c.word.result = at_place (slots_items c.args.closed.now.words) at c.word.result 0 c.word.ensures in
    let tells : (parent : ℕ) (s : StackStep) → parent ≤ 65536 → IsStep s → r at ≡ key_of parent s → (c.unpacked-parent.result.0 ≡ parent) × (c.unpacked-parent.result.1.target ≡ s.target) × (c.unpacked-parent.result.1.site ≡ s.site) =
    λ parent s few small key. c.unpacked-parent.ensures parent s few small (sym is ∙ key) in
    record {
      left = climb_left n c.requires.most r c.args.slot at c.loop-climbed.steps.items c.unpacked-parent.result.0 c.unpacked-parent.result.1 tells c.loop-climbed.invariant.whole c.loop-climbed.climbed left.0 left.1 left.2 c.if-parent-eq65536.false;
      whole = λ p up. subst (λ (l : List StackStep). Climbs n r c.args.slot (l ++ p)) (sym c.in_ok-push.ensures.items)
          (climb_whole n c.requires.most r c.args.slot at c.loop-climbed.steps.items c.unpacked-parent.result.0 c.unpacked-parent.result.1 tells c.loop-climbed.invariant.whole left.0 left.1 c.if-parent-eq65536.false p up);
    }
