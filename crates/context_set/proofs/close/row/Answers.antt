use Rattle.std.proofs.Common.{◌≡◌, ◌≢◌, ◌+◌, List, reverse, slice_index, sym, ap, ◌∙◌, subst, arith}
use Rattle.std.proofs.lemmas.List.{reverse-reverse}
use Rattle.std.specs.Mem.Slots.{slots_items}
use Rattle.ctx_set.specs.declared.steps.StackStep.{StackStep}
use Rattle.context_set.specs.Closed.{Climbs}
use Rattle.context_set.proofs.Seats.{at_place}
use Rattle.context_set.proofs.close.row.Goals as goal

pub returns-then-word-eq0 : goal.returns-then-word-eq0
returns-then-word-eq0 c = at_place (slots_items c.args.closed.now.words) c.args.slot c.word.result 0 c.word.ensures ∙ c.if-word-eq0.true

pub climbed-requires-clause-climbs : goal.climbed-requires-clause-climbs
climbed-requires-clause-climbs c =
    let is : slice_index (slots_items c.args.closed.now.words) c.args.slot ≡ c.word.result = at_place (slots_items c.args.closed.now.words) c.args.slot c.word.result 0 c.word.ensures in
    let other : c.word.result ≢ 0 = c.if-word-eq0.false in
    c.requires.climbs c.args.slot c.requires.within (omega arith)

pub returns : goal.returns
returns c =
    let r = slice_index (slots_items c.args.closed.now.words) in
    let is : slice_index (slots_items c.args.closed.now.words) c.args.slot ≡ c.word.result = at_place (slots_items c.args.closed.now.words) c.args.slot c.word.result 0 c.word.ensures in
    let other : c.word.result ≢ 0 = c.if-word-eq0.false in
    let turned : reverse c.new.result ≡ c.in_ok-steps.steps.items = ap reverse (c.new.ensures ∙ c.reverse.ensures.items) ∙ reverse-reverse c.in_ok-steps.steps.items in (
      omega arith,
      subst (λ (l : List StackStep). Climbs c.args.slots r c.args.slot l) (sym turned) c.in_ok-steps.ensures,
      sym (at_place (slots_items c.args.closed.now.words) (c.args.slots + c.args.slot) c.word-count.result 0 c.word-count.ensures),
    )
