-- A prefix that wasn't counted adds nothing, another one stands behind the rest.
use Rattle.std.proofs.Common.{◌≡◌, ◌+◌, ◌<◌, ◌++◌, ◌∷◌, [], length, sym, ◌∙◌, subst, arith}
use Rattle.std.proofs.lemmas.List.{get_or_read}
use Rattle.stack_counts.specs.Totals.{entry_of}
use Rattle.plain_board.specs.Gathered.{IsGathered}
use Rattle.plain_board.proofs.Gathering.{gathered_skip, gathered_more, on_ok}
use Rattle.plain_board.proofs.counts.Counts.gather.Goals as goal

pub returns-then-count-eq0 : goal.returns-then-count-eq0
returns-then-count-eq0 c =
    let held = c.args.self.now.prefixes in
    let counts = c.args.self.now.counts.items in
    let low : c.args.number < length counts = let within = c.requires.within in let many = c.requires.many in omega (arith, within, many) in
    let here = get_or_read counts c.args.number c.index-count.result.now low c.index-count.ensures 0 in
    gathered_skip held counts c.args.number c.args.stacks.now c.requires.gathered c.requires.within (sym here ∙ c.if-count-eq0.true)

pub returns : goal.returns
returns c =
    let held = c.args.self.now.prefixes in
    let counts = c.args.self.now.counts.items in
    let low : c.args.number < length counts = let within = c.requires.within in let many = c.requires.many in omega (arith, within, many) in
    let here = get_or_read counts c.args.number c.index-count.result.now low c.index-count.ensures 0 in
    let some : 0 < c.index-count.result.now = let other = c.if-count-eq0.false in omega (arith, other) in
    let more = gathered_more held counts c.args.number c.args.stacks.now c.requires.gathered c.requires.within c.as_slice.result.now c.index-count.result.now (sym (c.as_slice.ensures.value ∙ c.in_ok-steps.ensures)) (sym here) some in
    on_ok c.add_stack.result (c.add_stack.new.stacks ≡ c.args.stacks.now ++ entry_of c.as_slice.result.now c.index-count.result.now ∷ []) (IsGathered held counts (c.args.number + 1) c.add_stack.new.stacks) c.add_stack.ensures.ok
    (λ e. subst (IsGathered held counts (c.args.number + 1)) (sym e) more)
