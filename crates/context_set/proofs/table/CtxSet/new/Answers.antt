use Rattle.std.proofs.Common.{◌≡◌, replicate, ◌+◌, ◌*◌, ℕ, ap, ◌∙◌, arith}
use Rattle.atomic_table.specs.Table.{Me}
use Rattle.context_set.specs.declared.view.CtxView.{CtxView}
use Rattle.context_set.proofs.Allowed.{kept_opening}
use Rattle.context_set.proofs.Laws.{seat_first}
use Rattle.context_set.proofs.table.CtxSet.new.Goals as goal

pub of_words-requires : goal.of_words-requires
of_words-requires c =
    let twice : 2 * c.args.slots ≡ c.args.slots + c.args.slots = omega arith in
    let zeros = c.in_ok-words.ensures.items_if_clones_equal (λ y same. same) in
    kept_opening c.args.slots c.as_slice.result.now (c.as_slice.ensures.value ∙ (zeros ∙ ap (λ (m : ℕ). replicate m 0) twice))

pub returns-clause-first : goal.returns-clause-first
returns-clause-first c =
    let made = c.in_ok-table.ensures in
    (ap (λ (m : Me ℕ CtxView). m.0.held) made.4, (made.2, seat_first c.args.slots c.in_ok-table.seat.me made.4))
