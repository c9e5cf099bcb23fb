-- What the book counts is what all passes reported.
use Rattle.std.proofs.Common.{◌≡◌, ◌<◌, List, length, arith}
use Rattle.std.specs.Prelude.{Result, Ok, Err, IfOk}
use Rattle.reports.specs.Passes.{Report, all_reports}
use Rattle.reports.specs.declared.stacks.StackCount.{StackCount}
use Rattle.stack_counts.specs.Totals.{AreTotals}
use Rattle.locked_board.specs.Places.{WeighAlike}
use Rattle.locked_board.proofs.Weighs.{length_alike, totals_alike}
use Rattle.locked_board.proofs.board.LockedBoard.collect.Goals as goal

totals_of_all : {E : Type 0} (r : Result (List StackCount) E) (xs ys : List Report) → WeighAlike xs ys → IfOk r (λ stacks. AreTotals ys stacks)
    → IfOk r (λ stacks. AreTotals xs stacks)
totals_of_all (Ok stacks) xs ys alike totals = totals_alike xs ys alike stacks totals
totals_of_all (Err e) xs ys alike totals = tt

pub collect-requires : goal.collect-requires
collect-requires g c =
    let alike = length_alike (all_reports c.args.pass.seat.me.0.held) c.in_ok-book.book c.in_ok-book.ensures in
    let few = c.requires.few in
    omega arith

pub returns-clause-totals : goal.returns-clause-totals
returns-clause-totals g c =
    totals_of_all c.collect.result (all_reports c.args.pass.seat.me.0.held) c.in_ok-book.book c.in_ok-book.ensures c.collect.ensures.totals
