-- The invariant says what is found, and there is one list of tokens or one first fault.
use Rattle.std.proofs.Common.{sym, ◌∙◌}
use Rattle.std.proofs.lemmas.List.{take_rest}
use Rattle.c_text.proofs.Reached.{reached_end, step_fault, step_more, step_within, spelled_same, spelled_without_fault, first_fault_same}
use Rattle.c_text.proofs.Within.{spelled_within, spelled_in_order, spelled_few}
use Rattle.c_text.proofs.spelling.tokens.Goals as goal

pub returns-in-Some-clause-fault : goal.returns-in-Some-clause-fault
returns-in-Some-clause-fault c =
    step_fault c.args.source.now c.loop-at.at c.loop-at.alone c.loop-at.found c.scan-piece.result.form c.scan-piece.result.length c.in-Some.fault _
    (take_rest c.args.source.now c.loop-at.at) c.loop-at.invariant.reached c.scan-piece.ensures.front (sym c.fault_in.ensures.value ∙ c.in-Some.is)

pub returns-in-Some-clause-only_fault : goal.returns-in-Some-clause-only_fault
returns-in-Some-clause-only_fault c = λ number place fault.
    first_fault_same c.args.source.now number place _ _ fault
    (step_fault c.args.source.now c.loop-at.at c.loop-at.alone c.loop-at.found c.scan-piece.result.form c.scan-piece.result.length c.in-Some.fault _
    (take_rest c.args.source.now c.loop-at.at) c.loop-at.invariant.reached c.scan-piece.ensures.front (sym c.fault_in.ensures.value ∙ c.in-Some.is))

pub returns-in-Some-clause-unspelled : goal.returns-in-Some-clause-unspelled
returns-in-Some-clause-unspelled c = λ list spelled.
    spelled_without_fault c.args.source.now list _ _ spelled
    (step_fault c.args.source.now c.loop-at.at c.loop-at.alone c.loop-at.found c.scan-piece.result.form c.scan-piece.result.length c.in-Some.fault _
    (take_rest c.args.source.now c.loop-at.at) c.loop-at.invariant.reached c.scan-piece.ensures.front (sym c.fault_in.ensures.value ∙ c.in-Some.is))

pub loop-at-preserved : goal.loop-at-preserved
loop-at-preserved c = record {
  reached =
      step_more c.args.source.now c.loop-at.at c.loop-at.alone c.loop-at.found c.scan-piece.result.form c.scan-piece.result.length _ _ _
      (take_rest c.args.source.now c.loop-at.at) c.loop-at.invariant.reached c.scan-piece.ensures.front (sym c.fault_in.ensures.value ∙ c.in_default.is)
      c.alone_after-alone.ensures c.in_ok-add.ensures.ok;
  within =
      step_within c.args.source.now c.loop-at.at c.loop-at.alone c.scan-piece.result.form c.scan-piece.result.length _
      (take_rest c.args.source.now c.loop-at.at) c.loop-at.invariant.within c.scan-piece.ensures.front;
}

pub returns-clause-spelled : goal.returns-clause-spelled
returns-clause-spelled c =
    reached_end c.args.source.now c.loop-at.at c.loop-at.alone c.loop-at.found c.loop-at.invariant.reached c.loop-at-test.false

pub returns-clause-only_spelled : goal.returns-clause-only_spelled
returns-clause-only_spelled c = λ list spelled.
    spelled_same c.args.source.now list c.loop-at.found spelled
    (reached_end c.args.source.now c.loop-at.at c.loop-at.alone c.loop-at.found c.loop-at.invariant.reached c.loop-at-test.false)

pub returns-clause-no_fault : goal.returns-clause-no_fault
returns-clause-no_fault c = λ number place fault.
    spelled_without_fault c.args.source.now c.loop-at.found number place
    (reached_end c.args.source.now c.loop-at.at c.loop-at.alone c.loop-at.found c.loop-at.invariant.reached c.loop-at-test.false) fault

pub returns-clause-within : goal.returns-clause-within
returns-clause-within c =
    spelled_within c.args.source.now c.loop-at.found
    (reached_end c.args.source.now c.loop-at.at c.loop-at.alone c.loop-at.found c.loop-at.invariant.reached c.loop-at-test.false)

pub returns-clause-few : goal.returns-clause-few
returns-clause-few c =
    spelled_few c.args.source.now c.loop-at.found
    (reached_end c.args.source.now c.loop-at.at c.loop-at.alone c.loop-at.found c.loop-at.invariant.reached c.loop-at-test.false)

pub returns-clause-ordered : goal.returns-clause-ordered
returns-clause-ordered c =
    spelled_in_order c.args.source.now c.loop-at.found
    (reached_end c.args.source.now c.loop-at.at c.loop-at.alone c.loop-at.found c.loop-at.invariant.reached c.loop-at-test.false)
