use Rattle.std.proofs.Common.{◌∙◌, sym, ◌<◌}
use Rattle.thread_run.proofs.Growing.{sliced_none, sliced_more}
use Rattle.thread_run.proofs.Turning.{going_on, less_here, went_one, one_few, turns_tried}
use Rattle.thread_run.proofs.slices.slice.Goals as goal

pub events-init : goal.events-init
events-init g c = record {
  sliced = sliced_none _ _ _ _ _ _ c.requires.going c.requires.enough;
  belongs = c.requires.belongs;
  board = c.requires.board;
  can = c.requires.can;
}

pub returns-then-has_ended : goal.returns-then-has_ended
returns-then-has_ended g c =
    let less : c.events.made < c.args.events = less_here _ _ _ _ _ _ _ _ _ _ _ c.events.invariant.sliced c.if-made-events.false in
    record {
      went = went_one _ _ _ _ _ _ _ _ _ _ _ c.events.invariant.sliced less _ _ _ _ _ c.step-tried.ensures.made;
      few = one_few _ _ _ _ _ _ _ _ _ _ _ c.events.invariant.sliced less _ _ _ _ _ c.step-tried.ensures.made;
      turn = sym c.has_ended.ensures ∙ c.if-has_ended.true;
      belongs = c.step-tried.ensures.belongs;
      board = c.step-tried.ensures.board;
      can = c.step-tried.ensures.can;
    }

pub returns-then-tried : goal.returns-then-tried
returns-then-tried g c =
    let less : c.events.made < c.args.events = less_here _ _ _ _ _ _ _ _ _ _ _ c.events.invariant.sliced c.if-made-events.false in
    let going = going_on c.step-tried.new.running (sym c.has_ended.ensures ∙ c.if-has_ended.false) in
    record {
      went = went_one _ _ _ _ _ _ _ _ _ _ _ c.events.invariant.sliced less _ _ _ _ _ c.step-tried.ensures.made;
      few = one_few _ _ _ _ _ _ _ _ _ _ _ c.events.invariant.sliced less _ _ _ _ _ c.step-tried.ensures.made;
      turn = turns_tried _ _ _ _ _ _ _ _ _ _ _ c.events.invariant.sliced less _ _ _ _ _ c.step-tried.ensures.made going (sym c.step-tried.ensures.tried ∙ c.if-tried.true) (c.step-tried.ensures.parted going c.if-tried.true);
      belongs = c.step-tried.ensures.belongs;
      board = c.step-tried.ensures.board;
      can = c.step-tried.ensures.can;
    }

pub events-preserved : goal.events-preserved
events-preserved g c =
    let less : c.events.made < c.args.events = less_here _ _ _ _ _ _ _ _ _ _ _ c.events.invariant.sliced c.if-made-events.false in
    let going = going_on c.step-tried.new.running (sym c.has_ended.ensures ∙ c.if-has_ended.false) in
    record {
      sliced = sliced_more _ _ _ _ _ _ _ _ _ _ _ _ _ _ _ _ c.events.invariant.sliced less c.step-tried.ensures.made going (sym c.step-tried.ensures.tried ∙ c.if-tried.false);
      belongs = c.step-tried.ensures.belongs;
      board = c.step-tried.ensures.board;
      can = c.step-tried.ensures.can;
    }
