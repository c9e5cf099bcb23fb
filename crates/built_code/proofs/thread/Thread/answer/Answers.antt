use Rattle.std.proofs.Common.{◌≡◌, sym, ap, ◌∙◌, length}
use Rattle.built_code.specs.Machine.{machine_after}
use Rattle.built_code.proofs.Parking.{parking_ends}
use Rattle.built_code.proofs.Counting.{frames_counted}
use Rattle.built_code.proofs.thread.Thread.answer.Goals as goal

pub returns-clause-moved : goal.returns-clause-moved
returns-clause-moved c =
    parking_ends c.args.code.now c.loop-self.self _ (sym c.is_quiet.ensures ∙ c.loop-self-test.false) c.loop-self.invariant

pub returns-clause-frames : goal.returns-clause-frames
returns-clause-frames c =
    let parked : c.loop-self.self ≡ machine_after c.args.code.now c.args.self.now c.args.word = parking_ends c.args.code.now c.loop-self.self _ (sym c.is_quiet.ensures ∙ c.loop-self-test.false) c.loop-self.invariant in
    ap (λ t. length t.frames) parked ∙ frames_counted c.args.code.now c.args.self.now c.args.word
