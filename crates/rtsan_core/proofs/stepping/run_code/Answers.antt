use Rattle.rtsan_core.proofs.Running.{collected}
use Rattle.rtsan_core.proofs.stepping.run_code.Goals as goal

pub returns : goal.returns
returns c =
    collected c.args.unit.now c.args.code c.in_ok-ran.ran c.in_ok-finished.finished (record { follows = c.requires.follows; follows_cut = c.requires.follows_cut })
    c.in_ok-ran.ensures.run c.in_ok-ran.ensures.machine c.in_ok-ran.ensures.events c.in_ok-ran.ensures.report
    c.in_ok-finished.ensures.code c.in_ok-finished.ensures.thread c.in_ok-finished.ensures.stacks c.in_ok-finished.ensures.total c.in_ok-finished.ensures.unique c.in_ok-finished.ensures.suppressed
