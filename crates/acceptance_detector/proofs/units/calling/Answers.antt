-- The unit is lawful.
use Rattle.acceptance_detector.proofs.Lawful.{calling_is_lawful}
use Rattle.acceptance_detector.proofs.units.calling.Goals as goal

pub new-requires : goal.new-requires
new-requires c =
    rw (c.parts_of.ensures, c.in_ok-functions.ensures, c.in_ok-sites.ensures, c.in_ok-definitions.ensures) (calling_is_lawful c.args.low.now c.args.root.now c.args.inner c.args.outer)
