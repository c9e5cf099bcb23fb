-- The place was looked at for the level of its function.
use Rattle.unit_check.proofs.Picks.{looked_allocation, looked_blocking}
use Rattle.unit_check.proofs.findings.Search.look_at.Goals as goal

pub returns-in-NonAllocating : goal.returns-in-NonAllocating
returns-in-NonAllocating c =
    looked_allocation c.look_at.result c.args.functions.now c.args.place c.args.self.now.allocation c.args.self.now.blocking c.look_at.new.chains c.args.self.now.found c.look_at.new.self
    c.look_at.ensures.kept c.in-NonAllocating.ensures c.look_at.ensures.added

pub returns-in-NonBlocking : goal.returns-in-NonBlocking
returns-in-NonBlocking c =
    looked_blocking c.look_at-in-NonBlocking.result c.args.functions.now c.args.place c.args.self.now.allocation c.args.self.now.blocking c.look_at-in-NonBlocking.new.chains c.args.self.now.found
    c.look_at-in-NonBlocking.new.self c.look_at-in-NonBlocking.ensures.kept c.in-NonBlocking.ensures c.look_at-in-NonBlocking.ensures.added
