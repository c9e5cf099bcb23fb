use Rattle.std.proofs.Common.{◌≡◌, None, sym, ◌∙◌}
use Rattle.built_model.specs.Run.{ending}
use Rattle.built_run.proofs.Runner.{stays_under_way, comes_nearer}
use Rattle.built_run.proofs.running.Running.run.Goals as goal

pub events-preserved : goal.events-preserved
events-preserved c =
    let open_at : ending c.next-ask.result c.events.self.events ≡ None = sym c.ending.ensures ∙ c.in_default.is in
    stays_under_way c.args.unit.now c.args.code.now c.next-ask.result c.events.self c.make.new.self c.events.invariant c.next-ask.ensures.event open_at c.make.ensures

pub events-smaller : goal.events-smaller
events-smaller c =
    let open_at : ending c.next-ask.result c.events.self.events ≡ None = sym c.ending.ensures ∙ c.in_default.is in
    comes_nearer c.args.unit.now c.args.code.now c.next-ask.result c.events.self c.make.new.self c.next-ask.ensures.event open_at c.make.ensures
