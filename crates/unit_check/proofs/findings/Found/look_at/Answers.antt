-- The place starts a chain, and its warning and its span are added.
use Rattle.unit_check.proofs.Picks.{looked_added}
use Rattle.unit_check.proofs.findings.Found.look_at.Goals as goal

pub returns-clause-added : goal.returns-clause-added
returns-clause-added c =
    looked_added c.add.result c.args.chains.now.rows c.span_at.new.chains.rows c.args.level c.args.place c.span_at.new.chains.steps c.args.self.now c.add.new.self c.kind_of.result c.in_ok-span.span
    (c.starts_chain.ensures.yes c.if-not-starts_chain.false).1 c.span_at.ensures.kept.rows c.in_ok-span.ensures.held c.kind_of.ensures c.add.ensures.warnings c.add.ensures.spans
