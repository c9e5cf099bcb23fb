-- The theorem, at the language's grammar and lookahead.
use Rattle.grammar.proofs.Theorem
use Rattle.grammar.proofs.parser_is_exact.Goals as goal

pub returns-clause-sound : goal.returns-clause-sound
returns-clause-sound g c = Theorem.sound g.L.Language.grammar g.L.Language.lookahead c.requires

pub returns-clause-complete : goal.returns-clause-complete
returns-clause-complete g c = Theorem.complete g.L.Language.grammar g.L.Language.lookahead c.requires

pub returns-clause-fault : goal.returns-clause-fault
returns-clause-fault g c = Theorem.fault g.L.Language.grammar g.L.Language.lookahead c.requires

pub returns-clause-only_fault : goal.returns-clause-only_fault
returns-clause-only_fault g c = Theorem.only_fault g.L.Language.grammar g.L.Language.lookahead c.requires

pub returns-clause-one_reading : goal.returns-clause-one_reading
returns-clause-one_reading g c = Theorem.one_reading g.L.Language.grammar g.L.Language.lookahead c.requires

pub returns-clause-not_for_depth_at_the_end : goal.returns-clause-not_for_depth_at_the_end
returns-clause-not_for_depth_at_the_end g c = Theorem.end_not_deep g.L.Language.grammar g.L.Language.lookahead c.requires
