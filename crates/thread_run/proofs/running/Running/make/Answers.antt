use Rattle.std.proofs.Common.{◌∙◌, sym, subst, ◌<◌, ◌^◌}
use Rattle.thread_run.proofs.Along.{next_told, room_told, events_told, reports_told, suppressed_told, dropped_told, tries_told, make_told, turned_told, tried_told}
use Rattle.thread_run.proofs.running.Running.make.Goals as goal

pub make-requires-clause-next : goal.make-requires-clause-next
make-requires-clause-next c =
    c.requires.next ∙ sym (next_told c.self.inside.world _ c.self.inside.kept c.self.invariant c.args.self.now c.args.world.now c.self.view_is c.requires.world (record { can = c.requires.runs; code = c.is_code.ensures }) c.requires.going)

pub make-requires-clause-room : goal.make-requires-clause-room
make-requires-clause-room c = room_told c.self.inside.world _ c.self.inside.kept c.self.invariant c.args.ask c.args.self.now c.args.world.now c.self.view_is c.requires.world (record { can = c.requires.runs; code = c.is_code.ensures }) c.requires.going (subst (λ n. n < 2 ^ 32) c.limit_of-limit.ensures.limit c.limit_of-limit.ensures.low) c.requires.next

pub make-requires-clause-dropped : goal.make-requires-clause-dropped
make-requires-clause-dropped c = dropped_told c.self.inside.world _ c.self.inside.kept c.self.invariant c.args.self.now c.args.world.now c.self.view_is c.requires.world (record { can = c.requires.runs; code = c.is_code.ensures }) c.requires.going (subst (λ n. n < 2 ^ 32) c.limit_of-limit.ensures.limit c.limit_of-limit.ensures.low)

pub make-requires-clause-events : goal.make-requires-clause-events
make-requires-clause-events c = events_told c.self.inside.world _ c.self.inside.kept c.self.invariant c.args.self.now c.args.world.now c.self.view_is c.requires.world (record { can = c.requires.runs; code = c.is_code.ensures }) c.requires.going (subst (λ n. n < 2 ^ 32) c.limit_of-limit.ensures.limit c.limit_of-limit.ensures.low)

pub make-requires-clause-reports : goal.make-requires-clause-reports
make-requires-clause-reports c = reports_told c.self.inside.world _ c.self.inside.kept c.self.invariant c.args.self.now c.args.world.now c.self.view_is c.requires.world (record { can = c.requires.runs; code = c.is_code.ensures }) c.requires.going (subst (λ n. n < 2 ^ 32) c.limit_of-limit.ensures.limit c.limit_of-limit.ensures.low)

pub make-requires-clause-suppressed : goal.make-requires-clause-suppressed
make-requires-clause-suppressed c = suppressed_told c.self.inside.world _ c.self.inside.kept c.self.invariant c.args.self.now c.args.world.now c.self.view_is c.requires.world (record { can = c.requires.runs; code = c.is_code.ensures }) c.requires.going (subst (λ n. n < 2 ^ 32) c.limit_of-limit.ensures.limit c.limit_of-limit.ensures.low)

pub make-requires-clause-tries : goal.make-requires-clause-tries
make-requires-clause-tries c = tries_told c.self.inside.world _ c.self.inside.kept c.self.invariant c.args.self.now c.args.world.now c.self.view_is c.requires.world (record { can = c.requires.runs; code = c.is_code.ensures }) c.requires.going (subst (λ n. n < 2 ^ 32) c.limit_of-limit.ensures.limit c.limit_of-limit.ensures.low)

pub invariant_of-self : goal.invariant_of-self
invariant_of-self c =
    make_told c.self.inside.world _ c.self.inside.kept c.self.invariant c.args.ask c.args.word c.args.judged c.make.new.self c.args.self.now c.args.world.now c.self.view_is c.requires.world (record { can = c.requires.runs; code = c.is_code.ensures }) c.requires.going c.requires.next c.requires.word c.requires.report c.requires.suppressed c.make.ensures.made

pub returns-clause-turned : goal.returns-clause-turned
returns-clause-turned c =
    turned_told c.self.inside.world _ c.self.inside.kept c.self.invariant c.args.ask c.args.word c.make.new.self.trace c.make.result c.args.self.now c.args.world.now c.self.view_is c.requires.world (record { can = c.requires.runs; code = c.is_code.ensures }) c.requires.going c.make.ensures.made.trace c.make.ensures.turned

pub returns-clause-tried : goal.returns-clause-tried
returns-clause-tried c = λ going failed.
    tried_told c.self.inside.world _ c.self.inside.kept c.self.invariant c.args.ask c.args.word c.make.new.self.trace c.make.result c.args.self.now c.args.world.now c.self.view_is c.requires.world (record { can = c.requires.runs; code = c.is_code.ensures }) c.requires.going c.make.ensures.made.trace c.make.ensures.turned failed
