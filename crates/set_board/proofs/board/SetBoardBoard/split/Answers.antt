use Rattle.std.proofs.Common.{sym, subst}
use Rattle.context_set.specs.Passes.{held_of}
use Rattle.reports.specs.Passes.{Held, born, makes}
use Rattle.set_board.specs.Mirrors.{IsBoardPass}
use Rattle.set_board.proofs.Mirroring.{born_mirror, split_mirror}
use Rattle.set_board.proofs.Fair.{here, to_set, from_set}
use Rattle.set_board.proofs.board.SetBoardBoard.split.Goals as goal

pub split-ctx-requires : goal.split-ctx-requires
split-ctx-requires c = record { pass = to_set c.args.self.now.set c.args.self.now.wide c.args.pass.now.ctx c.args.pass.now.past c.requires.belongs }

pub returns-clause-belongs : goal.returns-clause-belongs
returns-clause-belongs c =
    let self = c.args.self.now in
    let pass = c.args.pass.now in
    let cut = c.split-ctx in
    let n = (held_of cut.result).number in
    let m = split_mirror (held_of pass.ctx) (held_of cut.new.pass) pass.past n c.requires.belongs.mirror cut.ensures.held cut.ensures.later in
    subst (λ (h : Held). IsBoardPass (here self.set self.wide) cut.new.pass h) (sym c.makes.ensures) (from_set self.set self.wide cut.new.pass (makes pass.past n) cut.ensures.pass m)

pub returns-clause-made_belongs : goal.returns-clause-made_belongs
returns-clause-made_belongs c =
    let self = c.args.self.now in
    let cut = c.split-ctx in
    let m = born_mirror (held_of cut.result) (held_of cut.result).number _ cut.ensures.made in
    subst (λ (h : Held). IsBoardPass (here self.set self.wide) cut.result h) (sym c.born-past.ensures) (from_set self.set self.wide cut.result (born (held_of cut.result).number) cut.ensures.made_pass m)
