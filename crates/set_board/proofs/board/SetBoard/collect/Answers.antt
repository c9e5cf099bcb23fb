use Rattle.std.proofs.Common.{◌≡◌, List, sym, ap, ◌∙◌, subst}
use Rattle.std.specs.List.{All}
use Rattle.context_set.specs.declared.count.PathCount.{PathCount}
use Rattle.context_set.specs.declared.table.CtxPass.{CtxPass}
use Rattle.context_set.specs.declared.table.CtxSet.{CtxSet}
use Rattle.context_set.specs.Closed.{IsTally}
use Rattle.context_set.specs.Passes.{place_of, held_of}
use Rattle.reports.specs.declared.stacks.StackCount.{StackCount}
use Rattle.reports.specs.Passes.{Report, Held, all_reports, IsWhole}
use Rattle.reports.specs.Prefixes.{room}
use Rattle.stack_counts.specs.Totals.{AreCounts, AreTotals}
use Rattle.stack_counts.proofs.Sums.{few_in_all}
use Rattle.set_board.specs.Mirrors.{IsBoardPass}
use Rattle.set_board.specs.Tallies.{IsShort}
use Rattle.set_board.proofs.Fair.{here, to_set, sound_of, few_counted}
use Rattle.set_board.proofs.Mirroring.{all_are_entered, whole_too}
use Rattle.set_board.proofs.Tallied.{all_stacks, tally_counts, tally_short}
use Rattle.set_board.proofs.board.SetBoard.collect.Goals as goal

-- the totals of all reports, from the paths of the set
sorted_totals : (set : CtxSet) (wide : (place_of set).slots ≡ room) (ctx : CtxPass) (past : Held) → IsBoardPass (here set wide) ctx past → IsWhole past → (paths : List PathCount) → IsTally (held_of ctx) paths
    → (gathered sorted : List StackCount) → gathered ≡ all_stacks paths → ((reports : List Report) → AreCounts reports gathered → AreTotals reports sorted) → AreTotals (all_reports past) sorted
sorted_totals set wide ctx past belongs whole paths tally gathered sorted is sorts =
    let are = all_are_entered (held_of ctx) past belongs.mirror in
    let sound = sound_of set wide ctx past (to_set set wide ctx past belongs) belongs.mirror whole in
    sorts (all_reports past) (subst (λ (l : List StackCount). AreCounts (all_reports past) l) (sym is) (tally_counts (held_of ctx) (all_reports past) are sound paths tally))

pub close-requires-clause-whole : goal.close-requires-clause-whole
close-requires-clause-whole c = whole_too (held_of c.args.pass.ctx) c.args.pass.past c.requires.belongs.mirror c.requires.whole

pub close-requires-clause-few : goal.close-requires-clause-few
close-requires-clause-few c = few_counted (held_of c.args.pass.ctx) c.args.pass.past c.requires.belongs.mirror c.requires.few

pub counted_stacks-requires : goal.counted_stacks-requires
counted_stacks-requires c =
    let self = c.args.self in
    let ctx = c.args.pass.ctx in
    let past = c.args.pass.past in
    let belongs = c.requires.belongs in
    let are = all_are_entered (held_of ctx) past belongs.mirror in
    let sound = sound_of self.set self.wide ctx past (to_set self.set self.wide ctx past belongs) belongs.mirror c.requires.whole in
    subst (λ (l : List PathCount). All IsShort l) (sym c.as_slice.ensures.value) (tally_short (held_of ctx) (all_reports past) are sound c.in_ok-paths.paths.items c.in_ok-paths.ensures)

pub returns-clause-totals : goal.returns-clause-totals
returns-clause-totals c =
    let ctx = c.args.pass.ctx in
    let past = c.args.pass.past in
    let belongs = c.requires.belongs in
    sorted_totals c.args.self.set c.args.self.wide ctx past belongs c.requires.whole c.in_ok-paths.paths.items c.in_ok-paths.ensures c.in_ok-stacks.stacks c.sort_stacks.new.stacks
    (c.in_ok-stacks.ensures ∙ ap all_stacks c.as_slice.ensures.value) c.sort_stacks.ensures

pub returns-clause-few : goal.returns-clause-few
returns-clause-few c =
    let ctx = c.args.pass.ctx in
    let past = c.args.pass.past in
    let belongs = c.requires.belongs in
    let totals = sorted_totals c.args.self.set c.args.self.wide ctx past belongs c.requires.whole c.in_ok-paths.paths.items c.in_ok-paths.ensures c.in_ok-stacks.stacks c.sort_stacks.new.stacks
    (c.in_ok-stacks.ensures ∙ ap all_stacks c.as_slice.ensures.value) c.sort_stacks.ensures in
    few_in_all (all_reports past) c.sort_stacks.new.stacks totals c.requires.few
