use Rattle.std.proofs.Common.{Option, Some, List, [], ◌∷◌, ◌++◌, sym, ap, ◌∙◌, subst}
use Rattle.atomic_table.specs.Table.{opening}
use Rattle.reports.specs.Passes.{Report}
use Rattle.locked_board.specs.Locked.{Slot, IsLockKept, first_view}
use Rattle.locked_board.proofs.LockRule.{lock_opens}
use Rattle.locked_board.proofs.board.seated.Goals as goal

pub new-requires : goal.new-requires
new-requires c =
    let slots = c.in_ok-push.ensures.items ∙ (ap (λ (l : List Slot). l ++ Some c.args.book ∷ []) c.in_ok-slots.ensures.items ∙ ap (λ (log : List Report). Some log ∷ []) c.requires) in
    subst (λ (l : List Slot). IsLockKept (opening (0 ∷ []) l first_view)) (sym slots) lock_opens
