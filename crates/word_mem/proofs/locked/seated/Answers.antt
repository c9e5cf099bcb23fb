use Rattle.std.proofs.Common.{Option, Some, List, [], ◌∷◌, ◌++◌, sym, ap, ◌∙◌, subst}
use Rattle.atomic_table.specs.Table.{opening}
use Rattle.word_mem.specs.declared.book.Book.{Book}
use Rattle.word_mem.specs.Locked.{IsLockKept, lock_first}
use Rattle.word_mem.proofs.LockRule.{lock_opens}
use Rattle.word_mem.proofs.locked.seated.Goals as goal

pub new-requires : goal.new-requires
new-requires c =
    let words = c.args.opening.now.value in
    let slots = c.in_ok-push.ensures.items ∙ ap (λ (l : List (Option Book)). l ++ Some c.args.book ∷ []) c.in_ok-slots.ensures.items in
    subst (λ (l : List (Option Book)). IsLockKept words (opening (0 ∷ []) l (lock_first words))) (sym slots) (lock_opens words c.args.book c.requires.words c.requires.journal)
