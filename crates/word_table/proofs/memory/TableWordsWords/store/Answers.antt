use Rattle.std.proofs.Common.{refl, arith}
use Rattle.word_mem.specs.declared.event.WordEvent.TheVariants.{Store}
use Rattle.word_table.proofs.Allowed.{allows_event}
use Rattle.word_table.proofs.memory.TableWordsWords.store.Goals as goal

pub store-requires : goal.store-requires
store-requires c =
    let belongs = c.requires.belongs in (
      belongs.0,
      omega (arith, c.requires.within, c.args.self.now.size),
      allows_event c.args.self.now.table.shared.key.value _ _ _ _ (λ n. c.args.word) (λ n. Store c.args.at c.args.word) c.requires.within belongs.1 (λ n. refl) (λ n. tt) (λ n. refl),
    )
