use Rattle.std.proofs.Common.{refl, arith}
use Rattle.word_mem.specs.declared.event.WordEvent.TheVariants.{Load}
use Rattle.word_table.proofs.Allowed.{allows_event}
use Rattle.word_table.proofs.memory.TableWordsWords.load.Goals as goal

pub load-requires : goal.load-requires
load-requires c =
    let belongs = c.requires.belongs in (
      belongs.0,
      omega (arith, c.requires.within, c.args.self.now.size),
      allows_event c.args.self.now.table.shared.key.value _ _ _ _ (λ n. n) (λ n. Load c.args.at n) c.requires.within belongs.1 (λ n. refl) (λ n. refl) (λ n. refl),
    )
