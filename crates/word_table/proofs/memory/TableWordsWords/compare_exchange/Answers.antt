use Rattle.std.proofs.Common.{refl, eqb, arith}
use prog.Atomic.{either}
use Rattle.word_mem.specs.declared.event.WordEvent.TheVariants.{Exchange}
use Rattle.word_table.proofs.Allowed.{allows_event}
use Rattle.word_table.proofs.memory.TableWordsWords.compare_exchange.Goals as goal

pub compare_exchange-requires : goal.compare_exchange-requires
compare_exchange-requires c =
    let belongs = c.requires.belongs in (
      belongs.0,
      omega (arith, c.requires.within, c.args.self.now.size),
      allows_event c.args.self.now.table.shared.key.value _ _ _ _ (λ n. either (eqb n c.args.old) c.args.new n) (λ n. Exchange c.args.at c.args.old c.args.new n) c.requires.within belongs.1 (λ n. refl) (λ n. refl) (λ n. refl),
    )
