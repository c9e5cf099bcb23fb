use Rattle.std.proofs.Common.{refl, ◌+◌, ◌%◌, ◌^◌, arith}
use Rattle.word_mem.specs.declared.event.WordEvent.TheVariants.{FetchAdd}
use Rattle.word_table.proofs.Allowed.{allows_event}
use Rattle.word_table.proofs.memory.TableWordsWords.fetch_add.Goals as goal

pub fetch_add-requires : goal.fetch_add-requires
fetch_add-requires c =
    let belongs = c.requires.belongs in (
      belongs.0,
      omega (arith, c.requires.within, c.args.self.now.size),
      allows_event c.args.self.now.table.shared.key.value _ _ _ _ (λ n. (n + c.args.n) % 2 ^ 64) (λ n. FetchAdd c.args.at c.args.n n) c.requires.within belongs.1 (λ n. refl) (λ n. refl) (λ n. refl),
    )
