use Rattle.std.proofs.Common.{◌≡◌, ◌+◌, [], length}
use Rattle.word_mem.specs.declared.view.Fresh.TheVariants.{From}
use Rattle.word_mem.specs.Moves.{first_view}
use Rattle.word_mem.specs.Spares.{AreSpares}
use Rattle.word_table.specs.Steps.{IsSpareOf}
use Rattle.word_table.proofs.memory.TableWords.deal.Given as goal

-- the spares so far have the numbers below this one, and the first seat may give the others
abbrev pub invariant-loop-number : goal.invariant-loop-number
invariant-loop-number l = record {
  table : l.first.table_id ≡ l.fn.first.table_id;
  first : l.first.me ≡ (record (first_view l.self.table.shared.key.value) { fresh = From l.number }, []);
  count : length l.spares.items + 1 ≡ l.number;
  are : AreSpares (λ s. s.number) (λ s. s.calls) l.calls (λ s. (s.seat.table_id ≡ l.fn.first.table_id) × IsSpareOf s.number s.seat.me) l.spares.items;
}
