use Rattle.std.proofs.Common.{◌≡◌, ◌≢◌, ◌+◌, length}
use Rattle.word_mem.specs.Spares.{AreSpares}
use Rattle.word_mem.proofs.plain.spares.Given as goal

-- the spares so far have the numbers below this one
abbrev pub invariant-loop-number : goal.invariant-loop-number
invariant-loop-number l = record {
  count : length l.spares.items + 1 ≡ l.number;
  are : AreSpares (λ s. s.number) (λ s. 0) 0 (λ s. (s.opening.value ≡ l.words) × (s.number ≢ 0)) l.spares.items;
}
