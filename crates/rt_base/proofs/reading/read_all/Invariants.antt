use Rattle.std.proofs.Common.{◌≡◌, ◌≤◌, length, ◌-◌}
use Rattle.rt_base.specs.Outside.{KeepsContents}
use Rattle.rt_base.specs.Reads.{Reads}
use Rattle.rt_base.proofs.Contents.{IsFront}
use Rattle.rt_base.proofs.reading.read_all.Given as goal

abbrev pub invariant-loop-count : goal.invariant-loop-count
invariant-loop-count g l = record {
  front : IsFront ((g.F.Files.state l.initial.files).contents l.name) l.bytes;
  reads : Reads g.F.Files.read_gives l.name l.initial.files l.bytes l.files;
  within : length l.bytes ≤ l.limit;
  room : length l.piece ≡ 8192;
  kept : KeepsContents (g.F.Files.state l.initial.files) (g.F.Files.state l.files);
}

abbrev pub decreases-loop-count : goal.decreases-loop-count
decreases-loop-count g l = l.limit - length l.bytes
