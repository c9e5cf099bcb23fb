-- A text of three parts, of which the sink fails within one or takes all.
use Rattle.std.proofs.Common.{List, ℕ, ◌++◌, Result}
use Rattle.printing.specs.Gathered.{Gathers, IsGathered}
use Rattle.printing.proofs.Gathering.{gathers_more, gathered_behind, gathers_then_fails, fails_before}
use Rattle.rt_base.specs.Outside.{SinkState, FailsWithin}

pub first_fails : (a b c held : List ℕ) (old new : SinkState) → FailsWithin (held ++ a) old new → FailsWithin (held ++ (a ++ b ++ c)) old new
first_fails a b c held old new f = fails_before (a ++ b) c held old new (fails_before a b held old new f)

pub second_fails : (a b c held mid : List ℕ) (old between new : SinkState) → Gathers a held old mid between → FailsWithin (mid ++ b) between new
    → FailsWithin (held ++ (a ++ b ++ c)) old new
second_fails a b c held mid old between new g f = fails_before (a ++ b) c held old new (gathers_then_fails a b held mid old between new g f)

pub third_behind : {T E : Type 0} (result : Result T E) (a b c held one two left : List ℕ) (old first second new : SinkState) → Gathers a held old one first
    → Gathers b one first two second → IsGathered c result two second left new → IsGathered (a ++ b ++ c) result held old left new
third_behind result a b c held one two left old first second new g h w =
    gathered_behind result (a ++ b) c held two left old second new (gathers_more a b held one two old first second g h) w
