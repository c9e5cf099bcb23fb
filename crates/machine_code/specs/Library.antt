-- How library calls go on, as data of the code's own.
use Rattle.mcode.specs.Stages.{Staged, Onto, Again, Gives, Traps, Exits, Halts}
use Rattle.machine_code.specs.Bounds.{IsLowStage}
use Rattle.machine_code.specs.declared.staged.Staged.{Staged as Next}
use Rattle.machine_code.specs.declared.staged.Staged.TheVariants as next

abbrev pub meant : Next → Staged
meant (next.Onto stage) = Onto stage
meant (next.Again stage) = Again stage
meant (next.Gives value) = Gives value
meant (next.Traps kind) = Traps kind
meant (next.Exits bits) = Exits bits
meant next.Halts = Halts

abbrev pub IsLowStaged : Next → Type 0
IsLowStaged (next.Onto stage) = IsLowStage stage
IsLowStaged (next.Again stage) = IsLowStage stage
IsLowStaged _ = Unit {0}
