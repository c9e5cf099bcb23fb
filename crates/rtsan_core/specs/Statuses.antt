-- The number with which the program ends, by the status of the command.
use Rattle.std.specs.Prelude.{ℕ}
use Rattle.rtsan_core.specs.declared.status.Status.{Status}
use Rattle.rtsan_core.specs.declared.status.Status.TheVariants.{Clean, Warned, Reported, Refused, Usage, ReadFault, WriteFault, NoMemory, Limit, Unlinked, Trapped, Stopped}

abbrev pub number_of : Status → ℕ
number_of Clean = 0
number_of Warned = 1
number_of Reported = 2
number_of Refused = 3
number_of Usage = 4
number_of ReadFault = 5
number_of WriteFault = 6
number_of NoMemory = 7
number_of Limit = 8
number_of Unlinked = 9
number_of Trapped = 10
number_of Stopped = 11
