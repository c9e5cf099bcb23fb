-- What a reader answers, by what it was to read: the value exactly where there is one, Usage exactly where there is
-- none, and want of memory freely.
use Rattle.std.specs.Prelude.{◌≡◌, Option, Some, None, Result, Ok, Err}
use Rattle.command.specs.declared.fault.WordsFault.{WordsFault}
use Rattle.command.specs.declared.fault.WordsFault.TheVariants.{Usage, NoMemory}

abbrev pub IsRefusal : {A : Type 0} → Option A → WordsFault → Type 0
IsRefusal asked Usage = asked ≡ None
IsRefusal asked NoMemory = Unit {0}

abbrev pub IsReading : {A : Type 0} → Option A → Result A WordsFault → Type 0
IsReading asked (Ok value) = asked ≡ Some value
IsReading asked (Err fault) = IsRefusal asked fault
