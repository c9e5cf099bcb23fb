-- What is answered where a rule is read: what it gives, with what was seen by then, or the fault. Want of memory says nothing.
use Rattle.std.specs.Prelude.{◌≡◌, Result, Ok, Err, Option, Some, None}
use Rattle.type_rules.specs.Reading.{Read, Good, Bad}
use Rattle.type_rules.specs.Seen.{Seen}
use Rattle.typing_state.specs.declared.stop.Stop.{Stop}
use Rattle.typing_state.specs.declared.stop.Stop.TheVariants as stop

abbrev pub Gives : {A : Type 0} → Read A → Result A Stop → Seen → Type 0
Gives read (Ok a) after = read ≡ Good a after
Gives read (Err (stop.Fault number place)) after = read ≡ Bad number place
Gives read (Err stop.NoMemory) after = Unit {0}
