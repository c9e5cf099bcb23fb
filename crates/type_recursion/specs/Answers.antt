-- What is answered where a rule is read into a list that the caller holds.
use Rattle.std.specs.Prelude.{◌≡◌, Result, Ok, Err}
use Rattle.type_rules.specs.Reading.{Read, Good, Bad}
use Rattle.type_rules.specs.Seen.{Seen}
use Rattle.typing_state.specs.declared.stop.Stop.{Stop}
use Rattle.typing_state.specs.declared.stop.Stop.TheVariants as stop

abbrev pub GivesInto : {A U : Type 0} → Read A → Result U Stop → A → Seen → Type 0
GivesInto read (Ok _) a after = read ≡ Good a after
GivesInto read (Err (stop.Fault number place)) a after = read ≡ Bad number place
GivesInto read (Err stop.NoMemory) a after = Unit {0}
