-- What the program serves so far of the commands that the words may be (crate `command`).
use Rattle.std.specs.Prelude.{◌≡◌, ℕ, Bool, true, false, if◌then◌else◌, List, [], Option, Some, None, option_and_then, codes}
use Rattle.command.specs.declared.command.Command.{Command}
use Rattle.command.specs.declared.command.Job.{Job}
use Rattle.command.specs.declared.command.Job.TheVariants.{Check, Step, Run, Gen}
use Rattle.command.specs.Commands.{command_of}

-- `check` and `step` are served; `run` and `gen` are to come
abbrev pub is_served : Job → Bool
is_served Check = true
is_served Step = true
is_served Run = false
is_served (Gen count) = false

abbrev pub if_served : Command → Option Command
if_served command = if is_served command.job then Some command else None

-- the command that the words are, where they are one and it is served
unfoldable pub served_command : List (List ℕ) → Option Command
served_command words = option_and_then if_served (command_of words)

-- each option of `step` has the value that it has where it isn't given
pub record HasDefaults (command : Command) : Type 0 where
  pub options : command.options ≡ None
  pub suppressions : command.suppressions ≡ None
  pub entry : command.entry ≡ codes "main"
  pub args : command.args ≡ []
  pub schedule : command.schedule ≡ []
  pub events : command.events ≡ 10000000
  pub wait_limit : command.wait_limit ≡ 2000000
