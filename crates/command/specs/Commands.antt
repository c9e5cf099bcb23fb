-- The command: what the words after the program's name ask for.
--
--   check FILE
--   step FILE  [--options TEXT] [--suppressions FILE] [--entry NAME] [--args N,..] [--schedule N,..]
--              [--events N] [--wait-limit N]
--   run FILE   [--options TEXT] [--suppressions FILE] [--entry NAME] [--args N,..]
--              [--events N] [--wait-limit N] [--workers N]
--   gen N
use Rattle.std.specs.Prelude.{ℕ, Bool, false, not, ◌==◌, if◌then◌else◌, List, [], ◌∷◌, length, codes, Option, Some, None, option_map, option_and_then}
use Rattle.std.specs.Str.{bytes_eq}
use Rattle.std.specs.List.{list_all}
use Rattle.command.specs.declared.command.Command.{Command}
use Rattle.command.specs.declared.command.Job.{Job}
use Rattle.command.specs.declared.command.Job.TheVariants.{Check, Step, Run, Gen}
use Rattle.command.specs.declared.settings.Texts.{Texts}
use Rattle.command.specs.declared.settings.Limits.{Limits}
use Rattle.command.specs.declared.settings.Lists.{Lists}
use Rattle.command.specs.Forms.{number_within}
use Rattle.command.specs.Lines.{line_of}
use Rattle.command.specs.Settings.{texts_in, limits_in, lists_in}

-- whether the job takes the option of this name
unfoldable pub takes : Job → List ℕ → Bool
takes Check name = false
takes Step name = not (bytes_eq name (codes "--workers"))
takes Run name = not (bytes_eq name (codes "--schedule"))
takes (Gen count) name = false

abbrev pub takes_all : Job → List (List ℕ × List ℕ) → Bool
takes_all job given = list_all (λ pair. takes job pair.0) given

-- the job that a word and FILE or N name
abbrev pub job_of : List ℕ → List ℕ → Option Job
job_of word operand =
    if length operand == 0 then None
    else (if bytes_eq word (codes "check") then Some Check
    else (if bytes_eq word (codes "step") then Some Step
    else (if bytes_eq word (codes "run") then Some Run
    else (if bytes_eq word (codes "gen") then option_map (λ n. Gen n) (number_within 1 4000 operand)
    else None))))

-- the name of the file, which `gen` has none of
abbrev pub file_of : Job → List ℕ → List ℕ
file_of (Gen count) operand = []
file_of Check operand = operand
file_of Step operand = operand
file_of Run operand = operand

abbrev pub command_with : Job → List ℕ → Texts → Limits → Lists → Command
command_with job file texts limits lists = record {
  job = job;
  file = file;
  options = texts.options;
  suppressions = texts.suppressions;
  entry = texts.entry;
  args = lists.args;
  schedule = lists.schedule;
  events = limits.events;
  wait_limit = limits.wait_limit;
  workers = limits.workers;
}

abbrev pub if_taken : Job → List ℕ → List (List ℕ × List ℕ) → Option Command
if_taken job file given =
    if takes_all job given then option_and_then (λ texts. option_and_then (λ limits. option_map (command_with job file texts limits) (lists_in given)) (limits_in given)) (texts_in given) else None

-- exactly two positional words
abbrev pub command_from : List (List ℕ) → List (List ℕ × List ℕ) → Option Command
command_from (word ∷ operand ∷ []) given = option_and_then (λ job. if_taken job (file_of job operand) given) (job_of word operand)
command_from words given = None

-- the command that the words are, if they are one
abbrev pub command_of : List (List ℕ) → Option Command
command_of words = option_and_then (λ line. command_from line.words line.given) (line_of words)
