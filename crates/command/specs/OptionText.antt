-- The option text: items between `:` (58).
use Rattle.std.specs.Prelude.{ℕ, ◌+◌, true, false, if◌then◌else◌, List, [], ◌∷◌, codes, Option, Some, None, Result, Ok, Err}
use Rattle.std.specs.Str.{bytes_eq}
use Rattle.command.specs.declared.option_text.Options.{Options}
use Rattle.command.specs.declared.option_text.BadItem.{BadItem}
use Rattle.command.specs.declared.option_text.Setting.{Setting}
use Rattle.command.specs.declared.option_text.Setting.TheVariants.{HaltOnError, PrintStatsOnExit}

-- an item, by its whole text
unfoldable pub item_of : List ℕ → Option Setting
item_of text =
    if bytes_eq text (codes "halt_on_error=true") then Some (HaltOnError true)
    else (if bytes_eq text (codes "halt_on_error=1") then Some (HaltOnError true)
    else (if bytes_eq text (codes "halt_on_error=false") then Some (HaltOnError false)
    else (if bytes_eq text (codes "halt_on_error=0") then Some (HaltOnError false)
    else (if bytes_eq text (codes "print_stats_on_exit=true") then Some (PrintStatsOnExit true)
    else (if bytes_eq text (codes "print_stats_on_exit=1") then Some (PrintStatsOnExit true)
    else (if bytes_eq text (codes "print_stats_on_exit=false") then Some (PrintStatsOnExit false)
    else (if bytes_eq text (codes "print_stats_on_exit=0") then Some (PrintStatsOnExit false)
    else None)))))))

-- an item overrides what was set before
abbrev pub with_item : Options → Setting → Options
with_item options (HaltOnError value) = record { halt_on_error = value; print_stats_on_exit = options.print_stats_on_exit }
with_item options (PrintStatsOnExit value) = record { halt_on_error = options.halt_on_error; print_stats_on_exit = value }

abbrev pub default_options : Options
default_options = record { halt_on_error = true; print_stats_on_exit = false }

-- an item, and what those behind it make of what is set so far and of their first number
abbrev pub options_with : Option Setting → Options → ℕ → (Options → ℕ → Result Options BadItem) → Result Options BadItem
options_with None options number later = Err (record { number = number })
options_with (Some setting) options number later = later (with_item options setting) (number + 1)

-- Items behind those that set `options`, where the first of them has this number: a later item overrides an earlier
-- one, and the first bad one is named.
abbrev pub options_from : Options → ℕ → List (List ℕ) → Result Options BadItem
options_from options number [] = Ok options
options_from options number (item ∷ items) =
    options_with (item_of item) options number (λ more next. options_from more next items)
