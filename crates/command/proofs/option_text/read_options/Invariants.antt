use Rattle.std.proofs.Common.{◌≡◌, ◌≤◌, ◌+◌, ◌*◌, length}
use denote.Shadow.{shadow}
use denote.Text.{Utf8}
use Rattle.command.specs.Lists.{items_of}
use Rattle.command.specs.OptionText.{options_from, default_options}
use Rattle.command.proofs.option_text.read_options.Given as goal

abbrev pub invariant-items : goal.invariant-items
invariant-items l = record {
  utf8 : shadow (Utf8 l.rest);
  read : options_from default_options 1 (items_of 58 l.fn.text) ≡ options_from l.options l.number (items_of 58 l.rest);
  counted : 2 * l.number + length l.rest ≤ length l.fn.text + 2;
}

abbrev pub decreases-items : goal.decreases-items
decreases-items l = length l.rest
