use Rattle.std.specs.Prelude.{string_bytes}
use Rattle.command.specs.Generated.{generated_text}
use Rattle.command.proofs.Numbered.{in_five_parts}
use Rattle.command.proofs.generated.generated_text.Goals as goal

pub returns : goal.returns
unfolding generated_text
returns c =
    in_five_parts (string_bytes c.new-text.result) (string_bytes c.append.new.text) (string_bytes c.append_functions.new.text)
    (string_bytes c.append-2.new.text) (string_bytes c.append_calls.new.text) (string_bytes c.append-3.new.text) _ _ _ _ _
    c.new-text.ensures.bytes c.in_ok-append.ensures c.in_ok-append_functions.ensures c.in_ok-append-2.ensures
    c.in_ok-append_calls.ensures c.in_ok-append-3.ensures
