use Rattle.std.specs.Prelude.{string_bytes}
use Rattle.command.specs.Generated.{call_line}
use Rattle.command.proofs.Numbered.{lines_more}
use Rattle.command.proofs.generated.append_calls.Goals as goal

pub calls-preserved : goal.calls-preserved
calls-preserved c =
    lines_more call_line c.calls.number c.args.count _ (string_bytes c.calls.text) (string_bytes c.append_call.new.text)
    c.calls-test.true c.calls.invariant c.in_ok-append_call.ensures
