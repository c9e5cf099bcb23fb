use Rattle.std.specs.Prelude.{string_bytes}
use Rattle.command.specs.Generated.{function_line}
use Rattle.command.proofs.Numbered.{lines_more}
use Rattle.command.proofs.generated.append_functions.Goals as goal

pub functions-preserved : goal.functions-preserved
functions-preserved c =
    lines_more function_line c.functions.number c.args.count _ (string_bytes c.functions.text) (string_bytes c.append_function.new.text)
    c.functions-test.true c.functions.invariant c.in_ok-append_function.ensures
