use Rattle.std.proofs.Common.{◌∙◌, suc}
use Rattle.mcode.specs.Machine.{entry_of}
use Rattle.machine_code.proofs.Shown.{enters_alike}
use Rattle.machine_code.proofs.thread.Thread.shown_through.Goals as goal

pub returns-in-FunctionPointer-clause-event : goal.returns-in-FunctionPointer-clause-event
returns-in-FunctionPointer-clause-event c =
    let t = c.args.self.now in let function = c.in-FunctionPointer.function in
    rw c.in-FunctionPointer.is (c.shown_entry.ensures.event ∙ enters_alike t function c.args.site (suc t.pc) 1 (entry_of c.args.code.now function))
