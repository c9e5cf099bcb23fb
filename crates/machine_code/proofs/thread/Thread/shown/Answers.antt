use Rattle.std.proofs.Common.{◌∙◌, suc}
use Rattle.mcode.specs.Machine.{entry_of}
use Rattle.machine_code.proofs.Shown.{enters_alike}
use Rattle.machine_code.proofs.thread.Thread.shown.Goals as goal

pub returns-in-EnterFunction-clause-event : goal.returns-in-EnterFunction-clause-event
returns-in-EnterFunction-clause-event c =
    let t = c.args.self.now in let function = c.in-EnterFunction.function in
    rw c.in-EnterFunction.is (c.shown_entry.ensures.event ∙ enters_alike t function c.in-EnterFunction.site (suc t.pc) 0 (entry_of c.args.code.now function))
