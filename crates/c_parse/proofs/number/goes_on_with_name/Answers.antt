-- What follows from the reading of the longer source.
use Rattle.std.proofs.Common.{rules}
use Rattle.c_parse.proofs.Names.{goes_on, stops}
use Rattle.c_parse.proofs.number.goes_on_with_name.Goals as goal

pub returns-in-Ok : goal.returns-in-Ok
returns-in-Ok c =
    goes_on c.args.source.now c.as_slice.result.now c.args.before.now c.as_slice-2.result.now (search rules) (search rules) c.requires.within
    c.in-Ok.field-0 c.in-Ok.ensures

pub returns-in-Err-Refused : goal.returns-in-Err-Refused
returns-in-Err-Refused c =
    stops c.args.source.now c.as_slice.result.now c.args.before.now c.as_slice-2.result.now (search rules) (search rules) c.requires.within
    c.in-Err-Refused.field-0-0 c.in-Err-Refused.left (rw c.in-Err-Refused.field-0-is at c.in-Err-Refused.ensures)
