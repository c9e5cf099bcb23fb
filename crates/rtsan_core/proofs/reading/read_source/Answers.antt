use Rattle.std.proofs.Common.{ap, Err}
use Rattle.rtsan_core.proofs.Sources.{source_long, some_longer}
use Rattle.rtsan_core.proofs.reading.read_source.Goals as goal
use Rattle.c_text.specs.declared.limits.TheConstants.{SOURCE_LIMIT}

pub returns-in-Err-Long-clause-refused : goal.returns-in-Err-Long-clause-refused
returns-in-Err-Long-clause-refused g c =
    let s = some_longer _ SOURCE_LIMIT (c.in-Err-Long.ensures.long (ap Err c.in-Err-Long.field-0-is)) in
    (s.0, s.1, source_long c.args.file.now s.0 s.2)
