-- The contents under the name are those that were read.
use Rattle.rtsan_core.proofs.Sources.{file_refused}
use Rattle.rtsan_core.proofs.reading.read_file.Goals as goal

pub returns-in-Err-clause-refused : goal.returns-in-Err-clause-refused
returns-in-Err-clause-refused g c =
    file_refused (g.F.Files.state c.args.files.now) (g.F.Files.state c.read_source.new.files) c.args.file.now c.in_ok-source.source c.in-Err.refusal c.in_ok-source.ensures.read (rw c.as_slice.ensures at c.in-Err.ensures.refused)

pub returns-in-Ok-check-clause-found : goal.returns-in-Ok-check-clause-found
returns-in-Ok-check-clause-found g c =
    let read = rw c.as_slice.ensures at c.in-Ok.ensures.read in
    record {
      contents = c.in_ok-source.ensures.read;
      ready = record {
        verdicts = c.in-Ok-check.ensures;
        short = c.in_ok-source.ensures.short;
        read = read;
      };
    }
