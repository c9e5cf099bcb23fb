-- What is so of the source, by what its spelling was found to be.
use Rattle.rtsan_core.proofs.Sources.{is_spelled, source_misspelled}
use Rattle.rtsan_core.proofs.reading.read_tokens.Goals as goal

pub returns-in-Err-Bad-clause-refused : goal.returns-in-Err-Bad-clause-refused
returns-in-Err-Bad-clause-refused c =
    let first = rw c.in-Err-Bad.field-0-is at c.in-Err-Bad.ensures.fault in
    let only = rw c.in-Err-Bad.field-0-is at c.in-Err-Bad.ensures.only_fault in
    let unspelled = rw c.in-Err-Bad.field-0-is at c.in-Err-Bad.ensures.unspelled in
    λ file. source_misspelled file c.args.source.now _ _ _ _ c.requires c.line_column-line.ensures.line c.line_column-line.ensures.column first only unspelled

pub returns-in-Ok-clause-read : goal.returns-in-Ok-clause-read
returns-in-Ok-clause-read c = record {
  spelled = λ file. is_spelled file c.args.source.now _ c.in-Ok.ensures.spelled c.in-Ok.ensures.only_spelled c.in-Ok.ensures.no_fault;
  within = c.in-Ok.ensures.within;
  few = c.in-Ok.ensures.few;
  ordered = c.in-Ok.ensures.ordered;
}
