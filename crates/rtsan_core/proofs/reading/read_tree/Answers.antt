-- What is so of the tokens, by what the grammar was found to read.
use Rattle.rtsan_core.proofs.Sources.{is_parsed, source_unread}
use Rattle.rtsan_core.proofs.reading.read_tree.Goals as goal

pub returns-in-Err-Bad-clause-refused : goal.returns-in-Err-Bad-clause-refused
returns-in-Err-Bad-clause-refused c =
    let refused = rw c.in-Err-Bad.field-0-is at c.in-Err-Bad.ensures.refused in
    let only = rw c.in-Err-Bad.field-0-is at c.in-Err-Bad.ensures.only_refused in
    let unparsed = rw c.in-Err-Bad.field-0-is at c.in-Err-Bad.ensures.not_parsed in
    λ file. source_unread file c.args.source.now c.args.tokens.now _ _ _ _ _ c.requires.short c.requires.tokens c.line_column-line.ensures.line c.line_column-line.ensures.column refused only unparsed

pub returns-in-Ok-clause-read : goal.returns-in-Ok-clause-read
returns-in-Ok-clause-read c = record {
  parsed = λ file. is_parsed file c.args.source.now c.args.tokens.now _ c.in-Ok.ensures.parsed c.in-Ok.ensures.only_parsed c.in-Ok.ensures.not_refused;
}
