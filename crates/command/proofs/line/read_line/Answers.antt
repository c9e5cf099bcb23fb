use Rattle.std.proofs.lemmas.List.{take_rest}
use Rattle.command.proofs.Collected.{line_at_end, line_behind, refused_before}
use Rattle.command.specs.Parts.{line_seen}
use Rattle.command.proofs.line.read_line.Goals as goal

pub returns-in-Err-clause-refused : goal.returns-in-Err-clause-refused
returns-in-Err-clause-refused c = refused_before c.args.words.now c.front_len-end.result c.in-Err.fault c.front_len-end.ensures.value c.in-Err.ensures.refused

pub returns-then-end-words-clause-value : goal.returns-then-end-words-clause-value
returns-then-end-words-clause-value c =
    line_at_end c.args.words.now c.front_len-end.result (line_seen c.in-Ok.line) c.front_len-end.ensures.value c.if-end-words.true c.in-Ok.ensures.value

pub returns-clause-value : goal.returns-clause-value
returns-clause-value c =
    line_behind c.args.words.now c.front_len-end.result (line_seen c.in-Ok.line) (line_seen c.push_words.new.self) c.front_len-end.ensures.value c.in-Ok.ensures.value (rw take_rest at c.in_ok-push_words.ensures.value)
