-- An escape is one value, and what follows it comes next.
use Rattle.c_text.proofs.Values.{escaped_value}
use Rattle.c_text.proofs.value.value_at.Goals as goal

pub returns-clause-value : goal.returns-clause-value
returns-clause-value c =
    escaped_value c.args.word.now c.args.at c.unwrap_or-value.result c.unwrap_or-length.result c.escape_value.result c.escape_length.result
    c.requires.inside c.if-word-at-ne92.false c.escape_value.ensures c.unwrap_or-value.ensures c.escape_length.ensures.value c.unwrap_or-length.ensures
