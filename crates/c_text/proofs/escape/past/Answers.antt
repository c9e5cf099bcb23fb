use Rattle.std.proofs.Common.{◌∙◌, ap, not}
use Rattle.c_text.proofs.Numbers.{past_escape}
use Rattle.c_text.proofs.escape.past.Goals as goal

pub returns-clause-next : goal.returns-clause-next
returns-clause-next c =
    past_escape c.args.word.now c.args.at c.unwrap_or.result c.escape_value.result c.escape_length.result c.requires c.if-word-at-ne92.false
    c.escape_value.ensures (c.is_none.ensures ∙ ap not c.if-is_none.false) c.escape_length.ensures.value c.unwrap_or.ensures
