-- Behind `include` one of the headers is named.
use Rattle.std.proofs.Common.{◌&&◌, sym, ◌∙◌, ap, drop}
use Rattle.std.proofs.lemmas.List.{take_rest}
use Rattle.std.specs.List.{list_any}
use Rattle.c_text.specs.Forms.{names_header, past_blanks}
use Rattle.c_text.specs.Words.{headers}
use Rattle.c_text.proofs.table.is_include.Goals as goal

pub returns : goal.returns
returns c =
    c.names_one_of.ensures
    ∙ ap (λ t. list_any (names_header t) headers) (c.past_blanks.ensures ∙ ap past_blanks (take_rest c.args.text.now 7))
    ∙ ap (λ b. b && list_any (names_header (past_blanks (drop 7 c.args.text.now))) headers) (sym c.if-not-starts_with.false ∙ c.starts_with.ensures.value)
