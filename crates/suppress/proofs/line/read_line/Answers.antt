use Rattle.std.proofs.Common.{sym, ◌∙◌}
use Rattle.std.proofs.lemmas.List.{take_rest}
use Rattle.suppress.proofs.LineLemmas.{cond_second, cond_third}
use Rattle.suppress.proofs.line.read_line.Goals as goal

pub returns-then-starts_with : goal.returns-then-starts_with
returns-then-starts_with c =
    (rw take_rest at c.stated_as.ensures) ∙ sym (cond_second _ _ _ _ _ (sym c.if-says_nothing.ensures) (sym c.if-starts_with.ensures.value))

pub returns-then-starts_with-2 : goal.returns-then-starts_with-2
returns-then-starts_with-2 c =
    (rw take_rest at c.stated_as-then-starts_with-2.ensures) ∙ sym (cond_third _ _ _ _ _ _ _ (sym c.if-says_nothing.ensures) (sym c.if-starts_with.ensures.value) (sym c.if-starts_with-2.ensures.value))
