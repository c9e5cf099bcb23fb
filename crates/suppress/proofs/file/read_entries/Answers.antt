use Rattle.std.proofs.Common.{◌++◌, sym, ◌∙◌, ap, Option}
use Rattle.std.proofs.lemmas.List.{append-nil}
use Rattle.std.specs.Option.{option_to_list}
use Rattle.std.proofs.lemmas.Result.{err_from_is_err_and}
use Rattle.suppress.specs.declared.suppressions.Suppression.{Suppression}
use Rattle.suppress.proofs.FileLemmas.{ReadSoFar_more, NoFault_at_end, suppressions_at_end, IsRefusal_at_next}
use Rattle.suppress.proofs.file.read_entries.Goals as goal

pub returns-in_err-entry-clause-refused : goal.returns-in_err-entry-clause-refused
returns-in_err-entry-clause-refused c =
    let p = err_from_is_err_and c.from_residual.result c.from_residual.ensures.1 in
    let so_far = rw c.in-Some.ensures.first at c.loop-line.invariant in
    rw (p.1, p.2) (IsRefusal_at_next _ _ _ _ _ c.in_err-entry.field-0.0 so_far c.in_err-entry.ensures.refused)

pub loop-line-preserved-in_ok-push : goal.loop-line-preserved-in_ok-push
loop-line-preserved-in_ok-push c =
    ReadSoFar_more _ _ _ _ _ _ (rw c.in-Some.ensures.first at c.loop-line.invariant) c.in_ok-entry.ensures.accepted
    (c.in_ok-push.ensures.items ∙ ap (λ (o : Option Suppression). c.loop-line.entries.items ++ option_to_list o) (sym c.in-Some-2.is ∙ c.in_ok-entry.ensures.entry))

pub loop-line-preserved : goal.loop-line-preserved
loop-line-preserved c =
    ReadSoFar_more _ _ _ _ _ _ (rw c.in-Some.ensures.first at c.loop-line.invariant) c.in_ok-entry.ensures.accepted
    (sym (append-nil c.loop-line.entries.items) ∙ ap (λ (o : Option Suppression). c.loop-line.entries.items ++ option_to_list o) (sym c.in_default-2.is ∙ c.in_ok-entry.ensures.entry))

pub returns-clause-accepted : goal.returns-clause-accepted
returns-clause-accepted c = NoFault_at_end _ _ _ _ c.loop-line.invariant c.in_default.ensures.first

pub returns-clause-suppressions : goal.returns-clause-suppressions
returns-clause-suppressions c = suppressions_at_end _ _ _ _ c.loop-line.invariant c.in_default.ensures.first
