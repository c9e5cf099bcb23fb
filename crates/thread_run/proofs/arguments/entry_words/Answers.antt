use Rattle.std.proofs.Common.{refl, ◌∙◌, sym, ap, subst, arith, length, ◌≤◌, ◌≡◌, Some, None, slice_get}
use Rattle.std.proofs.lemmas.Bool.{ltb-true}
use Rattle.std.proofs.lemmas.Option.{slice_get_past, slice_get_read}
use Rattle.std.proofs.lemmas.Result.{IfOk-weaker}
use Rattle.src_model.specs.Runs.{argument_words}
use Rattle.thread_run.proofs.Calls.{few_at, words_many, none_here}
use Rattle.thread_run.proofs.arguments.entry_words.Goals as goal

pub returns-in-Some-clause-few : goal.returns-in-Some-clause-few
returns-in-Some-clause-few c =
    let functions : c.as_slice-functions.result.now ≡ c.world.inside.unit.now.functions = c.as_slice-functions.ensures ∙ ap (λ u. u.functions) c.parts.ensures.parts in
    let found : slice_get c.as_slice-functions.result.now c.entry.result ≡ Some c.in-Some.info.now =
    slice_get_read c.as_slice-functions.result.now (length c.as_slice-functions.result.now) c.entry.result c.in-Some.info.now refl (ltb-true _ _ (sym c.in-Some.ensures.lookup.0)) c.in-Some.ensures.lookup.1 in
    let at : slice_get c.world.inside.unit.now.functions c.entry.result ≡ Some c.in-Some.info.now = subst (λ fs. slice_get fs c.entry.result ≡ Some c.in-Some.info.now) functions found in
    let few = few_at c.world.inside.unit.now c.parts.ensures.lawful c.entry.result c.in-Some.info.now at in
    IfOk-weaker c.argument_words.result (λ words. words.items ≡ argument_words c.as_slice.result.now c.args.arguments.now) (λ words. length words.items ≤ 16)
    (λ words e. let many = words_many c.as_slice.result.now c.args.arguments.now in omega (arith, few, many, ap length e, ap length c.as_slice.ensures))
    c.argument_words.ensures

pub returns-in-None-clause-words : goal.returns-in-None-clause-words
returns-in-None-clause-words c =
    let functions : c.as_slice-functions.result.now ≡ c.args.world.now.unit.functions = c.as_slice-functions.ensures ∙ ap (λ u. u.functions) c.parts.ensures.parts ∙ ap (λ w. w.unit.functions) c.world.view_is in
    let entry : c.entry.result ≡ c.args.world.now.code.entry = c.entry.ensures ∙ ap (λ w. w.code.entry) c.world.view_is in
    let none : slice_get c.as_slice-functions.result.now c.entry.result ≡ None = slice_get_past c.as_slice-functions.result.now c.entry.result c.in-None.ensures.lookup.3 in
    none_here c.args.world.now c.args.arguments.now c.new.result.items c.new.ensures.items (subst (λ n. slice_get c.args.world.now.unit.functions n ≡ None) entry (subst (λ fs. slice_get fs c.entry.result ≡ None) functions none))
