-- An item more was read, or none could be, before the end of the file.
use Rattle.std.proofs.Common.{rules, ◌≡◌, [], ◌∷◌, ◌++◌, Err, ap, arith}
use Rattle.std.proofs.lemmas.Result.{err_from_is_err_and}
use Rattle.built_form.specs.declared.refusal.FormRefusal.TheVariants.{NotBuilt}
use Rattle.built_form.specs.Form.{lexemes_of, spelled_item}
use Rattle.built_form.proofs.Items.{EndsFile, not_ended, file_read, file_only, file_none, item_shorter}
use Rattle.built_form.proofs.Progress.{progress_step}
use Rattle.built_form.proofs.syntax.items.Goals as goal

pub returns-in_err-item-clause-none : goal.returns-in_err-item-clause-none
returns-in_err-item-clause-none c =
    λ e. let p = err_from_is_err_and c.from_residual.result c.from_residual.ensures.1 in
    let is = p.1 in
    let from = p.2 in
    let same : c.in_err-item.field-0.0 ≡ NotBuilt = cc in
    file_none c.items.items.items (lexemes_of c.args.source.now c.args.tokens.now) c.items.cursor c.items.invariant
    (λ e. let more_left = c.items-test.ensures.1 e in search rules) (c.in_err-item.ensures.none (ap (λ x. Err x) same))

pub items-smaller : goal.items-smaller
items-smaller c = item_shorter c.in_ok-item.item c.items.cursor c.item.new.cursor c.in_ok-item.ensures.read

pub items-preserved : goal.items-preserved
items-preserved c =
    let more : c.push.new.self.items ≡ c.items.items.items ++ c.in_ok-item.item ∷ [] = grind arith in
    rw more
    (progress_step spelled_item EndsFile c.items.items.items c.in_ok-item.item (lexemes_of c.args.source.now c.args.tokens.now)
    c.items.cursor c.item.new.cursor c.items.invariant c.in_ok-item.ensures.read
    (not_ended c.items.cursor (λ e. let more_left = c.items-test.ensures.1 e in search rules)))

pub returns-clause-read : goal.returns-clause-read
returns-clause-read c = file_read c.items.items.items (lexemes_of c.args.source.now c.args.tokens.now) c.items.cursor c.items.invariant (c.items-test.ensures.0 (search rules))

pub returns-clause-only : goal.returns-clause-only
returns-clause-only c = file_only c.items.items.items (lexemes_of c.args.source.now c.args.tokens.now) c.items.cursor c.items.invariant (c.items-test.ensures.0 (search rules))
