-- The first byte tells what may begin.
use Rattle.std.proofs.Common.{ℕ, ◌∷◌, sym, ◌∙◌, subst, get_or, List}
use Rattle.std.proofs.lemmas.List.{take_rest}
use Rattle.std.specs.List.{list_all}
use Rattle.c_text.specs.declared.form.Form.TheVariants.{White, Word, Stray}
use Rattle.c_text.specs.declared.form.StrayKind.TheVariants.{OpenQuote}
use Rattle.c_text.specs.declared.TokenKind.TheVariants.{Number, Character, Text}
use Rattle.c_text.specs.Bytes.{is_name_byte, is_number_byte}
use Rattle.c_text.specs.Forms.{form_of, when, closed_or, is_character_end, is_string_end, line_form, mark_form, name_kind}
use Rattle.c_text.specs.Spelling.{IsFront}
use Rattle.c_text.proofs.FirstBytes.{form_white, form_letter, form_digit, form_quote, form_double_quote, form_hash, form_mark, front_scan, front_byte, front_whole, front_any_line}
use Rattle.c_text.proofs.scan.scan.Goals as goal

pub returns-then-is_white-clause-front : goal.returns-then-is_white-clause-front
returns-then-is_white-clause-front c =
    front_byte (form_of c.args.alone) c.args.left.now White c.requires
    (λ o. form_white c.args.alone (get_or c.args.left.now 0 0) o (sym c.is_white.ensures ∙ c.if-is_white.true))

pub returns-then-is_letter-clause-front : goal.returns-then-is_letter-clause-front
returns-then-is_letter-clause-front c =
    let P : List ℕ → Type 0 = λ t. IsFront (λ word. when (list_all is_name_byte word) (Word (name_kind (get_or c.args.left.now 0 0 ∷ word)))) c.name.result.form c.name.result.length t in
    front_scan (form_of c.args.alone) (λ word. when (list_all is_name_byte word) (Word (name_kind (get_or c.args.left.now 0 0 ∷ word))))
    c.args.left.now c.name.result.form c.name.result.length c.requires
    (λ o. form_letter c.args.alone (get_or c.args.left.now 0 0) o (sym c.is_white.ensures ∙ c.if-is_white.false) (sym c.is_letter.ensures ∙ c.if-is_letter.true))
    (subst P (sym (take_rest c.args.left.now 1)) c.name.ensures) _ _ c.behind_one.ensures.form c.behind_one.ensures.length

pub returns-then-is_digit-clause-front : goal.returns-then-is_digit-clause-front
returns-then-is_digit-clause-front c =
    front_scan (form_of c.args.alone) (λ word. when (list_all is_number_byte word) (Word Number))
    c.args.left.now c.number.result.form c.number.result.length c.requires
    (λ o. form_digit c.args.alone (get_or c.args.left.now 0 0) o (sym c.is_white.ensures ∙ c.if-is_white.false) (sym c.is_letter.ensures ∙ c.if-is_letter.false) (sym c.is_digit.ensures ∙ c.if-is_digit.true))
    c.number.ensures _ _ c.behind_one-then-is_digit.ensures.form c.behind_one-then-is_digit.ensures.length

pub returns-then-first-eq39-clause-front : goal.returns-then-first-eq39-clause-front
returns-then-first-eq39-clause-front c =
    front_scan (form_of c.args.alone) (closed_or is_character_end (Word Character) (Stray OpenQuote))
    c.args.left.now c.character.result.form c.character.result.length c.requires
    (λ o. form_quote c.args.alone (get_or c.args.left.now 0 0) o c.if-first-eq39.true)
    c.character.ensures _ _ c.behind_one-then-first-eq39.ensures.form c.behind_one-then-first-eq39.ensures.length

pub returns-then-first-eq34-clause-front : goal.returns-then-first-eq34-clause-front
returns-then-first-eq34-clause-front c =
    front_scan (form_of c.args.alone) (closed_or is_string_end (Word Text) (Stray OpenQuote))
    c.args.left.now c.string.result.form c.string.result.length c.requires
    (λ o. form_double_quote c.args.alone (get_or c.args.left.now 0 0) o c.if-first-eq34.true)
    c.string.ensures _ _ c.behind_one-then-first-eq34.ensures.form c.behind_one-then-first-eq34.ensures.length

pub returns-then-first-eq35-clause-front : goal.returns-then-first-eq35-clause-front
returns-then-first-eq35-clause-front c =
    front_scan (form_of c.args.alone) (line_form c.args.alone)
    c.args.left.now c.line.result.form c.line.result.length c.requires
    (λ o. form_hash c.args.alone (get_or c.args.left.now 0 0) o c.if-first-eq35.true)
    c.line.ensures _ _ c.behind_one-then-first-eq35.ensures.form c.behind_one-then-first-eq35.ensures.length

pub returns-then-first-eq47-clause-front : goal.returns-then-first-eq47-clause-front
returns-then-first-eq47-clause-front c =
    front_any_line c.args.alone c.args.left.now c.slash.result.form c.slash.result.length c.requires c.slash.ensures.some c.if-first-eq47.true c.slash.ensures.front

pub returns-clause-front : goal.returns-clause-front
returns-clause-front c =
    front_whole (form_of c.args.alone) mark_form c.args.left.now c.mark.result.form c.mark.result.length c.requires c.mark.ensures.some
    (λ o rest split. form_mark c.args.alone (get_or c.args.left.now 0 0) o (sym c.is_white.ensures ∙ c.if-is_white.false) (sym c.is_letter.ensures ∙ c.if-is_letter.false) (sym c.is_digit.ensures ∙ c.if-is_digit.false)
    c.if-first-eq39.false c.if-first-eq34.false c.if-first-eq35.false c.if-first-eq47.false)
    c.mark.ensures.front
