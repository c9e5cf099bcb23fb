-- A name was read, or no name; and then the parts behind it, or not.
use Rattle.built_form.specs.Form.{spelled_named}
use Rattle.built_form.specs.Reading.{FindsNone, parts_of}
use Rattle.built_form.proofs.Parts.{any_err}
use Rattle.built_form.proofs.Finding.{both_found, first_none, second_none, fixed_found, fixed_none}
use Rattle.built_form.proofs.Items.{named_joins, name_found, name_none}
use Rattle.built_form.proofs.cursor.Cursor.named.Goals as goal

pub returns-in_err-name-clause-none : goal.returns-in_err-name-clause-none
returns-in_err-name-clause-none c =
    any_err (FindsNone (spelled_named (parts_of c.args.parts.now)) c.args.self.now) c.from_residual.result
    (first_none (named_joins (parts_of c.args.parts.now)) (name_none c.args.self.now c.in_err-name.ensures.none))

pub returns-in_err-parts-clause-none : goal.returns-in_err-parts-clause-none
returns-in_err-parts-clause-none c =
    any_err (FindsNone (spelled_named (parts_of c.args.parts.now)) c.args.self.now) c.from_residual-in_err-parts.result
    (second_none (named_joins (parts_of c.args.parts.now))
    (name_found c.args.self.now c.name.new.self c.in_ok-name.name c.in_ok-name.ensures.read)
    (fixed_none (parts_of c.args.parts.now) c.in_err-parts.ensures.none))

pub returns-clause-read : goal.returns-clause-read
returns-clause-read c =
    both_found (named_joins (parts_of c.args.parts.now))
    (name_found c.args.self.now c.name.new.self c.in_ok-name.name c.in_ok-name.ensures.read)
    (fixed_found (parts_of c.args.parts.now) c.in_ok-parts.ensures.read)
