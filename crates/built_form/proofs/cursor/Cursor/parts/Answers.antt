-- The part is not the next, so the parts are not.
use Rattle.std.proofs.Common.{List}
use Rattle.built_form.specs.Form.{Lexeme, Spells}
use Rattle.built_form.specs.Reading.{parts_of}
use Rattle.built_form.proofs.Parts.{any_err, passed_none}
use Rattle.built_form.proofs.cursor.Cursor.parts.Goals as goal

pub returns-in_err-part-clause-none : goal.returns-in_err-part-clause-none
returns-in_err-part-clause-none c =
    any_err ((rest : List Lexeme) → Spells (parts_of c.args.parts.now) c.args.self.now rest → ⊥) c.from_residual.result
    (passed_none c.args.parts.now c.parts.part-index _ c.args.self.now c.parts.self c.parts-test.true c.parts.invariant
    c.in_err-part.ensures.none)
