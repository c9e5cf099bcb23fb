use Rattle.std.proofs.Common.{drop}
use Rattle.built_form.specs.Reading.{parts_of}
use Rattle.built_form.proofs.Parts.{Passed}
use Rattle.built_form.proofs.cursor.Cursor.parts.Given as goal

abbrev pub invariant-parts : goal.invariant-parts
invariant-parts l = Passed (parts_of l.parts) (parts_of (drop l.part-index l.parts)) l.initial.self l.self
