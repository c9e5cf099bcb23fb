-- The table of the code has the rows of the library.
use Rattle.std.proofs.Common.{ap, sym, ◌∙◌}
use Rattle.std.specs.Prelude.{slice_get}
use Rattle.std.specs.Option.{option_map}
use Rattle.std.proofs.lemmas.Option.{slice_get-map}
use Rattle.core_unit.specs.Library.{seen}
use Rattle.warning_text.proofs.names.row_at.Goals as goal

pub returns : goal.returns
returns c =
    ap (option_map seen) c.row_of.ensures ∙ sym (slice_get-map seen c.library.result.now c.args.index)
    ∙ ap (λ rows. slice_get rows c.args.index) c.library.ensures
