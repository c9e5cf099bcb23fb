use Rattle.std.proofs.Common.{length}
use Rattle.built_form.specs.Form.{lexemes_of, spelled_item}
use Rattle.built_form.proofs.Items.{EndsFile}
use Rattle.built_form.proofs.Progress.{Progress}
use Rattle.built_form.proofs.syntax.items.Given as goal

abbrev pub invariant-items : goal.invariant-items
invariant-items l = Progress spelled_item EndsFile l.items.items (lexemes_of l.source l.tokens) l.cursor

abbrev pub decreases-items : goal.decreases-items
decreases-items l = length l.cursor
