use Rattle.std.proofs.Common.{ℕ, List, [], ◌∷◌, sym, ◌∙◌, subst}
use Rattle.word_mem.specs.Story.{IsKept}
use Rattle.word_mem.specs.Moves.{first_view}
use Rattle.word_mem.proofs.Kept.{kept_first}
use Rattle.word_table.proofs.memory.TableWords.new.Goals as goal

pub of_words-requires : goal.of_words-requires
of_words-requires c =
    let opening = c.of.result.value in
    let first = kept_first opening in
    subst (λ (ws : List ℕ). IsKept opening ws (first_view opening ∷ [])) (c.of.ensures ∙ sym c.as_slice.ensures) (first.0, first.2)
