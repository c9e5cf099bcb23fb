-- The words at the start of a run.
use Rattle.std.proofs.Common.{◌≡◌, refl}
use Rattle.std.specs.Prelude.{slice_set, replicate}
use Rattle.built_model.specs.Laws.{table_words}
use Rattle.built_model.specs.Replay.{opening_words, break_word, heap_start}

pub opening_is : slice_set (replicate table_words 0) break_word heap_start ≡ opening_words
unfolding opening_words
opening_is = refl
