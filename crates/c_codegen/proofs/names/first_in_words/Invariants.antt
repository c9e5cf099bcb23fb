-- The first missing function of those so far.
use Rattle.std.proofs.Common.{◌≡◌, take}
use Rattle.std.specs.Prelude.{flat_map}
use Rattle.c_codegen.specs.Names.{word_names}
use Rattle.c_codegen.specs.Refusals.{first_missing}
use Rattle.c_codegen.proofs.names.first_in_words.Given as goal

abbrev pub invariant-each : goal.invariant-each
invariant-each l = l.first ≡ first_missing l.unit (flat_map word_names (take l.word-index l.words))
