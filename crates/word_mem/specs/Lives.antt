-- What a life makes a pass hold.
use Rattle.word_mem.specs.declared.past.Life.{Life, Born, Did', Makes', Joins'}
use Rattle.word_mem.specs.Held.{Held, born, did, makes, joins}

abbrev pub held_of : Life → Held
held_of (Born n) = born n
held_of (Did' _ before event) = did (held_of before) event
held_of (Makes' _ before number) = makes (held_of before) number
held_of (Joins' _ before _ other) = joins (held_of before) (held_of other)
