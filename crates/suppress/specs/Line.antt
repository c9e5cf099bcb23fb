-- The code's value for what a line says.
use Rattle.suppress.specs.declared.line.Line.{Line}
use Rattle.suppress.specs.declared.line.Line.TheVariants.{Silent, States, Faulty}
use Rattle.suppress.specs.Meaning.{Meaning, silent, states, faulty}

-- The meaning that the value stands for.
abbrev pub meaning_in : Line → Meaning
meaning_in Silent = silent
meaning_in (States kind pattern) = states kind pattern.now
meaning_in (Faulty number) = faulty number
