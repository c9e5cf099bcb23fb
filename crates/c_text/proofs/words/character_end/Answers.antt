-- The character's length, and whether its closing quote follows.
use Rattle.std.proofs.Common.{sym, ◌∙◌, arith}
use Rattle.c_text.proofs.Characters.{only_character, open_character}
use Rattle.c_text.proofs.words.character_end.Goals as goal

pub returns-in-Some : goal.returns-in-Some
returns-in-Some c =
    only_character c.args.text.now c.in-Some.length (sym c.character_length.ensures.value ∙ c.in-Some.is) c.if-length-text.true c.if-text-length-eq39.true

pub returns-in_default : goal.returns-in_default
returns-in_default c =
    open_character c.args.text.now c.in-Some.length (sym c.character_length.ensures.value ∙ c.in-Some.is) (λ _. c.if-text-length-eq39.false)

pub returns-in_default-2 : goal.returns-in_default-2
returns-in_default-2 c =
    open_character c.args.text.now c.in-Some.length (sym c.character_length.ensures.value ∙ c.in-Some.is)
    (λ less _. let never : ⊥ = omega (arith, c.if-length-text.false, less) in never)
