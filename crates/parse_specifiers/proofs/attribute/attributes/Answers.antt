use Rattle.c_grammar.specs.declared.terminal.Terminal.TheVariants as k
use Rattle.c_grammar.specs.Lexemes.{is}
use Rattle.parse_specifiers.specs.Parts.{gnu_attribute, bracket_attribute}
use Rattle.parse_input.proofs.Then.{falls_behind, falls_behind_two}
use Rattle.parse_specifiers.proofs.attribute.attributes.Goals as goal

pub each-smaller-in-Continue-branch-2 : goal.each-smaller-in-Continue-branch-2
each-smaller-in-Continue-branch-2 c =
    falls_behind_two c.args.room (is k.OpenBracket) (bracket_attribute c.place-place.result) c.in_ok-attribute.attribute.value c.in_ok-attribute.attribute.depth
    c.each.input c.take.new.self c.take-second.new.self c.bracket_attribute.new.input (cc) c.take.ensures.rest c.take-second.ensures.rest c.in_ok-attribute.ensures.reads

pub each-smaller : goal.each-smaller
each-smaller c =
    falls_behind c.args.room (is k.Attribute) (gnu_attribute c.place.result) c.in_ok-gnu.gnu.value c.in_ok-gnu.gnu.depth c.each.input c.take-word.new.self
    c.gnu_attribute.new.input (cc) c.take-word.ensures.rest c.in_ok-gnu.ensures.reads
