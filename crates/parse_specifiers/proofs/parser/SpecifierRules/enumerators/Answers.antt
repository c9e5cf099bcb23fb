use Rattle.c_grammar.specs.declared.terminal.Terminal.TheVariants as k
use Rattle.c_grammar.specs.Lexemes.{is}
use Rattle.parse_specifiers.specs.Parts.{enumerator}
use Rattle.parse_input.proofs.Then.{falls}
use Rattle.parse_specifiers.proofs.parser.SpecifierRules.enumerators.Goals as goal

pub each-smaller : goal.each-smaller
each-smaller g c =
    falls c.args.limits.room (is k.Comma) (enumerator c.each.input.scope) c.in_ok-enumerator.enumerator.value c.in_ok-enumerator.enumerator.depth
    c.each.input c.enumerator.new.input c.take-comma.new.self c.in_ok-enumerator.ensures.reads (cc) c.take-comma.ensures.rest
